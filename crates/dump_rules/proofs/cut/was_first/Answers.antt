use Rattle.std.proofs.Common.{◌≡◌, Some, None, sym, ◌∙◌}
use Rattle.std.proofs.lemmas.Bool.{false≢true}
use Rattle.std.specs.BTreeMap.{get}
use Rattle.std.specs.Ordering.{nat_cmp}
use Rattle.dump_rules.proofs.Cutoffs.{first_upto, never_first}
use Rattle.dump_rules.proofs.cut.was_first.Goals as goal

pub returns-in-Some : goal.returns-in-Some
returns-in-Some c = λ base h firsts low.
    let e : get nat_cmp c.args.firsts.now c.args.cutoff ≡ Some c.in-Some.first = sym (c.copied.ensures ∙ c.get.ensures.value) ∙ c.in-Some.is in
    let i = first_upto base h c.args.firsts.now c.args.place c.args.cutoff firsts low c.in-Some.first e in
    (λ t. i.0 (c.is_upto.ensures.0 t), λ s. c.is_upto.ensures.1 (i.1 s))

pub returns-in-None : goal.returns-in-None
returns-in-None c = λ base h firsts low.
    let e : get nat_cmp c.args.firsts.now c.args.cutoff ≡ None = sym (c.copied.ensures ∙ c.get.ensures.value) ∙ c.in-None.is in
    (λ t. absurd (false≢true t), λ s. absurd (never_first base h c.args.firsts.now c.args.place c.args.cutoff firsts low e s))
