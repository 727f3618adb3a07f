use Rattle.std.proofs.Common.{ap, sym, ◌∙◌}
use Rattle.std.specs.BTreeMap.{get}
use Rattle.std.specs.Ordering.{nat_cmp}
use Rattle.dump_rules.proofs.Cutoffs.{noted_before, noted_now, some_of}
use Rattle.dump_rules.proofs.cuts.note_first.Goals as goal

pub returns-then-contains_key : goal.returns-then-contains_key
returns-then-contains_key c = λ base h is f.
    let there = some_of (get nat_cmp c.args.firsts.now c.args.cutoff) (sym c.contains_key.ensures ∙ c.if-contains_key.true) in
    noted_before base h c.args.place there.0 c.args.firsts.now (ap (get nat_cmp c.args.firsts.now) (sym is) ∙ there.1) f

pub returns : goal.returns
returns c = λ base h is f.
    noted_now base h c.args.cutoff c.args.place c.args.firsts.now c.insert.new.self is (sym c.contains_key.ensures ∙ c.if-contains_key.false) c.in_ok-insert.ensures.updates.0 f
