use Rattle.std.proofs.Common.{ℕ, Option, IfNone, IfSome, ap, sym, subst, ◌∙◌, refl, arith}
use Rattle.std.proofs.lemmas.Bool.{false≢true}
use Rattle.dump_rules.specs.declared.gens.GenMark.{GenMark}
use Rattle.dump_rules.specs.Gens.{IsMissing, IsPlaceOf}
use Rattle.dump_rules.proofs.Dumped.{none_of, offset_shown, the_mark}
use Rattle.dump_rules.proofs.Marking.{ascend}
use Rattle.dump_rules.proofs.multis.shows_offset.Goals as goal

pub place_of-requires : goal.place_of-requires
place_of-requires g c = ascend c.args.gens.now c.requires.0.rise

pub returns-then-not-is_given_to : goal.returns-then-not-is_given_to
returns-then-not-is_given_to g c =
    let gens = c.args.gens.now in
    let at = subst (λ (o : Option ℕ). IfSome o (IsPlaceOf gens c.args.multi)) c.in-Some.is c.place_of.ensures.some in (
      λ t place offset members gives p.
          let is = the_mark g.b gens c.requires.0 place c.args.multi offset members gives c.in-Some.k _ at.0 (at.1 _) in
          let low = gives.within in
          let same = ap (λ (x : GenMark). x.place) is in
          let upto = c.requires.1 in
          absurd (false≢true (sym c.if-not-is_given_to.true ∙ c.is_given_to.ensures.1 (ap (λ (x : GenMark). x.ok) is ∙ gives.ok, omega arith))),
      λ s. refl,
    )

pub returns-else-not-is_given_to : goal.returns-else-not-is_given_to
returns-else-not-is_given_to g c =
    let gens = c.args.gens.now in
    let at = subst (λ (o : Option ℕ). IfSome o (IsPlaceOf gens c.args.multi)) c.in-Some.is c.place_of.ensures.some in
    let given = c.is_given_to.ensures.0 c.if-not-is_given_to.false in
    let i = offset_shown g.b gens c.requires.0 c.in-Some.k _ c.args.multi c.args.multi_place c.args.at c.args.page c.args.bytes.now at.0 at.1 c.requires.1 given.0 given.1 in
    (λ t. i.0 (c.shows_offset_of.ensures.0 t), λ s. c.shows_offset_of.ensures.1 (i.1 s))

pub returns-in-None : goal.returns-in-None
returns-in-None g c =
    let missing = subst (λ (o : Option ℕ). IfNone o (IsMissing c.args.gens.now c.args.multi)) c.in-None.is c.place_of.ensures.none in
    (λ t place offset members gives p. absurd (none_of g.b c.args.gens.now c.requires.0 place c.args.multi offset members gives missing), λ s. refl)
