use Rattle.std.proofs.Common.{◌≡◌, ◌<◌, List, Some, length, get_or, refl, ap, sym, subst, ◌∙◌, arith}
use Rattle.std.specs.List.{slice_get}
use Rattle.std.proofs.lemmas.Bool.{false≢true}
use Rattle.std.proofs.lemmas.Option.{same_Some, slice_get_read, slice_get_within}
use Rattle.tx_events.specs.declared.multi.Member.{Member}
use Rattle.tx_events.specs.declared.multi.MultiEvent.{MultiEvent}
use Rattle.tx_events.specs.declared.multi.MultiEvent.TheVariants as multis
use Rattle.multi_rules.specs.Telling.{AreToldSo}
use Rattle.multi_rules.proofs.Answering.{given_iff, given_late, never_given}
use Rattle.multi_rules.proofs.verdicts.tells_given.Goals as goal

pub returns-then-place-pinned : goal.returns-then-place-pinned
returns-then-place-pinned g c = (
  λ f. absurd (false≢true f),
  λ s. absurd (given_late c.args.places.now.base c.args.places.now.events g.of c.args.told.now c.args.multis.now.events c.args.multi c.in-Some.place c.args.pinned c.in-Some.ensures.some c.if-place-pinned.true s),
)

pub offset_bounds-events-place : goal.offset_bounds-events-place
offset_bounds-events-place g c =
    let only = c.in-Some.ensures.some in
    let low = slice_get_within c.args.multis.now.events c.in-Some.place (multis.Gen only.0.0 c.args.multi only.0.1 only.0.2) only.0.3 in
    let same = ap (λ (t : List MultiEvent). length t) c.events.ensures.value in
    omega arith

pub bounds-events-place : goal.bounds-events-place
bounds-events-place g c =
    let only = c.in-Some.ensures.some in
    let low = slice_get_within c.args.multis.now.events c.in-Some.place (multis.Gen only.0.0 c.args.multi only.0.1 only.0.2) only.0.3 in
    let same = ap (λ (t : List MultiEvent). length t) c.events.ensures.value in
    omega arith

pub returns-in-Gen : goal.returns-in-Gen
returns-in-Gen g c =
    let base = c.args.places.now.base in
    let h = c.args.places.now.events in
    let all = c.args.multis.now.events in
    let told = c.args.told.now in
    let only = c.in-Some.ensures.some in
    let place = c.in-Some.place in
    let e : MultiEvent = c.index-events-place.result in
    let low : place < length all = slice_get_within all place (multis.Gen only.0.0 c.args.multi only.0.1 only.0.2) only.0.3 in
    let is = subst (λ (t : List MultiEvent). e ≡ get_or t place e) c.events.ensures.value c.index-events-place.is in
    let at : slice_get all place ≡ Some e = slice_get_read all (length all) place e refl low is in
    let i = given_iff base h g.of told all c.args.multi place c.args.pinned c.in-Gen.by c.in-Gen.multi c.in-Gen.offset c.in-Gen.members only c.if-place-pinned.false (at ∙ ap (λ (x : MultiEvent). Some x) c.in-Gen.is) in (
      λ t. i.0 (subst (λ (m : List Member). AreToldSo base h g.of told m) c.items.ensures (c.tells.ensures.0 t)),
      λ s. c.tells.ensures.1 (subst (λ (m : List Member). AreToldSo base h g.of told m) (sym c.items.ensures) (i.1 s)),
    )

pub returns-in_default : goal.returns-in_default
returns-in_default g c =
    let all = c.args.multis.now.events in
    let only = c.in-Some.ensures.some in
    let place = c.in-Some.place in
    let e : MultiEvent = c.index-events-place.result in
    let low : place < length all = slice_get_within all place (multis.Gen only.0.0 c.args.multi only.0.1 only.0.2) only.0.3 in
    let is = subst (λ (t : List MultiEvent). e ≡ get_or t place e) c.events.ensures.value c.index-events-place.is in
    let at : slice_get all place ≡ Some e = slice_get_read all (length all) place e refl low is in (
      λ f. absurd (false≢true f),
      λ s. absurd (c.in_default.not-Gen only.0.0 c.args.multi only.0.1 only.0.2 (same_Some e (multis.Gen only.0.0 c.args.multi only.0.1 only.0.2) (sym at ∙ only.0.3))),
    )

pub returns-in-None : goal.returns-in-None
returns-in-None g c = (
  λ f. absurd (false≢true f),
  λ s. absurd (never_given c.args.places.now.base c.args.places.now.events g.of c.args.told.now c.args.multis.now.events c.args.multi c.args.pinned c.in-None.ensures.none s),
)
