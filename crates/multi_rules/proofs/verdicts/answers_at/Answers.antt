use Rattle.std.proofs.Common.{◌≡◌, ◌<◌, List, Some, length, get_or, map, inl, inr, refl, ap, sym, subst, ◌∙◌, ⊎_elim, arith}
use Rattle.std.specs.List.{slice_get}
use Rattle.std.proofs.lemmas.Bool.{false≢true}
use Rattle.std.proofs.lemmas.List.{length-map}
use Rattle.std.proofs.lemmas.Option.{same_Some, slice_get_read, slice_get_within}
use Rattle.tx_events.specs.declared.multi.MultiEvent.{MultiEvent}
use Rattle.tx_events.specs.declared.multi.MultiEvent.TheVariants as multis
use Rattle.tx_events.specs.Multis.{multi_by}
use Rattle.multi_rules.specs.Telling.{AreGivenSo, AreRecordedSo}
use Rattle.multi_rules.proofs.Answering.{pinned_iff, whose}
use Rattle.multi_rules.proofs.verdicts.answers_at.Goals as goal

pub returns-then-tells_given : goal.returns-then-tells_given
returns-then-tells_given g c =
    let all = c.args.multis.now.events in
    let place = c.args.place in
    let e : MultiEvent = c.index-events-place.result in
    let its = c.requires.1.1.1.0 in
    let size = length-map all multi_by in
    let far = slice_get_within (map multi_by all) place g.of.by its in
    let low : place < length all = omega arith in
    let is = subst (λ (t : List MultiEvent). e ≡ get_or t place e) c.events.ensures.value c.index-events-place.is in
    let at : slice_get all place ≡ Some (multis.Hold c.in-Hold.by c.in-Hold.multi) = slice_get_read all (length all) place e refl low is ∙ ap (λ (x : MultiEvent). Some x) c.in-Hold.is in
    let i = pinned_iff c.args.places.now.base c.args.places.now.events g.of c.args.told.now all place c.in-Hold.multi c.in-Hold.by at (whose all place (multis.Hold c.in-Hold.by c.in-Hold.multi) g.of.by at its) in
    (λ t. i.0 (inl (c.tells_given.ensures.0 c.if-tells_given.true)), λ a. c.if-tells_given.true)

pub returns-else-tells_given : goal.returns-else-tells_given
returns-else-tells_given g c =
    let base = c.args.places.now.base in
    let h = c.args.places.now.events in
    let all = c.args.multis.now.events in
    let place = c.args.place in
    let e : MultiEvent = c.index-events-place.result in
    let its = c.requires.1.1.1.0 in
    let size = length-map all multi_by in
    let far = slice_get_within (map multi_by all) place g.of.by its in
    let low : place < length all = omega arith in
    let is = subst (λ (t : List MultiEvent). e ≡ get_or t place e) c.events.ensures.value c.index-events-place.is in
    let at : slice_get all place ≡ Some (multis.Hold c.in-Hold.by c.in-Hold.multi) = slice_get_read all (length all) place e refl low is ∙ ap (λ (x : MultiEvent). Some x) c.in-Hold.is in
    let i = pinned_iff base h g.of c.args.told.now all place c.in-Hold.multi c.in-Hold.by at (whose all place (multis.Hold c.in-Hold.by c.in-Hold.multi) g.of.by at its) in (
      λ t. i.0 (inr (c.tells_recorded.ensures.0 t)),
      λ a. ⊎_elim
          (λ (s : AreGivenSo base h g.of c.args.told.now all place c.in-Hold.multi). absurd (false≢true (sym c.if-tells_given.false ∙ c.tells_given.ensures.1 s)))
          (λ (s : AreRecordedSo base h g.of c.args.told.now c.in-Hold.multi). c.tells_recorded.ensures.1 s)
          (i.1 a),
    )

pub returns-in_default : goal.returns-in_default
returns-in_default g c =
    let all = c.args.multis.now.events in
    let place = c.args.place in
    let e : MultiEvent = c.index-events-place.result in
    let its = c.requires.1.1.1.0 in
    let size = length-map all multi_by in
    let far = slice_get_within (map multi_by all) place g.of.by its in
    let low : place < length all = omega arith in
    let is = subst (λ (t : List MultiEvent). e ≡ get_or t place e) c.events.ensures.value c.index-events-place.is in
    let at : slice_get all place ≡ Some e = slice_get_read all (length all) place e refl low is in (
      λ f. absurd (false≢true f),
      λ a. absurd (c.in_default.not-Hold g.of.by a.multi (same_Some e (multis.Hold g.of.by a.multi) (sym at ∙ a.pin))),
    )
