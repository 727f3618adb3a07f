-- What is noted of all ids, with one event more.
use Rattle.std.proofs.Common.{◌≡◌, ℕ, List, [], ◌∷◌, ◌++◌, length, map, refl, ap, sym, subst, ◌∙◌, ◌&&◌, inl, inr}
use Rattle.std.specs.List.{AllByRecursion}
use Rattle.std.proofs.lemmas.List.{map-append}
use Rattle.tx_events.specs.declared.event.Event.{Event}
use Rattle.tx_events.specs.declared.event.Event.TheVariants as events
use Rattle.tx_events.specs.declared.record.Counters.{Counters}
use Rattle.tx_events.specs.Events.{given}
use Rattle.tx_events.specs.History.{IsLegal, MayCome}
use Rattle.tx_events.specs.IdLists.{Ascending}
use Rattle.tx_events.proofs.GivenGrowth.{given_push}
use Rattle.tx_events.proofs.GivenIds.{legal_front, legal_last}
use Rattle.tx_events.proofs.ListSteps.{both_all}
use Rattle.tx_events.proofs.Membership.{Has}
use Rattle.tx_events.proofs.Soundness.{legal_sound}
use Rattle.history_places.specs.declared.mark.IdMark.{IdMark}
use Rattle.history_places.specs.IdMarks.{AreNoted, IsNoted, is_close, is_unclosed, mark_ids, mark_of, noted}
use Rattle.history_places.proofs.Noted.{noted_still, noted_sub, noted_top}
use Rattle.history_places.proofs.Noting.{ids_noted}

new_ids : (p : ℕ) (e : Event) → mark_ids (mark_of p e) ≡ given (e ∷ [])
new_ids p (events.Id by x) = refl
new_ids p (events.Sub by under x) = refl
new_ids p (events.Undo by x) = refl
new_ids p (events.Commit by x) = refl
new_ids p (events.Abort by x) = refl
new_ids p (events.Snap name by) = refl
new_ids p (events.SnapDrop name by) = refl
new_ids p (events.Oldest by oldest) = refl
new_ids p (events.Ask by x) = refl

new_marks : (base : Counters) (h : List Event) (e : Event) → IsLegal base (h ++ e ∷ []) → AllByRecursion (IsNoted (h ++ e ∷ [])) (mark_of (length h) e)
new_marks base h (events.Id by x) legal = (noted_top base h by x legal, tt)
new_marks base h (events.Sub by under x) legal = (noted_sub base h by under x legal, tt)
new_marks base h (events.Undo by x) legal = tt
new_marks base h (events.Commit by x) legal = tt
new_marks base h (events.Abort by x) legal = tt
new_marks base h (events.Snap name by) legal = tt
new_marks base h (events.SnapDrop name by) legal = tt
new_marks base h (events.Oldest by oldest) legal = tt
new_marks base h (events.Ask by x) legal = tt

old_marks : (base : Counters) (h : List Event) (e : Event) (marks : List IdMark) → IsLegal base h → MayCome base h e → ((x : ℕ) → Has (mark_ids marks) x → Has (given h) x) → AllByRecursion (IsNoted h) marks → AllByRecursion (IsNoted (h ++ e ∷ [])) (map (noted (length h) e) marks)
old_marks base h e [] legal may k a = tt
old_marks base h e (m ∷ marks) legal may k a =
    (noted_still base h e m (is_unclosed m.closed && is_close m.parent m.id e) refl legal may (k m.id (inl refl)) a.0, old_marks base h e marks legal may (λ x j. k x (inr j)) a.1)

pub noted_after : (base : Counters) (h : List Event) (e : Event) (marks : List IdMark) → IsLegal base (h ++ e ∷ []) → AreNoted h marks → AreNoted (h ++ e ∷ []) (map (noted (length h) e) marks ++ mark_of (length h) e)
noted_after base h e marks legal a = record {
  ids = map-append (λ (m : IdMark). m.id) (map (noted (length h) e) marks) (mark_of (length h) e)
      ∙ ap (λ t. t ++ mark_ids (mark_of (length h) e)) (ids_noted (length h) e marks ∙ a.ids)
      ∙ ap (λ t. given h ++ t) (new_ids (length h) e)
      ∙ sym (given_push h e);
  each = both_all (IsNoted (h ++ e ∷ [])) (map (noted (length h) e) marks) (mark_of (length h) e)
      (old_marks base h e marks (legal_front base h e legal) (legal_last base h e legal) (λ x k. subst (λ t. Has t x) a.ids k) a.each)
      (new_marks base h e legal);
}

pub noted_none : AreNoted [] []
noted_none = record { ids = refl; each = tt }

pub noted_ascend : (base : Counters) (h : List Event) (marks : List IdMark) → IsLegal base h → AreNoted h marks → Ascending (mark_ids marks)
noted_ascend base h marks legal a = subst Ascending (sym a.ids) (legal_sound base h legal).ascending
