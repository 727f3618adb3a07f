-- The ids that a session has open ascend, as each is given past all before.
use Rattle.std.proofs.Common.{◌≡◌, ℕ, ◌<◌, List, [], ◌∷◌, ◌++◌, refl, sym, subst, Bool, true, false, cond, ◌==◌, append-nil}
use Rattle.std.specs.List.{AllByRecursion}
use Rattle.tx_events.specs.declared.event.Event.{Event}
use Rattle.tx_events.specs.declared.event.Event.TheVariants as events
use Rattle.tx_events.specs.declared.record.Counters.{Counters}
use Rattle.tx_events.specs.Events.{by_of, given, given_to}
use Rattle.tx_events.specs.History.{IsLegal, MayCome, next_given}
use Rattle.tx_events.specs.IdLists.{Ascending}
use Rattle.tx_events.specs.Running.{is_open, open_ids}
use Rattle.tx_events.proofs.GivenIds.{legal_front, legal_last}
use Rattle.tx_events.proofs.GivenGrowth.{given_to_new, given_to_none}
use Rattle.tx_events.proofs.NameBounds.{AreBelow, given_to_below}
use Rattle.tx_events.proofs.IdListSteps.{ascending_filtered, ascending_push}
use Rattle.tx_events.proofs.Membership.{by_end}
use Rattle.tx_events.proofs.Soundness.{legal_sound}

push_where : (xs : List ℕ) (n : ℕ) (b : Bool) → Ascending xs → AllByRecursion (λ x. x < n) xs → Ascending (xs ++ cond b (n ∷ []) [])
push_where xs n true a l = ascending_push xs n a l
push_where xs n false a l = subst Ascending (sym (append-nil xs)) a

more_given : (base : Counters) (h : List Event) (e : Event) (s n : ℕ) → IsLegal base h → given (e ∷ []) ≡ n ∷ [] → n ≡ next_given base.next h → Ascending (given_to s h) → Ascending (given_to s (h ++ e ∷ []))
more_given base h e s n legal gives is a =
    subst Ascending (sym (given_to_new s h e n gives)) (push_where (given_to s h) n ((by_of e).session == s) a (given_to_below n s h (subst (λ m. AreBelow m h) (sym is) (legal_sound base h legal).below)))

none_given : (h : List Event) (e : Event) (s : ℕ) → given (e ∷ []) ≡ [] → Ascending (given_to s h) → Ascending (given_to s (h ++ e ∷ []))
none_given h e s gives a = subst Ascending (sym (given_to_none s h e gives)) a

given_step : (base : Counters) (h : List Event) (e : Event) (s : ℕ) → IsLegal base h → MayCome base h e → Ascending (given_to s h) → Ascending (given_to s (h ++ e ∷ []))
given_step base h (events.Id by id) s legal may a = more_given base h (events.Id by id) s id legal refl may.0.next a
given_step base h (events.Sub by parent id) s legal may a = more_given base h (events.Sub by parent id) s id legal refl may.0.next a
given_step base h (events.Undo by id) s legal may a = none_given h (events.Undo by id) s refl a
given_step base h (events.Commit by t) s legal may a = none_given h (events.Commit by t) s refl a
given_step base h (events.Abort by t) s legal may a = none_given h (events.Abort by t) s refl a
given_step base h (events.Snap name by) s legal may a = none_given h (events.Snap name by) s refl a
given_step base h (events.SnapDrop name by) s legal may a = none_given h (events.SnapDrop name by) s refl a
given_step base h (events.Oldest by oldest) s legal may a = none_given h (events.Oldest by oldest) s refl a
given_step base h (events.Ask by id) s legal may a = none_given h (events.Ask by id) s refl a

given_to_ascends : (base : Counters) (s : ℕ) (h : List Event) → IsLegal base h → Ascending (given_to s h)
given_to_ascends base s = by_end (λ h. IsLegal base h → Ascending (given_to s h))
    (λ legal. tt)
    (λ h e before legal. given_step base h e s (legal_front base h e legal) (legal_last base h e legal) (before (legal_front base h e legal)))

pub open_ascend : (base : Counters) (h : List Event) (s : ℕ) → IsLegal base h → Ascending (open_ids s h)
open_ascend base h s legal = ascending_filtered (is_open h) (given_to s h) (given_to_ascends base s h legal)
