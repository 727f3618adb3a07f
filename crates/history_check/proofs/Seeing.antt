-- What is kept tells what was visible at a place.
use Rattle.std.proofs.Common.{◌≡◌, ℕ, suc, zero, ◌<◌, ◌≤◌, ◌||◌, ◌==◌, List, [], ◌∷◌, Bool, length, get_or, take, refl, ap, sym, subst, ◌∙◌, ⊎_elim, arith, false}
use Rattle.std.specs.List.{AllByRecursion, list_any}
use Rattle.tx_events.specs.declared.event.Event.{Event}
use Rattle.tx_events.specs.declared.record.Counters.{Counters}
use Rattle.tx_events.specs.History.{IsLegal}
use Rattle.tx_events.specs.IdLists.{has}
use Rattle.tx_events.specs.Visible.{is_visible}
use Rattle.tx_events.proofs.Closing.{later_take}
use Rattle.tx_events.proofs.GivenIds.{legal_take}
use Rattle.tx_events.proofs.ListSteps.{equal_swap}
use Rattle.tx_events.proofs.Membership.{Has}
use Rattle.tx_events.proofs.Visibility.{never_given}
use Rattle.history_check.specs.declared.given.GivenId.{GivenId}
use Rattle.history_check.specs.GivenIds.{AreKept, IsKept, IsMissing, IsPlaceOf, given_ids, is_committed, was_before}
use Rattle.history_check.specs.Replays.{is_known}

at_place : (P : GivenId → Type 0) (items : List GivenId) (k : ℕ) (d : GivenId) → AllByRecursion P items → k < length items → P (get_or items k d)
at_place P [] k d a l = absurd (omega arith)
at_place P (g ∷ items) zero d a l = a.0
at_place P (g ∷ items) (suc k) d a l = at_place P items k d a.1 (omega arith)

missing_id : (items : List GivenId) (x : ℕ) → IsMissing items x → Has (given_ids items) x → ⊥
missing_id [] x m k = k
missing_id (g ∷ items) x m k = ⊎_elim (λ (e : g.id ≡ x). m 0 (omega arith) g e) (λ j. missing_id items x (λ i l d e. m (suc i) (omega arith) d e) j) k

pub seen_where_kept : (items : List GivenId) (place x k : ℕ) (d : GivenId) (h : List Event) → IsPlaceOf items x k → AreKept h items → place ≤ length h → was_before (get_or items k d).committed place ≡ is_committed (take place h) x
seen_where_kept items place x k d h p a l =
    let i = at_place (IsKept h) items k d a.each p.0 in
    i.times place l ∙ ap (λ y. is_committed (take place h) y) (p.1 d)

pub unseen_where_missing : (items : List GivenId) (place x : ℕ) (base : Counters) (h : List Event) → IsMissing items x → IsLegal base h → AreKept h items → false ≡ is_committed (take place h) x
unseen_where_missing items place x base h m legal a =
    sym (never_given base (take place h) x (legal_take base h place legal) (λ k. missing_id items x m (subst (λ t. Has t x) (sym a.ids) (later_take base h place x legal k).given)))

-- the tests of a list that stands on either side
pub same_among : (xs : List ℕ) (x : ℕ) → has xs x ≡ list_any (λ y. y == x) xs
same_among [] x = refl
same_among (y ∷ xs) x = ap (λ b. b || has xs x) (equal_swap x y) ∙ ap (λ b. (y == x) || b) (same_among xs x)

pub visible_is : (committed : List ℕ) (h : List Event) (x : ℕ) (known since : Bool) → known ≡ is_known committed x → since ≡ is_committed h x → (known || since) ≡ is_visible committed h x
visible_is committed h x known since k s =
    ap (λ b. b || since) (k ∙ ap (λ b. (x == 1) || (x == 2) || b) (same_among committed x)) ∙ ap (λ b. ((x == 1) || (x == 2) || list_any (λ y. y == x) committed) || b) s
