-- Whether something is so at one of the places of a command's events.
use Rattle.std.proofs.Common.{◌≡◌, ℕ, zero, suc, ◌<◌, ◌↔◌, inl, inr, Some, List, [], ◌∷◌, length, get_or, sym, subst, arith}
use Rattle.std.specs.List.{slice_get}
use Rattle.tx_events.specs.declared.event.By.{By}
use Rattle.place_columns.specs.OwnPlaces.{AnyPlace, ArePlacesOf}

any_at : (P : ℕ → Type 0) (places : List ℕ) (k p : ℕ) → k < length places → get_or places k p ≡ p → P p → AnyPlace P places
any_at P [] k p l e y = absurd (omega arith)
any_at P (q ∷ places) zero p l e y = inl (subst P (sym e) y)
any_at P (q ∷ places) (suc k) p l e y = inr (any_at P places k p (omega arith) e y)

of_any : (P : ℕ → Type 0) (places : List ℕ) → AnyPlace P places → (p : ℕ) × P p
of_any P [] a = absurd a
of_any P (q ∷ places) (inl y) = (q, y)
of_any P (q ∷ places) (inr a) = of_any P places a

pub any_place : (P : ℕ → Type 0) (by : By) (bys : List By) (places : List ℕ) → ArePlacesOf by bys places → ((p : ℕ) → P p → slice_get bys p ≡ Some by) → AnyPlace P places ↔ ((p : ℕ) × P p)
any_place P by bys places are its = (
  λ a. of_any P places a,
  λ z. let c = (are z.0).0 (its z.0 z.1) in any_at P places c.0 z.0 c.1 c.2 z.1,
)
