-- The worked life's bank of pg_xact.
use Rattle.std.proofs.Common.{Bool, Contains, None, Some, [], ap, arith, cond, eq-eqb, false, inl, refl, subst, suc, take, true, zero, ℕ, ⊎_elim, ◌/◌, ◌%◌, ◌<◌, ◌==◌, ◌^◌, ◌∙◌, ◌∷◌, ◌≡◌}
use Rattle.std.proofs.lemmas.Bool.{eqb-true}
use Rattle.std.specs.List.{cons_option, last_or, slice_get}
use Rattle.tx_events.specs.PageOrder.{Ids, is_cut}
use Rattle.disk_core.specs.Pages.{page_bytes}
use Rattle.store_pages.specs.Layouts.{state_in, xact_page_of, xact_place_of}
use Rattle.tx_events.proofs.ListSteps.{not_both}
use Rattle.tx_events.proofs.Membership.{contains_has}
use Rattle.tx_events.specs.declared.event.By.{By}
use Rattle.tx_core.specs.declared.entry.Entry.{Entry}
use Rattle.tx_core.specs.declared.entry.Kind.TheVariants as kinds
use Rattle.tx_core.specs.declared.entry.Start.{Start}
use Rattle.tx_core.specs.declared.entry.State.TheVariants as states
use Rattle.tx_core.specs.CleanStart.{IsNear}
use Rattle.tx_core.specs.Entries.{cut_in}
use Rattle.tx_core.specs.Laws.{all_set}
use Rattle.tx_core.specs.Locks.{xact_lock}
use Rattle.recoverable.specs.Images.{MayBeGone, Now}
use Rattle.recoverable.specs.WorkedBank.{IsFirstLife, WorkedBank, set_3, sync}
use Rattle.recoverable.specs.WorkedLife.{page_with}
use Rattle.recoverable.specs.WorkedLife as life
use Rattle.recoverable.specs.XactImages.{Follows, code_at, code_of, wanted_code, xact_reading, xact_ring}
use Rattle.recoverable.proofs.Stretches.{get_inside}
use Rattle.recoverable.proofs.WorkedLife.{no_byte, no_state, past}

-- no state shows on pages of zeros, and that of 3 alone on the worked life's
blank : (x : ℕ) → code_at (page_with []) x ≡ 0
blank x = zeros (xact_page_of x)
  where
    zeros : (q : ℕ) → state_in (page_bytes (page_with [] q)) (xact_place_of x) ≡ 0
    zeros zero = no_state (page_bytes (page_with [] zero)) (xact_place_of x) (past [] 8192 (xact_place_of x / 4) (omega arith))
    zeros (suc q) = no_state (page_bytes (page_with [] (suc q))) (xact_place_of x) (no_byte (xact_place_of x / 4))

elsewhere : (q p : ℕ) → ((q ≡ 0) → (p ≡ 3) → ⊥) → state_in (page_bytes (life.states q)) p ≡ 0
elsewhere (suc q) p never = no_state (page_bytes (life.states (suc q))) p (no_byte (p / 4))
elsewhere zero zero never = refl
elsewhere zero (suc zero) never = refl
elsewhere zero (suc (suc zero)) never = refl
elsewhere zero (suc (suc (suc zero))) never = absurd (never refl refl)
elsewhere zero (suc (suc (suc (suc p)))) never = no_state (page_bytes (life.states zero)) (suc (suc (suc (suc p)))) (past (64 ∷ []) 8191 (suc (suc (suc (suc p))) / 4) (omega arith))

-- behind the set the list says that of 3 alone
shows_said : (x : ℕ) → x < 2 ^ 32 → code_at life.states x ≡ code_of (last_or None (cons_option (cond (3 == x) (Some states.Committed) None) []))
shows_said x low =
    let step : (b : Bool) → (3 == x) ≡ b → code_at life.states x ≡ code_of (last_or None (cons_option (cond b (Some states.Committed) None) [])) = elim [
      | true ↦ λ q. subst (λ z. code_at life.states z ≡ 1) (eqb-true 3 x q) refl
      | false ↦ λ q. elsewhere (xact_page_of x) (xact_place_of x) (λ (page : xact_page_of x ≡ 0) (place : xact_place_of x ≡ 3). let z : 3 ≡ x = omega arith in not_both (3 == x) (eq-eqb 3 x z) q)
    ] in
    step (3 == x) refl

module _ (start : Start) (by : By) (is : IsFirstLife start) where
  below : (x : ℕ) → IsNear start x → x < 2 ^ 32
  below x near = let next = is.next in let to = near.to in omega arith

  not_yet : Follows start 0 (λ id. None) (set_3 by ∷ []) (page_with [])
  not_yet x near on = record { count = 0; synced = λ p other at. absurd (never p other at); shows = inl (blank x) }
    where
      never : (p : ℕ) (other : By) → slice_get (set_3 by ∷ []) p ≡ Some (sync other) → ⊥
      never zero other at =
          let same : set_3 by ≡ sync other = cc in
          let kind : kinds.Set (all_set by states.Committed (3 ∷ [])) ≡ kinds.Sync = ap (λ (e : Entry). e.kind) same in
          absurd cc
      never (suc p) other at = absurd cc

  set : Follows start 0 (λ id. None) (set_3 by ∷ []) life.states
  set x near on = record { count = 1; synced = λ p other at. get_inside (set_3 by ∷ []) p (sync other) at; shows = inl (shows_said x (below x near)) }

  synced : Follows start 0 (λ id. None) (set_3 by ∷ sync by ∷ []) life.states
  synced x near on = record { count = 2; synced = λ p other at. get_inside (set_3 by ∷ sync by ∷ []) p (sync other) at; shows = inl (shows_said x (below x near)) }

  -- the page of id 3 is cut by nothing
  not_gone : MayBeGone (xact_ring start) (set_3 by ∷ sync by ∷ []) 0 → ⊥
  not_gone gone =
      ⊎_elim
      (λ (q : gone.0 ≡ start.base.oldest / 32768).
      let oldest = is.oldest in
      let page : gone.0 ≡ 0 = omega arith in
      let cut : false ≡ true = subst (λ z. is_cut Ids 32768 (z % 131072) 0 ≡ true) page gone.2 in cc)
      (λ (h : (e : Entry) × Contains (set_3 by ∷ sync by ∷ []) e × (cut_in e.kind ≡ Some gone.0)).
      ⊎_elim
      (λ (q : set_3 by ≡ h.0). let cut : None ≡ Some gone.0 = ap (λ (e : Entry). cut_in e.kind) q ∙ h.2 in cc)
      (λ r. ⊎_elim (λ (q : sync by ≡ h.0). let cut : None ≡ Some gone.0 = ap (λ (e : Entry). cut_in e.kind) q ∙ h.2 in cc) (λ none. none) r)
      (contains_has (set_3 by ∷ sync by ∷ []) h.0 h.1))
      gone.1

  lost : Follows start 0 (λ id. None) (set_3 by ∷ sync by ∷ []) (page_with []) → ⊥
  lost follows =
      let next = is.next in
      let since = follows 3 (record { from = omega arith; to = omega arith }) (ap (λ b. xact_lock (0 % b)) is.banks) in
      shown since.count (since.synced 1 by refl) since.shows
    where
      shown : (count : ℕ) → 1 < count → Now (xact_reading start (λ id. None)) wanted_code (take count (set_3 by ∷ sync by ∷ [])) (set_3 by ∷ sync by ∷ []) 3 0 0 → ⊥
      shown zero lt now = omega arith
      shown (suc zero) lt now = omega arith
      shown (suc (suc zero)) lt now = ⊎_elim (λ (q : 0 ≡ 1). omega arith) (λ h. not_gone h.1) now
      shown (suc (suc (suc n))) lt now = ⊎_elim (λ (q : 0 ≡ 1). omega arith) (λ h. not_gone h.1) now

pub worked_bank : WorkedBank
worked_bank start by is = record {
  not_yet = not_yet start by is;
  set = set start by is;
  synced = synced start by is;
  lost = lost start by is;
}
