-- States that are set are what their entry says.
use Rattle.std.proofs.Common.{Bool, List, None, Option, Some, [], ap, arith, cond, false, inl, inr, length, refl, subst, suc, sym, true, zero, ℕ, ⊎_elim, ◌%◌, ◌/◌, ◌==◌, ◌<◌, ◌∙◌, ◌∷◌, ◌≡◌, ◌≢◌, ◌⊎◌}
use Rattle.std.proofs.lemmas.Bool.{eqb-true}
use Rattle.std.proofs.lemmas.Bool.Decides.{nat_tests}
use Rattle.std.specs.List.{cons_option, filter_map, last_or, slice_index}
use Rattle.tx_events.specs.Ids.{low_half}
use Rattle.store_pages.specs.Layouts.{state_in, xact_page_of, xact_place_of}
use Rattle.tx_events.proofs.ListSteps.{not_both}
use Rattle.tx_events.proofs.Membership.{Has, has_contains}
use Rattle.tx_events.specs.declared.event.By.{By}
use Rattle.tx_core.specs.declared.entry.State.{State}
use Rattle.tx_core.specs.CleanStart.{first_near}
use Rattle.tx_core.specs.Entries.{mark_of}
use Rattle.tx_core.specs.Laws.{all_set}
use Rattle.tx_core.specs.Verdict.{state_for}
use Rattle.recoverable.specs.XactImages.{code_of}
use Rattle.bank_follows.specs.StoreSets.{StatesSet}
use Rattle.bank_follows.proofs.WordSetting.{one_near, same_or_not}

-- no state of an id that isn't named, else the one
no_value : (x : ℕ) (caller : By) (state : State) (ids : List ℕ) → filter_map (state_for x) (filter_map mark_of (all_set caller state ids)) ≡ [] → Has ids x → ⊥
no_value x caller state [] e h = h
no_value x caller state (id ∷ ids) e h =
    let rest : List State = filter_map (state_for x) (filter_map mark_of (all_set caller state ids)) in
    let step : (b : Bool) → (id == x) ≡ b → cons_option (cond b (Some state) None) (filter_map (state_for x) (filter_map mark_of (all_set caller state ids))) ≡ [] → ⊥ = elim [
      | true ↦ λ q g. absurd cc
      | false ↦ λ q g. ⊎_elim (λ (r : id ≡ x). not_both (id == x) (same_test id x r) q) (λ k. no_value x caller state ids g k) h
    ] in
    step (id == x) refl e
  where
    same_test : (a b : ℕ) → a ≡ b → (a == b) ≡ true
    same_test a b e = grind (arith, nat_tests)

one_value : (x : ℕ) (caller : By) (state v : State) (o : Option State) (ids : List ℕ) → last_or o (filter_map (state_for x) (filter_map mark_of (all_set caller state ids))) ≡ Some v → (o ≡ Some v) ⊎ ((v ≡ state) × Has ids x)
one_value x caller state v o [] e = inl e
one_value x caller state v o (id ∷ ids) e =
    let step : (b : Bool) → (id == x) ≡ b → last_or o (cons_option (cond b (Some state) None) (filter_map (state_for x) (filter_map mark_of (all_set caller state ids)))) ≡ Some v → (o ≡ Some v) ⊎ ((v ≡ state) × Has (id ∷ ids) x) = elim [
      | true ↦ λ q g. ⊎_elim (λ (r : Some state ≡ Some v). let z : v ≡ state = cc in inr (z, inl (eqb-true id x q))) (λ (r : (v ≡ state) × Has ids x). inr (r.0, inr r.1)) (one_value x caller state v (Some state) ids g)
      | false ↦ λ q g. ⊎_elim inl (λ (r : (v ≡ state) × Has ids x). inr (r.0, inr r.1)) (one_value x caller state v o ids g)
    ] in
    step (id == x) refl e

-- the place of a number in a list
index_of : (ids : List ℕ) (x : ℕ) → Has ids x → (j : ℕ) × (j < length ids) × (slice_index ids j ≡ x)
index_of [] x h = absurd h
index_of (id ∷ ids) x h = ⊎_elim (λ (e : id ≡ x). (0, omega arith, e)) (λ k. let r = index_of ids x k in (suc r.0, omega (arith, r.1), r.2)) h

index_has : (ids : List ℕ) (j : ℕ) → j < length ids → Has ids (slice_index ids j)
index_has [] j lt = absurd (omega arith)
index_has (id ∷ ids) zero lt = inl refl
index_has (id ∷ ids) (suc j) lt = inr (index_has ids j (omega arith))

pub states_set : StatesSet
states_set start shown bank by caller ids state old new some share near sets = record {
  makes_none = refl;
  others = λ x i at lt e.
      ⊎_elim
      (λ (here : xact_page_of x ≡ xact_page_of (slice_index ids 0)).
      let away : (j : ℕ) → j < length ids → xact_place_of x ≢ xact_place_of (slice_index ids j) = λ j within q.
      let on : xact_page_of x ≡ xact_page_of (slice_index ids j) = here ∙ sym (share j within) in
      let low : low_half x ≡ low_half (slice_index ids j) = halves (low_half x) (low_half (slice_index ids j)) on q in
      let h = index_has ids j within in
      let n = near (slice_index ids j) (has_contains ids (slice_index ids j) h) in
      let same : x ≡ slice_index ids j = one_near (first_near start) x (slice_index ids j) at.near.from at.near.to n.from n.to low in
      no_value x caller state ids e (subst (λ z. Has ids z) (sym same) h) in
      subst (λ q. state_in (new q) (xact_place_of x) ≡ state_in (old q) (xact_place_of x)) (sym here) (sets.same_page (xact_place_of x) (below (low_half x)) away))
      (λ (there : xact_page_of x ≢ xact_page_of (slice_index ids 0)). ap (λ (l : List ℕ). state_in l (xact_place_of x)) (sets.others (xact_page_of x) there))
      (same_or_not (xact_page_of x) (xact_page_of (slice_index ids 0)));
  set = λ x i v at lt e.
      ⊎_elim
      (λ (q : None ≡ Some v). absurd cc)
      (λ (r : (v ≡ state) × Has ids x).
      let j = index_of ids x r.1 in
      let page : xact_page_of (slice_index ids 0) ≡ xact_page_of x = sym (share j.0 j.1) ∙ ap xact_page_of j.2 in
      let code : state_in (new (xact_page_of x)) (xact_place_of x) ≡ code_of (Some state) =
      subst (λ q. state_in (new q) (xact_place_of x) ≡ code_of (Some state)) page (subst (λ z. state_in (new (xact_page_of (slice_index ids 0))) (xact_place_of z) ≡ code_of (Some state)) j.2 (sets.each j.0 j.1)) in
      code ∙ ap (λ (s : State). code_of (Some s)) (sym r.0))
      (one_value x caller state v None ids e);
}
  where
    halves : (a b : ℕ) → a / 32768 ≡ b / 32768 → a % 32768 ≡ b % 32768 → a ≡ b
    halves a b p q = omega arith

    below : (a : ℕ) → a % 32768 < 32768
    below a = omega arith
