-- The steps of a commit: which ids they have, and what comes before which.
use Rattle.std.proofs.Common.{zero, suc, ◌≡◌, ◌≢◌, ◌⊎◌, ℕ, ◌+◌, ◌*◌, ◌%◌, ◌^◌, ◌≤◌, ◌<◌, ◌==◌, cond, Bool, true, false, List, [], ◌∷◌, ◌++◌, Some, None, refl, sym, ap, subst, ◌∙◌, inl, inr, ⊎_elim, length, map, arith, eqb-true, Contains, slice_get}
use Rattle.std.proofs.lemmas.Option.{slice_get_within}
use Rattle.std.proofs.lemmas.List.{length-append, length-map}
use Rattle.tx_events.proofs.Membership.{Has, contains_has, has_contains, has_map, has_place, has_right, map_has, place_has}
use Rattle.tx_events.specs.Pages.{xact_page}
use Rattle.slru_bank.specs.declared.plan.PlanStep.{PlanStep}
use Rattle.slru_bank.specs.declared.xact_state.State.{State}
use Rattle.slru_bank.specs.declared.xact_state.State.TheVariants.{Committed, SubCommitted}
use Rattle.slru_bank.specs.Plan.{Run, around, plan, plan_over, run_step, runs, top_step, with_next}
use Rattle.slru_bank.specs.Steps.{IsBefore, step_first, step_ids}
use Rattle.slru_bank.proofs.RunShapes.{AreRuns, Begins, IsRun, front_place, get_around, has_range, mid_place, range_has, runs_are}

-- ---- the steps

record IsShape (top : ℕ) (subs : List ℕ) (steps : List PlanStep) : Type 0 where
  own : ℕ
  rest : List Run
  is : steps ≡ around (top_step top own) rest
  upto : own ≤ length subs
  page : (i id : ℕ) → i < own → slice_get subs i ≡ Some id → xact_page id ≡ xact_page top
  each : (r : Run) → Has rest r → IsRun 0 subs r
  cover : (i : ℕ) → i < length subs → (i < own) ⊎ ((r : Run) × Has rest r × (r.first ≤ i) × (i < r.past))

shape_over : (top : ℕ) (subs : List ℕ) (rs : List Run) → AreRuns 0 subs rs → Begins 0 rs → IsShape top subs (plan_over top rs)
shape_over top subs [] a b = record {
  own = 0;
  rest = [];
  is = refl;
  upto = omega arith;
  page = λ i id within h. absurd (omega arith);
  each = λ r h. absurd h;
  cover = λ i within. absurd ((a.cover i within).1);
}
shape_over top subs (r ∷ rs) a b = of (r.page == xact_page top) refl
  where
    of : (same : Bool) → (r.page == xact_page top) ≡ same → IsShape top subs (cond same (around (top_step top r.past) rs) (around (top_step top 0) (r ∷ rs)))
    of true is = record {
      own = r.past;
      rest = rs;
      is = refl;
      upto = (let u = (a.each r (inl refl)).upto in omega arith);
      page = λ i id within h. (a.each r (inl refl)).page i id (let z : r.first ≡ 0 = b in omega arith) (omega arith) h ∙ eqb-true r.page (xact_page top) is;
      each = λ q h. a.each q (inr h);
      cover = λ i within. let c = a.cover i within in ⊎_elim (λ (e : r ≡ c.0). let p : r.past ≡ c.0.past = ap (λ (z : Run). z.past) e in let u = c.3 in inl (omega arith)) (λ t. let lo = c.2 in let hi = c.3 in inr (c.0, t, omega arith, omega arith)) c.1;
    }
    of false is = record {
      own = 0;
      rest = r ∷ rs;
      is = refl;
      upto = omega arith;
      page = λ i id within h. absurd (omega arith);
      each = a.each;
      cover = λ i within. let c = a.cover i within in let lo = c.2 in let hi = c.3 in inr (c.0, c.1, omega arith, omega arith);
    }

shape : (top : ℕ) (subs : List ℕ) → IsShape top subs (plan top subs)
shape top subs = let t = runs_are 0 subs in shape_over top subs (runs 0 subs) t.0 t.1

-- what a step is
pub record IsStep (top : ℕ) (subs : List ℕ) (k : ℕ) (p : PlanStep) : Type 0 where
  pub within : p.past ≤ length subs
  pub some : step_first p < p.past + 1
  pub order : p.first ≤ p.past
  pub page : ℕ
  pub stored : p.page ≡ page % 2 ^ 17
  pub share : (id : ℕ) → Contains (step_ids (top ∷ subs) p) id → xact_page id ≡ page
  pub among : (id : ℕ) → Contains (step_ids (top ∷ subs) p) id → Contains (top ∷ subs) id
  pub sets : (p.state ≡ SubCommitted) ⊎ (p.state ≡ Committed)
  pub before_top : p.state ≡ Committed → (sub : ℕ) → Contains subs sub → xact_page sub ≢ xact_page top → IsBefore (top ∷ subs) (plan top subs) k sub SubCommitted
  pub after_top : p.state ≡ Committed → page ≢ xact_page top → IsBefore (top ∷ subs) (plan top subs) k top Committed

run_among : (top : ℕ) (subs : List ℕ) (state : State) (r : Run) (id : ℕ) → Contains (step_ids (top ∷ subs) (run_step state r)) id → (i : ℕ) × (r.first ≤ i) × (i < r.past) × (slice_get subs i ≡ Some id)
run_among top subs state r id c = behind (range_has (top ∷ subs) (r.first + 1) (r.past + 1) id c)
  where
    behind : (i : ℕ) × (r.first + 1 ≤ i) × (i < r.past + 1) × (slice_get (top ∷ subs) i ≡ Some id) → (i : ℕ) × (r.first ≤ i) × (i < r.past) × (slice_get subs i ≡ Some id)
    behind (zero, lo, hi, h) = absurd (omega arith)
    behind (suc i, lo, hi, h) = (i, omega arith, omega arith, h)

among_run : (top : ℕ) (subs : List ℕ) (state : State) (r : Run) (i id : ℕ) → r.first ≤ i → i < r.past → slice_get subs i ≡ Some id → Contains (step_ids (top ∷ subs) (run_step state r)) id
among_run top subs state r i id lo hi h = has_range (top ∷ subs) (r.first + 1) (r.past + 1) (suc i) id (omega arith) (omega arith) h

top_among : (top : ℕ) (subs : List ℕ) (own id : ℕ) → Contains (step_ids (top ∷ subs) (top_step top own)) id → (top ≡ id) ⊎ ((i : ℕ) × (i < own) × (slice_get subs i ≡ Some id))
top_among top subs own id c = behind (range_has (top ∷ subs) 0 (own + 1) id c)
  where
    behind : (i : ℕ) × (0 ≤ i) × (i < own + 1) × (slice_get (top ∷ subs) i ≡ Some id) → (top ≡ id) ⊎ ((i : ℕ) × (i < own) × (slice_get subs i ≡ Some id))
    behind (zero, lo, hi, h) = inl cc
    behind (suc i, lo, hi, h) = inr (i, omega arith, h)

module _ (top : ℕ) (subs : List ℕ) (s : IsShape top subs (plan top subs)) where
  abbrev fronts : List PlanStep
  fronts = map (run_step SubCommitted) s.rest

  abbrev backs : List PlanStep
  backs = map (run_step Committed) s.rest

  abbrev middle : PlanStep
  middle = top_step top s.own

  -- each sub on another page is sub-committed by a step of the first ones
  sub_first : (sub : ℕ) → Contains subs sub → xact_page sub ≢ xact_page top → IsBefore (top ∷ subs) (plan top subs) (length fronts) sub SubCommitted
  sub_first sub c other =
      let place = has_place subs sub (contains_has subs sub c) in
      ⊎_elim
      (λ (in_own : place.0 < s.own). absurd (other (s.page place.0 sub in_own place.1)))
      (λ f.
      let at = front_place fronts (middle ∷ backs) (run_step SubCommitted f.0) (map_has (run_step SubCommitted) s.rest f.0 f.1) in
      record {
        place = at.0;
        step = run_step SubCommitted f.0;
        before = at.1;
        at = ap (λ (l : List PlanStep). slice_get l at.0) s.is ∙ at.2;
        has = among_run top subs SubCommitted f.0 place.0 sub f.2 f.3 place.1;
        sets = refl;
      })
      (s.cover place.0 (slice_get_within subs place.0 sub place.1))

  top_first : (k : ℕ) → length fronts < k → IsBefore (top ∷ subs) (plan top subs) k top Committed
  top_first k past = record {
    place = length fronts;
    step = middle;
    before = past;
    at = ap (λ (l : List PlanStep). slice_get l (length fronts)) s.is ∙ mid_place fronts middle backs;
    has = has_range (top ∷ subs) 0 (s.own + 1) 0 top (omega arith) (omega arith) refl;
    sets = refl;
  }

  later : (k m id : ℕ) (state : State) → k ≤ m → IsBefore (top ∷ subs) (plan top subs) k id state → IsBefore (top ∷ subs) (plan top subs) m id state
  later k m id state le b = record { place = b.place; step = b.step; before = (let h = b.before in omega arith); at = b.at; has = b.has; sets = b.sets }

  sub_in : (i id : ℕ) → slice_get subs i ≡ Some id → Contains (top ∷ subs) id
  sub_in i id h = has_contains (top ∷ subs) id (inr (place_has subs i id h))

  run_is : (k : ℕ) (r : Run) → Has s.rest r → IsStep top subs k (run_step SubCommitted r)
  run_is k r h = let run = s.each r h in record {
    within = (let u = run.upto in omega arith);
    some = (let u = run.some in omega arith);
    order = (let u = run.some in omega arith);
    page = r.page;
    stored = refl;
    share = λ id c. let a = run_among top subs SubCommitted r id c in (let lo = a.1 in let hi = a.2 in run.page a.0 id (omega arith) (omega arith) a.3);
    among = λ id c. let a = run_among top subs SubCommitted r id c in sub_in a.0 id a.3;
    sets = inl refl;
    before_top = λ q. absurd (cc);
    after_top = λ q. absurd (cc);
  }

  back_is : (k : ℕ) (r : Run) → length fronts < k → Has s.rest r → IsStep top subs k (run_step Committed r)
  back_is k r past h = let run = s.each r h in record {
    within = (let u = run.upto in omega arith);
    some = (let u = run.some in omega arith);
    order = (let u = run.some in omega arith);
    page = r.page;
    stored = refl;
    share = λ id c. let a = run_among top subs Committed r id c in (let lo = a.1 in let hi = a.2 in run.page a.0 id (omega arith) (omega arith) a.3);
    among = λ id c. let a = run_among top subs Committed r id c in sub_in a.0 id a.3;
    sets = inr refl;
    before_top = λ q sub c other. later (length fronts) k sub SubCommitted (omega arith) (sub_first sub c other);
    after_top = λ q other. top_first k past;
  }

  middle_is : (k : ℕ) → k ≡ length fronts → IsStep top subs k middle
  middle_is k here = record {
    within = s.upto;
    some = omega arith;
    order = omega arith;
    page = xact_page top;
    stored = refl;
    share = λ id c. ⊎_elim (λ (q : top ≡ id). ap xact_page (sym q)) (λ a. s.page a.0 id a.1 a.2) (top_among top subs s.own id c);
    among = λ id c. ⊎_elim (λ (q : top ≡ id). has_contains (top ∷ subs) id (inl q)) (λ a. sub_in a.0 id a.2) (top_among top subs s.own id c);
    sets = inr refl;
    before_top = λ q sub c other. later (length fronts) k sub SubCommitted (omega arith) (sub_first sub c other);
    after_top = λ q other. absurd (other refl);
  }

  step_at : (k : ℕ) (p : PlanStep) → slice_get (plan top subs) k ≡ Some p → IsStep top subs k p
  step_at k p h =
      let there : slice_get (fronts ++ middle ∷ backs) k ≡ Some p = ap (λ (l : List PlanStep). slice_get l k) (sym s.is) ∙ h in
      ⊎_elim
      (λ f. let m = has_map (run_step SubCommitted) s.rest p f.1 in subst (IsStep top subs k) m.2 (run_is k m.0 m.1))
      (λ g. ⊎_elim
      (λ m. subst (IsStep top subs k) m.1 (middle_is k m.0))
      (λ b. let m = has_map (run_step Committed) s.rest p b.1 in subst (IsStep top subs k) m.2 (back_is k m.0 b.0 m.1))
      g)
      (get_around fronts middle backs k p there)

  -- each id is committed by a step
  all_commit : (id : ℕ) → Contains (top ∷ subs) id → (k : ℕ) → length (plan top subs) ≤ k → IsBefore (top ∷ subs) (plan top subs) k id Committed
  all_commit id c k past = from (contains_has (top ∷ subs) id c)
    where
      mid : slice_get (plan top subs) (length fronts) ≡ Some middle
      mid = ap (λ (l : List PlanStep). slice_get l (length fronts)) s.is ∙ mid_place fronts middle backs

      by_middle : Contains (step_ids (top ∷ subs) middle) id → IsBefore (top ∷ subs) (plan top subs) k id Committed
      by_middle has = record { place = length fronts; step = middle; before = (let w = slice_get_within (plan top subs) (length fronts) middle mid in omega arith); at = mid; has = has; sets = refl }

      from : Has (top ∷ subs) id → IsBefore (top ∷ subs) (plan top subs) k id Committed
      from (inl q) = by_middle (has_range (top ∷ subs) 0 (s.own + 1) 0 id (omega arith) (omega arith) (ap (λ z. Some z) q))
      from (inr t) =
          let place = has_place subs id t in
          ⊎_elim
          (λ (in_own : place.0 < s.own). by_middle (has_range (top ∷ subs) 0 (s.own + 1) (suc place.0) id (omega arith) (omega arith) place.1))
          (λ f.
          let p : PlanStep = run_step Committed f.0 in
          let at = has_place (fronts ++ middle ∷ backs) p (has_right fronts (middle ∷ backs) p (inr (map_has (run_step Committed) s.rest f.0 f.1))) in
          let here : slice_get (plan top subs) at.0 ≡ Some p = ap (λ (l : List PlanStep). slice_get l at.0) s.is ∙ at.1 in
          record {
            place = at.0;
            step = p;
            before = (let w = slice_get_within (plan top subs) at.0 p here in omega arith);
            at = here;
            has = among_run top subs Committed f.0 place.0 id f.2 f.3 place.1;
            sets = refl;
          })
          (s.cover place.0 (slice_get_within subs place.0 id place.1))

pub is_step : (top : ℕ) (subs : List ℕ) (k : ℕ) (p : PlanStep) → slice_get (plan top subs) k ≡ Some p → IsStep top subs k p
is_step top subs = step_at top subs (shape top subs)

pub all_committed : (top : ℕ) (subs : List ℕ) (id : ℕ) → Contains (top ∷ subs) id → (k : ℕ) → length (plan top subs) ≤ k → IsBefore (top ∷ subs) (plan top subs) k id Committed
all_committed top subs = all_commit top subs (shape top subs)

module _ (top : ℕ) (subs : List ℕ) (s : IsShape top subs (plan top subs)) where
  -- before a step that sets sub-committed come such steps alone
  sub_before : (k : ℕ) (p q : PlanStep) → slice_get (plan top subs) (k + 1) ≡ Some q → q.state ≡ SubCommitted → slice_get (plan top subs) k ≡ Some p → p.state ≡ SubCommitted
  sub_before k p q hq is hp =
      let on : (j : ℕ) (r : PlanStep) → slice_get (plan top subs) j ≡ Some r → slice_get (map (run_step SubCommitted) s.rest ++ top_step top s.own ∷ map (run_step Committed) s.rest) j ≡ Some r = λ j r h. ap (λ (l : List PlanStep). slice_get l j) (sym s.is) ∙ h in
      let front : k + 1 < length (map (run_step SubCommitted) s.rest) = ⊎_elim
      (λ f. f.0)
      (λ g. ⊎_elim
      (λ (m : (k + 1 ≡ length (map (run_step SubCommitted) s.rest)) × (top_step top s.own ≡ q)). absurd (not_both (ap (λ (z : PlanStep). z.state) m.1 ∙ is)))
      (λ b. let m = has_map (run_step Committed) s.rest q b.1 in absurd (not_both (ap (λ (z : PlanStep). z.state) m.2 ∙ is)))
      g)
      (get_around (map (run_step SubCommitted) s.rest) (top_step top s.own) (map (run_step Committed) s.rest) (k + 1) q (on (k + 1) q hq)) in
      ⊎_elim
      (λ f. let m = has_map (run_step SubCommitted) s.rest p f.1 in ap (λ (z : PlanStep). z.state) (sym m.2))
      (λ g. ⊎_elim (λ m. absurd (let e = m.0 in omega arith)) (λ b. absurd (let e = b.0 in omega arith)) g)
      (get_around (map (run_step SubCommitted) s.rest) (top_step top s.own) (map (run_step Committed) s.rest) k p (on k p hp))
    where
      not_both : Committed ≡ SubCommitted → ⊥
      not_both e = cc

pub sub_steps : (top : ℕ) (subs : List ℕ) (k : ℕ) (p q : PlanStep) → slice_get (plan top subs) (k + 1) ≡ Some q → q.state ≡ SubCommitted → slice_get (plan top subs) k ≡ Some p → p.state ≡ SubCommitted
sub_steps top subs = sub_before top subs (shape top subs)

-- ---- how many steps

next_long : (page at : ℕ) (rs : List Run) → length (with_next page at rs) ≤ length rs + 1
next_long page at [] = omega arith
next_long page at (r ∷ rs) = of (r.page == page)
  where
    of : (same : Bool) → length (cond same (record { page = page; first = at; past = r.past } ∷ rs) (record { page = page; first = at; past = at + 1 } ∷ (r ∷ rs))) ≤ length (r ∷ rs) + 1
    of true = omega arith
    of false = omega arith

runs_long : (at : ℕ) (ids : List ℕ) → length (runs at ids) ≤ length ids
runs_long at [] = omega arith
runs_long at (id ∷ ids) = let a = runs_long (at + 1) ids in let b = next_long (xact_page id) at (runs (at + 1) ids) in omega arith

around_long : (t : PlanStep) (rs : List Run) → length (around t rs) ≡ 2 * length rs + 1
around_long t rs =
    let a : length (map (run_step SubCommitted) rs) ≡ length rs = length-map rs (run_step SubCommitted) in
    let b : length (map (run_step Committed) rs) ≡ length rs = length-map rs (run_step Committed) in
    let c = length-append (map (run_step SubCommitted) rs) (t ∷ map (run_step Committed) rs) in
    omega arith

over_long : (top : ℕ) (rs : List Run) → length (plan_over top rs) ≤ 2 * length rs + 1
over_long top [] = let a = around_long (top_step top 0) [] in omega arith
over_long top (r ∷ rs) = of (r.page == xact_page top)
  where
    of : (same : Bool) → length (cond same (around (top_step top r.past) rs) (around (top_step top 0) (r ∷ rs))) ≤ 2 * length (r ∷ rs) + 1
    of true = let a = around_long (top_step top r.past) rs in omega arith
    of false = let a = around_long (top_step top 0) (r ∷ rs) in omega arith

pub plan_long : (top : ℕ) (subs : List ℕ) → length (plan top subs) ≤ 2 * length subs + 1
plan_long top subs = let a = over_long top (runs 0 subs) in let b = runs_long 0 subs in omega arith

pub none_past : {A : Type 0} (xs : List A) (k : ℕ) → slice_get xs k ≡ None → length xs ≤ k
none_past [] k h = omega arith
none_past (x ∷ xs) zero h = absurd cc
none_past (x ∷ xs) (suc k) h = let a = none_past xs k h in omega arith
