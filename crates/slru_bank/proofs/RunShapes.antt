-- Runs of subids: each lies on one page, and together they have all.
use Rattle.std.proofs.Common.{zero, suc, ◌≡◌, ◌⊎◌, ℕ, ◌+◌, ◌-◌, ◌≤◌, ◌<◌, ◌==◌, cond, Bool, true, false, List, [], ◌∷◌, ◌++◌, Some, refl, sym, ap, subst, ◌∙◌, inl, inr, ⊎_elim, length, take, drop, arith, eqb-true, slice_index, Contains, slice_get}
use Rattle.std.specs.List.{slice_range}
use Rattle.tx_events.proofs.Membership.{Has, contains_has, has_contains, place_has}
use Rattle.tx_events.specs.Pages.{xact_page}
use Rattle.slru_bank.specs.Plan.{Run, run_at, runs, with_next}

-- ---- places

has_take_at : {A : Type 0} (n : ℕ) (xs : List A) (x : A) → Has (take n xs) x → (i : ℕ) × (i < n) × (slice_get xs i ≡ Some x)
has_take_at zero xs x h = absurd h
has_take_at (suc n) [] x h = absurd h
has_take_at (suc n) (y ∷ ys) x h = ⊎_elim (λ (q : y ≡ x). (0, omega arith, ap (λ z. Some z) q)) (λ t. let r = has_take_at n ys x t in (suc r.0, (let b = r.1 in omega arith), r.2)) h

take_at : {A : Type 0} (n : ℕ) (xs : List A) (i : ℕ) (x : A) → i < n → slice_get xs i ≡ Some x → Has (take n xs) x
take_at zero xs i x within h = absurd (omega arith)
take_at (suc n) [] i x within h = absurd cc
take_at (suc n) (y ∷ ys) zero x within h = inl cc
take_at (suc n) (y ∷ ys) (suc i) x within h = inr (take_at n ys i x (omega arith) h)

drop_at : {A : Type 0} (a : ℕ) (xs : List A) (i : ℕ) (x : A) → slice_get (drop a xs) i ≡ Some x → slice_get xs (a + i) ≡ Some x
drop_at zero xs i x h = let e : 0 + i ≡ i = omega arith in rw e h
drop_at (suc a) [] i x h = absurd cc
drop_at (suc a) (y ∷ ys) i x h = let e : suc a + i ≡ suc (a + i) = omega arith in rw e (drop_at a ys i x h)

at_drop : {A : Type 0} (a : ℕ) (xs : List A) (i : ℕ) (x : A) → slice_get xs (a + i) ≡ Some x → slice_get (drop a xs) i ≡ Some x
at_drop {A} zero xs i x h = let e : 0 + i ≡ i = omega arith in subst (λ z. slice_get xs z ≡ Some x) e h
at_drop {A} (suc a) [] i x h = absurd cc
at_drop {A} (suc a) (y ∷ ys) i x h = let e : suc a + i ≡ suc (a + i) = omega arith in at_drop a ys i x (subst (λ z. slice_get (y ∷ ys) z ≡ Some x) e h)

pub range_has : {A : Type 0} (xs : List A) (a b : ℕ) (x : A) → Contains (slice_range xs a b) x → (i : ℕ) × (a ≤ i) × (i < b) × (slice_get xs i ≡ Some x)
range_has xs a b x c =
    let t = has_take_at (b - a) (drop a xs) x (contains_has (slice_range xs a b) x c) in
    (a + t.0, omega arith, (let w = t.1 in omega arith), drop_at a xs t.0 x t.2)

pub has_range : {A : Type 0} (xs : List A) (a b i : ℕ) (x : A) → a ≤ i → i < b → slice_get xs i ≡ Some x → Contains (slice_range xs a b) x
has_range xs a b i x from upto h =
    let e : a + (i - a) ≡ i = omega arith in
    has_contains (slice_range xs a b) x (take_at (b - a) (drop a xs) (i - a) x (omega arith) (at_drop a xs (i - a) x (subst (λ z. slice_get xs z ≡ Some x) (sym e) h)))

-- an element of a list around another one is before it, or it, or behind it
pub get_around : {A : Type 0} (xs : List A) (t : A) (ys : List A) (k : ℕ) (p : A) → slice_get (xs ++ t ∷ ys) k ≡ Some p → ((k < length xs) × Has xs p) ⊎ ((k ≡ length xs) × (t ≡ p)) ⊎ ((length xs < k) × Has ys p)
get_around [] t ys zero p h = inr (inl (refl, cc))
get_around [] t ys (suc k) p h = inr (inr (omega arith, place_has ys k p h))
get_around (x ∷ xs) t ys zero p h = inl (omega arith, inl cc)
get_around (x ∷ xs) t ys (suc k) p h = ⊎_elim
    (λ f. inl ((let b = f.0 in omega arith), inr f.1))
    (λ g. ⊎_elim (λ m. inr (inl ((let b = m.0 in omega arith), m.1))) (λ b. inr (inr ((let c = b.0 in omega arith), b.1))) g)
    (get_around xs t ys k p h)

pub front_place : {A : Type 0} (xs rest : List A) (x : A) → Has xs x → (j : ℕ) × (j < length xs) × (slice_get (xs ++ rest) j ≡ Some x)
front_place [] rest x h = absurd h
front_place (y ∷ ys) rest x h = ⊎_elim (λ (q : y ≡ x). (0, omega arith, ap (λ z. Some z) q)) (λ t. let r = front_place ys rest x t in (suc r.0, (let b = r.1 in omega arith), r.2)) h

pub mid_place : {A : Type 0} (xs : List A) (t : A) (ys : List A) → slice_get (xs ++ t ∷ ys) (length xs) ≡ Some t
mid_place [] t ys = refl
mid_place (x ∷ xs) t ys = mid_place xs t ys

-- ---- runs

pub record IsRun (at : ℕ) (ids : List ℕ) (r : Run) : Type 0 where
  pub from : at ≤ r.first
  pub some : r.first < r.past
  pub upto : r.past ≤ at + length ids
  pub page : (i id : ℕ) → r.first ≤ at + i → at + i < r.past → slice_get ids i ≡ Some id → xact_page id ≡ r.page

pub record AreRuns (at : ℕ) (ids : List ℕ) (rs : List Run) : Type 0 where
  pub each : (r : Run) → Has rs r → IsRun at ids r
  pub cover : (i : ℕ) → i < length ids → (r : Run) × Has rs r × (r.first ≤ at + i) × (at + i < r.past)

abbrev pub Begins : ℕ → List Run → Type 0
Begins at [] = Unit {0}
Begins at (r ∷ rs) = r.first ≡ at

later_run : (at id : ℕ) (ids : List ℕ) (r : Run) → IsRun (at + 1) ids r → IsRun at (id ∷ ids) r
later_run at id ids r s = record {
  from = let f = s.from in omega arith;
  some = s.some;
  upto = let u = s.upto in omega arith;
  page = page;
}
  where
    page : (i x : ℕ) → r.first ≤ at + i → at + i < r.past → slice_get (id ∷ ids) i ≡ Some x → xact_page x ≡ r.page
    page zero x lo hi h = absurd (let f = s.from in omega arith)
    page (suc i) x lo hi h = s.page i x (omega arith) (omega arith) h

one_run : (at id : ℕ) (ids : List ℕ) → IsRun at (id ∷ ids) (record { page = xact_page id; first = at; past = at + 1 })
one_run at id ids = record { from = omega arith; some = omega arith; upto = omega arith; page = page }
  where
    page : (i x : ℕ) → at ≤ at + i → at + i < at + 1 → slice_get (id ∷ ids) i ≡ Some x → xact_page x ≡ xact_page id
    page zero x lo hi h = let q : id ≡ x = cc in ap xact_page (sym q)
    page (suc i) x lo hi h = absurd (omega arith)

more_run : (at id : ℕ) (ids : List ℕ) (r : Run) → IsRun (at + 1) ids r → r.first ≡ at + 1 → r.page ≡ xact_page id → IsRun at (id ∷ ids) (record { page = xact_page id; first = at; past = r.past })
more_run at id ids r s first same = record { from = omega arith; some = (let a = s.some in omega arith); upto = (let u = s.upto in omega arith); page = page }
  where
    page : (i x : ℕ) → at ≤ at + i → at + i < r.past → slice_get (id ∷ ids) i ≡ Some x → xact_page x ≡ xact_page id
    page zero x lo hi h = let q : id ≡ x = cc in ap xact_page (sym q)
    page (suc i) x lo hi h = s.page i x (omega arith) (omega arith) h ∙ same

next_are : (at id : ℕ) (ids : List ℕ) (rs : List Run) → AreRuns (at + 1) ids rs → Begins (at + 1) rs → AreRuns at (id ∷ ids) (with_next (xact_page id) at rs) × Begins at (with_next (xact_page id) at rs)
next_are at id ids [] a b = (record { each = each; cover = cover }, refl)
  where
    one : Run
    one = record { page = xact_page id; first = at; past = at + 1 }

    each : (r : Run) → Has (one ∷ []) r → IsRun at (id ∷ ids) r
    each r h = ⊎_elim (λ (q : one ≡ r). subst (IsRun at (id ∷ ids)) q (one_run at id ids)) (λ n. absurd n) h

    cover : (i : ℕ) → i < length (id ∷ ids) → (r : Run) × Has (one ∷ []) r × (r.first ≤ at + i) × (at + i < r.past)
    cover zero within = (one, inl refl, omega arith, omega arith)
    cover (suc i) within = absurd ((a.cover i (omega arith)).1)
next_are at id ids (r ∷ rs) a b = of (r.page == xact_page id) refl
  where
    one : Run
    one = record { page = xact_page id; first = at; past = at + 1 }

    more : Run
    more = record { page = xact_page id; first = at; past = r.past }

    of : (same : Bool) → (r.page == xact_page id) ≡ same → AreRuns at (id ∷ ids) (cond same (more ∷ rs) (one ∷ (r ∷ rs))) × Begins at (cond same (more ∷ rs) (one ∷ (r ∷ rs)))
    of true is = (record { each = each; cover = cover }, refl)
      where
        each : (q : Run) → Has (more ∷ rs) q → IsRun at (id ∷ ids) q
        each q h = ⊎_elim (λ (e : more ≡ q). subst (IsRun at (id ∷ ids)) e (more_run at id ids r (a.each r (inl refl)) b (eqb-true r.page (xact_page id) is))) (λ t. later_run at id ids q (a.each q (inr t))) h

        cover : (i : ℕ) → i < length (id ∷ ids) → (q : Run) × Has (more ∷ rs) q × (q.first ≤ at + i) × (at + i < q.past)
        cover zero within = (more, inl refl, omega arith, (let s = (a.each r (inl refl)).some in omega arith))
        cover (suc i) within =
            let c = a.cover i (omega arith) in
            ⊎_elim
            (λ (e : r ≡ c.0). let p : r.past ≡ c.0.past = ap (λ (z : Run). z.past) e in let u = c.3 in (more, inl refl, omega arith, omega arith))
            (λ t. let lo = c.2 in let hi = c.3 in (c.0, inr t, omega arith, omega arith))
            c.1
    of false is = (record { each = each; cover = cover }, refl)
      where
        each : (q : Run) → Has (one ∷ (r ∷ rs)) q → IsRun at (id ∷ ids) q
        each q h = ⊎_elim (λ (e : one ≡ q). subst (IsRun at (id ∷ ids)) e (one_run at id ids)) (λ t. later_run at id ids q (a.each q t)) h

        cover : (i : ℕ) → i < length (id ∷ ids) → (q : Run) × Has (one ∷ (r ∷ rs)) q × (q.first ≤ at + i) × (at + i < q.past)
        cover zero within = (one, inl refl, omega arith, omega arith)
        cover (suc i) within = let c = a.cover i (omega arith) in let lo = c.2 in let hi = c.3 in (c.0, inr c.1, omega arith, omega arith)

pub runs_are : (at : ℕ) (ids : List ℕ) → AreRuns at ids (runs at ids) × Begins at (runs at ids)
runs_are at [] = (record { each = λ r h. absurd h; cover = λ i within. absurd (omega arith) }, tt)
runs_are at (id ∷ ids) = let t = runs_are (at + 1) ids in next_are at id ids (runs (at + 1) ids) t.0 t.1

-- the ids of a run share the page of its first one
pub run_shares : (ids : List ℕ) (first past : ℕ) (rest : List Run) → runs first (drop first ids) ≡ run_at (slice_index ids first) first past ∷ rest → (id : ℕ) → Contains (slice_range ids first past) id → xact_page id ≡ xact_page (slice_index ids first)
run_shares ids first past rest is id c =
    let one : Run = run_at (slice_index ids first) first past in
    let run = (runs_are first (drop first ids)).0.each one (subst (λ (rs : List Run). Has rs one) (sym is) (inl refl)) in
    let found = range_has ids first past id c in
    let lo = found.1 in
    let hi = found.2 in
    let e : first + (found.0 - first) ≡ found.0 = omega arith in
    run.page (found.0 - first) id (omega arith) (omega arith) (at_drop first ids (found.0 - first) id (subst (λ z. slice_get ids z ≡ Some id) (sym e) found.3))
