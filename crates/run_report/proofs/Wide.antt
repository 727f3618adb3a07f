-- In a life of few ids no id reaches its stop limit, and none of the first ones is too old.
use Rattle.std.proofs.Common.{◌≡◌, ℕ, ◌+◌, ◌-◌, ◌^◌, ◌<◌, ◌≤◌, zero, suc, nat_lt, false, List, [], ◌∷◌, Some, IfSome, refl, sym, ap, subst, ◌∙◌, arith, length, take, inl, inr}
use Rattle.std.proofs.lemmas.Bool.Decides.{nat_tests}
use Rattle.std.specs.List.{AllByRecursion}
use Rattle.tx_events.specs.Ids.{next_id}
use Rattle.tx_events.specs.Limits.{stop_limit}
use Rattle.tx_events.specs.Nearest.{near_id, offset_near}
use Rattle.tx_events.specs.declared.event.Event.{Event}
use Rattle.tx_events.specs.declared.event.Event.TheVariants as events
use Rattle.tx_events.specs.Events.{given}
use Rattle.tx_events.specs.History.{IsLegal, next_given, nth_id}
use Rattle.tx_events.specs.Horizon.{oldest_id}
use Rattle.tx_events.specs.Snapshots.{snapshot_xmax}
use Rattle.tx_events.proofs.GivenIds.{given_below, legal_take}
use Rattle.tx_events.proofs.ListSteps.{le_or_over}
use Rattle.tx_events.proofs.SnapshotBounds.{below_given}
use Rattle.life_law.specs.Facts.{Facts}
use Rattle.run_report.proofs.Replies.{IsWide}

-- ---- a history that announces no oldest id

abbrev pub IsQuiet : Event → Type 0
IsQuiet (events.Oldest by oldest) = ⊥
IsQuiet e = Unit {0}

oldest_stays : (oldest : ℕ) (h : List Event) → AllByRecursion IsQuiet h → oldest_id oldest h ≡ oldest
oldest_stays oldest [] a = refl
oldest_stays oldest (events.Oldest by new ∷ h) a = absurd a.0
oldest_stays oldest (e ∷ h) a = oldest_stays oldest h a.1

all_taken : {X : Type 0} (P : X → Type 0) (n : ℕ) (xs : List X) → AllByRecursion P xs → AllByRecursion P (take n xs)
all_taken P zero xs a = tt
all_taken P (suc n) [] a = tt
all_taken P (suc n) (x ∷ xs) a = (a.0, all_taken P n xs a.1)

-- ---- few ids

next_plain : (x : ℕ) → 3 ≤ x → x < 4294967295 → next_id x ≡ x + 1
next_plain x l m = grind (arith, nat_tests)

nth_small : (n : ℕ) → n ≤ 3000000 → (3 ≤ nth_id 3 n) × (nth_id 3 n ≤ 3 + n)
nth_small zero l = (omega arith, omega arith)
nth_small (suc n) l =
    let i = nth_small n (omega arith) in
    let e = next_plain (nth_id 3 n) i.0 (omega arith) in
    (omega arith, omega arith)

given_taken : (n : ℕ) (h : List Event) → length (given (take n h)) ≤ length (given h)
given_taken zero h = omega arith
given_taken (suc n) [] = omega arith
given_taken (suc n) (events.Id by id ∷ h) = let i = given_taken n h in omega arith
given_taken (suc n) (events.Sub by parent id ∷ h) = let i = given_taken n h in omega arith
given_taken (suc n) (events.Undo by id ∷ h) = given_taken n h
given_taken (suc n) (events.Commit by top ∷ h) = given_taken n h
given_taken (suc n) (events.Abort by top ∷ h) = given_taken n h
given_taken (suc n) (events.Snap name by ∷ h) = given_taken n h
given_taken (suc n) (events.SnapDrop name by ∷ h) = given_taken n h
given_taken (suc n) (events.Oldest by oldest ∷ h) = given_taken n h
given_taken (suc n) (events.Ask by id ∷ h) = given_taken n h

next_small : (n : ℕ) (h : List Event) → length (given h) < 2900000 → next_given 3 (take n h) < 3000000
next_small n h few = let t = given_taken n h in let s = nth_small (length (given (take n h))) (omega arith) in let m = s.1 in omega arith

-- ---- near a small number

near_small : (f x : ℕ) → f ≤ 3000000 → 3 ≤ x → x ≤ 100002 → near_id f x ≡ Some x
near_small f x l m n =
    let o : offset_near f x ≡ x + 2147483648 - f = omega arith in
    let past : nat_lt (f + offset_near f x) (2 ^ 31) ≡ false = grind (arith, nat_tests) in
    let same : f + offset_near f x - 2 ^ 31 ≡ x = omega arith in
    rw past (ap Some same)

module _ (f : Facts) (base_next : f.base.next ≡ 3) (base_oldest : f.base.oldest ≡ 3) (legal : IsLegal f.base f.events)
    (few : length (given f.events) < 2900000) (quiet : AllByRecursion IsQuiet f.events) where
  oldest_three : (n : ℕ) → oldest_id f.base.oldest (take n f.events) ≡ 3
  oldest_three n = oldest_stays f.base.oldest (take n f.events) (all_taken IsQuiet n f.events quiet) ∙ base_oldest

  next_below : (n : ℕ) → next_given f.base.next (take n f.events) < 3000000
  next_below n = subst (λ next. next_given next (take n f.events) < 3000000) (sym base_next) (next_small n f.events few)

  xmax_below : (n : ℕ) → snapshot_xmax f.base.next (take n f.events) ≤ 3000000
  xmax_below n = elim (le_or_over (snapshot_xmax f.base.next (take n f.events)) 3000000) [ inl l ↦ l | inr l ↦ absurd (past l) ]
    where
      past : 3000000 < snapshot_xmax f.base.next (take n f.events) → ⊥
      past l =
          let before = legal_take f.base f.events n legal in
          let has = below_given f.base (take n f.events) 3000000 before (omega arith) (omega arith) (omega arith) l in
          let low = given_below f.base (take n f.events) before 3000000 has in
          let most = next_below n in
          omega arith

  pub wide : IsWide f
  wide = record {
    no_stop = λ round by next stop s.
        let a = next_below s.place in
        let b = s.next_is in
        let c : stop ≡ stop_limit 3 = s.stop_is ∙ ap stop_limit (oldest_three s.place) in
        let r = s.reached in
        omega arith;
    no_old = λ round by number name x oldest l m o.
        let near = near_small (snapshot_xmax f.base.next (take o.place f.events)) x (xmax_below o.place) l m in
        let old : x < oldest = subst (λ found. IfSome found (λ id. id < oldest)) near o.older in
        let three : oldest ≡ 3 = o.found.oldest_is ∙ oldest_three (o.found.place - o.found.lag) in
        omega arith;
  }
