-- A commit that was answered ok stands in each later life.
use Rattle.std.proofs.Common.{List, Some, [], ap, arith, refl, subst, suc, sym, take, zero, ℕ, ⊎_elim, ◌++◌, ◌+◌, ◌-◌, ◌∙◌, ◌∷◌, ◌≡◌, ◌≤◌, slice_get}
use Rattle.std.proofs.lemmas.List.{take-take}
use Rattle.std.proofs.lemmas.Option.{same_Some}
use Rattle.tx_events.specs.LifeBase.{LifeBase, committed_by, committed_in}
use Rattle.tx_events.specs.declared.record.Rec.{Rec}
use Rattle.tx_events.specs.declared.record.Rec.TheVariants as records
use Rattle.tx_events.proofs.Membership.{Has, contains_has, has_contains, has_left, has_right, has_take}
use Rattle.tx_model.specs.declared.report.Life.{Life}
use Rattle.tx_model.specs.declared.report.LifeReport.{LifeReport}
use Rattle.life_law.proofs.Lawful.{commits_flushed}
use Rattle.report_law.specs.Laws.{OkCommitsStay}
use Rattle.report_law.specs.Lives.{GoOn, GoesOnFrom, recs_below}

-- what is among the first m is among the first n
among_more : (m n : ℕ) (recs : List Rec) (rec : Rec) → m ≤ n → Has (take m recs) rec → Has (take n recs) rec
among_more m n recs rec le h =
    let same : take m (take n recs) ≡ take m recs = take-take m n recs le in
    has_take m (take n recs) rec (subst (λ (t : List Rec). Has t rec) (sym same) h)

-- the ids of a record are committed in records that have it
named_in : (recs : List Rec) (rec : Rec) (id : ℕ) → Has recs rec → Has (committed_by rec) id → Has (committed_in recs) id
named_in [] rec id h k = absurd h
named_in (r ∷ recs) rec id h k = ⊎_elim
    (λ (e : r ≡ rec). has_left (committed_by r) (committed_in recs) id (subst (λ (z : Rec). Has (committed_by z) id) (sym e) k))
    (λ t. has_right (committed_by r) (committed_in recs) id (named_in recs rec id t k))
    h

-- ---- one life and the next

module _ (before after : Life) (g : GoesOnFrom before after) where
  committed_is : after.committed ≡ before.committed ++ committed_in (recs_below before after.from)
  committed_is = ap (λ (b : LifeBase). b.committed) g.base

  stays_next : (id : ℕ) → Has before.committed id → Has after.committed id
  stays_next id h = subst (λ (t : List ℕ). Has t id) (sym committed_is) (has_left before.committed (committed_in (recs_below before after.from)) id h)

  flushed_next : (rec : Rec) (id : ℕ) → Has (take (before.flushed - before.from) before.recs) rec → Has (committed_by rec) id → Has after.committed id
  flushed_next rec id among named =
      let flushed = g.flushed in
      let more : before.flushed - before.from ≤ after.from - before.from = omega (arith, flushed) in
      let there : Has (recs_below before after.from) rec = among_more (before.flushed - before.from) (after.from - before.from) before.recs rec more among in
      subst (λ (t : List ℕ). Has t id) (sym committed_is) (has_right before.committed (committed_in (recs_below before after.from)) id (named_in (recs_below before after.from) rec id there named))

-- ---- all lives

-- each goes on from the one before
pub go_at : (lives : List LifeReport) (n : ℕ) (a b : LifeReport) → GoOn lives → slice_get lives n ≡ Some a → slice_get lives (suc n) ≡ Some b → GoesOnFrom a.life b.life
go_at [] n a b go at_a at_b = absurd cc
go_at (x ∷ []) n a b go at_a at_b = absurd cc
go_at (x ∷ (y ∷ lives)) zero a b go at_a at_b =
    subst (λ (r : LifeReport). GoesOnFrom a.life r.life) (same_Some y b at_b) (subst (λ (r : LifeReport). GoesOnFrom r.life y.life) (same_Some x a at_a) go.0)
go_at (x ∷ (y ∷ lives)) (suc n) a b go at_a at_b = go_at (y ∷ lives) n a b go.1 at_a at_b

get_below : (lives : List LifeReport) (m n : ℕ) (r : LifeReport) → slice_get lives m ≡ Some r → n ≤ m → (s : LifeReport) × (slice_get lives n ≡ Some s)
get_below [] m n r e le = absurd cc
get_below (x ∷ lives) m zero r e le = (x, refl)
get_below (x ∷ lives) zero (suc n) r e le = absurd (omega (arith, le))
get_below (x ∷ lives) (suc m) (suc n) r e le = get_below lives m n r e (omega (arith, le))

module _ (lives : List LifeReport) (go : GoOn lives) (id : ℕ) where
  stays : (d n : ℕ) (a b : LifeReport) → slice_get lives n ≡ Some a → slice_get lives (n + d) ≡ Some b → Has a.life.committed id → Has b.life.committed id
  stays zero n a b at_a at_b h =
      let same : n + 0 ≡ n = omega arith in
      subst (λ (r : LifeReport). Has r.life.committed id) (same_Some a b (sym at_a ∙ subst (λ k. slice_get lives k ≡ Some b) same at_b)) h
  stays (suc d) n a b at_a at_b h =
      let next = get_below lives (n + suc d) (suc n) b at_b (omega arith) in
      let same : n + suc d ≡ suc n + d = omega arith in
      stays d (suc n) next.0 b next.1 (subst (λ k. slice_get lives k ≡ Some b) same at_b) (stays_next a.life next.0.life (go_at lives n a next.0 go at_a next.1) id h)

pub ok_commits_stay : OkCommitsStay
ok_commits_stay lives n m a b l top lawful go at_a at_b less ok =
    let f = commits_flushed a l top lawful ok in
    let rec : Rec = records.Commit top f.0 in
    let next = get_below lives m (suc n) b at_b (omega (arith, less)) in
    let rest : m ≡ suc n + (m - suc n) = omega (arith, less) in
    let last = subst (λ k. slice_get lives k ≡ Some b) rest at_b in (
      f.0,
      f.1,
      λ id c.
          let first = flushed_next a.life next.0.life (go_at lives n a next.0 go at_a next.1) rec id (contains_has (take (a.life.flushed - a.life.from) a.life.recs) rec f.1) (contains_has (top ∷ f.0) id c) in
          has_contains b.life.committed id (stays lives go id (m - suc n) (suc n) next.0 b next.1 last first),
    )
