-- At each moment of the recovery the pages fit, and at its end they show the base.
use Rattle.std.proofs.Common.{◌≡◌, ⊎_elim, ℕ, ◌<◌, ◌≤◌, ◌++◌, List, Some, Contains, sym, ap, subst, arith}
use Rattle.tx_events.specs.Ids.{low_half}
use Rattle.disk_core.specs.Pages.{Pages}
use Rattle.tx_events.specs.declared.record.Rec.{Rec}
use Rattle.tx_events.proofs.Membership.{contains_has, has_cases, has_contains, has_left, has_right}
use Rattle.tx_events.specs.LifeBase.{LifeBase, committed_in}
use Rattle.recoverable.specs.Fit.{IsCommitCode, KeptLog, XactFits, base_at, log_end}
use Rattle.recoverable.specs.XactImages.{code_at}
use Rattle.replay_multis.specs.declared.share.Share.{Share}
use Rattle.replay_core.specs.Redo.{HasPlace, code_in}
use Rattle.replay_core.specs.Restore.{IsPast, MayBecome}
use Rattle.replay_core.specs.Laws.{FitsWithin, IsOn, IsToRedo, IsWholeFrom, ShowsBase, end_base}
use Rattle.replay_core.proofs.PastIds.{is_past, not_past}

-- what fitting asks of the code at one place of the bank
record CodeFits (log : KeptLog) (n x code : ℕ) : Type 0 where
  committed : Contains (base_at log n).committed x → (base_at log log.flushed).counters.oldest ≤ x → code ≡ 1
  place : IsCommitCode code → (y : ℕ) × Contains (base_at log log.flushed).committed y × (low_half y ≡ low_half x)
  here : (base_at log log.flushed).counters.oldest ≤ x → x < (base_at log (log_end log)).counters.next → IsCommitCode code → Contains (base_at log log.flushed).committed x

codes_of : (share : Share) (log : KeptLog) (n : ℕ) (c : Pages) → XactFits share.banks share.bank log n c → (x : ℕ) → IsOn share x → CodeFits log n x (code_at c x)
codes_of share log n c f x on = record {
  committed = λ among from. f.committed x among from on;
  place = λ code. f.no_other.place x on code;
  here = λ from to code. f.no_other.here x on from to code;
}

fits_of : (share : Share) (log : KeptLog) (n : ℕ) (c : Pages) → ((x : ℕ) → IsOn share x → CodeFits log n x (code_at c x)) → XactFits share.banks share.bank log n c
fits_of share log n c each = record {
  committed = λ x among from on. (each x on).committed among from;
  no_other = record { place = λ x on code. (each x on).place code; here = λ x on from to code. (each x on).here from to code };
}

zero_code : IsCommitCode 0 → ⊥
zero_code h = ⊎_elim (λ (e : 0 ≡ 1). omega arith) (λ (e : 0 ≡ 3). omega arith) h

-- a place where a named id stands may read committed; one past the next id may read nothing
become_fits : (share : Share) (log : KeptLog) (n : ℕ) (recs : List Rec) (x code : ℕ) → IsWholeFrom log n recs → MayBecome (IsToRedo share log recs) (end_base log).counters.next x code → CodeFits log n x code
become_fits share log n recs x code w h =
    let same : base_at log log.flushed ≡ end_base log = ap (base_at log) w.flushed in
    let window = w.window.1 in
    ⊎_elim
    (λ (k : (code ≡ 1) × HasPlace (IsToRedo share log recs) x).
    let y : ℕ = k.1.0 in let named = k.1.1 in
    let among : Contains (end_base log).committed k.1.0 = subst (λ (t : List ℕ). Contains t k.1.0) (sym w.rest) (has_contains ((base_at log n).committed ++ committed_in recs) k.1.0 (has_right (base_at log n).committed (committed_in recs) k.1.0 (contains_has (committed_in recs) k.1.0 named.among))) in
    let low : k.1.0 < (end_base log).counters.next = w.below k.1.0 among in
    let from_y : (end_base log).counters.oldest ≤ k.1.0 = named.from in
    let halves : low_half k.1.0 ≡ low_half x = k.1.2 in
    record {
      committed = λ a b. k.0;
      place = λ c. (k.1.0, subst (λ (b : LifeBase). Contains b.committed k.1.0) (sym same) among, halves);
      here = λ from to c.
          let from_x : (end_base log).counters.oldest ≤ x = subst (λ (b : LifeBase). b.counters.oldest ≤ x) same from in
          let one : k.1.0 ≡ x = omega arith in
          subst (λ (b : LifeBase). Contains b.committed x) (sym same) (subst (λ z. Contains (end_base log).committed z) one among);
    })
    (λ (k : (code ≡ 0) × IsPast (end_base log).counters.next x).
    let none : IsCommitCode code → ⊥ = λ c. zero_code (subst IsCommitCode k.0 c) in
    record {
      committed = λ among from.
          let from_x : (end_base log).counters.oldest ≤ x = subst (λ (b : LifeBase). b.counters.oldest ≤ x) same from in
          let all : Contains (end_base log).committed x = subst (λ (t : List ℕ). Contains t x) (sym w.rest) (has_contains ((base_at log n).committed ++ committed_in recs) x (has_left (base_at log n).committed (committed_in recs) x (contains_has (base_at log n).committed x among))) in
          let below = w.below x all in
          absurd (not_past (end_base log).counters.next x below (omega arith) k.1);
      place = λ c. absurd (none c);
      here = λ from to c. absurd (none c);
    })
    h

pub fits_within : FitsWithin
fits_within share log n recs m c d w map fits may = fits_of share log n d (λ x on.
    ⊎_elim
    (λ (e : code_at d x ≡ code_at c x). subst (CodeFits log n x) (sym e) (codes_of share log n c fits x on))
    (λ h. ⊎_elim
    (λ (e : code_at d x ≡ code_in m x). subst (CodeFits log n x) (sym e) (codes_of share log n (λ q. Some (m q)) map x on))
    (λ (k : MayBecome (IsToRedo share log recs) (end_base log).counters.next x (code_at d x)). become_fits share log n recs x (code_at d x) w k)
    h)
    (may.each x))

pub shows_base : ShowsBase
shows_base share log n recs m new w map all =
    let same : base_at log log.flushed ≡ end_base log = ap (base_at log) w.flushed in
    let window = w.window.1 in
    let before : (x : ℕ) → IsOn share x → CodeFits log n x (code_in m x) = codes_of share log n (λ q. Some (m q)) map in
    let after : (x : ℕ) → IsOn share x → CodeFits log n x (code_in new x) = λ x on. ⊎_elim (λ (e : code_in new x ≡ code_in m x). subst (CodeFits log n x) (sym e) (before x on)) (λ k. become_fits share log n recs x (code_in new x) w k) (all.each x) in
    record {
      committed = λ x on among from.
          let below = w.below x among in
          let still : IsPast (end_base log).counters.next x → ⊥ = not_past (end_base log).counters.next x below (omega arith) in
          ⊎_elim
          (λ old. (after x on).committed (has_contains (base_at log n).committed x old) (subst (λ (b : LifeBase). b.counters.oldest ≤ x) (sym same) from))
          (λ later. all.done x (record { among = has_contains (committed_in recs) x later; from = from; on = on }) still)
          (has_cases (base_at log n).committed (committed_in recs) x (contains_has ((base_at log n).committed ++ committed_in recs) x (subst (λ (t : List ℕ). Contains t x) w.rest among)));
      only = λ x on from to code. subst (λ (b : LifeBase). Contains b.committed x) same ((after x on).here (subst (λ (b : LifeBase). b.counters.oldest ≤ x) (sym same) from) to code);
      place = λ x on code. let y = (after x on).place code in (y.0, subst (λ (b : LifeBase). Contains b.committed y.0) same y.1, y.2);
      clean = λ x from near. all.cleared x (is_past (end_base log).counters.next x from near);
    }
