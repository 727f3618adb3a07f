-- An image that fits a log fits it as it begins earlier, too.
use Rattle.std.proofs.Common.{Contains, List, [], arith, suc, take, zero, ℕ, ⊎_elim, ◌++◌, ◌+◌, ◌-◌, ◌≤◌, ◌∷◌}
use Rattle.std.specs.List.{filter}
use Rattle.disk_core.specs.Pages.{Pages}
use Rattle.tx_events.specs.After.{after_record, after_records}
use Rattle.tx_events.specs.declared.record.Counters.{Counters}
use Rattle.tx_events.specs.declared.record.Rec.{Rec}
use Rattle.tx_events.proofs.Membership.{contains_has, filter_has, has_cases, has_contains, has_filter, has_flat_map, has_left, has_right}
use Rattle.recoverable.specs.Fit.{KeptLog, XactFits, base_at, recs_below}
use Rattle.recoverable.specs.FitMultis.{MembersFit, OffsetsFit}
use Rattle.tx_events.specs.LifeBase.{committed_by, committed_in, is_multi}
use Rattle.recoverable.proofs.LogBases.{multi_grows}
use Rattle.recoverable.proofs.Stretches.{flat_map_has, has_longer}

module _ (log : KeptLog) (n m : ℕ) (le : n ≤ m) where
  committed_later : (x : ℕ) → Contains (base_at log n).committed x → Contains (base_at log m).committed x
  committed_later x c =
      has_contains (log.base.committed ++ committed_in (recs_below log m)) x
      (⊎_elim
      (λ old. has_left log.base.committed (committed_in (recs_below log m)) x old)
      (λ new.
      let found = has_flat_map committed_by (recs_below log n) x new in
      let longer = has_longer (n - log.first) (m - log.first) log.recs found.0 (omega arith) found.1 in
      has_right log.base.committed (committed_in (recs_below log m)) x (flat_map_has committed_by (recs_below log m) found.0 x longer found.2))
      (has_cases log.base.committed (committed_in (recs_below log n)) x (contains_has (base_at log n).committed x c)))

  recorded_later : (rec : Rec) → Contains (base_at log n).recorded rec → Contains (base_at log m).recorded rec
  recorded_later rec c =
      has_contains (log.base.recorded ++ filter is_multi (recs_below log m)) rec
      (⊎_elim
      (λ old. has_left log.base.recorded (filter is_multi (recs_below log m)) rec old)
      (λ new.
      let found = has_filter is_multi (recs_below log n) rec new in
      let longer = has_longer (n - log.first) (m - log.first) log.recs rec (omega arith) found.0 in
      has_right log.base.recorded (filter is_multi (recs_below log m)) rec (filter_has is_multi (recs_below log m) rec longer found.1))
      (has_cases log.base.recorded (filter is_multi (recs_below log n)) rec (contains_has (base_at log n).recorded rec c)))

multi_taken : (c : Counters) (n m : ℕ) (xs : List Rec) → n ≤ m → (after_records c (take n xs)).multi ≤ (after_records c (take m xs)).multi
multi_taken c zero m xs le = multi_grows c (take m xs)
multi_taken c (suc n) zero xs le = absurd (omega arith)
multi_taken c (suc n) (suc m) [] le = omega arith
multi_taken c (suc n) (suc m) (x ∷ xs) le = multi_taken (after_record c x) n m xs (omega arith)

module _ (banks bank : ℕ) (log : KeptLog) (n m : ℕ) (c : Pages) (le : n ≤ m) where
  pub xact_earlier : XactFits banks bank log m c → XactFits banks bank log n c
  xact_earlier fits = record {
    committed = λ x among. fits.committed x (committed_later log n m le x among);
    no_other = fits.no_other;
  }

  pub offsets_earlier : OffsetsFit banks bank log m c → OffsetsFit banks bank log n c
  offsets_earlier fits = record {
    recorded = λ multi offset members among. fits.recorded multi offset members (recorded_later log n m le _ among);
    no_other = λ multi full from below.
        let up = multi_taken log.base.counters (n + 1 - log.first) (m + 1 - log.first) log.recs (omega arith) in
        fits.no_other multi full from (omega arith);
  }

  pub members_earlier : MembersFit banks bank log m c → MembersFit banks bank log n c
  members_earlier fits = record {
    recorded = λ multi offset k members member among. fits.recorded multi offset k members member (recorded_later log n m le _ among);
    no_gap = fits.no_gap;
    tails = fits.tails;
  }
