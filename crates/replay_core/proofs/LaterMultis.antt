-- The log's part of a recovery keeps what fits of offsets and members.
use Rattle.std.proofs.Common.{◌≡◌, ⊎_elim, ℕ, ◌+◌, ◌-◌, ◌<◌, ◌≤◌, ◌⊎◌, ◌++◌, ◌∙◌, Contains, sym, take, ap, subst, arith}
use Rattle.std.specs.List.{filter}
use Rattle.tx_events.specs.declared.record.Rec.{Rec}
use Rattle.tx_events.specs.declared.record.Rec.TheVariants as records
use Rattle.tx_events.proofs.Membership.{contains_has, has_contains, has_left}
use Rattle.tx_events.specs.LifeBase.{LifeBase, base_after, is_multi}
use Rattle.disk_core.specs.Pages.{Pages}
use Rattle.recoverable.specs.Fit.{KeptLog, base_at, log_end}
use Rattle.recoverable.specs.FitMultis.{MembersFit, OffsetsFit}
use Rattle.recoverable.proofs.LogBases.{multi_grows, offset_grows, oldest_multi_grows}
use Rattle.replay_core.specs.Laws.{end_base, up_to, with_checkpoint}
use Rattle.replay_core.specs.LawsMultis.{CheckpointFitsMembers, CheckpointFitsOffsets, CutFitsMembers, CutFitsOffsets}
use Rattle.replay_core.proofs.Phases.{checkpoint_before, checkpoint_end, checkpoint_same, cut_base, cut_end_base, later_base}

-- what a later base knows of an earlier one
pub record IsLater (old new : LifeBase) : Type 0 where
  pub more : (rec : Rec) → Contains old.recorded rec → Contains new.recorded rec
  pub oldest : old.counters.oldest_multi ≤ new.counters.oldest_multi
  pub multi : old.counters.multi ≤ new.counters.multi
  pub offset : old.counters.offset ≤ new.counters.offset

pub is_later : (log : KeptLog) (f k : ℕ) → log.first ≤ f → f ≤ k → IsLater (base_at log f) (base_at log k)
is_later log f k from le =
    let later = later_base log f k from le in
    subst (λ (b : LifeBase). IsLater (base_at log f) b) (sym later.1) (record {
      more = λ rec c. has_contains ((base_at log f).recorded ++ filter is_multi later.0) rec (has_left (base_at log f).recorded (filter is_multi later.0) rec (contains_has (base_at log f).recorded rec c));
      oldest = oldest_multi_grows (base_at log f).counters later.0;
      multi = multi_grows (base_at log f).counters later.0;
      offset = offset_grows (base_at log f).counters later.0;
    })

-- of any two numbers
pub is_later_at : (log : KeptLog) (f k : ℕ) → f ≤ k → IsLater (base_at log f) (base_at log k)
is_later_at log f k le = ⊎_elim
    (λ (from : log.first ≤ f). is_later log f k from le)
    (λ (low : f < log.first).
    let none : f - log.first ≡ log.first - log.first = omega arith in
    let same : base_at log log.first ≡ base_at log f = ap (λ z. base_after log.base (take z log.recs)) (sym none) in
    ⊎_elim
    (λ (up : log.first ≤ k). subst (λ (b : LifeBase). IsLater b (base_at log k)) same (is_later log log.first k (omega arith) up))
    (λ (down : k < log.first).
    let nought : k - log.first ≡ log.first - log.first = omega arith in
    let again : base_at log log.first ≡ base_at log k = ap (λ z. base_after log.base (take z log.recs)) (sym nought) in
    subst (λ (b : LifeBase). IsLater b (base_at log k)) same (subst (λ (b : LifeBase). IsLater (base_at log log.first) b) again (is_later log log.first log.first (omega arith) (omega arith))))
    (way log.first k))
    (way log.first f)
  where
    way : (a b : ℕ) → (a ≤ b) ⊎ (b < a)
    way a b = grind arith

-- ---- the log up to a record

pub cut_fits_offsets : CutFitsOffsets
cut_fits_offsets banks bank log k n c from le upto begins fits =
    let flushed : base_at (up_to log k) (up_to log k).flushed ≡ base_at log k = cut_base log k k (omega arith) in
    let first : base_at (up_to log k) n ≡ base_at log n = cut_base log n k (omega arith) in
    let behind : base_at (up_to log k) (n + 1) ≡ base_at log (n + 1) = cut_base log (n + 1) k (omega arith) in
    let later = is_later log log.flushed k from le in let up = later.oldest in
    record {
      recorded = λ m x ms among old.
          let o : (base_at log k).counters.oldest_multi ≤ m = subst (λ (b : LifeBase). b.counters.oldest_multi ≤ m) flushed old in
          fits.recorded m x ms (subst (λ (b : LifeBase). Contains b.recorded (records.Multi m x ms)) first among) (omega arith);
      no_other = λ m full old below none.
          let o : (base_at log k).counters.oldest_multi ≤ m = subst (λ (b : LifeBase). b.counters.oldest_multi ≤ m) flushed old in
          fits.no_other m full (omega arith) (subst (λ (b : LifeBase). m < b.counters.multi) behind below)
          (λ x ms among. none x ms (subst (λ (b : LifeBase). Contains b.recorded (records.Multi m x ms)) (sym flushed) (later.more (records.Multi m x ms) among)));
    }

pub cut_fits_members : CutFitsMembers
cut_fits_members banks bank log k n c from le upto begins fits =
    let flushed : base_at (up_to log k) (up_to log k).flushed ≡ base_at log k = cut_base log k k (omega arith) in
    let last : base_at (up_to log k) (log_end (up_to log k)) ≡ base_at log k = cut_end_base log k (omega arith) upto in
    let first : base_at (up_to log k) n ≡ base_at log n = cut_base log n k (omega arith) in
    let later = is_later log log.flushed k from le in let up = later.oldest in
    let whole = is_later log k (log_end log) (omega arith) upto in
    record {
      recorded = λ m x j ms member among old.
          let o : (base_at log k).counters.oldest_multi ≤ m = subst (λ (b : LifeBase). b.counters.oldest_multi ≤ m) flushed old in
          fits.recorded m x j ms member (subst (λ (b : LifeBase). Contains b.recorded (records.Multi m x ms)) first among) (omega arith);
      no_gap = λ m x ms among old.
          let o : (base_at log k).counters.oldest_multi ≤ m = subst (λ (b : LifeBase). b.counters.oldest_multi ≤ m) flushed old in
          fits.no_gap m x ms (whole.more (records.Multi m x ms) (subst (λ (b : LifeBase). Contains b.recorded (records.Multi m x ms)) last among)) (omega arith);
      tails = fits.tails;
    }

-- ---- with a checkpoint

module _ (log : KeptLog) (flushed n : ℕ) (le : log_end log ≤ flushed) (begins : n ≤ log_end log) where
  at_flushed : base_at (with_checkpoint log flushed) flushed ≡ end_base log
  at_flushed = checkpoint_same log flushed flushed le

  at_first : IsLater (base_at (with_checkpoint log flushed) n) (end_base log)
  at_first = subst (λ (b : LifeBase). IsLater b (end_base log)) (sym (checkpoint_before log flushed n begins)) (is_later_at log n (log_end log) begins)

  at_next : IsLater (base_at (with_checkpoint log flushed) (n + 1)) (end_base log)
  at_next = ⊎_elim
      (λ (low : n + 1 ≤ log_end log). subst (λ (b : LifeBase). IsLater b (end_base log)) (sym (checkpoint_before log flushed (n + 1) low)) (is_later_at log (n + 1) (log_end log) low))
      (λ (high : log_end log < n + 1). subst (λ (b : LifeBase). IsLater b (end_base log)) (sym (checkpoint_same log flushed (n + 1) (omega (arith, high)))) (is_later_at log (log_end log) (log_end log) (omega arith)))
      (way (n + 1) (log_end log))
    where
      way : (a b : ℕ) → (a ≤ b) ⊎ (b < a)
      way a b = grind arith

pub checkpoint_fits_offsets : CheckpointFitsOffsets
checkpoint_fits_offsets share log flushed n c le begins shows =
    let same = at_flushed log flushed n le begins in let next = at_next log flushed n le begins in let up = next.multi in
    record {
      recorded = λ m x ms among old. shows.recorded m x ms ((at_first log flushed n le begins).more (records.Multi m x ms) among) (subst (λ (b : LifeBase). b.counters.oldest_multi ≤ m) same old);
      no_other = λ m full old below none. shows.other m full (subst (λ (b : LifeBase). b.counters.oldest_multi ≤ m) same old) (omega arith)
          (λ x ms among. none x ms (subst (λ (b : LifeBase). Contains b.recorded (records.Multi m x ms)) (sym same) among));
    }

pub checkpoint_fits_members : CheckpointFitsMembers
checkpoint_fits_members share log flushed n c le begins shows =
    let same = at_flushed log flushed n le begins in
    let last : base_at (with_checkpoint log flushed) (log_end (with_checkpoint log flushed)) ≡ end_base log = checkpoint_same log flushed (log_end (with_checkpoint log flushed)) (let e = checkpoint_end log flushed in omega (arith, e)) in
    record {
      recorded = λ m x j ms member among old. shows.recorded m x j ms member ((at_first log flushed n le begins).more (records.Multi m x ms) among) (subst (λ (b : LifeBase). b.counters.oldest_multi ≤ m) same old);
      no_gap = λ m x ms among old. shows.no_gap m x ms (subst (λ (b : LifeBase). Contains b.recorded (records.Multi m x ms)) last among) (subst (λ (b : LifeBase). b.counters.oldest_multi ≤ m) same old);
      tails = shows.tails;
    }

-- what fits the log fits it with the checkpoint, too, as long as it begins where it did
module _ (banks bank : ℕ) (log : KeptLog) (flushed n : ℕ) (c : Pages) (whole : log.flushed ≡ log_end log) (le : log_end log ≤ flushed) (begins : n < log_end log) where
  flushed_same : base_at (with_checkpoint log flushed) flushed ≡ base_at log log.flushed
  flushed_same = checkpoint_same log flushed flushed le ∙ ap (base_at log) (sym whole)

  first_same : base_at (with_checkpoint log flushed) n ≡ base_at log n
  first_same = checkpoint_before log flushed n (omega (arith, begins))

  pub behind_fits_offsets : OffsetsFit banks bank log n c → OffsetsFit banks bank (with_checkpoint log flushed) n c
  behind_fits_offsets fits =
      let next : base_at (with_checkpoint log flushed) (n + 1) ≡ base_at log (n + 1) = checkpoint_before log flushed (n + 1) (omega (arith, begins)) in
      record {
        recorded = λ m x ms among old. fits.recorded m x ms (subst (λ (b : LifeBase). Contains b.recorded (records.Multi m x ms)) first_same among) (subst (λ (b : LifeBase). b.counters.oldest_multi ≤ m) flushed_same old);
        no_other = λ m full old below none. fits.no_other m full (subst (λ (b : LifeBase). b.counters.oldest_multi ≤ m) flushed_same old) (subst (λ (b : LifeBase). m < b.counters.multi) next below)
            (λ x ms among. none x ms (subst (λ (b : LifeBase). Contains b.recorded (records.Multi m x ms)) (sym flushed_same) among));
      }

  pub behind_fits_members : MembersFit banks bank log n c → MembersFit banks bank (with_checkpoint log flushed) n c
  behind_fits_members fits =
      let last : base_at (with_checkpoint log flushed) (log_end (with_checkpoint log flushed)) ≡ end_base log = checkpoint_same log flushed (log_end (with_checkpoint log flushed)) (let e = checkpoint_end log flushed in omega (arith, e)) in
      record {
        recorded = λ m x j ms member among old. fits.recorded m x j ms member (subst (λ (b : LifeBase). Contains b.recorded (records.Multi m x ms)) first_same among) (subst (λ (b : LifeBase). b.counters.oldest_multi ≤ m) flushed_same old);
        no_gap = λ m x ms among old. fits.no_gap m x ms (subst (λ (b : LifeBase). Contains b.recorded (records.Multi m x ms)) last among) (subst (λ (b : LifeBase). b.counters.oldest_multi ≤ m) flushed_same old);
        tails = fits.tails;
      }
