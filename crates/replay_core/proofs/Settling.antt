-- The checkpoint behind what was found.
use Rattle.std.proofs.Common.{IfSome, List, None, Option, Some, [], ap, append-nil, arith, inl, inr, length, max, refl, subst, suc, sym, ℕ, ◌+◌, ◌++◌, ◌∙◌, ◌∷◌, ◌≡◌, ◌≢◌}
use Rattle.disk_core.specs.Faults.{HasRisen}
use Rattle.disk_core.specs.Images.{LeavesOnly}
use Rattle.disk_core.specs.Moments.{leaves_weaker, run_then, started}
use Rattle.disk_core.specs.Volume.{Volume}
use Rattle.disk_core.specs.declared.log_disk.LogDisk as logs
use Rattle.tx_events.specs.After.{after_record}
use Rattle.tx_events.specs.declared.record.Counters.{Counters}
use Rattle.tx_events.specs.declared.record.Rec.{Rec}
use Rattle.tx_events.specs.declared.record.Rec.TheVariants as records
use Rattle.wal_core.specs.Checkpoint.{IsLastCheckpoint}
use Rattle.wal_core.specs.Kept.{HasFlushed}
use Rattle.wal_core.specs.Log.{IsFull, bytes_of}
use Rattle.wal_core.specs.LogViews.{KeepsAll, log_disk, log_end, log_first, log_flushed, log_next, log_pending}
use Rattle.wal_core.specs.declared.checkpoint.LastCheckpoint.{LastCheckpoint}
use Rattle.wal_core.specs.declared.refusal.LogRefusal.{LogRefusal}
use Rattle.wal_core.specs.declared.refusal.LogRefusal.TheVariants as log_refusals
use Rattle.wal_core.specs.declared.wal_log.WalLog.{WalLog}
use Rattle.wal_records.specs.Spelling.{rec_bytes}
use Rattle.wal_records.proofs.Lengths.{length-checkpoint}
use Rattle.replay_core.specs.Moments.{MayHaveSettled, SettlesThroughout}
use Rattle.replay_core.specs.Opened.{EachHas}
use Rattle.replay_core.specs.Refused.{IsSettleRefusal, refusal_by}

pub same_after : (number : ℕ) (c : Counters) → after_record c (records.Checkpoint number c) ≡ c
same_after number c =
    λ i. record { next = same c.next i; oldest = same c.oldest i; multi = same c.multi i; offset = same c.offset i; oldest_multi = same c.oldest_multi i; oldest_offset = same c.oldest_offset i }
  where
    same : (n : ℕ) → max n n ≡ n
    same n = omega arith

-- a checkpoint alone, with the log's counters, may stand first
pub last_is : (gate number : ℕ) (base : Counters) (batch : List Rec) (after : Option Counters) (k : Option LastCheckpoint) → IsLastCheckpoint gate batch after k → batch ≡ records.Checkpoint number base ∷ [] → after ≡ Some base
    → (found : LastCheckpoint) × (k ≡ Some found) × (found.number ≡ number)
last_is gate number base batch after None is alone own = absurd (is number base alone own)
last_is gate number base batch after (Some found) is alone own = (found, refl, number_of (sym is.1.0 ∙ alone))
  where
    number_of : {a b : ℕ} {c d : Counters} → records.Checkpoint a c ∷ [] ≡ records.Checkpoint b d ∷ [] → a ≡ b
    number_of e = cc

-- where it does, the log begins with it
pub first_settled : (gate number first : ℕ) (base : Counters) (batch : List Rec) (after : Option Counters) (k : Option LastCheckpoint) → (batch ≢ [] → IsLastCheckpoint gate batch after k) → batch ≡ records.Checkpoint number base ∷ []
    → after ≡ Some base → IfSome k (λ found. first ≡ found.number) → first ≡ number
first_settled gate number first base batch after k is alone own here =
    let l = last_is gate number base batch after k (is (λ e. let z : records.Checkpoint number base ∷ [] ≡ [] = sym alone ∙ e in absurd cc)) alone own in
    subst (λ (o : Option LastCheckpoint). IfSome o (λ (found : LastCheckpoint). first ≡ found.number)) l.1 here ∙ l.2

-- its record has 57 bytes
checkpoint_bytes : (number : ℕ) (base : Counters) → length (bytes_of (records.Checkpoint number base ∷ [])) ≡ 57
checkpoint_bytes number base = ap (λ (bs : List ℕ). length bs) (append-nil (rec_bytes (records.Checkpoint number base))) ∙ ap (λ n. suc n) (length-checkpoint number base)

module _ {D : Type 0} {g : logs.Ghosts D} where
  -- and a batch with it alone 5 more
  pub checkpoint_end : (old : WalLog D g) (end number : ℕ) (base : Counters) → log_pending old ≡ records.Checkpoint number base ∷ []
      → (log_pending old ≢ [] → end ≡ log_end old + 5 + length (bytes_of (log_pending old))) → end ≡ log_end old + 62
  checkpoint_end old end number base is further =
      let bytes : length (bytes_of (log_pending old)) ≡ 57 = ap (λ (recs : List Rec). length (bytes_of recs)) is ∙ checkpoint_bytes number base in
      let behind : end ≡ log_end old + 5 + length (bytes_of (log_pending old)) = further (λ none. let two : records.Checkpoint number base ∷ [] ≡ [] = sym is ∙ none in absurd cc) in
      omega (arith, bytes, behind)

  pub each_kept : (first : ℕ) (all : List Rec) (log : WalLog D g) (kept flushed : ℕ) → log_first log ≡ kept → log_flushed log ≡ flushed → KeepsAll first all g.images log → EachHas first all kept flushed (g.images (log_disk log))
  each_kept first all log kept flushed a b k v image = subst (λ z. HasFlushed first all z flushed v) a (subst (λ z. HasFlushed first all (log_first log) z v) b (k.each v image))

  -- why it isn't there: a log that was just started isn't down, and only an append is full
  pub settle_refused : (number : ℕ) (base : Counters) (old new : WalLog D g) (refusal : LogRefusal) → ((at : ℕ) → refusal ≢ log_refusals.Damaged at) → ((at : ℕ) → refusal ≢ log_refusals.LogDown at)
      → (refusal ≡ log_refusals.LogFault → HasRisen (g.faults (log_disk old)) (g.faults (log_disk new)))
      → (refusal ≡ log_refusals.Full → IsFull (log_end old) 0 (length (rec_bytes (records.Checkpoint number base))))
      → IsSettleRefusal number base old new (refusal_by refusal)
  settle_refused number base old new (log_refusals.Damaged at) damaged down fault full = absurd (damaged at refl)
  settle_refused number base old new log_refusals.LogFault damaged down fault full = fault refl
  settle_refused number base old new (log_refusals.LogDown at) damaged down fault full = absurd (down at refl)
  settle_refused number base old new log_refusals.Full damaged down fault full = full refl
  settle_refused number base old new log_refusals.Memory damaged down fault full = tt

  -- ---- at every moment

  -- no call was made
  pub unmoved : (old new : WalLog D g) → log_disk new ≡ log_disk old → log_flushed old ≡ log_next old → ((c : Volume) → g.left_at (log_disk old) (g.moment (log_disk old)) c → g.images (log_disk old) c)
      → (first : ℕ) (all : List Rec) → KeepsAll first all g.images old → LeavesOnly g.moment g.left_at (log_disk old) (log_disk new) (HasFlushed first all (log_first old) (log_next old))
  unmoved old new same flushed only_now first all k =
      subst (λ (d : D). LeavesOnly g.moment g.left_at (log_disk old) d (HasFlushed first all (log_first old) (log_next old))) (sym same)
      (started g.moment g.left_at (log_disk old) (HasFlushed first all (log_first old) (log_next old)) (λ c left. subst (λ z. HasFlushed first all (log_first old) z c) flushed (k.each c (only_now c left))))

  pub settles_unmoved : (base : Counters) (old new : WalLog D g) → log_disk new ≡ log_disk old → log_flushed old ≡ log_next old
      → ((c : Volume) → g.left_at (log_disk old) (g.moment (log_disk old)) c → g.images (log_disk old) c) → SettlesThroughout g base old new
  settles_unmoved base old new same flushed only_now first all k =
      leaves_weaker g.moment g.left_at (log_disk old) (log_disk new) (HasFlushed first all (log_first old) (log_next old)) (MayHaveSettled first all (log_first old) (log_next old) base)
      (unmoved old new same flushed only_now first all k) (λ c has. inl has)

  module _ (first : ℕ) (all : List Rec) (base : Counters) (old : WalLog D g) where
    abbrev whole : List Rec
    whole = all ++ records.Checkpoint (log_next old) base ∷ []

    -- the checkpoint is flushed
    pub flushing : (mid new : WalLog D g) → log_disk mid ≡ log_disk old → log_first mid ≡ log_first old → log_flushed mid ≡ log_next old
        → LeavesOnly g.moment g.left_at (log_disk mid) (log_disk new) (HasFlushed first whole (log_first mid) (log_flushed mid))
        → LeavesOnly g.moment g.left_at (log_disk old) (log_disk new) (MayHaveSettled first all (log_first old) (log_next old) base)
    flushing mid new same kept flushed leaves =
        subst (λ (d : D). LeavesOnly g.moment g.left_at d (log_disk new) (MayHaveSettled first all (log_first old) (log_next old) base)) same
        (leaves_weaker g.moment g.left_at (log_disk mid) (log_disk new) (HasFlushed first whole (log_first mid) (log_flushed mid)) (MayHaveSettled first all (log_first old) (log_next old) base) leaves
        (λ c has. inr (inl (subst (λ z. HasFlushed first whole z (log_next old) c) kept (subst (λ z. HasFlushed first whole (log_first mid) z c) flushed has)))))

    -- and then the log is forgotten before it
    pub forgetting : (mid new : WalLog D g) → log_first new ≡ log_next old → log_flushed mid ≡ log_next old + 1
        → LeavesOnly g.moment g.left_at (log_disk old) (log_disk mid) (MayHaveSettled first all (log_first old) (log_next old) base)
        → LeavesOnly g.moment g.left_at (log_disk mid) (log_disk new) (HasFlushed first whole (log_first new) (log_flushed mid))
        → LeavesOnly g.moment g.left_at (log_disk old) (log_disk new) (MayHaveSettled first all (log_first old) (log_next old) base)
    forgetting mid new kept flushed so_far leaves =
        run_then g.moment g.left_at (log_disk old) (log_disk mid) (log_disk new) (MayHaveSettled first all (log_first old) (log_next old) base) (HasFlushed first whole (log_first new) (log_flushed mid)) so_far leaves
        (λ c has. inr (inr (subst (λ z. HasFlushed first whole z (log_next old + 1) c) kept (subst (λ z. HasFlushed first whole (log_first new) z c) flushed has))))
