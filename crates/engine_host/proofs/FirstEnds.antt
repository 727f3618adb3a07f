-- Where the batches of a new cluster's log end, behind its first one.
use Rattle.std.proofs.Common.{[], List, ap, append-nil, arith, length, suc, sym, ℕ, ◌+◌, ◌∙◌, ◌∷◌, ◌≡◌, ◌≢◌}
use Rattle.disk_core.specs.declared.log_disk.LogDisk as logs
use Rattle.tx_events.specs.declared.record.Counters.{Counters}
use Rattle.tx_events.specs.declared.record.Rec.{Rec}
use Rattle.tx_events.specs.declared.record.Rec.TheVariants as records
use Rattle.wal_records.specs.Spelling.{rec_bytes}
use Rattle.wal_records.proofs.Lengths.{length-checkpoint}
use Rattle.wal_core.specs.declared.wal_log.WalLog.{WalLog}
use Rattle.wal_core.specs.Log.{bytes_of}
use Rattle.wal_core.specs.LogViews.{log_end, log_pending}

-- a checkpoint's record has 57 bytes
long : (number : ℕ) (base : Counters) → length (bytes_of (records.Checkpoint number base ∷ [])) ≡ 57
long number base = ap (λ (bs : List ℕ). length bs) (append-nil (rec_bytes (records.Checkpoint number base))) ∙ ap (λ n. suc n) (length-checkpoint number base)

-- a batch with it alone has 5 more
pub checkpoint_end : {D : Type 0} {g : logs.Ghosts D} (old : WalLog D g) (end number : ℕ) (base : Counters) → log_pending old ≡ records.Checkpoint number base ∷ []
    → (log_pending old ≢ [] → end ≡ log_end old + 5 + length (bytes_of (log_pending old))) → end ≡ log_end old + 62
checkpoint_end old end number base is further =
    let bytes : length (bytes_of (log_pending old)) ≡ 57 = ap (λ (recs : List Rec). length (bytes_of recs)) is ∙ long number base in
    let behind : end ≡ log_end old + 5 + length (bytes_of (log_pending old)) = further (λ none. let two : records.Checkpoint number base ∷ [] ≡ [] = sym is ∙ none in absurd cc) in
    omega (arith, bytes, behind)
