-- Where a log's batches end, and whether a record has room there.
use Rattle.std.specs.Prelude.{ℕ, ◌+◌, List, [], ◌∷◌, ◌++◌, length}
use Rattle.std.specs.List.{fold}
use Rattle.disk_core.specs.declared.log_disk.LogDisk as logs
use Rattle.tx_events.specs.declared.record.Rec.{Rec}
use Rattle.wal_records.specs.Spelling.{rec_bytes}
use Rattle.wal_core.specs.declared.wal_log.WalLog.{WalLog}
use Rattle.wal_core.specs.Log.{IsFull, bytes_of}
use Rattle.wal_core.specs.LogViews.{log_end, log_pending}
use Rattle.tx_core.specs.declared.entry.Entry.{Entry}
use Rattle.tx_core.specs.declared.entry.Kind.{Kind}
use Rattle.tx_core.specs.declared.entry.Kind.TheVariants as kinds
use Rattle.tx_core.specs.declared.entry.Start.{Start}

-- the place where the batches end, and the records that are to be the next batch: those appended since the last flush
pub record LogTail : Type 0 where
  pub gate : ℕ
  pub pending : List Rec

-- A flush puts them behind the gate as one batch, which has 5 bytes beside theirs; it puts none where there are none.
abbrev pub tail_flushed : ℕ → List Rec → LogTail
tail_flushed gate [] = record { gate = gate; pending = [] }
tail_flushed gate (rec ∷ recs) = record { gate = gate + 5 + length (bytes_of (rec ∷ recs)); pending = [] }

-- An append adds a record to them. Whatever else happens to the log moves neither, a fault of its disk too.
abbrev pub tail_after : LogTail → Kind → LogTail
tail_after tail (kinds.Append rec) = record { gate = tail.gate; pending = tail.pending ++ rec ∷ [] }
tail_after tail (kinds.Flush to) = tail_flushed tail.gate tail.pending
tail_after tail _ = tail

-- a life begins with no record pending
abbrev pub first_tail : Start → LogTail
first_tail start = record { gate = start.gate; pending = [] }

-- behind these entries of the log's list
abbrev pub tail_of : Start → List Entry → LogTail
tail_of start es = fold (λ tail e. tail_after tail e.kind) (first_tail start) es

-- with the record the log would pass its greatest length, or the pending records that of a batch
abbrev pub LacksRoom : LogTail → Rec → Type 0
LacksRoom tail rec = IsFull tail.gate (length (bytes_of tail.pending)) (length (rec_bytes rec))

-- the record that an entry appends had room
abbrev pub RoomOf : LogTail → Kind → Type 0
RoomOf tail (kinds.Append rec) = LacksRoom tail rec → ⊥
RoomOf tail _ = Unit {0}

abbrev pub RoomFrom : LogTail → List Entry → Type 0
RoomFrom tail [] = Unit {0}
RoomFrom tail (e ∷ es) = RoomOf tail e.kind × RoomFrom (tail_after tail e.kind) es

-- each record of the list had room behind the entries before it
abbrev pub HadRoom : Start → List Entry → Type 0
HadRoom start es = RoomFrom (first_tail start) es

-- so it is with a log
abbrev pub log_tail : {D : Type 0} → {g : logs.Ghosts D} → WalLog D g → LogTail
log_tail log = record { gate = log_end log; pending = log_pending log }
