-- Where the log's batches end behind each call, and what is pending there.
use Rattle.std.proofs.Common.{Err, List, None, Ok, Option, Result, Some, [], ap, arith, drop, length, refl, sym, ℕ, ◌+◌, ◌++◌, ◌∙◌, ◌∷◌, ◌≡◌, ◌≢◌}
use Rattle.std.proofs.lemmas.List.Sums.{fold_push}
use Rattle.std.specs.List.{fold}
use Rattle.disk_core.specs.declared.log_disk.LogDisk as logs
use Rattle.tx_events.specs.declared.event.By.{By}
use Rattle.tx_events.specs.declared.record.Rec.{Rec}
use Rattle.tx_core.specs.declared.entry.Entry.{Entry}
use Rattle.tx_core.specs.declared.entry.Kind.{Kind}
use Rattle.tx_core.specs.declared.entry.Kind.TheVariants as kinds
use Rattle.tx_core.specs.declared.entry.Start.{Start}
use Rattle.tx_core.specs.Entries.{appended_in}
use Rattle.wal_core.specs.declared.refusal.LogRefusal.{LogRefusal}
use Rattle.wal_core.specs.declared.refusal.LogRefusal.TheVariants as log_refusals
use Rattle.wal_core.specs.declared.wal_log.WalLog.{WalLog}
use Rattle.wal_core.specs.Log.{bytes_of}
use Rattle.wal_core.specs.LogViews.{log_end, log_flushed, log_next, log_pending, log_recs}
use Rattle.engine_parts.specs.LogTail.{HadRoom, LacksRoom, LogTail, RoomFrom, RoomOf, first_tail, log_tail, tail_after, tail_flushed, tail_of}

-- ---- one entry more

pub tail_push : (start : Start) (es : List Entry) (e : Entry) → tail_of start (es ++ e ∷ []) ≡ tail_after (tail_of start es) e.kind
tail_push start es e = fold_push (λ (tail : LogTail) (d : Entry). tail_after tail d.kind) (first_tail start) es e

room_from : (tail : LogTail) (es : List Entry) (e : Entry) → RoomFrom tail es → RoomOf (fold (λ (t : LogTail) (d : Entry). tail_after t d.kind) tail es) e.kind → RoomFrom tail (es ++ e ∷ [])
room_from tail [] e had here = (here, tt)
room_from tail (d ∷ es) e had here = (had.0, room_from (tail_after tail d.kind) es e had.1 here)

pub room_push : (start : Start) (es : List Entry) (e : Entry) → HadRoom start es → RoomOf (tail_of start es) e.kind → HadRoom start (es ++ e ∷ [])
room_push start es e had here = room_from (first_tail start) es e had here

-- an entry that appends nothing needs no room
pub no_room_needed : (tail : LogTail) (by : By) (kind : Kind) → appended_in by kind ≡ None → RoomOf tail kind
no_room_needed tail by (kinds.Append rec) none = absurd cc
no_room_needed tail by (kinds.Flush to) none = tt
no_room_needed tail by (kinds.Forget number) none = tt
no_room_needed tail by (kinds.LogFault asked count) none = tt
no_room_needed tail by (kinds.Event event) none = tt
no_room_needed tail by (kinds.Made id) none = tt
no_room_needed tail by (kinds.Multi event) none = tt
no_room_needed tail by (kinds.Post number) none = tt
no_room_needed tail by (kinds.Set changes) none = tt
no_room_needed tail by (kinds.Zero page) none = tt
no_room_needed tail by (kinds.Cut page) none = tt
no_room_needed tail by kinds.Sync none = tt
no_room_needed tail by (kinds.Fault callers changes cut count) none = tt
no_room_needed tail by (kinds.Request changes) none = tt
no_room_needed tail by kinds.Look none = tt

-- ---- the log's calls

drop_all : (recs : List Rec) → drop (length recs) recs ≡ []
drop_all [] = refl
drop_all (rec ∷ recs) = drop_all recs

-- where all is flushed
pub none_pending : {D : Type 0} {g : logs.Ghosts D} (log : WalLog D g) → log_flushed log ≡ log_next log → log_pending log ≡ []
none_pending log flushed =
    let count : log.flushed ≡ length log.recs = omega (arith, flushed) in
    ap (λ n. drop n log.recs) count ∙ drop_all log.recs

module _ {D : Type 0} {g : logs.Ghosts D} (old new : WalLog D g) where
  same_pending : log_recs new ≡ log_recs old → log_next new ≡ log_next old → log_flushed new ≡ log_flushed old → log_pending new ≡ log_pending old
  same_pending recs next flushed =
      let long : length new.recs ≡ length old.recs = ap (λ (l : List Rec). length l) recs in
      let count : new.flushed ≡ old.flushed = omega (arith, next, flushed, long) in
      λ i. drop (count i) (recs i)

  -- a call that appended and flushed nothing
  pub same_tail : log_recs new ≡ log_recs old → log_next new ≡ log_next old → log_flushed new ≡ log_flushed old → log_end new ≡ log_end old → log_tail new ≡ log_tail old
  same_tail recs next flushed end = λ i. record { gate = end i; pending = same_pending recs next flushed i }

  -- an append
  pub appended_tail : (rec : Rec) → log_pending new ≡ log_pending old ++ rec ∷ [] → log_end new ≡ log_end old → log_tail new ≡ tail_after (log_tail old) (kinds.Append rec)
  appended_tail rec pending end = λ i. record { gate = end i; pending = pending i }

  -- a flush
  pub flushed_tail : (to : ℕ) → log_next new ≡ log_next old → log_flushed new ≡ log_next old → (log_pending old ≢ [] → log_end new ≡ log_end old + 5 + length (bytes_of (log_pending old))) → (log_pending old ≡ [] → log_end new ≡ log_end old) → log_tail new ≡ tail_after (log_tail old) (kinds.Flush to)
  flushed_tail to next flushed further same = λ i. by_pending (log_pending old) (log_end new) further same i
    where
      by_pending : (pending : List Rec) (end : ℕ) → (pending ≢ [] → end ≡ log_end old + 5 + length (bytes_of pending)) → (pending ≡ [] → end ≡ log_end old) → (record { gate = end; pending = log_pending new }) ≡ tail_flushed (log_end old) pending
      by_pending [] end further same = λ i. record { gate = same refl i; pending = none_pending new (flushed ∙ sym next) i }
      by_pending (rec ∷ recs) end further same = λ i. record { gate = further (λ e. absurd cc) i; pending = none_pending new (flushed ∙ sym next) i }

-- a record that a log took had room, since the log wasn't down
pub took_room : (down : Option ℕ) (tail : LogTail) (rec : Rec) (number : ℕ) → ((at : ℕ) → down ≡ Some at → ◌≡◌ {A = Result ℕ LogRefusal} (Ok number) (Err (log_refusals.LogDown at)))
    → (down ≡ None → LacksRoom tail rec → ◌≡◌ {A = Result ℕ LogRefusal} (Ok number) (Err log_refusals.Full)) → LacksRoom tail rec → ⊥
took_room None tail rec number is_down is_full lacks = let z = is_full refl lacks in absurd cc
took_room (Some at) tail rec number is_down is_full lacks = let z = is_down at refl in absurd cc
