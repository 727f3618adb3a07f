-- Which log a life may have whose sessions run on threads: its records are those of its ends, in whatever order the ends
-- came to it, and those of ends that were begun.
use Rattle.std.specs.Prelude.{◌≡◌, ℕ, ◌+◌, ◌-◌, ◌^◌, ◌<◌, ◌≤◌, ◌⊎◌, true, List, ◌∷◌, Some, Contains, drop, take, length, slice_get}
use Rattle.tx_events.specs.declared.event.By.{By}
use Rattle.tx_events.specs.declared.event.Event.{Event}
use Rattle.tx_events.specs.declared.event.Event.TheVariants as events
use Rattle.tx_events.specs.declared.multi.MultiEvent.{MultiEvent}
use Rattle.tx_events.specs.declared.multi.MultiEvent.TheVariants as multis
use Rattle.tx_events.specs.declared.record.Counters.{Counters}
use Rattle.tx_events.specs.declared.record.Rec.{Rec}
use Rattle.tx_events.specs.declared.record.Rec.TheVariants as records
use Rattle.tx_events.specs.declared.xact_end.XactEnd.{XactEnd}
use Rattle.tx_events.specs.declared.xact_end.XactEnd.TheVariants as ends
use Rattle.tx_events.specs.Families.{is_top}
use Rattle.tx_events.specs.History.{next_given}
use Rattle.tx_events.specs.Horizon.{oldest_id}
use Rattle.tx_events.specs.Multis.{multi_counters}
use Rattle.tx_events.specs.Running.{open_ids}
use Rattle.tx_events.specs.XactEnds.{end_event}

-- The ids of a session's transaction that has ended so, or that is still open: its top, and then, ascending, all
-- subtransactions that weren't rolled back.
pub record IsTransaction (h : List Event) (how : XactEnd) (top : ℕ) (subs : List ℕ) : Type 0 where
  pub session : ℕ
  pub root : is_top h top ≡ true
  pub ids : (open_ids session h ≡ top ∷ subs)
      ⊎ ((p : ℕ) × (by : By) × (by.session ≡ session) × (slice_get h p ≡ Some (end_event how by top))
      × (open_ids session (take p h) ≡ top ∷ subs))

-- an oldest id that the life announced, or with which it began
abbrev pub IsAnnounced : Counters → List Event → ℕ → Type 0
IsAnnounced base h oldest = (oldest ≡ base.oldest) ⊎ ((by : By) × Contains h (events.Oldest by oldest))

-- an oldest multixact and its offset that the life announced, or with which it began
abbrev pub IsAnnouncedMulti : Counters → List MultiEvent → ℕ → ℕ → Type 0
IsAnnouncedMulti base h multi offset =
    ((multi ≡ base.oldest_multi) × (offset ≡ base.oldest_offset)) ⊎ ((by : By) × Contains h (multis.Raise by multi offset))

-- the counters that a base has behind both histories
abbrev pub counters_behind : Counters → List Event → List MultiEvent → Counters
counters_behind base h all =
    record (multi_counters base all) { next = next_given base.next h; oldest = oldest_id base.oldest h }

-- A commit or an abort names a transaction whole, and a multixact's record one that was given. A truncation names an
-- oldest id and an oldest multixact with its offset that were announced. A checkpoint has the counters behind some of the
-- events.
abbrev pub IsRecordOf : Counters → List Event → List MultiEvent → Rec → Type 0
IsRecordOf base h all (records.Commit top subs) = IsTransaction h ends.Commit top subs
IsRecordOf base h all (records.Abort top subs) = IsTransaction h ends.Abort top subs
IsRecordOf base h all (records.Multi multi offset members) = (by : By) × Contains all (multis.Gen by multi offset members)
IsRecordOf base h all (records.Truncate oldest multi offset) =
    IsAnnounced base h oldest × IsAnnouncedMulti base all multi offset
IsRecordOf base h all (records.Checkpoint number counters) =
    (place : ℕ) × (place ≤ length h) × (at : ℕ) × (at ≤ length all)
    × (counters ≡ counters_behind base (take place h) (take at all))

-- the top that the record ends
abbrev pub ends_top : Rec → ℕ → Type 0
ends_top (records.Commit top subs) id = top ≡ id
ends_top (records.Abort top subs) id = top ≡ id
ends_top _ id = ⊥

-- the record stands among the first n
abbrev pub IsAmong : ℕ → List Rec → Rec → Type 0
IsAmong n recs rec = Contains (take n recs) rec

-- the multixact that the record is of
abbrev pub IsMultisRecord : Rec → ℕ → Type 0
IsMultisRecord (records.Multi multi offset members) other = multi ≡ other
IsMultisRecord _ other = ⊥

-- The life's records: first the checkpoint of its base, then at most one of each transaction and of each multixact, each
-- of them whole, and truncations and checkpoints. A checkpoint has its own number. A transaction that committed has its
-- record, and that is flushed. The next record's number and the next gate's position have 64 bits.
pub record IsLogOf (from : ℕ) (base : Counters) (h : List Event) (all : List MultiEvent) (recs : List Rec) (flushed end : ℕ) : Type 0 where
  pub rest : List Rec
  pub split : recs ≡ records.Checkpoint from base ∷ rest
  pub begun : from < flushed
  pub within : flushed ≤ from + length recs
  pub each : (rec : Rec) → Contains rest rec → IsRecordOf base h all rec
  pub once : (i j id : ℕ) (a b : Rec) → slice_get rest i ≡ Some a → slice_get rest j ≡ Some b → ends_top a id → ends_top b id → i ≡ j
  pub multi_once : (i j multi : ℕ) (a b : Rec) → slice_get rest i ≡ Some a → slice_get rest j ≡ Some b → IsMultisRecord a multi → IsMultisRecord b multi → i ≡ j
  pub numbered : (place number : ℕ) (counters : Counters) → slice_get recs place ≡ Some (records.Checkpoint number counters) → number ≡ from + place
  pub committed : (p top : ℕ) (by : By) → slice_get h p ≡ Some (events.Commit by top)
      → IsAmong (flushed - from) recs (records.Commit top (drop 1 (open_ids by.session (take p h))))
  pub count : from + length recs < 2 ^ 64
  pub gate : end < 2 ^ 64
