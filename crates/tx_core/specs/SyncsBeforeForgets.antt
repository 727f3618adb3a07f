-- The log is forgotten only when the pages that it would restore are on disk.
use Rattle.std.specs.Prelude.{◌≡◌, ℕ, ◌+◌, ◌-◌, ◌<◌, ◌≤◌, ◌⊎◌, List, ◌∷◌, take, Some, slice_get, Contains}
use Rattle.std.specs.List.{flat_map}
use Rattle.tx_events.specs.Ids.{IsFullMulti}
use Rattle.tx_events.specs.declared.multi.Member.{Member}
use Rattle.tx_events.specs.declared.event.By.{By}
use Rattle.tx_events.specs.declared.record.Counters.{Counters}
use Rattle.tx_events.specs.declared.record.Rec.{Rec}
use Rattle.tx_events.specs.declared.record.Rec.TheVariants as records
use Rattle.tx_core.specs.declared.entry.Entry.{Entry}
use Rattle.tx_core.specs.declared.entry.Kind.{Kind}
use Rattle.tx_core.specs.declared.entry.Kind.TheVariants as kinds
use Rattle.tx_core.specs.declared.entry.LogCall.TheVariants as calls
use Rattle.tx_core.specs.declared.entry.Start.{Start}
use Rattle.tx_core.specs.declared.entry.State.TheVariants as states
use Rattle.tx_core.specs.CutsFollow.{IsMemberGone, IsOffsetGone}
use Rattle.tx_core.specs.Entries.{marks, records_in}
use Rattle.tx_core.specs.Lists.{Upheld}
use Rattle.tx_core.specs.Locks.{members_lock, members_lock_of, offsets_lock, offsets_lock_of, xact_lock, xact_lock_of}
use Rattle.tx_core.specs.MultiEntries.{offsets_in, slots_in}
use Rattle.notes.specs.Lists.{at}

-- this record stands among the log's entries, with a number below this one
pub record IsBelow (start : Start) (es : List Entry) (number : ℕ) (rec : Rec) : Type 0 where
  pub place : ℕ
  pub by : By
  pub stands : slice_get (records_in es) place ≡ Some (by, rec)
  pub below : start.from + place < number

-- a commit record below the number names the id
abbrev pub IsNamedBelow : Start → List Entry → ℕ → ℕ → Type 0
IsNamedBelow start es number id = (top : ℕ) × (subs : List ℕ) × IsBelow start es number (records.Commit top subs) × Contains (top ∷ subs) id

-- the record of a multixact is below the number
abbrev pub IsMultiBelow : Start → List Entry → ℕ → ℕ → ℕ → List Member → Type 0
IsMultiBelow start es number multi offset members = IsBelow start es number (records.Multi multi offset members)

-- the bank is synced, and these entries stand before
pub record IsSynced (es before : List Entry) : Type 0 where
  pub place : ℕ
  pub by : By
  pub sync : slice_get es place ≡ Some (record { by = by; kind = kinds.Sync })
  pub front : take place es ≡ before

-- a sync of the bank stands behind the committed states of all ids of the bank that are so named
pub record AreStatesSynced (start : Start) (es : List Entry) (bank : ℕ) (Named : ℕ → Type 0) : Type 0 where
  pub before : List Entry
  pub synced : IsSynced es before
  pub each : (id : ℕ) → Named id → xact_lock_of start id ≡ xact_lock bank
      → (caller : By) × Contains (marks before) (record { caller = caller; id = id; state = states.Committed })

-- a sync of a bank of offsets stands behind the offset of each of these multixacts, or behind the cut of its page
pub record AreOffsetsSynced (start : Start) (es : List Entry) (bank : ℕ) (Recorded : ℕ → ℕ → List Member → Type 0) : Type 0 where
  pub before : List Entry
  pub synced : IsSynced es before
  pub each : (multi offset : ℕ) (members : List Member) → Recorded multi offset members → offsets_lock_of start multi ≡ offsets_lock bank
      → ((caller : By) × Contains (flat_map offsets_in before) (record { caller = caller; multi = multi; offset = offset })) ⊎ IsOffsetGone before multi

-- the same of a bank of members
pub record AreMembersSynced (start : Start) (es : List Entry) (bank : ℕ) (Recorded : ℕ → ℕ → List Member → Type 0) : Type 0 where
  pub before : List Entry
  pub synced : IsSynced es before
  pub each : (multi offset k : ℕ) (members : List Member) (member : Member) → Recorded multi offset members → slice_get members k ≡ Some member
      → members_lock_of start (offset + k) ≡ members_lock bank
      → ((caller : By) × Contains (flat_map slots_in before) (record { caller = caller; offset = offset + k; member = member })) ⊎ IsMemberGone before (offset + k)

-- the checkpoint is on disk, and so are the states, the offset and the members of each record before it
pub record MayForget (start : Start) (lists : List (List Entry)) (before : List Entry) (number : ℕ) : Type 0 where
  pub from : start.from ≤ number
  pub by : By
  pub counters : Counters
  pub checkpoint : slice_get (records_in before) (number - start.from) ≡ Some (by, records.Checkpoint number counters)
  pub flush : By
  pub to : ℕ
  pub past : number < to
  pub flushed : Contains before (record { by = flush; kind = kinds.Flush to })
  pub states : (bank : ℕ) → bank < start.banks → AreStatesSynced start (at lists (xact_lock bank)) bank (IsNamedBelow start before number)
  pub offsets : (bank : ℕ) → bank < start.banks → AreOffsetsSynced start (at lists (offsets_lock bank)) bank (IsMultiBelow start before number)
  pub members : (bank : ℕ) → bank < start.banks → AreMembersSynced start (at lists (members_lock bank)) bank (IsMultiBelow start before number)
  -- each multixact from the base's next one to below the checkpoint's has its record
  pub recorded : (multi : ℕ) → IsFullMulti multi → start.base.multi ≤ multi → multi < counters.multi
      → (offset : ℕ) × (members : List Member) × IsMultiBelow start before number multi offset members

-- a forget, and one that failed, which may have been done
abbrev pub ForgetOf : Start → List (List Entry) → List Entry → Kind → Type 0
ForgetOf start lists before (kinds.Forget number) = MayForget start lists before number
ForgetOf start lists before (kinds.LogFault (calls.Forget number) count) = MayForget start lists before number
ForgetOf start lists before _ = Unit {0}

abbrev pub NeedsSync : Start → List (List Entry) → ℕ → List Entry → Entry → Type 0
NeedsSync start lists lock before e = ForgetOf start lists before e.kind

-- Records are forgotten only before a checkpoint on disk, and only when each bank was synced behind the states of each
-- commit record before it, and the offset and members of each multixact recorded before it.
pub record SyncsBeforeForgets (start : Start) (lists : List (List Entry)) : Type 0 where
  pub each : Upheld (NeedsSync start) lists
