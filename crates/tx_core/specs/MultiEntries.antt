-- What entries say of multixacts: their events, and the offsets and members that were set.
use Rattle.std.specs.Prelude.{ℕ, ◌<◌, List, length, Option, Some, None, Contains}
use Rattle.std.specs.List.{filter_map, flat_map, AllByRecursion}
use Rattle.tx_events.specs.declared.event.By.{By}
use Rattle.tx_events.specs.declared.multi.Member.{Member}
use Rattle.tx_events.specs.declared.multi.MultiEvent.{MultiEvent}
use Rattle.tx_events.specs.Multis.{made}
use Rattle.tx_core.specs.declared.entry.Change.{Change}
use Rattle.tx_core.specs.declared.entry.Change.TheVariants as changes
use Rattle.tx_core.specs.declared.entry.Entry.{Entry}
use Rattle.tx_core.specs.declared.entry.Kind.{Kind}
use Rattle.tx_core.specs.declared.entry.Kind.TheVariants as kinds
use Rattle.tx_core.specs.declared.entry.Start.{Start}
use Rattle.tx_core.specs.Entries.{changes_in}
use Rattle.notes.specs.Lists.{at}
use Rattle.tx_core.specs.Locks.{multi_lock, members_lock_of, offsets_lock_of}

-- the event of a multixact
abbrev pub multi_in : Kind → Option MultiEvent
multi_in (kinds.Multi event) = Some event
multi_in _ = None

abbrev pub multi_of : Entry → Option MultiEvent
multi_of e = multi_in e.kind

abbrev pub multis_in : List Entry → List MultiEvent
multis_in es = filter_map multi_of es

-- the history of multixacts, which is their lock's list
abbrev pub multi_history : List (List Entry) → List MultiEvent
multi_history lists = multis_in (at lists multi_lock)

-- the life gave fewer than 2,900,000 multixacts
abbrev pub AreFewMultis : List (List Entry) → Type 0
AreFewMultis lists = length (made (multi_history lists)) < 2900000

-- an offset that was set, and for whom
pub record SetOffset : Type 0 where
  pub caller : By
  pub multi : ℕ
  pub offset : ℕ

abbrev pub offset_of : Change → Option SetOffset
offset_of (changes.Offset caller multi offset) = Some (record { caller = caller; multi = multi; offset = offset })
offset_of _ = None

abbrev pub offsets_in : Entry → List SetOffset
offsets_in e = filter_map offset_of (changes_in e.kind)

-- a member that was set, and for whom
pub record SetSlot : Type 0 where
  pub caller : By
  pub offset : ℕ
  pub member : Member

abbrev pub slot_of : Change → Option SetSlot
slot_of (changes.Slot caller offset member) = Some (record { caller = caller; offset = offset; member = member })
slot_of _ = None

abbrev pub slots_in : Entry → List SetSlot
slots_in e = filter_map slot_of (changes_in e.kind)

-- each offset and each member that an entry sets
abbrev pub EachOffset : (SetOffset → Type 0) → Entry → Type 0
EachOffset P e = AllByRecursion P (offsets_in e)

abbrev pub EachSlot : (SetSlot → Type 0) → Entry → Type 0
EachSlot P e = AllByRecursion P (slots_in e)

-- the offset of a multixact was set
abbrev pub IsOffsetSet : Start → List (List Entry) → ℕ → ℕ → Type 0
IsOffsetSet start lists multi offset =
    (by : By) × Contains (flat_map offsets_in (at lists (offsets_lock_of start multi))) (record { caller = by; multi = multi; offset = offset })

-- the member at an offset was set
abbrev pub IsSlotSet : Start → List (List Entry) → ℕ → Member → Type 0
IsSlotSet start lists offset member =
    (by : By) × Contains (flat_map slots_in (at lists (members_lock_of start offset))) (record { caller = by; offset = offset; member = member })
