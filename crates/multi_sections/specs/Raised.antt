-- What a freeze of a pinned multixact leaves, of which the stored half of the offset was read.
use Rattle.std.specs.Prelude.{◌≡◌, ℕ, ◌+◌, ◌-◌, ◌%◌, ◌^◌, ◌<◌, ◌≤◌, IsTrue, List, [], Contains, Result, Ok, Err, cond, length, nat_lt, unwrap_or}
use Rattle.tx_events.specs.Ids.{low_half}
use Rattle.tx_events.specs.declared.event.By.{By}
use Rattle.tx_events.specs.declared.multi.Member.{Member}
use Rattle.tx_events.specs.declared.multi.MultiEvent.{MultiEvent}
use Rattle.tx_events.specs.declared.multi.MultiEvent.TheVariants as events
use Rattle.tx_events.specs.declared.record.Counters.{Counters}
use Rattle.tx_events.specs.declared.record.Rec.{Rec}
use Rattle.tx_events.specs.declared.record.Rec.TheVariants as records
use Rattle.tx_events.specs.declared.refusal.Refusal.{Refusal}
use Rattle.tx_events.specs.declared.refusal.Refusal.TheVariants as refusals
use Rattle.tx_events.specs.Multis.{BeginsAt, InBase, made}
use Rattle.multi_store.specs.declared.answers.Held.{Held}
use Rattle.multi_store.specs.Generator.{Adds, Begins, Generator, limit_of, oldest_of}
use Rattle.tx_core.specs.declared.entry.Entry.{Entry}
use Rattle.tx_core.specs.declared.entry.Start.{Start}
use Rattle.tx_core.specs.Locks.{multi_lock}
use Rattle.tx_core.specs.MultiEntries.{AreFewMultis, multi_history}
use Rattle.engine_parts.specs.declared.session.Session.{Session}
use Rattle.engine_parts.specs.Holds.{Knowledge, Section}
use Rattle.engine_parts.specs.Sessions.{look_by}
use Rattle.engine_parts.specs.Steps.{WentMulti}
use Rattle.multi_sections.specs.declared.settling.Raising.{Raising}
use Rattle.multi_sections.specs.declared.settling.Raising.TheVariants as raisings
use Rattle.multi_sections.specs.Raisings.{IsNotFrozen, IsRaisedBy, raise_event}
use Rattle.multi_sections.specs.Steps.{entry_of}

-- the least number from this one on with this stored half
abbrev pub first_from : ℕ → ℕ → ℕ
first_from from low = from + (low + 2 ^ 32 - from % 2 ^ 32) % 2 ^ 32

-- Where a pinned multixact begins, in full: one of the life where it was given, one that the life began with at the only
-- offset of the base with the half that was read.
abbrev pub offset_read : Counters → Held → ℕ → ℕ
offset_read base h low = cond (nat_lt h.multi base.multi) (first_from base.oldest_offset low) (unwrap_or h.start 0)

-- What was read of a multixact that the life began with, in a life of few over stores that tell, where it began with a
-- recorded one: the half of the offset in its record.
abbrev pub IsOffsetTold : Start → List (List Entry) → ℕ → ℕ → Type 0
IsOffsetTold start lists multi low =
    IsTrue start.told → (rec : Rec) → Contains start.recorded rec → AreFewMultis lists → multi < start.base.multi
    → (offset : ℕ) × (low ≡ low_half offset) × (start.base.oldest_offset ≤ offset) × (offset < start.base.oldest_offset + 2 ^ 32)
    × ((members : List Member) × Contains start.recorded (records.Multi multi offset members))

abbrev pub IsFew : Generator → Type 0
IsFew g = length (made g.events) < 2900000

-- what it leaves of the generator
abbrev pub IsRaisedAs : Generator → Generator → By → Held → ℕ → Raising → Type 0
IsRaisedAs old new by h low (raisings.Raised offset) =
    (offset ≡ offset_read old.base h low) × Begins old h.multi offset × (oldest_of old ≤ h.multi) × (h.multi ≤ limit_of old)
    × Adds old new (events.Raise by h.multi offset) × (h.multi < old.base.multi → IsFew old)
IsRaisedAs old new by h low raisings.Many = (new ≡ old) × (h.multi < old.base.multi) × (IsFew old → ⊥)

-- why it isn't raised: no such offset, or as a freeze that doesn't begin
abbrev pub IsNotRaisedNow : Counters → List MultiEvent → Held → ℕ → Refusal → Type 0
IsNotRaisedNow base before h low (refusals.NotYet multi) = (multi ≡ h.multi) × (BeginsAt base (InBase base) before h.multi (offset_read base h low) → ⊥)
IsNotRaisedNow base before h low r = IsNotFrozen base before h.multi r

abbrev pub RaisesMulti : Start → ℕ → Session → Held → ℕ → List (List Entry) → List (List Entry) → Result Raising Refusal → Type 0
RaisesMulti start n s h low lists more (Ok (raisings.Raised offset)) = IsRaisedBy start n s h.multi offset lists more × (offset ≡ offset_read start.base h low)
RaisesMulti start n s h low lists more (Ok raisings.Many) = WentMulti n [] lists more × (h.multi < start.base.multi) × (AreFewMultis more → ⊥)
RaisesMulti start n s h low lists more (Err r) = WentMulti n [] lists more × IsNotRaisedNow start.base (multi_history more) h low r

abbrev pub RaiseSection : Start → ℕ → Session → ℕ → Knowledge → Knowledge → Result Raising Refusal → Type 0
RaiseSection start n s multi v w (Ok (raisings.Raised offset)) = Section start multi_lock (entry_of (raise_event n s multi offset)) v w
RaiseSection start n s multi v w (Ok raisings.Many) = Section start multi_lock (look_by n s) v w
RaiseSection start n s multi v w (Err r) = Section start multi_lock (look_by n s) v w
