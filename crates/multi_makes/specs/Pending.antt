-- The multixact that a session makes: how far it has come, and why it stops.
use Rattle.std.specs.Prelude.{◌≡◌, ◌≢◌, Bool, false, ℕ, ◌+◌, List, Option, None, Some, IfSome, Result, Ok, Err, slice_get}
use Rattle.notes.specs.Lists.{at}
use Rattle.tx_events.specs.declared.event.By.{By}
use Rattle.tx_events.specs.declared.multi.Member.{Member}
use Rattle.tx_events.specs.declared.record.Rec.{Rec}
use Rattle.tx_events.specs.declared.record.Rec.TheVariants as records
use Rattle.tx_events.specs.declared.refusal.Lock.TheVariants as locks
use Rattle.tx_events.specs.declared.refusal.Refusal.{Refusal}
use Rattle.tx_events.specs.declared.refusal.Refusal.TheVariants as refusals
use Rattle.tx_core.specs.declared.entry.Entry.{Entry}
use Rattle.tx_core.specs.declared.entry.Start.{Start}
use Rattle.tx_core.specs.Locks.{log_lock, members_lock, offsets_lock}
use Rattle.tx_core.specs.OwnMultis.{IsMultiDone, IsSlotDone}
use Rattle.tx_core.specs.RecordsFollow.{IsGenOf}
use Rattle.tx_core.specs.Entries.{IsAppended}
use Rattle.engine_parts.specs.declared.session.Making.{Making}
use Rattle.engine_parts.specs.declared.session.Session.{Session}
use Rattle.engine_parts.specs.Met.{MetFault}
use Rattle.engine_parts.specs.Sessions.{by_at}
use Rattle.engine_parts.specs.Stand.{IsDownAt}

-- the record of the multixact that a session makes
abbrev pub IsPending : Option Making → Rec → Type 0
IsPending None rec = ⊥
IsPending (Some m) rec = rec ≡ records.Multi m.multi m.offset m.members

-- the record that is still to be made whole, or none
abbrev pub ArePending : Option Making → Option Rec → Type 0
ArePending making None = making ≡ None
ArePending making (Some rec) = IsPending making rec

-- whether that multixact, which there is, counts as logged
abbrev pub IsLogged : Option Making → Bool → Type 0
IsLogged None logged = logged ≡ false
IsLogged (Some m) logged = logged ≡ m.logged

-- it is one of a multixact of the session, and stands in the log
abbrev pub IsRecordedRec : List (List Entry) → ℕ → Rec → Type 0
IsRecordedRec lists n (records.Multi multi offset members) = IsGenOf lists n multi offset members × IsAppended lists n (records.Multi multi offset members)
IsRecordedRec lists n rec = ⊥

-- and is made whole
abbrev pub IsRecDone : Start → List (List Entry) → ℕ → Rec → Type 0
IsRecDone start lists n (records.Multi multi offset members) = IsMultiDone start lists n multi offset members
IsRecDone start lists n rec = ⊥

-- members from an offset on are set, or their pages were cut
abbrev pub AreSlotsDone : Start → List (List Entry) → ℕ → List Member → Type 0
AreSlotsDone start lists offset members = (k : ℕ) (member : Member) → slice_get members k ≡ Some member → IsSlotDone start lists (offset + k) member

-- the volume behind a bank of offsets or of members failed in this command
abbrev pub IsMultiFault : List (List Entry) → By → Refusal → Type 0
IsMultiFault lists by (refusals.DiskFault (locks.Offsets bank)) = MetFault lists (offsets_lock bank) by
IsMultiFault lists by (refusals.DiskFault (locks.Members bank)) = MetFault lists (members_lock bank) by
IsMultiFault lists by r = ⊥

-- why it stops: the log is down, or full, memory is wanting, or a volume failed
abbrev pub StopsMaking : Start → List (List Entry) → By → Refusal → Type 0
StopsMaking start lists by (refusals.LogDown down) = IsDownAt start (at lists log_lock) down
StopsMaking start lists by refusals.Full = Unit {0}
StopsMaking start lists by refusals.Memory = Unit {0}
StopsMaking start lists by r = IsMultiFault lists by r

-- The session makes none any more, and what it made is done. Or it still makes one, and stands otherwise as before.
abbrev pub Finishes : Start → ℕ → Session → Session → List (List Entry) → Result (Unit {0}) Refusal → Type 0
Finishes start n s s' more (Ok x) =
    (s' ≡ record s { making = None }) × IfSome s.making (λ m. IsMultiDone start more n m.multi m.offset m.members)
Finishes start n s s' more (Err r) =
    (s' ≡ record s { making = s'.making }) × (s.making ≢ None) × (s'.making ≢ None)
    × StopsMaking start more (by_at n s.levels.commands) r
