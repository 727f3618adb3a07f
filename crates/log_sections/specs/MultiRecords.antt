-- The record of the multixact that a session makes.
use Rattle.std.specs.Prelude.{◌≡◌, List, Option, None, Some, Result, Ok, Err, false, true}
use Rattle.tx_events.specs.declared.record.Rec.{Rec}
use Rattle.tx_events.specs.declared.record.Rec.TheVariants as records
use Rattle.tx_events.specs.declared.refusal.Refusal.{Refusal}
use Rattle.tx_core.specs.declared.entry.Entry.{Entry}
use Rattle.tx_core.specs.declared.entry.Start.{Start}
use Rattle.tx_core.specs.Laws.{StaysBase}
use Rattle.wal_records.specs.Spelling.{IsLawful}
use Rattle.engine_parts.specs.declared.session.Making.{Making}
use Rattle.engine_parts.specs.declared.session.Session.{Session}
use Rattle.log_sections.specs.declared.appending.Appended.{Appended}
use Rattle.log_sections.specs.declared.appending.Appended.TheVariants as came
use Rattle.log_sections.specs.LogSections.{IsAppendRefused}

-- it is the one's that isn't logged yet
abbrev pub IsMakingRecord : Option Making → Rec → Type 0
IsMakingRecord None rec = ⊥
IsMakingRecord (Some m) rec = (rec ≡ records.Multi m.multi m.offset m.members) × (m.logged ≡ false)

-- behind it that one is
abbrev pub making_logged : Option Making → Option Making
making_logged None = None
making_logged (Some m) = Some (record m { logged = true })

abbrev pub session_logged : Session → Session
session_logged s = record s { making = making_logged s.making }

-- The record stands, and the multixact counts as logged. Or the session stands as before: after the record, if it is
-- lawful, the log's counters would be no base, or the log refused it.
abbrev pub TakesMulti : Start → List (List Entry) → Rec → Session → Session → Result Appended Refusal → Type 0
TakesMulti start lists rec s s' (Ok (came.At number)) = s' ≡ session_logged s
TakesMulti start lists rec s s' (Ok came.NoBase) = (s' ≡ s) × (IsLawful rec → StaysBase start lists rec → ⊥)
TakesMulti start lists rec s s' (Err r) = (s' ≡ s) × IsAppendRefused start lists r
