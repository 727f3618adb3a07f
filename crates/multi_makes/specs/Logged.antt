-- What the log says to the record of a multixact.
use Rattle.std.specs.Prelude.{◌≡◌, List, Result, Ok, Err}
use Rattle.tx_events.specs.declared.refusal.Refusal.{Refusal}
use Rattle.tx_core.specs.declared.entry.Entry.{Entry}
use Rattle.tx_core.specs.declared.entry.Start.{Start}
use Rattle.engine_parts.specs.declared.session.Session.{Session}
use Rattle.log_sections.specs.LogSections.{IsAppendRefused}
use Rattle.log_sections.specs.MultiRecords.{session_logged}

-- The record stands, and the multixact counts as logged. Or the log refused it, and the session stands as before.
abbrev pub LogsMulti : Start → List (List Entry) → Session → Session → Result (Unit {0}) Refusal → Type 0
LogsMulti start lists s s' (Ok x) = s' ≡ session_logged s
LogsMulti start lists s s' (Err r) = (s' ≡ s) × IsAppendRefused start lists r
