-- What giving an id, and what comes before it, adds.
use Rattle.std.proofs.Common.{◌≡◌, ℕ, ◌<◌, Result, Ok, Err, refl}
use Rattle.tx_events.specs.declared.event.By.{By}
use Rattle.tx_events.specs.declared.refusal.Refusal.{Refusal}
use Rattle.tx_core.specs.declared.entry.Entry.{Entry}
use Rattle.tx_core.specs.declared.entry.Kind.{Kind}
use Rattle.tx_core.specs.declared.entry.Kind.TheVariants as kinds
use Rattle.tx_core.specs.declared.entry.Start.{Start}
use Rattle.tx_core.specs.Locks.{proc_lock}
use Rattle.proc_table.specs.declared.answers.Given.{Given}
use Rattle.proc_table.specs.declared.answers.Given.TheVariants as gives
use Rattle.engine_parts.specs.declared.session.Session.{Session}
use Rattle.engine_parts.specs.Adding.{Adds, IsPlain}
use Rattle.engine_parts.specs.Holds.{Knowledge, ProcSection}
use Rattle.engine_parts.specs.Sessions.{IsAt, by_at, look_by}
use Rattle.engine_parts.proofs.Sectioning.{proc_section_adds}
use Rattle.proc_sections.specs.Givings.{GiveSection, naming}

-- an entry of the ProcArray
pub proc_adds : (start : Start) (v w : Knowledge) (n : ℕ) (s : Session) (kind : Kind) → IsAt start v n s → IsPlain proc_lock kind → ProcSection start (record { by = by_at n s.levels.commands; kind = kind }) v w → Adds (by_at n s.levels.commands) IsPlain v.seen w.seen
proc_adds start v w n s kind a plain section = proc_section_adds start v w n s (record { by = by_at n s.levels.commands; kind = kind }) a refl section IsPlain (λ number. tt) plain

-- an id, or none
pub give_adds : (start : Start) (v w : Knowledge) (n : ℕ) (s : Session) (result : Result Given Refusal) → IsAt start v n s → GiveSection start n s v w result → Adds (by_at n s.levels.commands) IsPlain v.seen w.seen
give_adds start v w n s (Ok (gives.Id id warn)) a section = proc_adds start v w n s (kinds.Event (naming n s id)) a tt section
give_adds start v w n s (Ok (gives.NeedPage id)) a section = proc_adds start v w n s kinds.Look a tt section
give_adds start v w n s (Err r) a section = proc_adds start v w n s kinds.Look a tt section
