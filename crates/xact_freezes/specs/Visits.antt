-- What critical sections leave in which a session has these events of multixacts and no other, and stands as before.
use Rattle.std.specs.Prelude.{◌≡◌, ℕ, List}
use Rattle.disk_core.specs.declared.log_disk.LogDisk as logs
use Rattle.disk_core.specs.declared.page_disk.PageDisk as disks
use Rattle.hall.specs.declared.hall.Hall.{Hall}
use Rattle.hall.specs.Calls.{view}
use Rattle.tx_events.specs.declared.multi.MultiEvent.{MultiEvent}
use Rattle.tx_core.specs.declared.entry.Entry.{Entry}
use Rattle.tx_core.specs.declared.entry.Kind.{Kind}
use Rattle.tx_core.specs.declared.entry.Start.{Start}
use Rattle.engine_parts.specs.declared.part.Part.{Part}
use Rattle.engine_parts.specs.declared.session.Caller.{Caller}
use Rattle.engine_parts.specs.Adding.{Adds}
use Rattle.engine_parts.specs.Calls.{MayStep}
use Rattle.engine_parts.specs.Sessions.{by_at}
use Rattle.engine_parts.specs.Steps.{WentMulti}

module _ {H L P : Type 0} {l : logs.Ghosts L} {p : disks.Ghosts P} where
  -- The session may go on, the lists went on, and its command added only such entries.
  pub record Visited (hall : Hall H (Part L P l p) Entry Start) (banks : ℕ) (May : ℕ → Kind → Type 0) (added : List MultiEvent)
      (old new : Caller L P l p) : Type 0 where
    pub step : MayStep hall banks new
    pub went : WentMulti old.number added (view old.pass).seen (view new.pass).seen
    pub adds : Adds (by_at old.number old.session.levels.commands) May (view old.pass).seen (view new.pass).seen
    pub session : new.session ≡ old.session
    pub number : new.number ≡ old.number
