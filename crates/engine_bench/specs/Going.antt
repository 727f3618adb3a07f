-- How a session goes on by the calls that it makes.
use Rattle.std.specs.Prelude.{◌≡◌, ℕ, ◌+◌, ◌≤◌}
use Rattle.disk_core.specs.declared.log_disk.LogDisk as logs
use Rattle.disk_core.specs.declared.page_disk.PageDisk as disks
use Rattle.hall.specs.declared.hall.Hall.{Hall}
use Rattle.tx_core.specs.declared.entry.Entry.{Entry}
use Rattle.tx_core.specs.declared.entry.Start.{Start}
use Rattle.engine_parts.specs.declared.part.Part.{Part}
use Rattle.engine_parts.specs.declared.session.Caller.{Caller}
use Rattle.engine_parts.specs.Calls.{MayRun}

module _ {H L P : Type 0} {l : logs.Ghosts L} {p : disks.Ghosts P} where
  -- The session may run more, and ran at least so many commands.
  pub record GoesOn (hall : Hall H (Part L P l p) Entry Start) (banks count : ℕ) (old new : Caller L P l p) : Type 0 where
    pub may : MayRun hall banks new
    pub number : new.number ≡ old.number
    pub commands : old.session.levels.commands + count ≤ new.session.levels.commands
