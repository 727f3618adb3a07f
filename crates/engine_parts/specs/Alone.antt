-- The host of a lock table between two rounds, in which no session is in: so nobody else adds to a list.
use Rattle.std.specs.Prelude.{◌≡◌, ℕ, ◌+◌, ◌*◌, ◌≤◌, List}
use Rattle.disk_core.specs.declared.log_disk.LogDisk as logs
use Rattle.disk_core.specs.declared.page_disk.PageDisk as disks
use Rattle.hall.specs.declared.hall.Hall.{Hall}
use Rattle.hall.specs.declared.pass.Token.{Token}
use Rattle.hall.specs.declared.view.Stage.TheVariants.{Free, Inside}
use Rattle.hall.specs.Calls.{IsOf, start_of, view}
use Rattle.hall.specs.Rule.{Holds}
use Rattle.tx_core.specs.declared.entry.Entry.{Entry}
use Rattle.tx_core.specs.declared.entry.Start.{Start}
use Rattle.tx_core.specs.EngineInvariant.{EngineInvariant}
use Rattle.engine_parts.specs.declared.part.Part.{Part}

module _ {H L P : Type 0} {l : logs.Ghosts L} {p : disks.Ghosts P} where
  -- The pass is the host's and has the names of all sessions, and is inside no lock.
  pub record IsAlone (hall : Hall H (Part L P l p) Entry Start) (pass : Token (Part L P l p) Entry Start) : Type 0 where
    pub own : IsOf hall pass
    pub free : (view pass).stage ≡ Free
    pub laid : hall.cells ≡ 3 + 4 * (start_of hall).banks
    pub banks : (start_of hall).banks ≤ 16
    pub name : (view pass).name ≡ (start_of hall).sessions
    pub all : (n : ℕ) → n ≤ (start_of hall).sessions → Holds (view pass) n

  -- it is inside this lock, and has learned nothing new
  pub record IsIn (hall : Hall H (Part L P l p) Entry Start) (lock : ℕ) (old new : Token (Part L P l p) Entry Start)
      : Type 0 where
    pub own : IsOf hall new
    pub cell : new.cell ≡ lock
    pub inside : (view new).stage ≡ Inside lock
    pub name : (view new).name ≡ (view old).name
    pub holds : (view new).holds ≡ (view old).holds
    pub seen : (view new).seen ≡ (view old).seen
    pub kept : EngineInvariant (start_of hall) (view new).seen

  -- it is alone still, with the names that it had, and the lists are these
  pub record StaysAlone (hall : Hall H (Part L P l p) Entry Start) (lists : List (List Entry))
      (old new : Token (Part L P l p) Entry Start) : Type 0 where
    pub alone : IsAlone hall new
    pub seen : (view new).seen ≡ lists
    pub holds : (view new).holds ≡ (view old).holds
