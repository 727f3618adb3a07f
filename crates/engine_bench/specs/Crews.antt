-- The sessions of a crew.
use Rattle.std.specs.Prelude.{◌≡◌, ℕ, ◌+◌, ◌<◌, ◌≤◌, List, get_or, length, map}
use Rattle.std.specs.List.{All}
use Rattle.disk_core.specs.declared.log_disk.LogDisk as logs
use Rattle.disk_core.specs.declared.page_disk.PageDisk as disks
use Rattle.hall.specs.declared.hall.Hall.{Hall}
use Rattle.tx_core.specs.declared.entry.Entry.{Entry}
use Rattle.tx_core.specs.declared.entry.Start.{Start}
use Rattle.engine_parts.specs.declared.part.Part.{Part}
use Rattle.engine_parts.specs.Calls.{MayRun}
use Rattle.engine_bench.specs.declared.crew.Member.{Member}

module _ {L P : Type 0} {l : logs.Ghosts L} {p : disks.Ghosts P} where
  abbrev pub numbers_of : List (Member L P l p) → List ℕ
  numbers_of members = map (λ m. m.caller.number) members

module _ {H L P : Type 0} {l : logs.Ghosts L} {p : disks.Ghosts P} where
  abbrev pub MayWork : Hall H (Part L P l p) Entry Start → ℕ → Member L P l p → Type 0
  MayWork hall banks m = MayRun hall banks m.caller

  -- The member may go on, and counted no more calls than it ran commands.
  pub record Worked (hall : Hall H (Part L P l p) Entry Start) (banks : ℕ) (old new : Member L P l p) : Type 0 where
    pub may : MayRun hall banks new.caller
    pub number : new.caller.number ≡ old.caller.number
    pub done : new.done + old.caller.session.levels.commands ≤ old.done + new.caller.session.levels.commands

  -- each of them, in their order
  pub record AllWent (hall : Hall H (Part L P l p) Entry Start) (banks : ℕ) (old new : List (Member L P l p)) : Type 0 where
    pub count : length new ≡ length old
    pub each : (i : ℕ) (m : Member L P l p) → i < length old → Worked hall banks (get_or old i m) (get_or new i m)

  -- they may go on, each under its number
  pub record HaveGoneOn (hall : Hall H (Part L P l p) Entry Start) (banks : ℕ) (old new : List (Member L P l p)) : Type 0 where
    pub each : All (MayWork hall banks) new
    pub numbers : numbers_of new ≡ numbers_of old
