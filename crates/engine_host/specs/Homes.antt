-- How the host stands between two rounds.
use Rattle.std.specs.Prelude.{◌≡◌, ℕ, []}
use Rattle.disk_core.specs.declared.log_disk.LogDisk as logs
use Rattle.disk_core.specs.declared.page_disk.PageDisk as disks
use Rattle.hall.specs.declared.hall.Hall.{Hall}
use Rattle.hall.specs.Calls.{view}
use Rattle.tx_core.specs.declared.entry.Entry.{Entry}
use Rattle.tx_core.specs.declared.entry.Start.{Start}
use Rattle.engine_parts.specs.declared.part.Part.{Part}
use Rattle.engine_parts.specs.declared.session.Session.{Session}
use Rattle.engine_host.specs.declared.host.Host.{Host}
use Rattle.engine_host.specs.Hosts.{HoldsAllBut, IsHost, IsParked}

module _ {H L P : Type 0} {l : logs.Ghosts L} {p : disks.Ghosts P} where
  -- the host of the table has all names, so no session is in
  pub record IsHome (hall : Hall H (Part L P l p) Entry Start) (host : Host L P l p) : Type 0 where
    pub is_host : IsHost hall host
    pub all : HoldsAllBut host []

  -- No list has an entry more, and each session that might be let in may be let in.
  pub record StaysHome (hall : Hall H (Part L P l p) Entry Start) (old new : Host L P l p) : Type 0 where
    pub home : IsHome hall new
    pub cluster : new.cluster ≡ old.cluster
    pub seen : (view new.pass).seen ≡ (view old.pass).seen
    pub parked : (n : ℕ) (s : Session) → IsParked hall old n s → IsParked hall new n s
