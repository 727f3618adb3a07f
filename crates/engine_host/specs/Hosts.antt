-- What an engine's lock table is opened with, and how its host stands.
use Rattle.std.specs.Prelude.{◌≡◌, ◌≢◌, ◌⊎◌, ℕ, ◌+◌, ◌*◌, ◌^◌, ◌<◌, ◌==◌, not, List, [], ◌∷◌, None, Contains, replicate}
use Rattle.std.specs.List.{filter}
use Rattle.disk_core.specs.declared.log_disk.LogDisk as logs
use Rattle.disk_core.specs.declared.page_disk.PageDisk as disks
use Rattle.notes.specs.Lists.{at}
use Rattle.hall.specs.declared.hall.Hall.{Hall}
use Rattle.hall.specs.Calls.{IsOf, passes_of, start_of, view}
use Rattle.hall.specs.Rule.{Holds}
use Rattle.hall.specs.declared.view.Opening.{Opening}
use Rattle.hall.specs.declared.view.Stage.TheVariants.{Free}
use Rattle.hall.specs.Told.{asking, given}
use Rattle.session_levels.specs.Stands.{IsFresh}
use Rattle.tx_core.specs.declared.entry.Entry.{Entry}
use Rattle.tx_core.specs.declared.entry.Start.{Start}
use Rattle.engine_parts.specs.declared.part.Part.{Part}
use Rattle.engine_parts.specs.declared.session.Session.{Session}
use Rattle.engine_parts.specs.declared.session.Stage.TheVariants as stages
use Rattle.engine_parts.specs.Sessions.{AreGivenBefore, MayCall}
use Rattle.engine_host.specs.declared.cluster.Cluster.{Cluster}
use Rattle.engine_host.specs.declared.host.Host.{Host}
use Rattle.engine_host.specs.Opening.{IsCluster}

-- the published words at first: the oldest id, the oldest xmin, and a 0 for the requests of each session
abbrev pub words_of : Cluster → List ℕ
words_of c = c.base.oldest ∷ c.base.next ∷ replicate c.sessions 0

-- a list without entries for each lock and each word, a name for each session, and one for the host
abbrev pub opening : Start → Opening Start Entry
opening start = record {
  start = start;
  lists = replicate (3 + 4 * start.banks + (2 + start.sessions)) [];
  passes = start.sessions + 1;
}

-- the numbers but this one
abbrev pub without : ℕ → List ℕ → List ℕ
without number numbers = filter (λ n. not (n == number)) numbers

-- the session has done nothing yet
abbrev pub IsNewSession : Session → Type 0
IsNewSession s = IsFresh s.levels × (s.stage ≡ stages.Clear) × (s.unlinked ≡ None) × (s.making ≡ None)

module _ {L P : Type 0} {l : logs.Ghosts L} {p : disks.Ghosts P} where
  -- of all lists
  abbrev pub HasSeenNothing : Host L P l p → Type 0
  HasSeenNothing host = (place : ℕ) → at (view host.pass).seen place ≡ []

  -- the host has all names but these
  abbrev pub HoldsAllBut : Host L P l p → List ℕ → Type 0
  HoldsAllBut host away = (n : ℕ) → n < host.cluster.sessions + 1 → Holds (view host.pass) n ⊎ Contains away n

module _ {H L P : Type 0} {l : logs.Ghosts L} {p : disks.Ghosts P} where
  -- The host is one of this table, which has so many banks and sessions, and is inside no lock.
  pub record IsHost (hall : Hall H (Part L P l p) Entry Start) (host : Host L P l p) : Type 0 where
    pub own : IsOf hall host.pass
    pub free : (view host.pass).stage ≡ Free
    pub cluster : IsCluster host.cluster
    pub start : host.start.value ≡ start_of hall
    pub laid : hall.cells ≡ 3 + 4 * (start_of hall).banks
    pub banks : (start_of hall).banks ≡ host.cluster.banks
    pub sessions : (start_of hall).sessions ≡ host.cluster.sessions
    pub base : (start_of hall).base ≡ host.cluster.base
    pub before : AreGivenBefore (start_of hall)
    pub passes : passes_of hall ≡ host.cluster.sessions + 1
    pub name : (view host.pass).name ≡ host.cluster.sessions

  -- The session, which is at no pass, may be let in under this number: the host has its name, and in what the host has
  -- seen, by the pass that it would give, the session may call. It has run few commands.
  pub record IsParked (hall : Hall H (Part L P l p) Entry Start) (host : Host L P l p) (n : ℕ) (s : Session)
      : Type 0 where
    pub held : Holds (view host.pass) n
    pub below : n < host.cluster.sessions
    pub may : MayCall (start_of hall) (given (asking n (view host.pass))) n s
    pub few : s.levels.commands < 2 ^ 48

  -- the sessions of all numbers but this one are where they were
  abbrev pub OthersStayParked : Hall H (Part L P l p) Entry Start → ℕ → Host L P l p → Host L P l p → Type 0
  OthersStayParked hall number old new =
      (n : ℕ) (s : Session) → n ≢ number → IsParked hall old n s → IsParked hall new n s
