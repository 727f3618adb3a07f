-- What a session's snapshot shows of an id before anything is read of it.
use Rattle.std.specs.Prelude.{◌≡◌, ℕ, ◌^◌, ◌<◌, ◌≤◌, List, Option, None, Some, true}
use Rattle.std.specs.List.{find}
use Rattle.tx_events.specs.Ids.{IsFullId}
use Rattle.tx_events.specs.Nearest.{near_id}
use Rattle.tx_events.specs.declared.snapshot.SnapData.{SnapData}
use Rattle.tx_events.specs.Events.{same_name}
use Rattle.tx_events.specs.IdLists.{Ascending}
use Rattle.tx_events.specs.Sights.{sight_by}
use Rattle.session_levels.specs.declared.session.RegisteredSnapshot.{RegisteredSnapshot}
use Rattle.session_levels.specs.declared.session.Session as plain
use Rattle.xact_reads.specs.declared.glances.Glance.{Glance}

-- the limits of a snapshot are ids of a transaction below 2^63
pub record HasLimits (d : SnapData) : Type 0 where
  pub xmin : 3 ≤ d.xmin
  pub xmax : 3 ≤ d.xmax
  pub to : d.xmax < 2 ^ 63

-- the id is the one near the snapshot's xmax, and this is shown of it if it has committed
pub record Shows (d : SnapData) (x : ℕ) (g : Glance) : Type 0 where
  pub near : near_id d.xmax x ≡ Some g.id
  pub full : IsFullId g.id
  pub xmin : g.xmin ≡ d.xmin
  pub sight : Ascending d.xip → Ascending d.subxip → g.sight ≡ sight_by d g.id true

abbrev pub IsGlance : SnapData → ℕ → Option Glance → Type 0
IsGlance d x None = near_id d.xmax x ≡ None
IsGlance d x (Some g) = Shows d x g

-- the session's snapshot of this name
abbrev pub IsNamed : plain.Session → List ℕ → RegisteredSnapshot → Type 0
IsNamed s name k = find (λ x. same_name x.name name) s.registered.items ≡ Some k

-- it shows this
pub record HasGlanced (s : plain.Session) (name : List ℕ) (x : ℕ) (o : Option Glance) : Type 0 where
  pub registered : RegisteredSnapshot
  pub named : IsNamed s name registered
  pub glance : IsGlance registered.snapshot x o
