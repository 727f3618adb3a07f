-- A session before its first call.
use Rattle.std.specs.Prelude.{◌≡◌, ℕ, ◌+◌, ◌*◌, ◌<◌, ◌≤◌, [], None, length}
use Rattle.hall.specs.declared.view.Stage.TheVariants.{Free}
use Rattle.notes.specs.Lists.{at, own}
use Rattle.tx_events.specs.Base.{IsBase}
use Rattle.tx_core.specs.declared.entry.Start.{Start}
use Rattle.tx_core.specs.EngineInvariant.{EngineInvariant}
use Rattle.tx_core.specs.Entries.{session_of}
use Rattle.session_levels.specs.Stands.{IsFresh}
use Rattle.engine_parts.specs.declared.session.Session.{Session}
use Rattle.engine_parts.specs.declared.session.Stage.TheVariants as stages
use Rattle.engine_parts.specs.Holds.{Knowledge}
use Rattle.engine_parts.specs.Sessions.{AreGivenBefore, MayCall}

-- The session has done nothing yet, and has no entry at any lock. Others may have: the lists keep the invariant.
pub record IsNew (start : Start) (v : Knowledge) (n : ℕ) (s : Session) : Type 0 where
  pub base : IsBase start.base
  pub before : AreGivenBefore start
  pub kept : EngineInvariant start v.seen
  pub empty : (place : ℕ) → own session_of n (at v.seen place) ≡ []
  pub name : v.name ≡ n
  pub known : n < start.sessions
  pub free : v.stage ≡ Free
  pub wide : 5 + 4 * start.banks ≤ length v.seen
  pub fresh : IsFresh s.levels
  pub stage : s.stage ≡ stages.Clear
  pub unlinked : s.unlinked ≡ None
  pub making : s.making ≡ None

-- a new session may call
abbrev pub NewMayCall : Type 0
NewMayCall = (start : Start) (v : Knowledge) (n : ℕ) (s : Session) → IsNew start v n s → MayCall start v n s
