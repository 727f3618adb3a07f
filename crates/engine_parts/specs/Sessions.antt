-- How a session stands in the lists that it has seen.
use Rattle.std.specs.Prelude.{◌≡◌, ℕ, ◌+◌, ◌*◌, ◌<◌, ◌≤◌, ◌⊎◌, false, List, Option, None, Some, IfSome, Contains, drop, length}
use Rattle.hall.specs.declared.view.Stage.TheVariants.{Free}
use Rattle.notes.specs.Lists.{at}
use Rattle.tx_events.specs.declared.event.By.{By}
use Rattle.tx_events.specs.Base.{IsBase}
use Rattle.tx_core.specs.declared.entry.Entry.{Entry}
use Rattle.tx_core.specs.declared.entry.Start.{Start}
use Rattle.tx_core.specs.CommitRecordsExact.{HasNoRecord}
use Rattle.tx_core.specs.EngineInvariant.{EngineInvariant}
use Rattle.tx_core.specs.Entries.{IsLinked, history}
use Rattle.tx_core.specs.PagesBeforeIds.{IsMade}
use Rattle.tx_core.specs.ParentsFollow.{IsGivenBelow}
use Rattle.tx_core.specs.ProgramOrder.{IsInTurn}
use Rattle.session_levels.specs.Stands as levels
use Rattle.tx_model.specs.CommandEvents.{innermost}
use Rattle.tx_model.specs.Stance.{Stance}
use Rattle.engine_parts.specs.declared.session.Session.{Session}
use Rattle.engine_parts.specs.declared.session.Unlinked.{Unlinked}
use Rattle.engine_parts.specs.Faults.{look_of}
use Rattle.engine_parts.specs.Holds.{Knowledge, Learns}
use Rattle.engine_parts.specs.Makings.{Makes}
use Rattle.engine_parts.specs.Stages.{AreUnaborted, IsInStage, may_be_aborted, may_be_recorded}

abbrev pub by_at : ℕ → ℕ → By
by_at session command = record { session = session; command = command }

-- the entry of a critical section in which the session's command changed nothing
abbrev pub look_by : ℕ → Session → Entry
look_by n s = look_of (by_at n s.levels.commands)

-- the session as its lines leave it
abbrev pub stance_of : Session → Stance
stance_of s = levels.stance_of s.levels

-- the id of its innermost level
abbrev pub inner_id : Session → Option ℕ
inner_id s = innermost (stance_of s).levels

abbrev pub IsThe : Option Unlinked → ℕ → Type 0
IsThe None id = ⊥
IsThe (Some u) id = u.id ≡ id

-- The parent of each open id but the first is recorded, but maybe that of one of them, which was given below it and
-- has its pages
pub record IsFiled (start : Start) (lists : List (List Entry)) (n : ℕ) (opened : List ℕ)
    (unlinked : Option Unlinked) : Type 0 where
  pub linked : (id : ℕ) → Contains (drop 1 opened) id → ((parent : ℕ) × IsLinked start lists id parent)
      ⊎ IsThe unlinked id
  pub pending : IfSome unlinked (λ u. Contains (drop 1 opened) u.id × IsGivenBelow lists n u.parent u.id
      × IsMade start lists u.id)

-- the ids with which a life begins as committed were given before it
abbrev pub AreGivenBefore : Start → Type 0
AreGivenBefore start = (x : ℕ) → Contains start.committed x → (3 ≤ x) × (x < start.base.next)

-- The lists keep the invariant, all entries of the session are of its commands so far, its levels, ids and snapshots
-- are those of the history, the parents of its open ids are recorded, and its multixacts are made. Between two critical
-- sections and within one.
pub record IsAt (start : Start) (v : Knowledge) (n : ℕ) (s : Session) : Type 0 where
  pub base : IsBase start.base
  pub before : AreGivenBefore start
  pub kept : EngineInvariant start v.seen
  pub name : v.name ≡ n
  pub known : n < start.sessions
  pub wide : 5 + 4 * start.banks ≤ length v.seen
  pub turns : (lock : ℕ) → IsInTurn start (at v.seen lock) (by_at n s.levels.commands)
  pub stands : levels.Stands start.base (history v.seen) n s.levels.commands s.levels
  pub clear : may_be_recorded s.stage ≡ false → HasNoRecord v.seen n
  pub unaborted : may_be_aborted s.stage ≡ false → AreUnaborted v.seen n s.levels.open_ids.items
  pub filed : IsFiled start v.seen n s.levels.open_ids.items s.unlinked
  pub makes : Makes start v.seen n s.making

-- it is inside no lock
pub record IsReady (start : Start) (v : Knowledge) (n : ℕ) (s : Session) : Type 0 where
  pub at : IsAt start v n s
  pub free : v.stage ≡ Free

-- it stands between two calls, with an end that was begun as far as its stage says
pub record MayCall (start : Start) (v : Knowledge) (n : ℕ) (s : Session) : Type 0 where
  pub ready : IsReady start v n s
  pub stage : IsInStage start v.seen n (inner_id s) s.levels.open_ids.items s.stage

-- while others go on, it may call still
abbrev pub CallsStay : Type 0
CallsStay = (start : Start) (v w : Knowledge) (n : ℕ) (s : Session) → MayCall start v n s → Learns v w
    → EngineInvariant start w.seen → w.stage ≡ Free → MayCall start w n s
