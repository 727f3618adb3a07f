-- What a session learns at a lock, and leaves there.
use Rattle.std.specs.Prelude.{◌≡◌, ◌⊎◌, ◌<◌, ℕ, List, length}
use Rattle.hall.specs.declared.view.View.{View}
use Rattle.hall.specs.declared.view.Stage.TheVariants.{Free, Inside}
use Rattle.notes.specs.Lists.{Knows, add, at}
use Rattle.tx_events.specs.declared.event.By.{By}
use Rattle.tx_events.specs.Horizon.{oldest_id}
use Rattle.tx_core.specs.declared.entry.Entry.{Entry}
use Rattle.tx_core.specs.declared.entry.Kind.TheVariants as kinds
use Rattle.tx_core.specs.declared.entry.Start.{Start}
use Rattle.tx_core.specs.Entries.{history, last_from, session_of}
use Rattle.tx_core.specs.EngineInvariant.{EngineInvariant}
use Rattle.tx_core.specs.Locks.{oldest_word, proc_lock}
use Rattle.tx_core.specs.PostsFollow.{IsShown, posts}

-- what a pass knows of the lists of all locks
abbrev pub Knowledge : Type 0
Knowledge = View Start Entry

-- The knowledge goes on: what is seen goes on from what was seen, and has no more entries of the session's own
pub record Learns (v w : Knowledge) : Type 0 where
  pub knows : Knows session_of v.name v.seen w.seen
  pub long : length w.seen ≡ length v.seen
  pub name : w.name ≡ v.name
  pub holds : w.holds ≡ v.holds

-- a lock was entered
pub record Enters (start : Start) (lock : ℕ) (v w : Knowledge) : Type 0 where
  pub learns : Learns v w
  pub kept : EngineInvariant start w.seen
  pub inside : w.stage ≡ Inside lock

-- a lock was left with one entry more
pub record Leaves (start : Start) (lock : ℕ) (e : Entry) (v w : Knowledge) : Type 0 where
  pub seen : w.seen ≡ add v.seen lock e
  pub kept : EngineInvariant start w.seen
  pub free : w.stage ≡ Free
  pub name : w.name ≡ v.name
  pub holds : w.holds ≡ v.holds

-- One critical section, with this entry: the lock was entered, and left again with no other entry of the session's
-- between.
pub record Section (start : Start) (lock : ℕ) (e : Entry) (v w : Knowledge) : Type 0 where
  pub within : Knowledge
  pub enters : Enters start lock v within
  pub leaves : Leaves start lock e within w

-- ---- the ProcArray

-- the entry that this command published a number
abbrev pub post_of : By → ℕ → Entry
post_of by number = record { by = by; kind = kinds.Post number }

-- the oldest id that the published word shows
abbrev pub shown_oldest : Start → List (List Entry) → ℕ
shown_oldest start lists = last_from start.base.oldest (posts (at lists (oldest_word start)))

-- the word showed an older one than the oldest id, so this command published that
pub record Publishes (start : Start) (by : By) (v w : Knowledge) : Type 0 where
  pub older : shown_oldest start v.seen < oldest_id start.base.oldest (history v.seen)
  pub seen : w.seen ≡ add v.seen (oldest_word start) (post_of by (oldest_id start.base.oldest (history v.seen)))
  pub kept : EngineInvariant start w.seen
  pub stage : w.stage ≡ v.stage
  pub name : w.name ≡ v.name
  pub holds : w.holds ≡ v.holds

-- The ProcArray's lock was entered. Where the word showed an older id than the oldest one, this command published that,
-- and else nothing.
pub record EntersProc (start : Start) (by : By) (v w : Knowledge) : Type 0 where
  pub found : Knowledge
  pub enters : Enters start proc_lock v found
  pub publishes : (w ≡ found) ⊎ Publishes start by found w
  pub shown : IsShown start w.seen
  pub kept : EngineInvariant start w.seen
  pub inside : w.stage ≡ Inside proc_lock
  pub long : length w.seen ≡ length v.seen

-- one critical section of the ProcArray, with this entry
pub record ProcSection (start : Start) (e : Entry) (v w : Knowledge) : Type 0 where
  pub within : Knowledge
  pub enters : EntersProc start e.by v within
  pub leaves : Leaves start proc_lock e within w
