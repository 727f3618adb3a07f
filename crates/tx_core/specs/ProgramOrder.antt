-- Entries are of the life's sessions, or of its host, and go by their commands, and each stands where some call may add
-- it.
use Rattle.std.specs.List.{All, AllByRecursion, filter}
use Rattle.std.specs.Prelude.{[], Contains, List, None, map, ℕ, ◌==◌, ◌≡◌, ◌<◌, ◌≤◌, ◌⊎◌}
use Rattle.tx_events.specs.declared.event.By.{By}
use Rattle.tx_events.specs.declared.record.Rec.{Rec}
use Rattle.tx_events.specs.declared.record.Rec.TheVariants as records
use Rattle.tx_events.specs.Places.{first_seen}
use Rattle.tx_core.specs.declared.entry.Change.{Change}
use Rattle.tx_core.specs.declared.entry.Entry.{Entry}
use Rattle.tx_core.specs.declared.entry.Kind.{Kind}
use Rattle.tx_core.specs.declared.entry.Start.{Start}
use Rattle.tx_core.specs.Lists.{Upheld}
use Rattle.tx_core.specs.Locks.{IsPageLock, first_request, log_lock, members_lock_of, multi_lock, offsets_lock_of, oldest_word, proc_lock, subtrans_lock_of, xact_lock_of, xmin_word}
use Rattle.tx_core.specs.declared.entry.Change.TheVariants as changes
use Rattle.tx_core.specs.declared.entry.Kind.TheVariants as kinds

-- the command comes after its session's commands before it, or is the last of them
abbrev pub ComesAfter : List Entry → By → Type 0
ComesAfter before by = All (λ f. f.by.command ≤ by.command) (filter (λ f. f.by.session == by.session) before)

-- so a command of one of the life's sessions
pub record IsInTurn (start : Start) (before : List Entry) (by : By) : Type 0 where
  pub known : by.session < start.sessions
  pub after : ComesAfter before by

-- and a step of the life's host, whose number is the next one behind the sessions'; it has no commands
pub record IsHostsTurn (start : Start) (by : By) : Type 0 where
  pub known : by.session ≡ start.sessions
  pub no_command : by.command ≡ 0

abbrev pub IsCheckpoint : Rec → Type 0
IsCheckpoint (records.Checkpoint number counters) = Unit {0}
IsCheckpoint rec = ⊥

-- What the host may add, which makes checkpoints between the sessions' rounds: it touches no transaction and no page.
abbrev pub IsOfHost : Kind → Type 0
IsOfHost (kinds.Append rec) = IsCheckpoint rec
IsOfHost (kinds.Flush to) = Unit {0}
IsOfHost (kinds.Forget number) = Unit {0}
IsOfHost (kinds.LogFault asked count) = Unit {0}
IsOfHost kinds.Sync = Unit {0}
IsOfHost (kinds.Fault callers changes cut count) = (changes ≡ []) × (cut ≡ None)
IsOfHost kinds.Look = Unit {0}
IsOfHost kind = ⊥

abbrev pub NeedsTurn : Start → List (List Entry) → ℕ → List Entry → Entry → Type 0
NeedsTurn start lists lock before e = IsInTurn start before e.by ⊎ (IsHostsTurn start e.by × IsOfHost e.kind)

-- the lock of the page that a change is made on
abbrev pub change_lock : Start → Change → ℕ
change_lock start (changes.State caller id state) = xact_lock_of start id
change_lock start (changes.Parent caller id parent) = subtrans_lock_of start id
change_lock start (changes.Offset caller multi offset) = offsets_lock_of start multi
change_lock start (changes.Slot caller offset member) = members_lock_of start offset

abbrev pub caller_of : Change → By
caller_of (changes.State caller id state) = caller
caller_of (changes.Parent caller id parent) = caller
caller_of (changes.Offset caller multi offset) = caller
caller_of (changes.Slot caller offset member) = caller

-- the changes are all made on pages of this bank
pub record AreOn (start : Start) (lock : ℕ) (changes : List Change) : Type 0 where
  pub bank : IsPageLock start lock
  pub pages : AllByRecursion (λ change. change_lock start change ≡ lock) changes

-- who met a fault: the session in whose critical section it came, and those for whom it made changes, each session once
pub record AreCallers (by : By) (callers : List By) (changes : List Change) : Type 0 where
  pub own : Contains callers by
  pub once : first_seen (map (λ caller. caller.session) callers) ≡ map (λ caller. caller.session) callers
  pub each : AllByRecursion (λ change. Contains callers (caller_of change)) changes

-- what may stand in the list of a lock
abbrev pub MayStand : Start → ℕ → By → Kind → Type 0
MayStand start lock by (kinds.Append rec) = lock ≡ log_lock
MayStand start lock by (kinds.Flush to) = lock ≡ log_lock
MayStand start lock by (kinds.Forget number) = lock ≡ log_lock
MayStand start lock by (kinds.LogFault asked count) = lock ≡ log_lock
MayStand start lock by (kinds.Event event) = lock ≡ proc_lock
MayStand start lock by (kinds.Made id) = lock ≡ proc_lock
MayStand start lock by (kinds.Multi event) = lock ≡ multi_lock
MayStand start lock by (kinds.Post number) = (lock ≡ oldest_word start) ⊎ (lock ≡ xmin_word start)
MayStand start lock by (kinds.Set changes) = AreOn start lock changes
MayStand start lock by (kinds.Zero page) = IsPageLock start lock
MayStand start lock by (kinds.Cut page) = IsPageLock start lock
MayStand start lock by kinds.Sync = IsPageLock start lock
MayStand start lock by (kinds.Fault callers changes cut count) = AreOn start lock changes × AreCallers by callers changes
MayStand start lock by (kinds.Request changes) = first_request start ≤ lock
MayStand start lock by kinds.Look = Unit {0}

abbrev pub NeedsStand : Start → List (List Entry) → ℕ → List Entry → Entry → Type 0
NeedsStand start lists lock before e = MayStand start lock e.by e.kind

-- In each list each entry is of one of the life's sessions, or of its host, whose command numbers never fall, and of a
-- kind that some call adds there.
pub record ProgramOrder (start : Start) (lists : List (List Entry)) : Type 0 where
  pub turns : Upheld (NeedsTurn start) lists
  pub stand : Upheld (NeedsStand start) lists

-- what a session knows that adds the entry
pub record MayComeNext (start : Start) (seen : List (List Entry)) (lock : ℕ) (before : List Entry) (e : Entry) : Type 0 where
  pub turn : NeedsTurn start seen lock before e
  pub stands : NeedsStand start seen lock before e
