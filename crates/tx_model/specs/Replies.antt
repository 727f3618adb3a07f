-- Which replies are lawful.
use Rattle.std.specs.Prelude.{IsTrue, ◌↔◌, ◌≡◌, ◌≢◌, ℕ, ◌-◌, ◌<◌, ◌≤◌, ◌==◌, nat_lt, Bool, true, false, List, [], Option, Some, None, length, take, drop, cond, slice_get, IfSome}
use Rattle.std.specs.List.{AllByRecursion}
use Rattle.tx_events.specs.Nearest.{near_id}
use Rattle.tx_events.specs.declared.event.By.{By}
use Rattle.tx_events.specs.declared.event.Event.{Event}
use Rattle.tx_events.specs.declared.event.Event.TheVariants as events
use Rattle.tx_model.specs.declared.command.Command.{Command}
use Rattle.tx_model.specs.declared.command.Command.TheVariants as commands
use Rattle.tx_model.specs.declared.reply.Reply.{Reply}
use Rattle.tx_model.specs.declared.reply.Reply.TheVariants as replies
use Rattle.tx_model.specs.declared.reply.Status.{Status}
use Rattle.tx_model.specs.declared.reply.Status.TheVariants as statuses
use Rattle.tx_events.specs.declared.refusal.Refusal.TheVariants as refusals
use Rattle.tx_events.specs.declared.record.Counters.{Counters}
use Rattle.tx_events.specs.Events.{by_of, given_by}
use Rattle.tx_events.specs.Limits.{stop_limit, warn_limit}
use Rattle.tx_events.specs.History.{next_given}
use Rattle.tx_events.specs.Horizon.{oldest_id, oldest_xmin}
use Rattle.tx_events.specs.IdLists.{has}
use Rattle.tx_events.specs.Running.{running}
use Rattle.tx_events.specs.Snapshots.{snapshot_data, snapshot_xmax}
use Rattle.tx_model.specs.Stance.{Stance, lacking, snap_of}
use Rattle.tx_events.specs.Visible.{is_visible}

-- the command's snapshot is taken at place p
abbrev pub IsTakenAt : List Event → By → List ℕ → ℕ → Type 0
IsTakenAt h by name p = slice_get h p ≡ Some (events.Snap name by)

-- the full id that a stored id means to a snapshot: the special ids themselves, each other the nearest to xmax
abbrev pub seen_id : ℕ → ℕ → Option ℕ
seen_id xmax x = cond (nat_lt x 3) (Some x) (near_id xmax x)

-- Where a round stands in its life's history: behind the first `from` events, those of the rounds before it, and
-- among the first `to`.
pub record RoundSpan : Type 0 where
  pub from : ℕ
  pub to : ℕ

-- where a command runs that runs alone: the history grows meanwhile by its own events
abbrev pub alone : List Event → List Event → RoundSpan
alone h h' = record { from = length h; to = length h' }

-- at place p the command may read: within its round, behind the session's earlier events and before its later ones
pub record MayReadAt (h : List Event) (round : RoundSpan) (by : By) (p : ℕ) : Type 0 where
  pub not_before : round.from ≤ p
  pub not_past : p ≤ round.to
  pub behind : AllByRecursion (λ e. (by_of e).session ≡ by.session → by.command < (by_of e).command) (drop p h)
  pub before : AllByRecursion (λ e. (by_of e).session ≡ by.session → (by_of e).command ≤ by.command) (take p h)

-- The command may find this announced oldest id: it is the one at a place where the command may read, or the one
-- before the last event there. A session publishes the oldest id before its own event, so what is read without the
-- lock of the ProcArray may be one event behind.
pub record MayFindOldest (base : Counters) (h : List Event) (round : RoundSpan) (by : By) (oldest : ℕ) : Type 0 where
  pub place : ℕ
  pub read : MayReadAt h round by place
  pub lag : ℕ
  pub short : lag ≤ 1
  pub oldest_is : oldest ≡ oldest_id base.oldest (take (place - lag) h)

-- the id isn't older than an oldest id that the command may find
pub record IsNotTooOld (base : Counters) (h : List Event) (round : RoundSpan) (by : By) (id : ℕ) : Type 0 where
  pub oldest : ℕ
  pub found : MayFindOldest base h round by oldest
  pub young : oldest ≤ id

-- the command by which the session took its snapshot
abbrev pub taken_by : By → ℕ → By
taken_by by number = record { session = by.session; command = number }

-- the snapshot that the session's command `number` took answers for x; ids 0 to 2 are never too old
pub record IsVerdict (base : Counters) (committed : List ℕ) (h : List Event) (round : RoundSpan) (by : By) (number : ℕ) (name : List ℕ) (x : ℕ) (verdict : Bool) : Type 0 where
  pub place : ℕ
  pub taken : IsTakenAt h (taken_by by number) name place
  pub id : ℕ
  pub near : seen_id (snapshot_xmax base.next (take place h)) x ≡ Some id
  pub young : 3 ≤ x → IsNotTooOld base h round by id
  pub exact : verdict ≡ is_visible committed (take place h) id

-- the id is older than an oldest id that the command may find, or there is none
pub record IsTooOld (base : Counters) (h : List Event) (round : RoundSpan) (by : By) (number : ℕ) (name : List ℕ) (x oldest : ℕ) : Type 0 where
  pub place : ℕ
  pub taken : IsTakenAt h (taken_by by number) name place
  pub normal : 3 ≤ x
  pub older : IfSome (near_id (snapshot_xmax base.next (take place h)) x) (λ id. id < oldest)
  pub found : MayFindOldest base h round by oldest

-- the status of a special id is fixed: 0 never ran, and 1 and 2 count as committed
abbrev pub special_status : ℕ → Status
special_status x = cond (x == 0) statuses.Aborted statuses.Committed

-- how an id stands after these events
abbrev pub status_after : List ℕ → List Event → ℕ → Status
status_after committed h x =
    cond (has (running h) x) statuses.InProgress
    (cond (is_visible committed h x) statuses.Committed statuses.Aborted)

abbrev pub is_in_progress : Status → Bool
is_in_progress statuses.InProgress = true
is_in_progress _ = false

-- The command asked for the status of x at a place where x had been given and wasn't older than the oldest id. Whether
-- it ran there is told, and where the states on pages are told, how it stood there.
pub record IsStatusOf (told : Type 0) (base : Counters) (committed : List ℕ) (h : List Event) (by : By) (x : ℕ) (status : Status) : Type 0 where
  pub place : ℕ
  pub asked : slice_get h place ≡ Some (events.Ask by x)
  pub young : oldest_id base.oldest (take place h) ≤ x
  pub given : x < next_given base.next (take place h)
  pub runs : is_in_progress status ≡ has (running (take place h)) x
  pub exact : told → status ≡ status_after committed (take place h) x

abbrev pub IsKnown : Type 0 → Counters → List ℕ → List Event → By → ℕ → Status → Type 0
IsKnown told base committed h by x status =
    (x < 3 → status ≡ special_status x) × (3 ≤ x → IsStatusOf told base committed h by x status)

-- the command asked for the status of an id that hadn't been given there
pub record IsFuture (base : Counters) (h : List Event) (by : By) (x next : ℕ) : Type 0 where
  pub place : ℕ
  pub asked : slice_get h place ≡ Some (events.Ask by x)
  pub next_is : next ≡ next_given base.next (take place h)
  pub past : next ≤ x

-- The full id that a stored id means to a command that reads the next id: the nearest to it, at a place where the
-- command may read.
pub record IsNearNext (base : Counters) (h : List Event) (round : RoundSpan) (by : By) (x : ℕ) (found : Option ℕ) : Type 0 where
  pub place : ℕ
  pub read : MayReadAt h round by place
  pub near : near_id (next_given base.next (take place h)) x ≡ found

-- that id is older than an oldest id that the command may find, or there is none
pub record IsOldNear (base : Counters) (h : List Event) (round : RoundSpan) (by : By) (x oldest : ℕ) : Type 0 where
  pub normal : 3 ≤ x
  pub id : Option ℕ
  pub near : IsNearNext base h round by x id
  pub older : IfSome id (λ id. id < oldest)
  pub found : MayFindOldest base h round by oldest

-- at place p the command is given this id
pub record IsGivenAt (h : List Event) (by : By) (p id : ℕ) : Type 0 where
  pub event : Event
  pub at : slice_get h p ≡ Some event
  pub own : by_of event ≡ by
  pub gives : given_by event ≡ Some id

-- the command was given an id at or past the limit for a warning
pub record IsWarned (base : Counters) (h : List Event) (by : By) : Type 0 where
  pub place : ℕ
  pub id : ℕ
  pub given : IsGivenAt h by place id
  pub late : warn_limit (oldest_id base.oldest (take place h)) ≤ id

-- the next id was at or past its stop limit at a place where the command may read
pub record IsStopped (base : Counters) (h : List Event) (round : RoundSpan) (by : By) (next stop : ℕ) : Type 0 where
  pub place : ℕ
  pub read : MayReadAt h round by place
  pub next_is : next ≡ next_given base.next (take place h)
  pub stop_is : stop ≡ stop_limit (oldest_id base.oldest (take place h))
  pub reached : stop ≤ next

-- this was the oldest xmin at a place where the command may read
pub record IsHorizon (base : Counters) (h : List Event) (round : RoundSpan) (by : By) (xmin : ℕ) : Type 0 where
  pub place : ℕ
  pub read : MayReadAt h round by place
  pub xmin_is : xmin ≡ oldest_xmin base.next (take place h)

-- the id that was to be the oldest one was before the announced one at a place where the command may read
pub record IsBackward (base : Counters) (h : List Event) (round : RoundSpan) (by : By) (oldest now : ℕ) : Type 0 where
  pub place : ℕ
  pub read : MayReadAt h round by place
  pub now_is : now ≡ oldest_id base.oldest (take place h)
  pub older : oldest < now

-- it was past the oldest xmin at such a place
pub record IsTooNew (base : Counters) (h : List Event) (round : RoundSpan) (by : By) (oldest limit : ℕ) : Type 0 where
  pub place : ℕ
  pub read : MayReadAt h round by place
  pub limit_is : limit ≡ oldest_xmin base.next (take place h)
  pub past : limit < oldest

-- a transaction has at most so many levels: itself and 1,000 savepoints
abbrev pub most_levels : ℕ
most_levels = 1001

-- the reply that a command may get in a round of a life with this base, these committed ids and this history
abbrev pub MayReply : Counters → List ℕ → List Event → RoundSpan → By → Stance → Command → Reply → Type 0
MayReply base committed h round by s commands.Begin replies.Done = s.levels ≡ []
MayReply base committed h round by s commands.Begin (replies.Refused refusals.AlreadyOpen) = s.levels ≢ []
MayReply base committed h round by s commands.Save replies.Done = (s.levels ≢ []) × (length s.levels < most_levels)
MayReply base committed h round by s commands.Save (replies.Refused refusals.NoTransaction) = s.levels ≡ []
MayReply base committed h round by s commands.Save (replies.Refused refusals.DepthLimit) = most_levels ≤ length s.levels
MayReply base committed h round by s commands.Write (replies.Wrote warn ids) = (s.levels ≢ []) × (IsTrue warn ↔ IsWarned base h by)
MayReply base committed h round by s commands.Write (replies.Refused refusals.NoTransaction) = s.levels ≡ []
MayReply base committed h round by s commands.Write (replies.Refused (refusals.Stop next stop)) = (1 ≤ lacking s.levels) × IsStopped base h round by next stop
MayReply base committed h round by s commands.Release replies.Done = 2 ≤ length s.levels
MayReply base committed h round by s commands.Release (replies.Refused refusals.NoSavepoint) = length s.levels ≤ 1
MayReply base committed h round by s commands.Undo replies.Done = 2 ≤ length s.levels
MayReply base committed h round by s commands.Undo (replies.Refused refusals.NoSavepoint) = length s.levels ≤ 1
MayReply base committed h round by s commands.Commit replies.Done = s.levels ≢ []
MayReply base committed h round by s commands.Commit (replies.Refused refusals.NoTransaction) = s.levels ≡ []
MayReply base committed h round by s commands.Abort replies.Done = s.levels ≢ []
MayReply base committed h round by s commands.Abort (replies.Refused refusals.NoTransaction) = s.levels ≡ []
MayReply base committed h round by s commands.Horizon (replies.Horizon xmin) = IsHorizon base h round by xmin
MayReply base committed h round by s (commands.Snap name) (replies.Snapped lists) =
    (snap_of name s ≡ None) × (length s.snaps < 64) × (p : ℕ) × IsTakenAt h by name p × (lists ≡ snapshot_data base.next (take p h))
MayReply base committed h round by s (commands.Snap name) (replies.Refused refusals.NameTaken) = snap_of name s ≢ None
MayReply base committed h round by s (commands.Snap name) (replies.Refused refusals.SnapLimit) = (snap_of name s ≡ None) × (64 ≤ length s.snaps)
MayReply base committed h round by s (commands.DropSnap name) replies.Done = snap_of name s ≢ None
MayReply base committed h round by s (commands.DropSnap name) (replies.Refused refusals.NoSnapshot) = snap_of name s ≡ None
MayReply base committed h round by s (commands.See name x) (replies.Seen verdict) =
    (number : ℕ) × (snap_of name s ≡ Some number) × IsVerdict base committed h round by number name x.number verdict
MayReply base committed h round by s (commands.See name x) (replies.Refused (refusals.TooOld oldest)) =
    (number : ℕ) × (snap_of name s ≡ Some number) × IsTooOld base h round by number name x.number oldest
MayReply base committed h round by s (commands.See name x) (replies.Refused refusals.NoSnapshot) = snap_of name s ≡ None
MayReply base committed h round by s (commands.Status x) (replies.Known status) =
    IsKnown (Unit {0}) base committed h by x status
MayReply base committed h round by s (commands.Status x) (replies.Refused (refusals.TooOld oldest)) =
    (3 ≤ x) × (x < oldest) × MayFindOldest base h round by oldest
MayReply base committed h round by s (commands.Status x) (replies.Refused (refusals.Future next)) =
    IsFuture base h by x next
MayReply base committed h round by s (commands.Did x) (replies.Refused (refusals.TooOld oldest)) =
    IsOldNear base h round by x.number oldest
MayReply base committed h round by s (commands.Freeze oldest) replies.Done = Unit {0}
MayReply base committed h round by s (commands.Freeze oldest) (replies.Refused (refusals.Backward now)) =
    IsBackward base h round by oldest now
MayReply base committed h round by s (commands.Freeze oldest) (replies.Refused (refusals.TooNew limit)) =
    IsTooNew base h round by oldest limit
MayReply base committed h round by s command reply = ⊥
