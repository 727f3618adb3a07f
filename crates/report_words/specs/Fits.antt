-- What words can say: the ranges of numbers, and the forms of replies.
use Rattle.std.specs.Prelude.{◌≡◌, ℕ, ◌<◌, ◌^◌, List, length, ◌≤◌}
use Rattle.std.specs.List.{IsDistinct, AllByRecursion}
use Rattle.tx_events.specs.Ids.{IsXidNumber, IsFullMulti, IsFullId}
use Rattle.tx_events.specs.Events.{same_name}
use Rattle.tx_events.specs.declared.event.By.{By}
use Rattle.tx_events.specs.declared.multi.Member.{Member}
use Rattle.tx_events.specs.declared.record.Counters.{Counters}
use Rattle.tx_events.specs.declared.refusal.Lock.{Lock}
use Rattle.tx_events.specs.declared.refusal.Lock.TheVariants as locks
use Rattle.tx_events.specs.declared.refusal.Refusal.{Refusal}
use Rattle.tx_events.specs.declared.refusal.Refusal.TheVariants as refusals
use Rattle.tx_events.specs.declared.snapshot.SnapData.{SnapData}
use Rattle.tx_model.specs.declared.command.Pair.{Pair}
use Rattle.tx_model.specs.declared.reply.MemberVerdict.{MemberVerdict}
use Rattle.tx_model.specs.declared.reply.Reply.{Reply}
use Rattle.tx_model.specs.declared.reply.Reply.TheVariants as replies
use Rattle.tx_events.specs.Names.{IsName}
use Rattle.report_words.specs.declared.reply.Kind.{Kind}
use Rattle.report_words.specs.declared.reply.Kind.TheVariants as kinds
use Rattle.tx_events.specs.declared.event.Event.{Event}
use Rattle.tx_events.specs.declared.event.Event.TheVariants as events
use Rattle.tx_events.specs.declared.multi.MultiEvent.{MultiEvent}
use Rattle.tx_events.specs.declared.multi.MultiEvent.TheVariants as multis
use Rattle.tx_events.specs.declared.record.Rec.{Rec}
use Rattle.tx_events.specs.declared.record.Rec.TheVariants as records
use Rattle.tx_model.specs.declared.command.Command.{Command}
use Rattle.tx_model.specs.declared.command.Command.TheVariants as commands
use Rattle.tx_model.specs.declared.report.Line.{Line}
use Rattle.report_words.specs.Replies.{kind_of}

abbrev pub FitsId : ℕ → Type 0
FitsId n = (n < 2 ^ 64) × IsXidNumber n

abbrev pub FitsMulti : ℕ → Type 0
FitsMulti n = (n < 2 ^ 64) × IsFullMulti n

pub record FitsBy (names : List (List ℕ)) (by : By) : Type 0 where
  pub session : by.session < length names
  pub command : by.command < 2 ^ 64

-- names, each once
pub record AreNames (names : List (List ℕ)) : Type 0 where
  pub each : AllByRecursion IsName names
  pub distinct : IsDistinct same_name names

pub record FitsCounters (c : Counters) : Type 0 where
  pub next : FitsId c.next
  pub oldest : FitsId c.oldest
  pub multi : FitsMulti c.multi
  pub offset : c.offset < 2 ^ 64
  pub oldest_multi : FitsMulti c.oldest_multi
  pub oldest_offset : c.oldest_offset < 2 ^ 64

pub record FitsSnap (s : SnapData) : Type 0 where
  pub xmin : FitsId s.xmin
  pub xmax : FitsId s.xmax
  pub xip : AllByRecursion FitsId s.xip
  pub subxip : AllByRecursion FitsId s.subxip

abbrev pub FitsPair : Pair → Type 0
FitsPair p = p.x.number < 2 ^ 32

abbrev pub FitsMember : Member → Type 0
FitsMember m = FitsId m.id

abbrev pub FitsVerdict : MemberVerdict → Type 0
FitsVerdict v = FitsId v.id

-- a lock with a volume behind it: the log's, or that of a bank
abbrev pub FitsLock : Lock → Type 0
FitsLock locks.Log = Unit {0}
FitsLock locks.Proc = ⊥
FitsLock locks.Multi = ⊥
FitsLock (locks.Xact bank) = bank < 16
FitsLock (locks.Subtrans bank) = bank < 16
FitsLock (locks.Offsets bank) = bank < 16
FitsLock (locks.Members bank) = bank < 16

-- what a command can be refused for; `multi-pending` is answered by a checkpoint alone
abbrev pub FitsRefusal : Refusal → Type 0
FitsRefusal refusals.AlreadyOpen = Unit {0}
FitsRefusal refusals.NoTransaction = Unit {0}
FitsRefusal refusals.NoSavepoint = Unit {0}
FitsRefusal refusals.DepthLimit = Unit {0}
FitsRefusal refusals.CommitPending = Unit {0}
FitsRefusal refusals.AbortPending = Unit {0}
FitsRefusal refusals.UndoPending = Unit {0}
FitsRefusal (refusals.Stop next stop) = FitsId next × FitsId stop
FitsRefusal (refusals.DiskFault lock) = FitsLock lock
FitsRefusal refusals.LogFault = Unit {0}
FitsRefusal (refusals.LogDown at) = at < 2 ^ 64
FitsRefusal refusals.Full = Unit {0}
FitsRefusal refusals.NameTaken = Unit {0}
FitsRefusal refusals.SnapLimit = Unit {0}
FitsRefusal refusals.NoSnapshot = Unit {0}
FitsRefusal (refusals.TooOld oldest) = FitsId oldest
FitsRefusal (refusals.Future next) = FitsId next
FitsRefusal refusals.TwoUpdaters = Unit {0}
FitsRefusal refusals.MemberCount = Unit {0}
FitsRefusal (refusals.NotGiven x) = x.number < 2 ^ 32
FitsRefusal (refusals.MultiStop next stop) = FitsMulti next × FitsMulti stop
FitsRefusal (refusals.MemberStop next stop) = (next < 2 ^ 64) × (stop < 2 ^ 64)
FitsRefusal (refusals.NotYet multi) = FitsMulti multi
FitsRefusal (refusals.MultiTooOld oldest) = FitsMulti oldest
FitsRefusal (refusals.MultiFuture next) = FitsMulti next
FitsRefusal (refusals.Backward now) = now < 2 ^ 64
FitsRefusal (refusals.TooNew limit) = FitsId limit
FitsRefusal (refusals.Held limit) = FitsMulti limit
FitsRefusal refusals.MultiPending = ⊥
FitsRefusal refusals.Memory = Unit {0}

-- a reply to a command that is answered so
abbrev pub FitsReply : Kind → Reply → Type 0
FitsReply k replies.Done = k ≡ kinds.Plain
FitsReply k (replies.Wrote warn ids) = (k ≡ kinds.Ids) × AllByRecursion FitsId ids
FitsReply k (replies.Snapped s) = (k ≡ kinds.Snapshot) × FitsSnap s
FitsReply k (replies.Seen visible) = k ≡ kinds.Look
FitsReply k (replies.Known status) = k ≡ kinds.Status
FitsReply k (replies.Did has) = k ≡ kinds.Did
FitsReply k (replies.Multi multi offset warn) = (k ≡ kinds.Multi) × FitsMulti multi × (offset < 2 ^ 64)
FitsReply k (replies.Verdicts list) = (k ≡ kinds.Members) × AllByRecursion FitsVerdict list
FitsReply k (replies.Horizon oldest_xmin) = (k ≡ kinds.Horizon) × FitsId oldest_xmin
FitsReply k (replies.Bytes bytes) = ⊥
FitsReply k (replies.Cut cutoff) = ⊥
FitsReply k (replies.Pending session refusal) = ⊥
FitsReply k (replies.Refused refusal) = FitsRefusal refusal

-- what a checkpoint can be refused for, but for what is pending
abbrev pub FitsCheckpointRefusal : Refusal → Type 0
FitsCheckpointRefusal (refusals.LogDown at) = at < 2 ^ 64
FitsCheckpointRefusal refusals.LogFault = Unit {0}
FitsCheckpointRefusal (refusals.DiskFault lock) = FitsLock lock
FitsCheckpointRefusal refusals.Full = Unit {0}
FitsCheckpointRefusal refusals.Memory = Unit {0}
FitsCheckpointRefusal _ = ⊥

abbrev pub IsPending : Refusal → Type 0
IsPending refusals.CommitPending = Unit {0}
IsPending refusals.MultiPending = Unit {0}
IsPending _ = ⊥

abbrev pub FitsCheckpointReply : List (List ℕ) → Reply → Type 0
FitsCheckpointReply names replies.Done = Unit {0}
FitsCheckpointReply names (replies.Pending session refusal) = (session < length names) × IsPending refusal
FitsCheckpointReply names (replies.Refused refusal) = FitsCheckpointRefusal refusal
FitsCheckpointReply names _ = ⊥

abbrev pub FitsDumpRefusal : Refusal → Type 0
FitsDumpRefusal (refusals.DiskFault lock) = FitsLock lock
FitsDumpRefusal refusals.LogFault = Unit {0}
FitsDumpRefusal _ = ⊥

abbrev pub FitsDumpReply : Reply → Type 0
FitsDumpReply (replies.Bytes bytes) = AllByRecursion (λ b. b < 256) bytes
FitsDumpReply (replies.Cut cutoff) = cutoff < 2 ^ 32
FitsDumpReply (replies.Refused refusal) = FitsDumpRefusal refusal
FitsDumpReply _ = ⊥

abbrev pub FitsEvent : List (List ℕ) → Event → Type 0
FitsEvent names (events.Id by id) = FitsBy names by × FitsId id
FitsEvent names (events.Sub by parent id) = FitsBy names by × FitsId parent × FitsId id
FitsEvent names (events.Undo by id) = FitsBy names by × FitsId id
FitsEvent names (events.Commit by top) = FitsBy names by × FitsId top
FitsEvent names (events.Abort by top) = FitsBy names by × FitsId top
FitsEvent names (events.Snap name by) = FitsBy names by × IsName name
FitsEvent names (events.SnapDrop name by) = FitsBy names by × IsName name
FitsEvent names (events.Oldest by oldest) = FitsBy names by × FitsId oldest
FitsEvent names (events.Ask by id) = FitsBy names by × FitsId id

-- a command as a script can have it
abbrev pub FitsCommand : Command → Type 0
FitsCommand commands.Begin = Unit {0}
FitsCommand commands.Save = Unit {0}
FitsCommand commands.Write = Unit {0}
FitsCommand commands.Release = Unit {0}
FitsCommand commands.Undo = Unit {0}
FitsCommand commands.Commit = Unit {0}
FitsCommand commands.Abort = Unit {0}
FitsCommand commands.Trim = Unit {0}
FitsCommand commands.Horizon = Unit {0}
FitsCommand (commands.Snap name) = IsName name
FitsCommand (commands.DropSnap name) = IsName name
FitsCommand (commands.See name x) = IsName name × (x.number < 2 ^ 32)
FitsCommand (commands.Status x) = IsXidNumber x × (x ≤ 2 ^ 62)
FitsCommand (commands.Did x) = x.number < 2 ^ 32
FitsCommand (commands.Multi members) = AllByRecursion FitsPair members
FitsCommand (commands.SeeMulti name multi) = IsName name × (1 ≤ multi.number) × (multi.number < 2 ^ 32)
FitsCommand (commands.Freeze oldest) = IsFullId oldest × (oldest ≤ 2 ^ 62)
FitsCommand (commands.MultiFreeze multi) = IsFullMulti multi × (multi ≤ 2 ^ 62)

pub record FitsLine (names : List (List ℕ)) (l : Line) : Type 0 where
  pub by : FitsBy names l.by
  pub command : FitsCommand l.command
  pub reply : FitsReply (kind_of l.command) l.reply

abbrev pub FitsMultiEvent : List (List ℕ) → MultiEvent → Type 0
FitsMultiEvent names (multis.Gen by multi offset members) = FitsBy names by × FitsMulti multi × (offset < 2 ^ 64) × AllByRecursion FitsMember members
FitsMultiEvent names (multis.Hold by multi) = FitsBy names by × FitsMulti multi
FitsMultiEvent names (multis.Unhold by multi) = FitsBy names by × FitsMulti multi
FitsMultiEvent names (multis.Raise by multi offset) = FitsBy names by × FitsMulti multi × (offset < 2 ^ 64)

-- a record that has this number
abbrev pub FitsRecord : ℕ → Rec → Type 0
FitsRecord n (records.Commit top subs) = FitsId top × AllByRecursion FitsId subs
FitsRecord n (records.Abort top subs) = FitsId top × AllByRecursion FitsId subs
FitsRecord n (records.Multi multi offset members) = FitsMulti multi × (offset < 2 ^ 64) × AllByRecursion FitsMember members
FitsRecord n (records.Checkpoint number counters) = (number ≡ n) × FitsCounters counters
FitsRecord n (records.Truncate oldest multi offset) = FitsId oldest × FitsMulti multi × (offset < 2 ^ 64)
