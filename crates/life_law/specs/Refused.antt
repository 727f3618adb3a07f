-- The refusals that go by how a session stands alone: by its levels, its snapshots, and an end that is pending; and those
-- that go by what is asked alone.
use Rattle.std.specs.Prelude.{ℕ, Bool, true, false, List, [], ◌∷◌, Option, None, Some, is_some, is_none, length, nat_lt, nat_le, ◌==◌, ◌||◌}
use Rattle.std.specs.Bool.{then_some}
use Rattle.std.specs.List.{count_by}
use Rattle.std.specs.Option.{option_or}
use Rattle.tx_events.specs.declared.multi.Mode.{Mode}
use Rattle.tx_events.specs.declared.multi.Mode.TheVariants as modes
use Rattle.tx_events.specs.declared.refusal.Refusal.{Refusal}
use Rattle.tx_events.specs.declared.refusal.Refusal.TheVariants as refusals
use Rattle.tx_model.specs.declared.command.Command.{Command}
use Rattle.tx_model.specs.declared.command.Command.TheVariants as commands
use Rattle.tx_model.specs.declared.command.Pair.{Pair}
use Rattle.tx_model.specs.declared.reply.Reply.{Reply}
use Rattle.tx_model.specs.declared.reply.Reply.TheVariants as replies
use Rattle.tx_model.specs.Replies.{most_levels}
use Rattle.tx_model.specs.Stance.{Stance, snap_of}

abbrev pub first_of : List (Option Refusal) → Option Refusal
first_of [] = None
first_of (refusal ∷ rest) = option_or refusal (first_of rest)

abbrev pub no_transaction : Stance → Option Refusal
no_transaction s = then_some (length s.levels == 0) refusals.NoTransaction

abbrev pub no_savepoint : Stance → Option Refusal
no_savepoint s = then_some (nat_le (length s.levels) 1) refusals.NoSavepoint

abbrev pub no_snapshot : List ℕ → Stance → Option Refusal
no_snapshot name s = then_some (is_none (snap_of name s)) refusals.NoSnapshot

-- The pending end that a command is refused for, of the one that is told by its refusal: `undo` goes on with an undo
-- and `commit` with a commit; `abort` goes on with an abort, and ends what an undo has left.
abbrev pub held_by : Command → Option Refusal → Option Refusal
held_by commands.Save pending = pending
held_by commands.Write pending = pending
held_by commands.Release pending = pending
held_by commands.Undo (Some refusals.UndoPending) = None
held_by commands.Undo pending = pending
held_by commands.Commit (Some refusals.CommitPending) = None
held_by commands.Commit pending = pending
held_by commands.Abort (Some refusals.AbortPending) = None
held_by commands.Abort (Some refusals.UndoPending) = None
held_by commands.Abort pending = pending
held_by command pending = None

-- the refusal that a command gets by how its session stands: of those that hold, the first in this order
abbrev pub refused_by : Command → Stance → Option Refusal → Option Refusal
refused_by commands.Begin s pending = then_some (nat_lt 0 (length s.levels)) refusals.AlreadyOpen
refused_by commands.Save s pending =
    first_of (no_transaction s ∷ held_by commands.Save pending
    ∷ then_some (nat_le most_levels (length s.levels)) refusals.DepthLimit ∷ [])
refused_by commands.Write s pending = first_of (no_transaction s ∷ held_by commands.Write pending ∷ [])
refused_by commands.Release s pending = first_of (no_savepoint s ∷ held_by commands.Release pending ∷ [])
refused_by commands.Undo s pending = first_of (no_savepoint s ∷ held_by commands.Undo pending ∷ [])
refused_by commands.Commit s pending = first_of (no_transaction s ∷ held_by commands.Commit pending ∷ [])
refused_by commands.Abort s pending = first_of (no_transaction s ∷ held_by commands.Abort pending ∷ [])
refused_by (commands.Snap name) s pending =
    first_of (then_some (is_some (snap_of name s)) refusals.NameTaken
    ∷ then_some (nat_le 64 (length s.snaps)) refusals.SnapLimit ∷ [])
refused_by (commands.DropSnap name) s pending = no_snapshot name s
refused_by (commands.See name x) s pending = no_snapshot name s
refused_by (commands.SeeMulti name multi) s pending = no_snapshot name s
refused_by command s pending = None

abbrev pub is_by_standing : Refusal → Bool
is_by_standing refusals.AlreadyOpen = true
is_by_standing refusals.NoTransaction = true
is_by_standing refusals.NoSavepoint = true
is_by_standing refusals.DepthLimit = true
is_by_standing refusals.CommitPending = true
is_by_standing refusals.AbortPending = true
is_by_standing refusals.UndoPending = true
is_by_standing refusals.NameTaken = true
is_by_standing refusals.SnapLimit = true
is_by_standing refusals.NoSnapshot = true
is_by_standing _ = false

-- the refusal of a reply that goes by how the session stands
abbrev pub by_standing : Reply → Option Refusal
by_standing (replies.Refused refusal) = then_some (is_by_standing refusal) refusal
by_standing _ = None

abbrev pub is_commit_pending : Option Refusal → Bool
is_commit_pending (Some refusals.CommitPending) = true
is_commit_pending pending = false

-- ---- the refusals that the members of a multixact bring by themselves

abbrev pub is_updater_pair : Pair → Bool
is_updater_pair p = is_update p.mode
  where
    is_update : Mode → Bool
    is_update modes.NoKeyUpd = true
    is_update modes.Upd = true
    is_update mode = false

-- 1 to 64 members, at most one of them an updater
abbrev pub refused_by_members : Command → Option Refusal
refused_by_members (commands.Multi pairs) =
    first_of (then_some (length pairs == 0 || nat_lt 64 (length pairs)) refusals.MemberCount
    ∷ then_some (nat_lt 1 (count_by is_updater_pair pairs)) refusals.TwoUpdaters ∷ [])
refused_by_members command = None

abbrev pub is_by_members : Refusal → Bool
is_by_members refusals.MemberCount = true
is_by_members refusals.TwoUpdaters = true
is_by_members refusal = false

-- the refusal of a reply that goes by them
abbrev pub by_members : Reply → Option Refusal
by_members (replies.Refused refusal) = then_some (is_by_members refusal) refusal
by_members reply = None
