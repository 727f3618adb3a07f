-- What checkpoints do to a life so far: what was told before stays, and they are told with it.
use Rattle.std.specs.Prelude.{◌≡◌, ℕ, Bool, List, [], ◌∷◌, ◌++◌}
use Rattle.std.specs.List.{filter}
use Rattle.notes.specs.Lists.{at}
use Rattle.tx_model.specs.declared.command.Command.{Command}
use Rattle.tx_model.specs.declared.reply.Reply.{Reply}
use Rattle.tx_model.specs.declared.report.DumpOf.{DumpOf}
use Rattle.tx_model.specs.declared.report.Line.{Line}
use Rattle.tx_model.specs.declared.report.Step.{Step}
use Rattle.tx_model.specs.declared.report.Step.TheVariants as steps
use Rattle.tx_model.specs.Rounds.{is_round}
use Rattle.tx_core.specs.declared.entry.Entry.{Entry}
use Rattle.tx_core.specs.declared.entry.Start.{Start}
use Rattle.engine_parts.specs.declared.session.Session.{Session}
use Rattle.session_promise.specs.Checkpoints.{AreCheckpointsTold, WentCheckpoint}
use Rattle.session_promise.specs.Dumps.{AreDumpsTold}
use Rattle.session_promise.specs.Rounds.{RoundPart}
use Rattle.session_promise.specs.SoFar.{IsSoFar, WentRound, round_of}
use Rattle.session_promise.specs.Told.{ToldRound, steps_of}

-- none was told yet
abbrev pub CheckpointsBegin : Type 0
CheckpointsBegin =
    (start : Start) (lists : List (List Entry)) → ((place : ℕ) → at lists place ≡ [])
    → AreCheckpointsTold start lists [] []

-- those that were told stay, in a life of one round more
abbrev pub CheckpointsStayThroughRound : Type 0
CheckpointsStayThroughRound =
    (tells : Bool) (start : Start) (before after : List (List Entry)) (old new : List Session)
    (turns : List (ℕ × Command)) (parts : List RoundPart) (rounds : List ToldRound) (told : List Step) (number : ℕ)
    (lines : List Line)
    → IsSoFar tells start before old rounds → WentRound tells start before after old new turns parts
    → AreCheckpointsTold start before rounds told
    → AreCheckpointsTold start after (rounds ++ round_of before after parts ∷ []) (told ++ steps.Round number lines ∷ [])

-- or of one dump more
abbrev pub CheckpointsStayThroughDump : Type 0
CheckpointsStayThroughDump =
    (start : Start) (lists : List (List Entry)) (rounds : List ToldRound) (told : List Step) (what : DumpOf)
    (place size : ℕ) (reply : Reply)
    → AreCheckpointsTold start lists rounds told
    → AreCheckpointsTold start lists rounds (told ++ steps.Dump what place size reply ∷ [])

-- behind a checkpoint each session promises the same
abbrev pub SoFarThroughCheckpoint : Type 0
SoFarThroughCheckpoint =
    (tells : Bool) (start : Start) (before after : List (List Entry)) (sessions : List Session)
    (rounds : List ToldRound) (reply : Reply)
    → IsSoFar tells start before sessions rounds → WentCheckpoint start sessions before after reply
    → IsSoFar tells start after sessions rounds

-- and it is told with those before it
abbrev pub CheckpointGoesOn : Type 0
CheckpointGoesOn =
    (tells : Bool) (start : Start) (before after : List (List Entry)) (sessions : List Session)
    (rounds : List ToldRound) (told : List Step) (reply : Reply)
    → IsSoFar tells start before sessions rounds → WentCheckpoint start sessions before after reply
    → filter is_round told ≡ steps_of 1 rounds → AreCheckpointsTold start before rounds told
    → AreCheckpointsTold start after rounds (told ++ steps.Checkpoint reply ∷ [])

-- the dumps that were told stay
abbrev pub DumpsStayThroughCheckpoint : Type 0
DumpsStayThroughCheckpoint =
    (start : Start) (before after : List (List Entry)) (sessions : List Session) (rounds : List ToldRound)
    (told : List Step) (reply : Reply)
    → WentCheckpoint start sessions before after reply → AreDumpsTold start before rounds told
    → AreDumpsTold start after rounds (told ++ steps.Checkpoint reply ∷ [])
