-- What a call asks of its caller, and what it does.
use Rattle.std.specs.Prelude.{◌≡◌, ℕ, ◌+◌, ◌*◌, ◌^◌, ◌<◌, ◌≤◌, List, Some}
use Rattle.disk_core.specs.declared.log_disk.LogDisk as logs
use Rattle.disk_core.specs.declared.page_disk.PageDisk as disks
use Rattle.hall.specs.declared.hall.Hall.{Hall}
use Rattle.hall.specs.Calls.{IsOf, start_of, view}
use Rattle.notes.specs.Lists.{at}
use Rattle.tx_events.specs.declared.refusal.Refusal.{Refusal}
use Rattle.tx_events.specs.declared.refusal.Refusal.TheVariants as refusals
use Rattle.tx_model.specs.declared.command.Command.{Command}
use Rattle.tx_model.specs.declared.reply.Reply.{Reply}
use Rattle.tx_model.specs.declared.reply.Reply.TheVariants as replies
use Rattle.life_law.specs.Refused.{by_standing}
use Rattle.tx_core.specs.declared.entry.Entry.{Entry}
use Rattle.tx_core.specs.declared.entry.Start.{Start}
use Rattle.tx_core.specs.Locks.{log_lock}
use Rattle.engine_parts.specs.declared.part.Part.{Part}
use Rattle.engine_parts.specs.declared.session.Caller.{Caller}
use Rattle.engine_parts.specs.declared.session.Stage.{Stage}
use Rattle.engine_parts.specs.Answers.{Acted}
use Rattle.engine_parts.specs.Makings.{KeepsMaking, has_more_multis}
use Rattle.engine_parts.specs.Sessions.{MayCall, by_at, stance_of}
use Rattle.engine_parts.specs.Stand.{IsDownAt}
use Rattle.engine_parts.specs.Standing.{HoldsDown, LeavesStage}

-- Behind a log that is down, or that this command's fault put down, a record of the session's commit that stands there is
-- held down: it isn't among those that were on disk by then.
abbrev pub IsHeldBehind : Start → List (List Entry) → Command → Reply → Stage → Type 0
IsHeldBehind start lists command (replies.Refused refusals.LogFault) new =
    (down : ℕ) × IsDownAt start (at lists log_lock) down × HoldsDown command new down
IsHeldBehind start lists command (replies.Refused (refusals.LogDown down)) new = HoldsDown command new down
IsHeldBehind start lists command reply new = Unit {0}

module _ {L P : Type 0} {l : logs.Ghosts L} {p : disks.Ghosts P} where
  -- the number of the session's next command
  abbrev pub next_command : Caller L P l p → ℕ
  next_command caller = caller.session.levels.commands + 1

  -- the session went on to its next command
  pub record IsCounted (old new : Caller L P l p) : Type 0 where
    pub pass : new.pass ≡ old.pass
    pub number : new.number ≡ old.number
    pub levels : new.session.levels ≡ record old.session.levels { commands = next_command old }
    pub stage : new.session.stage ≡ old.session.stage
    pub unlinked : new.session.unlinked ≡ old.session.unlinked
    pub making : new.session.making ≡ old.session.making

module _ {H L P : Type 0} {l : logs.Ghosts L} {p : disks.Ghosts P} where
  -- The session is one of this table, which has the locks of so many banks, and stands between two calls, or between
  -- two steps of one.
  pub record MayStep (hall : Hall H (Part L P l p) Entry Start) (banks : ℕ) (caller : Caller L P l p) : Type 0 where
    pub own : IsOf hall caller.pass
    pub laid : hall.cells ≡ 3 + 4 * (start_of hall).banks
    pub each : (banks ≡ (start_of hall).banks) × (1 ≤ banks) × (banks ≤ 16)
    pub may : MayCall (start_of hall) (view caller.pass) caller.number caller.session

  -- It may begin a command, as it has run fewer than 2^48.
  pub record MayRun (hall : Hall H (Part L P l p) Entry Start) (banks : ℕ) (caller : Caller L P l p) : Type 0 where
    pub step : MayStep hall banks caller
    pub few : caller.session.levels.commands < 2 ^ 48

  -- the session's command of this number ran and was answered so, and the session may call again
  pub record Ran (hall : Hall H (Part L P l p) Entry Start) (number : ℕ) (command : Command) (reply : Reply)
      (old new : Caller L P l p) : Type 0 where
    pub own : IsOf hall new.pass
    pub may : MayCall (start_of hall) (view new.pass) new.number new.session
    pub acted : Acted (p.tells) (start_of hall) (by_at old.number number) (stance_of old.session)
        (stance_of new.session) old.session.stage command reply (view old.pass).seen (view new.pass).seen
    pub stage : LeavesStage command reply old.session.stage new.session.stage
    pub held : IsHeldBehind (start_of hall) (view new.pass).seen command reply new.session.stage
    -- a command that is refused by how its session stands enters no lock
    pub still : (r : Refusal) → by_standing reply ≡ Some r → (view new.pass).seen ≡ (view old.pass).seen
    pub making : KeepsMaking command reply (has_more_multis old.number (view old.pass).seen (view new.pass).seen)
        old.session.making new.session.making
    pub count : (new.session.levels.commands ≡ number) × (new.number ≡ old.number)
