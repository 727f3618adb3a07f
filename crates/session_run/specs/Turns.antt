-- What a session does in a round.
use Rattle.std.specs.Prelude.{◌≡◌, ℕ, ◌+◌, ◌^◌, ◌<◌, Bool, false, IsTrue, List, [], ◌∷◌, ◌++◌, Contains, OnOk, Result, get_or, length, map}
use Rattle.disk_core.specs.declared.log_disk.LogDisk as logs
use Rattle.disk_core.specs.declared.page_disk.PageDisk as disks
use Rattle.hall.specs.declared.hall.Hall.{Hall}
use Rattle.hall.specs.Calls.{start_of, view}
use Rattle.tx_events.specs.declared.record.Rec.{Rec}
use Rattle.tx_model.specs.declared.command.Command.{Command}
use Rattle.tx_model.specs.declared.command.Command.TheVariants as commands
use Rattle.tx_model.specs.declared.command.Pair.{Pair}
use Rattle.tx_model.specs.declared.reply.Reply.{Reply}
use Rattle.tx_model.specs.declared.reply.Reply.TheVariants as replies
use Rattle.tx_model.specs.declared.report.Line.{Line}
use Rattle.life_law.specs.Refused.{by_members, refused_by_members}
use Rattle.life_law.specs.Replies.{is_told_verdict}
use Rattle.tx_model.specs.Lines.{turn_of}
use Rattle.session_lang.specs.declared.script.Item.{Item}
use Rattle.session_lang.specs.Rounds.{turns_of}
use Rattle.run_law.specs.Turns.{turns_in}
use Rattle.script_rounds.specs.declared.keeper.LineKeeper as keepers
use Rattle.script_rounds.specs.declared.plan.Plan.{Plan}
use Rattle.script_rounds.specs.Plans.{HasPlaces}
use Rattle.tx_core.specs.declared.entry.Entry.{Entry}
use Rattle.tx_core.specs.declared.entry.Start.{Start}
use Rattle.engine_parts.specs.declared.part.Part.{Part}
use Rattle.engine_parts.specs.declared.session.Caller.{Caller}
use Rattle.engine_parts.specs.Calls.{MayRun, Ran, next_command}
use Rattle.engine_parts.specs.Sessions.{by_at}
use Rattle.session_promise.specs.Promise.{HasTrimmed, IsMadeFor, IsRaisedAsTold}
use Rattle.session_run.specs.declared.member.Member.{Member}

-- Pages told of the records with which the life began, if they tell.
abbrev pub AreToldBy : Bool → Start → Type 0
AreToldBy tells start = (rec : Rec) → Contains start.recorded rec → IsTrue start.told → IsTrue tells

module _ {L P : Type 0} {l : logs.Ghosts L} {p : disks.Ghosts P} where
  -- how many commands the session has run
  abbrev pub commands_of : Caller L P l p → ℕ
  commands_of caller = caller.session.levels.commands

module _ {H L P : Type 0} {l : logs.Ghosts L} {p : disks.Ghosts P} where
  -- a multixact is refused by its members exactly where these are so, and else, where it was given, it is made
  abbrev pub IsMade : Hall H (Part L P l p) Entry Start → Caller L P l p → Caller L P l p → Command → Reply → Type 0
  IsMade hall old new command reply =
      (pairs : List Pair) → command ≡ commands.Multi pairs
      → (by_members reply ≡ refused_by_members command) × IsMadeFor (start_of hall) (view new.pass).seen old.number reply

  -- a truncation that was done has its record on disk
  abbrev pub IsTrimmed : Hall H (Part L P l p) Entry Start → Caller L P l p → Caller L P l p → Command → Reply → Type 0
  IsTrimmed hall old new command reply =
      command ≡ commands.Trim → reply ≡ replies.Done
      → HasTrimmed (start_of hall) (view new.pass).seen (by_at old.number (next_command old))

  -- the oldest multixact was raised to the offset that is recorded
  abbrev pub IsRaised : Hall H (Part L P l p) Entry Start → Caller L P l p → Caller L P l p → Command → Reply → Type 0
  IsRaised hall old new command reply =
      (multi : ℕ) → command ≡ commands.MultiFreeze multi
      → IsRaisedAsTold p.tells (start_of hall) (view new.pass).seen (by_at old.number (next_command old)) command reply

  -- The session's next command ran, and this is its line. A verdict is told to a command that asks for one alone.
  pub record RanLine (hall : Hall H (Part L P l p) Entry Start) (old new : Caller L P l p) (line : Line) : Type 0 where
    pub by : line.by ≡ by_at old.number (next_command old)
    pub verdict : (verdict : Bool) → line.reply ≡ replies.Seen verdict → IsTrue (is_told_verdict line.command)
    pub made : IsMade hall old new line.command line.reply
    pub trimmed : IsTrimmed hall old new line.command line.reply
    pub raised : IsRaised hall old new line.command line.reply
    pub ran : Ran hall (next_command old) line.command line.reply old new

  -- the session's next commands ran, one after another, and these are their lines
  abbrev pub RanLines : Hall H (Part L P l p) Entry Start → Caller L P l p → Caller L P l p → List Line → Type 0
  RanLines hall old new [] = new ≡ old
  RanLines hall old new (line ∷ lines) = (next : Caller L P l p) × RanLine hall old next line × RanLines hall next new lines

module _ {K L P : Type 0} {l : logs.Ghosts L} {p : disks.Ghosts P} where
  -- a member that has lost nothing
  abbrev pub member_of : Caller L P l p → K → List Line → Member K L P l p
  member_of caller kept lines = record { caller = caller; kept = kept; lines = lines; lost = false }

  -- the member, where this is kept of its lines
  abbrev pub keeping : Member K L P l p → K → Member K L P l p
  keeping m kept = record m { kept = kept }

module _ {H K L P : Type 0} {l : logs.Ghosts L} {p : disks.Ghosts P} where
  -- the member has run no command of the round yet, and may run so many
  pub record Begins (hall : Hall H (Part L P l p) Entry Start) (banks count : ℕ) (m : Member K L P l p) : Type 0 where
    pub may : MayRun hall banks m.caller
    pub room : commands_of m.caller + count < 2 ^ 48
    pub lines : m.lines ≡ []

  -- the member may run its commands of the round, at the places that the plan has for it
  pub record MayGo (hall : Hall H (Part L P l p) Entry Start) (banks : ℕ) (round : List Item) (plan : Plan)
      (m : Member K L P l p) : Type 0 where
    pub planned : m.caller.number < length plan.places.items
    pub places : HasPlaces m.caller.number round round (get_or plan.places.items m.caller.number [])
    pub begins : Begins hall banks (length (get_or plan.places.items m.caller.number [])) m

module _ {H K L P : Type 0} {l : logs.Ghosts L} {p : disks.Ghosts P} (k : keepers.Ghosts K) where
  -- The member's next command ran, and it may go on. Its line was kept, if memory sufficed.
  pub record RunsNext {T E : Type 0} (hall : Hall H (Part L P l p) Entry Start) (banks : ℕ) (names : List (List ℕ))
      (command : Command) (result : Result T E) (old new : Member K L P l p) : Type 0 where
    pub line : Line
    pub command_is : line.command ≡ command
    pub ran : RanLine hall old.caller new.caller line
    pub may : MayRun hall banks new.caller
    pub lines : new.lines ≡ old.lines ++ line ∷ []
    pub kept_is : OnOk result (new.kept ≡ k.with_lines names old.kept (line ∷ []))

  -- The member ran commands of the round, and may go on. If this holds, these were all, and they were kept.
  pub record RunsRound (hall : Hall H (Part L P l p) Entry Start) (banks : ℕ) (names : List (List ℕ))
      (round : List Item) (Sufficed : Type 0) (old new : Member K L P l p) : Type 0 where
    pub ran : RanLines hall old.caller new.caller new.lines
    pub may : MayRun hall banks new.caller
    pub number : new.caller.number ≡ old.caller.number
    pub all : Sufficed → map turn_of new.lines ≡ turns_of old.caller.number (turns_in round)
    pub kept_is : Sufficed → new.kept ≡ k.with_lines names old.kept new.lines
