-- A life that goes on, round by round, over one lock table.
use Rattle.std.specs.Prelude.{◌≡◌, ℕ, ◌<◌, List, [], ◌∷◌, ◌++◌, get_or, length}
use Rattle.std.specs.List.{All}
use Rattle.disk_core.specs.declared.log_disk.LogDisk as logs
use Rattle.disk_core.specs.declared.page_disk.PageDisk as disks
use Rattle.hall.specs.declared.hall.Hall.{Hall}
use Rattle.hall.specs.Calls.{start_of, view}
use Rattle.run_law.specs.Turns.{MayRun, turns_in}
use Rattle.session_lang.specs.declared.script.Item.{Item}
use Rattle.tx_model.specs.declared.command.Command.{Command}
use Rattle.tx_model.specs.declared.report.Line.{Line}
use Rattle.tx_model.specs.declared.report.Step.{Step}
use Rattle.tx_model.specs.declared.report.Step.TheVariants as steps
use Rattle.tx_model.specs.Lines.{AreLinesOf}
use Rattle.tx_core.specs.declared.entry.Entry.{Entry}
use Rattle.tx_core.specs.declared.entry.Start.{Start}
use Rattle.tx_core.specs.EngineInvariant.{EngineInvariant}
use Rattle.engine_parts.specs.declared.part.Part.{Part}
use Rattle.engine_parts.specs.declared.session.Session.{Session}
use Rattle.engine_host.specs.declared.host.Host.{Host}
use Rattle.engine_host.specs.Hosts.{HasSeenNothing, HoldsAllBut, IsHost, IsNewSession}
use Rattle.session_promise.specs.Checkpoints.{AreCheckpointsTold}
use Rattle.session_promise.specs.Closing.{IsOver}
use Rattle.session_promise.specs.SoFar.{IsSoFar}
use Rattle.session_promise.specs.Told.{ToldRound}
use Rattle.session_run.specs.Rounds.{AreParked, WentRound}

module _ {H L P : Type 0} {l : logs.Ghosts L} {p : disks.Ghosts P} where
  -- the host has all names, and each session of the life may be let in
  pub record AreHome (hall : Hall H (Part L P l p) Entry Start) (host : Host L P l p) (sessions : List Session)
      : Type 0 where
    pub is_host : IsHost hall host
    pub all : HoldsAllBut host []
    pub parked : AreParked hall host sessions
    pub count : length sessions ≡ host.cluster.sessions

  -- Between two rounds all sessions are home, and each promises of its lines in all rounds, in what the host has seen.
  pub record GoesOn (hall : Hall H (Part L P l p) Entry Start) (host : Host L P l p) (sessions : List Session)
      (rounds : List ToldRound) : Type 0 where
    pub home : AreHome hall host sessions
    pub so_far : IsSoFar (p.tells) (start_of hall) (view host.pass).seen sessions rounds

  -- a life begins at a table on which nothing was done
  abbrev pub LifeBegins : Hall H (Part L P l p) Entry Start → Type 0
  LifeBegins hall =
      (host : Host L P l p) (sessions : List Session)
      → AreHome hall host sessions → HasSeenNothing host
      → ((n : ℕ) (d : Session) → n < length sessions → IsNewSession (get_or sessions n d))
      → GoesOn hall host sessions []

  -- with a round it has one round more, of these lines, and the checkpoints that were told stay
  pub record HasRoundMore (hall : Hall H (Part L P l p) Entry Start) (turns : List (ℕ × Command))
      (before after : Host L P l p) (new : List Session) (rounds : List ToldRound) (lines : List Line) : Type 0 where
    pub round : ToldRound
    pub told : AreLinesOf turns round.lines
    pub then : GoesOn hall after new (rounds ++ round ∷ [])
    pub lines_are : lines ≡ round.lines
    pub checkpoints : (so_far : List Step) (number : ℕ)
        → AreCheckpointsTold (start_of hall) (view before.pass).seen rounds so_far
        → AreCheckpointsTold (start_of hall) (view after.pass).seen (rounds ++ round ∷ [])
        (so_far ++ steps.Round number round.lines ∷ [])

  abbrev pub LifeGoesOn : Hall H (Part L P l p) Entry Start → Type 0
  LifeGoesOn hall =
      (before after : Host L P l p) (old new : List Session) (rounds : List ToldRound)
      (round : List Item) (lines : List Line)
      → GoesOn hall before old rounds → AreHome hall after new → length new ≡ length old
      → All (MayRun (length old)) round
      → WentRound hall (turns_in round) before after old new lines
      → HasRoundMore hall (turns_in round) before after new rounds lines

  -- and behind any round it may be over
  abbrev pub LifeEnds : Hall H (Part L P l p) Entry Start → Type 0
  LifeEnds hall =
      (host : Host L P l p) (sessions : List Session) (rounds : List ToldRound)
      → GoesOn hall host sessions rounds → EngineInvariant (start_of hall) (view host.pass).seen
      → IsOver (p.tells) (start_of hall) (view host.pass).seen rounds
