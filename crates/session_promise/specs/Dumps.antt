-- What stays of a dump that was told between two rounds.
use Rattle.std.specs.Prelude.{◌≡◌, ℕ, List, ◌++◌, length}
use Rattle.std.specs.List.{filter}
use Rattle.notes.specs.Lists.{Begins}
use Rattle.tx_events.specs.declared.event.Event.{Event}
use Rattle.tx_events.specs.Places.{EachPlace}
use Rattle.tx_model.specs.declared.reply.Reply.{Reply}
use Rattle.tx_model.specs.declared.report.DumpOf.{DumpOf}
use Rattle.tx_model.specs.declared.report.Step.{Step}
use Rattle.tx_model.specs.declared.report.Step.TheVariants as steps
use Rattle.tx_model.specs.Rounds.{is_round}
use Rattle.life_law.specs.Dumps.{MayDump}
use Rattle.tx_core.specs.declared.entry.Entry.{Entry}
use Rattle.tx_core.specs.declared.entry.Start.{Start}
use Rattle.tx_core.specs.Entries.{history}
use Rattle.session_promise.specs.Promise.{recs_of}
use Rattle.session_promise.specs.Told.{Follow, ToldRound, in_events, steps_of}

-- The dump was told behind the first of these rounds. With their events the history began, and by it and the records
-- appended so far the dump may be answered so.
pub record IsDumpTold (start : Start) (lists : List (List Entry)) (rounds : List ToldRound) (before : List Step)
    (what : DumpOf) (size : ℕ) (reply : Reply) : Type 0 where
  pub front : List ToldRound
  pub behind : List ToldRound
  pub split : rounds ≡ front ++ behind
  pub steps : filter is_round before ≡ steps_of 1 front
  pub events : List Event
  pub begins : Begins events (history lists)
  pub places : Follow in_events 0 front (length events)
  pub answer : MayDump start.banks start.base (recs_of lists) events what size reply

abbrev pub IsStepTold : Start → List (List Entry) → List ToldRound → List Step → Step → Type 0
IsStepTold start lists rounds before (steps.Dump what at size reply) =
    IsDumpTold start lists rounds before what size reply
IsStepTold start lists rounds before step = Unit {0}

-- so each dump among the steps of the life
abbrev pub AreDumpsTold : Start → List (List Entry) → List ToldRound → List Step → Type 0
AreDumpsTold start lists rounds told = EachPlace told (λ before step. IsStepTold start lists rounds before step)
