-- The text of a report.
use Rattle.std.specs.Prelude.{ℕ, ◌+◌, List, [], ◌∷◌, ◌++◌, codes, Option, Some, None}
use Rattle.std.specs.List.{flat_map}
use Rattle.std.specs.Fmt.{decimal}
use Rattle.report_text.specs.Words.{line_text, more, name_at}
use Rattle.report_text.specs.CommandText.{command_words}
use Rattle.report_text.specs.ReplyText.{reply_words, snapshot_words}
use Rattle.report_text.specs.EventText.{event_words, multi_event_words, by_words}
use Rattle.report_text.specs.RecordText.{counters_words, records_text}
use Rattle.tx_events.specs.declared.event.Event.{Event}
use Rattle.tx_events.specs.declared.multi.MultiEvent.{MultiEvent}
use Rattle.tx_events.specs.declared.event.By.{By}
use Rattle.tx_events.specs.declared.snapshot.SnapData.{SnapData}
use Rattle.tx_model.specs.declared.command.Command.{Command}
use Rattle.tx_model.specs.declared.report.DumpOf.{DumpOf}
use Rattle.tx_model.specs.declared.report.DumpOf.TheVariants as dumps
use Rattle.tx_model.specs.declared.report.Line.{Line}
use Rattle.tx_model.specs.declared.report.Step.{Step}
use Rattle.tx_model.specs.declared.report.Step.TheVariants as steps
use Rattle.tx_model.specs.declared.report.How.{How}
use Rattle.tx_model.specs.declared.report.How.TheVariants as hows
use Rattle.tx_events.specs.declared.record.Counters.{Counters}
use Rattle.tx_model.specs.declared.report.Life.{Life}
use Rattle.tx_model.specs.declared.report.LifeReport.{LifeReport}
use Rattle.tx_model.specs.declared.report.Report.{Report}

-- a command with its reply
abbrev pub command_line : List (List ℕ) → Line → List ℕ
command_line names l = line_text (by_words names l.by ++ command_words l.command ++ codes "->" ∷ reply_words names l.reply)

-- its line up to the arrow
abbrev pub line_front : List (List ℕ) → By → Command → List ℕ
line_front names by command = name_at names by.session ++ more (decimal by.command ∷ command_words command)

-- and from the arrow on, where the reply tells what a snapshot holds
abbrev pub snapshot_end : SnapData → List ℕ
snapshot_end s = more (codes "->" ∷ codes "ok" ∷ snapshot_words s) ++ 10 ∷ []

-- what a dump shows bytes of
abbrev pub dump_words : DumpOf → List (List ℕ)
dump_words dumps.Log = codes "log" ∷ []
dump_words (dumps.Xact page) = codes "xact" ∷ decimal page ∷ []
dump_words (dumps.Subtrans page) = codes "subtrans" ∷ decimal page ∷ []
dump_words (dumps.Offsets page) = codes "offsets" ∷ decimal page ∷ []
dump_words (dumps.Members page) = codes "members" ∷ decimal page ∷ []

-- the line that begins a round
abbrev pub round_line : ℕ → List ℕ
round_line number = line_text (codes "round" ∷ decimal number ∷ [])

-- a step
unfoldable pub step_text : List (List ℕ) → Step → List ℕ
step_text names (steps.Round number lines) = round_line number ++ flat_map (command_line names) lines
step_text names (steps.Checkpoint reply) = line_text (codes "checkpoint" ∷ codes "->" ∷ reply_words names reply)
step_text names (steps.Dump what at length reply) =
    line_text (codes "dump" ∷ dump_words what ++ decimal at ∷ decimal length ∷ codes "->" ∷ reply_words names reply)

-- the crash that ended a life
unfoldable pub crash_text : Option How → List ℕ
crash_text None = []
crash_text (Some hows.Lost) = line_text (codes "crash" ∷ codes "lost" ∷ [])
crash_text (Some hows.Kept) = line_text (codes "crash" ∷ codes "kept" ∷ [])
crash_text (Some hows.Torn) = line_text (codes "crash" ∷ codes "torn" ∷ [])

-- the line that begins a life
unfoldable pub life_line : ℕ → ℕ → Counters → List ℕ
life_line number from base = line_text (codes "life" ∷ decimal number ∷ codes "from" ∷ decimal from ∷ counters_words base)

-- its history
unfoldable pub history_text : List (List ℕ) → List Event → List ℕ
history_text names h = line_text (codes "history" ∷ []) ++ flat_map (λ e. line_text (event_words names e)) h

-- its multixacts
unfoldable pub multis_text : List (List ℕ) → List MultiEvent → List ℕ
multis_text names h = line_text (codes "multis" ∷ []) ++ flat_map (λ e. line_text (multi_event_words names e)) h

-- its log
unfoldable pub log_text : Life → List ℕ
log_text l =
    line_text (codes "log" ∷ codes "flushed" ∷ decimal l.flushed ∷ codes "end" ∷ decimal l.end ∷ [])
    ++ records_text l.from l.recs

-- what stands behind the steps of a life
abbrev pub rest_text : List (List ℕ) → Life → Option How → List ℕ
rest_text names l crash = history_text names l.events ++ multis_text names l.multis ++ log_text l ++ crash_text crash

-- a life
abbrev pub life_text : List (List ℕ) → ℕ → LifeReport → List ℕ
life_text names number r =
    life_line number r.life.from r.life.base ++ flat_map (step_text names) r.steps ++ rest_text names r.life r.crash

-- lives, numbered from here on
unfoldable pub lives_text : List (List ℕ) → ℕ → List LifeReport → List ℕ
lives_text names number [] = []
lives_text names number (l ∷ lives) = life_text names number l ++ lives_text names (number + 1) lives

-- the first line
abbrev pub title_text : List ℕ
title_text = line_text (codes "txid" ∷ codes "report" ∷ codes "1" ∷ [])

-- the last line
abbrev pub end_text : List ℕ
end_text = line_text (codes "end" ∷ [])

-- the report of a run
abbrev pub report_text : Report → List ℕ
report_text r = title_text ++ lives_text r.names 1 r.lives ++ end_text

-- the report up to the steps of its first life
abbrev pub front_text : ℕ → Counters → List ℕ
front_text from base = title_text ++ life_line 1 from base
