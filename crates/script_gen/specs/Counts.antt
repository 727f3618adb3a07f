-- What the summary of a run counts, and what it counts in the script.
use Rattle.std.specs.Prelude.{ℕ, ◌+◌, ◌^◌, ◌<◌, cond, Bool, true, false, List, [], ◌∷◌, ◌++◌, codes, length}
use Rattle.std.specs.Fmt.{decimal}
use Rattle.std.specs.List.{count_by, flat_map}
use Rattle.tx_events.specs.declared.event.Event.{Event}
use Rattle.tx_events.specs.declared.event.Event.TheVariants as events
use Rattle.tx_model.specs.declared.report.LifeReport.{LifeReport}
use Rattle.tx_model.specs.declared.report.Line.{Line}
use Rattle.tx_model.specs.Rounds.{lines_in}
use Rattle.report_text.specs.Words.{line_text}
pub use Rattle.run_law.specs.Counting.{is_verdict}
use Rattle.script_gen.specs.declared.summary.Counts.{Counts}
use Rattle.script_gen.specs.declared.summary.Summary.{Summary}

-- ---- of a report

abbrev pub gives_id : Event → Bool
gives_id (events.Id by id) = true
gives_id (events.Sub by parent id) = true
gives_id event = false

abbrev pub is_undo : Event → Bool
is_undo (events.Undo by id) = true
is_undo event = false

abbrev pub is_commit : Event → Bool
is_commit (events.Commit by top) = true
is_commit event = false

abbrev pub is_abort : Event → Bool
is_abort (events.Abort by top) = true
is_abort event = false

abbrev pub is_snap : Event → Bool
is_snap (events.Snap name by) = true
is_snap event = false

-- how many events of each kind there are
abbrev pub counts_of : List Event → Counts
counts_of history = record {
  ids = count_by gives_id history;
  undone = count_by is_undo history;
  commits = count_by is_commit history;
  aborts = count_by is_abort history;
  snaps = count_by is_snap history;
}

-- with one event more
abbrev pub counted : Event → Counts → Counts
counted e c = record {
  ids = c.ids + cond (gives_id e) 1 0;
  undone = c.undone + cond (is_undo e) 1 0;
  commits = c.commits + cond (is_commit e) 1 0;
  aborts = c.aborts + cond (is_abort e) 1 0;
  snaps = c.snaps + cond (is_snap e) 1 0;
}

-- each can be one more
pub record AreFew (c : Counts) : Type 0 where
  pub ids : c.ids + 1 < 2 ^ 64
  pub undone : c.undone + 1 < 2 ^ 64
  pub commits : c.commits + 1 < 2 ^ 64
  pub aborts : c.aborts + 1 < 2 ^ 64
  pub snaps : c.snaps + 1 < 2 ^ 64

-- of a history, and of so many commands of which so many were answered a verdict
abbrev pub summary_by : List Event → ℕ → ℕ → Summary
summary_by history commands sees = record {
  commands = commands;
  ids = count_by gives_id history;
  undone = count_by is_undo history;
  commits = count_by is_commit history;
  aborts = count_by is_abort history;
  snaps = count_by is_snap history;
  sees = sees;
}

abbrev pub summary_of_lines : List Event → List Line → Summary
summary_of_lines history lines = summary_by history (length lines) (count_by (λ l. is_verdict l.reply) lines)

abbrev pub life_summary : LifeReport → Summary
life_summary r = summary_of_lines r.life.events (flat_map lines_in r.steps)

-- the line that tells it
abbrev pub first_counts : Summary → List (List ℕ)
first_counts s = decimal s.commands ∷ codes "ids" ∷ decimal s.ids ∷ codes "undone" ∷ decimal s.undone ∷ []

abbrev pub last_counts : Summary → List (List ℕ)
last_counts s =
    codes "commits" ∷ decimal s.commits ∷ codes "aborts" ∷ decimal s.aborts ∷ codes "snaps" ∷ decimal s.snaps
    ∷ codes "sees" ∷ decimal s.sees ∷ []

unfoldable pub summary_text : Summary → List ℕ
summary_text s = line_text (codes "commands" ∷ (first_counts s ++ last_counts s))
