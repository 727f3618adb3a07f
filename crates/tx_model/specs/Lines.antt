-- The lines of a report: whose they are, where they stand, and the order of a round's.
use Rattle.std.specs.Prelude.{◌≡◌, ℕ, ◌==◌, Bool, List, ◌++◌, map}
use Rattle.std.specs.List.{filter, flat_map, count_by, list_any}
use Rattle.tx_events.specs.declared.event.Event.{Event}
use Rattle.tx_model.specs.declared.command.Command.{Command}
use Rattle.tx_model.specs.declared.report.Line.{Line}
use Rattle.tx_events.specs.Places.{first_seen}
use Rattle.tx_events.specs.Events.{by_of, same_by}
use Rattle.tx_model.specs.Stance.{Stance, stance_from, nothing_yet}
use Rattle.tx_model.specs.Replies.{RoundSpan}

abbrev pub is_line_of : ℕ → Line → Bool
is_line_of session l = l.by.session == session

-- how a session stands after the lines before
abbrev pub stance : List Event → List Line → ℕ → Stance
stance h before session = stance_from nothing_yet h (filter (is_line_of session) before)

-- the event is of one of these lines
abbrev pub has_line : List Line → Event → Bool
has_line lines e = list_any (λ l. same_by l.by (by_of e)) lines

-- where these lines stand in the history, behind the events of the lines before them
abbrev pub span_of : List Event → List Line → List Line → RoundSpan
span_of h before lines = record { from = count_by (has_line before) h; to = count_by (has_line (before ++ lines)) h }

-- a round's commands, one session after another, in the order in which the sessions first appear
abbrev pub grouped : List (ℕ × Command) → List (ℕ × Command)
grouped turns = flat_map (λ s. filter (λ t. t.0 == s) turns) (first_seen (map (λ t. t.0) turns))

abbrev pub turn_of : Line → ℕ × Command
turn_of l = (l.by.session, l.command)

-- the lines are the round's commands
abbrev pub AreLinesOf : List (ℕ × Command) → List Line → Type 0
AreLinesOf turns lines = map turn_of lines ≡ grouped turns
