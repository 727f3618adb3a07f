-- How a session stands.
use Rattle.std.specs.Prelude.{ℕ, ◌-◌, not, List, [], ◌∷◌, ◌++◌, Option, Some, None, length, take, is_none}
use Rattle.std.specs.List.{filter, find, count_by}
use Rattle.tx_events.specs.declared.event.Event.{Event}
use Rattle.tx_model.specs.declared.command.Command.{Command}
use Rattle.tx_model.specs.declared.command.Command.TheVariants as commands
use Rattle.tx_model.specs.declared.reply.Reply.{Reply}
use Rattle.tx_model.specs.declared.reply.Reply.TheVariants as replies
use Rattle.tx_model.specs.declared.report.Line.{Line}
use Rattle.tx_events.specs.Events.{events_of, given, same_name}

-- What a session's earlier commands have left: the levels of its transaction, from the top to the innermost
-- savepoint, each with its id where it has one, and its snapshots, each with the command that took it.
pub record Stance : Type 0 where
  pub levels : List (Option ℕ)
  pub snaps : List (List ℕ × ℕ)

abbrev pub nothing_yet : Stance
nothing_yet = record { levels = []; snaps = [] }

-- the ids go to the levels that lack one, from the top
abbrev pub filled : List (Option ℕ) → List ℕ → List (Option ℕ)
filled [] ids = []
filled (Some x ∷ levels) ids = Some x ∷ filled levels ids
filled (None ∷ levels) [] = None ∷ levels
filled (None ∷ levels) (id ∷ ids) = Some id ∷ filled levels ids

abbrev pub without_last : List (Option ℕ) → List (Option ℕ)
without_last levels = take (length levels - 1) levels

abbrev pub without_snap : List ℕ → List (List ℕ × ℕ) → List (List ℕ × ℕ)
without_snap name snaps = filter (λ s. not (same_name s.0 name)) snaps

-- what the command leaves that was answered so and gave these ids
abbrev pub after : Stance → ℕ → Command → Reply → List ℕ → Stance
after s number commands.Begin replies.Done ids = record s { levels = None ∷ [] }
after s number commands.Save replies.Done ids = record s { levels = s.levels ++ None ∷ [] }
after s number commands.Write reply ids = record s { levels = filled s.levels ids }
after s number commands.Release replies.Done ids = record s { levels = without_last s.levels }
after s number commands.Undo replies.Done ids = record s { levels = without_last s.levels }
after s number commands.Commit replies.Done ids = record s { levels = [] }
after s number commands.Abort replies.Done ids = record s { levels = [] }
after s number (commands.Snap name) (replies.Snapped lists) ids = record s { snaps = s.snaps ++ (name, number) ∷ [] }
after s number (commands.DropSnap name) replies.Done ids = record s { snaps = without_snap name s.snaps }
after s number command reply ids = s

-- how the session stands after these lines of it
abbrev pub stance_from : Stance → List Event → List Line → Stance
stance_from s h [] = s
stance_from s h (l ∷ lines) =
    stance_from (after s l.by.command l.command l.reply (given (events_of l.by h))) h lines

-- the id of the transaction, where it has one
abbrev pub top_level : List (Option ℕ) → Option ℕ
top_level [] = None
top_level (level ∷ levels) = level

abbrev pub lacking : List (Option ℕ) → ℕ
lacking levels = count_by (λ l. is_none l) levels

abbrev pub second_of : Option (List ℕ × ℕ) → Option ℕ
second_of None = None
second_of (Some p) = Some p.1

-- the command that took the session's snapshot of this name
abbrev pub snap_of : List ℕ → Stance → Option ℕ
snap_of name s = second_of (find (λ p. same_name p.0 name) s.snaps)
