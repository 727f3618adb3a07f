-- Which events a command has, by its reply.
use Rattle.std.specs.Prelude.{◌≡◌, ℕ, ◌<◌, ◌≤◌, ◌&&◌, nat_le, Bool, true, false, cond, List, [], ◌∷◌, Option, Some, None, length, ◌⊎◌}
use Rattle.std.specs.List.{fold}
use Rattle.tx_events.specs.declared.event.By.{By}
use Rattle.tx_events.specs.declared.event.Event.{Event}
use Rattle.tx_events.specs.declared.event.Event.TheVariants as events
use Rattle.tx_events.specs.declared.refusal.Refusal.{Refusal}
use Rattle.tx_events.specs.declared.refusal.Refusal.TheVariants as refusals
use Rattle.tx_model.specs.declared.command.Command.{Command}
use Rattle.tx_model.specs.declared.command.Command.TheVariants as commands
use Rattle.tx_model.specs.declared.reply.Reply.{Reply}
use Rattle.tx_model.specs.declared.reply.Reply.TheVariants as replies
use Rattle.tx_model.specs.Stance.{Stance, lacking, top_level}

-- an id given below this parent
abbrev pub giving : By → Option ℕ → ℕ → Event
giving by None id = events.Id by id
giving by (Some parent) id = events.Sub by parent id

-- the events that give the ids to the levels that lack one, from the top
abbrev pub level_events : By → Option ℕ → List (Option ℕ) → List ℕ → List Event
level_events by parent [] ids = []
level_events by parent (Some x ∷ levels) ids = level_events by (Some x) levels ids
level_events by parent (None ∷ levels) [] = []
level_events by parent (None ∷ levels) (id ∷ ids) = giving by parent id ∷ level_events by (Some id) levels ids

abbrev pub commit_event : By → Option ℕ → List Event
commit_event by None = []
commit_event by (Some top) = events.Commit by top ∷ []

abbrev pub abort_event : By → Option ℕ → List Event
abort_event by None = []
abort_event by (Some top) = events.Abort by top ∷ []

-- the innermost level's id, where it has one
abbrev pub innermost : List (Option ℕ) → Option ℕ
innermost levels = fold (λ outer level. level) None levels

abbrev pub undo_event : By → Option ℕ → List Event
undo_event by None = []
undo_event by (Some id) = events.Undo by id ∷ []

-- whether an id's status was asked for before the command was refused so
abbrev pub is_behind_question : Refusal → Bool
is_behind_question (refusals.TooOld oldest) = true
is_behind_question (refusals.Future next) = true
is_behind_question (refusals.DiskFault lock) = true
is_behind_question _ = false

abbrev pub was_asked : Reply → Bool
was_asked (replies.Known status) = true
was_asked (replies.Refused refusal) = is_behind_question refusal
was_asked _ = false

-- the question for an id's status, which none of the special ids needs
abbrev pub ask_event : By → ℕ → Reply → List Event
ask_event by x reply = cond (was_asked reply && nat_le 3 x) (events.Ask by x ∷ []) []

-- How many ids a refused write may have given: none where it's refused by how its session stands, all of them where a
-- volume failed behind the last one, else fewer.
abbrev pub MayHaveGiven : Refusal → ℕ → ℕ → Type 0
MayHaveGiven refusals.NoTransaction wanted ids = ids ≡ 0
MayHaveGiven refusals.CommitPending wanted ids = ids ≡ 0
MayHaveGiven refusals.AbortPending wanted ids = ids ≡ 0
MayHaveGiven refusals.UndoPending wanted ids = ids ≡ 0
MayHaveGiven (refusals.DiskFault lock) wanted ids = ids ≤ wanted
MayHaveGiven refusal wanted ids = ids < wanted

-- the events that a command has which was answered so
abbrev pub HasEvents : By → Stance → Command → Reply → List Event → Type 0
HasEvents by s commands.Write (replies.Wrote warn ids) h = (h ≡ level_events by None s.levels ids) × (length ids ≡ lacking s.levels)
HasEvents by s commands.Write (replies.Refused refusal) h =
    (h ≡ []) ⊎ ((ids : List ℕ) × (h ≡ level_events by None s.levels ids) × MayHaveGiven refusal (lacking s.levels) (length ids))
HasEvents by s commands.Undo replies.Done h = h ≡ undo_event by (innermost s.levels)
HasEvents by s commands.Commit replies.Done h = h ≡ commit_event by (top_level s.levels)
HasEvents by s commands.Abort replies.Done h = h ≡ abort_event by (top_level s.levels)
HasEvents by s (commands.Snap name) (replies.Snapped lists) h = h ≡ events.Snap name by ∷ []
HasEvents by s (commands.DropSnap name) replies.Done h = h ≡ events.SnapDrop name by ∷ []
HasEvents by s (commands.Status x) reply h = h ≡ ask_event by x reply
HasEvents by s (commands.Freeze oldest) replies.Done h = h ≡ events.Oldest by oldest ∷ []
HasEvents by s command reply h = h ≡ []
