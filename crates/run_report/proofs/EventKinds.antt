-- What the events of a command that did what it says come to.
use Rattle.std.proofs.Common.{◌≡◌, ℕ, Bool, cond, length, List, [], ◌∷◌, Option, None, Some, refl, sym, ap, subst, ◌∙◌, ⊎_elim}
use Rattle.std.specs.List.{AllByRecursion, count_by}
use Rattle.tx_events.specs.declared.event.By.{By}
use Rattle.tx_events.specs.declared.event.Event.{Event}
use Rattle.tx_events.specs.declared.event.Event.TheVariants as events
use Rattle.tx_model.specs.declared.command.Command.{Command}
use Rattle.tx_model.specs.declared.command.Command.TheVariants as commands
use Rattle.tx_model.specs.declared.reply.Reply.{Reply}
use Rattle.tx_model.specs.declared.reply.Reply.TheVariants as replies
use Rattle.tx_model.specs.CommandEvents.{HasEvents, MayHaveGiven, abort_event, commit_event, giving, innermost, level_events, undo_event}
use Rattle.tx_model.specs.Stance.{Stance, lacking, top_level}
use Rattle.script_gen.specs.Counts as all
use Rattle.script_gen.proofs.Ranges.{IsDrawn}
use Rattle.run_report.specs.Counts as said
use Rattle.run_report.proofs.Goes.{AreOf}
use Rattle.run_report.proofs.Wide.{IsQuiet}

module _ (test : Event → Bool) where
  one_given : (n : ℕ) → ((by : By) (id : ℕ) → count_by test (events.Id by id ∷ []) ≡ n) → ((by : By) (parent id : ℕ) → count_by test (events.Sub by parent id ∷ []) ≡ n) → (by : By) (parent : Option ℕ) (id : ℕ) → count_by test (giving by parent id ∷ []) ≡ n
  one_given n f g by None id = f by id
  one_given n f g by (Some parent) id = g by parent id

pub ids_are : (c : Command) (es : List Event) → AreOf c es → count_by all.gives_id es ≡ cond (said.is_write c) 1 0
ids_are commands.Write es a = ap (count_by all.gives_id) a.3 ∙ one_given all.gives_id 1 (λ by id. refl) (λ by parent id. refl) a.0 a.1 a.2
ids_are commands.Undo es a = ap (count_by all.gives_id) a.2
ids_are commands.Commit es a = ap (count_by all.gives_id) a.2
ids_are commands.Abort es a = ap (count_by all.gives_id) a.2
ids_are (commands.Snap name) es a = ap (count_by all.gives_id) a.1
ids_are (commands.DropSnap name) es a = ap (count_by all.gives_id) a.1
ids_are c es a = ap (count_by all.gives_id) a

pub undone_are : (c : Command) (es : List Event) → AreOf c es → count_by all.is_undo es ≡ cond (said.is_undo c) 1 0
undone_are commands.Write es a = ap (count_by all.is_undo) a.3 ∙ one_given all.is_undo 0 (λ by id. refl) (λ by parent id. refl) a.0 a.1 a.2
undone_are commands.Undo es a = ap (count_by all.is_undo) a.2
undone_are commands.Commit es a = ap (count_by all.is_undo) a.2
undone_are commands.Abort es a = ap (count_by all.is_undo) a.2
undone_are (commands.Snap name) es a = ap (count_by all.is_undo) a.1
undone_are (commands.DropSnap name) es a = ap (count_by all.is_undo) a.1
undone_are c es a = ap (count_by all.is_undo) a

pub commits_are : (c : Command) (es : List Event) → AreOf c es → count_by all.is_commit es ≡ cond (said.is_commit c) 1 0
commits_are commands.Write es a = ap (count_by all.is_commit) a.3 ∙ one_given all.is_commit 0 (λ by id. refl) (λ by parent id. refl) a.0 a.1 a.2
commits_are commands.Undo es a = ap (count_by all.is_commit) a.2
commits_are commands.Commit es a = ap (count_by all.is_commit) a.2
commits_are commands.Abort es a = ap (count_by all.is_commit) a.2
commits_are (commands.Snap name) es a = ap (count_by all.is_commit) a.1
commits_are (commands.DropSnap name) es a = ap (count_by all.is_commit) a.1
commits_are c es a = ap (count_by all.is_commit) a

pub aborts_are : (c : Command) (es : List Event) → AreOf c es → count_by all.is_abort es ≡ cond (said.is_abort c) 1 0
aborts_are commands.Write es a = ap (count_by all.is_abort) a.3 ∙ one_given all.is_abort 0 (λ by id. refl) (λ by parent id. refl) a.0 a.1 a.2
aborts_are commands.Undo es a = ap (count_by all.is_abort) a.2
aborts_are commands.Commit es a = ap (count_by all.is_abort) a.2
aborts_are commands.Abort es a = ap (count_by all.is_abort) a.2
aborts_are (commands.Snap name) es a = ap (count_by all.is_abort) a.1
aborts_are (commands.DropSnap name) es a = ap (count_by all.is_abort) a.1
aborts_are c es a = ap (count_by all.is_abort) a

pub snaps_are : (c : Command) (es : List Event) → AreOf c es → count_by all.is_snap es ≡ cond (said.is_snap c) 1 0
snaps_are commands.Write es a = ap (count_by all.is_snap) a.3 ∙ one_given all.is_snap 0 (λ by id. refl) (λ by parent id. refl) a.0 a.1 a.2
snaps_are commands.Undo es a = ap (count_by all.is_snap) a.2
snaps_are commands.Commit es a = ap (count_by all.is_snap) a.2
snaps_are commands.Abort es a = ap (count_by all.is_snap) a.2
snaps_are (commands.Snap name) es a = ap (count_by all.is_snap) a.1
snaps_are (commands.DropSnap name) es a = ap (count_by all.is_snap) a.1
snaps_are c es a = ap (count_by all.is_snap) a

-- ---- none of them announces an oldest id

giving_quiet : (by : By) (p : Option ℕ) (id : ℕ) → IsQuiet (giving by p id)
giving_quiet by None id = tt
giving_quiet by (Some q) id = tt

levels_quiet : (by : By) (p : Option ℕ) (levels : List (Option ℕ)) (ids : List ℕ) → AllByRecursion IsQuiet (level_events by p levels ids)
levels_quiet by p [] ids = tt
levels_quiet by p (Some x ∷ levels) ids = levels_quiet by (Some x) levels ids
levels_quiet by p (None ∷ levels) [] = tt
levels_quiet by p (None ∷ levels) (id ∷ ids) = (giving_quiet by p id, levels_quiet by (Some id) levels ids)

undo_quiet : (by : By) (o : Option ℕ) → AllByRecursion IsQuiet (undo_event by o)
undo_quiet by None = tt
undo_quiet by (Some id) = (tt, tt)

commit_quiet : (by : By) (o : Option ℕ) → AllByRecursion IsQuiet (commit_event by o)
commit_quiet by None = tt
commit_quiet by (Some id) = (tt, tt)

abort_quiet : (by : By) (o : Option ℕ) → AllByRecursion IsQuiet (abort_event by o)
abort_quiet by None = tt
abort_quiet by (Some id) = (tt, tt)

pub own_quiet : (by : By) (s : Stance) (c : Command) (r : Reply) (es : List Event) → IsDrawn c → HasEvents by s c r es → AllByRecursion IsQuiet es
own_quiet by s commands.Write (replies.Wrote warn ids) es d e = subst (AllByRecursion IsQuiet) (sym e.0) (levels_quiet by None s.levels ids)
own_quiet by s commands.Write (replies.Refused refusal) es d e = ⊎_elim
    (λ (a : es ≡ []). subst (AllByRecursion IsQuiet) (sym a) tt)
    (λ (a : (ids : List ℕ) × (es ≡ level_events by None s.levels ids) × MayHaveGiven refusal (lacking s.levels) (length ids)). subst (AllByRecursion IsQuiet) (sym a.1) (levels_quiet by None s.levels a.0))
    e
own_quiet by s commands.Undo replies.Done es d e = subst (AllByRecursion IsQuiet) (sym e) (undo_quiet by (innermost s.levels))
own_quiet by s commands.Commit replies.Done es d e = subst (AllByRecursion IsQuiet) (sym e) (commit_quiet by (top_level s.levels))
own_quiet by s commands.Abort replies.Done es d e = subst (AllByRecursion IsQuiet) (sym e) (abort_quiet by (top_level s.levels))
own_quiet by s (commands.Snap name) (replies.Snapped lists) es d e = subst (AllByRecursion IsQuiet) (sym e) (tt, tt)
own_quiet by s (commands.DropSnap name) replies.Done es d e = subst (AllByRecursion IsQuiet) (sym e) (tt, tt)
own_quiet by s (commands.Status x) r es d e = absurd d
own_quiet by s (commands.Freeze oldest) r es d e = absurd d
own_quiet by s c r es d e = subst (AllByRecursion IsQuiet) (sym e) tt
