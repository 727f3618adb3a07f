-- Counts, and lists with one item more.
use Rattle.std.proofs.Common.{◌≡◌, refl, ℕ, ◌+◌, List, [], ◌∷◌, ◌++◌, ap, ◌∙◌, cond, ◌==◌, length}
use Rattle.std.proofs.lemmas.List.{append-nil}
use Rattle.std.proofs.lemmas.List.Elements.{filter_map-append}
use Rattle.tx_model.specs.declared.command.Command.{Command}
use Rattle.session_lang.specs.declared.script.Item.{Item}
use Rattle.session_lang.specs.declared.script.Item.TheVariants as items
use Rattle.script_lines.specs.declared.directive.Directive.{Directive}
use Rattle.script_lines.specs.declared.directive.Directive.TheVariants as directives
use Rattle.session_lang.specs.Rounds.{count_of, open_round, session_of, sessions_in, turns_of}
use Rattle.session_lang.specs.Script.{item_of}
use Rattle.session_lang.proofs.RoundLemmas.{open_push, turns_push}

pub sessions_push : (before : List Item) (k : ℕ) (command : Command) → sessions_in (before ++ items.Run k command ∷ []) ≡ sessions_in before ++ k ∷ []
sessions_push before k command = filter_map-append session_of before (items.Run k command ∷ [])

no_session : (d : Directive) → sessions_in (item_of d ∷ []) ≡ []
no_session directives.Round = refl
no_session directives.Checkpoint = refl
no_session (directives.Crash how) = refl
no_session (directives.Dump what at size) = refl

pub sessions_end : (before : List Item) (d : Directive) → sessions_in (before ++ item_of d ∷ []) ≡ sessions_in before
sessions_end before d = filter_map-append session_of before (item_of d ∷ []) ∙ ap (λ t. sessions_in before ++ t) (no_session d) ∙ append-nil (sessions_in before)

pub count_of_push : (before : List Item) (k j : ℕ) (command : Command) → count_of j (before ++ items.Run k command ∷ []) ≡ count_of j before + cond (k == j) 1 0
count_of_push before k j command = ap (λ t. length (turns_of j t)) (open_push [] before k command) ∙ turns_push (open_round before) k j command
