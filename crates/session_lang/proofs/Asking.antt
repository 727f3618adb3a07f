-- The rounds among what a script asks for are the script's.
use Rattle.std.proofs.Common.{◌≡◌, ℕ, List, [], ◌∷◌, ◌++◌, refl, ap, ◌∙◌}
use Rattle.std.proofs.lemmas.List.Elements.{filter_map-append}
use Rattle.tx_model.specs.declared.command.Command.{Command}
use Rattle.tx_model.specs.Asked as asked
use Rattle.tx_model.specs.Asked.{Asked, round_in, rounds_in}
use Rattle.session_lang.specs.declared.script.Item.{Item}
use Rattle.session_lang.specs.declared.script.Item.TheVariants as items
use Rattle.session_lang.specs.Rounds.{asked_from, asked_of, asked_round, round_of, rounds_from, rounds_of}

one_asked : (turns : List (ℕ × Command)) → rounds_in (asked_round turns) ≡ round_of turns
one_asked [] = refl
one_asked (t ∷ turns) = refl

next_asked : (turns : List (ℕ × Command)) (more : List Asked) (rounds : List (List (ℕ × Command))) → rounds_in more ≡ rounds → rounds_in (asked_round turns ++ more) ≡ round_of turns ++ rounds
next_asked turns more rounds e = filter_map-append round_in (asked_round turns) more ∙ (ap (λ rs. rs ++ rounds_in more) (one_asked turns) ∙ ap (λ rs. round_of turns ++ rs) e)

rounds_from_asked : (turns : List (ℕ × Command)) (script : List Item) → rounds_in (asked_from turns script) ≡ rounds_from turns script
rounds_from_asked turns [] = one_asked turns
rounds_from_asked turns (items.Run s c ∷ script) = rounds_from_asked (turns ++ (s, c) ∷ []) script
rounds_from_asked turns (items.Round ∷ script) = next_asked turns (asked_of script) (rounds_of script) (rounds_from_asked [] script)
rounds_from_asked turns (items.Checkpoint ∷ script) = next_asked turns (asked.checkpoint ∷ asked_of script) (rounds_of script) (rounds_from_asked [] script)
rounds_from_asked turns (items.Crash how ∷ script) = next_asked turns (asked_of script) (rounds_of script) (rounds_from_asked [] script)
rounds_from_asked turns (items.Dump what at size ∷ script) = next_asked turns (asked.dump what at size ∷ asked_of script) (rounds_of script) (rounds_from_asked [] script)

pub rounds_asked : (script : List Item) → rounds_in (asked_of script) ≡ rounds_of script
rounds_asked script = rounds_from_asked [] script
