use Rattle.std.proofs.Common.{◌≡◌, ◌∷◌, [], map, take}
use Rattle.script_gen.proofs.generator.session_names.Given as goal

abbrev pub invariant-loop-letter : goal.invariant-loop-letter
invariant-loop-letter l = l.names ≡ map (λ letter. letter ∷ []) (take l.letter-index l.letter-items)
