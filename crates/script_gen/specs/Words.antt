-- The words `gen SEED SIZE`.
use Rattle.std.specs.Prelude.{◌≡◌, ℕ, nat_le, List, [], ◌∷◌, Option, None, Some, Result, Ok, Err, codes, cond, length}
use Rattle.script_lines.specs.declared.kind.Kind.{Kind}
use Rattle.script_lines.specs.Arguments.{number_in}
use Rattle.script_gen.specs.Laws.{most_transactions}

-- the greatest seed, one below the modulus of the draws
abbrev pub greatest_seed : ℕ
greatest_seed = 2147483646

abbrev pub known : Result ℕ Kind → Option ℕ
known (Ok n) = Some n
known (Err kind) = None

-- the number from 1 to `most` that a word of 1 to 10 digits spells
abbrev pub number_up_to : ℕ → List ℕ → Option ℕ
number_up_to most word = cond (nat_le (length word) 10) (known (number_in 1 most word)) None

-- they ask for the script of this seed and this size
pub record IsGen (words : List (List ℕ)) (seed size : ℕ) : Type 0 where
  pub seed_word : List ℕ
  pub size_word : List ℕ
  pub words_are : words ≡ codes "gen" ∷ seed_word ∷ size_word ∷ []
  pub seed_is : number_up_to greatest_seed seed_word ≡ Some seed
  pub size_is : number_up_to most_transactions size_word ≡ Some size
