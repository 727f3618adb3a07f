-- What the words of `gen` ask for.
use Rattle.std.proofs.Common.{◌≡◌, ◌≢◌, ℕ, ◌≤◌, nat_le, ◌&&◌, Bool, true, false, cond, List, [], ◌∷◌, Option, None, Some, IfNone, IfSome, Ok, Err, ap, arith, codes, get_or, length, map, refl, subst, sym, ◌∙◌}
use Rattle.std.proofs.lemmas.Bool.{and_parts}
use Rattle.std.proofs.lemmas.Bool.Decides.{nat_tests}
use Rattle.std.proofs.lemmas.Option.{same_Some}
use Rattle.script_lines.specs.declared.kind.Kind.TheVariants as kinds
use Rattle.script_lines.specs.Arguments.{number_in, some_number}
use Rattle.script_lines.specs.Kinds.{◌>>=◌}
use Rattle.script_lines.specs.LineWords.{number_of}
use Rattle.run_law.specs.Tool.{IsRun}
use Rattle.script_gen.specs.declared.task.Task.TheVariants as tasks
use Rattle.script_gen.specs.declared.words.Asked.{Asked}
use Rattle.script_gen.specs.Laws.{most_transactions}
use Rattle.script_gen.specs.Tasks.{IsAccepted}
use Rattle.script_gen.specs.Words.{IsGen, greatest_seed, known, number_up_to}

from_le : (m n : ℕ) → nat_le m n ≡ true → m ≤ n
from_le m n e = grind (arith, nat_tests)

within : (most m n : ℕ) (b : Bool) → (nat_le 1 m && nat_le m most) ≡ b → known (cond b (Ok m) (Err kinds.Number)) ≡ Some n → n ≤ most
within most m n true test e = subst (λ k. k ≤ most) (same_Some m n e) (from_le m most (and_parts (nat_le 1 m) (nat_le m most) test).1)
within most m n false test e = absurd cc

by_number : (most n : ℕ) (o : Option ℕ) → known (some_number o >>= λ m. cond (nat_le 1 m && nat_le m most) (Ok m) (Err kinds.Number)) ≡ Some n → n ≤ most
by_number most n None e = absurd cc
by_number most n (Some m) e = within most m n (nat_le 1 m && nat_le m most) refl e

by_length : (most n : ℕ) (w : List ℕ) (b : Bool) → cond b (known (number_in 1 most w)) None ≡ Some n → n ≤ most
by_length most n w true e = by_number most n (number_of w) e
by_length most n w false e = absurd cc

-- a run takes so many transactions
pub gen_few : (words : List (List ℕ)) (seed size : ℕ) → IsGen words seed size → size ≤ most_transactions
gen_few words seed size gen = by_length most_transactions size gen.size_word (nat_le (length gen.size_word) 10) gen.size_is

-- ---- three words

module _ (words : List (List ℕ)) (name seed size : List ℕ) (are : words ≡ name ∷ seed ∷ size ∷ []) where
  pub gen_asked : (o : Option Asked) → IfSome o (λ a. (name ≡ codes "gen") × (number_up_to greatest_seed seed ≡ Some a.seed) × (number_up_to most_transactions size ≡ Some a.size))
      → IfSome o (λ a. IsGen words a.seed a.size)
  gen_asked None k = tt
  gen_asked (Some a) k = record { seed_word = seed; size_word = size; words_are = are ∙ ap (λ n. n ∷ seed ∷ size ∷ []) k.0; seed_is = k.1; size_is = k.2 }

  pub no_gen : (o : Option Asked) → IfNone o ((n k : ℕ) → name ≡ codes "gen" → number_up_to greatest_seed seed ≡ Some n → number_up_to most_transactions size ≡ Some k → ⊥)
      → IfNone o ((n k : ℕ) → IsGen words n k → ⊥)
  no_gen None f = λ n k gen.
      let e : name ∷ seed ∷ size ∷ [] ≡ codes "gen" ∷ gen.seed_word ∷ gen.size_word ∷ [] = sym are ∙ gen.words_are in
      f n k (ap (λ ws. get_or ws 0 []) e) (ap (λ ws. number_up_to greatest_seed (get_or ws 1 [])) e ∙ gen.seed_is) (ap (λ ws. number_up_to most_transactions (get_or ws 2 [])) e ∙ gen.size_is)
  no_gen (Some a) f = tt

-- other words have another number
pub not_three : (words : List (List ℕ)) → length words ≢ 3 → (n k : ℕ) → IsGen words n k → ⊥
not_three words other n k gen = other (ap length gen.words_are)

-- the bytes of three words
pub three_words : {X : Type 0} (f : X → List ℕ) (xs : List X) (a b c : X) → length xs ≡ 3 → a ≡ get_or xs 0 a → b ≡ get_or xs 1 b → c ≡ get_or xs 2 c → map f xs ≡ f a ∷ f b ∷ f c ∷ []
three_words f (x ∷ y ∷ z ∷ []) a b c n p q r =
    ap (λ t. f t ∷ f y ∷ f z ∷ []) (sym p) ∙ ap (λ t. f a ∷ f t ∷ f z ∷ []) (sym q) ∙ ap (λ t. f a ∷ f b ∷ f t ∷ []) (sym r)
three_words f [] a b c n p q r = absurd (omega (arith, n))
three_words f (x ∷ []) a b c n p q r = absurd (omega (arith, n))
three_words f (x ∷ y ∷ []) a b c n p q r = absurd (omega (arith, n))
three_words f (x ∷ y ∷ z ∷ w ∷ xs) a b c n p q r = absurd (omega (arith, n))

-- neither word is accepted
pub none_asked : (words : List (List ℕ)) → (IsRun words → ⊥) → ((seed size : ℕ) → IsGen words seed size → ⊥) → IsAccepted words → ⊥
none_asked words run gen (tasks.Run, is) = run is
none_asked words run gen (tasks.Gen seed size, is) = gen seed size is
