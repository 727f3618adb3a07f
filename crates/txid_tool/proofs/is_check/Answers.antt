use Rattle.std.proofs.Common.{◌≡◌, List, [], ◌∷◌, ap, arith, get_or, length, map, sym, ◌∙◌}
use Rattle.std.specs.Prelude.{string_bytes}
use Rattle.txid_tool.proofs.is_check.Goals as goal

-- a list of one word
one_word : {X Y : Type 0} (f : X → Y) (xs : List X) (x : X) → length xs ≡ 1 → x ≡ get_or xs 0 x → map f xs ≡ f x ∷ []
one_word f [] x n is = absurd (omega (arith, n))
one_word f (y ∷ []) x n is = ap (λ t. f t ∷ []) (sym is)
one_word f (y ∷ z ∷ xs) x n is = absurd (omega (arith, n))

pub returns-in-len1 : goal.returns-in-len1
returns-in-len1 c =
    let are = one_word string_bytes c.args.words.now c.word-item.result (omega (arith, c.in-len1.len_at_least, c.in-len1.len_below)) c.word-item.is in
    ((λ is. are ∙ ap (λ w. w ∷ []) (c.is_check_word.ensures.0 is)), λ same. c.is_check_word.ensures.1 (ap (λ ws. get_or ws 0 []) (sym are ∙ same)))
