-- Numbers that are read digit by digit.
use Rattle.std.proofs.Common.{◌≡◌, ℕ, ◌+◌, ◌-◌, ◌*◌, ◌/◌, ◌%◌, ◌<◌, ◌≤◌, ◌^◌, List, [], ◌∷◌, ◌++◌, refl, sym, ap, ◌∙◌, append_assoc, arith}
use Rattle.std.specs.Fmt.{decimal}
use Rattle.std.proofs.lemmas.Fmt.{decimal_digit, decimal_step}

-- the digit that a byte is
pub digit_byte : (b d : ℕ) → b < 256 → d ≡ (b + 208) % 256 → d ≤ 9 → b ≡ 48 + d
digit_byte b d l e h = omega arith

pub first_digit : (d : ℕ) (bs rest : List ℕ) → d ≤ 9 → bs ≡ (48 + d) ∷ rest → bs ≡ decimal d ++ rest
first_digit d bs rest h e = e ∙ ap (λ t. t ++ rest) (sym (decimal_digit d (omega arith)))

pub decimal_more : (n d : ℕ) → 1 ≤ n → n < 2 ^ 60 → d ≤ 9 → decimal (n * 10 + d) ≡ decimal n ++ (48 + d) ∷ []
decimal_more n d some small h =
    let q : (n * 10 + d) / 10 ≡ n = omega arith in
    let r : (n * 10 + d) % 10 ≡ d = omega arith in
    decimal_step (n * 10 + d) (omega arith) (omega arith) ∙ ap (λ k. decimal k ++ (48 + (n * 10 + d) % 10) ∷ []) q ∙ ap (λ k. decimal n ++ (48 + k) ∷ []) r

pub next_digit : (bs : List ℕ) (n d : ℕ) (rest behind : List ℕ) → 1 ≤ n → n < 2 ^ 60 → d ≤ 9 → rest ≡ (48 + d) ∷ behind → bs ≡ decimal n ++ rest → bs ≡ decimal (n * 10 + d) ++ behind
next_digit bs n d rest behind some small h f e =
    e ∙ ap (λ t. decimal n ++ t) f ∙ sym (append_assoc (decimal n) ((48 + d) ∷ []) behind) ∙ ap (λ t. t ++ behind) (sym (decimal_more n d some small h))
