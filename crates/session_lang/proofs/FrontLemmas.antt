-- Printable bytes end no line, and may stand in one.
use Rattle.std.proofs.Common.{◌≡◌, ℕ, ◌<◌, ◌≤◌, List, [], ◌∷◌, not, true, zero, suc, refl, get_or, length, take, arith}
use Rattle.std.proofs.lemmas.Bool.Decides.{nat_tests}
use Rattle.script_lines.specs.LineWords.{is_line_byte, is_plain}
use Rattle.session_lang.specs.Lines.{ArePrintable, is_line_end, is_printable}

pub ends_no_line : (b : ℕ) → is_printable b ≡ true → not (is_line_end b) ≡ true
ends_no_line b p = grind (arith, nat_tests)

may_stand : (b : ℕ) → is_printable b ≡ true → is_line_byte b ≡ true
may_stand b p = grind (arith, nat_tests)

front_plain : (bytes : List ℕ) (n : ℕ) → n ≤ length bytes → ((k : ℕ) → k < n → is_line_byte (get_or bytes k 0) ≡ true) → is_plain (take n bytes) ≡ true
front_plain [] zero l h = refl
front_plain [] (suc n) l h = absurd (omega arith)
front_plain (b ∷ bytes) zero l h = refl
front_plain (b ∷ bytes) (suc n) l h = rw (h 0 (omega arith)) (front_plain bytes n (omega arith) (λ k i. h (suc k) (omega arith)))

pub printable_plain : (bytes : List ℕ) (n : ℕ) → n ≤ length bytes → ArePrintable bytes 0 n → is_plain (take n bytes) ≡ true
printable_plain bytes n l p = front_plain bytes n l (λ k i. may_stand (get_or bytes k 0) (p k (omega arith) i))
