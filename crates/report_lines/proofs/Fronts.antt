-- The first lines of a text, one by one.
use Rattle.std.proofs.Common.{◌≡◌, ℕ, ◌==◌, zero, suc, List, [], ◌∷◌, ◌++◌, Bool, true, false, refl, sym, ap, ◌∙◌, append_assoc}
use Rattle.std.specs.List.{AllByRecursion}
use Rattle.report_lines.specs.Front.{first_line, behind_line, front, IsLine}

front_none : (n : ℕ) → front n [] ≡ []
front_none zero = refl
front_none (suc n) = front_none n

record Parts (n : ℕ) (x : List ℕ) : Type 0 where
  pub line : first_line (front (suc n) x) ≡ first_line x
  pub rest : behind_line (front (suc n) x) ≡ front n (behind_line x)

parts_at : (n b : ℕ) (x : List ℕ) (t : Bool) → (b == 10) ≡ t → Parts n x → Parts n (b ∷ x)
parts_at n b x true e p = record { line = rw (e, e) refl; rest = rw (e, e) refl }
parts_at n b x false e p = record { line = rw (e, e) (ap (λ t. b ∷ t) p.line); rest = rw (e, e) p.rest }

parts : (n : ℕ) (x : List ℕ) → Parts n x
parts n [] = record { line = ap first_line (front_none n); rest = ap behind_line (front_none n) ∙ sym (front_none n) }
parts n (b ∷ x) = parts_at n b x (b == 10) refl (parts n x)

pub same_first : (n : ℕ) (x y : List ℕ) → front (suc n) x ≡ front (suc n) y → first_line x ≡ first_line y
same_first n x y e = sym (parts n x).line ∙ ap first_line e ∙ (parts n y).line

pub same_rest : (n : ℕ) (x y : List ℕ) → front (suc n) x ≡ front (suc n) y → front n (behind_line x) ≡ front n (behind_line y)
same_rest n x y e = sym (parts n x).rest ∙ ap behind_line e ∙ (parts n y).rest

first_at : (body rest : List ℕ) → AllByRecursion (λ b. (b == 10) ≡ false) body → first_line (body ++ 10 ∷ rest) ≡ body ++ 10 ∷ []
first_at [] rest a = refl
first_at (b ∷ body) rest a = rw a.0 (ap (λ t. b ∷ t) (first_at body rest a.1))

behind_at : (body rest : List ℕ) → AllByRecursion (λ b. (b == 10) ≡ false) body → behind_line (body ++ 10 ∷ rest) ≡ rest
behind_at [] rest a = refl
behind_at (b ∷ body) rest a = rw a.0 (behind_at body rest a.1)

pub line_first : (t rest : List ℕ) → IsLine t → first_line (t ++ rest) ≡ t
line_first t rest l = ap first_line (ap (λ u. u ++ rest) l.text ∙ append_assoc l.body (10 ∷ []) rest) ∙ first_at l.body rest l.plain ∙ sym l.text

pub line_behind : (t rest : List ℕ) → IsLine t → behind_line (t ++ rest) ≡ rest
line_behind t rest l = ap behind_line (ap (λ u. u ++ rest) l.text ∙ append_assoc l.body (10 ∷ []) rest) ∙ behind_at l.body rest l.plain

pub front_line : (n : ℕ) (t rest : List ℕ) → IsLine t → front (suc n) (t ++ rest) ≡ t ++ front n rest
front_line n t rest l = ap (λ u. u ++ front n (behind_line (t ++ rest))) (line_first t rest l) ∙ ap (λ u. t ++ front n u) (line_behind t rest l)
