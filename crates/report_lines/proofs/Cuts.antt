-- Lines are cut off one by one.
use Rattle.std.proofs.Common.{◌≡◌, ℕ, ◌+◌, ◌≤◌, ◌<◌, ◌==◌, zero, suc, List, [], ◌∷◌, ◌++◌, Bool, true, false, not, refl, sym, ap, ◌∙◌, eqb-true, arith, take, drop, length, length-append}
use Rattle.std.specs.List.{AllByRecursion, prefix_len}
use Rattle.report_lines.specs.Front.{IsCut, IsLine, first_line}

abbrev pub inside : ℕ → Bool
inside b = not (b == 10)

-- a text whose first line ends at p
pub record LineAt (t : List ℕ) (p : ℕ) : Type 0 where
  pub body : List ℕ
  pub first : first_line t ≡ body ++ 10 ∷ []
  pub taken : take (suc p) t ≡ body ++ 10 ∷ []
  pub plain : AllByRecursion (λ b. (b == 10) ≡ false) body
  pub text : t ≡ (body ++ 10 ∷ []) ++ drop (suc p) t

at_end : (x : ℕ) (t : List ℕ) → (x == 10) ≡ true → LineAt (x ∷ t) 0
at_end x t e =
    let ten : x ≡ 10 = eqb-true x 10 e in
    record { body = []; first = rw e (ap (λ b. b ∷ []) ten); taken = ap (λ b. b ∷ []) ten; plain = tt; text = ap (λ b. b ∷ t) ten }

at_later : (x : ℕ) (t : List ℕ) (p : ℕ) → (x == 10) ≡ false → LineAt t p → LineAt (x ∷ t) (suc p)
at_later x t p e i = record { body = x ∷ i.body; first = rw e (ap (λ u. x ∷ u) i.first); taken = ap (λ u. x ∷ u) i.taken; plain = (e, i.plain); text = ap (λ u. x ∷ u) i.text }

line_split : (x : ℕ) (t : List ℕ) (b : Bool) → (x == 10) ≡ b → prefix_len inside (x ∷ t) < length (x ∷ t) → (prefix_len inside t < length t → LineAt t (prefix_len inside t)) → LineAt (x ∷ t) (prefix_len inside (x ∷ t))
line_split x t true e k h = rw e (at_end x t e)
line_split x t false e k h =
    let m : prefix_len inside (x ∷ t) ≡ suc (prefix_len inside t) = rw e (omega arith) in
    let s : prefix_len inside t < length t = omega arith in
    rw m (at_later x t (prefix_len inside t) e (h s))

line_at : (t : List ℕ) → prefix_len inside t < length t → LineAt t (prefix_len inside t)
line_at [] l = absurd (omega arith)
line_at (x ∷ t) l = line_split x t (x == 10) refl l (λ s. line_at t s)

ten_not : (x : ℕ) → x ≡ 10 → (x == 10) ≡ false → ⊥
ten_not x h f = let g : (10 == 10) ≡ false = rw h at f in absurd cc

end_split : (x : ℕ) (t : List ℕ) (b : Bool) → (x == 10) ≡ b → (body : List ℕ) → first_line (x ∷ t) ≡ body ++ 10 ∷ [] → ((body : List ℕ) → first_line t ≡ body ++ 10 ∷ [] → prefix_len inside t < length t) → prefix_len inside (x ∷ t) < length (x ∷ t)
end_split x t true f body e k = rw f (omega arith)
end_split x t false f [] e k =
    let g : x ∷ first_line t ≡ 10 ∷ [] = rw f at e in
    let h : x ≡ 10 = cc in
    absurd (ten_not x h f)
end_split x t false f (c ∷ body) e k =
    let g : x ∷ first_line t ≡ c ∷ (body ++ 10 ∷ []) = rw f at e in
    let h : first_line t ≡ body ++ 10 ∷ [] = cc in
    let i : prefix_len inside t < length t = k body h in
    rw f (omega arith)

-- a first line that has an end
pub has_end : (t body : List ℕ) → first_line t ≡ body ++ 10 ∷ [] → prefix_len inside t < length t
has_end [] [] e = absurd cc
has_end [] (c ∷ body) e = absurd cc
has_end (x ∷ t) body e = end_split x t (x == 10) refl body e (λ b h. has_end t b h)

at_most : (r : List ℕ) (n : ℕ) → length (drop n r) ≤ length r
at_most r zero = omega arith
at_most [] (suc n) = omega arith
at_most (x ∷ r) (suc n) = let m : length (drop n r) ≤ length r = at_most r n in omega arith

pub cut : (rest line after : List ℕ) (p : ℕ) → 1 ≤ length rest → p ≡ prefix_len inside (drop 1 rest) → p + 1 < length rest → line ≡ take (p + 2) rest → after ≡ drop (p + 1) rest → IsCut rest line after
cut [] line after p l e k f g = absurd (omega arith)
cut (b ∷ t) line after p l e k f g =
    let short : prefix_len inside t < length t = omega arith in
    let a : LineAt t p = rw e (line_at t short) in
    let two : p + 2 ≡ suc (suc p) = omega arith in
    let one : p + 1 ≡ suc p = omega arith in
    let shown : drop 1 line ≡ a.body ++ 10 ∷ [] = ap (drop 1) (f ∙ ap (λ k. take k (b ∷ t)) two) ∙ a.taken in
    let tail : drop 1 after ≡ drop (suc p) t = ap (drop 1) (g ∙ ap (λ k. drop k (b ∷ t)) one) ∙ drop_behind p t in
    record {
      first = a.first ∙ sym shown;
      is = record { body = a.body; text = shown; plain = a.plain };
      text = a.text ∙ ap (λ u. u ++ drop (suc p) t) (sym shown) ∙ ap (λ u. drop 1 line ++ u) (sym tail);
      line_some = some_line line (length a.body) (ap length shown ∙ length-append a.body (10 ∷ []));
      rest_some = rw g (after_some (b ∷ t) (p + 1) k);
      shorter = rw g (after_shorter (b ∷ t) (p + 1) l (omega arith));
    }
  where
    drop_behind : (p : ℕ) (t : List ℕ) → drop 1 (drop p t) ≡ drop (suc p) t
    drop_behind zero t = refl
    drop_behind (suc p) [] = refl
    drop_behind (suc p) (x ∷ t) = drop_behind p t

    some_line : (line : List ℕ) (n : ℕ) → length (drop 1 line) ≡ n + 1 → 1 ≤ length line
    some_line [] n e = absurd (omega arith)
    some_line (x ∷ line) n e = omega arith

    after_some : (r : List ℕ) (n : ℕ) → n < length r → 1 ≤ length (drop n r)
    after_some r zero l = omega arith
    after_some [] (suc n) l = absurd (omega arith)
    after_some (x ∷ r) (suc n) l = after_some r n (omega arith)

    after_shorter : (r : List ℕ) (n : ℕ) → 1 ≤ length r → 1 ≤ n → length (drop n r) < length r
    after_shorter r zero l k = absurd (omega arith)
    after_shorter [] (suc n) l k = absurd (omega arith)
    after_shorter (x ∷ r) (suc n) l k = let m : length (drop n r) ≤ length r = at_most r n in omega arith

pub no_cut : (rest : List ℕ) (p : ℕ) → 1 ≤ length rest → p ≡ prefix_len inside (drop 1 rest) → length rest ≤ p + 1 → (l : List ℕ) → IsLine l → first_line (drop 1 rest) ≡ l → ⊥
no_cut [] p a e k l i f = absurd (omega arith)
no_cut (b ∷ t) p a e k l i f = let h : prefix_len inside t < length t = has_end t i.body (f ∙ i.text) in absurd (omega arith)
