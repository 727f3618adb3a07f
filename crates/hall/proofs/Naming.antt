-- Lists of flags that say which names a pass has.
use Rattle.std.proofs.Common.{◌≡◌, ℕ, ◌+◌, ◌<◌, ◌≤◌, ◌||◌, true, false, Bool, List, length, get_or, set, replicate, ltb, refl, sym, ◌∙◌, ap, subst, get_or-set_same, get_or-set_other, le-ltb, length-set, lt-ltb, arith}
use mathlib.Core.Logic.{dite}
use native.Mathlib.Decide.{dec_le, ℕ_discrete}
use lib.ListN.{get_or-replicate, length-replicate}
use Rattle.notes.proofs.Names.{blank, past}

-- two lists of one name say the same
pub one_name : (a b n k : ℕ) → n < a → n < b → get_or (set (replicate a false) n true) k false ≡ get_or (set (replicate b false) n true) k false
one_name a b n k in_a in_b = dite (ℕ_discrete k n)
    (λ (e : k ≡ n). let P : ℕ → Type 0 = λ z. get_or (set (replicate a false) n true) z false ≡ get_or (set (replicate b false) n true) z false in
    subst P (sym e) (get_or-set_same (replicate a false) n true false (let l = length-replicate a false in omega arith) ∙ sym (get_or-set_same (replicate b false) n true false (let l = length-replicate b false in omega arith))))
    (λ ne. get_or-set_other (replicate a false) n k true false ne ∙ (blank a k ∙ sym (get_or-set_other (replicate b false) n k true false ne ∙ blank b k)))

-- the first i flags of two lists are united, and the others are those of the first list
pub record AreUnited (count i : ℕ) (xs ys now : List Bool) : Type 0 where
  pub long : length now ≡ count
  pub before : (k : ℕ) → k < i → get_or now k false ≡ (get_or xs k false || get_or ys k false)
  pub behind : (k : ℕ) → i ≤ k → get_or now k false ≡ get_or xs k false

pub united_none : (count : ℕ) (xs ys : List Bool) → length xs ≡ count → AreUnited count 0 xs ys xs
united_none count xs ys long = record { long = long; before = λ k lt. absurd (omega arith); behind = λ k le. refl }

pub united_more : (count i : ℕ) (xs ys now : List Bool) (b : Bool) → AreUnited count i xs ys now → i < count → b ≡ (get_or now i false || get_or ys i false) → AreUnited count (i + 1) xs ys (set now i b)
united_more count i xs ys now b u inside is = record {
  long = length-set now i b ∙ u.long;
  before = λ k lt. dite (ℕ_discrete k i)
      (λ (e : k ≡ i). let P : ℕ → Type 0 = λ z. get_or (set now i b) z false ≡ (get_or xs z false || get_or ys z false) in
      subst P (sym e) (get_or-set_same now i b false (let l = u.long in omega arith) ∙ (is ∙ ap (λ z. z || get_or ys i false) (u.behind i (omega arith)))))
      (λ ne. get_or-set_other now i k b false ne ∙ u.before k (omega arith));
  behind = λ k le. get_or-set_other now i k b false (λ e. omega arith) ∙ u.behind k (omega arith);
}

pub united_all : (count : ℕ) (xs ys now : List Bool) → length xs ≡ count → length ys ≡ count → AreUnited count count xs ys now → (k : ℕ) → get_or now k false ≡ (get_or xs k false || get_or ys k false)
united_all count xs ys now left right u k = dite (dec_le count k)
    (λ h. past now k false (let l = u.long in omega arith) ∙ sym ((λ i. past xs k false (omega arith) i || past ys k false (omega arith) i)))
    (λ h. u.before k (omega arith))

-- each flag of a list tells whether its place is below n
pub told_step : (l : List Bool) (n i : ℕ) → i < length l → ((k : ℕ) → k < i → get_or l k false ≡ ltb k n) → (k : ℕ) → k < i + 1 → get_or (set l i (ltb i n)) k false ≡ ltb k n
told_step l n i inside told k h = dite (ℕ_discrete k i)
    (λ (e : k ≡ i). let P : ℕ → Type 0 = λ z. get_or (set l i (ltb i n)) z false ≡ ltb z n in subst P (sym e) (get_or-set_same l i (ltb i n) false inside))
    (λ ne. get_or-set_other l i k (ltb i n) false ne ∙ told k (omega arith))

pub told_all : (l : List Bool) (n : ℕ) → n ≤ length l → ((k : ℕ) → k < length l → get_or l k false ≡ ltb k n) → (k : ℕ) → get_or (replicate n true) k false ≡ get_or l k false
told_all l n inside told k = dite (dec_le n k)
    (λ h. past (replicate n true) k false (let e = length-replicate n true in omega arith) ∙ sym (dite (dec_le (length l) k)
    (λ far. past l k false far)
    (λ near. told k (omega arith) ∙ le-ltb k n h)))
    (λ h. get_or-replicate n k true false (omega arith) ∙ sym (told k (omega arith) ∙ lt-ltb k n (omega arith)))
