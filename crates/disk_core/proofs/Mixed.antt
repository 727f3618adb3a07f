-- What a torn crash leaves in memory.
use Rattle.std.specs.Prelude.{◌==◌, ◌%◌}
use Rattle.std.proofs.Common.{not, ◌≡◌, inl, inr, ◌<◌, set, slice_index, ℕ, zero, suc, ◌+◌, ◌≤◌, min, Bool, true, false, List, [], ◌∷◌, ◌++◌, length, take, drop, refl, sym, ◌∙◌, ap, arith}
use Rattle.std.proofs.lemmas.Bool.{cases_lt}
use Rattle.std.proofs.lemmas.List.{append-nil, append_assoc, drop_more, drop_all, take_all, get_or_past, take_more, take_more_set, drop-set-lt}
use Rattle.disk_core.specs.Volume.{Torn}
use Rattle.disk_core.specs.MemLog.{mixed_bytes}

abbrev pub turned : ℕ → Bool → Bool
turned zero odd = odd
turned (suc k) false = turned k true
turned (suc k) true = turned k false

pub length-mixed : (odd : Bool) (s w : List ℕ) → length (mixed_bytes odd s w) ≡ length w
length-mixed odd s [] = refl
length-mixed false [] (b ∷ w) = ap suc (length-mixed true [] w)
length-mixed false (a ∷ s) (b ∷ w) = ap suc (length-mixed true s w)
length-mixed true [] (b ∷ w) = ap suc (length-mixed false [] w)
length-mixed true (a ∷ s) (b ∷ w) = ap suc (length-mixed false s w)

pub take-mixed : (k : ℕ) (odd : Bool) (s w : List ℕ) → take k (mixed_bytes odd s w) ≡ mixed_bytes odd s (take k w)
take-mixed zero odd s w = refl
take-mixed (suc k) odd s [] = refl
take-mixed (suc k) false [] (b ∷ w) = ap (λ (l : List ℕ). 0 ∷ l) (take-mixed k true [] w)
take-mixed (suc k) false (a ∷ s) (b ∷ w) = ap (λ (l : List ℕ). a ∷ l) (take-mixed k true s w)
take-mixed (suc k) true [] (b ∷ w) = ap (λ (l : List ℕ). b ∷ l) (take-mixed k false [] w)
take-mixed (suc k) true (a ∷ s) (b ∷ w) = ap (λ (l : List ℕ). b ∷ l) (take-mixed k false s w)

drop_none : (k : ℕ) → drop {A = ℕ} k [] ≡ []
drop_none zero = refl
drop_none (suc k) = refl

pub drop-mixed : (k : ℕ) (odd : Bool) (s w : List ℕ) → drop k (mixed_bytes odd s w) ≡ mixed_bytes (turned k odd) (drop k s) (drop k w)
drop-mixed zero odd s w = refl
drop-mixed (suc k) odd s [] = refl
drop-mixed (suc k) false [] (b ∷ w) = drop-mixed k true [] w ∙ ap (λ (l : List ℕ). mixed_bytes (turned k true) l (drop k w)) (drop_none k)
drop-mixed (suc k) false (a ∷ s) (b ∷ w) = drop-mixed k true s w
drop-mixed (suc k) true [] (b ∷ w) = drop-mixed k false [] w ∙ ap (λ (l : List ℕ). mixed_bytes (turned k false) l (drop k w)) (drop_none k)
drop-mixed (suc k) true (a ∷ s) (b ∷ w) = drop-mixed k false s w

pub mixed_same : (odd : Bool) (w : List ℕ) → mixed_bytes odd w w ≡ w
mixed_same odd [] = refl
mixed_same false (b ∷ w) = ap (λ (l : List ℕ). b ∷ l) (mixed_same true w)
mixed_same true (b ∷ w) = ap (λ (l : List ℕ). b ∷ l) (mixed_same false w)

pub Torn-mixed : (at n : ℕ) (odd : Bool) (s w v : List ℕ) → Torn at n w v → Torn at n (mixed_bytes odd s w) (mixed_bytes odd s v)
Torn-mixed at n odd s w v torn =
    let lw = length-mixed odd s w in
    let lv = length-mixed odd s v in
    record {
      before =
          ap (λ (k : ℕ). take (min at k) (mixed_bytes odd s v)) lw
          ∙ take-mixed (min at (length w)) odd s v
          ∙ ap (λ (l : List ℕ). mixed_bytes odd s l) torn.before
          ∙ sym (take-mixed at odd s w);
      after =
          drop-mixed (at + n) odd s v
          ∙ ap (λ (l : List ℕ). mixed_bytes (turned (at + n) odd) (drop (at + n) s) l) torn.after
          ∙ sym (drop-mixed (at + n) odd s w);
      no_shorter = omega (arith, lw, lv, torn.no_shorter);
      no_longer = omega (arith, lw, lv, torn.no_longer);
    }

-- one place more is mixed
mix_even : (s w : List ℕ) (i : ℕ) → i < length w → mixed_bytes false (drop i s) (drop i w) ≡ slice_index s i ∷ mixed_bytes true (drop (i + 1) s) (drop (i + 1) w)
mix_even s w i lt = elim (cases_lt i (length s)) [
  | inl within ↦ ap (λ (l : List ℕ). mixed_bytes false l (drop i w)) (drop_more s i 0 within) ∙ ap (λ (l : List ℕ). mixed_bytes false (slice_index s i ∷ drop (i + 1) s) l) (drop_more w i 0 lt)
  | inr past ↦
      let none : drop i s ≡ [] = drop_all i s past in
      let none_2 : drop (i + 1) s ≡ [] = drop_all (i + 1) s (omega arith) in
      let zero_here : slice_index s i ≡ 0 = get_or_past s i 0 past in
      ap (λ (l : List ℕ). mixed_bytes false l (drop i w)) none ∙ ap (λ (l : List ℕ). mixed_bytes false [] l) (drop_more w i 0 lt)
      ∙ (λ k. sym zero_here k ∷ mixed_bytes true (sym none_2 k) (drop (i + 1) w))
]

mix_odd : (s w : List ℕ) (i : ℕ) → i < length w → mixed_bytes true (drop i s) (drop i w) ≡ slice_index w i ∷ mixed_bytes false (drop (i + 1) s) (drop (i + 1) w)
mix_odd s w i lt = elim (cases_lt i (length s)) [
  | inl within ↦ ap (λ (l : List ℕ). mixed_bytes true l (drop i w)) (drop_more s i 0 within) ∙ ap (λ (l : List ℕ). mixed_bytes true (slice_index s i ∷ drop (i + 1) s) l) (drop_more w i 0 lt)
  | inr past ↦
      let none : drop i s ≡ [] = drop_all i s past in
      let none_2 : drop (i + 1) s ≡ [] = drop_all (i + 1) s (omega arith) in
      ap (λ (l : List ℕ). mixed_bytes true l (drop i w)) none ∙ ap (λ (l : List ℕ). mixed_bytes true [] l) (drop_more w i 0 lt)
      ∙ (λ k. slice_index w i ∷ mixed_bytes false (sym none_2 k) (drop (i + 1) w))
]

-- what is mixed so far, and what is still mixed
abbrev pub so_far : Bool → ℕ → List ℕ → List ℕ → List ℕ
so_far odd i s w = take i w ++ mixed_bytes odd (drop i s) (drop i w)

pub mix_even_step : (s w total : List ℕ) (i : ℕ) → i < length w → so_far false i s w ≡ total → so_far true (i + 1) s (set w i (slice_index s i)) ≡ total
mix_even_step s w total i lt before =
    let b : ℕ = slice_index s i in
    let front : take (i + 1) (set w i b) ≡ take i w ++ b ∷ [] = take_more_set w i b lt in
    let back : drop (i + 1) (set w i b) ≡ drop (i + 1) w = drop-set-lt (i + 1) w i b (omega arith) in
    ap (λ (l : List ℕ). l ++ mixed_bytes true (drop (i + 1) s) (drop (i + 1) (set w i b))) front
    ∙ ap (λ (l : List ℕ). (take i w ++ b ∷ []) ++ mixed_bytes true (drop (i + 1) s) l) back
    ∙ append_assoc (take i w) (b ∷ []) (mixed_bytes true (drop (i + 1) s) (drop (i + 1) w))
    ∙ ap (λ (l : List ℕ). take i w ++ l) (sym (mix_even s w i lt)) ∙ before

pub mix_odd_step : (s w total : List ℕ) (i : ℕ) → i < length w → so_far true i s w ≡ total → so_far false (i + 1) s w ≡ total
mix_odd_step s w total i lt before =
    ap (λ (l : List ℕ). l ++ mixed_bytes false (drop (i + 1) s) (drop (i + 1) w)) (take_more w i 0 lt)
    ∙ append_assoc (take i w) (slice_index w i ∷ []) (mixed_bytes false (drop (i + 1) s) (drop (i + 1) w))
    ∙ ap (λ (l : List ℕ). take i w ++ l) (sym (mix_odd s w i lt)) ∙ before

pub mix_done : (odd : Bool) (s w total : List ℕ) (i : ℕ) → length w ≤ i → so_far odd i s w ≡ total → w ≡ total
mix_done odd s w total i done before =
    let none : drop i w ≡ [] = drop_all i w done in
    sym (append-nil w) ∙ ap (λ (l : List ℕ). l ++ []) (sym (take_all i w done)) ∙ ap (λ (l : List ℕ). take i w ++ mixed_bytes odd (drop i s) l) (sym none) ∙ before

pub mix_then : (odd : Bool) (s w v total : List ℕ) (b i : ℕ) → i < length w → odd ≡ false → b ≡ slice_index s i → v ≡ set w i b → so_far odd i s w ≡ total → so_far (not odd) (i + 1) s v ≡ total
mix_then true s w v total b i lt turned_on byte is before = absurd cc
mix_then false s w v total b i lt turned_on byte is before =
    ap (λ (l : List ℕ). so_far true (i + 1) s l) (is ∙ ap (λ (k : ℕ). set w i k) byte) ∙ mix_even_step s w total i lt before

pub mix_else : (odd : Bool) (s w v total : List ℕ) (i : ℕ) → i < length w → odd ≡ true → v ≡ w → so_far odd i s w ≡ total → so_far (not odd) (i + 1) s v ≡ total
mix_else false s w v total i lt turned_off is before = absurd cc
mix_else true s w v total i lt turned_off is before = ap (λ (l : List ℕ). so_far false (i + 1) s l) is ∙ mix_odd_step s w total i lt before

-- what is the same in both stays
pub mixed-front : (low : ℕ) (odd : Bool) (s w : List ℕ) → low ≤ length w → mixed_bytes odd (take low w ++ s) w ≡ take low w ++ mixed_bytes (turned low odd) s (drop low w)
mixed-front zero odd s w le = refl
mixed-front (suc k) odd s [] le = absurd (omega arith)
mixed-front (suc k) false s (b ∷ w) le = ap (λ (l : List ℕ). b ∷ l) (mixed-front k true s w (omega arith))
mixed-front (suc k) true s (b ∷ w) le = ap (λ (l : List ℕ). b ∷ l) (mixed-front k false s w (omega arith))

pub turned-even : (k : ℕ) → turned k false ≡ (k % 2 == 1)
turned-even zero = refl
turned-even (suc zero) = refl
turned-even (suc (suc k)) =
    let same : k % 2 ≡ suc (suc k) % 2 = omega arith in
    turned-even k ∙ ap (λ (n : ℕ). n == 1) same
