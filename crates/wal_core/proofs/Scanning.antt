-- Batches are judged as they are met.
use Rattle.std.proofs.Common.{◌≡◌, inl, inr, ℕ, zero, suc, ◌+◌, ◌<◌, ◌≤◌, Bool, true, false, cond, eqb, ltb, List, [], ◌∷◌, length, take, drop, Option, Some, None, Result, Ok, Err, refl, sym, ◌∙◌, ap, arith}
use Rattle.std.proofs.lemmas.Bool.{ne_eqb, cases_lt, lt-ltb, le-ltb}
use Rattle.std.proofs.lemmas.List.{length-drop, length-take}
use Rattle.wal_records.specs.Numbers.{le_number}
use Rattle.wal_records.specs.Reading.{◌>>=◌}
use Rattle.wal_core.specs.LastBatch.{Batch, last_of}
use Rattle.wal_core.specs.Opening.{History, Opened, Walked, ended, behind, walk, batch_at, judged, going_on, with_body, opened_as, opened_bytes, BeginsOpen}

-- what is found from a gate on, in a volume that starts at s
abbrev pub found_as : ℕ → ℕ → Walked → Result (Option History) ℕ → Result Opened ℕ
found_as s at w (Err e) = Err e
found_as s at w (Ok None) = Err s
found_as s at w (Ok (Some h)) = cond w.whole (Ok (record { history = Some h; gate = at + w.reach })) (Err (at + w.reach))

abbrev pub scanning : ℕ → ℕ → ℕ → Option History → List ℕ → Result Opened ℕ
scanning s n at h xs = found_as s at (walk n xs) (judged (walk n xs).bodies at h)

same_found : (s : ℕ) (w : Walked) (r : Result (Option History) ℕ) → found_as s s w r ≡ opened_as s w r
same_found s w (Err e) = refl
same_found s w (Ok None) = refl
same_found s w (Ok (Some h)) = refl

pub scanning_all : (s : ℕ) (xs : List ℕ) → scanning s (length xs + 1) s None xs ≡ opened_bytes s xs
scanning_all s xs = same_found s (walk (length xs + 1) xs) (judged (walk (length xs + 1) xs).bodies s None)

-- ---- fuel

rest_of : Option (List ℕ × List ℕ) → ℕ
rest_of None = 0
rest_of (Some p) = length p.1

cut_off : (c : Bool) (t d : List ℕ) (k : ℕ) → length d ≤ k → rest_of (cond {A = Option (List ℕ × List ℕ)} c None (Some (t, d))) ≤ k
unfolding rest_of
cut_off true t d k le = omega arith
cut_off false t d k le = le

counted_off : (b : Bool) (n : ℕ) (l : List ℕ) (k : ℕ) → length l ≤ k
    → rest_of (cond {A = Option (ℕ × List ℕ)} b None (Some (n, l)) >>= λ m. cond {A = Option (List ℕ × List ℕ)} (ltb (length m.1) m.0) None (Some (take m.0 m.1, drop m.0 m.1))) ≤ k
unfolding rest_of
counted_off true n l k le = omega arith
counted_off false n l k le = cut_off (ltb (length l) n) (take n l) (drop n l) k (omega (arith, le, length-drop n l))

pub shorter : (xs body rest : List ℕ) → batch_at xs ≡ Some (body, rest) → length rest ≤ length xs
unfolding batch_at rest_of
shorter xs body rest e =
    let same : rest_of (batch_at xs) ≡ length rest = ap rest_of e in
    let bound : rest_of (batch_at xs) ≤ length xs = counted_off (ltb (length xs) 4) (le_number 4 (take 4 xs)) (drop 4 xs) (length xs) (omega (arith, length-drop 4 xs)) in
    omega (arith, same, bound)

total_of : Option (List ℕ × List ℕ) → ℕ
total_of None = 0
total_of (Some p) = length p.0 + length p.1

cut_exactly : (l : List ℕ) (n : ℕ) (body rest : List ℕ) → cond {A = Option (List ℕ × List ℕ)} (ltb (length l) n) None (Some (take n l, drop n l)) ≡ Some (body, rest) → length body + length rest ≡ length l
unfolding total_of
cut_exactly l n body rest e = elim (cases_lt (length l) n) [
  | inl lt ↦
      let none : Option (List ℕ × List ℕ) = None in let no : none ≡ Some (body, rest) = sym (ap (λ (c : Bool). cond {A = Option (List ℕ × List ℕ)} c None (Some (take n l, drop n l))) (lt-ltb (length l) n lt)) ∙ e in absurd cc
  | inr ge ↦
      let so : Some (take n l, drop n l) ≡ Some (body, rest) = sym (ap (λ (c : Bool). cond {A = Option (List ℕ × List ℕ)} c None (Some (take n l, drop n l))) (le-ltb (length l) n ge)) ∙ e in
      let same : length (take n l) + length (drop n l) ≡ length body + length rest = ap total_of so in
      omega (arith, same, length-take n l, length-drop n l)
]

abbrev behind_count : ℕ × List ℕ → Option (List ℕ × List ℕ)
behind_count m = cond {A = Option (List ℕ × List ℕ)} (ltb (length m.1) m.0) None (Some (take m.0 m.1, drop m.0 m.1))

pub batch_long : (xs body rest : List ℕ) → batch_at xs ≡ Some (body, rest) → length xs ≡ 4 + length body + length rest
unfolding batch_at
batch_long xs body rest e = elim (cases_lt (length xs) 4) [
  | inl lt ↦
      let none : Option (List ℕ × List ℕ) = None in let no : none ≡ Some (body, rest) = sym (ap (λ (c : Bool). cond {A = Option (ℕ × List ℕ)} c None (Some (le_number 4 (take 4 xs), drop 4 xs)) >>= behind_count) (lt-ltb (length xs) 4 lt)) ∙ e in absurd cc
  | inr ge ↦
      let so : behind_count (le_number 4 (take 4 xs), drop 4 xs) ≡ Some (body, rest) = sym (ap (λ (c : Bool). cond {A = Option (ℕ × List ℕ)} c None (Some (le_number 4 (take 4 xs), drop 4 xs)) >>= behind_count) (le-ltb (length xs) 4 ge)) ∙ e in
      omega (arith, cut_exactly (drop 4 xs) (le_number 4 (take 4 xs)) body rest so, length-drop 4 xs)
]

-- an open gate in front
pub at_open : (s at : ℕ) (h : Option History) (rest after : List ℕ) → rest ≡ 1 ∷ after → scanning s (length rest + 1) at h rest ≡ scanning s (length after + 2) at h (1 ∷ after)
at_open s at h rest after is =
    let fuel : length (1 ∷ after) + 1 ≡ length after + 2 = omega arith in
    ap (λ (l : List ℕ). scanning s (length l + 1) at h l) is ∙ ap (λ (n : ℕ). scanning s n at h (1 ∷ after)) fuel

walk_behind : (n m : ℕ) (xs : List ℕ) → ((ys : List ℕ) → length ys ≤ length xs → walk n ys ≡ walk m ys) → (b : Option (List ℕ × List ℕ)) → batch_at xs ≡ b → behind b (walk n) ≡ behind b (walk m)
walk_behind n m xs so None e = refl
walk_behind n m xs so (Some p) e =
    ap (λ (w : Walked). record { bodies = p.0 ∷ w.bodies; reach = 5 + length p.0 + w.reach; whole = w.whole }) (so p.1 (shorter xs p.0 p.1 e))

walk-enough : (n m : ℕ) (xs : List ℕ) → length xs < n → length xs < m → walk n xs ≡ walk m xs
unfolding walk
walk-enough zero m xs lt lt_2 = absurd (omega arith)
walk-enough (suc n) zero xs lt lt_2 = absurd (omega arith)
walk-enough (suc n) (suc m) [] lt lt_2 = refl
walk-enough (suc n) (suc m) (g ∷ xs) lt lt_2 =
    ap (λ (w : Walked). cond (eqb g 1) w (ended true)) (walk_behind n m xs (λ ys le. walk-enough n m ys (omega (arith, le)) (omega (arith, le))) (batch_at xs) refl)

-- ---- steps

walk_one : (n : ℕ) (xs : List ℕ) → walk (suc n) (1 ∷ xs) ≡ behind (batch_at xs) (walk n)
unfolding walk
walk_one n xs = refl

judged_at : (b : List ℕ) (bodies : List (List ℕ)) (at : ℕ) (h : Option History) → judged (b ∷ bodies) at h ≡ going_on at (with_body at h b) (judged bodies (at + (5 + length b)))
unfolding judged
judged_at b bodies at h = refl

judged_end : (at : ℕ) (h : Option History) → judged [] at h ≡ Ok h
unfolding judged
judged_end at h = refl

moved : (s at k : ℕ) (w : Walked) (body : List ℕ) (bodies : List (List ℕ)) (r : Result (Option History) ℕ) → k ≡ 5 + length body
    → found_as s at (record { bodies = bodies; reach = 5 + length body + w.reach; whole = w.whole }) r ≡ found_as s (at + k) w r
moved s at k w body bodies (Err e) is = refl
moved s at k w body bodies (Ok None) is = refl
moved s at k w body bodies (Ok (Some h)) is =
    let place : at + (5 + length body + w.reach) ≡ at + k + w.reach = omega arith in
    ap (λ (p : ℕ). cond w.whole (Ok (record { history = Some h; gate = p })) (Err p)) place

module _ (s at : ℕ) (h : Option History) (xs : List ℕ) where
  pub scan_batch : (x : History) (body rest : List ℕ) (k : ℕ) → batch_at xs ≡ Some (body, rest) → with_body at h body ≡ Some x → k ≡ 5 + length body
      → scanning s (length xs + 2) at h (1 ∷ xs) ≡ scanning s (length rest + 1) (at + k) (Some x) rest
  scan_batch x body rest k e joined is =
      let n : ℕ = length xs + 1 in
      let fuel : length xs + 2 ≡ suc n = omega arith in
      let w : Walked = walk n rest in
      let first : walk (length xs + 2) (1 ∷ xs) ≡ record { bodies = body ∷ w.bodies; reach = 5 + length body + w.reach; whole = w.whole } =
      ap (λ (m : ℕ). walk m (1 ∷ xs)) fuel ∙ walk_one n xs ∙ ap (λ (b : Option (List ℕ × List ℕ)). behind b (walk n)) e in
      let fewer : length rest ≤ length xs = shorter xs body rest e in
      ap (λ (v : Walked). found_as s at v (judged v.bodies at h)) first
      ∙ ap (λ (r : Result (Option History) ℕ). found_as s at (record { bodies = body ∷ w.bodies; reach = 5 + length body + w.reach; whole = w.whole }) r)
      (judged_at body w.bodies at h ∙ ap (λ (o : Option History). going_on at o (judged w.bodies (at + (5 + length body)))) joined)
      ∙ moved s at k w body (body ∷ w.bodies) (judged w.bodies (at + (5 + length body)) (Some x)) is
      ∙ ap (λ (p : ℕ). found_as s (at + k) w (judged w.bodies (at + p) (Some x))) (sym is)
      ∙ ap (λ (v : Walked). found_as s (at + k) v (judged v.bodies (at + k) (Some x))) (walk-enough n (length rest + 1) rest (omega arith) (omega arith))

  pub scan_bad : (body rest : List ℕ) → batch_at xs ≡ Some (body, rest) → with_body at h body ≡ None → scanning s (length xs + 2) at h (1 ∷ xs) ≡ Err at
  scan_bad body rest e joined =
      let n : ℕ = length xs + 1 in
      let fuel : length xs + 2 ≡ suc n = omega arith in
      let w : Walked = walk n rest in
      let first : walk (length xs + 2) (1 ∷ xs) ≡ record { bodies = body ∷ w.bodies; reach = 5 + length body + w.reach; whole = w.whole } =
      ap (λ (m : ℕ). walk m (1 ∷ xs)) fuel ∙ walk_one n xs ∙ ap (λ (b : Option (List ℕ × List ℕ)). behind b (walk n)) e in
      ap (λ (v : Walked). found_as s at v (judged v.bodies at h)) first
      ∙ ap (λ (r : Result (Option History) ℕ). found_as s at (record { bodies = body ∷ w.bodies; reach = 5 + length body + w.reach; whole = w.whole }) r)
      (judged_at body w.bodies at h ∙ ap (λ (o : Option History). going_on at o (judged w.bodies (at + (5 + length body)))) joined)

  pub scan_cut : batch_at xs ≡ None → (h ≡ None → at ≡ s) → scanning s (length xs + 2) at h (1 ∷ xs) ≡ Err at
  scan_cut e begins =
      let n : ℕ = length xs + 1 in
      let fuel : length xs + 2 ≡ suc n = omega arith in
      let first : walk (length xs + 2) (1 ∷ xs) ≡ ended false =
      ap (λ (m : ℕ). walk m (1 ∷ xs)) fuel ∙ walk_one n xs ∙ ap (λ (b : Option (List ℕ × List ℕ)). behind b (walk n)) e in
      ap (λ (v : Walked). found_as s at v (judged v.bodies at h)) first ∙ ap (found_as s at (ended false)) (judged_end at h) ∙ by_history h begins
    where
      by_history : (h : Option History) → (h ≡ None → at ≡ s) → found_as s at (ended false) (Ok h) ≡ Err at
      by_history None begins = ap (λ (p : ℕ). Err p) (sym (begins refl))
      by_history (Some x) begins = let here : at + 0 ≡ at = omega arith in ap (λ (p : ℕ). Err p) here

-- the batch in front, and those behind it
walk_batch : (xs body rest : List ℕ) → batch_at xs ≡ Some (body, rest) → (walk (length xs + 2) (1 ∷ xs)).bodies ≡ body ∷ (walk (length rest + 1) rest).bodies
walk_batch xs body rest e =
    let n : ℕ = length xs + 1 in
    let fuel : length xs + 2 ≡ suc n = omega arith in
    let fewer : length rest ≤ length xs = shorter xs body rest e in
    ap (λ (m : ℕ). (walk m (1 ∷ xs)).bodies) fuel ∙ ap (λ (w : Walked). w.bodies) (walk_one n xs) ∙ ap (λ (b : Option (List ℕ × List ℕ)). (behind b (walk n)).bodies) e
    ∙ ap (λ (w : Walked). body ∷ w.bodies) (walk-enough n (length rest + 1) rest (omega arith) (omega arith))

pub last_goes_on : (before : Option Batch) (at : ℕ) (rest after body left : List ℕ) → rest ≡ 1 ∷ after → batch_at after ≡ Some (body, left)
    → last_of (Some (at, body)) (at + (5 + length body)) (walk (length left + 1) left).bodies ≡ last_of before at (walk (length rest + 1) rest).bodies
last_goes_on before at rest after body left is e =
    let fuel : length (1 ∷ after) + 1 ≡ length after + 2 = omega arith in
    let whole : (walk (length rest + 1) rest).bodies ≡ body ∷ (walk (length left + 1) left).bodies =
    ap (λ (l : List ℕ). (walk (length l + 1) l).bodies) is ∙ ap (λ (n : ℕ). (walk n (1 ∷ after)).bodies) fuel ∙ walk_batch after body left e in
    sym (ap (last_of before at) whole)

pub walk_shut : (n : ℕ) (xs : List ℕ) → (BeginsOpen xs → ⊥) → walk n xs ≡ ended true
unfolding walk
walk_shut zero xs shut = refl
walk_shut (suc n) [] shut = refl
walk_shut (suc n) (g ∷ xs) shut = rw (ne_eqb g 1 shut) refl

pub last_ends : (before : Option Batch) (n at : ℕ) (xs : List ℕ) → (BeginsOpen xs → ⊥) → last_of before at (walk n xs).bodies ≡ before
last_ends before n at xs shut = ap (λ (w : Walked). last_of before at w.bodies) (walk_shut n xs shut)

pub scan_end : (s n at : ℕ) (x : History) (xs : List ℕ) → (BeginsOpen xs → ⊥) → scanning s n at (Some x) xs ≡ Ok (record { history = Some x; gate = at })
scan_end s n at x xs shut =
    let here : at + 0 ≡ at = omega arith in
    ap (λ (v : Walked). found_as s at v (judged v.bodies at (Some x))) (walk_shut n xs shut) ∙ ap (found_as s at (ended true)) (judged_end at (Some x))
    ∙ ap (λ (p : ℕ). Ok (record { history = Some x; gate = p })) here

pub scan_none : (s n at : ℕ) (xs : List ℕ) → (BeginsOpen xs → ⊥) → scanning s n at None xs ≡ Err s
scan_none s n at xs shut = ap (λ (v : Walked). found_as s at v (judged v.bodies at None)) (walk_shut n xs shut) ∙ ap (found_as s at (ended true)) (judged_end at None)
