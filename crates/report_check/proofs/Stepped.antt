-- The lines of a life by their steps.
use Rattle.std.proofs.Common.{◌≡◌, ℕ, zero, suc, ◌+◌, ◌-◌, ◌<◌, ◌≤◌, Bool, true, false, ◌||◌, cond, Some, List, [], ◌∷◌, ◌++◌, length, map, take, refl, sym, ap, subst, ◌∙◌, arith, length-append}
use Rattle.std.specs.List.{count_by, flat_map, list_any, slice_get}
use Rattle.std.proofs.lemmas.List.{append-nil, length-map}
use Rattle.std.proofs.lemmas.List.Sums.{sum_by-cons}
use Rattle.tx_events.specs.declared.event.Event.{Event}
use Rattle.tx_events.specs.Events.{by_of, same_by}
use Rattle.tx_model.specs.declared.report.Line.{Line}
use Rattle.tx_model.specs.declared.report.Step.{Step}
use Rattle.tx_model.specs.Lines.{has_line}
use Rattle.tx_model.specs.Rounds.{lines_in}
use Rattle.place_columns.specs.Lined.{line_at, lines_from}

left_of : {X : Type 0} (xs ys : List X) (i : ℕ) → i < length xs → slice_get (xs ++ ys) i ≡ slice_get xs i
left_of [] ys i l = absurd (omega arith)
left_of (x ∷ xs) ys zero l = refl
left_of (x ∷ xs) ys (suc i) l = left_of xs ys i (omega arith)

right_of : {X : Type 0} (xs ys : List X) (i : ℕ) → length xs ≤ i → slice_get (xs ++ ys) i ≡ slice_get ys (i - length xs)
right_of [] ys i l = let z : i ≡ i - 0 = omega arith in ap (λ k. slice_get ys k) z
right_of (x ∷ xs) ys zero l = absurd (omega arith)
right_of (x ∷ xs) ys (suc i) l = let z : i - length xs ≡ suc i - suc (length xs) = omega arith in right_of xs ys i (omega arith) ∙ ap (λ k. slice_get ys k) z

bound_of : {X : Type 0} (xs : List X) (i : ℕ) (x : X) → slice_get xs i ≡ Some x → i < length xs
bound_of [] i x e = absurd cc
bound_of (y ∷ xs) zero x e = omega arith
bound_of (y ∷ xs) (suc i) x e = let l = bound_of xs i x e in omega arith

line_there : (n : ℕ) (ls : List Line) (q : ℕ) (l : Line) → slice_get ls q ≡ Some l → slice_get (map (line_at n) ls) q ≡ Some (line_at n l)
line_there n [] q l e = absurd cc
line_there n (x ∷ ls) zero l e = let same : x ≡ l = cc in ap (λ (y : Line). Some (line_at n y)) same
line_there n (x ∷ ls) (suc q) l e = line_there n ls q l e

-- ---- from the place in its step

pub at_table : (n : ℕ) (steps : List Step) (r q : ℕ) (s : Step) (l : Line) → slice_get steps r ≡ Some s → slice_get (lines_in s) q ≡ Some l → slice_get (lines_from n steps) (length (flat_map lines_in (take r steps)) + q) ≡ Some (line_at (n + r) l)
at_table n [] r q s l told at = absurd cc
at_table n (t ∷ steps) zero q s l told at =
    let same : t ≡ s = cc in
    let here : slice_get (lines_in t) q ≡ Some l = subst (λ (x : Step). slice_get (lines_in x) q ≡ Some l) (sym same) at in
    let z : 0 + q ≡ q = omega arith in
    let m : n ≡ n + 0 = omega arith in
    let b = bound_of (lines_in t) q l here in
    let size = length-map (lines_in t) (line_at n) in
    ap (λ k. slice_get (map (line_at n) (lines_in t) ++ lines_from (n + 1) steps) k) z
    ∙ left_of (map (line_at n) (lines_in t)) (lines_from (n + 1) steps) q (omega arith)
    ∙ line_there n (lines_in t) q l here
    ∙ ap (λ k. Some (line_at k l)) m
at_table n (t ∷ steps) (suc r) q s l told at =
    let more = flat_map lines_in (take r steps) in
    let size : length (lines_in t ++ more) ≡ length (lines_in t) + length more = length-append (lines_in t) more in
    let lines = map (line_at n) (lines_in t) in
    let long = length-map (lines_in t) (line_at n) in
    let z : length (lines_in t ++ more) + q - length lines ≡ length more + q = omega arith in
    let m : n + 1 + r ≡ n + suc r = omega arith in
    right_of lines (lines_from (n + 1) steps) (length (lines_in t ++ more) + q) (omega arith)
    ∙ ap (λ k. slice_get (lines_from (n + 1) steps) k) z
    ∙ at_table (n + 1) steps r q s l told at
    ∙ ap (λ k. Some (line_at k l)) m

-- ---- the lines up to a step

take_left : {X : Type 0} (xs ys zs : List X) → take (length (xs ++ ys)) (xs ++ zs) ≡ xs ++ take (length ys) zs
take_left [] ys zs = refl
take_left (x ∷ xs) ys zs = ap (λ t. x ∷ t) (take_left xs ys zs)

pub front_lines : (k : ℕ) (steps : List Step) → take (length (flat_map lines_in (take k steps))) (flat_map lines_in steps) ≡ flat_map lines_in (take k steps)
front_lines zero steps = refl
front_lines (suc k) [] = refl
front_lines (suc k) (t ∷ steps) = take_left (lines_in t) (flat_map lines_in (take k steps)) (flat_map lines_in steps) ∙ ap (λ (ls : List Line). lines_in t ++ ls) (front_lines k steps)

pub next_lines : (steps : List Step) (r : ℕ) (s : Step) → slice_get steps r ≡ Some s → flat_map lines_in (take (r + 1) steps) ≡ flat_map lines_in (take r steps) ++ lines_in s
next_lines steps r s e = let z : r + 1 ≡ suc r = omega arith in ap (λ k. flat_map lines_in (take k steps)) z ∙ more steps r e
  where
    more : (steps : List Step) (r : ℕ) → slice_get steps r ≡ Some s → flat_map lines_in (take (suc r) steps) ≡ flat_map lines_in (take r steps) ++ lines_in s
    more [] r e = absurd cc
    more (t ∷ steps) zero e = let same : t ≡ s = cc in append-nil (lines_in t) ∙ ap (λ (x : Step). lines_in x) same
    more (t ∷ steps) (suc r) e = ap (λ (ls : List Line). lines_in t ++ ls) (more steps r e) ∙ sym (assoc (lines_in t) (flat_map lines_in (take r steps)) (lines_in s))
      where
        assoc : (xs ys zs : List Line) → (xs ++ ys) ++ zs ≡ xs ++ (ys ++ zs)
        assoc [] ys zs = refl
        assoc (x ∷ xs) ys zs = ap (λ (t : List Line). x ∷ t) (assoc xs ys zs)

-- ---- how many events are of these

any_front : {X : Type 0} (p : X → Bool) (a b : ℕ) (xs : List X) → a ≤ b → list_any p (take a xs) ≡ true → list_any p (take b xs) ≡ true
any_front p zero b xs l t = absurd cc
any_front p (suc a) zero xs l t = absurd (omega arith)
any_front p (suc a) (suc b) [] l t = absurd cc
any_front p (suc a) (suc b) (x ∷ xs) l t = one (p x) t (λ r. any_front p a b xs (omega arith) r)
  where
    one : (c : Bool) → (c || list_any p (take a xs)) ≡ true → (list_any p (take a xs) ≡ true → list_any p (take b xs) ≡ true) → (c || list_any p (take b xs)) ≡ true
    one true t f = refl
    one false t f = f t

more_of : {X : Type 0} (p q : X → Bool) → ((x : X) → p x ≡ true → q x ≡ true) → (xs : List X) → count_by p xs ≤ count_by q xs
more_of {X} p q f [] = omega arith
more_of {X} p q f (x ∷ xs) =
    let a : count_by p (x ∷ xs) ≡ cond (p x) 1 0 + count_by p xs = sum_by-cons (λ (y : X). cond (p y) 1 0) x xs in
    let b : count_by q (x ∷ xs) ≡ cond (q x) 1 0 + count_by q xs = sum_by-cons (λ (y : X). cond (q y) 1 0) x xs in
    let m = more_of p q f xs in
    let l : cond (p x) 1 0 ≤ cond (q x) 1 0 = step (p x) (q x) (f x) in
    omega arith
  where
    step : (s t : Bool) → (s ≡ true → t ≡ true) → cond s 1 0 ≤ cond t 1 0
    step true t g = let e = g refl in subst (λ b. 1 ≤ cond b 1 0) (sym e) (omega arith)
    step false t g = omega arith

pub count_rises : (a b : ℕ) (ls : List Line) (h : List Event) → a ≤ b → count_by (has_line (take a ls)) h ≤ count_by (has_line (take b ls)) h
count_rises a b ls h l = more_of (has_line (take a ls)) (has_line (take b ls)) (λ e t. any_front (λ (x : Line). same_by x.by (by_of e)) a b ls l t) h

pub count_few : {X : Type 0} (p : X → Bool) (xs : List X) → count_by p xs ≤ length xs
count_few p [] = omega arith
count_few {X} p (x ∷ xs) =
    let a : count_by p (x ∷ xs) ≡ cond (p x) 1 0 + count_by p xs = sum_by-cons (λ (y : X). cond (p y) 1 0) x xs in
    let m = count_few p xs in
    let l = step (p x) in
    omega arith
  where
    step : (s : Bool) → cond s 1 0 ≤ 1
    step true = omega arith
    step false = omega arith
