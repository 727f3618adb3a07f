-- The events of one line, copied from their places.
use Rattle.std.proofs.Common.{◌≡◌, ℕ, suc, zero, ◌+◌, ◌<◌, ◌≤◌, List, [], ◌∷◌, ◌++◌, length, get_or, map, take, refl, ap, sym, subst, ◌∙◌, arith, Bool, true, false, cond, ◌==◌, Some, None, Option, length-append}
use Rattle.std.specs.List.{cons_option, filter, filter_map, slice_get}
use Rattle.std.proofs.lemmas.List.{append_assoc, take_all, take_more}
use Rattle.std.proofs.lemmas.List.Elements.{filter_agree, filter_map-append}
use Rattle.tx_events.specs.declared.event.By.{By}
use Rattle.tx_events.specs.Events.{same_by}
use Rattle.place_columns.specs.declared.lines.LineAt.{LineAt}
use Rattle.place_columns.specs.Lined.{AreInOrder, Numbered, bys_of, number_of, numbered, places_from, places_of}
use Rattle.place_columns.proofs.Numbering.{number_tells}

-- what stands at these places
abbrev pub picked : {X : Type 0} → List X → List ℕ → List X
picked xs ps = filter_map (slice_get xs) ps

-- places of a number are within the numbers
further : (i n j d k : ℕ) (ks : List ℕ) → get_or (places_from i (n + 1) ks) j d < (n + 1) + length ks → get_or (places_from i (n + 1) ks) j d < n + length (k ∷ ks)
further i n j d k ks l = omega arith

within_step : (i n d k : ℕ) (ks : List ℕ) → ((j : ℕ) → j < length (places_from i (n + 1) ks) → get_or (places_from i (n + 1) ks) j d < (n + 1) + length ks)
    → (t : Bool) (j : ℕ) → j < length (cond t (n ∷ places_from i (n + 1) ks) (places_from i (n + 1) ks)) → get_or (cond t (n ∷ places_from i (n + 1) ks) (places_from i (n + 1) ks)) j d < n + length (k ∷ ks)
within_step i n d k ks f true zero m = omega arith
within_step i n d k ks f true (suc j) m = further i n j d k ks (f j (omega arith))
within_step i n d k ks f false j m = further i n j d k ks (f j m)

pub place_within : (i n : ℕ) (ks : List ℕ) (j d : ℕ) → j < length (places_from i n ks) → get_or (places_from i n ks) j d < n + length ks
place_within i n [] j d l = absurd (omega arith)
place_within i n (k ∷ ks) j d l = within_step i n d k ks (λ j m. place_within i (n + 1) ks j d m) (k == i) j l

get_at : {X : Type 0} (xs : List X) (k : ℕ) (d : X) → k < length xs → slice_get xs k ≡ Some (get_or xs k d)
get_at [] k d l = absurd (omega arith)
get_at (x ∷ xs) zero d l = refl
get_at (x ∷ xs) (suc k) d l = get_at xs k d (omega arith)

-- one more place
pub picked_more : {X : Type 0} (xs : List X) (ps : List ℕ) (j p : ℕ) (x : X) → j < length ps → p ≡ get_or ps j p → p < length xs → x ≡ get_or xs p x → picked xs (take (j + 1) ps) ≡ picked xs (take j ps) ++ x ∷ []
picked_more {X} xs ps j p x l p_is m x_is =
    let there : slice_get xs p ≡ Some x = get_at xs p x m ∙ ap (λ (y : X). Some y) (sym x_is) in
    ap (λ (t : List ℕ). picked xs t) (take_more ps j p l ∙ ap (λ k. take j ps ++ k ∷ []) (sym p_is))
    ∙ filter_map-append (slice_get xs) (take j ps) (p ∷ [])
    ∙ ap (λ (t : List X). picked xs (take j ps) ++ t) (one (slice_get xs p) there)
  where
    one : (o : Option X) → o ≡ Some x → cons_option o [] ≡ x ∷ []
    one None e = absurd cc
    one (Some y) e = let same : y ≡ x = cc in ap (λ (z : X). z ∷ []) same

at_seam : {X : Type 0} (front : List X) (x : X) (xs : List X) → slice_get (front ++ x ∷ xs) (length front) ≡ Some x
at_seam [] x xs = refl
at_seam (y ∷ front) x xs = at_seam front x xs

-- at the places of a number stands what has it
pub picked_are : {X : Type 0} (f : X → ℕ) (i : ℕ) (front xs : List X) → picked (front ++ xs) (places_from i (length front) (map f xs)) ≡ filter (λ x. f x == i) xs
picked_are f i front [] = refl
picked_are {X} f i front (x ∷ xs) =
    let size : length (front ++ x ∷ []) ≡ length front + 1 = length-append front (x ∷ []) in
    let rest : picked (front ++ x ∷ xs) (places_from i (length front + 1) (map f xs)) ≡ filter (λ x. f x == i) xs =
    ap (λ (t : List X). picked t (places_from i (length front + 1) (map f xs))) (sym (append_assoc front (x ∷ []) xs))
    ∙ ap (λ n. picked ((front ++ x ∷ []) ++ xs) (places_from i n (map f xs))) (sym size)
    ∙ picked_are f i (front ++ x ∷ []) xs in
    step (f x == i) rest
  where
    step : (t : Bool) → picked (front ++ x ∷ xs) (places_from i (length front + 1) (map f xs)) ≡ filter (λ x. f x == i) xs
        → picked (front ++ x ∷ xs) (cond t (length front ∷ places_from i (length front + 1) (map f xs)) (places_from i (length front + 1) (map f xs))) ≡ cond t (x ∷ filter (λ x. f x == i) xs) (filter (λ x. f x == i) xs)
    step true e = ap (λ (o : Option X). cons_option o (picked (front ++ x ∷ xs) (places_from i (length front + 1) (map f xs)))) (at_seam front x xs) ∙ ap (λ (t : List X). x ∷ t) e
    step false e = e

-- of a line these are its command's events
pub copied_are : {E : Type 0} (by : E → By) (lines : List LineAt) (i : ℕ) (b : By) (h : List E) → AreInOrder (bys_of lines) → slice_get (bys_of lines) i ≡ Some b
    → picked h (places_of i (map (number_of lines) (map by h))) ≡ filter (λ e. same_by (by e) b) h
copied_are {E} by lines i b h order at =
    ap (λ (t : List ℕ). picked h (places_of i t)) (together h)
    ∙ picked_are (λ e. number_of lines (by e)) i [] h
    ∙ filter_agree (λ e. number_of lines (by e) == i) (λ e. same_by (by e) b) (λ e. number_tells lines i b (by e) order at) h
  where
    together : (h : List E) → map (number_of lines) (map by h) ≡ map (λ e. number_of lines (by e)) h
    together [] = refl
    together (e ∷ h) = ap (λ (t : List ℕ). number_of lines (by e) ∷ t) (together h)

length_both : {E : Type 0} (f : By → ℕ) (by : E → By) (h : List E) → length (map f (map by h)) ≡ length h
length_both f by [] = refl
length_both f by (e ∷ h) = ap (λ n. suc n) (length_both f by h)

-- an event stands at each of a line's places
pub place_of_event : {E : Type 0} (by : E → By) (lines : List LineAt) (i j : ℕ) (h : List E) (own : Numbered) (ps : List ℕ) → own ≡ numbered lines (map by h) → ps ≡ places_of i own.numbers → j < length ps → get_or ps j 0 < length h
place_of_event by lines i j h own ps is ps_is l =
    let ks : ps ≡ places_of i (map (number_of lines) (map by h)) = ps_is ∙ ap (λ (o : Numbered). places_of i o.numbers) is in
    let m : j < length (places_of i (map (number_of lines) (map by h))) = subst (λ (t : List ℕ). j < length t) ks l in
    let w = place_within i 0 (map (number_of lines) (map by h)) j 0 m in
    let n = length_both (number_of lines) by h in
    let v : get_or (places_of i (map (number_of lines) (map by h))) j 0 < length h = omega arith in
    subst (λ (t : List ℕ). get_or t j 0 < length h) (sym ks) v

pub copied_whole : {E : Type 0} (by : E → By) (lines : List LineAt) (i : ℕ) (b : By) (h : List E) (own : Numbered) → own ≡ numbered lines (map by h) → AreInOrder (bys_of lines) → slice_get (bys_of lines) i ≡ Some b
    → picked h (places_of i own.numbers) ≡ filter (λ e. same_by (by e) b) h
copied_whole by lines i b h own is order at = ap (λ (o : Numbered). picked h (places_of i o.numbers)) is ∙ copied_are by lines i b h order at

-- one event more
pub picked_next : {X : Type 0} (xs : List X) (ps qs : List ℕ) (j : ℕ) (x y : X) (copies pushed : List X) → qs ≡ ps → j < length qs → get_or qs j 0 < length xs → y ≡ get_or xs (get_or qs j 0) y → x ≡ y
    → copies ≡ picked xs (take j ps) → pushed ≡ copies ++ x ∷ [] → pushed ≡ picked xs (take (j + 1) ps)
picked_next {X} xs ps qs j x y copies pushed is l m at same before pushed_is =
    let more : picked xs (take (j + 1) qs) ≡ picked xs (take j qs) ++ y ∷ [] = picked_more xs qs j (get_or qs j 0) y l (get_or_any qs j 0 (get_or qs j 0) l) m at in
    pushed_is
    ∙ ap (λ (t : List X). t ++ x ∷ []) (before ∙ ap (λ (t : List ℕ). picked xs (take j t)) (sym is))
    ∙ ap (λ (z : X). picked xs (take j qs) ++ z ∷ []) same
    ∙ sym more
    ∙ ap (λ (t : List ℕ). picked xs (take (j + 1) t)) is
  where
    get_or_any : (ks : List ℕ) (j d e : ℕ) → j < length ks → get_or ks j d ≡ get_or ks j e
    get_or_any [] j d e l = absurd (omega arith)
    get_or_any (k ∷ ks) zero d e l = refl
    get_or_any (k ∷ ks) (suc j) d e l = get_or_any ks j d e (omega arith)

pub picked_all : {X : Type 0} (xs : List X) (ps qs : List ℕ) (j : ℕ) (copies : List X) → qs ≡ ps → length qs ≤ j → copies ≡ picked xs (take j ps) → copies ≡ picked xs ps
picked_all xs ps qs j copies is l before =
    let m : length ps ≤ j = subst (λ (t : List ℕ). length t ≤ j) is l in
    before ∙ ap (λ (t : List ℕ). picked xs t) (take_all j ps m)
