-- What is told of an event.
use Rattle.std.proofs.Common.{◌≡◌, ◌↔◌, ℕ, suc, zero, ◌+◌, ◌<◌, ◌≤◌, ◌==◌, List, [], ◌∷◌, ◌++◌, length, get_or, map, take, refl, ap, sym, subst, ◌∙◌, arith, Bool, true, false, cond, nat_lt, Some, ⊎_elim, length-append}
use Rattle.std.specs.List.{count_by, filter, slice_get}
use Rattle.std.specs.Prelude.{IsTrue}
use Rattle.std.proofs.lemmas.Bool.{false≢true}
use Rattle.std.proofs.lemmas.Option.{same_Some, slice_get_within}
use Rattle.std.proofs.lemmas.List.Sums.{length-filter, sum_by-cons}
use Rattle.std.proofs.Math.ListN.{get_or-append}
use Rattle.std.proofs.Math.Seq.{get_or-append_seam}
use Rattle.tx_events.specs.declared.event.By.{By}
use Rattle.tx_events.specs.declared.event.Event.{Event}
use Rattle.tx_events.specs.Events.{by_of, events_of, same_by}
use Rattle.tx_events.proofs.PlaceLemmas.{slice_get-push}
use Rattle.place_columns.specs.declared.lines.LineAt.{LineAt}
use Rattle.place_columns.specs.Lined.{AreInOrder, Numbered, bys_of, lines_from, number_of}
use Rattle.place_columns.proofs.Numbering.{number_is as number_of_is, number_tells, same_self}
use Rattle.report_law.specs.Events.{StandsAt}
use Rattle.report_law.specs.Steps.{Judged, lines_of}
use Rattle.event_rules.specs.Lined.{AreLinesInOrder, events_in, number_at}
use Rattle.event_rules.specs.Told.{AreMarked, AreToldEvents, IsToldEvent, count_before}
use Rattle.event_rules.proofs.Standing.{by_at_line, in_order, line_at_number, within}

-- ---- how many before it

pub rank_counts : {E : Type 0} (by : E → By) (lines : List LineAt) (i : ℕ) (b : By) (h : List E) → AreInOrder (bys_of lines) → slice_get (bys_of lines) i ≡ Some b
    → count_by (λ k. k == i) (map (number_of lines) (map by h)) ≡ length (filter (λ e. same_by (by e) b) h)
rank_counts {E} by lines i b h order at = same h ∙ sym (length-filter (λ e. same_by (by e) b) h)
  where
    same : (h : List E) → count_by (λ k. k == i) (map (number_of lines) (map by h)) ≡ count_by (λ e. same_by (by e) b) h
    same [] = refl
    same (e ∷ h) =
        sum_by-cons (λ k. cond (k == i) 1 0) (number_of lines (by e)) (map (number_of lines) (map by h))
        ∙ ap (λ t. cond t 1 0 + count_by (λ k. k == i) (map (number_of lines) (map by h))) (number_tells lines i b (by e) order at)
        ∙ ap (λ k. cond (same_by (by e) b) 1 0 + k) (same h)
        ∙ sym (sum_by-cons (λ e. cond (same_by (by e) b) 1 0) e h)

-- ---- at a place

pub number_there : {E : Type 0} (f : By → ℕ) (by : E → By) (h : List E) (p : ℕ) (e : E) → slice_get h p ≡ Some e → get_or (map f (map by h)) p 0 ≡ f (by e)
number_there f by [] p e at = absurd cc
number_there {E} f by (x ∷ h) zero e at = let same : x ≡ e = cc in ap (λ (y : E). f (by y)) same
number_there f by (x ∷ h) (suc p) e at = number_there f by h p e at

first_numbers : {E : Type 0} (f : By → ℕ) (by : E → By) (h : List E) (p : ℕ) → take p (map f (map by h)) ≡ map f (map by (take p h))
first_numbers f by [] zero = refl
first_numbers f by (x ∷ h) zero = refl
first_numbers f by [] (suc p) = refl
first_numbers f by (x ∷ h) (suc p) = ap (λ (t : List ℕ). f (by x) ∷ t) (first_numbers f by h p)

-- ---- at its rank

-- the event is the one of its rank among its command's
at_rank : {X : Type 0} (f : X → Bool) (h : List X) (p : ℕ) (e : X) → slice_get h p ≡ Some e → f e ≡ true → slice_get (filter f h) (length (filter f (take p h))) ≡ Some e
at_rank f [] p e at t = absurd cc
at_rank {X} f (x ∷ h) zero e at t =
    let same : x ≡ e = cc in
    let yes : f x ≡ true = ap f same ∙ t in
    ap (λ (b : Bool). slice_get (cond b (x ∷ filter f h) (filter f h)) 0) yes ∙ at
at_rank {X} f (x ∷ h) (suc p) e at t = step (f x) (at_rank f h p e at t)
  where
    step : (b : Bool) → slice_get (filter f h) (length (filter f (take p h))) ≡ Some e
        → slice_get (cond b (x ∷ filter f h) (filter f h)) (length (cond b (x ∷ filter f (take p h)) (filter f (take p h)))) ≡ Some e
    step true r = r
    step false r = r

pub told_at : (j : Judged) (p : ℕ) (e : Event) (s : StandsAt j (by_of e)) (own : Numbered) (told : List Bool) (number rank first : ℕ) (t : Bool) → AreLinesInOrder j → own ≡ events_in j → AreToldEvents j (length (lines_of j)) told
    → slice_get j.life.events p ≡ Some e → number ≡ get_or own.numbers p 0 → rank ≡ count_by (λ k. k == get_or own.numbers p 0) (take p own.numbers) → first ≡ count_by (λ k. nat_lt k number) own.numbers
    → t ≡ get_or told (first + rank) false → IsTrue t ↔ IsToldEvent j p e s
told_at j p e s own told number rank first t order own_is marks at number_is rank_is first_is is =
    let by : By = by_of e in
    let h : List Event = j.life.events in
    let lines : List LineAt = lines_from 0 j.steps in
    let ks : List ℕ = map (number_of lines) (map by_of h) in
    let its : List Event = events_of by (take p h) in
    let stands = by_at_line j by s in
    let there : get_or ks p 0 ≡ number_at j by s = number_there (number_of lines) by_of h p e at ∙ number_of_is lines (number_at j by s) by (in_order j order) stands in
    let n : number ≡ number_at j by s = number_is ∙ ap (λ (o : Numbered). get_or o.numbers p 0) own_is ∙ there in
    let r : rank ≡ length its =
    rank_is
    ∙ ap (λ (o : Numbered). count_by (λ k. k == get_or o.numbers p 0) (take p o.numbers)) own_is
    ∙ ap (λ m. count_by (λ k. k == m) (take p ks)) there
    ∙ ap (λ (l : List ℕ). count_by (λ k. k == number_at j by s) l) (first_numbers (number_of lines) by_of h p)
    ∙ rank_counts by_of lines (number_at j by s) by (take p h) (in_order j order) stands in
    let f : first ≡ count_before j (number_at j by s) = first_is ∙ ap (λ (o : Numbered). count_by (λ k. nat_lt k number) o.numbers) own_is ∙ ap (λ m. count_before j m) n in
    let flag : get_or told (count_before j (number_at j by s) + length its) false ≡ t = ap (λ k. get_or told k false) (ap (λ m. m + length its) (sym f) ∙ ap (λ m. first + m) (sym r)) ∙ sym is in
    let has : slice_get (events_of by h) (length its) ≡ Some e = at_rank (λ x. same_by (by_of x) by) h p e at (same_self by) in
    let l : number_at j by s < length (lines_of j) = within (lines_of j) (number_at j by s) s.line (line_at_number j by s) in
    let both = marks.each by s l (length its) e has in (
      λ y. both.0 (flag ∙ y),
      λ y. sym flag ∙ both.1 y,
    )

-- ---- marked

pub none_marked : (old : List Bool) (told : List Event) → AreMarked old old [] told
none_marked old told = record {
  size = omega arith;
  front = λ k l. refl;
  each = λ rank e at. absurd cc;
}

pub one_marked : (old marks : List Bool) (own told : List Event) (n : ℕ) (e : Event) (t : Bool) → AreMarked old marks (take n own) told → slice_get own n ≡ Some e → IsTrue t ↔ (slice_get told n ≡ Some e)
    → AreMarked old (marks ++ t ∷ []) (take (n + 1) own) told
one_marked old marks own told n e t a at is =
    let more : take (n + 1) own ≡ take n own ++ e ∷ [] = one_longer n own e at in
    let front_size : length (take n own) ≡ n = take_size n own e at in
    subst (λ (l : List Event). AreMarked old (marks ++ t ∷ []) l told) (sym more) (record {
      size = let s = a.size in omega (arith, length-append marks (t ∷ []), length-append (take n own) (e ∷ []));
      front = λ k l. let s = a.size in get_or-append marks (t ∷ []) false k (omega arith) ∙ a.front k l;
      each = λ rank x there.
          let s = a.size in
          ⊎_elim
          (λ (before : (rank < length (take n own)) × (slice_get (take n own) rank ≡ Some x)).
          let l : rank < length (take n own) = before.0 in
          let same : get_or (marks ++ t ∷ []) (length old + rank) false ≡ get_or marks (length old + rank) false = get_or-append marks (t ∷ []) false (length old + rank) (omega arith) in
          let both = a.each rank x before.1 in (λ y. both.0 (sym same ∙ y), λ y. same ∙ both.1 y))
          (λ (last : (rank ≡ length (take n own)) × (e ≡ x)).
          let here : rank ≡ n = last.0 ∙ front_size in
          let seam : length old + rank ≡ length marks = let r = last.0 in omega arith in
          let same : get_or (marks ++ t ∷ []) (length old + rank) false ≡ t = ap (λ k. get_or (marks ++ t ∷ []) k false) seam ∙ get_or-append_seam marks t [] false in (
            λ y. ap (λ k. slice_get told k) here ∙ is.0 (sym same ∙ y) ∙ ap (λ (z : Event). Some z) last.1,
            λ y. same ∙ is.1 (sym (ap (λ k. slice_get told k) here) ∙ y ∙ ap (λ (z : Event). Some z) (sym last.1)),
          ))
          (slice_get-push (take n own) e x rank there);
    })
  where
    one_longer : (n : ℕ) (xs : List Event) (x : Event) → slice_get xs n ≡ Some x → take (n + 1) xs ≡ take n xs ++ x ∷ []
    one_longer n [] x e = absurd cc
    one_longer zero (y ∷ xs) x e = let same : y ≡ x = cc in ap (λ (z : Event). z ∷ []) same
    one_longer (suc n) (y ∷ xs) x e = let on : suc n + 1 ≡ suc (n + 1) = omega arith in ap (λ k. take k (y ∷ xs)) on ∙ ap (λ (l : List Event). y ∷ l) (one_longer n xs x e)

    take_size : (n : ℕ) (xs : List Event) (x : Event) → slice_get xs n ≡ Some x → length (take n xs) ≡ n
    take_size n [] x e = absurd cc
    take_size zero (y ∷ xs) x e = refl
    take_size (suc n) (y ∷ xs) x e = ap suc (take_size n xs x e)

-- ---- searched

pub told_here : {X : Type 0} (xs : List X) (k : ℕ) (e x : X) (t : Bool) → slice_get xs k ≡ Some e → IsTrue t ↔ (e ≡ x) → IsTrue t ↔ (slice_get xs k ≡ Some x)
told_here {X} xs k e x t at b = (λ y. at ∙ ap (λ (z : X). Some z) (b.0 y), λ y. b.1 (same_Some e x (sym at ∙ y)))

pub told_past : {X : Type 0} (xs : List X) (k : ℕ) (x : X) → length xs ≤ k → IsTrue false ↔ (slice_get xs k ≡ Some x)
told_past xs k x l = (λ y. absurd (false≢true y), λ y. let w = slice_get_within xs k x y in absurd (omega arith))
