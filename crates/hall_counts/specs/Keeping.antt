-- An entry that may be added keeps counter 1 behind counter 0, and the word recent.
use Rattle.std.proofs.Common.{◌≡◌, ℕ, ◌+◌, ◌<◌, ◌≤◌, ◌≢◌, List, [], ◌∷◌, ◌++◌, length, set, refl, sym, ◌∙◌, ap, subst, get_or-set_same, get_or-set_other, arith}
use Rattle.std.proofs.lemmas.List.Sums.{sum_by-append}
use mathlib.Core.Logic.{dite}
use native.Mathlib.Decide.{ℕ_discrete}
use Rattle.notes.specs.Lists.{add, at, Begins, Knows}
use Rattle.hall.specs.Lists.{Whole}
use Rattle.hall.specs.declared.writer.Writer.TheVariants.{Session}
use Rattle.hall_counts.specs.declared.Entry.{Entry}
use Rattle.hall_counts.specs.Tally.{by, writes, total, last_after, last, Kept, May}

pub total_more : (xs : List Entry) (e : Entry) → total (xs ++ e ∷ []) ≡ total xs + e.amount
total_more xs e = let a : total (xs ++ e ∷ []) ≡ total xs + (0 + e.amount) = sum_by-append (λ (x : Entry). x.amount) xs (e ∷ []) in omega arith

pub last_more : (n : ℕ) (xs : List Entry) (e : Entry) → last_after n (xs ++ e ∷ []) ≡ e.amount
last_more n [] e = refl
last_more n (x ∷ xs) e = last_more x.amount xs e

total_grows : (xs ys : List Entry) → Begins xs ys → total xs ≤ total ys
total_grows xs ys b = let e : total (xs ++ b.0) ≡ total ys = ap total b.1 in let f : total (xs ++ b.0) ≡ total xs + total b.0 = sum_by-append (λ (x : Entry). x.amount) xs b.0 in omega arith

module _ (ls seen : List (List Entry)) (q : ℕ) (e : Entry) (kept : Kept ls) (knows : Knows by (by e) seen ls) (inside : q < length ls) (whole : Whole writes (writes q) seen ls) (may : May seen q e) where
  abbrev xs : List Entry
  xs = at ls q ++ e ∷ []

  abbrev more : List (List Entry)
  more = set ls q xs

  here : at more q ≡ xs
  here = get_or-set_same ls q xs [] inside

  other : (k : ℕ) → k ≢ q → at more k ≡ at ls k
  other k ne = get_or-set_other ls q k xs [] ne

  pub keeps_one : Kept more
  keeps_one = dite (ℕ_discrete q 0)
      (λ (z : q ≡ 0).
      let P : ℕ → Type 0 = λ k. (at more k ≡ at ls k ++ e ∷ []) × Whole writes (writes k) seen ls in let f = subst P z (here, whole) in
      let m = may.first z in
      let t0 : total (at more 0) ≡ total (at ls 0) + e.amount = ap total f.0 ∙ total_more (at ls 0) e in
      let t1 : total (at more 1) ≡ total (at ls 1) = ap total (other 1 (λ k. omega arith)) in
      let l2 : last (at more 2) ≡ last (at ls 2) = ap last (other 2 (λ k. omega arith)) in
      let s0 : total (at seen 0) ≡ total (at ls 0) = ap total (f.1.whole 0 refl) in let s2 : last (at seen 2) ≡ last (at ls 2) = ap last (f.1.whole 2 refl) in
      let a = kept.behind in let b = kept.said in let c = m.0 in let d = m.1 in
      record { behind = omega arith; said = omega arith; recent = omega arith })
      (λ n0. dite (ℕ_discrete q 1)
      (λ (z : q ≡ 1).
      let P : ℕ → Type 0 = λ k. (at more k ≡ at ls k ++ e ∷ []) × Whole writes (writes k) seen ls in let f = subst P z (here, whole) in
      let m = may.second z in
      let t1 : total (at more 1) ≡ total (at ls 1) + e.amount = ap total f.0 ∙ total_more (at ls 1) e in
      let t0 : total (at more 0) ≡ total (at ls 0) = ap total (other 0 (λ k. omega arith)) in
      let l2 : last (at more 2) ≡ last (at ls 2) = ap last (other 2 (λ k. omega arith)) in
      let s1 : total (at seen 1) ≡ total (at ls 1) = ap total (f.1.whole 1 refl) in
      let g = total_grows (at seen 0) (at ls 0) (knows.grows.begins 0) in let a = kept.behind in let b = kept.said in let c = kept.recent in
      record { behind = omega arith; said = omega arith; recent = omega arith })
      (λ n1. dite (ℕ_discrete q 2)
      (λ (z : q ≡ 2).
      let P : ℕ → Type 0 = λ k. (at more k ≡ at ls k ++ e ∷ []) × Whole writes (writes k) seen ls in let f = subst P z (here, whole) in
      let m = may.word z in
      let l2 : last (at more 2) ≡ e.amount = ap last f.0 ∙ last_more 0 (at ls 2) e in
      let t0 : total (at more 0) ≡ total (at ls 0) = ap total (other 0 (λ k. omega arith)) in let t1 : total (at more 1) ≡ total (at ls 1) = ap total (other 1 (λ k. omega arith)) in
      let s0 : total (at seen 0) ≡ total (at ls 0) = ap total (f.1.whole 0 refl) in let a = kept.behind in
      record { behind = omega arith; said = omega arith; recent = omega arith })
      (λ n2.
      let t0 : total (at more 0) ≡ total (at ls 0) = ap total (other 0 (λ k. n0 (sym k))) in let t1 : total (at more 1) ≡ total (at ls 1) = ap total (other 1 (λ k. n1 (sym k))) in
      let l2 : last (at more 2) ≡ last (at ls 2) = ap last (other 2 (λ k. n2 (sym k))) in let a = kept.behind in let b = kept.said in let c = kept.recent in
      record { behind = omega arith; said = omega arith; recent = omega arith })))

-- in the form of the law
pub keeps : (ls seen : List (List Entry)) (q : ℕ) (e : Entry) → Kept ls → Knows by (by e) seen ls → Whole writes (Session (by e)) seen ls → q < length ls → Whole writes (writes q) seen ls → May seen q e → Kept (add ls q e)
keeps ls seen q e kept knows words inside whole may = keeps_one ls seen q e kept knows inside whole may
