-- A column grows with its history.
use Rattle.std.proofs.Common.{◌≡◌, ℕ, ◌+◌, ◌-◌, ◌<◌, ◌≤◌, List, [], ◌∷◌, ◌++◌, length, get_or, take, drop, refl, ap, sym, ◌∙◌, arith, length-append, ⊎_elim}
use Rattle.std.proofs.lemmas.Bool.{cases_lt}
use Rattle.std.proofs.Math.ListN.{get_or-append}
use Rattle.std.proofs.Math.Seq.{get_or-append_seam, take-length, take-add}
use Rattle.std.proofs.lemmas.List.{take-append-le}
use Rattle.place_columns.specs.declared.span.Span.{Span}
use Rattle.place_columns.specs.Columns.{IsColumn, IsSpanOf, IsWhere, NeverFalls}

pub parts : {X : Type 0} (p q : ℕ) (h : List X) → p ≤ q → take q h ≡ take p h ++ take (q - p) (drop p h)
parts p q h l = let is : q ≡ p + (q - p) = omega arith in ap (λ n. take n h) is ∙ take-add p (q - p) h

module _ {X : Type 0} (f : List X → ℕ) where
  pub column_start : IsColumn f [] (f [] ∷ [])
  column_start = record { size = refl; each = λ p l. let z : p ≡ 0 = omega arith in rw z refl }

  pub column_push : (h : List X) (e : X) (column : List ℕ) (y : ℕ) → y ≡ f (h ++ e ∷ []) → IsColumn f h column → IsColumn f (h ++ e ∷ []) (column ++ y ∷ [])
  column_push h e column y is c = record {
    size = let s = c.size in omega (arith, length-append column (y ∷ []), length-append h (e ∷ []));
    each = λ p l.
        let s = c.size in
        let m = length-append h (e ∷ []) in
        ⊎_elim
        (λ (u : p < length h + 1).
        get_or-append column (y ∷ []) 0 p (omega arith) ∙ c.each p (omega arith) ∙ ap f (sym (take-append-le p h (e ∷ []) (omega arith))))
        (λ (u : length h + 1 ≤ p).
        let at : p ≡ length column = omega arith in
        let whole : length (h ++ e ∷ []) ≡ p = omega arith in
        ap (λ k. get_or (column ++ y ∷ []) k 0) at ∙ get_or-append_seam column y [] 0 ∙ is ∙ ap f (sym (take-length (h ++ e ∷ [])) ∙ ap (λ k. take k (h ++ e ∷ [])) whole))
        (cases_lt p (length h + 1));
  }

  -- where what it has never falls along the history, it doesn't
  pub column_rises : (h : List X) (column : List ℕ) → IsColumn f h column → ((p q : ℕ) → p ≤ q → f (take p h) ≤ f (take q h)) → NeverFalls column
  column_rises h column c rises = λ p q l m.
      let s = c.size in
      let a = c.each p (omega arith) in let b = c.each q (omega arith) in let r = rises p q l in
      omega arith

  -- what a search of it finds
  pub span_where : (h : List X) (column : List ℕ) (number : ℕ) (span : Span) → IsColumn f h column → IsSpanOf column number span → IsWhere f h number span
  span_where h column number span c s = record {
    within = let a = c.size in let b = s.within in omega arith;
    each = λ p l.
        let a = c.size in let i = s.each p (omega arith) in (λ e. i.0 (c.each p l ∙ e), λ z. sym (c.each p l) ∙ i.1 z);
  }
