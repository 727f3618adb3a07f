-- Banks are wrapped from the last on.
use Rattle.std.proofs.Common.{◌≡◌, ℕ, ◌+◌, List, [], ◌∷◌, ◌++◌, length, Option, refl, sym, ◌∙◌, ap, arith}
use Rattle.std.specs.Prelude.{slice_index}
use Rattle.std.specs.Prelude.{reverse}
use Rattle.std.proofs.lemmas.List.{append_assoc, reverse-append}
use Rattle.disk_fuse.specs.declared.fails.Fails.{Fails}
use Rattle.disk_fuse.specs.declared.fused_pages.FusedPages.{FusedPages}
use Rattle.disk_fuse.specs.FuseMedia.{is_at, fails_if, fused_banks, inner_banks, refusals}

module _ {P : Type 0} where
  module _ (at : Option ℕ) (fails : Fails) (refused : List ℕ) where
    fused_banks-append : (i n : ℕ) (xs ys : List P) → n ≡ i + length xs → fused_banks at fails refused i (xs ++ ys) ≡ fused_banks at fails refused i xs ++ fused_banks at fails refused n ys
    fused_banks-append i n [] ys is = let same : i ≡ n = omega arith in ap (λ (k : ℕ). fused_banks at fails refused k ys) same
    fused_banks-append i n (x ∷ xs) ys is = ap (λ (l : List (FusedPages P)). record { inner = x; fails = fails_if (is_at at i) fails; refused = slice_index refused i } ∷ l) (fused_banks-append (i + 1) n xs ys (omega arith))

    -- one bank more is wrapped
    pub fused_step : (all left left_2 : List P) (into into_2 : List (FusedPages P)) (x : P) (i : ℕ) (l : Fails) (r : ℕ) → left ≡ left_2 ++ x ∷ [] → i ≡ length left_2
        → l ≡ fails_if (is_at at i) fails → r ≡ slice_index refused i → into_2 ≡ into ++ record { inner = x; fails = l; refused = r } ∷ []
        → fused_banks at fails refused 0 all ≡ fused_banks at fails refused 0 left ++ reverse into
        → fused_banks at fails refused 0 all ≡ fused_banks at fails refused 0 left_2 ++ reverse into_2
    fused_step all left left_2 into into_2 x i l r is place limit count grown before =
        let f : FusedPages P = record { inner = x; fails = fails_if (is_at at i) fails; refused = slice_index refused i } in
        let f_is : f ≡ record { inner = x; fails = l; refused = r } = λ j. record { inner = x; fails = sym limit j; refused = sym count j } in
        let split : fused_banks at fails refused 0 left ≡ fused_banks at fails refused 0 left_2 ++ f ∷ [] =
        ap (fused_banks at fails refused 0) is ∙ fused_banks-append 0 i left_2 (x ∷ []) (omega arith) in
        before ∙ ap (λ (k : List (FusedPages P)). k ++ reverse into) split ∙ append_assoc (fused_banks at fails refused 0 left_2) (f ∷ []) (reverse into)
        ∙ ap (λ (k : List (FusedPages P)). fused_banks at fails refused 0 left_2 ++ k)
        (ap (λ (y : FusedPages P). y ∷ reverse into) f_is ∙ sym (reverse-append into (record { inner = x; fails = l; refused = r } ∷ [])) ∙ ap reverse (sym grown))

  inner_banks-append : (xs ys : List (FusedPages P)) → inner_banks (xs ++ ys) ≡ inner_banks xs ++ inner_banks ys
  inner_banks-append [] ys = refl
  inner_banks-append (x ∷ xs) ys = ap (λ (l : List P). x.inner ∷ l) (inner_banks-append xs ys)

  refusals-append : (xs ys : List (FusedPages P)) → refusals (xs ++ ys) ≡ refusals xs ++ refusals ys
  refusals-append [] ys = refl
  refusals-append (x ∷ xs) ys = ap (λ (l : List ℕ). x.refused ∷ l) (refusals-append xs ys)

  -- one bank more is unwrapped
  pub inner_step : (all left left_2 : List (FusedPages P)) (into into_2 : List P) (x : FusedPages P) → left ≡ left_2 ++ x ∷ [] → into_2 ≡ into ++ x.inner ∷ []
      → inner_banks all ≡ inner_banks left ++ reverse into → inner_banks all ≡ inner_banks left_2 ++ reverse into_2
  inner_step all left left_2 into into_2 x is grown before =
      before ∙ ap (λ (l : List P). l ++ reverse into) (ap inner_banks is ∙ inner_banks-append left_2 (x ∷ [])) ∙ append_assoc (inner_banks left_2) (x.inner ∷ []) (reverse into)
      ∙ ap (λ (l : List P). inner_banks left_2 ++ l) (sym (reverse-append into (x.inner ∷ [])) ∙ ap reverse (sym grown))

  pub refusals_step : (all left left_2 : List (FusedPages P)) (into into_2 : List ℕ) (x : FusedPages P) → left ≡ left_2 ++ x ∷ [] → into_2 ≡ into ++ x.refused ∷ []
      → refusals all ≡ refusals left ++ reverse into → refusals all ≡ refusals left_2 ++ reverse into_2
  refusals_step all left left_2 into into_2 x is grown before =
      before ∙ ap (λ (l : List ℕ). l ++ reverse into) (ap refusals is ∙ refusals-append left_2 (x ∷ [])) ∙ append_assoc (refusals left_2) (x.refused ∷ []) (reverse into)
      ∙ ap (λ (l : List ℕ). refusals left_2 ++ l) (sym (reverse-append into (x.refused ∷ [])) ∙ ap reverse (sym grown))
