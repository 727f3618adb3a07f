-- Banks crash one by one.
use Rattle.std.proofs.Common.{◌≡◌, ℕ, ◌+◌, ◌<◌, List, [], ◌∷◌, ◌++◌, length, take, drop, set, sym, ◌∙◌, ap, subst, arith, get_or}
use Rattle.std.proofs.lemmas.List.{take_more, take_more_set, drop_more, drop-set-lt, length-drop}
use Rattle.disk_core.specs.Media.{EachCrashed}

module _ {P : Type 0} (crashed : P → P → Type 0) where
  EachCrashed-push : (xs ys : List P) (x y : P) → EachCrashed crashed xs ys → crashed x y → EachCrashed crashed (xs ++ x ∷ []) (ys ++ y ∷ [])
  EachCrashed-push [] [] x y each here = (here, tt)
  EachCrashed-push [] (q ∷ qs) x y each here = absurd each
  EachCrashed-push (p ∷ ps) [] x y each here = absurd each
  EachCrashed-push (p ∷ ps) (q ∷ qs) x y each here = (each.0, EachCrashed-push ps qs x y each.1 here)

  pub banks_step : (xs ys : List P) (i : ℕ) (d y : P) → i < length ys → crashed (get_or ys i d) y
      → EachCrashed crashed (take i xs) (take i ys) → drop i ys ≡ drop i xs
      → EachCrashed crashed (take (i + 1) xs) (take (i + 1) (set ys i y)) × (drop (i + 1) (set ys i y) ≡ drop (i + 1) xs)
  banks_step xs ys i d y lt did each same =
      let x : P = get_or ys i d in
      let long : length (drop i ys) ≡ length (drop i xs) = ap length same in
      let lt_2 : i < length xs = omega (arith, length-drop i ys, length-drop i xs, long) in
      let both : get_or ys i d ∷ drop (i + 1) ys ≡ get_or xs i d ∷ drop (i + 1) xs = sym (drop_more ys i d lt) ∙ same ∙ drop_more xs i d lt_2 in
      let head : x ≡ get_or xs i d = head_of both in
      let tail : drop (i + 1) ys ≡ drop (i + 1) xs = cc in
      let front : take (i + 1) xs ≡ take i xs ++ x ∷ [] = take_more xs i d lt_2 ∙ ap (λ (z : P). take i xs ++ z ∷ []) (sym head) in (
        subst (λ (l : List P). EachCrashed crashed l (take (i + 1) (set ys i y))) (sym front)
            (subst (λ (l : List P). EachCrashed crashed (take i xs ++ x ∷ []) l) (sym (take_more_set ys i y lt)) (EachCrashed-push (take i xs) (take i ys) x y each did)),
        drop-set-lt (i + 1) ys i y (omega arith) ∙ tail,
      )
    where
      head_of : get_or ys i d ∷ drop (i + 1) ys ≡ get_or xs i d ∷ drop (i + 1) xs → get_or ys i d ≡ get_or xs i d
      head_of e = cc
