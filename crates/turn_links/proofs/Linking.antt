-- Links, step by step.
use Rattle.std.proofs.Common.{◌≡◌, ℕ, zero, suc, ◌+◌, ◌-◌, ◌<◌, ◌≤◌, List, [], ◌∷◌, ◌++◌, length, get_or, take, Some, refl, ap, sym, subst, ◌∙◌, arith, ⊎_elim}
use Rattle.std.specs.Global.{Vec}
use Rattle.std.specs.List.{slice_get}
use Rattle.std.proofs.lemmas.Bool.{cases_lt}
use Rattle.std.proofs.lemmas.List.{take_more}
use Rattle.std.proofs.lemmas.Option.{slice_get-get_or}
use Rattle.place_columns.specs.declared.own.Own.{Own}
use Rattle.turn_links.specs.declared.links.Link.{Link}
use Rattle.turn_links.specs.Links.{AreAllLinks, AreLinks, AreSkipped, IsCovered, IsLastUpto, IsLink, IsNear}

none : Own
none = record { command = 0; place = 0 }

some_at : {X : Type 0} (xs : List X) (i : ℕ) (d : X) → i < length xs → (x : X) × (slice_get xs i ≡ Some x)
some_at xs i d l = (get_or xs i d, slice_get-get_or xs i d l)

same_some : {X : Type 0} (x y : X) → Some x ≡ Some y → x ≡ y
same_some x y e = cc

-- ---- a step back

-- from a later command's event to the ones before those that are none's earlier than it
pub near_skips : (own : List Own) (place near command : ℕ) → IsNear own place near → place < length own → ((o : Own) → slice_get own place ≡ Some o → command < o.command) → AreSkipped own command near (place + 1)
near_skips own place near command is low later k o l m e =
    let p = some_at own place none low in
    let a = later p.0 p.1 in
    let b = is.none k o p.0 l (omega arith) e p.1 in
    omega arith

pub far_skips : (own : List Own) (place far command : ℕ) (p : Own) → IsCovered own far place → 0 < far → slice_get own (far - 1) ≡ Some p → command < p.command → AreSkipped own command far (place + 1)
far_skips own place far command p is some at later k o l m e = let a = is k o p some l (omega arith) e at in omega arith

pub skips_both : (own : List Own) (command a b c : ℕ) → AreSkipped own command a b → AreSkipped own command b c → AreSkipped own command a c
skips_both own command a b c f g k o l m e = ⊎_elim (λ (u : k < b). f k o l u e) (λ (u : b ≤ k). g k o u m e) (cases_lt k b)

pub skips_none : (own : List Own) (command a : ℕ) → AreSkipped own command a a
skips_none own command a k o l m e = absurd (omega arith)

-- ---- the next link

pub near_is : (own : List Own) (place near earlier : ℕ) (p : Own) → slice_get own place ≡ Some p → p.command ≡ earlier + 1 → IsLastUpto own earlier place near → IsNear own place near
near_is own place near earlier p at is last = record {
  within = last.within;
  none = λ k o q l m e f.
      let same : p ≡ q = same_some p q (sym at ∙ f) in
      let z : p.command ≡ q.command = ap (λ (x : Own). x.command) same in
      ⊎_elim
      (λ (u : k < place). let a = last.behind k o l u e in omega arith)
      (λ (u : place ≤ k).
      let w : k ≡ place = omega arith in
      let here : o ≡ q = same_some o q (sym e ∙ ap (slice_get own) w ∙ f) in
      let y : o.command ≡ q.command = ap (λ (x : Own). x.command) here in
      omega arith)
      (cases_lt k place);
  earlier = λ o q s e f.
      let same : p ≡ q = same_some p q (sym at ∙ f) in
      let z : p.command ≡ q.command = ap (λ (x : Own). x.command) same in
      let a = last.upto o s e in
      omega arith;
}

pub near_of_first : (own : List Own) (place : ℕ) (p : Own) → slice_get own place ≡ Some p → p.command ≡ 0 → IsNear own place 0
near_of_first own place p at is = record {
  within = omega arith;
  none = λ k o q l m e f.
      let same : p ≡ q = same_some p q (sym at ∙ f) in
      let z : p.command ≡ q.command = ap (λ (x : Own). x.command) same in
      omega arith;
  earlier = λ o q s e f. absurd (omega arith);
}

pub near_covers : (own : List Own) (place near : ℕ) → place < length own → IsNear own place near → IsCovered own near place
near_covers own place near low is k o p s l m e f =
    let q = some_at own place none low in
    let a = is.none k o q.0 l m e q.1 in
    let b = is.earlier p q.0 s f q.1 in
    omega arith

-- over an event that covers others
pub covers_both : (own : List Own) (far middle place : ℕ) → place < length own → 0 < middle → middle ≤ place → far ≤ middle - 1 → IsCovered own far (middle - 1) → IsCovered own middle place → IsCovered own far place
covers_both own far middle place low some within order before after k o p s l m e f =
    let q = some_at own (middle - 1) none (omega arith) in
    let a = before (middle - 1) q.0 p s order (omega arith) q.1 f in
    ⊎_elim
    (λ (u : k < middle). before k o p s l (omega arith) e f)
    (λ (u : middle ≤ k). let b = after k o q.0 some u m e q.1 in omega arith)
    (cases_lt k middle)

pub covers_nothing : (own : List Own) (place : ℕ) → IsCovered own 0 place
covers_nothing own place k o p s l m e f = absurd (omega arith)

-- ---- one after the other

pub no_links : (own : List Own) → AreLinks own []
no_links own = record { within = omega arith; each = λ n l e. absurd cc }

pub length_push : {X : Type 0} (xs : List X) (x : X) → length (xs ++ x ∷ []) ≡ length xs + 1
length_push [] x = refl
length_push (y ∷ xs) x = let r = length_push xs x in omega arith

pub link_more : (own : List Own) (links : List Link) (place : ℕ) (link : Link) → AreLinks own links → place ≡ length links → place < length own → IsLink own place link → AreLinks own (links ++ link ∷ [])
link_more own links place link are is low more = record {
  within = let s = length_push links link in omega arith;
  each = λ n l e. at (links) n l is e (λ m u f. are.each m u f);
}
  where
    split : (links : List Link) (n : ℕ) (l : Link) → slice_get (links ++ link ∷ []) n ≡ Some l → (n < length links → slice_get links n ≡ Some l) × (length links ≤ n → (n ≡ length links) × (link ≡ l))
    split [] zero l e = (λ u. absurd (omega arith), λ u. (refl, same_some link l e))
    split [] (suc n) l e = absurd cc
    split (x ∷ links) zero l e = (λ u. e, λ u. absurd (omega arith))
    split (x ∷ links) (suc n) l e =
        let r = split links n l e in
        (λ u. r.0 (omega arith), λ u. let v = r.1 (omega arith) in let w = v.0 in (omega arith, v.1))

    at : (links : List Link) (n : ℕ) (l : Link) → place ≡ length links → slice_get (links ++ link ∷ []) n ≡ Some l → ((m : ℕ) (u : Link) → slice_get links m ≡ Some u → IsLink own m u) → IsLink own n l
    at links n l same e before =
        let s = split links n l e in
        ⊎_elim
        (λ (u : n < length links). before n l (s.0 u))
        (λ (u : length links ≤ n).
        let v = s.1 u in
        let w = v.0 in
        let z : place ≡ n = omega arith in
        subst (λ (m : ℕ). IsLink own m l) z (subst (IsLink own place) v.1 more))
        (cases_lt n (length links))

-- ---- those of all sessions

pub all_more : (lists : List (Vec Own)) (links : List (Vec Link)) (n : ℕ) (d : Vec Own) (v : Vec Link) → n < length lists → AreAllLinks (take n lists) links → AreLinks (get_or lists n d).items v.items → length v.items ≡ length (get_or lists n d).items → AreAllLinks (take (n + 1) lists) (links ++ v ∷ [])
all_more lists links n d v low are is size = record {
  size = let a = are.size in let b = length_take n lists (omega arith) in let e = length_take (n + 1) lists (omega arith) in let f = length_push links v in omega arith;
  each = λ s own l e f.
      let a = are.size in let b = length_take n lists (omega arith) in
      let g : slice_get (take n lists ++ get_or lists n d ∷ []) s ≡ Some own = subst (λ (t : List (Vec Own)). slice_get t s ≡ Some own) (take_more lists n d low) e in
      let p = at_push (take n lists) (get_or lists n d) s own g in
      let q = at_push links v s l f in
      ⊎_elim
      (λ (u : s < length links). are.each s own l (p.0 (omega arith)) (q.0 u))
      (λ (u : length links ≤ s).
      let x = p.1 (omega arith) in
      let y = q.1 u in
      subst (λ (o : Vec Own). AreLinks o.items l.items × (length l.items ≡ length o.items)) x (subst (λ (w : Vec Link). AreLinks (get_or lists n d).items w.items × (length w.items ≡ length (get_or lists n d).items)) y (is, size)))
      (cases_lt s (length links));
}
  where
    length_take : {X : Type 0} (n : ℕ) (xs : List X) → n ≤ length xs → length (take n xs) ≡ n
    length_take zero xs l = refl
    length_take (suc n) [] l = absurd (omega arith)
    length_take (suc n) (x ∷ xs) l = let r = length_take n xs (omega arith) in omega arith

    at_push : {X : Type 0} (xs : List X) (x : X) (k : ℕ) (y : X) → slice_get (xs ++ x ∷ []) k ≡ Some y → (k < length xs → slice_get xs k ≡ Some y) × (length xs ≤ k → x ≡ y)
    at_push [] x zero y e = (λ u. absurd (omega arith), λ u. same_some x y e)
    at_push [] x (suc k) y e = absurd cc
    at_push (z ∷ xs) x zero y e = (λ u. e, λ u. absurd (omega arith))
    at_push (z ∷ xs) x (suc k) y e = let r = at_push xs x k y e in (λ u. r.0 (omega arith), λ u. r.1 (omega arith))
