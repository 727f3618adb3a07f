-- The values of a hall that was closed.
use Rattle.std.proofs.Common.{◌≡◌, ℕ, zero, suc, ◌+◌, ◌<◌, ◌≤◌, Bool, true, false, List, [], ◌∷◌, ◌++◌, map, length, get_or, set, take, refl, sym, ◌∙◌, ap, subst, arith, Option, Some, None, slice_get, take_all, take-suc, add-one, get_or-set_same, get_or-set_other}
use Rattle.std.proofs.lemmas.List.{length-map}
use mathlib.Core.List.{map-append}
use mathlib.Core.Option.{some, some-injective, some-ne-none}
use mathlib.Core.Logic.{dite}
use native.Mathlib.Decide.{ℕ_discrete}
use lib.ListN.{get_elem?}
use lib.Seq.{ext_get_or}
use Rattle.atomic_table.specs.Table.{Final, Seen as Viewed}
use Rattle.notes.specs.Lists.{at}
use Rattle.hall.specs.declared.writer.Writer.{Writer}
use Rattle.hall.specs.declared.view.Stage.TheVariants.{Free}
use Rattle.hall.specs.declared.view.View.{View}
use Rattle.hall.specs.declared.view.Held.{Held}
use Rattle.hall.specs.Rule.{Holds, Kept}
use Rattle.hall.proofs.Ends.{closes}

pub some_injective : {V : Type 0} (x y : V) → Some x ≡ Some y → x ≡ y
some_injective {V} x y e = ap (λ (z : Option V). elim z [ None ↦ x | Some v ↦ v ]) e

pub none_not_some : {V : Type 0} (o : Option V) (x : V) → o ≡ None → o ≡ Some x → ⊥
none_not_some {V} o x n s = let P : Option V → Type 0 = λ z. elim z [ None ↦ Unit {0} | Some _ ↦ ⊥ ] in subst P (sym n ∙ s) tt

-- the slot of the cell c came back with a value that stands for the list
pub record Full {S V E : Type 0} (start : S) (stands : S → ℕ → V → List E → Type 0) (v : View S E) (items : List (Held V E)) (c : ℕ) : Type 0 where
  pub held : Held V E
  pub value : V
  pub there : get_elem? items c ≡ some held
  pub filled : held.value ≡ Some value
  pub stood : stands start c value (at v.seen c)

module _ {S V E : Type 0} (start : S) (passes places : ℕ) (session : E → ℕ) (writer : S → ℕ → Writer) (stands : S → ℕ → V → List E → Type 0) (number : S → ℕ → List E → ℕ) (kept : S → List (List E) → Type 0) where
  pub closed_tells : (id : ℕ) (v : View S E) (ws : List ℕ) (items : List (Held V E)) → Final (Viewed (Kept start passes places session writer stands number kept) id v) ws items → v.stage ≡ Free → ((m : ℕ) → m < passes → Holds v m) → length v.seen ≡ places
      → kept start v.seen × ((c : ℕ) → c < length items → Full start stands v items c)
  closed_tells id v ws items f free all wide =
      let s = f.0 in let e = closes start passes places session writer stands number kept id v s f.1 free all in let deep = f.3 in
      let same : v.seen ≡ e.0 = ext_get_or [] v.seen e.0 (wide ∙ sym e.2) (λ c lt. e.4 c (let many = e.2 in omega arith)) in (
        subst (kept start) (sym same) e.1,
        (λ c lt. let h = e.5 c (omega arith) in record { held = h.0; value = h.1; there = f.4 c h.0 h.2; filled = h.3; stood = subst (λ (z : List (List E)). stands start c h.1 (at z c)) (sym same) h.4 }),
      )

rest_of : {A : Type 0} → List A → List A
rest_of [] = []
rest_of (x ∷ xs) = xs

module _ {V E : Type 0} where
  value_inside : (hs : List (Held V E)) (i : ℕ) (h : Held V E) → get_elem? hs i ≡ some h → (i < length (map (λ z. z.value) hs)) × (get_or (map (λ z. z.value) hs) i None ≡ h.value)
  value_inside [] i h e = absurd (some-ne-none h (sym e))
  value_inside (k ∷ hs) zero h e = (omega arith, ap (λ (z : Held V E). z.value) (some-injective k h e))
  value_inside (k ∷ hs) (suc i) h e = let t = value_inside hs i h e in let l = t.0 in (omega arith, t.1)

  pub take_step : (xs : List V) (hs : List (Held V E)) (i : ℕ) (h : Held V E) (x : V) → map Some xs ≡ take i (map (λ z. z.value) hs) → get_elem? hs i ≡ some h → h.value ≡ Some x → map Some (xs ++ x ∷ []) ≡ take (i + 1) (map (λ z. z.value) hs)
  take_step xs hs i h x e is filled =
      let l : List (Option V) = map (λ z. z.value) hs in let t = value_inside hs i h is in
      map-append Some xs (x ∷ []) ∙ ((λ j. e j ++ sym (t.1 ∙ filled) j ∷ []) ∙ (sym (take-suc l i None t.0) ∙ ap (λ z. take z l) (sym (add-one i))))

  pub back_at : (xs : List V) (hs : List (Held V E)) (c : ℕ) (x : V) (h : Held V E) → map Some xs ≡ map (λ z. z.value) hs → slice_get xs c ≡ Some x → get_elem? hs c ≡ some h → h.value ≡ Some x
  unfolding rest_of
  back_at [] hs c x h e g is = absurd (none_not_some (slice_get [] c) x refl g)
  back_at (y ∷ xs) [] c x h e g is = absurd (some-ne-none h (sym is))
  back_at (y ∷ xs) (k ∷ hs) zero x h e g is = ap (λ (z : Held V E). z.value) (sym (some-injective k h is)) ∙ (sym (ap (λ (z : List (Option V)). get_or z 0 None) e) ∙ g)
  back_at (y ∷ xs) (k ∷ hs) (suc c) x h e g is = back_at xs hs c x h (ap rest_of e) g is

pub at_same : {A : Type 0} (l m : List A) (i : ℕ) (a b : A) → m ≡ l → get_elem? m i ≡ some a → get_elem? l i ≡ some b → b ≡ a
at_same l m i a b e p q = some-injective b a (sym q ∙ (ap (λ z. get_elem? z i) (sym e) ∙ p))

pub emptied_more : (f : List Bool) (i : ℕ) → ((k : ℕ) → k < i → get_or f k false ≡ false) → i < length f → (k : ℕ) → k < i + 1 → get_or (set f i false) k false ≡ false
emptied_more f i old inside k lt = dite (ℕ_discrete k i) (λ (e : k ≡ i). let P : ℕ → Type 0 = λ z. get_or (set f i false) z false ≡ false in subst P (sym e) (get_or-set_same f i false false inside))
    (λ ne. get_or-set_other f i k false false ne ∙ old k (omega arith))

pub filled_less : (f : List Bool) (i n : ℕ) → ((k : ℕ) → i ≤ k → k < n → get_or f k false ≡ true) → (k : ℕ) → i + 1 ≤ k → k < n → get_or (set f i false) k false ≡ true
filled_less f i n old k le lt = get_or-set_other f i k false false (λ e. omega arith) ∙ old k (omega arith) lt

get_inside : {V : Type 0} (xs : List V) (c : ℕ) (x : V) → slice_get xs c ≡ Some x → c < length xs
get_inside [] c x e = absurd (none_not_some (slice_get [] c) x refl e)
get_inside (y ∷ xs) zero x e = omega arith
get_inside (y ∷ xs) (suc c) x e = let t = get_inside xs c x e in omega arith

module _ {S V E : Type 0} (start : S) (stands : S → ℕ → V → List E → Type 0) (v : View S E) (l items : List (Held V E)) where
  pub never_none : (i : ℕ) (res : Held V E) → Full start stands v items i → l ≡ items → get_elem? l i ≡ some res → res.value ≡ None → ⊥
  never_none i res full same is empty = none_not_some res.value full.value empty (ap (λ (h : Held V E). h.value) (sym (at_same items l i res full.held same is full.there)) ∙ full.filled)

  pub stand_for : (xs : List V) (n : ℕ) → map Some xs ≡ take n (map (λ h. h.value) l) → l ≡ items → length items ≤ n → ((c : ℕ) → c < length items → Full start stands v items c)
      → (c : ℕ) (x : V) → slice_get xs c ≡ Some x → stands start c x (at v.seen c)
  stand_for xs n back same long full c x is =
      let whole : map Some xs ≡ map (λ (h : Held V E). h.value) items = subst (λ (z : List (Held V E)). map Some xs ≡ take n (map (λ (h : Held V E). h.value) z)) same back ∙ take_all n (map (λ (h : Held V E). h.value) items) (let e = length-map items (λ (h : Held V E). h.value) in omega arith) in
      let count : length xs ≡ length items = sym (length-map xs Some) ∙ (ap length whole ∙ length-map items (λ (h : Held V E). h.value)) in
      let f = full c (let k = get_inside xs c x is in omega arith) in
      let y : f.held.value ≡ Some x = back_at xs items c x f.held whole is f.there in
      subst (λ (z : V). stands start c z (at v.seen c)) (some_injective f.value x (sym f.filled ∙ y)) f.stood
