-- The snapshots at a command's places.
use Rattle.std.proofs.Common.{◌≡◌, ℕ, suc, zero, ◌+◌, ◌-◌, ◌<◌, ◌≤◌, ◌↔◌, List, [], ◌∷◌, ◌++◌, Option, Some, None, Bool, true, false, cond, ◌==◌, length, get_or, map, take, inl, inr, refl, ap, sym, subst, ◌∙◌, arith, ⊎_elim}
use Rattle.std.specs.Global.{Vec}
use Rattle.std.specs.List.{AllByRecursion, Contains, HoldsAt, cons_option, filter_map, slice_get}
use Rattle.std.specs.Option.{is_some, option_map}
use Rattle.std.proofs.Math.ListN.{get_or-append}
use Rattle.std.proofs.Math.Seq.{get_or-append_seam}
use Rattle.std.proofs.lemmas.Bool.{cases_lt}
use Rattle.std.proofs.lemmas.List.{take_more}
use Rattle.std.proofs.lemmas.List.Elements.{filter_map-append}
use Rattle.std.proofs.lemmas.Option.{same_Some, slice_get-map, slice_get_within}
use Rattle.tx_events.specs.declared.event.By.{By}
use Rattle.tx_events.specs.declared.event.Event.{Event}
use Rattle.tx_events.specs.declared.event.Event.TheVariants as events
use Rattle.tx_events.specs.declared.snapshot.SnapData.{SnapData}
use Rattle.tx_events.specs.Events.{by_of}
use Rattle.tx_events.specs.IdLists.{Ascending}
use Rattle.tx_events.specs.Snapshots.{snapshot_data, snapshot_xmax}
use Rattle.tx_events.proofs.Membership.{Has, all_at, contains_has, has_contains, has_filter_map, has_place, place_has}
use Rattle.history_places.specs.declared.snaps.SnapMark.{SnapMark}
use Rattle.history_places.specs.SnapMarks.{AreSnapMarks, IsMarkOf, IsSnapMark}
use Rattle.place_columns.specs.Lined.{places_from, places_of}
use Rattle.report_law.specs.Kinds.{IsSnapAt}
use Rattle.multi_rules.specs.declared.taken.Taken.{Taken}
use Rattle.multi_rules.specs.Snapped.{AreNoneTaken, AreTaken, taken_at, taken_here, taken_in}

-- ---- one place more

pub taken_more : (snaps : List (Option SnapMark)) (places : List ℕ) (n : ℕ) → n < length places → filter_map (taken_at snaps) (take (n + 1) places) ≡ filter_map (taken_at snaps) (take n places) ++ cons_option (taken_at snaps (get_or places n 0)) []
taken_more snaps places n l =
    ap (λ (t : List ℕ). filter_map (taken_at snaps) t) (take_more places n 0 l) ∙ filter_map-append (taken_at snaps) (take n places) (get_or places n 0 ∷ [])

pub none_here : (o : Option Taken) → ((t : Taken) → o ≡ Some t → ⊥) → cons_option o [] ≡ []
none_here None never = refl
none_here (Some t) never = absurd (never t refl)

pub no_one : (o : Option Taken) → false ≡ is_some o → cons_option o [] ≡ []
no_one None e = refl
no_one (Some t) e = absurd cc

-- ---- what stands at a place

record IsMarked (snaps : List (Option SnapMark)) (p : ℕ) (t : Taken) : Type 0 where
  mark : SnapMark
  stands : slice_get snaps p ≡ Some (Some mark)
  is : t ≡ record { place = p; xmax = mark.xmax }

marked : (snaps : List (Option SnapMark)) (p : ℕ) (t : Taken) → taken_at snaps p ≡ Some t → IsMarked snaps p t
marked snaps p t e = by_case (slice_get snaps p) refl e
  where
    by_case : (o : Option (Option SnapMark)) → slice_get snaps p ≡ o → taken_here p o ≡ Some t → IsMarked snaps p t
    by_case None at e = absurd cc
    by_case (Some None) at e = absurd cc
    by_case (Some (Some mark)) at e = let same : record { place = p; xmax = mark.xmax } ≡ t = cc in record { mark = mark; stands = at; is = sym same }

taken_mark : (snaps : List (Option SnapMark)) (p : ℕ) (mark : SnapMark) → slice_get snaps p ≡ Some (Some mark) → taken_at snaps p ≡ Some (record { place = p; xmax = mark.xmax })
taken_mark snaps p mark at = ap (taken_here p) at

record Marks (first : ℕ) (before : List Event) (told : Option SnapData) (e : Event) (m : SnapMark) : Type 0 where
  name : List ℕ
  is : e ≡ events.Snap name (by_of e)
  mark : IsMarkOf (snapshot_data first before) told m

marks : (first : ℕ) (before : List Event) (told : Option SnapData) (e : Event) (m : SnapMark) → IsSnapMark first before told e (Some m) → Marks first before told e m
marks first before told (events.Snap name by) m i = record { name = name; is = refl; mark = i }
marks first before told (events.Id by x) m i = absurd i
marks first before told (events.Sub by under x) m i = absurd i
marks first before told (events.Undo by x) m i = absurd i
marks first before told (events.Commit by x) m i = absurd i
marks first before told (events.Abort by x) m i = absurd i
marks first before told (events.SnapDrop name by) m i = absurd i
marks first before told (events.Oldest by oldest) m i = absurd i
marks first before told (events.Ask by x) m i = absurd i

-- a mark's event is a snapshot of the command that it is of
snap_here : (first : ℕ) (h : List Event) (told : Option SnapData) (by : By) (p : ℕ) (e : Event) (m : SnapMark) → slice_get h p ≡ Some e → by_of e ≡ by → Marks first (take p h) told e m → IsSnapAt h by p
snap_here first h told by p e m at its s = (s.name, at ∙ ap (λ (x : Event). Some x) (s.is ∙ ap (λ (b : By). events.Snap s.name b) its))

record Marked (first : ℕ) (before : List Event) (told : Option SnapData) (o : Option SnapMark) : Type 0 where
  mark : SnapMark
  is : o ≡ Some mark
  so : IsMarkOf (snapshot_data first before) told mark

of_snap : (first : ℕ) (before : List Event) (told : Option SnapData) (by : By) (name : List ℕ) (o : Option SnapMark) → IsSnapMark first before told (events.Snap name by) o → Marked first before told o
of_snap first before told by name (Some m) i = record { mark = m; is = refl; so = i }
of_snap first before told by name None i = absurd i

some_at : {X : Type 0} (xs : List X) (i : ℕ) → i < length xs → (x : X) × (slice_get xs i ≡ Some x)
some_at [] i l = absurd (omega arith)
some_at (y ∷ xs) zero l = (y, refl)
some_at (y ∷ xs) (suc i) l = some_at xs i (omega arith)

in_front : {X : Type 0} (n : ℕ) (xs : List X) (p : ℕ) (x : X) → slice_get (take n xs) p ≡ Some x → slice_get xs p ≡ Some x
in_front zero xs p x e = absurd cc
in_front (suc n) [] p x e = absurd cc
in_front (suc n) (y ∷ xs) zero x e = e
in_front (suc n) (y ∷ xs) (suc p) x e = in_front n xs p x e

-- ---- places in order give snapshots in order

later : (snaps : List (Option SnapMark)) (least : ℕ) (places : List ℕ) (j : ℕ) (t : Taken) → AllByRecursion (λ y. least < y) places → slice_get (filter_map (taken_at snaps) places) j ≡ Some t → least ≤ t.place
later snaps least places j t above e =
    let m = has_filter_map (taken_at snaps) places t (place_has (filter_map (taken_at snaps) places) j t e) in
    let a : least < m.0 = all_at (λ y. least < y) places m.0 above m.1 in
    let k = marked snaps m.0 t m.2 in
    let same : t.place ≡ m.0 = ap (λ (x : Taken). x.place) k.is in
    omega arith

pub in_order : (snaps : List (Option SnapMark)) (places : List ℕ) → Ascending places → (i j : ℕ) (s t : Taken) → i ≤ j → slice_get (filter_map (taken_at snaps) places) i ≡ Some s → slice_get (filter_map (taken_at snaps) places) j ≡ Some t → s.place ≤ t.place
in_order snaps [] up i j s t l e f = absurd cc
in_order snaps (p ∷ places) up i j s t l e f = one (λ i j l e f. in_order snaps places up.1 i j s t l e f) (taken_at snaps p) refl i j l e f
  where
    one : ((i j : ℕ) → i ≤ j → slice_get (filter_map (taken_at snaps) places) i ≡ Some s → slice_get (filter_map (taken_at snaps) places) j ≡ Some t → s.place ≤ t.place)
        → (o : Option Taken) → taken_at snaps p ≡ o → (i j : ℕ) → i ≤ j → slice_get (cons_option o (filter_map (taken_at snaps) places)) i ≡ Some s → slice_get (cons_option o (filter_map (taken_at snaps) places)) j ≡ Some t → s.place ≤ t.place
    one rest None is i j l e f = rest i j l e f
    one rest (Some q) is zero zero l e f = let same : s ≡ t = cc in let z : s.place ≡ t.place = ap (λ (x : Taken). x.place) same in omega arith
    one rest (Some q) is zero (suc j) l e f =
        let k = marked snaps p q is in
        let same : q ≡ s = cc in
        let here : s.place ≡ p = ap (λ (x : Taken). x.place) (sym same ∙ k.is) in
        let r = later snaps p places j t up.0 f in
        omega arith
    one rest (Some q) is (suc i) zero l e f = absurd (omega arith)
    one rest (Some q) is (suc i) (suc j) l e f = rest i j (omega arith) e f

-- those of a number ascend
above : (i n m : ℕ) (ks : List ℕ) → m ≤ n → AllByRecursion (λ y. m ≤ y) (places_from i n ks)
above i n m [] l = tt
above i n m (k ∷ ks) l = one (k == i) (above i (n + 1) m ks (omega arith))
  where
    one : (b : Bool) → AllByRecursion (λ y. m ≤ y) (places_from i (n + 1) ks) → AllByRecursion (λ y. m ≤ y) (cond b (n ∷ places_from i (n + 1) ks) (places_from i (n + 1) ks))
    one true a = (l, a)
    one false a = a

strictly : (n : ℕ) (xs : List ℕ) → AllByRecursion (λ y. n + 1 ≤ y) xs → AllByRecursion (λ y. n < y) xs
strictly n [] a = tt
strictly n (x ∷ xs) a = (let l : n + 1 ≤ x = a.0 in omega arith, strictly n xs a.1)

pub places_ascend : (i n : ℕ) (ks : List ℕ) → Ascending (places_from i n ks)
places_ascend i n [] = tt
places_ascend i n (k ∷ ks) = one (k == i) (places_ascend i (n + 1) ks)
  where
    one : (b : Bool) → Ascending (places_from i (n + 1) ks) → Ascending (cond b (n ∷ places_from i (n + 1) ks) (places_from i (n + 1) ks))
    one true a = (strictly n (places_from i (n + 1) ks) (above i (n + 1) (n + 1) ks (omega arith)), a)
    one false a = a

-- ---- so these are the command's

filter_map_has : {A B : Type 0} (f : A → Option B) (xs : List A) (x : A) (y : B) → Has xs x → f x ≡ Some y → Has (filter_map f xs) y
filter_map_has f [] x y k e = absurd k
filter_map_has {A} {B} f (z ∷ xs) x y k e = ⊎_elim
    (λ (same : z ≡ x). subst (λ (o : Option B). Has (cons_option o (filter_map f xs)) y) (sym (ap f same ∙ e)) (inl refl))
    (λ (rest : Has xs x). put (f z) (filter_map_has f xs x y rest e))
    k
  where
    put : (o : Option B) → Has (filter_map f xs) y → Has (cons_option o (filter_map f xs)) y
    put None h = h
    put (Some w) h = inr h

by_at : (h : List Event) (e : Event) (p : ℕ) → slice_get h p ≡ Some e → slice_get (map by_of h) p ≡ Some (by_of e)
by_at h e p at = slice_get-map by_of h p ∙ ap (option_map by_of) at

-- the snapshot at one of the command's places
each_place : (first : ℕ) (h all : List Event) (told : By → Option SnapData) (snaps : List (Option SnapMark)) (by : By) → h ≡ take (length h) all → AreSnapMarks first h told snaps → (p : ℕ) (t : Taken) → slice_get (map by_of all) p ≡ Some by → taken_at snaps p ≡ Some t
    → IsSnapAt h by p × (t.place ≡ p) × (t.xmax ≡ snapshot_xmax first (take p h))
each_place first h all told snaps by front are p t mine e =
    let k = marked snaps p t e in
    let low : p < length snaps = slice_get_within snaps p (Some k.mark) k.stands in
    let size = are.size in
    let v = some_at h p (omega arith) in
    let s = marks first (take p h) (told (by_of v.0)) v.0 k.mark (are.each p v.0 (Some k.mark) v.1 k.stands) in
    let there : slice_get all p ≡ Some v.0 = in_front (length h) all p v.0 (subst (λ (f : List Event). slice_get f p ≡ Some v.0) front v.1) in
    let its : by_of v.0 ≡ by = same_Some (by_of v.0) by (sym (by_at all v.0 p there) ∙ mine) in
    (snap_here first h (told (by_of v.0)) by p v.0 k.mark v.1 its s, ap (λ (x : Taken). x.place) k.is, ap (λ (x : Taken). x.xmax) k.is ∙ s.mark.xmax)

pub taken_are : (first : ℕ) (h all : List Event) (told : By → Option SnapData) (snaps : List (Option SnapMark)) (by : By) (places : List ℕ) → h ≡ take (length h) all → AreSnapMarks first h told snaps → Ascending places
    → ((p : ℕ) → (slice_get (map by_of all) p ≡ Some by) ↔ Contains places p) → AreTaken first h by (filter_map (taken_at snaps) places)
taken_are first h all told snaps by places front are up own = record {
  rising = in_order snaps places up;
  each = λ i t e.
      let m = has_filter_map (taken_at snaps) places t (place_has (filter_map (taken_at snaps) places) i t e) in
      let r = each_place first h all told snaps by front are m.0 t ((own m.0).1 (has_contains places m.0 m.1)) m.2 in
      (subst (IsSnapAt h by) (sym r.1) r.0, r.2 ∙ ap (λ n. snapshot_xmax first (take n h)) (sym r.1));
  all = λ p s.
      let low : p < length h = slice_get_within h p (events.Snap s.0 by) s.1 in
      let size = are.size in
      let o = some_at snaps p (omega arith) in
      let m = of_snap first (take p h) (told by) by s.0 o.0 (are.each p (events.Snap s.0 by) o.0 s.1 o.1) in
      let at : slice_get snaps p ≡ Some (Some m.mark) = o.1 ∙ ap Some m.is in
      let there : slice_get all p ≡ Some (events.Snap s.0 by) = in_front (length h) all p (events.Snap s.0 by) (subst (λ (f : List Event). slice_get f p ≡ Some (events.Snap s.0 by)) front s.1) in
      let mine = (own p).0 (by_at all (events.Snap s.0 by) p there) in
      let t : Taken = record { place = p; xmax = m.mark.xmax } in
      let held = filter_map_has (taken_at snaps) places p t (contains_has places p mine) (taken_mark snaps p m.mark at) in
      let q = has_place (filter_map (taken_at snaps) places) t held in
      (q.0, t, q.1, refl);
}

-- ---- the lists

abbrev pub AreListed : List (Option SnapMark) → List ℕ → List (Vec Taken) → ℕ → Type 0
AreListed snaps numbers lists n = (k : ℕ) → k < n → HoldsAt (λ (v : Vec Taken). v.items ≡ filter_map (taken_at snaps) (places_of k numbers)) lists k

pub listed_more : (snaps : List (Option SnapMark)) (numbers : List ℕ) (lists : List (Vec Taken)) (n : ℕ) (v : Vec Taken) → length lists ≡ n → AreListed snaps numbers lists n → v.items ≡ filter_map (taken_at snaps) (places_of n numbers) → AreListed snaps numbers (lists ++ v ∷ []) (n + 1)
listed_more snaps numbers lists n v size before is k l d = ⊎_elim
    (λ (u : k < n). ap (λ (w : Vec Taken). w.items) (get_or-append lists (v ∷ []) d k (omega arith)) ∙ before k u d)
    (λ (u : n ≤ k).
    let at : k ≡ length lists = omega arith in
    let here : n ≡ k = omega arith in
    ap (λ (j : ℕ). (get_or (lists ++ v ∷ []) j d).items) at ∙ ap (λ (w : Vec Taken). w.items) (get_or-append_seam lists v [] d) ∙ is ∙ ap (λ (j : ℕ). filter_map (taken_at snaps) (places_of j numbers)) here)
    (cases_lt k n)

pub in_lists : (lists : List (Vec Taken)) (i : ℕ) (v : Vec Taken) → i < length lists → v ≡ get_or lists i v → v.items ≡ taken_in lists i
in_lists [] i v l is = absurd (omega arith)
in_lists (x ∷ lists) zero v l is = ap (λ (w : Vec Taken). w.items) is
in_lists (x ∷ lists) (suc i) v l is = in_lists lists i v (omega arith) is

pub past_lists : (lists : List (Vec Taken)) (i : ℕ) → length lists ≤ i → [] ≡ taken_in lists i
past_lists [] i l = refl
past_lists (x ∷ lists) zero l = absurd (omega arith)
past_lists (x ∷ lists) (suc i) l = past_lists lists i (omega arith)

listed_in : (snaps : List (Option SnapMark)) (numbers : List ℕ) (lists : List (Vec Taken)) (n i : ℕ) → length lists ≡ n → AreListed snaps numbers lists n → i < n → taken_in lists i ≡ filter_map (taken_at snaps) (places_of i numbers)
listed_in snaps numbers lists n i size listed l =
    let v = some_at lists i (omega arith) in
    let same : get_or lists i v.0 ≡ v.0 = got lists i v.0 v.1 in
    sym (in_lists lists i v.0 (omega arith) (sym same)) ∙ ap (λ (w : Vec Taken). w.items) (sym same) ∙ listed i l v.0
  where
    got : (xs : List (Vec Taken)) (i : ℕ) (x : Vec Taken) → slice_get xs i ≡ Some x → get_or xs i x ≡ x
    got [] i x e = absurd cc
    got (y ∷ xs) zero x e = let same : y ≡ x = cc in same
    got (y ∷ xs) (suc i) x e = got xs i x e

-- also past the last line that took one
pub all_listed : (snaps : List (Option SnapMark)) (numbers : List ℕ) (lists : List (Vec Taken)) (n count i : ℕ) → length lists ≡ n → AreListed snaps numbers lists n → AreNoneTaken snaps numbers n count → i < count
    → taken_in lists i ≡ filter_map (taken_at snaps) (places_of i numbers)
all_listed snaps numbers lists n count i size listed none l = ⊎_elim
    (λ (u : i < n). listed_in snaps numbers lists n i size listed u)
    (λ (u : n ≤ i). sym (past_lists lists i (omega arith)) ∙ sym (none i u l))
    (cases_lt i n)

pub none_more : (snaps : List (Option SnapMark)) (numbers : List ℕ) (n count : ℕ) → 0 < n → filter_map (taken_at snaps) (places_of (n - 1) numbers) ≡ [] → AreNoneTaken snaps numbers n count → AreNoneTaken snaps numbers (n - 1) count
none_more snaps numbers n count some here none k l m = ⊎_elim
    (λ (u : k < n). let same : n - 1 ≡ k = omega arith in subst (λ i. filter_map (taken_at snaps) (places_of i numbers) ≡ []) same here)
    (λ (u : n ≤ k). none k u m)
    (cases_lt k n)
