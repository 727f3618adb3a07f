-- The marks of multixacts along a legal history.
use Rattle.std.proofs.Common.{◌≡◌, ℕ, suc, zero, ◌+◌, ◌-◌, ◌/◌, ◌<◌, ◌≤◌, nat_le, true, false, List, [], ◌∷◌, ◌++◌, length, get_or, map, take, refl, ap, sym, subst, ◌∙◌, arith, inl, ⊎_elim, Some, Bool, Contains, append-nil}
use Rattle.std.specs.List.{AllByRecursion, slice_get}
use Rattle.std.proofs.lemmas.Bool.{cases_lt}
use Rattle.std.proofs.lemmas.Bool.Decides.{nat_tests}
use Rattle.tx_events.specs.declared.event.By.{By}
use Rattle.tx_events.specs.declared.multi.Member.{Member}
use Rattle.tx_events.specs.declared.multi.MultiEvent.{MultiEvent}
use Rattle.tx_events.specs.declared.multi.MultiEvent.TheVariants as multis
use Rattle.tx_events.specs.declared.record.Counters.{Counters}
use Rattle.tx_events.specs.IdLists.{Ascending}
use Rattle.tx_events.specs.Multis.{AreLegalMultis, BaseOffset, IsNextMade, MultiMayCome, first_member, free_offset, multi_by, next_made}
use Rattle.tx_events.proofs.ListSteps.{all_push, all_weaker}
use Rattle.tx_events.proofs.Membership.{contains_has, has_contains, has_left, has_place, has_right}
use Rattle.tx_events.proofs.PlaceLemmas.{last_at, slice_get-grows, slice_get-push}
use Rattle.multi_store.proofs.MadeSteps.{free_push, next_gen, next_quiet}
use Rattle.multi_store.proofs.Numbers.{first_from, next_above}
use Rattle.dump_rules.specs.declared.gens.GenMark.{GenMark}
use Rattle.dump_rules.specs.Gens.{AreGens, IsGenMark, Rise, mark_of, marked}

-- behind these events the marks are those of all multixacts, and each is below what comes next
pub record AreSoFar (base : Counters) (ok : By → Bool) (h : List MultiEvent) (gens : List GenMark) : Type 0 where
  pub are : AreGens ok h gens
  pub below : AllByRecursion (λ (g : GenMark). (g.multi < next_made base.multi h) × (g.end ≤ free_offset base.offset h)) gens

pub none_yet : (base : Counters) (ok : By → Bool) → AreSoFar base ok [] []
none_yet base ok = record { are = record { each = tt; all = λ place multi offset members by e. absurd cc; rise = tt }; below = tt }

rise_push : (gens : List GenMark) (g : GenMark) → Rise gens → AllByRecursion (λ (k : GenMark). (k.multi < g.multi) × (k.end ≤ g.offset)) gens → Rise (gens ++ g ∷ [])
rise_push [] g r a = (tt, tt)
rise_push (k ∷ gens) g r a = (all_push (λ (j : GenMark). (k.multi < j.multi) × (k.end ≤ j.offset)) gens g r.0 a.0, rise_push gens g r.1 a.1)

grown : (ok : By → Bool) (h : List MultiEvent) (e : MultiEvent) (g : GenMark) → IsGenMark ok h g → IsGenMark ok (h ++ e ∷ []) g
grown ok h e g m = record { by = m.by; members = m.members; stands = slice_get-grows h (e ∷ []) (multis.Gen m.by g.multi g.offset m.members) g.place m.stands; behind = m.behind; answered = m.answered }

quiet_more : (base : Counters) (ok : By → Bool) (h : List MultiEvent) (e : MultiEvent) (gens : List GenMark) → next_made base.multi (h ++ e ∷ []) ≡ next_made base.multi h → free_offset base.offset (h ++ e ∷ []) ≡ free_offset base.offset h
    → ((multi offset : ℕ) (members : List Member) (by : By) → e ≡ multis.Gen by multi offset members → ⊥) → AreSoFar base ok h gens → AreSoFar base ok (h ++ e ∷ []) gens
quiet_more base ok h e gens next free never s = record {
  are = record {
    each = all_weaker (IsGenMark ok h) (IsGenMark ok (h ++ e ∷ [])) (λ g m. grown ok h e g m) gens s.are.each;
    all = λ place multi offset members by at. ⊎_elim
        (λ (old : (place < length h) × (slice_get h place ≡ Some (multis.Gen by multi offset members))). s.are.all place multi offset members by old.1)
        (λ (new : (place ≡ length h) × (e ≡ multis.Gen by multi offset members)). absurd (never multi offset members by new.1))
        (slice_get-push h e (multis.Gen by multi offset members) place at);
    rise = s.are.rise;
  };
  below = all_weaker (λ (g : GenMark). (g.multi < next_made base.multi h) × (g.end ≤ free_offset base.offset h)) (λ (g : GenMark). (g.multi < next_made base.multi (h ++ e ∷ [])) × (g.end ≤ free_offset base.offset (h ++ e ∷ [])))
      (λ g b. (rw next b.0, rw free b.1)) gens s.below;
}

abbrev of_event : (By → Bool) → MultiEvent → ℕ → GenMark
of_event ok (multis.Gen b n o ms) p = mark_of p (ok b) n o ms
of_event ok e p = mark_of p (ok (multi_by e)) 0 0 []

mark_same : (ok : By → Bool) (p q : ℕ) (by b : By) (multi n offset o : ℕ) (members ms : List Member) → p ≡ q → multis.Gen by multi offset members ≡ multis.Gen b n o ms → mark_of p (ok by) multi offset members ≡ mark_of q (ok b) n o ms
mark_same ok p q by b multi n offset o members ms same is = ap (of_event ok (multis.Gen by multi offset members)) same ∙ ap (λ (x : MultiEvent). of_event ok x q) is

gen_more : (base : Counters) (ok : By → Bool) (h : List MultiEvent) (by : By) (multi offset : ℕ) (members : List Member) (gens : List GenMark) → IsNextMade base h multi offset members → AreSoFar base ok h gens
    → AreSoFar base ok (h ++ multis.Gen by multi offset members ∷ []) (gens ++ mark_of (length h) (ok by) multi offset members ∷ [])
gen_more base ok h by multi offset members gens may s =
    let e = multis.Gen by multi offset members in
    let g = mark_of (length h) (ok by) multi offset members in
    let free : free_offset base.offset (h ++ e ∷ []) ≡ offset + length members = free_push base.offset h e in
    let next = next_gen base.multi h by multi offset members in
    let over = next_above (next_made base.multi h) in
    let is : multi ≡ next_made base.multi h = may.next in
    let up : next_made base.multi h < next_made base.multi (h ++ e ∷ []) = omega arith in
    let first = first_from (free_offset base.offset h) in
    let begins : offset ≡ first_member (free_offset base.offset h) = may.first in
    let from : free_offset base.offset h ≤ offset = omega arith in
    record {
      are = record {
        each = all_push (IsGenMark ok (h ++ e ∷ [])) gens g (all_weaker (IsGenMark ok h) (IsGenMark ok (h ++ e ∷ [])) (λ k m. grown ok h e k m) gens s.are.each)
            (record { by = by; members = members; stands = last_at h e; behind = refl; answered = refl });
        all = λ place n o ms b at. ⊎_elim
            (λ (old : (place < length h) × (slice_get h place ≡ Some (multis.Gen b n o ms))).
            has_contains (gens ++ g ∷ []) (mark_of place (ok b) n o ms) (has_left gens (g ∷ []) (mark_of place (ok b) n o ms) (contains_has gens (mark_of place (ok b) n o ms) (s.are.all place n o ms b old.1))))
            (λ (new : (place ≡ length h) × (e ≡ multis.Gen b n o ms)).
            has_contains (gens ++ g ∷ []) (mark_of place (ok b) n o ms) (has_right gens (g ∷ []) (mark_of place (ok b) n o ms) (inl (mark_same ok (length h) place by b multi n offset o members ms (sym new.0) new.1))))
            (slice_get-push h e (multis.Gen b n o ms) place at);
        rise = rise_push gens g s.are.rise
            (all_weaker (λ (k : GenMark). (k.multi < next_made base.multi h) × (k.end ≤ free_offset base.offset h)) (λ (k : GenMark). (k.multi < multi) × (k.end ≤ offset)) (λ k b. let x = b.0 in let y = b.1 in (omega arith, omega arith)) gens s.below);
      };
      below = all_push (λ (k : GenMark). (k.multi < next_made base.multi (h ++ e ∷ [])) × (k.end ≤ free_offset base.offset (h ++ e ∷ []))) gens g
          (all_weaker (λ (k : GenMark). (k.multi < next_made base.multi h) × (k.end ≤ free_offset base.offset h)) (λ (k : GenMark). (k.multi < next_made base.multi (h ++ e ∷ [])) × (k.end ≤ free_offset base.offset (h ++ e ∷ [])))
          (λ k b. let x = b.0 in let y = b.1 in (omega arith, omega arith)) gens s.below)
          (omega arith, omega arith);
    }

-- one event more
pub one_more : (base : Counters) (known : BaseOffset) (ok : By → Bool) (h : List MultiEvent) (e : MultiEvent) (gens : List GenMark) → MultiMayCome base known h e → AreSoFar base ok h gens → AreSoFar base ok (h ++ e ∷ []) (gens ++ marked (length h) (ok (multi_by e)) e)
one_more base known ok h (multis.Gen by multi offset members) gens may s = gen_more base ok h by multi offset members gens may s
one_more base known ok h (multis.Hold by multi) gens may s =
    subst (AreSoFar base ok (h ++ multis.Hold by multi ∷ [])) (sym (append-nil gens))
    (quiet_more base ok h (multis.Hold by multi) gens (next_quiet base.multi h (multis.Hold by multi) tt) (free_push base.offset h (multis.Hold by multi)) (λ m o ms b q. absurd cc) s)
one_more base known ok h (multis.Unhold by multi) gens may s =
    subst (AreSoFar base ok (h ++ multis.Unhold by multi ∷ [])) (sym (append-nil gens))
    (quiet_more base ok h (multis.Unhold by multi) gens (next_quiet base.multi h (multis.Unhold by multi) tt) (free_push base.offset h (multis.Unhold by multi)) (λ m o ms b q. absurd cc) s)
one_more base known ok h (multis.Raise by multi offset) gens may s =
    subst (AreSoFar base ok (h ++ multis.Raise by multi offset ∷ [])) (sym (append-nil gens))
    (quiet_more base ok h (multis.Raise by multi offset) gens (next_quiet base.multi h (multis.Raise by multi offset) tt) (free_push base.offset h (multis.Raise by multi offset)) (λ m o ms b q. absurd cc) s)

-- ---- what the marks are searched by

pub within : {X : Type 0} (xs : List X) (i : ℕ) (x : X) → slice_get xs i ≡ Some x → i < length xs
within [] i x f = absurd cc
within (y ∷ xs) zero x f = omega arith
within (y ∷ xs) (suc i) x f = let l = within xs i x f in omega arith

pub got : {X : Type 0} (xs : List X) (i : ℕ) (x d : X) → slice_get xs i ≡ Some x → get_or xs i d ≡ x
got [] i x d f = absurd cc
got (y ∷ xs) zero x d f = cc
got (y ∷ xs) (suc i) x d f = got xs i x d f

le_no : (x n : ℕ) → nat_le x n ≡ false → n < x
le_no x n e = grind (arith, nat_tests)

le_yes : (x n : ℕ) → nat_le x n ≡ true → x ≤ n
le_yes x n e = grind (arith, nat_tests)

yes_le : (x n : ℕ) → x ≤ n → nat_le x n ≡ true
yes_le x n l = grind (arith, nat_tests)

pub ascend : (gens : List GenMark) → Rise gens → Ascending (map (λ (g : GenMark). g.multi) gens)
ascend [] r = tt
ascend (g ∷ gens) r = (each gens r.0, ascend gens r.1)
  where
    each : (ks : List GenMark) → AllByRecursion (λ (k : GenMark). (g.multi < k.multi) × (g.end ≤ k.offset)) ks → AllByRecursion (λ (n : ℕ). g.multi < n) (map (λ (k : GenMark). k.multi) ks)
    each [] a = tt
    each (k ∷ ks) a = (a.0.0, each ks a.1)

pub at_index : {X : Type 0} (P : X → Type 0) (xs : List X) (k : ℕ) (d : X) → AllByRecursion P xs → k < length xs → P (get_or xs k d)
at_index P [] k d a l = absurd (omega arith)
at_index P (x ∷ xs) zero d a l = a.0
at_index P (x ∷ xs) (suc k) d a l = at_index P xs k d a.1 (omega arith)

pub apart : (gens : List GenMark) (i j : ℕ) (d : GenMark) → Rise gens → i < j → j < length gens → ((get_or gens i d).multi < (get_or gens j d).multi) × ((get_or gens i d).end ≤ (get_or gens j d).offset)
apart [] i j d r l m = absurd (omega arith)
apart (g ∷ gens) zero zero d r l m = absurd (omega arith)
apart (g ∷ gens) zero (suc j) d r l m = at_index (λ (k : GenMark). (g.multi < k.multi) × (g.end ≤ k.offset)) gens j d r.0 (omega arith)
apart (g ∷ gens) (suc i) zero d r l m = absurd (omega arith)
apart (g ∷ gens) (suc i) (suc j) d r l m = apart gens i j d r.1 (omega arith) (omega arith)

-- no members end before they begin
pub ends_behind : (ok : By → Bool) (h : List MultiEvent) (gens : List GenMark) → AllByRecursion (IsGenMark ok h) gens → AllByRecursion (λ (g : GenMark). g.offset ≤ g.end) gens
ends_behind ok h gens a = all_weaker (IsGenMark ok h) (λ (g : GenMark). g.offset ≤ g.end) (λ g m. let e = m.behind in omega arith) gens a

pub upto : (gens : List GenMark) (i j : ℕ) (d : GenMark) → Rise gens → AllByRecursion (λ (g : GenMark). g.offset ≤ g.end) gens → i ≤ j → j < length gens
    → ((get_or gens i d).multi ≤ (get_or gens j d).multi) × ((get_or gens i d).offset ≤ (get_or gens j d).offset) × ((get_or gens i d).end ≤ (get_or gens j d).end)
upto gens i j d r ends l m = ⊎_elim
    (λ (u : i < j).
    let a = apart gens i j d r u m in
    let x = a.0 in let y = a.1 in
    let first = at_index (λ (g : GenMark). g.offset ≤ g.end) gens i d ends (omega arith) in
    let last = at_index (λ (g : GenMark). g.offset ≤ g.end) gens j d ends m in
    (omega arith, omega arith, omega arith))
    (λ (u : j ≤ i).
    let same : i ≡ j = omega arith in
    let m1 = ap (λ k. (get_or gens k d).multi) same in
    let m2 = ap (λ k. (get_or gens k d).offset) same in
    let m3 = ap (λ k. (get_or gens k d).end) same in
    (omega arith, omega arith, omega arith))
    (cases_lt i j)

-- the only one that can have a member there is the last that begins at it or before it
pub begun_last : (gens : List GenMark) (o n : ℕ) → Rise gens → AllByRecursion (λ (g : GenMark). g.offset ≤ g.end) gens → n ≤ length gens
    → ((k : ℕ) (d : GenMark) → 0 ≤ k → k < n → nat_le (get_or gens k d).offset o ≡ true) → ((k : ℕ) (d : GenMark) → n ≤ k → k < length gens → nat_le (get_or gens k d).offset o ≡ false)
    → (k : ℕ) (g : GenMark) → slice_get gens k ≡ Some g → g.offset ≤ o → o < g.end → k + 1 ≡ n
begun_last gens o n rise ends bound upto_it behind_it k g at from to =
    let low : k < length gens = within gens k g at in
    let is : get_or gens k g ≡ g = got gens k g g at in
    let offset_is = ap (λ (x : GenMark). x.offset) is in
    let end_is = ap (λ (x : GenMark). x.end) is in
    ⊎_elim
    (λ (u : k < n). ⊎_elim
    (λ (v : k + 1 < n).
    let a = (apart gens k (n - 1) g rise (omega arith) (omega arith)).1 in
    let b = le_yes (get_or gens (n - 1) g).offset o (upto_it (n - 1) g (omega arith) (omega arith)) in
    absurd (omega arith))
    (λ (v : n ≤ k + 1). omega arith)
    (cases_lt (k + 1) n))
    (λ (u : n ≤ k). let b = le_no (get_or gens k g).offset o (behind_it k g u low) in absurd (omega arith))
    (cases_lt k n)

pub parted : (gens : List GenMark) (o : ℕ) → Rise gens → AllByRecursion (λ (g : GenMark). g.offset ≤ g.end) gens → (i j : ℕ) (d : GenMark) → i ≤ j → j < length gens → nat_le (get_or gens j d).offset o ≡ true → nat_le (get_or gens i d).offset o ≡ true
parted gens o rise ends i j d l m e = let u = (upto gens i j d rise ends l m).1 in let b = le_yes (get_or gens j d).offset o e in yes_le (get_or gens i d).offset o (omega arith)

-- ---- the mark of a multixact

pub record MarkAt (gens : List GenMark) (g : GenMark) : Type 0 where
  pub index : ℕ
  pub within : index < length gens
  pub is : (d : GenMark) → get_or gens index d ≡ g
  pub stands : slice_get gens index ≡ Some g

pub index_of : (gens : List GenMark) (g : GenMark) → Contains gens g → MarkAt gens g
index_of gens g c =
    let p = has_place gens g (contains_has gens g c) in
    record { index = p.0; within = within gens p.0 g p.1; is = λ d. got gens p.0 g d p.1; stands = p.1 }

-- no two marks are of one multixact
pub same_index : (gens : List GenMark) (i j : ℕ) (d : GenMark) → Rise gens → i < length gens → j < length gens → (get_or gens i d).multi ≡ (get_or gens j d).multi → i ≡ j
same_index gens i j d r l m e = ⊎_elim
    (λ (u : i < j). let a = (apart gens i j d r u m).0 in absurd (omega arith))
    (λ (u : j ≤ i). ⊎_elim
    (λ (v : j < i). let a = (apart gens j i d r v l).0 in absurd (omega arith))
    (λ (v : i ≤ j). omega arith)
    (cases_lt j i))
    (cases_lt i j)

-- the first and the last of them bound each
pub multis_between : (gens : List GenMark) (d e : GenMark) → Rise gens → AllByRecursion (λ (g : GenMark). g.offset ≤ g.end) gens → (g : GenMark) → Contains gens g
    → ((get_or gens 0 d).multi / 4294967296 ≤ g.multi / 4294967296) × (g.multi / 4294967296 < (get_or gens (length gens - 1) e).multi / 4294967296 + 1)
multis_between gens d e rise ends g c =
    let m = index_of gens g c in
    let l = m.within in
    let first = (upto gens 0 m.index d rise ends (omega arith) l).0 in
    let last = (upto gens m.index (length gens - 1) e rise ends (omega arith) (omega arith)).0 in
    let a = ap (λ (x : GenMark). x.multi) (m.is d) in
    let b = ap (λ (x : GenMark). x.multi) (m.is e) in
    (omega arith, omega arith)

pub offsets_between : (gens : List GenMark) (d e : GenMark) → Rise gens → AllByRecursion (λ (g : GenMark). g.offset ≤ g.end) gens → (g : GenMark) (o : ℕ) → Contains gens g → g.offset ≤ o → o < g.end
    → ((get_or gens 0 d).offset / 4294967296 ≤ o / 4294967296) × (o / 4294967296 < (get_or gens (length gens - 1) e).end / 4294967296 + 1)
offsets_between gens d e rise ends g o c from to =
    let m = index_of gens g c in
    let l = m.within in
    let first = (upto gens 0 m.index d rise ends (omega arith) l).1 in
    let last = (upto gens m.index (length gens - 1) e rise ends (omega arith) (omega arith)).2 in
    let a = ap (λ (x : GenMark). x.offset) (m.is d) in
    let b = ap (λ (x : GenMark). x.end) (m.is e) in
    (omega arith, omega arith)

-- what may come next in a legal history
pub step_legal : (base : Counters) (known : BaseOffset) (h : List MultiEvent) (n : ℕ) (d : MultiEvent) → AreLegalMultis base known h → n < length h → MultiMayCome base known (take n h) (get_or h n d)
step_legal base known h n d legal l = legal n (get_or h n d) (read h n d l)
  where
    read : (xs : List MultiEvent) (k : ℕ) (e : MultiEvent) → k < length xs → slice_get xs k ≡ Some (get_or xs k e)
    read [] k e l = absurd (omega arith)
    read (x ∷ xs) zero e l = refl
    read (x ∷ xs) (suc k) e l = read xs k e (omega arith)

-- whether the command of the event at this place was answered so, by a list over all events
pub ok_at : (ok : By → Bool) (all h : List MultiEvent) (n : ℕ) (d : MultiEvent) (b : Bool) → h ≡ take (length h) all → n < length h → get_or (map (λ (e : MultiEvent). ok (multi_by e)) all) n b ≡ ok (multi_by (get_or h n d))
ok_at ok all h n d b is l = whole all n (within_all all h n is l) ∙ ap (λ (e : MultiEvent). ok (multi_by e)) (sym (ap (λ (t : List MultiEvent). get_or t n d) is ∙ front all n (length h) l))
  where
    whole : (xs : List MultiEvent) (k : ℕ) → k < length xs → get_or (map (λ (e : MultiEvent). ok (multi_by e)) xs) k b ≡ ok (multi_by (get_or xs k d))
    whole [] k l = absurd (omega arith)
    whole (x ∷ xs) zero l = refl
    whole (x ∷ xs) (suc k) l = whole xs k (omega arith)

    front : (xs : List MultiEvent) (k m : ℕ) → k < m → get_or (take m xs) k d ≡ get_or xs k d
    front xs k zero l = absurd (omega arith)
    front [] k (suc m) l = refl
    front (x ∷ xs) zero (suc m) l = refl
    front (x ∷ xs) (suc k) (suc m) l = front xs k m (omega arith)

    within_all : (xs ys : List MultiEvent) (k : ℕ) → ys ≡ take (length ys) xs → k < length ys → k < length xs
    within_all xs ys k e l = let s = ap length e in let t = most xs (length ys) in omega arith
      where
        most : (xs : List MultiEvent) (m : ℕ) → length (take m xs) ≤ length xs
        most xs zero = omega arith
        most [] (suc m) = omega arith
        most (x ∷ xs) (suc m) = let r = most xs m in omega arith

pub oks_reach : (ok : By → Bool) (all h : List MultiEvent) → h ≡ take (length h) all → length h ≤ length (map (λ (e : MultiEvent). ok (multi_by e)) all)
oks_reach ok all h is = let a = ap length is in let b = most all (length h) in let c = same all in omega arith
  where
    most : (xs : List MultiEvent) (m : ℕ) → length (take m xs) ≤ length xs
    most xs zero = omega arith
    most [] (suc m) = omega arith
    most (x ∷ xs) (suc m) = let r = most xs m in omega arith

    same : (xs : List MultiEvent) → length (map (λ (e : MultiEvent). ok (multi_by e)) xs) ≡ length xs
    same [] = refl
    same (x ∷ xs) = ap suc (same xs)
