-- Lists of buffers, of which the first is the one used last.
use Rattle.std.proofs.Common.{◌≡◌, ◌≢◌, ◌⊎◌, inl, inr, ⊎_elim, ℕ, zero, suc, ◌+◌, ◌<◌, ◌≤◌, Bool, true, false, cond, List, [], ◌∷◌, ◌++◌, length, get_or, take, drop, remove, slice_set, Option, Some, None, Result, Ok, Err, OnOk, OnErr, refl, sym, ◌∙◌, ap, add-one, drop-cons, slice_index, subst, arith}
use Rattle.std.proofs.lemmas.Bool.{ne_eqb, eq-eqb, eqb-true}
use Rattle.std.proofs.Math.Seq.{take-append_seam}
use Rattle.disk_core.specs.declared.log_disk.Failed.{Failed}
use Rattle.disk_core.specs.Pages.{Pages, page_bytes}
use Rattle.slru_bank.specs.declared.buffer.Buffer.{Buffer}
use Rattle.slru_bank.specs.Bank.{holds, buffered, map_of, Distinct, Agrees, AllAgree, FirstHolds, FirstIsClean, StaysUp, WroteHeld, Rearranged, PutsPage, FirstMayHold, AllClean, CleanUpTo, AllEmpty}
use Rattle.slru_bank.specs.Crash.{IsMixture, byte_at}

pub same_order : (xs : List Buffer) → Distinct xs → Rearranged xs xs
same_order xs d = record { long = omega arith; has = λ q. refl; map = λ pages q. refl; distinct = d; agree = λ pages a. a }

pub holds_same : (o : Option ℕ) (q : ℕ) → holds o q ≡ true → o ≡ Some q
holds_same None q e = cc
holds_same (Some p) q e = ap Some (eqb-true p q e)

pub holds_it : (o : Option ℕ) (p : ℕ) → o ≡ Some p → holds o p ≡ true
holds_it None p e = cc
holds_it (Some r) p e = eq-eqb r p cc

-- two buffers, and what one has the other hasn't
apart : (x b : Option ℕ) (q : ℕ) → ((p : ℕ) → b ≡ Some p → holds x p ≡ false) → holds b q ≡ true → holds x q ≡ false
apart x b q d e = d q (holds_same b q e)

cond_other : (r s t : Bool) → cond r true (cond s true t) ≡ cond s true (cond r true t)
cond_other true true t = refl
cond_other true false t = refl
cond_other false true t = refl
cond_other false false t = refl

pub or_false : (r s : Bool) → cond r true s ≡ false → (r ≡ false) × (s ≡ false)
or_false true s e = absurd cc
or_false false s e = (refl, e)

-- either of two tests, not both
swap_cond : (r s : Bool) (x y z : List ℕ) → (r ≡ true → s ≡ false) → cond r x (cond s y z) ≡ cond s y (cond r x z)
swap_cond true true x y z never = let e : true ≡ false = never refl in absurd cc
swap_cond true false x y z never = refl
swap_cond false true x y z never = refl
swap_cond false false x y z never = refl

pub two_ways : (r : Bool) → (r ≡ true) ⊎ (r ≡ false)
two_ways true = inl refl
two_ways false = inr refl

not_both : (b x : Option ℕ) (ys : List Buffer) (q : ℕ) → ((p : ℕ) → b ≡ Some p → cond (holds x p) true (buffered ys p) ≡ false) → holds x q ≡ true → holds b q ≡ false
not_both b x ys q d e =
    ⊎_elim (λ (h : holds b q ≡ true). let never : holds x q ≡ false = (or_false (holds x q) (buffered ys q) (d q (holds_same b q h))).0 in absurd cc) (λ (h : holds b q ≡ false). h) (two_ways (holds b q))

swapped : (b x : Buffer) (ys : List Buffer) → Distinct (b ∷ x ∷ ys) → Rearranged (b ∷ x ∷ ys) (x ∷ b ∷ ys)
swapped b x ys d = record {
  long = omega arith;
  has = λ q. cond_other (holds x.page q) (holds b.page q) (buffered ys q);
  map = λ pages q. swap_cond (holds x.page q) (holds b.page q) x.bytes.value b.bytes.value (map_of pages ys q) (not_both b.page x.page ys q d.0);
  distinct = (λ p e. let h = not_both b.page x.page ys p d.0 (holds_it x.page p e) in let k = d.1.0 p e in rw (h, k) refl, (λ p e. (or_false (holds x.page p) (buffered ys p) (d.0 p e)).1, d.1.1));
  agree = λ pages a. (a.1.0, (a.0, a.1.1));
}

behind : (b : Buffer) (xs ys : List Buffer) → Distinct (b ∷ xs) → Rearranged xs ys → Rearranged (b ∷ xs) (b ∷ ys)
behind b xs ys d r = record {
  long = let l = r.long in omega (arith, l);
  has = λ q. ap (cond (holds b.page q) true) (r.has q);
  map = λ pages q. ap (cond (holds b.page q) b.bytes.value) (r.map pages q);
  distinct = (λ p e. r.has p ∙ d.0 p e, r.distinct);
  agree = λ pages a. (a.0, r.agree pages a.1);
}

pub again : (xs ys zs : List Buffer) → Rearranged xs ys → Rearranged ys zs → Rearranged xs zs
again xs ys zs r s = record {
  long = let l = r.long in let m = s.long in omega (arith, l, m);
  has = λ q. s.has q ∙ r.has q;
  map = λ pages q. s.map pages q ∙ r.map pages q;
  distinct = s.distinct;
  agree = λ pages a. s.agree pages (r.agree pages a);
}

-- a buffer is taken to the front
pub to_front : (xs : List Buffer) (i : ℕ) (d : Buffer) → i < length xs → Distinct xs → Rearranged xs (get_or xs i d ∷ remove xs i)
to_front [] i d within apart = absurd (omega arith)
to_front (b ∷ xs) zero d within apart = same_order (b ∷ xs) apart
to_front (b ∷ xs) (suc i) d within apart =
    let x : Buffer = get_or xs i d in
    let first = to_front xs i d (omega arith) apart.1 in
    let second = behind b xs (x ∷ remove xs i) apart first in
    again (b ∷ xs) (b ∷ x ∷ remove xs i) (x ∷ b ∷ remove xs i) second (swapped b x (remove xs i) second.distinct)

-- one more buffer behind the others, without a page
pub grown : (xs : List Buffer) (c : Buffer) → Distinct xs → c.page ≡ None → Rearranged xs (xs ++ c ∷ [])
grown [] c d none = record {
  long = omega arith;
  has = λ q. ap (λ (o : Option ℕ). cond (holds o q) true false) none;
  map = λ pages q. ap (λ (o : Option ℕ). cond (holds o q) c.bytes.value (page_bytes (pages q))) none;
  distinct = (λ p e. refl, tt);
  agree = λ pages a. (λ clean p e. absurd cc, tt);
}
grown (x ∷ xs) c d none = behind x xs (xs ++ c ∷ []) d (grown xs c d.1 none)

-- the same, if there was memory for it
pub grown_if : (added : Bool) (xs ys : List Buffer) (c : Buffer) → Distinct xs → c.page ≡ None → ys ≡ cond added (xs ++ c ∷ []) xs → Rearranged xs ys
grown_if true xs ys c d none is = subst (λ (l : List Buffer). Rearranged xs l) (sym is) (grown xs c d none)
grown_if false xs ys c d none is = subst (λ (l : List Buffer). Rearranged xs l) (sym is) (same_order xs d)

-- as long as the first
pub some_again : (xs ys : List Buffer) → 1 ≤ length xs → Rearranged xs ys → 1 ≤ length ys
some_again xs ys some r = let l = r.long in omega (arith, some, l)

-- ---- the first buffer is written, given up, and filled

found : (r s : Bool) → s ≡ true → cond r true s ≡ true
found true s e = refl
found false s e = e

map-other_pages : (old new : Pages) (bs : List Buffer) (q : ℕ) → new q ≡ old q → map_of new bs q ≡ map_of old bs q
map-other_pages old new [] q e = ap page_bytes e
map-other_pages old new (b ∷ bs) q e = ap (cond (holds b.page q) b.bytes.value) (map-other_pages old new bs q e)

agree-other_pages : (old new : Pages) (bs : List Buffer) → ((q : ℕ) → buffered bs q ≡ true → new q ≡ old q) → AllAgree old bs → AllAgree new bs
agree-other_pages old new [] same a = tt
agree-other_pages old new (b ∷ bs) same a =
    (λ clean p e. a.0 clean p e ∙ ap page_bytes (sym (same p (rw (holds_it b.page p e) refl))), agree-other_pages old new bs (λ q h. same q (found (holds b.page q) (buffered bs q) h)) a.1)

other_than : (b : Buffer) (bs : List Buffer) (q : ℕ) → Distinct (b ∷ bs) → buffered bs q ≡ true → holds b.page q ≡ false
other_than b bs q apart has =
    ⊎_elim (λ (h : holds b.page q ≡ true). let lacks : buffered bs q ≡ false = apart.0 q (holds_same b.page q h) in absurd cc) (λ (h : holds b.page q ≡ false). h) (two_ways (holds b.page q))

pub cond_left : (r : Bool) (x y z : List ℕ) → (r ≡ false → y ≡ z) → cond r x y ≡ cond r x z
cond_left true x y z e = refl
cond_left false x y z e = e refl

-- the first was written: the disk may have changed at its page
pub written : (old new : Pages) (b c : Buffer) (bs : List Buffer) → Distinct (b ∷ bs) → AllAgree old (b ∷ bs)
    → c.page ≡ b.page → c.bytes.value ≡ b.bytes.value → ((q : ℕ) → holds b.page q ≡ false → new q ≡ old q) → Agrees new c → StaysUp old new (b ∷ bs) (c ∷ bs)
written old new b c bs apart agree same_page same_bytes others agrees = record {
  map = λ q. rw (same_page, same_bytes) (cond_left (holds b.page q) b.bytes.value (map_of new bs q) (map_of old bs q) (λ h. map-other_pages old new bs q (others q h)));
  agree = (agrees, agree-other_pages old new bs (λ q h. others q (other_than b bs q apart h)) agree.1);
  distinct = (λ p e. apart.0 p (sym same_page ∙ e), apart.1);
}

pub map-not_buffered : (pages : Pages) (bs : List Buffer) (q : ℕ) → buffered bs q ≡ false → map_of pages bs q ≡ page_bytes (pages q)
map-not_buffered pages [] q e = refl
map-not_buffered pages (b ∷ bs) q e = let parts = or_false (holds b.page q) (buffered bs q) e in rw (parts.0) (map-not_buffered pages bs q parts.1)

-- the first, which the disk has, was given up
pub given_up : (pages : Pages) (b c : Buffer) (bs : List Buffer) → Distinct (b ∷ bs) → AllAgree pages (b ∷ bs) → b.changed ≡ false → c.page ≡ None → StaysUp pages pages (b ∷ bs) (c ∷ bs)
given_up pages b c bs apart agree clean none = record {
  map = λ q. rw none (⊎_elim
      (λ (h : holds b.page q ≡ true). rw h (map-not_buffered pages bs q (apart.0 q (holds_same b.page q h)) ∙ sym (agree.0 clean q (holds_same b.page q h))))
      (λ (h : holds b.page q ≡ false). rw h refl) (two_ways (holds b.page q)));
  agree = (λ was p e. absurd cc, agree.1);
  distinct = (λ p e. absurd cc, apart.1);
}

-- the first has another page, as the disk has it
pub filled : (pages : Pages) (b c : Buffer) (bs : List Buffer) (p : ℕ) → Distinct (b ∷ bs) → AllAgree pages (b ∷ bs) → b.changed ≡ false → buffered bs p ≡ false
    → c.page ≡ Some p → c.bytes.value ≡ page_bytes (pages p) → StaysUp pages pages (b ∷ bs) (c ∷ bs)
filled pages b c bs p apart agree clean lacks is bytes =
    let here : (q : ℕ) → c.page ≡ Some q → q ≡ p = λ q e. cc in
    record {
      map = λ q. ⊎_elim
          (λ (h : holds b.page q ≡ true). let lost = map-not_buffered pages bs q (apart.0 q (holds_same b.page q h)) in
          rw h (⊎_elim (λ (k : holds c.page q ≡ true). let e = here q (holds_same c.page q k) in rw k (bytes ∙ ap (λ (r : ℕ). page_bytes (pages r)) (sym e) ∙ sym (agree.0 clean q (holds_same b.page q h))))
          (λ (k : holds c.page q ≡ false). rw k (lost ∙ sym (agree.0 clean q (holds_same b.page q h)))) (two_ways (holds c.page q))))
          (λ (h : holds b.page q ≡ false).
          rw h (⊎_elim (λ (k : holds c.page q ≡ true). let e = here q (holds_same c.page q k) in rw k (bytes ∙ ap (λ (r : ℕ). page_bytes (pages r)) (sym e) ∙ sym (map-not_buffered pages bs q (subst (λ (r : ℕ). buffered bs r ≡ false) (sym e) lacks))))
          (λ (k : holds c.page q ≡ false). rw k refl) (two_ways (holds c.page q))))
          (two_ways (holds b.page q));
      agree = (λ was q e. bytes ∙ ap (λ (r : ℕ). page_bytes (pages r)) (sym (here q e)), agree.1);
      distinct = (λ q e. subst (λ (r : ℕ). buffered bs r ≡ false) (sym (here q e)) lacks, apart.1);
    }

-- ---- the same of a list and its first place

pub written_at : (old new : Pages) (xs : List Buffer) (b c : Buffer) → 1 ≤ length xs → Distinct xs → AllAgree old xs
    → c.page ≡ (get_or xs 0 b).page → c.bytes.value ≡ (get_or xs 0 b).bytes.value → ((q : ℕ) → holds (get_or xs 0 b).page q ≡ false → new q ≡ old q) → (Agrees old (get_or xs 0 b) → Agrees new c) → StaysUp old new xs (slice_set xs 0 c)
written_at old new [] b c some apart agree same_page same_bytes others agrees = absurd (omega arith)
written_at old new (x ∷ xs) b c some apart agree same_page same_bytes others agrees = written old new x c xs apart agree same_page same_bytes others (agrees agree.0)

pub filled_at : (pages : Pages) (xs : List Buffer) (c : Buffer) (p : ℕ) → Distinct xs → AllAgree pages xs → FirstIsClean xs → buffered xs p ≡ false
    → c.page ≡ Some p → c.bytes.value ≡ page_bytes (pages p) → StaysUp pages pages xs (slice_set xs 0 c)
filled_at pages [] c p apart agree clean lacks same_page bytes = absurd clean
filled_at pages (x ∷ xs) c p apart agree clean lacks same_page bytes =
    filled pages x c xs p apart agree clean (or_false (holds x.page p) (buffered xs p) lacks).1 same_page bytes

pub given_up_at : (pages : Pages) (xs : List Buffer) (c : Buffer) → Distinct xs → AllAgree pages xs → FirstIsClean xs → c.page ≡ None → StaysUp pages pages xs (slice_set xs 0 c)
given_up_at pages [] c apart agree clean none = absurd clean
given_up_at pages (x ∷ xs) c apart agree clean none = given_up pages x c xs apart agree clean none

-- filled, or given up
pub read_at : (pages : Pages) (xs : List Buffer) (c : Buffer) (p : ℕ) (r : Result (Unit {0}) Failed) → Distinct xs → AllAgree pages xs → FirstIsClean xs → buffered xs p ≡ false
    → OnOk r (c.page ≡ Some p) → OnErr r (c.page ≡ None) → OnOk r (c.bytes.value ≡ page_bytes (pages p)) → StaysUp pages pages xs (slice_set xs 0 c)
read_at pages xs c p (Ok x) apart agree clean lacks ok err bytes = filled_at pages xs c p apart agree clean lacks ok bytes
read_at pages xs c p (Err e) apart agree clean lacks ok err bytes = given_up_at pages xs c apart agree clean err

-- a look-up from the front
pub passed : (xs : List Buffer) (i : ℕ) (d : Buffer) (p : ℕ) → i < length xs → (get_or xs i d).page ≢ Some p → buffered (drop i xs) p ≡ buffered (drop (i + 1) xs) p
passed xs i d p within differs =
    let split : drop i xs ≡ get_or xs i d ∷ drop (suc i) xs = drop-cons xs i d within in
    let other : holds (get_or xs i d).page p ≡ false = ⊎_elim (λ (h : holds (get_or xs i d).page p ≡ true). absurd (differs (holds_same _ p h))) (λ (h : holds (get_or xs i d).page p ≡ false). h) (two_ways (holds (get_or xs i d).page p)) in
    rw (split, other, add-one) refl

-- the map held so before, and so it held at any moment of the write
pub held_map : (pages : Pages) (xs : List Buffer) (b : Buffer) (q : ℕ) → 1 ≤ length xs → holds (get_or xs 0 b).page q ≡ true → map_of pages xs q ≡ (get_or xs 0 b).bytes.value
held_map pages [] b q some h = absurd (omega arith)
held_map pages (x ∷ xs) b q some h = rw h refl

pub wrote_mixture : (pages : Pages) (xs : List Buffer) (b : Buffer) (d c : Pages) → 1 ≤ length xs → WroteHeld (get_or xs 0 b).page (get_or xs 0 b).bytes.value d c
    → IsMixture (map_of pages xs) (map_of pages xs) d c
wrote_mixture pages xs b d c some step =
    let page : Option ℕ = (get_or xs 0 b).page in
    let bytes : List ℕ = (get_or xs 0 b).bytes.value in
    record {
      each = λ q i. ⊎_elim
          (λ (h : holds page q ≡ true). ⊎_elim (λ (k : byte_at c q i ≡ byte_at d q i). inl k) (λ (k : byte_at c q i ≡ slice_index bytes i). inr (inl (k ∙ ap (λ (l : List ℕ). slice_index l i) (sym (held_map pages xs b q some h))))) (step.each q i h))
          (λ (h : holds page q ≡ false). inl (ap (λ (o : Option (List ℕ)). slice_index (page_bytes o) i) (step.others q h)))
          (two_ways (holds page q));
    }

-- the buffer that was brought to the front
pub brought : (xs ys : List Buffer) (i : ℕ) → i < length xs → Distinct xs → ((d : Buffer) → ys ≡ get_or xs i d ∷ remove xs i) → Rearranged xs ys
brought [] ys i within apart is = absurd (omega arith)
brought (x ∷ xs) ys i within apart is = subst (λ (l : List Buffer). Rearranged (x ∷ xs) l) (sym (is x)) (to_front (x ∷ xs) i x within apart)

pub first_brought : (xs ys : List Buffer) (i p : ℕ) → i < length xs → ((d : Buffer) → ys ≡ get_or xs i d ∷ remove xs i) → ((d : Buffer) → (get_or xs i d).page ≡ Some p) → FirstHolds p ys
first_brought [] ys i p within is found = absurd (omega arith)
first_brought (x ∷ xs) ys i p within is found = subst (λ (l : List Buffer). FirstHolds p l) (sym (is x)) (found x)

pub rearranged_up : (pages : Pages) (xs ys : List Buffer) → Rearranged xs ys → AllAgree pages xs → StaysUp pages pages xs ys
rearranged_up pages xs ys r agree = record { map = λ q. r.map pages q; agree = r.agree pages agree; distinct = r.distinct }

pub stays_then : (p0 p1 p2 : Pages) (xs ys zs : List Buffer) → StaysUp p0 p1 xs ys → StaysUp p1 p2 ys zs → StaysUp p0 p2 xs zs
stays_then p0 p1 p2 xs ys zs r s = record { map = λ q. s.map q ∙ r.map q; agree = s.agree; distinct = s.distinct }

pub held_room : (p : ℕ) (xs : List Buffer) → FirstHolds p xs → FirstMayHold p xs
held_room p [] h = h
held_room p (b ∷ bs) h = inl h

pub clean_room : (p : ℕ) (xs : List Buffer) → FirstIsClean xs → buffered xs p ≡ false → FirstMayHold p xs
clean_room p [] h e = absurd h
clean_room p (b ∷ bs) h e = inr (h, e)

not_held : (o : Option ℕ) (p q : ℕ) → o ≡ Some p → q ≢ p → holds o q ≡ false
not_held None p q e differs = refl
not_held (Some r) p q e differs = ne_eqb r q (λ h. differs cc)

-- the first was given up or held the page, and holds zeros for it now
pub blanked : (pages : Pages) (b c : Buffer) (bs : List Buffer) (p : ℕ) (bytes : List ℕ) → Distinct (b ∷ bs) → AllAgree pages (b ∷ bs) → FirstMayHold p (b ∷ bs)
    → c.page ≡ Some p → c.bytes.value ≡ bytes → PutsPage p bytes (map_of pages (b ∷ bs)) (map_of pages (c ∷ bs))
blanked pages b c bs p bytes apart agree room is same = record {
  here = rw (holds_it c.page p is) same;
  others = λ q differs. let other = not_held c.page p q is differs in
      rw other (⊎_elim (λ (h : b.page ≡ Some p). let gone = not_held b.page p q h differs in rw gone refl)
      (λ (h : (b.changed ≡ false) × (buffered (b ∷ bs) p ≡ false)). ⊎_elim
      (λ (k : holds b.page q ≡ true). rw k (map-not_buffered pages bs q (apart.0 q (holds_same b.page q k)) ∙ sym (agree.0 (h.0) q (holds_same b.page q k))))
      (λ (k : holds b.page q ≡ false). rw k refl) (two_ways (holds b.page q)))
      room);
}

blank_distinct : (b c : Buffer) (bs : List Buffer) (p : ℕ) → Distinct (b ∷ bs) → FirstMayHold p (b ∷ bs) → c.page ≡ Some p → Distinct (c ∷ bs)
blank_distinct b c bs p apart room is = (
  λ q e. let same : q ≡ p = cc in
      subst (λ (r : ℕ). buffered bs r ≡ false) (sym same) (⊎_elim (λ (h : b.page ≡ Some p). apart.0 p h) (λ (h : (b.changed ≡ false) × (buffered (b ∷ bs) p ≡ false)). (or_false (holds b.page p) (buffered bs p) h.1).1) room),
  apart.1,
)

pub blanked_at : (pages : Pages) (xs : List Buffer) (c : Buffer) (p : ℕ) (bytes : List ℕ) → Distinct xs → AllAgree pages xs → FirstMayHold p xs
    → c.page ≡ Some p → c.bytes.value ≡ bytes → PutsPage p bytes (map_of pages xs) (map_of pages (slice_set xs 0 c))
blanked_at pages [] c p bytes apart agree room is same = absurd room
blanked_at pages (x ∷ xs) c p bytes apart agree room is same = blanked pages x c xs p bytes apart agree room is same

pub blank_distinct_at : (xs : List Buffer) (c : Buffer) (p : ℕ) → Distinct xs → FirstMayHold p xs → c.page ≡ Some p → Distinct (slice_set xs 0 c)
blank_distinct_at [] c p apart room is = absurd room
blank_distinct_at (x ∷ xs) c p apart room is = blank_distinct x c xs p apart room is

-- ---- any of the buffers is written

found_nth : (xs : List Buffer) (i : ℕ) (b : Buffer) (q : ℕ) → i < length xs → holds (get_or xs i b).page q ≡ true → buffered xs q ≡ true
found_nth [] i b q within h = absurd (omega arith)
found_nth (x ∷ xs) zero b q within h = rw h refl
found_nth (x ∷ xs) (suc i) b q within h = found (holds x.page q) (buffered xs q) (found_nth xs i b q (omega arith) h)

pub other_nth : (xs : List Buffer) (i : ℕ) (b : Buffer) (q : ℕ) → i < length xs → buffered xs q ≡ false → holds (get_or xs i b).page q ≡ false
other_nth xs i b q within lacks =
    ⊎_elim (λ (h : holds (get_or xs i b).page q ≡ true). let has : buffered xs q ≡ true = found_nth xs i b q within h in absurd cc) (λ (h : holds (get_or xs i b).page q ≡ false). h) (two_ways (holds (get_or xs i b).page q))

pub written_nth : (old new : Pages) (xs : List Buffer) (i : ℕ) (b c : Buffer) → i < length xs → Distinct xs → AllAgree old xs
    → c.page ≡ (get_or xs i b).page → c.bytes.value ≡ (get_or xs i b).bytes.value → ((q : ℕ) → holds (get_or xs i b).page q ≡ false → new q ≡ old q) → (Agrees old (get_or xs i b) → Agrees new c)
    → StaysUp old new xs (slice_set xs i c) × ((q : ℕ) → buffered (slice_set xs i c) q ≡ buffered xs q)
written_nth old new [] i b c within apart agree same_page same_bytes others agrees = absurd (omega arith)
written_nth old new (x ∷ xs) zero b c within apart agree same_page same_bytes others agrees =
    (written old new x c xs apart agree same_page same_bytes others (agrees agree.0), λ q. ap (λ (o : Option ℕ). cond (holds o q) true (buffered xs q)) same_page)
written_nth old new (x ∷ xs) (suc i) b c within apart agree same_page same_bytes others agrees =
    let deeper = written_nth old new xs i b c (omega arith) apart.1 agree.1 same_page same_bytes others agrees in
    let stays = deeper.0 in
    let has = deeper.1 in
    let mine : (q : ℕ) → x.page ≡ Some q → new q ≡ old q = λ q e. others q (other_nth xs i b q (omega arith) (apart.0 q e)) in (
      record {
        map = λ q. ap (cond (holds x.page q) x.bytes.value) (stays.map q);
        agree = (λ clean q e. agree.0 clean q e ∙ ap page_bytes (sym (mine q e)), stays.agree);
        distinct = (λ q e. has q ∙ apart.0 q e, stays.distinct);
      },
      λ q. ap (cond (holds x.page q) true) (has q),
    )

pub clean_nth : (xs : List Buffer) (i : ℕ) (c : Buffer) → i < length xs → c.changed ≡ false → CleanUpTo i xs → CleanUpTo (suc i) (slice_set xs i c)
clean_nth [] i c within clean so_far = absurd (omega arith)
clean_nth (x ∷ xs) zero c within clean so_far = (clean, tt)
clean_nth (x ∷ xs) (suc i) c within clean so_far = (so_far.0, clean_nth xs i c (omega arith) clean so_far.1)

pub clean_nth_ok : (xs : List Buffer) (i : ℕ) (c : Buffer) (r : Result (Unit {0}) Failed) → i < length xs → CleanUpTo i xs → OnOk r (c.changed ≡ false) → OnOk r (CleanUpTo (i + 1) (slice_set xs i c))
clean_nth_ok xs i c (Ok x) within so_far clean = rw add-one (clean_nth xs i c within clean so_far)
clean_nth_ok xs i c (Err e) within so_far clean = tt

pub clean_all : (xs : List Buffer) (n : ℕ) → length xs ≤ n → CleanUpTo n xs → AllClean xs
clean_all [] n enough clean = tt
clean_all (x ∷ xs) zero enough clean = absurd (omega arith)
clean_all (x ∷ xs) (suc n) enough clean = (clean.0, clean_all xs n (omega arith) clean.1)

-- another buffer with the same page in its place
pub has_nth : (xs : List Buffer) (i : ℕ) (b c : Buffer) → i < length xs → c.page ≡ (get_or xs i b).page → (q : ℕ) → buffered (slice_set xs i c) q ≡ buffered xs q
has_nth [] i b c within same q = absurd (omega arith)
has_nth (x ∷ xs) zero b c within same q = ap (λ (o : Option ℕ). cond (holds o q) true (buffered xs q)) same
has_nth (x ∷ xs) (suc i) b c within same q = ap (cond (holds x.page q) true) (has_nth xs i b c (omega arith) same q)

pub distinct_nth : (xs : List Buffer) (i : ℕ) (b c : Buffer) → i < length xs → c.page ≡ (get_or xs i b).page → Distinct xs → Distinct (slice_set xs i c)
distinct_nth [] i b c within same apart = absurd (omega arith)
distinct_nth (x ∷ xs) zero b c within same apart = (λ q e. apart.0 q (sym same ∙ e), apart.1)
distinct_nth (x ∷ xs) (suc i) b c within same apart = (λ q e. has_nth xs i b c (omega arith) same q ∙ apart.0 q e, distinct_nth xs i b c (omega arith) same apart.1)

pub held_nth : (pages : Pages) (xs : List Buffer) (i : ℕ) (b : Buffer) (q : ℕ) → i < length xs → Distinct xs → holds (get_or xs i b).page q ≡ true → map_of pages xs q ≡ (get_or xs i b).bytes.value
held_nth pages [] i b q within apart h = absurd (omega arith)
held_nth pages (x ∷ xs) zero b q within apart h = rw h refl
held_nth pages (x ∷ xs) (suc i) b q within apart h =
    let mine : holds x.page q ≡ false = other_than x xs q apart (found_nth xs i b q (omega arith) h) in
    rw mine (held_nth pages xs i b q (omega arith) apart.1 h)

pub wrote_mixture_nth : (pages : Pages) (xs : List Buffer) (i : ℕ) (b : Buffer) (d c : Pages) → i < length xs → Distinct xs → WroteHeld (get_or xs i b).page (get_or xs i b).bytes.value d c
    → IsMixture (map_of pages xs) (map_of pages xs) d c
wrote_mixture_nth pages xs n b d c within apart step =
    let page : Option ℕ = (get_or xs n b).page in
    let bytes : List ℕ = (get_or xs n b).bytes.value in
    record {
      each = λ q i. ⊎_elim
          (λ (h : holds page q ≡ true). ⊎_elim (λ (k : byte_at c q i ≡ byte_at d q i). inl k) (λ (k : byte_at c q i ≡ slice_index bytes i). inr (inl (k ∙ ap (λ (l : List ℕ). slice_index l i) (sym (held_nth pages xs n b q within apart h))))) (step.each q i h))
          (λ (h : holds page q ≡ false). inl (ap (λ (o : Option (List ℕ)). slice_index (page_bytes o) i) (step.others q h)))
          (two_ways (holds page q));
    }

-- ---- empty buffers

pub empty_map : (pages : Pages) (bs : List Buffer) (q : ℕ) → AllEmpty bs → map_of pages bs q ≡ page_bytes (pages q)
empty_map pages [] q e = refl
empty_map pages (b ∷ bs) q e = rw (e.0.0) (empty_map pages bs q e.1)

pub empty_distinct : (bs : List Buffer) → AllEmpty bs → Distinct bs
empty_distinct [] e = tt
empty_distinct (b ∷ bs) e = let none = e.0.0 in (λ p is. absurd cc, empty_distinct bs e.1)

pub empty_agree : (pages : Pages) (bs : List Buffer) → AllEmpty bs → AllAgree pages bs
empty_agree pages [] e = tt
empty_agree pages (b ∷ bs) e = let none = e.0.0 in (λ was p is. absurd cc, empty_agree pages bs e.1)

pub empty_push : (bs : List Buffer) (b : Buffer) → AllEmpty bs → b.page ≡ None → b.changed ≡ false → AllEmpty (bs ++ b ∷ [])
empty_push [] b e none clean = ((none, clean), tt)
empty_push (x ∷ bs) b e none clean = (e.0, empty_push bs b e.1 none clean)

-- all were written: the disk has the map
pub clean_map : (pages : Pages) (bs : List Buffer) (q : ℕ) → AllClean bs → AllAgree pages bs → map_of pages bs q ≡ page_bytes (pages q)
clean_map pages [] q clean agree = refl
clean_map pages (b ∷ bs) q clean agree = ⊎_elim
    (λ (h : holds b.page q ≡ true). rw h (agree.0 clean.0 q (holds_same b.page q h)))
    (λ (h : holds b.page q ≡ false). rw h (clean_map pages bs q clean.1 agree.1)) (two_ways (holds b.page q))

-- what a call over the slice of a `Vec` leaves in it
pub written_back : (n : ℕ) (xs ys : List Buffer) → length xs ≡ n → take n (xs ++ drop (length xs) ys) ≡ xs
written_back n xs ys long = subst (λ (k : ℕ). take k (xs ++ drop (length xs) ys) ≡ xs) long (take-append_seam xs (drop (length xs) ys))
