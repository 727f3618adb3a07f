-- Buffers of pages to remove: filled with zeros before the volume's pages go, and given up after.
use Rattle.std.proofs.Common.{◌≡◌, ◌≢◌, ◌⊎◌, inl, inr, ⊎_elim, ℕ, zero, suc, ◌+◌, ◌<◌, ◌≤◌, ◌^◌, Bool, true, false, cond, List, [], ◌∷◌, length, get_or, slice_set, Option, Some, None, Result, Ok, Err, OnErr, refl, sym, ◌∙◌, ap, add-one, subst, arith}
use Rattle.std.specs.Prelude.{IsSome, IsNone}
use Rattle.disk_core.specs.Pages.{Pages, page_bytes, zero_page, RemovedPage, IsAfter, IsLeastAfter}
use Rattle.slru_bank.specs.declared.buffer.Buffer.{Buffer}
use Rattle.slru_bank.specs.Bank.{holds, buffered, map_of, Distinct, Agrees, AllAgree}
use Rattle.slru_bank.specs.Crash.{SameMap}
use Rattle.slru_bank.specs.Removal.{MayDrop, MayLack, AllAbsent, Blank, BlankUpTo, AllBlank, Keeps, KeepUpTo, IsPassed}
use Rattle.slru_bank.proofs.BufferLists.{holds_same, two_ways, or_false, map-not_buffered}

-- ---- one buffer in the place of another

pub agree_nth : (pages : Pages) (xs : List Buffer) (i : ℕ) (d c : Buffer) → i < length xs → (Agrees pages (get_or xs i d) → Agrees pages c) → AllAgree pages xs → AllAgree pages (slice_set xs i c)
agree_nth pages [] i d c within agrees all = absurd (omega arith)
agree_nth pages (x ∷ xs) zero d c within agrees all = (agrees all.0, all.1)
agree_nth pages (x ∷ xs) (suc i) d c within agrees all = (all.0, agree_nth pages xs i d c (omega arith) agrees all.1)

blank_next : (gone : ℕ → Bool) (xs : List Buffer) (i : ℕ) (c : Buffer) → i < length xs → Blank gone c → BlankUpTo gone i xs → BlankUpTo gone (suc i) (slice_set xs i c)
blank_next gone [] i c within blank so_far = absurd (omega arith)
blank_next gone (x ∷ xs) zero c within blank so_far = (blank, tt)
blank_next gone (x ∷ xs) (suc i) c within blank so_far = (so_far.0, blank_next gone xs i c (omega arith) blank so_far.1)

pub blank_nth : (gone : ℕ → Bool) (xs : List Buffer) (i : ℕ) (c : Buffer) → i < length xs → Blank gone c → BlankUpTo gone i xs → BlankUpTo gone (i + 1) (slice_set xs i c)
blank_nth gone xs i c within blank so_far = rw add-one (blank_next gone xs i c within blank so_far)

pub blank_all : (gone : ℕ → Bool) (xs : List Buffer) (n : ℕ) → length xs ≤ n → BlankUpTo gone n xs → AllBlank gone xs
blank_all gone [] n enough blank = tt
blank_all gone (x ∷ xs) zero enough blank = absurd (omega arith)
blank_all gone (x ∷ xs) (suc n) enough blank = (blank.0, blank_all gone xs n (omega arith) blank.1)

keep_next : (gone : ℕ → Bool) (xs : List Buffer) (i : ℕ) (c : Buffer) → i < length xs → Keeps gone c → KeepUpTo gone i xs → KeepUpTo gone (suc i) (slice_set xs i c)
keep_next gone [] i c within keeps so_far = absurd (omega arith)
keep_next gone (x ∷ xs) zero c within keeps so_far = (keeps, tt)
keep_next gone (x ∷ xs) (suc i) c within keeps so_far = (so_far.0, keep_next gone xs i c (omega arith) keeps so_far.1)

pub keep_nth : (gone : ℕ → Bool) (xs : List Buffer) (i : ℕ) (c : Buffer) → i < length xs → Keeps gone c → KeepUpTo gone i xs → KeepUpTo gone (i + 1) (slice_set xs i c)
keep_nth gone xs i c within keeps so_far = rw add-one (keep_next gone xs i c within keeps so_far)

-- ---- zeros in place of a page to remove

pub nothing_dropped : (gone : ℕ → Bool) (m : ℕ → List ℕ) → MayDrop gone m m
nothing_dropped gone m = record { stay = λ q kept. refl; zero_or_same = λ q. inr refl }

pub drop_then : (gone : ℕ → Bool) (m m1 m2 : ℕ → List ℕ) → MayDrop gone m m1 → MayDrop gone m1 m2 → MayDrop gone m m2
drop_then gone m m1 m2 first second = record {
  stay = λ q kept. second.stay q kept ∙ first.stay q kept;
  zero_or_same = λ q. ⊎_elim (λ (h : m2 q ≡ zero_page). inl h)
      (λ (h : m2 q ≡ m1 q). ⊎_elim (λ (k : m1 q ≡ zero_page). inl (h ∙ k)) (λ (k : m1 q ≡ m q). inr (h ∙ k)) (first.zero_or_same q))
      (second.zero_or_same q);
}

-- one page of zeros, or the same, in front of the same
front_drop : (gone : ℕ → Bool) (x c : Buffer) (m n : ℕ → List ℕ) → c.page ≡ x.page → (c.bytes.value ≡ zero_page) ⊎ (c.bytes.value ≡ x.bytes.value) → (Keeps gone x → c.bytes.value ≡ x.bytes.value) → MayDrop gone m n
    → MayDrop gone (λ q. cond (holds x.page q) x.bytes.value (m q)) (λ q. cond (holds c.page q) c.bytes.value (n q))
front_drop gone x c m n same_page way same rest = record {
  stay = λ q kept. rw same_page (⊎_elim
      (λ (h : holds x.page q ≡ true). rw h (same (λ p e. let is : p ≡ q = cc (holds_same x.page q h) in rw is kept)))
      (λ (h : holds x.page q ≡ false). rw h (rest.stay q kept))
      (two_ways (holds x.page q)));
  zero_or_same = λ q. rw same_page (⊎_elim
      (λ (h : holds x.page q ≡ true). rw h way)
      (λ (h : holds x.page q ≡ false). rw h (rest.zero_or_same q))
      (two_ways (holds x.page q)));
}

pub drop_nth : (gone : ℕ → Bool) (pages : Pages) (xs : List Buffer) (i : ℕ) (d c : Buffer) → i < length xs → c.page ≡ (get_or xs i d).page
    → (c.bytes.value ≡ zero_page) ⊎ (c.bytes.value ≡ (get_or xs i d).bytes.value) → (Keeps gone (get_or xs i d) → c.bytes.value ≡ (get_or xs i d).bytes.value)
    → MayDrop gone (map_of pages xs) (map_of pages (slice_set xs i c))
drop_nth gone pages [] i d c within same_page way same = absurd (omega arith)
drop_nth gone pages (x ∷ xs) zero d c within same_page way same = front_drop gone x c (map_of pages xs) (map_of pages xs) same_page way same (nothing_dropped gone (map_of pages xs))
drop_nth gone pages (x ∷ xs) (suc i) d c within same_page way same =
    front_drop gone x x (map_of pages xs) (map_of pages (slice_set xs i c)) refl (inr refl) (λ keeps. refl) (drop_nth gone pages xs i d c (omega arith) same_page way same)

-- ---- pages of the volume go

pub nothing_lacks : (gone : ℕ → Bool) (c : Pages) → MayLack gone c c
nothing_lacks gone c = record { stay = λ q kept. refl; none_or_same = λ q. inr refl }

pub lack_then : (gone : ℕ → Bool) (c d e : Pages) → MayLack gone c d → MayLack gone d e → MayLack gone c e
lack_then gone c d e first second = record {
  stay = λ q kept. second.stay q kept ∙ first.stay q kept;
  none_or_same = λ q. ⊎_elim (λ (h : e q ≡ None). inl h)
      (λ (h : e q ≡ d q). ⊎_elim (λ (k : d q ≡ None). inl (h ∙ k)) (λ (k : d q ≡ c q). inr (h ∙ k)) (first.none_or_same q))
      (second.none_or_same q);
}

same_or_not : (a b : ℕ) → (a ≡ b) ⊎ (a ≢ b)
same_or_not a b = grind arith

pub removed_lack : (gone : ℕ → Bool) (page : ℕ) (c d : Pages) → gone page ≡ true → RemovedPage page c d → MayLack gone c d
removed_lack gone page c d taken removed = record {
  stay = λ q kept. removed.others q (λ same. let both : gone q ≡ true = ap gone same ∙ taken in absurd cc);
  none_or_same = λ q. ⊎_elim
      (λ (e : q ≡ page). subst (λ (r : ℕ). (d r ≡ None) ⊎ (d r ≡ c r)) (sym e) removed.gone)
      (λ (differs : q ≢ page). inr (removed.others q differs))
      (same_or_not q page);
}

pub lack_agree : (gone : ℕ → Bool) (old new : Pages) (xs : List Buffer) → MayLack gone old new → AllBlank gone xs → AllAgree old xs → AllAgree new xs
lack_agree gone old new [] lack blank agree = tt
lack_agree gone old new (x ∷ xs) lack blank agree = (
  λ clean p e. ⊎_elim
      (λ (h : gone p ≡ true). let changed = (blank.0 p e h).0 in absurd cc)
      (λ (h : gone p ≡ false). agree.0 clean p e ∙ ap page_bytes (sym (lack.stay p h)))
      (two_ways (gone p)),
  lack_agree gone old new xs lack blank.1 agree.1,
)

pub lack_map : (gone : ℕ → Bool) (old new : Pages) (xs : List Buffer) → MayLack gone old new → MayDrop gone (map_of old xs) (map_of new xs)
lack_map gone old new [] lack = record {
  stay = λ q kept. ap page_bytes (lack.stay q kept);
  zero_or_same = λ q. ⊎_elim (λ (h : new q ≡ None). inl (ap page_bytes h)) (λ (h : new q ≡ old q). inr (ap page_bytes h)) (lack.none_or_same q);
}
lack_map gone old new (x ∷ xs) lack = front_drop gone x x (map_of old xs) (map_of new xs) refl (inr refl) (λ keeps. refl) (lack_map gone old new xs lack)

-- all pages to remove are gone from the volume, and the buffers have zeros for them
pub lack_all : (gone : ℕ → Bool) (new : Pages) (xs : List Buffer) (q : ℕ) → AllAbsent gone new → AllBlank gone xs → q < 2 ^ 32 → gone q ≡ true → map_of new xs q ≡ zero_page
lack_all gone new [] q absent blank within taken = ap page_bytes (absent q within taken)
lack_all gone new (x ∷ xs) q absent blank within taken = ⊎_elim
    (λ (h : holds x.page q ≡ true). rw h (blank.0 q (holds_same x.page q h) taken).1)
    (λ (h : holds x.page q ≡ false). rw h (lack_all gone new xs q absent blank.1 within taken))
    (two_ways (holds x.page q))

-- ---- a buffer is given up

-- one that has the same page or none
abbrev pub SamePageOrNone : Buffer → Buffer → Type 0
SamePageOrNone x c = (c.page ≡ x.page) ⊎ (c.page ≡ None)

lacks_front : (x c : Buffer) (xs : List Buffer) (q : ℕ) → SamePageOrNone x c → cond (holds x.page q) true (buffered xs q) ≡ false → cond (holds c.page q) true (buffered xs q) ≡ false
lacks_front x c xs q way lacks = ⊎_elim (λ (h : c.page ≡ x.page). rw h lacks) (λ (h : c.page ≡ None). rw h (or_false (holds x.page q) (buffered xs q) lacks).1) way

lacks_nth : (xs : List Buffer) (i : ℕ) (d c : Buffer) (q : ℕ) → i < length xs → SamePageOrNone (get_or xs i d) c → buffered xs q ≡ false → buffered (slice_set xs i c) q ≡ false
lacks_nth [] i d c q within way lacks = absurd (omega arith)
lacks_nth (x ∷ xs) zero d c q within way lacks = lacks_front x c xs q way lacks
lacks_nth (x ∷ xs) (suc i) d c q within way lacks =
    let parts = or_false (holds x.page q) (buffered xs q) lacks in rw (parts.0) (lacks_nth xs i d c q (omega arith) way parts.1)

pub empty_distinct_nth : (xs : List Buffer) (i : ℕ) (d c : Buffer) → i < length xs → SamePageOrNone (get_or xs i d) c → Distinct xs → Distinct (slice_set xs i c)
empty_distinct_nth [] i d c within way apart = absurd (omega arith)
empty_distinct_nth (x ∷ xs) zero d c within way apart = (λ p e. ⊎_elim (λ (h : c.page ≡ x.page). apart.0 p (sym h ∙ e)) (λ (h : c.page ≡ None). absurd cc) way, apart.1)
empty_distinct_nth (x ∷ xs) (suc i) d c within way apart = (λ p e. lacks_nth xs i d c p (omega arith) way (apart.0 p e), empty_distinct_nth xs i d c (omega arith) way apart.1)

pub empty_blank_nth : (gone : ℕ → Bool) (xs : List Buffer) (i : ℕ) (d c : Buffer) → i < length xs → SamePageOrNone (get_or xs i d) c → c.changed ≡ (get_or xs i d).changed → c.bytes.value ≡ (get_or xs i d).bytes.value
    → AllBlank gone xs → AllBlank gone (slice_set xs i c)
empty_blank_nth gone [] i d c within way changed bytes blank = absurd (omega arith)
empty_blank_nth gone (x ∷ xs) zero d c within way changed bytes blank =
    (λ p e taken. ⊎_elim (λ (h : c.page ≡ x.page). let was = blank.0 p (sym h ∙ e) taken in (changed ∙ was.0, bytes ∙ was.1)) (λ (h : c.page ≡ None). absurd cc) way, blank.1)
empty_blank_nth gone (x ∷ xs) (suc i) d c within way changed bytes blank = (blank.0, empty_blank_nth gone xs i d c (omega arith) way changed bytes blank.1)

pub empty_agrees : (pages : Pages) (x c : Buffer) → SamePageOrNone x c → c.changed ≡ x.changed → c.bytes.value ≡ x.bytes.value → Agrees pages x → Agrees pages c
empty_agrees pages x c way changed bytes agrees clean p e =
    ⊎_elim (λ (h : c.page ≡ x.page). bytes ∙ agrees (sym changed ∙ clean) p (sym h ∙ e)) (λ (h : c.page ≡ None). absurd cc) way

pub empty_map_nth : (gone : ℕ → Bool) (pages : Pages) (xs : List Buffer) (i : ℕ) (d c : Buffer) → i < length xs → SamePageOrNone (get_or xs i d) c → c.bytes.value ≡ (get_or xs i d).bytes.value
    → (c.page ≡ None → (p : ℕ) → (get_or xs i d).page ≡ Some p → (p < 2 ^ 32) × (gone p ≡ true)) → Distinct xs → AllBlank gone xs → AllAbsent gone pages
    → SameMap (map_of pages xs) (map_of pages (slice_set xs i c))
empty_map_nth gone pages [] i d c within way bytes taken apart blank absent = absurd (omega arith)
empty_map_nth gone pages (x ∷ xs) zero d c within way bytes taken apart blank absent = λ q. ⊎_elim
    (λ (h : c.page ≡ x.page). rw (h, bytes) refl)
    (λ (none : c.page ≡ None). rw none (⊎_elim
    (λ (h : holds x.page q ≡ true). let is = holds_same x.page q h in let facts = taken none q is in
    rw h (map-not_buffered pages xs q (apart.0 q is) ∙ ap page_bytes (absent q facts.0 facts.1) ∙ sym (blank.0 q is facts.1).1))
    (λ (h : holds x.page q ≡ false). rw h refl)
    (two_ways (holds x.page q))))
    way
empty_map_nth gone pages (x ∷ xs) (suc i) d c within way bytes taken apart blank absent =
    let rest = empty_map_nth gone pages xs i d c (omega arith) way bytes taken apart.1 blank.1 absent in
    λ q. ap (cond (holds x.page q) x.bytes.value) (rest q)

-- ---- a walk over the volume's pages

is_none-none : (o : Option (List ℕ)) → IsNone o → o ≡ None
is_none-none None h = refl
is_none-none (Some x) h = absurd cc

absent : (pages : Pages) (q : ℕ) → (IsSome (pages q) → ⊥) → pages q ≡ None
absent pages q never = of (pages q) never
  where
    of : (o : Option (List ℕ)) → (IsSome o → ⊥) → o ≡ None
    of None h = refl
    of (Some x) h = absurd (h refl)

still : (gone : ℕ → Bool) (old new : Pages) (q : ℕ) → MayLack gone old new → old q ≡ None → new q ≡ None
still gone old new q lack none = ⊎_elim (λ (h : new q ≡ None). h) (λ (h : new q ≡ old q). h ∙ none) (lack.none_or_same q)

below_or_past : (p q : ℕ) → (q < p ⊎ (q ≡ p)) ⊎ (p < q)
below_or_past p q = grind arith

passed_or_after : (from : Option ℕ) (q : ℕ) → IsPassed from q ⊎ IsAfter from q
passed_or_after None q = inr tt
passed_or_after (Some p) q = below_or_past p q

-- the walk comes to the next present page, and that one goes if it is to be removed
pub passed_one : (gone : ℕ → Bool) (old new : Pages) (from : Option ℕ) (page q : ℕ) → ((q : ℕ) → q < 2 ^ 32 → IsPassed from q → gone q ≡ true → old q ≡ None)
    → IsLeastAfter old from page → MayLack gone old new → (gone page ≡ true → new page ≡ None) → q < 2 ^ 32 → IsPassed (Some page) q → gone q ≡ true → new q ≡ None
passed_one gone old new from page q so_far least lack here within passed taken = ⊎_elim
    (λ (lower : q < page). still gone old new q lack (⊎_elim
    (λ (before : IsPassed from q). so_far q within before taken)
    (λ (later : IsAfter from q). absent old q (λ present. let far : page ≤ q = least.least q within later present in omega arith))
    (passed_or_after from q)))
    (λ (same : q ≡ page). subst (λ (r : ℕ). new r ≡ None) (sym same) (here (ap gone (sym same) ∙ taken)))
    passed

-- a walk past a page and past a row behind it of which none is to be removed
pub passed_row : (gone : ℕ → Bool) (old new : Pages) (from : Option ℕ) (page end q : ℕ) → ((q : ℕ) → q < 2 ^ 32 → IsPassed from q → gone q ≡ true → old q ≡ None)
    → IsLeastAfter old from page → MayLack gone old new → (gone page ≡ true → new page ≡ None) → ((q : ℕ) → page < q → q ≤ end → gone q ≡ false)
    → q < 2 ^ 32 → IsPassed (Some end) q → gone q ≡ true → new q ≡ None
passed_row gone old new from page end q so_far least lack here stay within passed taken = ⊎_elim
    (λ (low : q ≤ page). passed_one gone old new from page q so_far least lack here within (at_or_below low) taken)
    (λ (high : page < q). let kept : gone q ≡ false = stay q high (to_end passed) in absurd cc)
    (either_way q page)
  where
    at_or_below : q ≤ page → IsPassed (Some page) q
    at_or_below low = grind arith

    to_end : IsPassed (Some end) q → q ≤ end
    to_end p = ⊎_elim (λ (h : q < end). omega arith) (λ (h : q ≡ end). omega arith) p

    either_way : (a b : ℕ) → (a ≤ b) ⊎ (b < a)
    either_way a b = grind arith

-- the walk is at its end
pub passed_all : (gone : ℕ → Bool) (pages : Pages) (from : Option ℕ) → ((q : ℕ) → q < 2 ^ 32 → IsPassed from q → gone q ≡ true → pages q ≡ None)
    → ((r : ℕ) → r < 2 ^ 32 → IsAfter from r → IsNone (pages r)) → AllAbsent gone pages
passed_all gone pages from so_far rest = λ q within taken. ⊎_elim
    (λ (before : IsPassed from q). so_far q within before taken)
    (λ (later : IsAfter from q). is_none-none (pages q) (rest q within later))
    (passed_or_after from q)

-- a map that is the same as one in which some are gone
pub drop_same : (gone : ℕ → Bool) (m m1 m2 : ℕ → List ℕ) → MayDrop gone m m1 → SameMap m1 m2 → MayDrop gone m m2
drop_same gone m m1 m2 first same = drop_then gone m m1 m2 first (record { stay = λ q kept. same q; zero_or_same = λ q. inr (same q) })

pub on_err : {T E : Type 0} (P : Type 0) (r : Result T E) → P → OnErr r P
on_err P (Ok x) holds = tt
on_err P (Err e) holds = holds

-- ---- no buffer has a page that was removed

pub kept_unbuffered : (gone : ℕ → Bool) (bs : List Buffer) (q : ℕ) → KeepUpTo gone (length bs) bs → gone q ≡ true → buffered bs q ≡ false
kept_unbuffered gone [] q keep taken = refl
kept_unbuffered gone (b ∷ bs) q keep taken = ⊎_elim
    (λ (h : holds b.page q ≡ true). let stays : gone q ≡ false = keep.0 q (holds_same b.page q h) in absurd cc)
    (λ (h : holds b.page q ≡ false). rw h (kept_unbuffered gone bs q keep.1 taken))
    (two_ways (holds b.page q))
