-- The offsets on their pages.
use Rattle.std.proofs.Common.{None, Some, ap, arith, inl, inr, refl, subst, sym, ⊎_elim, Bool, true, false, cond, List, [], ℕ, nat_lt, ◌⊎◌, ◌≡◌, ◌≢◌, ◌+◌, ◌*◌, ◌/◌, ◌%◌, ◌^◌, ◌<◌, ◌≤◌, ◌==◌, ◌∙◌, eqb-true}
use Rattle.std.proofs.lemmas.Bool.Decides.{nat_tests}
use Rattle.std.specs.List.{cons_option, last_or}
use Rattle.tx_events.specs.Ids.{low_half}
use Rattle.tx_events.specs.PageOrder.{Multis, page_precedes}
use Rattle.tx_events.proofs.ListSteps.{not_both}
use Rattle.slru_bank.proofs.ZeroBytes.{zero_byte}
use Rattle.disk_core.specs.Pages.{zero_page}
use Rattle.store_pages.specs.Layouts.{number_in, word_page_of, word_place_of}
use Rattle.tx_core.specs.declared.entry.Start.{Start}
use Rattle.tx_core.specs.Locks.{offset_page, offsets_lock}
use Rattle.tx_core.specs.CleanMultis.{CleanOffsets}
use Rattle.tx_core.specs.StoredBytes.{StoredBytes, byte_of}
use Rattle.tx_core.proofs.PageRing.{offset_order}
use Rattle.engine_parts.specs.Shelf.{IsShelf}
use Rattle.engine_parts.specs.Shelves.{offset_shelf, word_held}
use Rattle.engine_parts.specs.ShelfLaws.{OffsetSet, OffsetsKeep}
use Rattle.engine_parts.proofs.Shelving.{keep_store}

order : (first p q : ℕ) → first / 2048 ≤ p → p ≤ (first + 2 ^ 29) / 2048 → first / 2048 ≤ q → q ≤ (first + 2 ^ 29) / 2048 → page_precedes Multis 2048 (p % 2 ^ 21) (q % 2 ^ 21) ≡ nat_lt p q
order first p q p_from p_to q_from q_to = offset_order p q (omega arith) (omega arith)

here : (x : ℕ) → word_page_of x ≡ offset_page x % 2 ^ 21
here x = omega arith

-- of two pages in use with one place one is the other
apart : (first oldest p x : ℕ) → first ≤ oldest + 2 ^ 31 → first / 2048 ≤ p → p ≤ (first + 2 ^ 29) / 2048 → oldest ≤ x → x < first + 2 ^ 30 → word_page_of x ≡ p % 2 ^ 21 → offset_page x ≡ p
apart first oldest p x near p_from p_to from to same = omega arith

zero_number : (n : ℕ) → number_in zero_page n ≡ 0
zero_number n = rw (zero_byte n, zero_byte (n + 1), zero_byte (n + 2), zero_byte (n + 3)) refl

pub offsets_good : (start : Start) → start.base.multi ≤ start.base.oldest_multi + 2 ^ 31 → IsShelf (offset_shelf start)
offsets_good start window = record {
  order = λ p q a b. order start.base.multi p q a.from a.to b.from b.to;
  here = here;
  apart = λ p x near room same. apart start.base.multi start.base.oldest_multi p x window near.from near.to room.from room.to same;
  zeros = λ x. zero_number (word_place_of x);
}

pub offsets_keep : OffsetsKeep
offsets_keep start bank window = keep_store (offset_shelf start) (CleanOffsets start) start (offsets_lock bank) bank (offsets_good start window)

-- ---- an offset is set

-- the four bytes of a number make its low half
pub word_made : (n : ℕ) → low_half n ≡ word_held (Some (λ i. byte_of n i))
word_made n =
    let b0 : byte_of n 0 ≡ n % 256 = omega arith in
    let b1 : byte_of n 1 ≡ n / 256 % 256 = omega arith in
    let b2 : byte_of n 2 ≡ n / 65536 % 256 = omega arith in
    let b3 : byte_of n 3 ≡ n / 16777216 % 256 = omega arith in
    let whole : low_half n ≡ n % 256 + 256 * (n / 256 % 256 + 256 * (n / 65536 % 256 + 256 * (n / 16777216 % 256))) = omega arith in
    whole ∙ sym (λ j. b0 j + 256 * (b1 j + 256 * (b2 j + 256 * b3 j)))

same_test : (a b : ℕ) → a ≡ b → (a == b) ≡ true
same_test a b e = grind (arith, nat_tests)

test_not : (a b : ℕ) → (a == b) ≡ false → a ≢ b
test_not a b q e = not_both (a == b) (same_test a b e) q

pub same_or_not : (a b : ℕ) → (a ≡ b) ⊎ (a ≢ b)
same_or_not a b = let step : (t : Bool) → (a == b) ≡ t → (a ≡ b) ⊎ (a ≢ b) = elim [ true ↦ λ q. inl (eqb-true a b q) | false ↦ λ q. inr (test_not a b q) ] in step (a == b) refl

-- one number set says nothing of others, and of its own what it is
module _ {V : Type 0} where
  pub other_number : (number x : ℕ) (value : V) → cons_option (cond (number == x) (Some value) None) [] ≡ [] → number ≢ x
  other_number number x value e r =
      let step : (b : Bool) → (number == x) ≡ b → cons_option (cond b (Some value) None) [] ≡ [] → ⊥ = elim [ true ↦ λ q g. absurd cc | false ↦ λ q g. not_both (number == x) (same_test number x r) q ] in
      step (number == x) refl e

  pub own_number : (number x : ℕ) (value v : V) → last_or None (cons_option (cond (number == x) (Some value) None) []) ≡ Some v → (number ≡ x) × (value ≡ v)
  own_number number x value v e =
      let step : (b : Bool) → (number == x) ≡ b → last_or None (cons_option (cond b (Some value) None) []) ≡ Some v → (number ≡ x) × (value ≡ v) = elim [ true ↦ λ q g. (eqb-true number x q, cc) | false ↦ λ q g. absurd cc ] in
      step (number == x) refl e

-- two multixacts in use with one stored page and place are one
one_place : (first oldest a b : ℕ) → first ≤ oldest + 2 ^ 31 → oldest ≤ a → a < first + 2 ^ 30 → oldest ≤ b → b < first + 2 ^ 30 → word_page_of a ≡ word_page_of b → low_half a % 2048 ≡ low_half b % 2048 → a ≡ b
one_place first oldest a b near ao an bo bn p q = omega arith

below : (a : ℕ) → a % 2048 < 2048
below a = omega arith

pub offset_set : OffsetSet
offset_set start by caller multi offset old new window room sets = record {
  makes_none = refl;
  others = λ x used none.
      let other : multi ≢ x = other_number multi x (λ i. byte_of offset i) none in
      ⊎_elim
      (λ (page : word_page_of x ≡ word_page_of multi).
      subst (λ z. number_in (new z) (word_place_of x) ≡ number_in (old z) (word_place_of x)) (sym page)
      (sets.same_page (low_half x % 2048) (below (low_half x))
      (λ (place : low_half x % 2048 ≡ low_half multi % 2048). other (one_place start.base.multi start.base.oldest_multi multi x window room.from room.to used.from used.to (sym page) (sym place)))))
      (λ (page : word_page_of x ≢ word_page_of multi). ap (λ (l : List ℕ). number_in l (word_place_of x)) (sets.others (word_page_of x) page))
      (same_or_not (word_page_of x) (word_page_of multi));
  set = λ x v used some.
      let r = own_number multi x (λ i. byte_of offset i) v some in
      subst (λ (z : ℕ). number_in (new (word_page_of z)) (word_place_of z) ≡ word_held (Some v)) r.0
      (sets.here ∙ (word_made offset ∙ ap (λ (b : StoredBytes). word_held (Some b)) r.1));
}
