-- A parent and an offset that are set are what their entry says.
use Rattle.std.proofs.Common.{Bool, List, None, Some, [], ap, arith, cond, false, inl, inr, refl, subst, sym, true, ℕ, ⊎_elim, ◌+◌, ◌%◌, ◌/◌, ◌-◌, ◌==◌, ◌<◌, ◌^◌, ◌∙◌, ◌≡◌, ◌≢◌, ◌≤◌, ◌⊎◌}
use Rattle.std.proofs.lemmas.Bool.{eqb-true}
use Rattle.std.proofs.lemmas.Bool.Decides.{nat_tests}
use Rattle.std.specs.List.{cons_option, last_or, slice_index}
use Rattle.tx_events.specs.Ids.{low_half}
use Rattle.store_pages.specs.Layouts.{word_page_of, word_place_of}
use Rattle.slru_bank.specs.ByteRange.{SetsEntry}
use Rattle.tx_events.proofs.ListSteps.{not_both}
use Rattle.tx_core.specs.CleanStart.{first_near}
use Rattle.recoverable.specs.Bytes.{StoredBytes, byte_of}
use Rattle.bank_follows.specs.WordSets.{OffsetSet, ParentSet}
use Rattle.bank_follows.proofs.Bytes.{byte_in, byte_same}

pub same_or_not : (a b : ℕ) → (a ≡ b) ⊎ (a ≢ b)
same_or_not a b = let step : (t : Bool) → (a == b) ≡ t → (a ≡ b) ⊎ (a ≢ b) = elim [ true ↦ λ q. inl (eqb-true a b q) | false ↦ λ q. inr (differs a b q) ] in step (a == b) refl
  where
    differs : (a b : ℕ) → (a == b) ≡ false → a ≢ b
    differs a b q e = grind (arith, nat_tests)

test_not : (a b : ℕ) → a ≢ b → (a == b) ≡ false
test_not a b n = grind (arith, nat_tests)

-- of the numbers of a window of 2^32 no two are stored as one
pub one_near : (f x y : ℕ) → f ≤ x → x < f + 2 ^ 32 → f ≤ y → y < f + 2 ^ 32 → low_half x ≡ low_half y → x ≡ y
one_near f x y a b c d e = omega arith

-- one number set says nothing of others, and of its own what it is
module _ {V : Type 0} where
  pub other_number : (number x : ℕ) (value : V) → cons_option (cond (number == x) (Some value) None) [] ≡ [] → number ≢ x
  other_number number x value e r =
      let step : (b : Bool) → (number == x) ≡ b → cons_option (cond b (Some value) None) [] ≡ [] → ⊥ = elim [ true ↦ λ q g. absurd cc | false ↦ λ q g. not_both (number == x) (same_test number x r) q ] in
      step (number == x) refl e
    where
      same_test : (a b : ℕ) → a ≡ b → (a == b) ≡ true
      same_test a b e = grind (arith, nat_tests)

  pub own_number : (number x : ℕ) (value v : V) → last_or None (cons_option (cond (number == x) (Some value) None) []) ≡ Some v → (number ≡ x) × (value ≡ v)
  own_number number x value v e =
      let step : (b : Bool) → (number == x) ≡ b → last_or None (cons_option (cond b (Some value) None) []) ≡ Some v → (number ≡ x) × (value ≡ v) = elim [ true ↦ λ q g. (eqb-true number x q, cc) | false ↦ λ q g. absurd cc ] in
      step (number == x) refl e

word_halves : (a b : ℕ) → a / 2048 ≡ b / 2048 → a % 2048 ≡ b % 2048 → a ≡ b
word_halves a b p q = omega arith

-- another number of a window keeps its bytes
word_other : (f x n place number i : ℕ) (old new : ℕ → List ℕ) → f ≤ x → x < f + 2 ^ 32 → f ≤ n → n < f + 2 ^ 32 → n ≢ x
    → SetsEntry (word_page_of n) (low_half n % 2048) number old new → i < 4 → slice_index (new (word_page_of x)) (word_place_of x + i) ≡ slice_index (old (word_page_of x)) (word_place_of x + i)
word_other f x n place number i old new a b c d differs sets lt =
    ⊎_elim
    (λ (here : word_page_of x ≡ word_page_of n).
    let away : low_half x % 2048 ≢ low_half n % 2048 = λ q. differs (sym (one_near f x n a b c d (word_halves (low_half x) (low_half n) here q))) in
    subst (λ q. slice_index (new q) (word_place_of x + i) ≡ slice_index (old q) (word_place_of x + i)) (sym here)
    (byte_same (old (word_page_of n)) (new (word_page_of n)) (word_place_of x) i sets.pages.was.small sets.pages.is.small (sets.same_page (low_half x % 2048) (below (low_half x)) away) lt))
    (λ (there : word_page_of x ≢ word_page_of n). ap (λ (l : List ℕ). slice_index l (word_place_of x + i)) (sets.others (word_page_of x) there))
    (same_or_not (word_page_of x) (word_page_of n))
  where
    below : (a : ℕ) → a % 2048 < 2048
    below a = omega arith

-- and its own has those of the number
word_own : (x n value i : ℕ) (old new : ℕ → List ℕ) → n ≡ x → SetsEntry (word_page_of n) (low_half n % 2048) (low_half value) old new → i < 4 → slice_index (new (word_page_of x)) (word_place_of x + i) ≡ byte_of value i
word_own x n value i old new same sets lt =
    subst (λ z. slice_index (new (word_page_of z)) (word_place_of z + i) ≡ byte_of value i) same (byte_in (new (word_page_of n)) (word_place_of n) value i sets.pages.is.small sets.here lt)

pub parent_set : ParentSet
parent_set start bank by caller id parent old new near sets = record {
  makes_none = refl;
  others = λ x i at lt e. word_other (first_near start) x id (low_half id % 2048) (low_half parent) i old new at.near.from at.near.to near.from near.to (other_number id x parent e) sets lt;
  set = λ x i v at lt e. let r = own_number id x parent v e in word_own x id parent i old new r.0 sets lt ∙ ap (λ z. byte_of z i) r.1;
}

-- a window of numbers that ends 2^30 past one
pub in_window : (next x : ℕ) → next + 2 ^ 30 ≤ x + 2 ^ 32 → x < next + 2 ^ 30 → (next + 2 ^ 30 - 2 ^ 32 ≤ x) × (x < next + 2 ^ 30 - 2 ^ 32 + 2 ^ 32)
in_window next x from to = (omega arith, omega arith)

pub offset_set : OffsetSet
offset_set start shown bank by caller multi offset old new near sets = record {
  makes_none = refl;
  others = λ x i at lt e.
      let a = in_window start.base.multi x at.near.from at.near.to in let b = in_window start.base.multi multi near.from near.to in
      word_other (start.base.multi + 2 ^ 30 - 2 ^ 32) x multi (low_half multi % 2048) (low_half offset) i old new a.0 a.1 b.0 b.1 (other_number multi x (λ i. byte_of offset i) e) sets lt;
  set = λ x i v at lt e. let r = own_number multi x (λ i. byte_of offset i) v e in word_own x multi offset i old new r.0 sets lt ∙ ap (λ (b : StoredBytes). b i) r.1;
}
