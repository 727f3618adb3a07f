-- States are cleared from one on: whole bytes, and the rest of a byte.
use Rattle.std.proofs.Common.{◌≡◌, ◌≢◌, ◌⊎◌, inl, inr, ⊎_elim, ℕ, ◌+◌, ◌-◌, ◌/◌, ◌%◌, ◌<◌, ◌≤◌, Bool, true, false, List, length, slice_index, slice_set, bit_and, Result, Ok, Err, OnOk, OnErr, IsTrue, refl, sym, ap, subst, arith, ◌∙◌}
use Rattle.std.proofs.lemmas.List.{get_or-set_same, get_or-set_other}
use Rattle.slru_bank.specs.declared.refusal.BankRefusal.{BankRefusal}
use Rattle.disk_core.specs.Pages.{Pages, zero_page}
use Rattle.tx_events.specs.PageOrder.{Ids, page_precedes}
use Rattle.tx_events.specs.PageWindow.{precedes_itself}
use Rattle.store_pages.specs.Layouts.{bits_at, state_in}
use Rattle.slru_bank.specs.Bank.{masked, PutsPage, IsPage, StaysAPage}
use Rattle.disk_core.specs.declared.page_disk.PageDisk.{Ghosts as DiskGhosts}
use Rattle.store_pages.specs.declared.page_rule.PageRule.{Ghosts as RuleGhosts}
use Rattle.slru_bank.specs.declared.bank.SlruBank.{SlruBank}
use Rattle.slru_bank.specs.Calls.{CrashKeeps, CrashMayLack, SamePages, pages_of}
use Rattle.slru_bank.specs.Crash.{SameMap, IsMixture, IsMixtureOrGone, byte_at, CrashLeaves, runs_then, wider}
use Rattle.slru_bank.specs.Removal.{MayDrop, ClearsAfter, cleared_from}
use Rattle.slru_bank.specs.ByteRange.{cleared_before, cleared_past}
use Rattle.slru_bank.specs.States.{times_4}
use Rattle.slru_bank.specs.Changes.{TrimsStates}
use Rattle.slru_bank.proofs.TrimBits.{low_bits, high_bits, zero_bits, bits_of_zero}

same_or_not : (a b : ℕ) → (a ≡ b) ⊎ (a ≢ b)
same_or_not a b = grind arith

two_ways : (r : Bool) → (r ≡ true) ⊎ (r ≡ false)
two_ways true = inl refl
two_ways false = inr refl

below_or_not : (a b : ℕ) → (a < b) ⊎ (b ≤ a)
below_or_not a b = grind arith

-- ---- whole bytes

byte_kept : (xs : List ℕ) (at k : ℕ) → k / 4 < at → state_in (cleared_from at xs) k ≡ state_in xs k
byte_kept xs at k below = ap (λ (b : ℕ). bits_at b (k % 4)) (cleared_before xs at (k / 4) below)

byte_zero : (xs : List ℕ) (at k : ℕ) → at ≤ k / 4 → state_in (cleared_from at xs) k ≡ 0
byte_zero xs at k from = ap (λ (b : ℕ). bits_at b (k % 4)) (cleared_past xs at (k / 4) from) ∙ bits_of_zero (k % 4)

pub trims_aligned : (r : Result (Unit {0}) BankRefusal) (page place : ℕ) (old new : ℕ → List ℕ) → place % 4 ≡ 0 → OnOk r (ClearsAfter Ids 32768 page (place / 4) old new) → OnOk r (TrimsStates page place old new)
trims_aligned (Ok x) page place old new aligned clears = record {
  kept = λ k below. ap (λ (l : List ℕ). state_in l k) clears.here ∙ byte_kept (old page) (place / 4) k (omega arith);
  cleared = λ k from within. ap (λ (l : List ℕ). state_in l k) clears.here ∙ byte_zero (old page) (place / 4) k (omega arith);
  zeros = clears.zeros;
  stay = clears.stay;
}
trims_aligned (Err e) page place old new aligned clears = tt

-- ---- the rest of a byte, after the whole ones

pub trims_set : (page place : ℕ) (old m new : ℕ → List ℕ) → place % 4 ≢ 0 → place < 32768 → ClearsAfter Ids 32768 page (place / 4 + 1) old m → IsPage (m page)
    → PutsPage page (slice_set (m page) (place / 4) (masked (slice_index (m page) (place / 4)) (256 - times_4 1 (place % 4)) 0)) m new → TrimsStates page place old new
trims_set page place old m new odd within clears whole puts =
    let at : ℕ = place / 4 in
    let r : ℕ = place % 4 in
    let b : ℕ = slice_index (m page) (place / 4) in
    let v : ℕ = masked (slice_index (m page) (place / 4)) (256 - times_4 1 (place % 4)) 0 in
    let long : length (m page) ≡ 8192 = whole.whole in
    let small : slice_index (m page) (place / 4) < 256 = whole.small (place / 4) in
    let set : slice_index (slice_set (m page) (place / 4) v) (place / 4) ≡ v = get_or-set_same (m page) (place / 4) v 0 (omega arith) in
    let byte : slice_index (m page) (place / 4) ≡ slice_index (old page) (place / 4) = ap (λ (l : List ℕ). slice_index l (place / 4)) clears.here ∙ cleared_before (old page) (place / 4 + 1) (place / 4) (omega arith) in
    let other : (k : ℕ) → k / 4 ≢ place / 4 → state_in (new page) k ≡ state_in (m page) k = λ k differs.
    ap (λ (l : List ℕ). state_in l k) puts.here ∙ ap (λ (b : ℕ). bits_at b (k % 4)) (get_or-set_other (m page) (place / 4) (k / 4) v 0 differs) in
    let here : (k : ℕ) → k / 4 ≡ place / 4 → state_in (new page) k ≡ bits_at v (k % 4) = λ k same.
    ap (λ (l : List ℕ). state_in l k) puts.here ∙ ap (λ (i : ℕ). bits_at (slice_index (slice_set (m page) (place / 4) v) i) (k % 4)) same ∙ ap (λ (b : ℕ). bits_at b (k % 4)) set in
    record {
      kept = λ k below. ⊎_elim
          (λ (same : k / 4 ≡ place / 4). here k same ∙ low_bits (slice_index (m page) (place / 4)) (place % 4) (k % 4) small (omega arith) (omega arith) (omega arith) (omega arith)
          ∙ ap (λ (b : ℕ). bits_at b (k % 4)) byte ∙ ap (λ (i : ℕ). bits_at (slice_index (old page) i) (k % 4)) (sym same))
          (λ (differs : k / 4 ≢ place / 4). other k differs ∙ ap (λ (l : List ℕ). state_in l k) clears.here ∙ byte_kept (old page) (place / 4 + 1) k (omega arith))
          (same_or_not (k / 4) (place / 4));
      cleared = λ k from k_within. ⊎_elim
          (λ (same : k / 4 ≡ place / 4). here k same ∙ high_bits (slice_index (m page) (place / 4)) (place % 4) (k % 4) small (omega arith) (omega arith) (omega arith) (omega arith))
          (λ (differs : k / 4 ≢ place / 4). other k differs ∙ ap (λ (l : List ℕ). state_in l k) clears.here ∙ byte_zero (old page) (place / 4 + 1) k (omega arith))
          (same_or_not (k / 4) (place / 4));
      zeros = λ q q_within after. puts.others q (λ e. let itself : page_precedes Ids 32768 page q ≡ false = ap (page_precedes Ids 32768 page) e ∙ precedes_itself Ids 32768 page in absurd cc) ∙ clears.zeros q q_within after;
      stay = λ q apart before. puts.others q apart ∙ clears.stay q apart before;
    }

-- those bits were zeros
pub trims_clear : (page place : ℕ) (old new : ℕ → List ℕ) → place % 4 ≢ 0 → IsPage (old page) → bit_and (slice_index (old page) (place / 4)) (256 - times_4 1 (place % 4)) ≡ 0 → ClearsAfter Ids 32768 page (place / 4 + 1) old new → TrimsStates page place old new
trims_clear page place old new odd whole none clears = record {
  kept = λ k below. ap (λ (l : List ℕ). state_in l k) clears.here ∙ byte_kept (old page) (place / 4 + 1) k (omega arith);
  cleared = λ k from within. ⊎_elim
      (λ (same : k / 4 ≡ place / 4). ap (λ (l : List ℕ). state_in l k) clears.here ∙ byte_kept (old page) (place / 4 + 1) k (omega arith) ∙ ap (λ (i : ℕ). bits_at (slice_index (old page) i) (k % 4)) same
      ∙ zero_bits (slice_index (old page) (place / 4)) (place % 4) (k % 4) (whole.small (place / 4)) (omega arith) (omega arith) (omega arith) (omega arith) none)
      (λ (differs : k / 4 ≢ place / 4). ap (λ (l : List ℕ). state_in l k) clears.here ∙ byte_zero (old page) (place / 4 + 1) k (omega arith))
      (same_or_not (k / 4) (place / 4));
  zeros = clears.zeros;
  stay = clears.stay;
}

-- over a map that is the same
pub trims_same : (page place : ℕ) (m old new : ℕ → List ℕ) → SameMap m old → TrimsStates page place old new → TrimsStates page place m new
trims_same page place m old new same trims = record {
  kept = λ k below. trims.kept k below ∙ ap (λ (l : List ℕ). state_in l k) (same page);
  cleared = trims.cleared;
  zeros = trims.zeros;
  stay = λ q apart before. trims.stay q apart before ∙ same q;
}

-- ---- what stands after an error, and what a crash leaves

pub on_err : {T E : Type 0} (P : Type 0) (r : Result T E) → P → OnErr r P
on_err P (Ok x) holds = tt
on_err P (Err e) holds = holds

pub drop_over : (gone : ℕ → Bool) (m old new : ℕ → List ℕ) → SameMap m old → MayDrop gone old new → MayDrop gone m new
drop_over gone m old new same drops = record {
  stay = λ q kept. drops.stay q kept ∙ same q;
  zero_or_same = λ q. ⊎_elim (λ (h : new q ≡ zero_page). inl h) (λ (h : new q ≡ old q). inr (h ∙ same q)) (drops.zero_or_same q);
}

-- a removal over a map that is the same
pub same_then_gone : (gone : ℕ → Bool) (m m0 : ℕ → List ℕ) (c d e : Pages) → SameMap m m0 → IsMixture m m c d → IsMixtureOrGone gone m0 m0 d e → IsMixtureOrGone gone m m c e
same_then_gone gone m m0 c d e same first second = record {
  each = λ q i.
      let was : slice_index (m0 q) i ≡ slice_index (m q) i = ap (λ (l : List ℕ). slice_index l i) (same q) in
      ⊎_elim
      (λ (h : byte_at e q i ≡ byte_at d q i). ⊎_elim
      (λ (k : byte_at d q i ≡ byte_at c q i). inl (h ∙ k))
      (λ (k : (byte_at d q i ≡ slice_index (m q) i) ⊎ (byte_at d q i ≡ slice_index (m q) i)). ⊎_elim
      (λ (n : byte_at d q i ≡ slice_index (m q) i). inr (inl (h ∙ n)))
      (λ (n : byte_at d q i ≡ slice_index (m q) i). inr (inl (h ∙ n)))
      k)
      (first.each q i))
      (λ (h : (byte_at e q i ≡ slice_index (m0 q) i) ⊎ ((byte_at e q i ≡ slice_index (m0 q) i) ⊎ ((gone q ≡ true) × (byte_at e q i ≡ 0)))). ⊎_elim
      (λ (k : byte_at e q i ≡ slice_index (m0 q) i). inr (inl (k ∙ was)))
      (λ (k : (byte_at e q i ≡ slice_index (m0 q) i) ⊎ ((gone q ≡ true) × (byte_at e q i ≡ 0))). ⊎_elim
      (λ (n : byte_at e q i ≡ slice_index (m0 q) i). inr (inl (n ∙ was)))
      (λ (n : (gone q ≡ true) × (byte_at e q i ≡ 0)). inr (inr (inr n)))
      k)
      h)
      (second.each q i);
}

-- no removal is a removal of nothing
pub none_gone : (gone : ℕ → Bool) (m : ℕ → List ℕ) (c d : Pages) → IsMixture m m c d → IsMixtureOrGone gone m m c d
none_gone gone m c d first = record {
  each = λ q i. ⊎_elim
      (λ (k : byte_at d q i ≡ byte_at c q i). inl k)
      (λ (k : (byte_at d q i ≡ slice_index (m q) i) ⊎ (byte_at d q i ≡ slice_index (m q) i)). ⊎_elim
      (λ (n : byte_at d q i ≡ slice_index (m q) i). inr (inl n))
      (λ (n : byte_at d q i ≡ slice_index (m q) i). inr (inl n))
      k)
      (first.each q i);
}

-- a read of a page, and then a removal
module _ {P O : Type 0} {g : DiskGhosts P} {r : RuleGhosts O} (gone : ℕ → Bool) (b0 b1 b2 : SlruBank P O g r) where
  pub read_crash : CrashKeeps b0 b1 → CrashMayLack gone b0 b1
  read_crash keeps told = wider g.images g.moment g.left_at (IsMixture (pages_of b0) (pages_of b0)) (IsMixtureOrGone gone (pages_of b0) (pages_of b0)) b0.disk b1.disk (none_gone gone (pages_of b0)) (keeps told)

  pub trim_crash : (d : P) → d ≡ b2.disk → (IsTrue g.tells → SamePages b0 b1) → CrashKeeps b0 b1 → CrashMayLack gone b1 b2
      → IsTrue g.tells → CrashLeaves (IsMixtureOrGone gone (pages_of b0) (pages_of b0)) g.images g.moment g.left_at b0.disk d
  trim_crash d is same keeps lacks told =
      let m = pages_of b0 in
      let m1 = pages_of b1 in
      subst (λ (e : P). CrashLeaves (IsMixtureOrGone gone (pages_of b0) (pages_of b0)) g.images g.moment g.left_at b0.disk e) (sym is) (runs_then g.images g.moment g.left_at (IsMixture m m) (IsMixtureOrGone gone m1 m1) (IsMixtureOrGone gone m m) b0.disk b1.disk b2.disk
      (none_gone gone m) (λ x y z s t. same_then_gone gone m m1 x y z (same told) s t) (keeps told) (lacks told))

pub trims_ok : (r : Result (Unit {0}) BankRefusal) (page place : ℕ) (m old mid new : ℕ → List ℕ) → place % 4 ≢ 0 → place < 32768 → SameMap m old → ClearsAfter Ids 32768 page (place / 4 + 1) old mid → OnOk r (StaysAPage page mid new)
    → OnOk r (PutsPage page (slice_set (mid page) (place / 4) (masked (slice_index (mid page) (place / 4)) (256 - times_4 1 (place % 4)) 0)) mid new) → OnOk r (TrimsStates page place m new)
trims_ok (Ok x) page place m old mid new odd within same clears pages puts = trims_same page place m old new same (trims_set page place old mid new odd within clears pages.was puts)
trims_ok (Err e) page place m old mid new odd within same clears pages puts = tt
