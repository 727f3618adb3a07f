-- A slot of members is set, and the other slots stay.
use Rattle.std.proofs.Common.{◌≡◌, ◌≢◌, ◌⊎◌, inl, inr, ⊎_elim, ℕ, zero, suc, ◌+◌, ◌/◌, ◌<◌, ◌≤◌, ◌==◌, ◌&&◌, Bool, true, false, List, length, take, drop, slice_index, slice_set, Result, Ok, Err, OnOk, refl, sym, ◌∙◌, ap, subst, arith}
use Rattle.std.proofs.lemmas.Bool.{eqb-true}
use Rattle.std.proofs.lemmas.List.{get_or-drop, get_or-take, get_or-set_same, get_or-set_other}
use Rattle.tx_events.specs.PageOrder.{Offsets}
use Rattle.store_pages.specs.Layouts.{number_in}
use Rattle.tx_events.specs.Pages.{mode_at, id_at}
use Rattle.slru_bank.specs.Bank.{masked, PutsPage, StaysAPage}
use Rattle.slru_bank.specs.Removal.{ClearsAfter}
use Rattle.slru_bank.specs.ByteRange.{PutsNumber, other_number, cleared_before, cleared_past, cleared_number_before, cleared_number_past}
use Rattle.slru_bank.specs.declared.refusal.BankRefusal.{BankRefusal}
use Rattle.bank_stores.specs.Changes.{SetsMember, TrimsMembers}

-- ---- a byte as a whole is set

every : ℕ → (ℕ → Bool) → Bool
every zero f = true
every (suc n) f = f n && every n f

left : (r s : Bool) → (r && s) ≡ true → r ≡ true
left true s e = refl
left false s e = e

right : (r s : Bool) → (r && s) ≡ true → s ≡ true
right true s e = e
right false s e = absurd cc

or_below : (i n : ℕ) → i < suc n → (i ≡ n) ⊎ (i < n)
or_below i n h = grind arith

each : (n : ℕ) (f : ℕ → Bool) (i : ℕ) → i < n → every n f ≡ true → f i ≡ true
unfolding every
each zero f i within all = absurd (omega arith)
each (suc n) f i within all = ⊎_elim (λ (e : i ≡ n). subst (λ (k : ℕ). f k ≡ true) (sym e) (left (f n) (every n f) all)) (λ (h : i < n). each n f i h (right (f n) (every n f) all)) (or_below i n within)

all_set : every 256 (λ b. every 6 (λ s. masked b 255 s == s)) ≡ true
unfolding every
all_set = refl

whole_byte : (b s : ℕ) → b < 256 → s ≤ 5 → masked b 255 s ≡ s
whole_byte b s b_small s_small = eqb-true (masked b 255 s) s (each 6 (λ s. masked b 255 s == s) s (omega arith) (each 256 (λ b. every 6 (λ s. masked b 255 s == s)) b b_small all_set))

-- ---- places on a page

-- ---- what was read from a mode on

pub mode_read : (xs : List ℕ) (at n : ℕ) → 1 ≤ n → slice_index (take n (drop at xs)) 0 ≡ slice_index xs at
mode_read xs at n some = let e : at + 0 ≡ at = omega arith in get_or-take n (drop at xs) 0 0 (omega arith) ∙ get_or-drop at xs 0 0 ∙ ap (λ (i : ℕ). slice_index xs i) e

-- a byte of it
byte_read : (xs : List ℕ) (at n i k : ℕ) → i < n → at + i ≡ k → slice_index (take n (drop at xs)) i ≡ slice_index xs k
byte_read xs at n i k within e = get_or-take n (drop at xs) i 0 within ∙ get_or-drop at xs i 0 ∙ ap (λ (i : ℕ). slice_index xs i) e

pub number_read : (xs : List ℕ) (at n i k : ℕ) → i + 4 ≤ n → at + i ≡ k → number_in (take n (drop at xs)) i ≡ number_in xs k
number_read xs at n i k within e =
    let b0 = byte_read xs at n i k (omega arith) e in
    let b1 = byte_read xs at n (i + 1) (k + 1) (omega arith) (omega arith) in
    let b2 = byte_read xs at n (i + 2) (k + 2) (omega arith) (omega arith) in
    let b3 = byte_read xs at n (i + 3) (k + 3) (omega arith) (omega arith) in
    rw (b0, b1, b2, b3) refl

either_way : (a b : ℕ) → (a < b) ⊎ ((a ≡ b) ⊎ (b < a))
either_way a b = grind arith

-- no mode lies in an id
mode_apart : (k n : ℕ) → (mode_at k < id_at n) ⊎ (id_at n + 4 ≤ mode_at k)
mode_apart k n = ⊎_elim (λ (h : k / 4 < n / 4). inl (omega arith)) (⊎_elim (λ (h : k / 4 ≡ n / 4). inl (omega arith)) (λ (h : n / 4 < k / 4). inr (omega arith))) (either_way (k / 4) (n / 4))

id_apart : (k n : ℕ) → k ≢ n → (id_at k + 4 ≤ id_at n) ⊎ (id_at n + 4 ≤ id_at k)
id_apart k n differs = ⊎_elim (λ (h : k < n). inl (omega arith)) (⊎_elim (λ (h : k ≡ n). absurd (differs h)) (λ (h : n < k). inr (omega arith))) (either_way k n)

other_mode : (k n : ℕ) → k ≢ n → mode_at k ≢ mode_at n
other_mode k n differs = omega arith

id_not_mode : (k n j : ℕ) → j < 4 → id_at k + j ≢ mode_at n
id_not_mode k n j within = omega arith

-- ---- one byte, and then four

-- a number whose bytes stay
number_stays : (xs : List ℕ) (k at v : ℕ) → k ≢ at → k + 1 ≢ at → k + 2 ≢ at → k + 3 ≢ at → number_in (slice_set xs at v) k ≡ number_in xs k
number_stays xs k at v d0 d1 d2 d3 =
    let b0 : slice_index (slice_set xs at v) k ≡ slice_index xs k = get_or-set_other xs at k v 0 d0 in
    let b1 : slice_index (slice_set xs at v) (k + 1) ≡ slice_index xs (k + 1) = get_or-set_other xs at (k + 1) v 0 d1 in
    let b2 : slice_index (slice_set xs at v) (k + 2) ≡ slice_index xs (k + 2) = get_or-set_other xs at (k + 2) v 0 d2 in
    let b3 : slice_index (slice_set xs at v) (k + 3) ≡ slice_index xs (k + 3) = get_or-set_other xs at (k + 3) v 0 d3 in
    rw (b0, b1, b2, b3) refl

-- the mode was set
pub record SetsMode (page place byte : ℕ) (m m1 : ℕ → List ℕ) : Type 0 where
  pub pages : StaysAPage page m m1
  pub puts : PutsPage page (slice_set (m page) (mode_at place) (masked (slice_index (m page) (mode_at place)) 255 byte)) m m1

pub sets_member : (m m1 m2 : ℕ → List ℕ) (page place byte number : ℕ) → place < 1636 → byte ≤ 5 → SetsMode page place byte m m1 → PutsNumber page (id_at place) number m1 m2 → SetsMember page place byte number m m2
sets_member m m1 m2 page place byte number within small first second =
    let at : ℕ = mode_at place in
    let v : ℕ = masked (slice_index (m page) (mode_at place)) 255 byte in
    let long : length (m page) ≡ 8192 = first.pages.was.whole in
    let is : v ≡ byte = whole_byte (slice_index (m page) (mode_at place)) byte (first.pages.was.small (mode_at place)) small in
    let set : slice_index (slice_set (m page) (mode_at place) v) (mode_at place) ≡ v = get_or-set_same (m page) (mode_at place) v 0 (omega arith) in
    record {
      mode = second.bytes (mode_at place) (mode_apart place place) ∙ ap (λ (l : List ℕ). slice_index l (mode_at place)) first.puts.here ∙ set ∙ is;
      id = second.here;
      same_page = λ k k_within differs. record {
        mode = second.bytes (mode_at k) (mode_apart k place) ∙ ap (λ (l : List ℕ). slice_index l (mode_at k)) first.puts.here ∙ get_or-set_other (m page) (mode_at place) (mode_at k) v 0 (other_mode k place differs);
        id = other_number page (id_at place) number m1 m2 (id_at k) second (id_apart k place differs) ∙ ap (λ (l : List ℕ). number_in l (id_at k)) first.puts.here
            ∙ number_stays (m page) (id_at k) (mode_at place) v (omega (arith, id_not_mode k place 0 (omega arith))) (id_not_mode k place 1 (omega arith)) (id_not_mode k place 2 (omega arith)) (id_not_mode k place 3 (omega arith));
      };
      tail = λ i past. second.bytes i (inr (omega arith)) ∙ ap (λ (l : List ℕ). slice_index l i) first.puts.here ∙ get_or-set_other (m page) (mode_at place) i v 0 (omega arith);
      pages = record { was = first.pages.was; is = second.pages.is };
      others = λ q apart. second.others q apart ∙ first.puts.others q apart;
    }

pub sets_member_ok : (r : Result (Unit {0}) BankRefusal) (m m1 m2 : ℕ → List ℕ) (page place byte number : ℕ) → place < 1636 → byte ≤ 5 → SetsMode page place byte m m1 → OnOk r (PutsNumber page (id_at place) number m1 m2) → OnOk r (SetsMember page place byte number m m2)
sets_member_ok (Ok x) m m1 m2 page place byte number within small first second = sets_member m m1 m2 page place byte number within small first second
sets_member_ok (Err e) m m1 m2 page place byte number within small first second = tt

-- ---- slots from one on are cleared

pub trims_members : {E : Type 0} (r : Result (Unit {0}) E) (page place : ℕ) (old new : ℕ → List ℕ) → OnOk r (ClearsAfter Offsets 1636 page (id_at place) old new) → OnOk r (TrimsMembers page place old new)
trims_members (Ok x) page place old new clears = record {
  kept = λ k below. record {
    mode = ap (λ (l : List ℕ). slice_index l (mode_at k)) clears.here ∙ cleared_before (old page) (id_at place) (mode_at k) (omega arith);
    id = ap (λ (l : List ℕ). number_in l (id_at k)) clears.here ∙ cleared_number_before (old page) (id_at place) (id_at k) (omega arith);
  };
  before = λ i below. ap (λ (l : List ℕ). slice_index l i) clears.here ∙ cleared_before (old page) (id_at place) i below;
  past = λ i from. ap (λ (l : List ℕ). slice_index l i) clears.here ∙ cleared_past (old page) (id_at place) i from;
  cleared = λ k from within. ap (λ (l : List ℕ). number_in l (id_at k)) clears.here ∙ cleared_number_past (old page) (id_at place) (id_at k) (omega arith);
  zeros = clears.zeros;
  stay = clears.stay;
}
trims_members (Err e) page place old new clears = tt
