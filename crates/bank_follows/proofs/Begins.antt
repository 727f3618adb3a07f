-- What a bank that was just opened shows.
use Rattle.std.proofs.Common.{Bool, List, None, Some, [], ap, arith, cond, false, inl, refl, subst, suc, sym, true, zero, ℕ, ⊎_elim, ◌+◌, ◌*◌, ◌/◌, ◌%◌, ◌==◌, ◌<◌, ◌^◌, ◌∙◌, ◌≡◌}
use Rattle.std.proofs.lemmas.Bool.{eqb-true}
use Rattle.std.specs.List.{slice_index}
use Rattle.disk_core.specs.Pages.{Pages, page_bytes, zero_page}
use Rattle.store_pages.specs.Layouts.{bits_at, member_page_of, member_place_of, mode_place_of, number_in, state_in, word_page_of, word_place_of, xact_page_of, xact_place_of}
use Rattle.slru_bank.proofs.ZeroBytes.{zero_byte}
use Rattle.recoverable.specs.Images.{IsAsWanted, Now}
use Rattle.recoverable.specs.Bytes.{byte_held, slot_place_of}
use Rattle.recoverable.specs.XactImages.{code_of}
use Rattle.bank_follows.specs.Begins.{BanksOpen, OpenedShows, PagesShowWhatTheyHold, ShowsFirst, ZerosShowNothing, offset_bytes_on, slot_bytes_on, state_of_code}
use Rattle.bank_follows.specs.Cells.{Cells, ImageShows, value_in}
use Rattle.bank_follows.specs.Stores.{IsMemberAt, IsOffsetAt, IsParentAt, IsXactAt, member_cells, offset_cells, parent_cells, xact_cells}
use Rattle.bank_follows.proofs.Bytes.{which}
use Rattle.bank_follows.proofs.Calls.{IsStore}
use Rattle.bank_follows.proofs.SlotSetting.{in_four}
use Rattle.bank_follows.proofs.Steps.{since_now}
use Rattle.bank_follows.proofs.Stores.{members_are, offsets_are, parents_are, xact_is}

-- an image with the bytes of pages that show what the life begins with
pub first_shown : {I V : Type 0} (s : Cells I V) (Asked : ℕ → Type 0) (pages : ℕ → List ℕ) (c : Pages) → ShowsFirst s Asked pages → ((q : ℕ) → page_bytes (c q) ≡ pages q) → ImageShows s Asked [] c
first_shown s Asked pages c first same x i asked lt =
    since_now s.reading (s.wanted i) [] x (s.page x) (s.value x (slice_index (page_bytes (c (s.page x))) (s.at x i)))
    (subst (λ (l : List ℕ). Now s.reading (s.wanted i) [] [] x (s.page x) (s.value x (slice_index l (s.at x i)))) (sym (same (s.page x))) (inl (first x i asked lt)))

module _ {D : Type 0} (images : D → Pages → Type 0) (moment : D → ℕ) (left_at : D → ℕ → Pages → Type 0) where
  opened_shows : {I V : Type 0} (s : Cells I V) (Asked : ℕ → Type 0) → OpenedShows images moment left_at s Asked
  opened_shows s Asked pages cutoff d opened =
      let now : (x i : ℕ) → Asked x → i < s.pieces → Now s.reading (s.wanted i) [] [] x (s.page x) (value_in s pages x i) = λ x i asked lt. inl (opened.first x i asked lt) in
      record {
        map = now;
        left = λ c left. first_shown s Asked pages c opened.first (opened.durable c left);
        cut = (s.reading.ring.kept, inl refl, opened.kept);
      }

  pub banks_open : BanksOpen images moment left_at
  banks_open start bank = record {
    xact = λ shown. opened_shows (xact_cells start shown) (IsXactAt start bank);
    parents = opened_shows (parent_cells start) (IsParentAt start bank);
    offsets = λ shown. opened_shows (offset_cells start shown) (IsOffsetAt start bank);
    members = λ shown. opened_shows (member_cells start shown) (IsMemberAt start bank);
  }

-- ---- pages of zeros

zeros_first : {I V : Type 0} (s : Cells I V) (Asked : ℕ → Type 0) → IsStore s → (pages : ℕ → List ℕ) → ((q : ℕ) → q < 2 ^ 32 → pages q ≡ zero_page) → ((x : ℕ) → s.page x < 2 ^ 32) → ((x : ℕ) → s.reading.shown x ≡ None) → ShowsFirst s Asked pages
zeros_first s Asked is pages zeros within none x i asked lt =
    let byte : slice_index (pages (s.page x)) (s.at x i) ≡ 0 = ap (λ (l : List ℕ). slice_index l (s.at x i)) (zeros (s.page x) (within x)) ∙ zero_byte (s.at x i) in
    let value : value_in s pages x i ≡ 0 = ap (s.value x) byte ∙ is.zero x in
    subst (λ o. IsAsWanted (s.wanted i o) (value_in s pages x i)) (sym (none x)) (subst (IsAsWanted (s.wanted i None)) (sym value) (is.none i lt))

xact_within : (x : ℕ) → xact_page_of x < 2 ^ 32
xact_within x = omega arith

word_within : (x : ℕ) → word_page_of x < 2 ^ 32
word_within x = omega arith

member_within : (x : ℕ) → member_page_of x < 2 ^ 32
member_within x = omega arith

pub zeros_show_nothing : ZerosShowNothing
zeros_show_nothing start bank pages zeros = record {
  xact = zeros_first (xact_cells start (λ x. None)) (IsXactAt start bank) (xact_is start (λ x. None)) pages zeros xact_within (λ x. refl);
  parents = zeros_first (parent_cells start) (IsParentAt start bank) (parents_are start) pages zeros word_within (λ x. refl);
  offsets = zeros_first (offset_cells start (λ x. None)) (IsOffsetAt start bank) (offsets_are start (λ x. None)) pages zeros word_within (λ x. refl);
  members = zeros_first (member_cells start (λ x. None)) (IsMemberAt start bank) (members_are start (λ x. None)) pages zeros member_within (λ x. refl);
}

-- ---- pages that hold something

-- the lock of a bank of a store tells the bank
same_bank : (first a b : ℕ) → first + 4 * a ≡ first + 4 * b → a ≡ b
same_bank first a b e = omega arith

pub bits_small : (byte k : ℕ) → bits_at byte k < 4
bits_small byte zero = omega arith
bits_small byte (suc k) = bits_small (byte / 4) k

code_back : (code : ℕ) → code < 4 → code_of (state_of_code code) ≡ code
code_back zero lt = refl
code_back (suc zero) lt = refl
code_back (suc (suc zero)) lt = refl
code_back (suc (suc (suc n))) lt = omega arith

-- a number is 0 where each of its bytes is
pub zero_bytes : (bytes : List ℕ) (place i : ℕ) → number_in bytes place ≡ 0 → i < 4 → slice_index bytes (place + i) ≡ 0
zero_bytes bytes place i zeros lt =
    let all = none (slice_index bytes place) (slice_index bytes (place + 1)) (slice_index bytes (place + 2)) (slice_index bytes (place + 3)) zeros in
    let first : slice_index bytes (place + 0) ≡ slice_index bytes place = ap (λ k. slice_index bytes k) (let z : place + 0 ≡ place = omega arith in z) in
    ⊎_elim
    (λ (q : i ≡ 0). subst (λ z. slice_index bytes (place + z) ≡ 0) (sym q) (first ∙ all.0))
    (λ h. ⊎_elim
    (λ (q : i ≡ 1). subst (λ z. slice_index bytes (place + z) ≡ 0) (sym q) all.1)
    (λ k. ⊎_elim (λ (q : i ≡ 2). subst (λ z. slice_index bytes (place + z) ≡ 0) (sym q) all.2) (λ (q : i ≡ 3). subst (λ z. slice_index bytes (place + z) ≡ 0) (sym q) all.3) k) h)
    (which i lt)
  where
    none : (b0 b1 b2 b3 : ℕ) → b0 + 256 * (b1 + 256 * (b2 + 256 * b3)) ≡ 0 → (b0 ≡ 0) × (b1 ≡ 0) × (b2 ≡ 0) × (b3 ≡ 0)
    none b0 b1 b2 b3 e = (omega arith, omega arith, omega arith, omega arith)

pub offset_held : (bytes : List ℕ) (x i : ℕ) → i < 4 → slice_index bytes (word_place_of x + i) ≡ byte_held (offset_bytes_on bytes x) i
offset_held bytes x i lt =
    let step : (b : Bool) → (number_in bytes (word_place_of x) == 0) ≡ b → slice_index bytes (word_place_of x + i) ≡ byte_held (cond b None (Some (λ i. slice_index bytes (word_place_of x + i)))) i = elim [
      | true ↦ λ q. zero_bytes bytes (word_place_of x) i (eqb-true (number_in bytes (word_place_of x)) 0 q) lt
      | false ↦ λ q. refl
    ] in
    step (number_in bytes (word_place_of x) == 0) refl

pub slot_held : (bytes : List ℕ) (x i : ℕ) → i < 5 → slice_index bytes (slot_place_of x i) ≡ byte_held (slot_bytes_on bytes x) i
slot_held bytes x i lt =
    let id : ℕ = number_in bytes (member_place_of x) in
    let mode : ℕ = slice_index bytes (mode_place_of x) in
    let zeros : id + mode ≡ 0 → (b : Bool) → (i == 4) ≡ b → slice_index bytes (cond b (mode_place_of x) (member_place_of x + i)) ≡ 0 = λ none. elim [
      | true ↦ λ q. (omega arith)
      | false ↦ λ q. zero_bytes bytes (member_place_of x) i (omega arith) (in_four i lt q)
    ] in
    let step : (b : Bool) → (id + mode == 0) ≡ b → slice_index bytes (slot_place_of x i) ≡ byte_held (cond b None (Some (λ i. slice_index bytes (slot_place_of x i)))) i = elim [
      | true ↦ λ q. zeros (eqb-true (id + mode) 0 q) (i == 4) refl
      | false ↦ λ q. refl
    ] in
    step (id + mode == 0) refl

pub pages_show_what_they_hold : PagesShowWhatTheyHold
pages_show_what_they_hold start bank pages = record {
  xact = λ x i at lt.
      subst (λ b. state_in (pages bank (xact_page_of x)) (xact_place_of x) ≡ code_of (state_of_code (state_in (pages b (xact_page_of x)) (xact_place_of x)))) (sym (same_bank 3 (xact_page_of x % start.banks) bank at.on))
      (sym (code_back (state_in (pages bank (xact_page_of x)) (xact_place_of x)) (bits_small (slice_index (pages bank (xact_page_of x)) (xact_place_of x / 4)) (xact_place_of x % 4))));
  offsets = λ x i at lt.
      subst (λ b. slice_index (pages bank (word_page_of x)) (word_place_of x + i) ≡ byte_held (offset_bytes_on (pages b (word_page_of x)) x) i) (sym (same_bank 5 (word_page_of x % start.banks) bank at.on))
      (offset_held (pages bank (word_page_of x)) x i lt);
  members = λ x i at lt.
      subst (λ b. slice_index (pages bank (member_page_of x)) (slot_place_of x i) ≡ byte_held (slot_bytes_on (pages b (member_page_of x)) x) i) (sym (same_bank 6 (member_page_of x % start.banks) bank at.on))
      (slot_held (pages bank (member_page_of x)) x i lt);
}
