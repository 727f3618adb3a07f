-- Numbers and bytes that are put on a page.
use Rattle.std.proofs.Common.{◌≡◌, ◌⊎◌, inl, inr, ⊎_elim, ℕ, ◌+◌, ◌-◌, ◌*◌, ◌/◌, ◌%◌, ◌<◌, ◌≤◌, ◌==◌, ◌^◌, Bool, false, cond, List, [], ◌∷◌, slice_index, Result, Ok, Err, OnOk, OnErr, IsTrue, sym, ap, subst, arith, ◌∙◌}
use Rattle.std.proofs.lemmas.Bool.Decides.{nat_tests}
use Rattle.tx_events.specs.Ids.{low_half}
use Rattle.tx_events.specs.Modes.{mode_number}
use Rattle.tx_events.specs.PageOrder.{is_cut}
use Rattle.tx_events.specs.declared.multi.Member.{Member}
use Rattle.store_pages.specs.Layouts.{member_page_of, member_place_of, mode_place_of, number_in, word_page_of, word_place_of}
use Rattle.slru_bank.specs.Bank.{PutsPage, StaysAPage, placed}
use Rattle.slru_bank.specs.ByteRange.{PutsNumber, placed_before, placed_in, placed_past}
use Rattle.tx_core.specs.StoredBytes.{byte_of, slot_bytes, slot_place_of}
use Rattle.replay_multis.specs.Named.{IsSlotByte, IsWordByte}
use Rattle.disk_core.specs.declared.page_disk.PageDisk as disks
use Rattle.store_pages.specs.declared.page_rule.PageRule as rules
use Rattle.slru_bank.specs.Calls.{CallsBank, IsCut, SamePages, cutoff_of, pages_of}
use Rattle.slru_bank.specs.declared.bank.SlruBank.{SlruBank}
use Rattle.slru_bank.specs.declared.refusal.BankRefusal.{BankRefusal}
use Rattle.replay_multis.specs.Steps.{Changes, HoldsNamed, MayStand, RedoesBank}
use Rattle.replay_multis.proofs.Stepping.{same_named, same_or_not, steps_call, way}

which : (i : ℕ) → i < 4 → (i ≡ 0) ⊎ ((i ≡ 1) ⊎ ((i ≡ 2) ⊎ (i ≡ 3)))
which i lt = grind arith

-- the bytes of four that make a number
bytes_of : (b0 b1 b2 b3 n : ℕ) → b0 < 256 → b1 < 256 → b2 < 256 → b3 < 256 → b0 + 256 * (b1 + 256 * (b2 + 256 * b3)) ≡ n % 2 ^ 32
    → (b0 ≡ n % 256) × (b1 ≡ n / 256 % 256) × (b2 ≡ n / 65536 % 256) × (b3 ≡ n / 16777216 % 256)
bytes_of b0 b1 b2 b3 n s0 s1 s2 s3 e = (omega arith, omega arith, omega arith, omega arith)

byte_in : (bytes : List ℕ) (at n i : ℕ) → ((j : ℕ) → slice_index bytes j < 256) → number_in bytes at ≡ low_half n → i < 4 → slice_index bytes (at + i) ≡ byte_of n i
byte_in bytes at n i small e lt =
    let all = bytes_of (slice_index bytes at) (slice_index bytes (at + 1)) (slice_index bytes (at + 2)) (slice_index bytes (at + 3)) n (small at) (small (at + 1)) (small (at + 2)) (small (at + 3)) e in
    let first : slice_index bytes (at + 0) ≡ slice_index bytes at = ap (λ k. slice_index bytes k) (let z : at + 0 ≡ at = omega arith in z) in
    ⊎_elim
    (λ (q : i ≡ 0). subst (λ z. slice_index bytes (at + z) ≡ byte_of n z) (sym q) (first ∙ all.0 ∙ (let z : n % 256 ≡ byte_of n 0 = omega arith in z)))
    (λ h. ⊎_elim
    (λ (q : i ≡ 1). subst (λ z. slice_index bytes (at + z) ≡ byte_of n z) (sym q) (all.1 ∙ (let z : n / 256 % 256 ≡ byte_of n 1 = omega arith in z)))
    (λ k. ⊎_elim
    (λ (q : i ≡ 2). subst (λ z. slice_index bytes (at + z) ≡ byte_of n z) (sym q) (all.2 ∙ (let z : n / 65536 % 256 ≡ byte_of n 2 = omega arith in z)))
    (λ (q : i ≡ 3). subst (λ z. slice_index bytes (at + z) ≡ byte_of n z) (sym q) (all.3 ∙ (let z : n / 16777216 % 256 ≡ byte_of n 3 = omega arith in z)))
    k) h)
    (which i lt)

-- a byte lies in a range of four, or not
range : (at i : ℕ) → ((k : ℕ) × (k < 4) × (i ≡ at + k)) ⊎ ((i < at) ⊎ (at + 4 ≤ i))
range at i = ⊎_elim (λ (l : i < at). inr (inl l)) (λ (h : at ≤ i). ⊎_elim (λ (s : i < at + 4). inl (i - at, omega (arith, h, s), omega (arith, h))) (λ (p : at + 4 ≤ i). inr (inr p)) (way i (at + 4))) (way i at)

-- the four bytes of a number at a place
abbrev pub IsNumberByte : ℕ → ℕ → ℕ → MayStand
IsNumberByte page at number q i b = (k : ℕ) × (k < 4) × (q ≡ page) × (i ≡ at + k) × (b ≡ byte_of number k)

module _ (page at number : ℕ) (m m1 : ℕ → List ℕ) (puts : PutsNumber page at (low_half number) m m1) where
  here : (k : ℕ) → k < 4 → slice_index (m1 page) (at + k) ≡ byte_of number k
  here k lt = byte_in (m1 page) at number k puts.pages.is.small puts.here lt

  pub number_changes : Changes (IsNumberByte page at number) m m1
  number_changes q i lt = ⊎_elim
      (λ (on : q ≡ page). ⊎_elim
      (λ (r : (k : ℕ) × (k < 4) × (i ≡ at + k)). inr (r.0, r.1, on, r.2, ap (λ z. slice_index (m1 z) i) on ∙ ap (λ z. slice_index (m1 page) z) r.2 ∙ here r.0 r.1))
      (λ out. inl (ap (λ z. slice_index (m1 z) i) on ∙ puts.bytes i out ∙ ap (λ z. slice_index (m z) i) (sym on)))
      (range at i))
      (λ (off : q ≡ page → ⊥). inl (ap (λ (l : List ℕ). slice_index l i) (puts.others q off)))
      (same_or_not q page)

  pub number_holds : HoldsNamed (IsNumberByte page at number) m1
  number_holds q i b lt n = (n.0, n.1, n.2, n.3, ap (λ z. slice_index (m1 z) i) n.2 ∙ ap (λ z. slice_index (m1 page) z) n.3 ∙ here n.0 n.1)

-- one byte at a place
abbrev pub IsByteAt : ℕ → ℕ → ℕ → MayStand
IsByteAt page at byte q i b = (q ≡ page) × (i ≡ at) × (b ≡ byte)

module _ (page at byte : ℕ) (m m1 : ℕ → List ℕ) (inside : at < 8192) (pages : StaysAPage page m m1) (puts : PutsPage page (placed (m page) at (byte ∷ [])) m m1) where
  byte_here : slice_index (m1 page) at ≡ byte
  byte_here =
      let long = pages.was.whole in
      let e : at + 0 ≡ at = omega arith in
      ap (λ (l : List ℕ). slice_index l at) puts.here ∙ ap (λ z. slice_index (placed (m page) at (byte ∷ [])) z) (sym e) ∙ placed_in (m page) (byte ∷ []) at 0 (omega arith) (omega arith)

  byte_away : (i : ℕ) → (i ≡ at → ⊥) → slice_index (m1 page) i ≡ slice_index (m page) i
  byte_away i off =
      let long = pages.was.whole in
      ap (λ (l : List ℕ). slice_index l i) puts.here
      ∙ ⊎_elim (λ (l : i < at). placed_before (m page) (byte ∷ []) at i (omega arith) l)
      (λ (h : at ≤ i). ⊎_elim (λ (s : i < at + 1). absurd (off (omega (arith, h, s)))) (λ (p : at + 1 ≤ i). placed_past (m page) (byte ∷ []) at i (omega arith) p) (way i (at + 1)))
      (way i at)

  pub byte_changes : Changes (IsByteAt page at byte) m m1
  byte_changes q i lt = ⊎_elim
      (λ (on : q ≡ page). ⊎_elim
      (λ (e : i ≡ at). inr (on, e, ap (λ z. slice_index (m1 z) i) on ∙ ap (λ z. slice_index (m1 page) z) e ∙ byte_here))
      (λ off. inl (ap (λ z. slice_index (m1 z) i) on ∙ byte_away i off ∙ ap (λ z. slice_index (m z) i) (sym on)))
      (same_or_not i at))
      (λ (off : q ≡ page → ⊥). inl (ap (λ (l : List ℕ). slice_index l i) (puts.others q off)))
      (same_or_not q page)

  pub byte_holds : HoldsNamed (IsByteAt page at byte) m1
  byte_holds q i b lt n = (n.0, n.1, ap (λ z. slice_index (m1 z) i) n.0 ∙ ap (λ z. slice_index (m1 page) z) n.1 ∙ byte_here)

-- ---- those of an offset, and of a slot

pub word_bytes : (multi offset q i b : ℕ) → IsNumberByte (word_page_of multi) (word_place_of multi) offset q i b → IsWordByte multi offset q i b
word_bytes multi offset q i b n = record { k = n.0; small = n.1; page = n.2; place = n.3; byte = n.4 }

pub bytes_word : (multi offset q i b : ℕ) → IsWordByte multi offset q i b → IsNumberByte (word_page_of multi) (word_place_of multi) offset q i b
bytes_word multi offset q i b w = (w.k, w.small, w.page, w.place, w.byte)

not_mode : (k : ℕ) → k < 4 → (k == 4) ≡ false
not_mode k lt = grind (arith, nat_tests)

is_mode : (k : ℕ) → k < 5 → (k < 4) ⊎ (k ≡ 4)
is_mode k lt = grind arith

pub id_slot : (offset : ℕ) (member : Member) (q i b : ℕ) → IsNumberByte (member_page_of offset) (member_place_of offset) member.id q i b → IsSlotByte offset member q i b
id_slot offset member q i b n =
    let t = not_mode n.0 n.1 in
    record {
      k = n.0;
      small = omega (arith, n.1);
      page = n.2;
      place = n.3 ∙ sym (ap (λ (z : Bool). cond z (mode_place_of offset) (member_place_of offset + n.0)) t);
      byte = n.4 ∙ sym (ap (λ (z : Bool). cond z (mode_number member.mode) (byte_of member.id n.0)) t);
    }

pub mode_slot : (offset : ℕ) (member : Member) (q i b : ℕ) → IsByteAt (member_page_of offset) (mode_place_of offset) (mode_number member.mode) q i b → IsSlotByte offset member q i b
mode_slot offset member q i b n = record { k = 4; small = omega arith; page = n.0; place = n.1; byte = n.2 }

pub slot_parts : (offset : ℕ) (member : Member) (q i b : ℕ) → IsSlotByte offset member q i b
    → IsByteAt (member_page_of offset) (mode_place_of offset) (mode_number member.mode) q i b ⊎ IsNumberByte (member_page_of offset) (member_place_of offset) member.id q i b
slot_parts offset member q i b s = ⊎_elim
    (λ (lt : s.k < 4). let t = not_mode s.k lt in
    inr (s.k, lt, s.page, s.place ∙ ap (λ (z : Bool). cond z (mode_place_of offset) (member_place_of offset + s.k)) t, s.byte ∙ ap (λ (z : Bool). cond z (mode_number member.mode) (byte_of member.id s.k)) t))
    (λ (e : s.k ≡ 4). inl (s.page, s.place ∙ ap (slot_place_of offset) e, s.byte ∙ ap (slot_bytes member) e))
    (is_mode s.k s.small)

-- ---- on a bank

module _ {P O : Type 0} {g : disks.Ghosts P} {r : rules.Ghosts O} where
  -- a number is put at a place of a page
  pub number_redone : (page at number : ℕ) (b0 b1 : SlruBank P O g r) (result : Result (Unit {0}) BankRefusal) → (IsCut page b0 → ⊥)
      → (IsTrue g.tells → OnOk result (PutsNumber page at (low_half number) (pages_of b0) (pages_of b1))) → (IsTrue g.tells → OnErr result (SamePages b0 b1)) → CallsBank page b0 b1 result
      → RedoesBank (IsNumberByte page at number) b0 b1 result
  number_redone page at number b0 b1 result kept puts same calls = record {
    steps = steps_call (IsNumberByte page at number) page b0 b1 result kept (λ told. changed result (puts told)) same calls;
    done = λ told. held result (puts told);
  }
    where
      changed : (result : Result (Unit {0}) BankRefusal) → OnOk result (PutsNumber page at (low_half number) (pages_of b0) (pages_of b1)) → OnOk result (Changes (IsNumberByte page at number) (pages_of b0) (pages_of b1))
      changed (Ok u) p = number_changes page at number (pages_of b0) (pages_of b1) p
      changed (Err e) p = tt

      held : (result : Result (Unit {0}) BankRefusal) → OnOk result (PutsNumber page at (low_half number) (pages_of b0) (pages_of b1)) → OnOk result (HoldsNamed (IsNumberByte page at number) (pages_of b1))
      held (Ok u) p = number_holds page at number (pages_of b0) (pages_of b1) p
      held (Err e) p = tt

  -- and a byte
  pub byte_redone : (page at byte : ℕ) (b0 b1 : SlruBank P O g r) (result : Result (Unit {0}) BankRefusal) → at < 8192 → (IsCut page b0 → ⊥)
      → (IsTrue g.tells → OnOk result (PutsPage page (placed (pages_of b0 page) at (byte ∷ [])) (pages_of b0) (pages_of b1))) → (IsTrue g.tells → OnOk result (StaysAPage page (pages_of b0) (pages_of b1)))
      → (IsTrue g.tells → OnErr result (SamePages b0 b1)) → CallsBank page b0 b1 result → RedoesBank (IsByteAt page at byte) b0 b1 result
  byte_redone page at byte b0 b1 result inside kept puts pages same calls = record {
    steps = steps_call (IsByteAt page at byte) page b0 b1 result kept (λ told. changed result (puts told) (pages told)) same calls;
    done = λ told. held result (puts told) (pages told);
  }
    where
      changed : (result : Result (Unit {0}) BankRefusal) → OnOk result (PutsPage page (placed (pages_of b0 page) at (byte ∷ [])) (pages_of b0) (pages_of b1)) → OnOk result (StaysAPage page (pages_of b0) (pages_of b1))
          → OnOk result (Changes (IsByteAt page at byte) (pages_of b0) (pages_of b1))
      changed (Ok u) p s = byte_changes page at byte (pages_of b0) (pages_of b1) inside s p
      changed (Err e) p s = tt

      held : (result : Result (Unit {0}) BankRefusal) → OnOk result (PutsPage page (placed (pages_of b0 page) at (byte ∷ [])) (pages_of b0) (pages_of b1)) → OnOk result (StaysAPage page (pages_of b0) (pages_of b1))
          → OnOk result (HoldsNamed (IsByteAt page at byte) (pages_of b1))
      held (Ok u) p s = byte_holds page at byte (pages_of b0) (pages_of b1) inside s p
      held (Err e) p s = tt

  -- a page that isn't cut isn't behind a call that keeps the cutoff
  pub still_kept : (page : ℕ) (b0 b1 : SlruBank P O g r) → cutoff_of b1 ≡ cutoff_of b0 → (IsCut page b0 → ⊥) → IsCut page b1 → ⊥
  still_kept page b0 b1 same kept cut = kept (subst (λ z. IsTrue (is_cut r.shape r.per_page z page)) same cut)

  pub word_redone : (multi offset : ℕ) (b0 b1 : SlruBank P O g r) (result : Result (Unit {0}) BankRefusal) → RedoesBank (IsNumberByte (word_page_of multi) (word_place_of multi) offset) b0 b1 result → RedoesBank (IsWordByte multi offset) b0 b1 result
  word_redone multi offset b0 b1 result s = same_named (IsNumberByte (word_page_of multi) (word_place_of multi) offset) (IsWordByte multi offset) b0 b1 result (word_bytes multi offset) (bytes_word multi offset) s
