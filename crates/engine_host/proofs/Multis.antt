-- Banks of pg_subtrans, over pages that show nothing, and of offsets and members, over pages that a clean start shows.
use Rattle.std.proofs.Common.{Bool, Contains, IsTrue, List, None, Option, Some, [], ap, arith, cond, inl, get_or, refl, subst, ℕ, ◌%◌, ◌*◌, ◌+◌, ◌<◌, ◌^◌, ◌∙◌, ◌≡◌, ◌≤◌}
use Rattle.std.specs.List.{slice_index}
use Rattle.disk_core.specs.Pages.{zero_page}
use Rattle.disk_core.specs.declared.page_disk.PageDisk as disks
use Rattle.slru_bank.proofs.ZeroBytes.{zero_byte}
use Rattle.slru_bank.specs.Calls.{IsDurable, cutoff_of, last_page, pages_of}
use Rattle.slru_bank.specs.declared.bank.SlruBank.{SlruBank}
use Rattle.store_pages.specs.declared.page_rule.PageRule as rules
use Rattle.store_pages.specs.Layouts.{member_page_of, member_place_of, mode_place_of, multi_before, number_in, word_page_of, word_place_of}
use Rattle.tx_events.specs.Base.{IsBase}
use Rattle.tx_events.specs.Ids.{id_before, low_half}
use Rattle.tx_events.specs.Limits.{stop_limit}
use Rattle.tx_events.specs.declared.record.Rec.{Rec}
use Rattle.tx_events.proofs.Membership.{contains_has}
use Rattle.tx_events.specs.LifeBase.{AreInOrder}
use Rattle.recoverable.proofs.BytesShow.{in_id}
use Rattle.tx_core.specs.CleanMultis.{CleanMembers, CleanOffsets}
use Rattle.tx_core.specs.StoredBytes.{HasZeroTails, StoredBytes, byte_held, slot_place_of}
use Rattle.tx_core.specs.declared.entry.Entry.{Entry}
use Rattle.tx_core.specs.Locks.{member_page_in_full, members_lock, offset_page, offsets_lock, subtrans_lock, subtrans_page}
use Rattle.engine_parts.specs.BankCourse.{HasNoParents, IsMemberOn, IsOffsetOn, IsOpenedOn, IsParentOn, MembersCame, OffsetsCame, ParentsCame, Rack, Came, member_rack, offset_rack, parent_rack}
use Rattle.engine_parts.specs.Shelves.{MembersStands, OffsetsStands, word_held}
use Rattle.engine_parts.specs.Stand.{SubtransStands}
use Rattle.engine_host.specs.declared.cluster.Cluster.{Cluster}
use Rattle.engine_host.specs.Opening.{Beginning, ShowMembers, ShowNothing, ShowOffsets, at_gate, life_from}
use Rattle.engine_host.proofs.Starting.{zero_number}

small_word : (n : ℕ) → word_page_of n < 2 ^ 32
small_word n = omega arith

small_member : (n : ℕ) → member_page_of n < 2 ^ 32
small_member n = omega arith

-- a clean start doesn't go by the counts of faults
module _ (c : Cluster) (b : Beginning) (gate : ℕ) (counts : List ℕ) where
  offsets_any : {shown : ℕ → Option StoredBytes} → CleanOffsets (life_from c b []) shown → CleanOffsets (life_from c (at_gate b gate) counts) shown
  offsets_any k = record { told = k.told; full = k.full; before = k.before; in_order = k.in_order; recorded = k.recorded; other = k.other; clean = k.clean }

  members_any : {shown : ℕ → Option StoredBytes} → CleanMembers (life_from c b []) shown → CleanMembers (life_from c (at_gate b gate) counts) shown
  members_any k = record { before = k.before; in_order = k.in_order; recorded = k.recorded; gap = k.gap; clean = k.clean; behind = k.behind }

-- the course of a bank that was just opened
module _ {I V R : Type 0} (k : Rack I V R) (Asked : ℕ → Type 0) (Clean : (ℕ → Option V) → Type 0) (Tails : (ℕ → List ℕ) → Type 0) {P O : Type 0} {g : disks.Ghosts P} {r : rules.Ghosts O} where
  came : (store : SlruBank P O g r) (before : ℕ → Option V) → Clean before → ((x i : ℕ) → Asked x → i < k.pieces → k.piece (pages_of store (k.shelf.page x)) x i ≡ k.held (before x) i) → Tails (pages_of store) → IsDurable store
      → last_page store ≡ k.shelf.store.page_of k.shelf.first % k.shelf.pages → cutoff_of store ≡ k.shelf.kept % k.shelf.pages → Came k Asked Clean Tails store []
  came store before clean shown tails durable last cutoff =
      let opened : IsOpenedOn k Asked Clean Tails store = record {
        before = before;
        clean = clean;
        shown = shown;
        tails = tails;
        durable = durable;
        last = last;
        cutoff = cutoff;
      } in
      (0, (refl, opened))

-- ---- pg_subtrans

before_upto : (n : ℕ) → id_before n ≤ n
before_upto n = grind arith

before_near : (n : ℕ) → n ≤ id_before n + 4
before_near n = grind arith

stop_tight : (oldest : ℕ) → stop_limit oldest + 2999990 ≤ oldest + 2 ^ 31
stop_tight oldest = grind arith

pub subtrans_begins : (c : Cluster) (b : Beginning) (bank faults last cutoff : ℕ) (tells : Bool) (bytes : ℕ → List ℕ) (led : List Entry → Type 0) (gate : ℕ) (counts : List ℕ) → IsBase c.base → bank < c.banks
    → get_or counts (subtrans_lock bank) 0 ≤ faults → last ≡ subtrans_page (low_half c.base.next) → cutoff ≡ subtrans_page (low_half (id_before c.base.next))
    → (IsTrue tells → ShowNothing bytes) → (IsTrue tells → led [])
    → SubtransStands (life_from c (at_gate b gate) counts) bank tells faults last cutoff bytes led []
subtrans_begins c b bank faults last cutoff tells bytes led gate counts base inside count last_is cutoff_is zeros begun = record {
  inside = inside;
  count = count;
  last_is = λ near. last_is ∙ low_page c.base.next;
  cutoff_is = (subtrans_page (id_before c.base.next), cutoff_is ∙ low_page (id_before c.base.next), omega arith, inl refl);
  near = (
    subtrans_page (id_before c.base.next),
    cutoff_is ∙ low_page (id_before c.base.next),
    (let old = base.oldest in let near = before_near c.base.next in omega arith, let next = base.next in let stop = stop_tight c.base.oldest in let upto = before_upto c.base.next in omega arith),
  );
  shown = λ told near. record {
    each = λ x used here kept. ap (λ page. number_in page (word_place_of x)) (zeros told (word_page_of x) (small_word x)) ∙ zero_number (word_place_of x);
  };
  course = begun;
}
  where
    low_page : (n : ℕ) → subtrans_page (low_half n) ≡ subtrans_page n % 2 ^ 21
    low_page n = omega arith

pub parents_came : {P O : Type 0} {g : disks.Ghosts P} {r : rules.Ghosts O} (c : Cluster) (b : Beginning) (bank : ℕ) (store : SlruBank P O g r) (gate : ℕ) (counts : List ℕ) → ShowNothing (pages_of store) → IsDurable store
    → last_page store ≡ subtrans_page (low_half c.base.next) → cutoff_of store ≡ subtrans_page (low_half (id_before c.base.next)) → ParentsCame (life_from c (at_gate b gate) counts) bank store []
parents_came c b bank store gate counts zeros durable last cutoff =
    came (parent_rack (life_from c (at_gate b gate) counts)) (IsParentOn (life_from c (at_gate b gate) counts) bank) HasNoParents (λ m. Unit {0}) store (λ x. None) (λ x. refl)
    (λ x i asked lt. ap (λ page. number_in page (word_place_of x)) (zeros (word_page_of x) (small_word x)) ∙ zero_number (word_place_of x)) tt durable
    (last ∙ low_page c.base.next) (cutoff ∙ low_page (id_before c.base.next))
  where
    low_page : (n : ℕ) → subtrans_page (low_half n) ≡ subtrans_page n % 2 ^ 21
    low_page n = omega arith

-- ---- the stores of multixacts

-- a number by its bytes
held_word : (o : Option StoredBytes) → byte_held o 0 + 256 * (byte_held o 1 + 256 * (byte_held o 2 + 256 * byte_held o 3)) ≡ word_held o
held_word None = refl
held_word (Some b) = refl

word_is : (bytes : List ℕ) (place : ℕ) (o : Option StoredBytes) → ((i : ℕ) → i < 4 → slice_index bytes (place + i) ≡ byte_held o i) → number_in bytes place ≡ word_held o
word_is bytes place o each =
    let here : place ≡ place + 0 = omega arith in
    let first : slice_index bytes place ≡ byte_held o 0 = ap (λ n. slice_index bytes n) here ∙ each 0 (omega arith) in
    let second = each 1 (omega arith) in
    let third = each 2 (omega arith) in
    let last = each 3 (omega arith) in
    (λ j. first j + 256 * (second j + 256 * (third j + 256 * last j))) ∙ held_word o

same_bank : (from n m : ℕ) → from + 4 * n ≡ from + 4 * m → n ≡ m
same_bank from n m e = omega (arith, e)

module _ (c : Cluster) (b : Beginning) (bank : ℕ) (gate : ℕ) (counts : List ℕ) where
  module _ (left : ℕ → List ℕ) (shows : ShowOffsets c b bank left) where
    -- what a number on such a page reads
    offset_reads : (bytes : ℕ → List ℕ) → ((q : ℕ) → q < 2 ^ 32 → bytes q ≡ left q) → (x : ℕ) → word_page_of x % c.banks ≡ bank → number_in (bytes (word_page_of x)) (word_place_of x) ≡ word_held (shows.shown x)
    offset_reads bytes same x on = ap (λ page. number_in page (word_place_of x)) (same (word_page_of x) (small_word x)) ∙ word_is (left (word_page_of x)) (word_place_of x) (shows.shown x) (λ i lt. shows.each x i lt on)

    pub offsets_came : {P O : Type 0} {g : disks.Ghosts P} {r : rules.Ghosts O} (store : SlruBank P O g r) → ((q : ℕ) → q < 2 ^ 32 → pages_of store q ≡ left q) → IsDurable store
        → last_page store ≡ offset_page c.base.multi % 2 ^ 21 → cutoff_of store ≡ offset_page (multi_before c.base.oldest_multi) % 2 ^ 21 → OffsetsCame (life_from c (at_gate b gate) counts) bank store []
    offsets_came store same durable last cutoff =
        came (offset_rack (life_from c (at_gate b gate) counts)) (IsOffsetOn (life_from c (at_gate b gate) counts) bank) (CleanOffsets (life_from c (at_gate b gate) counts)) (λ m. Unit {0}) store shows.shown (offsets_any c b gate counts shows.clean)
        (λ x i asked lt. ap (λ page. slice_index page (word_place_of x + i)) (same (word_page_of x) (small_word x)) ∙ shows.each x i lt (same_bank 5 (word_page_of x % c.banks) bank asked.on)) tt durable last cutoff

  module _ (left : ℕ → List ℕ) (shows : ShowMembers c b bank left) where
    mode_reads : (bytes : ℕ → List ℕ) → ((q : ℕ) → q < 2 ^ 32 → bytes q ≡ left q) → (x : ℕ) → member_page_of x % c.banks ≡ bank → slice_index (bytes (member_page_of x)) (mode_place_of x) ≡ byte_held (shows.shown x) 4
    mode_reads bytes same x on = ap (λ page. slice_index page (mode_place_of x)) (same (member_page_of x) (small_member x)) ∙ shows.each x 4 (omega arith) on

    id_reads : (bytes : ℕ → List ℕ) → ((q : ℕ) → q < 2 ^ 32 → bytes q ≡ left q) → (x : ℕ) → member_page_of x % c.banks ≡ bank → number_in (bytes (member_page_of x)) (member_place_of x) ≡ word_held (shows.shown x)
    id_reads bytes same x on =
        let page : List ℕ = left (member_page_of x) in
        ap (λ page. number_in page (member_place_of x)) (same (member_page_of x) (small_member x))
        ∙ word_is page (member_place_of x) (shows.shown x) (λ i lt. subst (λ four. slice_index page (cond four (mode_place_of x) (member_place_of x + i)) ≡ byte_held (shows.shown x) i) (in_id i lt) (shows.each x i (omega (arith, lt)) on))

    pub members_came : {P O : Type 0} {g : disks.Ghosts P} {r : rules.Ghosts O} (store : SlruBank P O g r) → ((q : ℕ) → q < 2 ^ 32 → pages_of store q ≡ left q) → IsDurable store
        → last_page store ≡ member_page_in_full c.base.offset % 2625286 → cutoff_of store ≡ member_page_in_full c.base.oldest_offset % 2625286 → MembersCame (life_from c (at_gate b gate) counts) bank store []
    members_came store same durable last cutoff =
        came (member_rack (life_from c (at_gate b gate) counts)) (IsMemberOn (life_from c (at_gate b gate) counts) bank) (CleanMembers (life_from c (at_gate b gate) counts)) HasZeroTails store shows.shown (members_any c b gate counts shows.clean)
        (λ x i asked lt. ap (λ page. slice_index page (slot_place_of x i)) (same (member_page_of x) (small_member x)) ∙ shows.each x i lt (same_bank 6 (member_page_of x % c.banks) bank asked.on))
        (λ q i small past. ap (λ page. slice_index page i) (same q small) ∙ shows.tails q i small past) durable last cutoff

module _ (c : Cluster) (b : Beginning) (bank faults last cutoff : ℕ) (tells : Bool) (bytes left : ℕ → List ℕ) (gate : ℕ) (counts : List ℕ) (inside : bank < c.banks) (same : IsTrue tells → (q : ℕ) → q < 2 ^ 32 → bytes q ≡ left q) where
  pub offsets_begin : (IsTrue tells → ShowOffsets c b bank left) → get_or counts (offsets_lock bank) 0 ≤ faults → last ≡ offset_page c.base.multi % 2 ^ 21 → cutoff ≡ offset_page (multi_before c.base.oldest_multi) % 2 ^ 21
      → OffsetsStands (life_from c (at_gate b gate) counts) bank tells faults last cutoff bytes []
  offsets_begin shows count last_is cutoff_is = record {
    inside = inside;
    count = count;
    last_is = λ near. last_is;
    cutoff_is = (offset_page (multi_before c.base.oldest_multi), inl refl, cutoff_is);
    shown = λ told near. let s = shows told in (
      s.shown,
      offsets_any c b gate counts s.clean,
      record { each = λ x room on. inl (offset_reads c b bank gate counts left s bytes (same told) x on) },
    );
  }

  pub members_begin : (IsTrue tells → ShowMembers c b bank left) → get_or counts (members_lock bank) 0 ≤ faults → last ≡ member_page_in_full c.base.offset % 2625286 → cutoff ≡ member_page_in_full c.base.oldest_offset % 2625286
      → MembersStands (life_from c (at_gate b gate) counts) bank tells faults last cutoff bytes []
  members_begin shows count last_is cutoff_is = record {
    inside = inside;
    count = count;
    last_is = λ near. last_is;
    cutoff_is = (member_page_in_full c.base.oldest_offset, inl refl, cutoff_is);
    shown = λ told near. let s = shows told in (
      s.shown,
      members_any c b gate counts s.clean,
      record {
        each = λ x room on. inl (λ j. (mode_reads c b bank gate counts left s bytes (same told) x on j, id_reads c b bank gate counts left s bytes (same told) x on j));
      },
    );
  }

-- ---- pages that show nothing are those of a start at which no multixact was recorded

module _ (c : Cluster) (b : Beginning) (none : b.recorded ≡ []) where
  no_record : {rec : Rec} → Contains b.recorded rec → ⊥
  no_record {rec} k = contains_has [] rec (subst (λ (t : List Rec). Contains t rec) none k)

  in_order : AreInOrder c.base b.recorded
  in_order = record {
    within = λ m x ms k. absurd (no_record k);
    order = λ m n x y ms ns k. absurd (no_record k);
    behind = λ m n x y ms ns k. absurd (no_record k);
    last = λ m x ms k. absurd (no_record k);
    stored = λ m x ms k. absurd (no_record k);
    apart = λ m n x y ms ns k. absurd (no_record k);
    once = λ m x y ms ns k. absurd (no_record k);
    fit = λ m x ms k. absurd (no_record k);
  }

  pub zeros_show_offsets : (bank : ℕ) → IsTrue b.told → ShowOffsets c b bank (λ q. zero_page)
  zeros_show_offsets bank told = record {
    shown = λ x. None;
    clean = record {
      told = told;
      full = λ multi offset members k. absurd (no_record k);
      before = λ multi offset members k. absurd (no_record k);
      in_order = in_order;
      recorded = λ multi offset members k. absurd (no_record k);
      other = λ multi full from to other. refl;
      clean = λ x from to. refl;
    };
    each = λ x i lt on. zero_byte (word_place_of x + i);
  }

  pub zeros_show_members : (bank : ℕ) → ShowMembers c b bank (λ q. zero_page)
  zeros_show_members bank = record {
    shown = λ x. None;
    clean = record {
      before = λ multi offset members k. absurd (no_record k);
      in_order = in_order;
      recorded = λ multi offset k members member among. absurd (no_record among);
      gap = λ multi offset members k. absurd (no_record k);
      clean = λ x i from to low. refl;
      behind = λ x past to. refl;
    };
    each = λ x i lt on. zero_byte (slot_place_of x i);
    tails = λ q i small past. zero_byte i;
  }
