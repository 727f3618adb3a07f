-- What was read of a bank shows what its list says.
use Rattle.std.proofs.Common.{◌≡◌, ℕ, ◌+◌, ◌%◌, List, None, Result, Ok, Err, OnOk, false, IsTrue, length, refl, sym, ap, subst, ◌∙◌, arith}
use Rattle.std.proofs.Math.Seq.{take-length}
use Rattle.std.specs.List.{flat_map, slice_index}
use Rattle.disk_core.specs.declared.page_disk.PageDisk as disks
use Rattle.store_pages.specs.declared.page_rule.PageRule as rules
use Rattle.store_pages.specs.Layouts.{member_page_of, member_place_of, mode_place_of, number_in, state_in, word_page_of, word_place_of, xact_page_of, xact_place_of}
use Rattle.slru_bank.specs.declared.bank.SlruBank.{SlruBank}
use Rattle.slru_bank.specs.declared.refusal.BankRefusal.{BankRefusal}
use Rattle.slru_bank.specs.Calls.{CallsBank, SamePages, cutoff_of, pages_of}
use Rattle.tx_events.specs.PageOrder.{Ids, is_cut}
use Rattle.notes.specs.Lists.{at}
use Rattle.tx_core.specs.declared.entry.Entry.{Entry}
use Rattle.tx_core.specs.declared.entry.Start.{Start}
use Rattle.tx_core.specs.EngineInvariant.{EngineInvariant}
use Rattle.tx_core.specs.Entries.{links_in, marks}
use Rattle.tx_core.specs.Locks.{subtrans_lock, subtrans_lock_of, xact_lock, xact_lock_of}
use Rattle.tx_core.specs.Pages.{pages_after, parent_read, subtrans_store, xact_store}
use Rattle.tx_core.specs.Verdict.{state_read}
use Rattle.tx_core.proofs.PageShowing.{pages_show, parents_show}
use Rattle.engine_parts.specs.Parts.{IsSubtransOf, IsXactOf}
use Rattle.engine_parts.specs.Stand.{number_of_parent, number_of_state, subtrans_pages, xact_pages}
use Rattle.bank_sections.proofs.Nearing.{subtrans_near, xact_near}
use Rattle.bank_sections.proofs.Sameness.{IsSame}
use Rattle.bank_sections.proofs.Visiting.{not_true}
use Rattle.disk_core.specs.declared.log_disk.LogDisk as logs
use Rattle.hall.specs.declared.hall.Hall.{Hall}
use Rattle.hall.specs.Calls.{start_of}
use Rattle.tx_events.specs.Base.{IsBase}
use Rattle.tx_core.specs.Locks.{member_page_in_full, members_lock, members_lock_of, offsets_lock, offsets_lock_of}
use Rattle.engine_parts.specs.declared.part.Part.{Part}
use Rattle.engine_parts.specs.Parts.{IsMembersOf, IsOffsetsOf}
use Rattle.engine_host.specs.declared.host.Host.{Host}
use Rattle.engine_host.specs.Homes.{IsHome}
use Rattle.multi_banks.specs.Members.{IsSlotRead, SharePage}
use Rattle.multi_banks.proofs.Coursing.{IsSame as IsStill}
use Rattle.multi_banks.proofs.MemberSeen.{slots_seen}
use Rattle.multi_banks.proofs.OffsetSeen.{offset_seen}
use Rattle.bank_stores.specs.Slots.{slot_of}
use Rattle.bank_stores.specs.Offsets.{offset_of}
use Rattle.host_calls.specs.Shown.{IsPieceOf, ShowsMembers, ShowsOffsets, ShowsSubtrans, ShowsXact}

-- ---- what was answered

-- what holds where it is `Ok`
pub ok_by : {T E : Type 0} (A : Type 0) (result : Result T E) → ((x : T) → result ≡ Ok x → A) → OnOk result A
ok_by A (Ok x) f = f x refl
ok_by A (Err e) f = tt

pub of_ok : {T E : Type 0} (A : Type 0) (result : Result T E) (x : T) → result ≡ Ok x → OnOk result A → A
of_ok {T} {E} A result x is a = subst (λ (r : Result T E). OnOk r A) is a

module _ {P O T : Type 0} {g : disks.Ghosts P} {r : rules.Ghosts O} where
  -- a page that was read isn't cut
  pub read_uncut : (page : ℕ) (old new : SlruBank P O g r) (result : Result T BankRefusal) (x : T) → CallsBank page old new result → result ≡ Ok x → is_cut r.shape r.per_page (cutoff_of old) page ≡ false
  read_uncut page old new result x calls is = not_true (is_cut r.shape r.per_page (cutoff_of old) page) (λ t. let refused = calls.calls.cut t in absurd cc)

  -- a bank of which a page was read
  pub read_same : (page : ℕ) (old new : SlruBank P O g r) (result : Result T BankRefusal) → CallsBank page old new result → (IsTrue g.tells → SamePages old new) → IsSame old new
  read_same page old new result calls pages = record { last = calls.last; cutoff = calls.calls.cutoff; count = calls.calls.count; pages = pages }

-- ---- what the pages show

-- the lock of an id by its stored page
xact_here : (start : Start) (bank page x : ℕ) → bank ≡ page % start.banks → xact_page_of x ≡ page → xact_lock_of start x ≡ xact_lock bank
xact_here start bank page x here on = ap (λ z. xact_lock (z % start.banks)) on ∙ ap xact_lock (sym here)

subtrans_here : (start : Start) (bank page x : ℕ) → bank ≡ page % start.banks → word_page_of x ≡ page → subtrans_lock_of start x ≡ subtrans_lock bank
subtrans_here start bank page x here on = ap (λ z. subtrans_lock (z % start.banks)) on ∙ ap subtrans_lock (sym here)

module _ {P O : Type 0} {g : disks.Ghosts P} {r : rules.Ghosts O} where
  pub shows_xact : (start : Start) (lists : List (List Entry)) (store : SlruBank P O g r) (bank page from count : ℕ) (bytes : List ℕ) → EngineInvariant start lists → IsXactOf start bank store (at lists (xact_lock bank)) → bank ≡ page % start.banks
      → is_cut Ids 32768 (cutoff_of store) page ≡ false → IsTrue g.tells → IsPieceOf (pages_of store page) from count bytes → ShowsXact start lists page from count bytes
  shows_xact start lists store bank page from count bytes k s here uncut told piece = record {
    on = pages_of store page;
    piece = piece;
    states = λ few.
        let es : List Entry = at lists (xact_lock bank) in
        let show = s.shown told (xact_near start lists bank k few) in (
          show.0,
          show.1,
          λ x used on.
              let there = show.2.each x used (ap (λ z. z % start.banks) on ∙ sym here) (subst (λ z. is_cut Ids 32768 (cutoff_of store) z ≡ false) (sym on) uncut) in
              let all : (xact_pages start show.0 es).shows x ≡ state_read show.0 (marks es) x =
              subst (λ (t : List Entry). (pages_after xact_store start.base.next show.0 t).shows x ≡ state_read show.0 (marks t) x) (take-length es) (pages_show start lists show.0 (xact_lock bank) (length es) x k show.1 (let to = used.2 in omega arith)) in
              subst (λ z. state_in (pages_of store z) (xact_place_of x) ≡ number_of_state (state_read show.0 (marks (at lists (xact_lock_of start x))) x)) on
              (there ∙ (ap number_of_state all ∙ ap (λ z. number_of_state (state_read show.0 (marks (at lists z)) x)) (sym (xact_here start bank page x here on)))),
        );
  }

  pub shows_subtrans : (start : Start) (lists : List (List Entry)) (store : SlruBank P O g r) (bank page from count : ℕ) (bytes : List ℕ) → EngineInvariant start lists → IsSubtransOf start bank store (at lists (subtrans_lock bank)) → bank ≡ page % start.banks
      → is_cut Ids 2048 (cutoff_of store) page ≡ false → IsTrue g.tells → IsPieceOf (pages_of store page) from count bytes → ShowsSubtrans start lists page from count bytes
  shows_subtrans start lists store bank page from count bytes k s here uncut told piece = record {
    on = pages_of store page;
    piece = piece;
    parents = λ few x used on.
        let es : List Entry = at lists (subtrans_lock bank) in
        let there = (s.shown told (subtrans_near start lists bank k few)).each x used (ap (λ z. z % start.banks) on ∙ sym here) (subst (λ z. is_cut Ids 2048 (cutoff_of store) z ≡ false) (sym on) uncut) in
        let all : (subtrans_pages start es).shows x ≡ parent_read (flat_map links_in es) x =
        subst (λ (t : List Entry). (pages_after subtrans_store start.base.next (λ y. None) t).shows x ≡ parent_read (flat_map links_in t) x) (take-length es) (parents_show start lists (subtrans_lock bank) (length es) x k) in
        subst (λ z. number_in (pages_of store z) (word_place_of x) ≡ number_of_parent (parent_read (flat_map links_in (at lists (subtrans_lock_of start x))) x)) on
        (there ∙ (ap number_of_parent all ∙ ap (λ z. number_of_parent (parent_read (flat_map links_in (at lists z)) x)) (sym (subtrans_here start bank page x here on))));
  }

-- ---- multixacts

-- the base of the host's start is one
pub based : {H L P : Type 0} {l : logs.Ghosts L} {p : disks.Ghosts P} (hall : Hall H (Part L P l p) Entry Start) (host : Host L P l p) → IsHome hall host → IsBase (start_of hall).base
based hall host home = subst IsBase (sym home.is_host.base) home.is_host.cluster.base

offsets_here : (start : Start) (bank page x : ℕ) → bank ≡ page % start.banks → word_page_of x ≡ page → offsets_lock_of start x ≡ offsets_lock bank
offsets_here start bank page x here on = ap (λ z. offsets_lock (z % start.banks)) on ∙ ap offsets_lock (sym here)

members_here : (start : Start) (bank page x : ℕ) → bank ≡ page % start.banks → member_page_of x ≡ page → members_lock_of start x ≡ members_lock bank
members_here start bank page x here on = ap (λ z. members_lock (z % start.banks)) on ∙ ap members_lock (sym here)

module _ {P O T : Type 0} {g : disks.Ghosts P} {r : rules.Ghosts O} where
  -- a bank of offsets or of members of which a page was read
  pub call_same : (page : ℕ) (old new : SlruBank P O g r) (result : Result T BankRefusal) → CallsBank page old new result → (IsTrue g.tells → SamePages old new) → IsStill old new
  call_same page old new result calls pages = record { last = calls.last; cutoff = calls.calls.cutoff; count = calls.calls.count; pages = pages; crash = calls.calls.crash }

module _ {P O : Type 0} {g : disks.Ghosts P} {r : rules.Ghosts O} where
  pub shows_offsets : (start : Start) (lists : List (List Entry)) (store : SlruBank P O g r) (bank page from count : ℕ) (bytes : List ℕ) → IsBase start.base → EngineInvariant start lists → IsOffsetsOf start bank store (at lists (offsets_lock bank)) → bank ≡ page % start.banks
      → IsTrue g.tells → IsPieceOf (pages_of store page) from count bytes → ShowsOffsets start lists page from count bytes
  shows_offsets start lists store bank page from count bytes base k s here told piece = record {
    on = pages_of store page;
    piece = piece;
    offsets = λ multi on announced. offset_seen start lists bank store multi _ base k s (offsets_here start bank page multi here on) told (ap (λ z. offset_of (number_in (pages_of store z) (word_place_of multi))) (sym on)) announced;
  }

  pub shows_members : (start : Start) (lists : List (List Entry)) (store : SlruBank P O g r) (bank page from count : ℕ) (bytes : List ℕ) → IsBase start.base → EngineInvariant start lists → IsMembersOf start bank store (at lists (members_lock bank)) → bank ≡ page % start.banks
      → IsTrue g.tells → IsPieceOf (pages_of store page) from count bytes → ShowsMembers start lists page from count bytes
  shows_members start lists store bank page from count bytes base k s here told piece = record {
    on = pages_of store page;
    piece = piece;
    members = λ few offset on announced.
        let read = slots_seen start lists bank store offset 1 base k s (members_here start bank page offset here on) (omega arith) (alone offset) told announced few 0 (slot_of (slice_index (pages_of store (member_page_of offset)) (mode_place_of offset)) (number_in (pages_of store (member_page_of offset)) (member_place_of offset))) refl in
        let first : offset + 0 ≡ offset = omega arith in
        subst (λ (z : ℕ × ℕ). IsSlotRead start lists z.0 (slot_of (slice_index (pages_of store z.1) (mode_place_of offset)) (number_in (pages_of store z.1) (member_place_of offset)))) (λ j. (first j, on j)) read;
  }
    where
      alone : (offset : ℕ) → SharePage offset 1
      alone offset k lt = let z : offset + k ≡ offset = omega arith in ap member_page_in_full z
