-- Which pages of offsets and of members may be cut.
use Rattle.std.proofs.Common.{◌≡◌, ⊎_elim, ℕ, ◌+◌, ◌%◌, ◌/◌, ◌^◌, ◌≤◌, ◌<◌, List, Bool, false, true, sym, subst, ◌∙◌, arith}
use Rattle.std.proofs.lemmas.Bool.{false≢true}
use Rattle.notes.specs.Lists.{at}
use Rattle.store_pages.specs.Layouts.{member_page_of, multi_before, word_page_of}
use Rattle.tx_events.specs.Base.{IsBase}
use Rattle.tx_events.specs.Ids.{low_half}
use Rattle.tx_events.specs.Limits.{member_stop}
use Rattle.tx_events.specs.Multis.{free_offset, next_made, oldest_multi, oldest_offset}
use Rattle.tx_events.specs.PageOrder.{Multis, Offsets, is_cut}
use Rattle.tx_events.specs.PageWindow.{member_is_kept, multi_is_kept}
use Rattle.tx_core.specs.declared.entry.Entry.{Entry}
use Rattle.tx_core.specs.declared.entry.Start.{Start}
use Rattle.tx_core.specs.CutsFollow.{IsMemberGone, IsOffsetGone}
use Rattle.tx_core.specs.EngineInvariant.{EngineInvariant}
use Rattle.tx_core.specs.Locks.{member_page_in_full, members_lock, offset_page, offsets_lock}
use Rattle.tx_core.specs.MultiEntries.{AreFewMultis, multi_history}
use Rattle.tx_core.proofs.Holding.{pages_held}
use Rattle.tx_core.proofs.Nearness.{free_upto, multis_are_legal}
use Rattle.tx_core.proofs.Room.{multis_have_room}
use Rattle.engine_parts.specs.Shelf.{IsGone}
use Rattle.engine_parts.specs.Shelves.{member_shelf, offset_shelf}
use Rattle.multi_banks.specs.Sections.{IsMemberCut, IsOffsetCut}

-- what isn't cut isn't refused as cut
pub cut_refused : (b : Bool) → b ≡ false → b ≡ true → ⊥
cut_refused b q t = false≢true (sym q ∙ t)

multi_back : (n : ℕ) → (multi_before n ≤ n) × (n ≤ multi_before n + 2)
multi_back n = grind arith

member_room : (oldest : ℕ) → member_stop oldest ≤ oldest + 2 ^ 30
member_room oldest = grind arith

-- the members of a base span no more than a quarter of a ring
pub members_span : (start : Start) → IsBase start.base → start.base.offset ≤ start.base.oldest_offset + 2 ^ 30
members_span start b = let s = member_room start.base.oldest_offset in let n = b.offset in omega arith

offset_kept : (o x : ℕ) → o ≤ x → x + 2 ^ 15 < o + 2 ^ 31 → is_cut Multis 2048 (offset_page o % 2 ^ 21) (word_page_of x) ≡ false
offset_kept o x from near =
    let same : offset_page o % 2 ^ 21 ≡ low_half o / 2048 = omega arith in subst (λ p. is_cut Multis 2048 p (low_half x / 2048) ≡ false) (sym same) (multi_is_kept o x from near)

member_kept : (o x : ℕ) → o ≤ x → x + 2 ^ 15 < o + 2 ^ 31 → is_cut Offsets 1636 (member_page_in_full o % 2625286) (member_page_of x) ≡ false
member_kept o x from near =
    let same : member_page_in_full o % 2625286 ≡ low_half o / 1636 = omega arith in subst (λ p. is_cut Offsets 1636 p (low_half x / 1636) ≡ false) (sym same) (member_is_kept o x from near)

module _ (start : Start) (lists : List (List Entry)) (bank : ℕ) (k : EngineInvariant start lists) (is : IsBase start.base) (few : AreFewMultis lists) where
  -- the cutoff with which the life began cuts no page of its multixacts
  pub first_multi : (multi : ℕ) → start.base.oldest_multi ≤ multi → multi ≤ next_made start.base.multi (multi_history lists) → is_cut Multis 2048 (offset_page (multi_before start.base.oldest_multi) % 2 ^ 21) (word_page_of multi) ≡ false
  first_multi multi from to =
      let room = (multis_have_room start.base (multi_history lists) is few).0 in
      let back = multi_back start.base.oldest_multi in
      let b0 = back.0 in
      let b1 = back.1 in
      offset_kept (multi_before start.base.oldest_multi) multi (omega arith) (omega arith)

  pub first_member_page : (offset : ℕ) → start.base.oldest_offset ≤ offset → offset ≤ free_offset start.base.offset (multi_history lists) → is_cut Offsets 1636 (member_page_in_full start.base.oldest_offset % 2625286) (member_page_of offset) ≡ false
  first_member_page offset from to =
      let free = free_upto start.base (multi_history lists) (multis_are_legal start lists k) in
      let stop = member_room start.base.oldest_offset in
      let begun = is.offset in
      member_kept start.base.oldest_offset offset (omega arith) (omega arith)

  -- where one is cut an entry cut it
  pub offset_gone : (multi cutoff : ℕ) → start.base.oldest_multi ≤ multi → multi ≤ next_made start.base.multi (multi_history lists) → IsOffsetCut start lists bank (word_page_of multi) cutoff → IsOffsetGone (at lists (offsets_lock bank)) multi
  offset_gone multi cutoff from to cut =
      let c = cut.0 in
      let at_page : is_cut Multis 2048 (c.0 % 2 ^ 21) (word_page_of multi) ≡ true = subst (λ z. is_cut Multis 2048 z (word_page_of multi) ≡ true) c.2 cut.1 in
      ⊎_elim
      (λ (q : c.0 ≡ offset_page (multi_before start.base.oldest_multi)). absurd (cut_refused _ (first_multi multi from to) (subst (λ z. is_cut Multis 2048 (z % 2 ^ 21) (word_page_of multi) ≡ true) q at_page)))
      (λ e. (e.0, c.0, e.1, e.2, at_page))
      c.1

  pub member_gone : (offset cutoff : ℕ) → start.base.oldest_offset ≤ offset → offset ≤ free_offset start.base.offset (multi_history lists) → IsMemberCut start lists bank (member_page_of offset) cutoff → IsMemberGone (at lists (members_lock bank)) offset
  member_gone offset cutoff from to cut =
      let c = cut.0 in
      let at_page : is_cut Offsets 1636 (c.0 % 2625286) (member_page_of offset) ≡ true = subst (λ z. is_cut Offsets 1636 z (member_page_of offset) ≡ true) c.2 cut.1 in
      ⊎_elim
      (λ (q : c.0 ≡ member_page_in_full start.base.oldest_offset). absurd (cut_refused _ (first_member_page offset from to) (subst (λ z. is_cut Offsets 1636 (z % 2625286) (member_page_of offset) ≡ true) q at_page)))
      (λ e. (e.0, c.0, e.1, e.2, at_page))
      c.1

  -- those from the announced oldest one on are held
  pub offset_held : (multi : ℕ) → oldest_multi start.base.oldest_multi (multi_history lists) ≤ multi → multi ≤ next_made start.base.multi (multi_history lists) → IsGone (offset_shelf start) (at lists (offsets_lock bank)) (word_page_of multi) → ⊥
  offset_held multi from to gone =
      let held = (pages_held start lists bank k is).offsets few multi from to in
      ⊎_elim
      (λ (q : gone.0 ≡ offset_page (multi_before start.base.oldest_multi)). cut_refused _ held.first (subst (λ z. is_cut Multis 2048 (z % 2 ^ 21) (word_page_of multi) ≡ true) q gone.2))
      (λ e. cut_refused _ (held.later e.0 gone.0 e.1 e.2) gone.2)
      gone.1

  pub member_held : (offset : ℕ) → oldest_offset start.base.oldest_offset (multi_history lists) ≤ offset → offset ≤ free_offset start.base.offset (multi_history lists) → IsGone (member_shelf start) (at lists (members_lock bank)) (member_page_of offset) → ⊥
  member_held offset from to gone =
      let held = (pages_held start lists bank k is).members few offset from to in
      ⊎_elim
      (λ (q : gone.0 ≡ member_page_in_full start.base.oldest_offset). cut_refused _ held.first (subst (λ z. is_cut Offsets 1636 (z % 2625286) (member_page_of offset) ≡ true) q gone.2))
      (λ e. cut_refused _ (held.later e.0 gone.0 e.1 e.2) gone.2)
      gone.1

  -- a cutoff that the list has makes a page gone that it cuts
  pub offset_uncut : (multi cutoff : ℕ) → oldest_multi start.base.oldest_multi (multi_history lists) ≤ multi → multi ≤ next_made start.base.multi (multi_history lists) → IsOffsetCut start lists bank (word_page_of multi) cutoff → ⊥
  offset_uncut multi cutoff from to cut = let c = cut.0 in offset_held multi from to (c.0, c.1, subst (λ z. is_cut Multis 2048 z (word_page_of multi) ≡ true) c.2 cut.1)

  pub member_uncut : (offset cutoff : ℕ) → oldest_offset start.base.oldest_offset (multi_history lists) ≤ offset → offset ≤ free_offset start.base.offset (multi_history lists) → IsMemberCut start lists bank (member_page_of offset) cutoff → ⊥
  member_uncut offset cutoff from to cut = let c = cut.0 in member_held offset from to (c.0, c.1, subst (λ z. is_cut Offsets 1636 z (member_page_of offset) ≡ true) c.2 cut.1)
