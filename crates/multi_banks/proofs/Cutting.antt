-- A page that a bank refused as cut.
use Rattle.std.proofs.Common.{◌≡◌, ℕ, IsTrue, List, [], ◌∷◌, ◌++◌, sym, subst}
use Rattle.notes.specs.Lists.{at}
use Rattle.store_pages.specs.Layouts.{member_page_of, word_page_of}
use Rattle.tx_events.specs.PageOrder.{Multis, Offsets, is_cut}
use Rattle.tx_core.specs.declared.entry.Entry.{Entry}
use Rattle.tx_core.specs.declared.entry.Start.{Start}
use Rattle.tx_core.specs.CleanMultis.{CleanMembers, CleanOffsets}
use Rattle.tx_core.specs.Locks.{members_lock, offsets_lock}
use Rattle.engine_parts.specs.Shelf.{IsCutoffOf}
use Rattle.engine_parts.specs.Shelves.{member_shelf, offset_shelf}
use Rattle.multi_banks.specs.Sections.{IsMemberCut, IsOffsetCut}
use Rattle.multi_banks.proofs.Coursing.{cutoff_more}

-- the cutoff is one that the list has, with one entry more
pub offset_cut : (start : Start) (before after : List (List Entry)) (bank multi cutoff found stored : ℕ) (e : Entry) → at after (offsets_lock bank) ≡ at before (offsets_lock bank) ++ e ∷ [] → IsCutoffOf (offset_shelf start) (at before (offsets_lock bank)) found → stored ≡ word_page_of multi
    → (cutoff ≡ found) × IsTrue (is_cut Multis 2048 found stored) → IsOffsetCut start after bank (word_page_of multi) cutoff
offset_cut start before after bank multi cutoff found stored e grown has is cut = (
  subst (λ (z : List Entry × ℕ). IsCutoffOf (offset_shelf start) z.0 z.1) (λ j. (sym grown j, sym cut.0 j)) (cutoff_more (offset_shelf start) (CleanOffsets start) start (offsets_lock bank) bank (at before (offsets_lock bank)) e found has),
  subst (λ (z : ℕ × ℕ). IsTrue (is_cut Multis 2048 z.0 z.1)) (λ j. (sym cut.0 j, is j)) cut.1,
)

pub member_cut : (start : Start) (before after : List (List Entry)) (bank offset cutoff found stored : ℕ) (e : Entry) → at after (members_lock bank) ≡ at before (members_lock bank) ++ e ∷ [] → IsCutoffOf (member_shelf start) (at before (members_lock bank)) found → stored ≡ member_page_of offset
    → (cutoff ≡ found) × IsTrue (is_cut Offsets 1636 found stored) → IsMemberCut start after bank (member_page_of offset) cutoff
member_cut start before after bank offset cutoff found stored e grown has is cut = (
  subst (λ (z : List Entry × ℕ). IsCutoffOf (member_shelf start) z.0 z.1) (λ j. (sym grown j, sym cut.0 j)) (cutoff_more (member_shelf start) (CleanMembers start) start (members_lock bank) bank (at before (members_lock bank)) e found has),
  subst (λ (z : ℕ × ℕ). IsTrue (is_cut Offsets 1636 z.0 z.1)) (λ j. (sym cut.0 j, is j)) cut.1,
)
