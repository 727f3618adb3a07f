-- No page is cut that is still asked for, as it is stored.
use Rattle.std.specs.Prelude.{◌≡◌, ℕ, ◌%◌, ◌^◌, ◌<◌, ◌≤◌, false, List, Some, Contains}
use Rattle.tx_events.specs.Ids.{id_before, low_half}
use Rattle.tx_events.specs.PageOrder.{Ids, Multis, Offsets, Shape, is_cut}
use Rattle.store_pages.specs.Layouts.{multi_before}
use Rattle.tx_events.specs.Base.{IsBase}
use Rattle.tx_events.specs.History.{next_given}
use Rattle.tx_events.specs.Horizon.{oldest_id, oldest_xmin}
use Rattle.tx_events.specs.Multis.{free_offset, next_made, oldest_multi, oldest_offset}
use Rattle.tx_events.specs.Running.{open_ids}
use Rattle.tx_core.specs.declared.entry.Entry.{Entry}
use Rattle.tx_core.specs.declared.entry.Start.{Start}
use Rattle.tx_core.specs.EngineInvariant.{EngineInvariant}
use Rattle.tx_core.specs.Entries.{AreFewIds, cut_in, history}
use Rattle.tx_core.specs.Locks.{members_lock, offsets_lock, subtrans_lock, xact_lock}
use Rattle.tx_core.specs.Locks.{member_page, member_page_in_full, offset_page, subtrans_page, xact_page}
use Rattle.tx_core.specs.MultiEntries.{AreFewMultis, multi_history}
use Rattle.notes.specs.Lists.{at}

-- A stored page isn't cut: neither by the page from which on its store was kept when the life began, nor by one at
-- which an entry cut the bank.
pub record IsHeld (shape : Shape) (per_page pages kept : ℕ) (es : List Entry) (stored : ℕ) : Type 0 where
  pub first : is_cut shape per_page (kept % pages) stored ≡ false
  pub later : (e : Entry) (page : ℕ) → Contains es e → cut_in e.kind ≡ Some page
      → is_cut shape per_page (page % pages) stored ≡ false

-- So are the pages of the numbers in use, in a life of few of them.
pub record AreHeld (start : Start) (lists : List (List Entry)) (bank : ℕ) : Type 0 where
  -- states, from the announced oldest id on
  pub states : AreFewIds lists → (x : ℕ) → oldest_id start.base.oldest (history lists) ≤ x
      → x ≤ next_given start.base.next (history lists)
      → IsHeld Ids 32768 (2 ^ 17) (xact_page start.base.oldest) (at lists (xact_lock bank)) (xact_page (low_half x))
  -- parents, from the oldest xmin on
  pub parents : AreFewIds lists → (x : ℕ) → oldest_xmin start.base.next (history lists) ≤ x
      → x ≤ next_given start.base.next (history lists)
      → IsHeld Ids 2048 (2 ^ 21) (subtrans_page (id_before start.base.next)) (at lists (subtrans_lock bank))
      (subtrans_page (low_half x))
  -- offsets, from the announced oldest multixact on
  pub offsets : AreFewMultis lists → (multi : ℕ) → oldest_multi start.base.oldest_multi (multi_history lists) ≤ multi
      → multi ≤ next_made start.base.multi (multi_history lists)
      → IsHeld Multis 2048 (2 ^ 21) (offset_page (multi_before start.base.oldest_multi)) (at lists (offsets_lock bank))
      (offset_page (low_half multi))
  -- members, from its offset on
  pub members : AreFewMultis lists → (offset : ℕ)
      → oldest_offset start.base.oldest_offset (multi_history lists) ≤ offset
      → offset ≤ free_offset start.base.offset (multi_history lists)
      → IsHeld Offsets 1636 2625286 (member_page_in_full start.base.oldest_offset) (at lists (members_lock bank))
      (member_page (low_half offset))

abbrev pub PagesHeld : Type 0
PagesHeld = (start : Start) (lists : List (List Entry)) (bank : ℕ) → EngineInvariant start lists → IsBase start.base
    → AreHeld start lists bank

-- An open id is from the oldest xmin on. It is from the announced oldest id on as well (`OpenKept`): so both its pages
-- are held.
abbrev pub OpenRuns : Type 0
OpenRuns = (start : Start) (lists : List (List Entry)) (session x : ℕ) → EngineInvariant start lists
    → Contains (open_ids session (history lists)) x
    → (oldest_xmin start.base.next (history lists) ≤ x) × (x < next_given start.base.next (history lists))
