-- A page is cut only where a truncation that is on disk says so, or an oldest xmin.
use Rattle.std.specs.Prelude.{◌≡◌, ℕ, ◌%◌, ◌≤◌, true, List, length, take, Some, IfSome, Contains}
use Rattle.tx_events.specs.Ids.{low_half}
use Rattle.store_pages.specs.Layouts.{multi_before, subtrans_cut_page, xact_cut_page}
use Rattle.tx_events.specs.PageOrder.{Multis, Offsets, is_cut}
use Rattle.tx_events.specs.declared.record.Rec.TheVariants as records
use Rattle.tx_events.specs.Horizon.{oldest_xmin}
use Rattle.tx_core.specs.declared.entry.Entry.{Entry}
use Rattle.tx_core.specs.declared.entry.Start.{Start}
use Rattle.tx_core.specs.Entries.{cut_in, history, IsFlushed}
use Rattle.tx_core.specs.Lists.{Upheld}
use Rattle.tx_core.specs.Locks.{member_page, member_page_in_full, members_lock, offset_page, offsets_lock, subtrans_lock, xact_lock}

-- one of these entries cut the page of a multixact's offset
abbrev pub IsOffsetGone : List Entry → ℕ → Type 0
IsOffsetGone es multi = (e : Entry) × (page : ℕ) × Contains es e × (cut_in e.kind ≡ Some page) × (is_cut Multis 2048 (page % 2097152) (offset_page (low_half multi)) ≡ true)

-- or of the member at an offset
abbrev pub IsMemberGone : List Entry → ℕ → Type 0
IsMemberGone es offset = (e : Entry) × (page : ℕ) × Contains es e × (cut_in e.kind ≡ Some page) × (is_cut Offsets 1636 (page % 2625286) (member_page (low_half offset)) ≡ true)

-- the oldest numbers of a truncation that is on disk
pub record IsTruncated (start : Start) (lists : List (List Entry)) (oldest multi offset : ℕ) : Type 0 where
  pub session : ℕ
  pub flushed : IsFlushed start lists session (records.Truncate oldest multi offset)

-- the page is the one from which on the store is kept
pub record CutBy (start : Start) (lists : List (List Entry)) (lock page : ℕ) : Type 0 where
  pub xact : (bank : ℕ) → lock ≡ xact_lock bank → (oldest multi offset : ℕ) × IsTruncated start lists oldest multi offset × (page ≡ xact_cut_page start.base.oldest oldest)
  pub offsets : (bank : ℕ) → lock ≡ offsets_lock bank → (oldest multi offset : ℕ) × IsTruncated start lists oldest multi offset × (page ≡ offset_page (multi_before multi))
  pub members : (bank : ℕ) → lock ≡ members_lock bank → (oldest multi offset : ℕ) × IsTruncated start lists oldest multi offset × (page ≡ member_page_in_full offset)
  -- the oldest xmin was so at some place of the history
  pub subtrans : (bank : ℕ) → lock ≡ subtrans_lock bank
      → (p : ℕ) × (p ≤ length (history lists)) × (page ≡ subtrans_cut_page start.base.oldest (oldest_xmin start.base.next (take p (history lists))))

abbrev pub NeedsCut : Start → List (List Entry) → ℕ → List Entry → Entry → Type 0
NeedsCut start lists lock before e = IfSome (cut_in e.kind) (CutBy start lists lock)

-- Each cut of pg_xact, of offsets and of members is by the oldest numbers of a truncation that is on disk, and each cut of
-- pg_subtrans by an oldest xmin. A fault counts as the cut that its critical section had made.
pub record CutsFollow (start : Start) (lists : List (List Entry)) : Type 0 where
  pub each : Upheld (NeedsCut start) lists
