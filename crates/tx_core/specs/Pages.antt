-- What the pages of a bank show after a list of entries.
use Rattle.std.specs.List.{filter_map, flat_map, fold, last_or}
use Rattle.std.specs.Prelude.{List, None, Option, Some, cond, nat_lt, take, ℕ, ◌+◌, ◌<◌, ◌==◌, ◌^◌, ◌≡◌}
use Rattle.tx_core.specs.declared.entry.Entry.{Entry}
use Rattle.tx_core.specs.declared.entry.Kind.{Kind}
use Rattle.tx_core.specs.declared.entry.Start.{Start}
use Rattle.tx_core.specs.declared.entry.State.{State}
use Rattle.tx_core.specs.CleanStart.{CleanStart, IsClearFrom}
use Rattle.tx_core.specs.EngineInvariant.{EngineInvariant}
use Rattle.tx_core.specs.Entries.{Link, Mark, links_in, marks, marks_in}
use Rattle.notes.specs.Lists.{at}
use Rattle.tx_core.specs.Locks.{member_page_in_full, offset_page, subtrans_page, xact_page}
use Rattle.tx_core.specs.MultiEntries.{SetOffset, SetSlot, offsets_in, slots_in}
use Rattle.tx_events.specs.declared.multi.Member.{Member}
use Rattle.tx_core.specs.Verdict.{state_for, state_read}
use Rattle.tx_core.specs.declared.entry.Kind.TheVariants as kinds

-- the last page that was made, and what each id shows
pub record Pages (V : Type 0) : Type 0 where
  pub last : ℕ
  pub shows : ℕ → Option V

-- how a store is read: the page of an id, what an entry sets, and what such an item says of an id
pub record Store (I V : Type 0) : Type 0 where
  pub page_of : ℕ → ℕ
  pub items_of : Entry → List I
  pub value_for : ℕ → I → Option V

abbrev pub xact_store : Store Mark State
xact_store = record { page_of = xact_page; items_of = marks_in; value_for = state_for }

abbrev pub parent_for : ℕ → Link → Option ℕ
parent_for id link = cond (link.id == id) (Some link.parent) None

abbrev pub subtrans_store : Store Link ℕ
subtrans_store = record { page_of = subtrans_page; items_of = links_in; value_for = parent_for }

-- the parent that was set last
abbrev pub parent_read : List Link → ℕ → Option ℕ
parent_read links id = last_or None (filter_map (parent_for id) links)

abbrev pub offset_for : ℕ → SetOffset → Option ℕ
offset_for multi set = cond (set.multi == multi) (Some set.offset) None

abbrev pub offset_store : Store SetOffset ℕ
offset_store = record { page_of = offset_page; items_of = offsets_in; value_for = offset_for }

abbrev pub member_for : ℕ → SetSlot → Option Member
member_for offset slot = cond (slot.offset == offset) (Some slot.member) None

abbrev pub member_store : Store SetSlot Member
member_store = record { page_of = member_page_in_full; items_of = slots_in; value_for = member_for }

abbrev pub zeroed_in : Kind → Option ℕ
zeroed_in (kinds.Zero page) = Some page
zeroed_in _ = None

module _ {I V : Type 0} where
  -- a page is zeroed only where the last made page is before it
  abbrev pub zeroed : Store I V → Option ℕ → Pages V → Pages V
  zeroed s None pages = pages
  zeroed s (Some page) pages =
      cond (nat_lt pages.last page) (record { last = page; shows = λ id. cond (s.page_of id == page) None (pages.shows id) }) pages

  abbrev pub set_by : Store I V → List I → Pages V → Pages V
  set_by s items pages = record { last = pages.last; shows = λ id. last_or (pages.shows id) (filter_map (s.value_for id) items) }

  abbrev pub after_entry : Store I V → Pages V → Entry → Pages V
  after_entry s pages e = zeroed s (zeroed_in e.kind) (set_by s (s.items_of e) pages)

  -- from the page of the life's first id and what the pages showed then
  abbrev pub pages_after : Store I V → ℕ → (ℕ → Option V) → List Entry → Pages V
  pages_after s first shown es = fold (after_entry s) (record { last = s.page_of first; shows = shown }) es

-- Behind each beginning of the list: the pages of pg_xact show the state that was set last, however late a page was made.
abbrev pub PagesShow : Type 0
PagesShow = (start : Start) (lists : List (List Entry)) (shown : ℕ → Option State) (lock n x : ℕ) → EngineInvariant start lists → CleanStart start shown → x < start.base.next + 2 ^ 30
    → (pages_after xact_store start.base.next shown (take n (at lists lock))).shows x ≡ state_read shown (marks (take n (at lists lock))) x

-- those of pg_subtrans, which are empty when a life begins, the parent that was set last
abbrev pub ParentsShow : Type 0
ParentsShow = (start : Start) (lists : List (List Entry)) (lock n x : ℕ) → EngineInvariant start lists
    → (pages_after subtrans_store start.base.next (λ id. None) (take n (at lists lock))).shows x ≡ parent_read (flat_map links_in (take n (at lists lock))) x

-- the offset that was set last
abbrev pub OffsetsShow : Type 0
OffsetsShow = (start : Start) (lists : List (List Entry)) (shown : ℕ → Option ℕ) (lock n multi : ℕ) → EngineInvariant start lists → IsClearFrom start.base.multi shown → multi < start.base.multi + 2 ^ 30
    → (pages_after offset_store start.base.multi shown (take n (at lists lock))).shows multi ≡ last_or (shown multi) (filter_map (offset_for multi) (flat_map offsets_in (take n (at lists lock))))

-- and the member that was set last
abbrev pub MembersShow : Type 0
MembersShow = (start : Start) (lists : List (List Entry)) (shown : ℕ → Option Member) (lock n offset : ℕ) → EngineInvariant start lists → IsClearFrom start.base.offset shown → offset < start.base.offset + 2 ^ 30
    → (pages_after member_store start.base.offset shown (take n (at lists lock))).shows offset ≡ last_or (shown offset) (filter_map (member_for offset) (flat_map slots_in (take n (at lists lock))))
