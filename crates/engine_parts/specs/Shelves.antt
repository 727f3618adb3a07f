-- The parents of subtransactions and the stores of the multixacts on their pages.
use Rattle.std.specs.Prelude.{ℕ, ◌+◌, ◌*◌, ◌^◌, Bool, List, Option, None, Some}
use Rattle.std.specs.List.{slice_index}
use Rattle.store_pages.specs.Layouts.{member_page_of, member_place_of, mode_place_of, multi_before, number_in, word_page_of, word_place_of}
use Rattle.tx_events.specs.PageOrder.{Ids, Multis, Offsets}
use Rattle.tx_core.specs.declared.entry.Entry.{Entry}
use Rattle.tx_core.specs.declared.entry.Start.{Start}
use Rattle.tx_core.specs.Entries.{Link}
use Rattle.tx_core.specs.Locks.{member_page_in_full, members_lock, offset_page, offsets_lock}
use Rattle.tx_core.specs.MultiEntries.{SetOffset, SetSlot}
use Rattle.tx_core.specs.Pages.{subtrans_store}
use Rattle.tx_core.specs.CleanMultis.{CleanMembers, CleanOffsets}
use Rattle.tx_core.specs.StoredBytes.{StoredBytes, byte_held, stored_members, stored_offsets}
use Rattle.engine_parts.specs.Shelf.{Shelf, StoreStands}
use Rattle.engine_parts.specs.Stand.{first_subtrans_page, number_of_parent}

abbrev pub parent_shelf : Start → Shelf Link ℕ ℕ
parent_shelf start = record {
  store = subtrans_store;
  shape = Ids;
  per_page = 2048;
  pages = 2 ^ 21;
  kept = first_subtrans_page start;
  first = start.base.next;
  oldest = start.base.oldest;
  page = word_page_of;
  read = λ bytes x. number_in bytes (word_place_of x);
  wants = number_of_parent;
}

-- the number of four bytes, as it is stored: 0 where there is none
abbrev pub word_held : Option StoredBytes → ℕ
word_held None = 0
word_held (Some b) = b 0 + 256 * (b 1 + 256 * (b 2 + 256 * b 3))

abbrev pub offset_shelf : Start → Shelf SetOffset StoredBytes ℕ
offset_shelf start = record {
  store = stored_offsets;
  shape = Multis;
  per_page = 2048;
  pages = 2 ^ 21;
  kept = offset_page (multi_before start.base.oldest_multi);
  first = start.base.multi;
  oldest = start.base.oldest_multi;
  page = word_page_of;
  read = λ bytes x. number_in bytes (word_place_of x);
  wants = word_held;
}

-- a bank of offsets
abbrev pub OffsetsStands : Start → ℕ → Bool → ℕ → ℕ → ℕ → (ℕ → List ℕ) → List Entry → Type 0
OffsetsStands start bank tells faults last cutoff bytes es =
    StoreStands (offset_shelf start) (CleanOffsets start) start (offsets_lock bank) bank tells faults last cutoff bytes es

-- a member is read as its mode byte and its id
abbrev pub slot_held : Option StoredBytes → ℕ × ℕ
slot_held o = (byte_held o 4, word_held o)

abbrev pub member_shelf : Start → Shelf SetSlot StoredBytes (ℕ × ℕ)
member_shelf start = record {
  store = stored_members;
  shape = Offsets;
  per_page = 1636;
  pages = 2625286;
  kept = member_page_in_full start.base.oldest_offset;
  first = start.base.offset;
  oldest = start.base.oldest_offset;
  page = member_page_of;
  read = λ bytes x. (slice_index bytes (mode_place_of x), number_in bytes (member_place_of x));
  wants = slot_held;
}

-- and one of members
abbrev pub MembersStands : Start → ℕ → Bool → ℕ → ℕ → ℕ → (ℕ → List ℕ) → List Entry → Type 0
MembersStands start bank tells faults last cutoff bytes es =
    StoreStands (member_shelf start) (CleanMembers start) start (members_lock bank) bank tells faults last cutoff bytes es
