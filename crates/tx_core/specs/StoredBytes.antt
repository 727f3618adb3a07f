-- What the pages of offsets and members hold of a number, byte by byte and as it is stored.
use Rattle.std.specs.Prelude.{ℕ, ◌+◌, ◌/◌, ◌%◌, ◌^◌, ◌<◌, ◌≤◌, ◌≡◌, ◌==◌, cond, List, slice_index, Option, Some, None}
use Rattle.store_pages.specs.Layouts.{member_place_of, mode_place_of}
use Rattle.tx_events.specs.Pages.{member_page_in_full, offset_page}
use Rattle.tx_events.specs.Modes.{mode_number}
use Rattle.tx_events.specs.declared.multi.Member.{Member}
use Rattle.tx_core.specs.MultiEntries.{SetOffset, SetSlot, offsets_in, slots_in}
use Rattle.tx_core.specs.Pages.{Store}

-- the i-th byte of a number, the lowest one first
abbrev pub byte_of : ℕ → ℕ → ℕ
byte_of number i = number / 256 ^ i % 256

-- the bytes at a number's place as they are stored, by their index; with none all are 0
abbrev pub StoredBytes : Type 0
StoredBytes = ℕ → ℕ

abbrev pub byte_held : Option StoredBytes → ℕ → ℕ
byte_held None i = 0
byte_held (Some bytes) i = bytes i

-- those of a member: the four bytes of its id, and then its mode
abbrev pub slot_bytes : Member → StoredBytes
slot_bytes member i = cond (i == 4) (mode_number member.mode) (byte_of member.id i)

-- where the i-th byte of an offset's slot stands on its page: the four bytes of an id, and then the mode
abbrev pub slot_place_of : ℕ → ℕ → ℕ
slot_place_of offset i = cond (i == 4) (mode_place_of offset) (member_place_of offset + i)

-- The bytes behind the last slot of a page of members are 0: 409 groups of 20 bytes end at byte 8180.
abbrev pub HasZeroTails : (ℕ → List ℕ) → Type 0
HasZeroTails m = (q i : ℕ) → q < 2 ^ 32 → 8180 ≤ i → slice_index (m q) i ≡ 0

-- an offset is stored by the bytes of its low half, the lowest one first
abbrev pub offset_bytes_for : ℕ → SetOffset → Option StoredBytes
offset_bytes_for multi set = cond (set.multi == multi) (Some (λ i. byte_of set.offset i)) None

abbrev pub stored_offsets : Store SetOffset StoredBytes
stored_offsets = record { page_of = offset_page; items_of = offsets_in; value_for = offset_bytes_for }

-- a member by the four bytes of its id, and then its mode
abbrev pub slot_bytes_for : ℕ → SetSlot → Option StoredBytes
slot_bytes_for offset slot = cond (slot.offset == offset) (Some (λ i. slot_bytes slot.member i)) None

abbrev pub stored_members : Store SetSlot StoredBytes
stored_members = record { page_of = member_page_in_full; items_of = slots_in; value_for = slot_bytes_for }

-- the pages of members past that of the life's first offset hold nothing
abbrev pub IsClearBehind : ℕ → (ℕ → Option StoredBytes) → Type 0
IsClearBehind next shown =
    (x : ℕ) → member_page_in_full next < member_page_in_full x → x < next + 2 ^ 30 → shown x ≡ None
