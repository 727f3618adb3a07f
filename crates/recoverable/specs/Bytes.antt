-- What stands at a number's place on a page, byte by byte, since a crash may tear a number of four bytes.
use Rattle.std.specs.Prelude.{ℕ, ◌+◌, slice_index, Option, Some}
use Rattle.store_pages.specs.Layouts.{member_page_of, word_page_of, word_place_of}
use Rattle.disk_core.specs.Pages.{Pages, page_bytes}
pub use Rattle.tx_core.specs.StoredBytes.{HasZeroTails, StoredBytes, byte_held, byte_of, slot_bytes, slot_place_of}

-- the i-th byte at the place of a multixact's offset
abbrev pub offset_byte : Pages → ℕ → ℕ → ℕ
offset_byte c multi i = slice_index (page_bytes (c (word_page_of multi))) (word_place_of multi + i)

abbrev pub slot_byte : Pages → ℕ → ℕ → ℕ
slot_byte c offset i = slice_index (page_bytes (c (member_page_of offset))) (slot_place_of offset i)

abbrev pub wanted_byte : ℕ → Option StoredBytes → Option ℕ
wanted_byte i o = Some (byte_held o i)

abbrev pub ImageHasZeroTails : Pages → Type 0
ImageHasZeroTails c = HasZeroTails (λ q. page_bytes (c q))
