-- What stands on the stores' pages, byte by byte, and the pages from which on a store is kept. By full numbers.
use Rattle.std.specs.Prelude.{ℕ, zero, suc, ◌+◌, ◌-◌, ◌*◌, ◌/◌, ◌%◌, ◌^◌, ◌==◌, if◌then◌else◌, min, List, slice_index}
use Rattle.tx_events.specs.Ids.{low_half, id_before}
use Rattle.tx_events.specs.Pages.{xact_page, xact_place, subtrans_page, subtrans_place, member_page, member_place, mode_at, id_at}

-- the commit log: two bits an id, 32768 ids a page

abbrev pub xact_page_of : ℕ → ℕ
xact_page_of id = xact_page (low_half id)

abbrev pub xact_place_of : ℕ → ℕ
xact_place_of id = xact_place (low_half id)

-- the two bits of the k-th of the four ids of a byte
abbrev pub bits_at : ℕ → ℕ → ℕ
bits_at byte zero = byte % 4
bits_at byte (suc k) = bits_at (byte / 4) k

-- the bits of the n-th id of a page
abbrev pub state_in : List ℕ → ℕ → ℕ
state_in bytes n = bits_at (slice_index bytes (n / 4)) (n % 4)

-- numbers of four bytes, the low one first

abbrev pub number_in : List ℕ → ℕ → ℕ
number_in bytes at = slice_index bytes at + 256 * (slice_index bytes (at + 1) + 256 * (slice_index bytes (at + 2) + 256 * slice_index bytes (at + 3)))

-- parents and offsets: four bytes each, 2048 a page

abbrev pub word_page_of : ℕ → ℕ
word_page_of number = subtrans_page (low_half number)

abbrev pub word_place_of : ℕ → ℕ
word_place_of number = 4 * subtrans_place (low_half number)

-- members: 409 groups of four a page, each four mode bytes and then four ids of four bytes

abbrev pub member_page_of : ℕ → ℕ
member_page_of offset = member_page (low_half offset)

abbrev pub mode_place_of : ℕ → ℕ
mode_place_of offset = mode_at (member_place (low_half offset))

abbrev pub member_place_of : ℕ → ℕ
member_place_of offset = id_at (member_place (low_half offset))

-- The cutoff page of each store. By the order of stored pages a cutoff half a ring past another one comes before it. So a
-- life that began with the oldest id `first` cuts up to the last page before half a ring past the segment of that one.

-- the page of the oldest id, or that last one; and as it is stored
abbrev pub xact_cut_page : ℕ → ℕ → ℕ
xact_cut_page first oldest = min (xact_page oldest) (xact_page first / 32 * 32 + 65535)

abbrev pub xact_cutoff : ℕ → ℕ → ℕ
xact_cutoff first oldest = xact_cut_page first oldest % 2 ^ 17

-- The page of the id before the oldest xmin, or that last one. The first cutoff of a life may lie one page before the
-- segment.
abbrev pub subtrans_cut_page : ℕ → ℕ → ℕ
subtrans_cut_page first xmin = min (subtrans_page (id_before xmin)) (subtrans_page first / 32 * 32 + 1048574)

abbrev pub subtrans_cutoff : ℕ → ℕ → ℕ
subtrans_cutoff first xmin = subtrans_cut_page first xmin % 2 ^ 21

-- the full multixact id before n, 0 before the first one
abbrev pub multi_before : ℕ → ℕ
multi_before n = if low_half (n - 1) == 0 then n - 2 else n - 1

-- the page of the multixact before the oldest one, page 0 where there is none
abbrev pub offset_cutoff : ℕ → ℕ
offset_cutoff oldest = word_page_of (multi_before oldest)

-- the oldest member offset's page
abbrev pub member_cutoff : ℕ → ℕ
member_cutoff oldest = member_page_of oldest
