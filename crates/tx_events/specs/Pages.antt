-- On which page of its store a number stands, and at which place of it. A page in full counts on over all full numbers;
-- the stored page, by which volumes, banks and locks go, is that of the number's low half.
use Rattle.std.specs.Prelude.{ℕ, ◌+◌, ◌*◌, ◌/◌, ◌%◌, ◌^◌}
use Rattle.tx_events.specs.Ids.{low_half}

-- how many numbers have their entries on one page

abbrev pub xacts_per_page : ℕ
xacts_per_page = 32768

abbrev pub parents_per_page : ℕ
parents_per_page = 2048

abbrev pub offsets_per_page : ℕ
offsets_per_page = 2048

abbrev pub members_per_page : ℕ
members_per_page = 1636

-- the commit log: the page of an id, in full of a full id, as stored of a low half
abbrev pub xact_page : ℕ → ℕ
xact_page id = id / 32768

abbrev pub xact_place : ℕ → ℕ
xact_place id = id % 32768

-- the parents of subtransactions
abbrev pub subtrans_page : ℕ → ℕ
subtrans_page id = id / 2048

abbrev pub subtrans_place : ℕ → ℕ
subtrans_place id = id % 2048

-- the offsets of multixacts
abbrev pub offset_page : ℕ → ℕ
offset_page multi = multi / 2048

abbrev pub offset_place : ℕ → ℕ
offset_place multi = multi % 2048

-- the members of multixacts, by a stored offset
abbrev pub member_page : ℕ → ℕ
member_page offset = offset / 1636

abbrev pub member_place : ℕ → ℕ
member_place offset = offset % 1636

-- A page of members in full. A page has no whole part of the ring: 2^32 offsets fill 2625286 pages, the last one not
-- to its end.
abbrev pub member_page_in_full : ℕ → ℕ
member_page_in_full offset = offset / 2 ^ 32 * 2625286 + member_page (low_half offset)

-- where the k-th member of a page stands: groups of four, each four mode bytes and then four ids of four bytes

abbrev pub mode_at : ℕ → ℕ
mode_at k = 20 * (k / 4) + k % 4

abbrev pub id_at : ℕ → ℕ
id_at k = 20 * (k / 4) + 4 + 4 * (k % 4)
