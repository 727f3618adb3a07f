-- What the entries list in a snapshot.
use Rattle.std.specs.Prelude.{◌≡◌, ℕ, Bool, true, false, nat_lt, List, [], map}
use Rattle.std.specs.List.{filter, flat_map, list_any}
use Rattle.std.specs.List.Sorted.{IsPermutation, IsSorted}
use Rattle.std.specs.Ordering.{nat_cmp}
use Rattle.proc_table.specs.declared.entry.Entry.{Entry}

abbrev pub entries_below : List Entry → ℕ → List Entry
entries_below entries limit = filter (λ (e : Entry). nat_lt e.top limit) entries

abbrev pub tops_of : List Entry → List ℕ
tops_of entries = map (λ (e : Entry). e.top) entries

abbrev pub subs_of : List Entry → List ℕ
subs_of entries = flat_map (λ (e : Entry). e.subs.items) entries

abbrev pub some_overflowed : List Entry → Bool
some_overflowed entries = list_any (λ (e : Entry). e.overflowed) entries

-- the subids of these entries, sorted
pub record AreSorted (ids sorted : List ℕ) : Type 0 where
  pub same : IsPermutation ids sorted
  pub ascend : IsSorted nat_cmp sorted

-- all of them, or none where an entry has overflowed
pub record AreListed (entries : List Entry) (limit : ℕ) (overflowed : Bool) (listed : List ℕ) : Type 0 where
  pub none : overflowed ≡ true → listed ≡ []
  pub all : overflowed ≡ false → AreSorted (subs_of (entries_below entries limit)) listed
