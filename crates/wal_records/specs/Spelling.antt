-- Which records are lawful, and the one spelling of each.
use Rattle.std.specs.Prelude.{ℕ, ◌<◌, ◌≤◌, ◌^◌, List, [], ◌∷◌, ◌++◌, length}
use Rattle.std.specs.List.{flat_map, AllByRecursion}
use Rattle.tx_events.specs.Ids.{IsFullId, IsFullMulti}
use Rattle.tx_events.specs.Modes.{mode_number}
use Rattle.tx_events.specs.declared.multi.Member.{Member}
use Rattle.tx_events.specs.declared.record.Counters.{Counters}
use Rattle.tx_events.specs.declared.record.Rec.{Rec}
use Rattle.tx_events.specs.declared.record.Rec.TheVariants as records
use Rattle.wal_records.specs.Numbers.{le_bytes}

abbrev pub member_bytes : Member → List ℕ
member_bytes m = mode_number m.mode ∷ le_bytes 8 m.id

-- an id, a count, and so many ids
unfoldable pub tree_bytes : ℕ → List ℕ → List ℕ
tree_bytes top subs = le_bytes 8 top ++ (le_bytes 4 (length subs) ++ flat_map (le_bytes 8) subs)

unfoldable pub multi_bytes : ℕ → ℕ → List Member → List ℕ
multi_bytes multi offset members =
    le_bytes 8 multi ++ (le_bytes 8 offset ++ (le_bytes 4 (length members) ++ flat_map member_bytes members))

unfoldable pub counters_bytes : Counters → List ℕ
counters_bytes c =
    le_bytes 8 c.next
    ++ (le_bytes 8 c.oldest ++ (le_bytes 8 c.multi ++ (le_bytes 8 c.offset ++ (le_bytes 8 c.oldest_multi ++ le_bytes 8 c.oldest_offset))))

unfoldable pub truncate_bytes : ℕ → ℕ → ℕ → List ℕ
truncate_bytes oldest multi offset = le_bytes 8 oldest ++ (le_bytes 8 multi ++ le_bytes 8 offset)

-- a tag and the fields
abbrev pub rec_bytes : Rec → List ℕ
rec_bytes (records.Commit top subs) = 1 ∷ tree_bytes top subs
rec_bytes (records.Abort top subs) = 2 ∷ tree_bytes top subs
rec_bytes (records.Multi multi offset members) = 3 ∷ multi_bytes multi offset members
rec_bytes (records.Checkpoint number counters) = 4 ∷ le_bytes 8 number ++ counters_bytes counters
rec_bytes (records.Truncate oldest multi offset) = 5 ∷ truncate_bytes oldest multi offset

abbrev pub IsId : ℕ → Type 0
IsId n = IsFullId n × (n < 2 ^ 64)

abbrev pub IsMulti : ℕ → Type 0
IsMulti n = IsFullMulti n × (n < 2 ^ 64)

-- ids above this one, each above the one before
abbrev pub AscendsFrom : ℕ → List ℕ → Type 0
AscendsFrom last [] = Unit {0}
AscendsFrom last (x ∷ xs) = (last < x) × (IsId x × AscendsFrom x xs)

pub record IsTree (t : ℕ) (ids : List ℕ) : Type 0 where
  pub top : IsId t
  pub few : length ids < 2 ^ 32
  pub subs : AscendsFrom t ids

pub record IsMultiRecord (m o : ℕ) (members : List Member) : Type 0 where
  pub multi : IsMulti m
  pub offset : o < 2 ^ 64
  pub some : 1 ≤ length members
  pub few : length members ≤ 64
  pub ids : AllByRecursion (λ m. IsId m.id) members

pub record AreCounters (c : Counters) : Type 0 where
  pub next : IsId c.next
  pub oldest : IsId c.oldest
  pub multi : IsMulti c.multi
  pub offset : c.offset < 2 ^ 64
  pub oldest_multi : IsMulti c.oldest_multi
  pub oldest_offset : c.oldest_offset < 2 ^ 64

pub record IsTruncate (t m o : ℕ) : Type 0 where
  pub oldest : IsId t
  pub multi : IsMulti m
  pub offset : o < 2 ^ 64

abbrev pub IsLawful : Rec → Type 0
IsLawful (records.Commit top subs) = IsTree top subs
IsLawful (records.Abort top subs) = IsTree top subs
IsLawful (records.Multi multi offset members) = IsMultiRecord multi offset members
IsLawful (records.Checkpoint number counters) = (number < 2 ^ 64) × AreCounters counters
IsLawful (records.Truncate oldest multi offset) = IsTruncate oldest multi offset

-- its lists' lengths can be spelled
abbrev pub HasCounts : Rec → Type 0
HasCounts (records.Commit top subs) = length subs < 2 ^ 32
HasCounts (records.Abort top subs) = length subs < 2 ^ 32
HasCounts (records.Multi multi offset members) = length members ≤ 64
HasCounts (records.Checkpoint number counters) = Unit {0}
HasCounts (records.Truncate oldest multi offset) = Unit {0}
