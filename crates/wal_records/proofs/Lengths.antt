-- How long records are.
use Rattle.std.proofs.Common.{◌≡◌, ℕ, ◌+◌, ◌*◌, ◌^◌, ◌<◌, List, [], ◌∷◌, ◌++◌, length, refl, arith}
use Rattle.std.specs.List.{flat_map}
use Rattle.std.proofs.lemmas.List.{length-append}
use Rattle.tx_events.specs.declared.record.Counters.{Counters}
use Rattle.tx_events.specs.declared.multi.Member.{Member}
use Rattle.tx_events.specs.declared.record.Rec.{Rec}
use Rattle.tx_events.specs.declared.record.Rec.TheVariants as records
use Rattle.tx_events.specs.RecordSize.{record_size}
use Rattle.wal_records.specs.Numbers.{le_bytes}
use Rattle.wal_records.specs.Spelling.{tree_bytes, multi_bytes, member_bytes, counters_bytes, truncate_bytes, rec_bytes, HasCounts}
use Rattle.wal_records.proofs.Fields.{length-le_bytes}

length-ids : (ids : List ℕ) → length (flat_map (le_bytes 8) ids) ≡ 8 * length ids
length-ids [] = refl
length-ids (x ∷ xs) = omega (arith, length-append (le_bytes 8 x) (flat_map (le_bytes 8) xs), length-le_bytes 8 x, length-ids xs)

length-members : (ms : List Member) → length (flat_map member_bytes ms) ≡ 9 * length ms
length-members [] = refl
length-members (m ∷ ms) = omega (arith, length-append (member_bytes m) (flat_map member_bytes ms), length-le_bytes 8 m.id, length-members ms)

pub length-tree : (top : ℕ) (subs : List ℕ) → length (tree_bytes top subs) ≡ 12 + 8 * length subs
unfolding tree_bytes
length-tree top subs =
    let counted : List ℕ = le_bytes 4 (length subs) ++ flat_map (le_bytes 8) subs in
    omega (arith, length-append (le_bytes 8 top) counted, length-append (le_bytes 4 (length subs)) (flat_map (le_bytes 8) subs), length-le_bytes 8 top, length-le_bytes 4 (length subs), length-ids subs)

pub length-multi : (multi offset : ℕ) (members : List Member) → length (multi_bytes multi offset members) ≡ 20 + 9 * length members
unfolding multi_bytes
length-multi multi offset members =
    let a : List ℕ = flat_map member_bytes members in let b : List ℕ = le_bytes 4 (length members) ++ a in let c : List ℕ = le_bytes 8 offset ++ b in
    omega (arith, length-append (le_bytes 8 multi) c, length-append (le_bytes 8 offset) b, length-append (le_bytes 4 (length members)) a, length-le_bytes 8 multi, length-le_bytes 8 offset, length-le_bytes 4 (length members), length-members members)

pub length-counters : (c : Counters) → length (counters_bytes c) ≡ 48
unfolding counters_bytes
length-counters c =
    let w : ℕ → List ℕ = λ n. le_bytes 8 n in
    let l5 : List ℕ = w c.oldest_multi ++ w c.oldest_offset in let l4 : List ℕ = w c.offset ++ l5 in let l3 : List ℕ = w c.multi ++ l4 in let l2 : List ℕ = w c.oldest ++ l3 in
    omega (
      arith,
      length-append (w c.next) l2,
      length-append (w c.oldest) l3,
      length-append (w c.multi) l4,
      length-append (w c.offset) l5,
      length-append (w c.oldest_multi) (w c.oldest_offset),
      length-le_bytes 8 c.next,
      length-le_bytes 8 c.oldest,
      length-le_bytes 8 c.multi,
      length-le_bytes 8 c.offset,
      length-le_bytes 8 c.oldest_multi,
      length-le_bytes 8 c.oldest_offset,
    )

pub length-checkpoint : (number : ℕ) (c : Counters) → length (le_bytes 8 number ++ counters_bytes c) ≡ 56
length-checkpoint number c = omega (arith, length-append (le_bytes 8 number) (counters_bytes c), length-le_bytes 8 number, length-counters c)

pub length-truncate : (oldest multi offset : ℕ) → length (truncate_bytes oldest multi offset) ≡ 24
unfolding truncate_bytes
length-truncate oldest multi offset =
    let c : List ℕ = le_bytes 8 multi ++ le_bytes 8 offset in
    omega (arith, length-append (le_bytes 8 oldest) c, length-append (le_bytes 8 multi) (le_bytes 8 offset), length-le_bytes 8 oldest, length-le_bytes 8 multi, length-le_bytes 8 offset)

-- the size of each record is the length of its bytes
pub size_is : (r : Rec) → record_size r ≡ length (rec_bytes r)
size_is (records.Commit top subs) = omega (arith, length-tree top subs)
size_is (records.Abort top subs) = omega (arith, length-tree top subs)
size_is (records.Multi multi offset members) = omega (arith, length-multi multi offset members)
size_is (records.Checkpoint number counters) = omega (arith, length-checkpoint number counters)
size_is (records.Truncate oldest multi offset) = omega (arith, length-truncate oldest multi offset)

pub size_short : (r : Rec) → HasCounts r → record_size r < 2 ^ 36
size_short (records.Commit top subs) few = omega (arith, few)
size_short (records.Abort top subs) few = omega (arith, few)
size_short (records.Multi multi offset members) few = omega (arith, few)
size_short (records.Checkpoint number counters) few = omega arith
size_short (records.Truncate oldest multi offset) few = omega arith
