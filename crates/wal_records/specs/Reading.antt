-- Reading a record from left to right. There is none where the bytes don't begin with a lawful one.
use Rattle.std.specs.Prelude.{◌≡◌, ℕ, zero, suc, List, [], ◌∷◌, length, take, drop, Option, Some, None, Result, Ok, Err, nat_lt, if◌then◌else◌}
use Rattle.tx_events.specs.Ids.{low_half}
use Rattle.tx_events.specs.Modes.{mode_of}
use Rattle.tx_events.specs.declared.multi.Member.{Member}
use Rattle.tx_events.specs.declared.record.Counters.{Counters}
use Rattle.tx_events.specs.declared.record.Rec.{Rec}
use Rattle.tx_events.specs.declared.record.Rec.TheVariants as records
use Rattle.wal_records.specs.Numbers.{le_number}
use Rattle.wal_records.specs.declared.stop.Stop.{Stop}
use Rattle.wal_records.specs.declared.stop.Stop.TheVariants as stops

infixl 10 ◌>>=◌
abbrev pub ◌>>=◌ : {A B : Type 0} → Option A → (A → Option B) → Option B
(Some x) >>= f = f x
None >>= f = None

-- What a function returned, seen by view, is what reading gives, unless memory ran out.
abbrev pub Stops : {Y : Type 0} → Stop → Option Y → Type 0
Stops stops.Memory read = Unit {0}
Stops stops.Unlawful read = read ≡ None

abbrev pub Gives : {X : Type 0} → Result X Stop → Option X → Type 0
Gives (Ok x) read = read ≡ Some x
Gives (Err e) read = Stops e read

-- the same, where the bytes that it left are these
abbrev pub GivesAt : {X : Type 0} → Result X Stop → List ℕ → Option (X × List ℕ) → Type 0
GivesAt (Ok x) rest read = read ≡ Some (x, rest)
GivesAt (Err e) rest read = Stops e read

-- a number of n bytes, and the bytes after it
abbrev pub number_at : ℕ → List ℕ → Option (ℕ × List ℕ)
number_at n bytes = if nat_lt (length bytes) n then None else Some (le_number n (take n bytes), drop n bytes)

unfoldable pub id_at : List ℕ → Option (ℕ × List ℕ)
id_at bytes = do
  n ← number_at 8 bytes
  if nat_lt (low_half n.0) 3 then None else Some n

unfoldable pub multi_at : List ℕ → Option (ℕ × List ℕ)
multi_at bytes = do
  n ← number_at 8 bytes
  if nat_lt (low_half n.0) 1 then None else Some n

unfoldable pub ids_at : ℕ → ℕ → List ℕ → Option (List ℕ × List ℕ)
ids_at zero last bytes = Some ([], bytes)
ids_at (suc n) last bytes = do
  first ← id_at bytes
  if nat_lt last first.0 then (ids_at n first.0 first.1 >>= λ others. Some (first.0 ∷ others.0, others.1)) else None

unfoldable pub member_at : List ℕ → Option (Member × List ℕ)
member_at [] = None
member_at (b ∷ bytes) = do
  mode ← mode_of b
  id ← id_at bytes
  Some (record { id = id.0; mode = mode }, id.1)

unfoldable pub members_at : ℕ → List ℕ → Option (List Member × List ℕ)
members_at zero bytes = Some ([], bytes)
members_at (suc n) bytes = do
  first ← member_at bytes
  others ← members_at n first.1
  Some (first.0 ∷ others.0, others.1)

unfoldable pub tree_at : List ℕ → Option ((ℕ × List ℕ) × List ℕ)
tree_at bytes = do
  top ← id_at bytes
  n ← number_at 4 top.1
  subs ← ids_at n.0 top.0 n.1
  Some ((top.0, subs.0), subs.1)

unfoldable pub commit_at : List ℕ → Option (Rec × List ℕ)
commit_at bytes = do
  tree ← tree_at bytes
  Some (records.Commit tree.0.0 tree.0.1, tree.1)

unfoldable pub abort_at : List ℕ → Option (Rec × List ℕ)
abort_at bytes = do
  tree ← tree_at bytes
  Some (records.Abort tree.0.0 tree.0.1, tree.1)

unfoldable pub multi_rec_at : List ℕ → Option (Rec × List ℕ)
multi_rec_at bytes = do
  multi ← multi_at bytes
  offset ← number_at 8 multi.1
  n ← number_at 4 offset.1
  members ← if nat_lt n.0 1 then None else if nat_lt 64 n.0 then None else members_at n.0 n.1
  Some (records.Multi multi.0 offset.0 members.0, members.1)

unfoldable pub counters_at : List ℕ → Option (Counters × List ℕ)
counters_at bytes = do
  next ← id_at bytes
  oldest ← id_at next.1
  multi ← multi_at oldest.1
  offset ← number_at 8 multi.1
  oldest_multi ← multi_at offset.1
  oldest_offset ← number_at 8 oldest_multi.1
  Some (record { next = next.0; oldest = oldest.0; multi = multi.0; offset = offset.0; oldest_multi = oldest_multi.0; oldest_offset = oldest_offset.0 }, oldest_offset.1)

unfoldable pub checkpoint_at : List ℕ → Option (Rec × List ℕ)
checkpoint_at bytes = do
  number ← number_at 8 bytes
  counters ← counters_at number.1
  Some (records.Checkpoint number.0 counters.0, counters.1)

unfoldable pub truncate_at : List ℕ → Option (Rec × List ℕ)
truncate_at bytes = do
  oldest ← id_at bytes
  multi ← multi_at oldest.1
  offset ← number_at 8 multi.1
  Some (records.Truncate oldest.0 multi.0 offset.0, offset.1)

-- a record, and the bytes after it
unfoldable pub rec_at : List ℕ → Option (Rec × List ℕ)
rec_at [] = None
rec_at (zero ∷ bytes) = None
rec_at (suc zero ∷ bytes) = commit_at bytes
rec_at (suc (suc zero) ∷ bytes) = abort_at bytes
rec_at (suc (suc (suc zero)) ∷ bytes) = multi_rec_at bytes
rec_at (suc (suc (suc (suc zero))) ∷ bytes) = checkpoint_at bytes
rec_at (suc (suc (suc (suc (suc zero)))) ∷ bytes) = truncate_at bytes
rec_at (suc (suc (suc (suc (suc (suc n))))) ∷ bytes) = None
