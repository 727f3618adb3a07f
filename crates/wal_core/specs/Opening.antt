-- What a log volume opens to: batches up to the first closed gate, and the records in them.
use Rattle.std.specs.Prelude.{◌≡◌, ◌≢◌, ◌⊎◌, ℕ, zero, suc, ◌+◌, ◌-◌, ◌<◌, ◌≤◌, ◌^◌, ◌==◌, ◌&&◌, ◌||◌, not, Bool, true, false, nat_lt, nat_le, List, [], ◌∷◌, ◌++◌, length, take, drop, slice_index, Option, Some, None, Result, Ok, Err, if◌then◌else◌, cond}
use Rattle.std.specs.List.{flat_map, AllByRecursion}
use Rattle.wal_core.specs.BaseTest.{is_base_of}
use Rattle.tx_events.specs.After.{after_record}
use Rattle.tx_events.specs.declared.record.Counters.{Counters}
use Rattle.tx_events.specs.declared.record.Rec.{Rec}
use Rattle.tx_events.specs.declared.record.Rec.TheVariants as records
use Rattle.disk_core.specs.Volume.{Volume}
use Rattle.wal_records.specs.Numbers.{le_bytes}
use Rattle.wal_records.specs.Reading.{◌>>=◌, number_at, rec_at}

-- ---- batches

-- a whole batch: an open gate, a length, and so many bytes
unfoldable pub batch_bytes : List ℕ → List ℕ
batch_bytes body = 1 ∷ (le_bytes 4 (length body) ++ body)

abbrev pub batches_bytes : List (List ℕ) → List ℕ
batches_bytes bodies = flat_map batch_bytes bodies

-- the bytes of the open batches from a gate on, how far they reach, and whether each is whole
pub record Walked : Type 0 where
  pub bodies : List (List ℕ)
  pub reach : ℕ
  pub whole : Bool

abbrev pub ended : Bool → Walked
ended whole = record { bodies = []; reach = 0; whole = whole }

abbrev pub behind : Option (List ℕ × List ℕ) → (List ℕ → Walked) → Walked
behind None walk = ended false
behind (Some b) walk = record {
  bodies = b.0 ∷ (walk b.1).bodies;
  reach = 5 + length b.0 + (walk b.1).reach;
  whole = (walk b.1).whole;
}

-- what stands behind an open gate
unfoldable pub batch_at : List ℕ → Option (List ℕ × List ℕ)
batch_at bytes = do
  n ← number_at 4 bytes
  if nat_lt (length n.1) n.0 then None else Some (take n.0 n.1, drop n.0 n.1)

-- at most n batches
unfoldable pub walk : ℕ → List ℕ → Walked
walk zero bytes = ended true
walk (suc n) [] = ended true
walk (suc n) (gate ∷ bytes) = if gate == 1 then behind (batch_at bytes) (walk n) else ended true

abbrev pub walked : Volume → Walked
walked v = walk (length (drop v.start v.bytes) + 1) (drop v.start v.bytes)

-- the first gate is open
abbrev pub BeginsOpen : List ℕ → Type 0
BeginsOpen [] = ⊥
BeginsOpen (gate ∷ bytes) = gate ≡ 1

-- ---- records

-- the numbers from `first` on, and the counters after them
pub record History : Type 0 where
  pub first : ℕ
  pub recs : List Rec
  pub counters : Counters

abbrev pub next_number : History → ℕ
next_number h = h.first + length h.recs

abbrev pub number_fits : ℕ → Rec → Bool
number_fits number (records.Checkpoint n counters) = n == number
number_fits number (records.Commit top subs) = true
number_fits number (records.Abort top subs) = true
number_fits number (records.Multi multi offset members) = true
number_fits number (records.Truncate oldest multi offset) = true

abbrev pub with_rec : History → Rec → History
with_rec h r = record { first = h.first; recs = h.recs ++ r ∷ []; counters = after_record h.counters r }

-- the record may come next
abbrev pub may_follow : History → Rec → Bool
may_follow h r = number_fits (next_number h) r && is_base_of (after_record h.counters r)

abbrev pub joined : History → List Rec → Option History
joined h [] = Some h
joined h (r ∷ recs) = cond (may_follow h r) (joined (with_rec h r) recs) None

-- all of the bytes as lawful records, at most n
unfoldable pub recs_in : ℕ → List ℕ → Option (List Rec)
recs_in n [] = Some []
recs_in zero (b ∷ bytes) = None
recs_in (suc n) (b ∷ bytes) = do
  first ← rec_at (b ∷ bytes)
  others ← recs_in n first.1
  Some (first.0 ∷ others)

abbrev pub recs_of : List ℕ → Option (List Rec)
recs_of body = recs_in (length body) body

abbrev pub first_number : List Rec → Option ℕ
first_number (records.Checkpoint number counters ∷ recs) = Some number
first_number recs = None

abbrev pub no_counters : Counters
no_counters = record { next = 0; oldest = 0; multi = 0; offset = 0; oldest_multi = 0; oldest_offset = 0 }

abbrev pub began : ℕ → History
began number = record { first = number; recs = []; counters = no_counters }

-- the first batch begins with a checkpoint whose number isn't past the place of its gate
abbrev pub with_body : ℕ → Option History → List ℕ → Option History
with_body at (Some h) body = recs_of body >>= joined h
with_body at None body = recs_of body >>= λ recs. first_number recs >>= λ number. cond (nat_lt at number) None (joined (began number) recs)

-- the history of the batches, or the place of the gate before the first that has no lawful one
abbrev pub going_on : ℕ → Option History → (Option History → Result (Option History) ℕ) → Result (Option History) ℕ
going_on at None judge = Err at
going_on at (Some h) judge = judge (Some h)

unfoldable pub judged : List (List ℕ) → ℕ → Option History → Result (Option History) ℕ
judged [] at h = Ok h
judged (body ∷ bodies) at h = going_on at (with_body at h body) (judged bodies (at + (5 + length body)))

-- ---- a volume

abbrev pub is_closed : List ℕ → ℕ → Bool
is_closed bytes at = not (slice_index bytes at == 1)

-- nothing was ever acknowledged on it
abbrev pub is_new : Volume → Bool
is_new v = (v.start == 0) && (nat_le (length v.bytes) 1 || is_closed v.bytes 0)

-- what a log opens to: the history, if it isn't new, and the place of the next gate
pub record Opened : Type 0 where
  pub history : Option History
  pub gate : ℕ

abbrev pub opened_as : ℕ → Walked → Result (Option History) ℕ → Result Opened ℕ
opened_as start w (Err at) = Err at
opened_as start w (Ok None) = Err start
opened_as start w (Ok (Some h)) = cond w.whole (Ok (record { history = Some h; gate = start + w.reach })) (Err (start + w.reach))

-- the batches behind a volume's start
abbrev pub opened_bytes : ℕ → List ℕ → Result Opened ℕ
opened_bytes start bytes = opened_as start (walk (length bytes + 1) bytes) (judged (walk (length bytes + 1) bytes).bodies start None)

-- or the place of the first gate at which it is damaged
unfoldable pub opened : Volume → Result Opened ℕ
opened v = cond (is_new v) (Ok (record { history = None; gate = 0 })) (opened_as v.start (walked v) (judged (walked v).bodies v.start None))

-- ---- a volume at rest

-- whole batches up to a closed gate
pub record AtRest (v : Volume) (bodies : List (List ℕ)) (gate : ℕ) : Type 0 where
  pub begins : v.start ≤ gate
  pub front : drop v.start (take gate v.bytes) ≡ batches_bytes bodies
  pub fits : AllByRecursion (λ body. length body < 2 ^ 32) bodies
  pub within : gate < length v.bytes
  pub closed : slice_index v.bytes gate ≢ 1

-- the batch is on it, or it isn't
abbrev pub IsBeforeOrAfter : List (List ℕ) → ℕ → List ℕ → Volume → Type 0
IsBeforeOrAfter bodies gate body c = AtRest c bodies gate ⊎ AtRest c (bodies ++ body ∷ []) (gate + (5 + length body))

-- what is written behind a closed gate: a length, so many bytes, and the next closed gate
abbrev pub behind_gate : List ℕ → List ℕ
behind_gate body = le_bytes 4 (length body) ++ (body ++ 0 ∷ [])

-- the records' bytes in it
abbrev pub body_in : List ℕ → List ℕ
body_in bytes = take (length bytes - 5) (drop 4 bytes)

pub record IsBehindGate (bytes : List ℕ) : Type 0 where
  pub spelled : bytes ≡ behind_gate (body_in bytes)
  pub few : length (body_in bytes) < 2 ^ 32
