-- What words say. Each function gives the value at the front and the words behind it. They are loose: what is read is
-- printed again and compared.
use Rattle.std.specs.Prelude.{◌≡◌, ℕ, ◌+◌, ◌*◌, ◌%◌, ◌^◌, ◌&&◌, ◌||◌, not, nat_lt, List, [], ◌∷◌, codes, Bool, cond, Option, Some, None, Result, Ok, Err}
use Rattle.std.specs.Str.{bytes_eq}
use Rattle.tx_events.specs.Ids.{low_half}
use Rattle.tx_events.specs.Names.{is_name}
use Rattle.tx_events.specs.declared.event.By.{By}
use Rattle.tx_events.specs.declared.record.Counters.{Counters}
use Rattle.tx_events.specs.declared.snapshot.SnapData.{SnapData}
use Rattle.report_words.specs.declared.unread.Unread.{Unread}
use Rattle.report_words.specs.declared.unread.Unread.TheVariants as unreads

infixl 10 ◌>>=◌
abbrev pub ◌>>=◌ : {A B : Type 0} → Option A → (A → Option B) → Option B
None >>= f = None
(Some x) >>= f = f x

-- a reader gives what reading gives, but for want of memory
abbrev pub Gives : {X Y : Type 0} → (X → Y) → Result X Unread → Option Y → Type 0
Gives view (Ok x) read = read ≡ Some (view x)
Gives view (Err unreads.Form) read = read ≡ None
Gives view (Err unreads.Memory) read = Unit {0}

-- x is read, but for want of memory
abbrev pub IsOnly : {X : Type 0} → Result X Unread → X → Type 0
IsOnly (Ok y) x = y ≡ x
IsOnly (Err unreads.Form) x = ⊥
IsOnly (Err unreads.Memory) x = Unit {0}

abbrev pub word_at : List (List ℕ) → Option (List ℕ × List (List ℕ))
word_at [] = None
word_at (w ∷ ws) = Some (w, ws)

-- one digit more
abbrev pub next : ℕ → ℕ → Option ℕ
next n digit = cond (nat_lt digit 10 && nat_lt (10 * n + digit) (2 ^ 64)) (Some (10 * n + digit)) None

-- a byte's digit; past 9 where it is none
abbrev pub digit_of : ℕ → ℕ
digit_of b = (b + 208) % 256

abbrev pub number_from : ℕ → List ℕ → Option ℕ
number_from n [] = Some n
number_from n (b ∷ bs) = next n (digit_of b) >>= λ m. number_from m bs

abbrev pub number_of : List ℕ → Option ℕ
number_of word = number_from 0 word

unfoldable pub number_at : List (List ℕ) → Option (ℕ × List (List ℕ))
number_at ws = do
  w ← word_at ws
  n ← number_of w.0
  Some (n, w.1)

abbrev pub is_xid_number : ℕ → Bool
is_xid_number n = nat_lt n 3 || not (nat_lt (low_half n) 3)

abbrev pub full_id : ℕ → Option ℕ
full_id n = cond (is_xid_number n) (Some n) None

abbrev pub name_of : List ℕ → Option (List ℕ)
name_of w = cond (is_name w) (Some w) None

-- a place counted from k on
abbrev pub later_place : ℕ → Option ℕ → Option ℕ
later_place k None = None
later_place k (Some n) = Some (k + n)

-- the session of this name
abbrev pub name_place : List (List ℕ) → List ℕ → Option ℕ
name_place [] w = None
name_place (n ∷ ns) w = cond (bytes_eq n w) (Some 0) (later_place 1 (name_place ns w))

unfoldable pub by_at : List (List ℕ) → List (List ℕ) → Option (By × List (List ℕ))
by_at names ws = do
  name ← word_at ws
  session ← name_place names name.0
  command ← number_at name.1
  Some (record { session = session; command = command.0 }, command.1)

-- ---- numbers behind words, and lists

-- a word, whichever it is, and a number behind it
unfoldable pub named_at : List (List ℕ) → Option (ℕ × List (List ℕ))
named_at ws = do
  w ← word_at ws
  number_at w.1

abbrev pub is_multi_number : ℕ → Bool
is_multi_number n = not (nat_lt (low_half n) 1)

abbrev pub full_multi : ℕ → Option ℕ
full_multi n = cond (is_multi_number n) (Some n) None

unfoldable pub counters_at : List (List ℕ) → Option Counters
counters_at ws = do
  next ← named_at ws
  a ← full_id next.0
  oldest ← named_at next.1
  b ← full_id oldest.0
  multi ← named_at oldest.1
  c ← full_multi multi.0
  offset ← named_at multi.1
  oldest_multi ← named_at offset.1
  d ← full_multi oldest_multi.0
  oldest_offset ← named_at oldest_multi.1
  Some (record { next = a; oldest = b; multi = c; offset = offset.0; oldest_multi = d; oldest_offset = oldest_offset.0 })

abbrev pub id_of : List ℕ → Option ℕ
id_of w = number_of w >>= full_id

abbrev pub add_id : Option ℕ → List ℕ → List ℕ
add_id None ids = []
add_id (Some n) ids = n ∷ ids

abbrev pub skip_id : Option ℕ → List (List ℕ) → List (List ℕ) → List (List ℕ)
skip_id None here there = here
skip_id (Some n) here there = there

-- the ids at the front, and the words behind them
abbrev pub front_ids : List (List ℕ) → List ℕ
front_ids [] = []
front_ids (w ∷ ws) = add_id (id_of w) (front_ids ws)

abbrev pub behind_ids : List (List ℕ) → List (List ℕ)
behind_ids [] = []
behind_ids (w ∷ ws) = skip_id (id_of w) (w ∷ ws) (behind_ids ws)

-- the same where a dash stands for none
abbrev pub list_ids : List (List ℕ) → List ℕ
list_ids [] = []
list_ids (w ∷ ws) = cond (bytes_eq w (codes "-")) [] (front_ids (w ∷ ws))

abbrev pub behind_list : List (List ℕ) → List (List ℕ)
behind_list [] = []
behind_list (w ∷ ws) = cond (bytes_eq w (codes "-")) ws (behind_ids (w ∷ ws))

unfoldable pub snap_lists_at : ℕ → ℕ → List (List ℕ) → Option SnapData
snap_lists_at xmin xmax ws = do
  a ← word_at ws
  b ← word_at (behind_list a.1)
  c ← word_at (behind_list b.1)
  d ← word_at c.1
  Some (record { xmin = xmin; xmax = xmax; xip = list_ids a.1; subxip = list_ids b.1; overflowed = bytes_eq d.0 (codes "yes") })

-- a snapshot, behind `ok`
unfoldable pub snap_at : List (List ℕ) → Option SnapData
snap_at ws = do
  xmin ← named_at ws
  a ← full_id xmin.0
  xmax ← named_at xmin.1
  b ← full_id xmax.0
  snap_lists_at a b xmax.1
