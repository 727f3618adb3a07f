-- What the table keeps of running transactions, and how one entry changes.
use Rattle.std.specs.Prelude.{◌≡◌, ℕ, ◌<◌, ◌≤◌, ◌==◌, ◌||◌, ◌⊎◌, Bool, true, false, not, nat_lt, List, [], ◌∷◌, ◌++◌, length}
use Rattle.std.specs.List.{AllByRecursion, filter, slice_index_or}
use Rattle.std.specs.Vec.{vec_len, vec_capacity}
use Rattle.tx_events.specs.declared.event.Event.{Event}
use Rattle.tx_events.specs.Running.{open_ids}
use Rattle.tx_events.specs.Snapshots.{latest, running_subs, has_overflowed}
use Rattle.tx_events.specs.IdLists.{has, Ascending}
use Rattle.tx_events.specs.Savepoints.{family}
use Rattle.proc_table.specs.declared.entry.Entry.{Entry}

-- what is kept of one transaction is that of the events
pub record IsEntry (first : ℕ) (h : List Event) (session top last : ℕ) (subs : List ℕ) (overflowed : Bool) : Type 0 where
  pub own : open_ids session h ≡ family h top
  pub here : has (family h top) top ≡ true
  pub flag : overflowed ≡ has_overflowed h top
  pub subs_are : subs ≡ running_subs h top
  -- the greatest of its ids that are open, or, where that was closed, an id up to the latest
  pub greatest : AllByRecursion (λ x. x ≤ last) (family h top)
  pub last_is : (last ≤ latest first h) ⊎ (has (family h top) last ≡ true)

abbrev pub IsEntryAt : ℕ → List Event → Entry → Type 0
IsEntryAt first h e = IsEntry first h e.session e.top e.last e.subs.items e.overflowed

-- the two entries differ in room alone
pub record IsSame (e new : Entry) : Type 0 where
  pub session : new.session ≡ e.session
  pub top : new.top ≡ e.top
  pub last : new.last ≡ e.last
  pub subs : new.subs.items ≡ e.subs.items
  pub overflowed : new.overflowed ≡ e.overflowed

-- the entry, if it is of the session, has room for one more subid
abbrev pub HasRoomFor : ℕ → Entry → Type 0
HasRoomFor session e = (e.session == session) ≡ true → vec_len e.subs < vec_capacity e.subs

-- the entry of the session takes one more subid, and the others stay
pub record IsAdded (session id : ℕ) (e new : Entry) : Type 0 where
  pub same_session : new.session ≡ e.session
  pub same_top : new.top ≡ e.top
  pub others_last : (e.session == session) ≡ false → new.last ≡ e.last
  pub others_flag : (e.session == session) ≡ false → new.overflowed ≡ e.overflowed
  pub others_subs : (e.session == session) ≡ false → new.subs.items ≡ e.subs.items
  pub last_is : (e.session == session) ≡ true → new.last ≡ id
  pub flag_is : (e.session == session) ≡ true → new.overflowed ≡ (e.overflowed || nat_lt 64 (length (e.subs.items ++ id ∷ [])))
  pub subs_are : (e.session == session) ≡ true → new.subs.items ≡ e.subs.items ++ id ∷ []

-- the entry of the session loses these subids, and the others stay
pub record IsTaken (session : ℕ) (ids : List ℕ) (e new : Entry) : Type 0 where
  pub same_session : new.session ≡ e.session
  pub same_top : new.top ≡ e.top
  pub same_last : new.last ≡ e.last
  pub same_flag : new.overflowed ≡ e.overflowed
  pub others_subs : (e.session == session) ≡ false → new.subs.items ≡ e.subs.items
  pub subs_are : (e.session == session) ≡ true → new.subs.items ≡ filter (λ x. not (has ids x)) e.subs.items

-- the items at each place stand in R
pub record IsEach {X : Type 0} (R : X → X → Type 0) (xs ys : List X) : Type 0 where
  pub same_length : length ys ≡ length xs
  pub at : (k : ℕ) (d : X) → k < length xs → R (slice_index_or xs k d) (slice_index_or ys k d)

abbrev pub SubsAscend : Entry → Type 0
SubsAscend e = Ascending e.subs.items

-- the id is the entry's top or one of its subids
abbrev pub is_of_entry : ℕ → Entry → Bool
is_of_entry x e = (x == e.top) || has e.subs.items x
