-- The rule of a table, over n locks and p published words.
use Rattle.std.specs.Prelude.{◌≡◌, ℕ, ◌+◌, ◌-◌, ◌<◌, Bool, true, false, List, [], ◌∷◌, ◌⊎◌, length, Some, slice_index, slice_index_or, replicate}
use mathlib.Core.Option.{some}
use lib.ListN.{get_elem?}
use Rattle.atomic_table.specs.Table.{State}
use Rattle.hall.specs.declared.writer.Writer.{Writer}
use Rattle.hall.specs.declared.writer.Writer.TheVariants.{Session, Lock}
use Rattle.hall.specs.declared.view.Stage.{Stage}
use Rattle.hall.specs.declared.view.Stage.TheVariants.{Free, Inside}
use Rattle.hall.specs.declared.view.View.{View}
use Rattle.hall.specs.declared.view.Merged.{Merged}
use Rattle.hall.specs.declared.view.Held.{Held}
use Rattle.hall.specs.declared.view.Opening.{Opening}
use Rattle.hall.specs.Layout.{line_of}
use Rattle.notes.specs.Lists.{at, Grows}
use Rattle.hall.specs.Lists.{Whole, OwnSeen}

-- the pass has the name m, and so has seen all of its entries
abbrev pub Holds : {S E : Type 0} → View S E → ℕ → Type 0
Holds d m = slice_index_or d.holds m false ≡ true

-- the pass is inside the lock c
abbrev pub IsIn : {S E : Type 0} → View S E → ℕ → Type 0
IsIn d c = d.stage ≡ Inside c

module _ {E : Type 0} where
  -- a pass with these names has seen beginnings of these histories, and all that is its own
  abbrev pub Extends : (E → ℕ) → (ℕ → Writer) → List Bool → List (List E) → List (List E) → Type 0
  Extends session writer holds seen lists = Grows seen lists × ((m : ℕ) → slice_index_or holds m false ≡ true → OwnSeen session writer m seen lists)

  -- what two passes knew as they were joined goes on in what the joined pass has seen
  abbrev pub Told : (E → ℕ) → (ℕ → Writer) → List (Merged E) → Type 0
  Told session writer [] = Unit {0}
  Told session writer (x ∷ xs) = Extends session writer x.holds x.seen x.both × Extends session writer x.other_holds x.other_seen x.both

module _ {S E : Type 0} where
  -- no two views have the same
  abbrev pub Unique : {K : Type 0} → List (View S E) → (View S E → K → Type 0) → Type 0
  Unique {K} vs R = (i j : ℕ) (d e : View S E) (k : K) → get_elem? vs i ≡ some d → get_elem? vs j ≡ some e → R d k → R e k → i ≡ j

  -- the value of the lock is with a pass that is inside
  abbrev pub Out : List (View S E) → ℕ → Type 0
  Out views c = (j : ℕ) × (d : View S E) × (get_elem? views j ≡ some d) × IsIn d c

  -- the pass alone may add to what this writer adds to
  abbrev pub Writes : Writer → View S E → Type 0
  Writes (Session m) v = Holds v m
  Writes (Lock c) v = IsIn v c

module _ {E : Type 0} where
  -- what the words and the histories say of a pass at this stage, which has seen these histories
  abbrev pub Stands : (ℕ → Writer) → ℕ → List ℕ → List (List E) → List (List E) → Stage → Type 0
  Stands writer n words lists seen Free = Unit {0}
  Stands writer n words lists seen (Inside c) = (c < n) × (slice_index words (line_of c) ≡ 1) × Whole writer (Lock c) seen lists

-- the value of the lock c is in its slot, and stands for the history
abbrev pub AtHome : {S V E : Type 0} → S → (S → ℕ → V → List E → Type 0) → List (mathlib.Core.Option.Option (Held V E)) → ℕ → List E → Type 0
AtHome {S} {V} {E} start stands homes c xs = (h : Held V E) × (x : V) × (get_elem? homes c ≡ some (some h)) × (h.value ≡ Some x) × stands start c x xs

-- what holds of the table at every moment, for some real histories
pub record Kept {S V E : Type 0} (start : S) (passes places : ℕ) (session : E → ℕ) (writer : S → ℕ → Writer) (stands : S → ℕ → V → List E → Type 0) (number : S → ℕ → List E → ℕ) (kept : S → List (List E) → Type 0) (s : State (Held V E) (View S E)) : Type 0 where
  -- the numbers of locks and of words
  pub n : ℕ
  pub p : ℕ
  -- the real histories, of which the relation holds
  pub lists : List (List E)
  pub many : length lists ≡ n + p
  pub total : n + p ≡ places
  -- a slot for each lock, and a line of words for each place, behind the spare one
  pub deep : length s.homes ≡ n
  pub wide : length s.words ≡ line_of (n + p)
  pub law : kept start lists
  -- whoever is inside a lock adds to its history
  pub locks : (c : ℕ) → c < n → writer start c ≡ Lock c
  -- each pass knows the table's start
  pub starts : (j : ℕ) (d : View S E) (a : S) → get_elem? s.views j ≡ some d → d.start ≡ a ∷ [] → a ≡ start
  -- each value is in its slot, where its lock's word is 0, or with the pass that is inside, where it is 1
  pub home : (c : ℕ) → c < n → ((slice_index s.words (line_of c) ≡ 0) × AtHome start stands s.homes c (at lists c)) ⊎ ((slice_index s.words (line_of c) ≡ 1) × Out s.views c)
  -- each published word shows the number of its history
  pub posted : (w : ℕ) → w < p → slice_index s.words (line_of (n + w)) ≡ number start (n + w) (at lists (n + w))
  -- the word of a lock that a pass is inside is 1, and no two passes are inside one
  pub stages : (j : ℕ) (d : View S E) → get_elem? s.views j ≡ some d → Stands (writer start) n s.words lists d.seen d.stage
  pub apart : Unique s.views IsIn
  -- what each pass has seen begins the real histories, and has all that is its own
  pub knows : (j : ℕ) (d : View S E) → get_elem? s.views j ≡ some d → Grows d.seen lists × ((m : ℕ) → Holds d m → OwnSeen session (writer start) m d.seen lists)
  -- no two passes have one name
  pub alone : Unique s.views Holds
  -- what was merged goes on in what the joined pass has seen
  pub told : (j : ℕ) (d : View S E) → get_elem? s.views j ≡ some d → Told session (writer start) d.merged
  -- names are below the number of passes, and who is inside a lock has its own
  pub named : (j : ℕ) (d : View S E) (m : ℕ) → get_elem? s.views j ≡ some d → Holds d m → m < passes
  pub owner : (j : ℕ) (d : View S E) (c : ℕ) → get_elem? s.views j ≡ some d → IsIn d c → Holds d d.name
  -- some pass has seen each history whole
  pub whole : (c : ℕ) → c < n + p → (j : ℕ) × (d : View S E) × (m : ℕ) × (get_elem? s.views j ≡ some d) × Holds d m × (at d.seen c ≡ at lists c)

-- the first pass has seen all histories, has all names, and adds under the last
abbrev pub first_view : {S E : Type 0} → Opening S E → View S E
first_view o = record { start = o.start ∷ []; name = o.passes - 1; holds = replicate o.passes true; seen = o.lists; stage = Free; looks = 0; found = 0; reads = 0; asked = 0; merged = [] }
