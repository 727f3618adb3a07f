-- What each step tells its pass, and the view after it.
use Rattle.std.specs.Prelude.{◌≡◌, ℕ, ◌+◌, ltb, Bool, true, false, ◌||◌, if◌then◌else◌, List, [], ◌∷◌, ◌⊎◌, length, replicate, Some, slice_set}
use mathlib.Core.Option.{some}
use Rattle.atomic_table.specs.Table.{Me, Step}
use Rattle.hall.specs.declared.writer.Writer.{Writer}
use Rattle.hall.specs.declared.writer.Writer.TheVariants.{Lock}
use Rattle.hall.specs.declared.view.Stage.TheVariants.{Free, Inside}
use Rattle.hall.specs.declared.view.View.{View}
use Rattle.hall.specs.declared.view.Merged.{Merged}
use Rattle.hall.specs.declared.view.Held.{Held}
use Rattle.notes.specs.declared.note.Note.{Note}
use Rattle.hall.specs.Layout.{line_of}
use Rattle.notes.specs.Lists.{add, at, Grows}
use Rattle.hall.specs.Lists.{Whole, OwnSeen}
use Rattle.hall.specs.Rule.{Holds, Writes, Told}

module _ {E : Type 0} where
  -- the longer of two lists
  abbrev pub longer_of : List E → List E → List E
  longer_of xs ys = if ltb (length xs) (length ys) then ys else xs

  -- at each place the longer of two lists
  abbrev pub longer : List (List E) → List (List E) → List (List E)
  longer [] ys = ys
  longer (x ∷ xs) [] = x ∷ xs
  longer (x ∷ xs) (y ∷ ys) = longer_of x y ∷ longer xs ys

-- at each place whether one of the two is true
abbrev pub either_of : List Bool → List Bool → List Bool
either_of [] ys = ys
either_of (x ∷ xs) [] = x ∷ xs
either_of (x ∷ xs) (y ∷ ys) = (x || y) ∷ either_of xs ys

module _ {S E : Type 0} where
  -- a look found the lock taken
  abbrev pub missed : View S E → View S E
  missed v = record v { looks = v.looks + 1; found = 1 }

  -- a look found the lock c free, and the histories were then ls
  abbrev pub entered : ℕ → List (List E) → View S E → View S E
  entered c ls v = record v { seen = ls; stage = Inside c; looks = v.looks + 1; found = 0 }

  -- the history at a place has one entry more
  abbrev pub added : ℕ → E → View S E → List (List E)
  added q e v = add v.seen q e

  -- the lock was released with one entry more
  abbrev pub left : ℕ → E → View S E → View S E
  left c e v = record v { seen = added c e v; stage = Free }

  -- the lock was released, and no history has an entry more
  abbrev pub released : View S E → View S E
  released v = record v { stage = Free }

  -- a word was published, with one entry more at its place
  abbrev pub published : ℕ → E → View S E → View S E
  published q e v = record v { seen = added q e v }

  -- a word was loaded, and the histories were then ls
  abbrev pub learned : List (List E) → View S E → View S E
  learned ls v = record v { seen = ls; reads = v.reads + 1 }

  -- the name n was asked for
  abbrev pub asking : ℕ → View S E → View S E
  asking n v = record v { asked = n }

  -- the pass gives the name that it asked for
  abbrev pub giving : View S E → View S E
  giving v = record v { holds = slice_set v.holds v.asked false }

  -- the new pass, which has the name that was asked for
  abbrev pub given : View S E → View S E
  given v = record { start = v.start; name = v.asked; holds = slice_set (replicate (length v.holds) false) v.asked true; seen = v.seen; stage = Free; looks = 0; found = 0; reads = 0; asked = 0; merged = [] }

  -- the pass v took in w
  abbrev pub joined : View S E → View S E → View S E
  joined v w = record v { holds = either_of v.holds w.holds; seen = longer v.seen w.seen; merged = record { holds = v.holds; seen = v.seen; other_holds = w.holds; other_seen = w.seen; both = longer v.seen w.seen } ∷ [] }

  -- the histories were then ls, and what was merged is known
  abbrev pub settled : List (List E) → View S E → View S E
  settled ls v = record v { seen = ls; merged = [] }

  -- a pass that was taken in
  abbrev pub spent : View S E
  spent = record { start = []; name = 0; holds = []; seen = []; stage = Free; looks = 0; found = 0; reads = 0; asked = 0; merged = [] }

  -- The histories at one moment, as a pass learns them: the relation holds of them, and each begins with what the pass had seen of it. Where only this pass may write, it had seen all: there are no other entries of its names, and nothing new in its sessions' words, in the lock that it is inside, and in the words that this lock guards
  pub record Moment (session : E → ℕ) (writer : S → ℕ → Writer) (kept : S → List (List E) → Type 0) (start : S) (v : View S E) (lists : List (List E)) : Type 0 where
    pub law : kept start lists
    pub long : length lists ≡ length v.seen
    pub grows : Grows v.seen lists
    pub own_seen : (m : ℕ) → Holds v m → OwnSeen session (writer start) m v.seen lists
    pub locked : (c : ℕ) → v.stage ≡ Inside c → Whole (writer start) (Lock c) v.seen lists

-- a seat of the table, as its steps see it
abbrev Sat : Type 0 → Type 0 → Type 0 → Type 0
Sat S V E = Me (Held V E) (View S E)

module _ {S V E : Type 0} where
  -- all histories were seen whole, and the slot is with the pass
  pub record Got (session : E → ℕ) (writer : S → ℕ → Writer) (stands : S → ℕ → V → List E → Type 0) (kept : S → List (List E) → Type 0) (start : S) (c : ℕ) (m m' : Sat S V E) : Type 0 where
    pub lists : List (List E)
    pub value : V
    pub held : Held V E
    pub moment : Moment session writer kept start m.0 lists
    pub stood : stands start c value (at lists c)
    pub filled : held.value ≡ Some value
    pub view_is : m'.0 ≡ entered c lists m.0
    pub slots_are : m'.1 ≡ (c, held) ∷ m.1

  -- a look found the lock free and took it, or found it taken
  abbrev pub looked : (E → ℕ) → (S → ℕ → Writer) → (S → ℕ → V → List E → Type 0) → (S → List (List E) → Type 0) → Step (Held V E) → Sat S V E → ℕ → Sat S V E → Type 0
  looked session writer stands kept st m r m' = (c : ℕ) (start : S) → st.word ≡ line_of c → m.0.start ≡ start ∷ []
      → ((r ≡ 0) × Got session writer stands kept start c m m') ⊎ ((r ≡ 1) × (m'.0 ≡ missed m.0) × (m'.1 ≡ m.1))

  -- the entry of the slot's note was added
  abbrev pub went : Step (Held V E) → Sat S V E → ℕ → Sat S V E → Type 0
  went st m r m' = (c : ℕ) (h : Held V E) (e : Note E) → m.0.stage ≡ Inside c → m.1 ≡ (c, h) ∷ [] → h.note ≡ Some e → (m'.0 ≡ left c e.value m.0) × (m'.1 ≡ [])

  -- the lock was released without an entry
  abbrev pub freed : Step (Held V E) → Sat S V E → ℕ → Sat S V E → Type 0
  freed st m r m' = (c : ℕ) (h : Held V E) → m.1 ≡ (c, h) ∷ [] → (m'.0 ≡ released m.0) × (m'.1 ≡ [])

  -- the name was asked for
  abbrev pub asks : Step (Held V E) → Sat S V E → ℕ → Sat S V E → Type 0
  asks st m r m' = (m'.0 ≡ asking st.first m.0) × (m'.1 ≡ m.1)

  -- the histories of this moment, in which the word shows the number r
  pub record Learnt (session : E → ℕ) (writer : S → ℕ → Writer) (number : S → ℕ → List E → ℕ) (kept : S → List (List E) → Type 0) (start : S) (q r : ℕ) (m m' : Sat S V E) : Type 0 where
    pub lists : List (List E)
    pub moment : Moment session writer kept start m.0 lists
    pub shown : number start q (at lists q) ≡ r
    pub view_is : m'.0 ≡ learned lists m.0
    pub slots_are : m'.1 ≡ m.1

  -- the word of the place q was loaded
  abbrev pub reads : (E → ℕ) → (S → ℕ → Writer) → (S → ℕ → List E → ℕ) → (S → List (List E) → Type 0) → Step (Held V E) → Sat S V E → ℕ → Sat S V E → Type 0
  reads session writer number kept st m r m' = (q : ℕ) (start : S) → st.word ≡ line_of q → m.0.start ≡ start ∷ [] → Learnt session writer number kept start q r m m'

  -- a word that this pass alone publishes shows the number of the history that it has seen
  abbrev pub checks : (S → ℕ → Writer) → (S → ℕ → List E → ℕ) → Step (Held V E) → Sat S V E → ℕ → Sat S V E → Type 0
  checks writer number st m r m' = (m' ≡ m) × ((q : ℕ) (start : S) → st.word ≡ line_of q → m.0.start ≡ start ∷ [] → Writes (writer start q) m.0 → number start q (at m.0.seen q) ≡ r)

  -- the entry of the note that was said was added
  abbrev pub publishes : Step (Held V E) → Sat S V E → ℕ → Sat S V E → Type 0
  publishes st m r m' = (q : ℕ) (h : Held V E) (e : Note E) → st.word ≡ line_of q → st.said ≡ some h → h.note ≡ Some e → m' ≡ (published q e.value m.0, m.1)

  -- the histories of the moment at which a join is settled
  pub record Settled (session : E → ℕ) (writer : S → ℕ → Writer) (kept : S → List (List E) → Type 0) (start : S) (x : Merged E) (m m' : Sat S V E) : Type 0 where
    pub lists : List (List E)
    pub moment : Moment session writer kept start m.0 lists
    pub told : Told session (writer start) (x ∷ [])
    pub view_is : m'.0 ≡ settled lists m.0
    pub slots_are : m'.1 ≡ m.1

  -- a join was settled
  abbrev pub settles : (E → ℕ) → (S → ℕ → Writer) → (S → List (List E) → Type 0) → Step (Held V E) → Sat S V E → ℕ → Sat S V E → Type 0
  settles session writer kept st m r m' = (start : S) (x : Merged E) → m.0.start ≡ start ∷ [] → m.0.merged ≡ x ∷ [] → Settled session writer kept start x m m'
