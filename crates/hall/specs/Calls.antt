-- What the calls of a table say.
use Rattle.std.specs.Prelude.{◌≡◌, ◌≢◌, ℕ, ◌+◌, ◌≤◌, List, [], ◌∷◌, length, Some, slice_get}
use Rattle.hall.specs.declared.writer.Writer.{Writer}
use Rattle.hall.specs.declared.view.View.{View}
use Rattle.hall.specs.declared.pass.Token.{Token}
use Rattle.hall.specs.declared.hall.Hall.{Hall}
use Rattle.notes.specs.Lists.{at}
use Rattle.hall.specs.Rule.{Holds}
use Rattle.hall.specs.Told.{Moment, entered, learned, either_of}

module _ {V E S : Type 0} where
  -- what a pass knows
  abbrev pub view : Token V E S → View S E
  view p = p.seat.me.0

  -- it is one pass, of one table
  abbrev pub IsSame : Token V E S → Token V E S → Type 0
  IsSame p q = (q.seat.table_id ≡ p.seat.table_id) × (q.seat.id ≡ p.seat.id)

module _ {L V E S : Type 0} where
  -- what the table started from
  abbrev pub start_of : Hall L V E S → S
  start_of h = h.table.shared.key.value.start

  -- one more than the greatest name of a pass
  abbrev pub passes_of : Hall L V E S → ℕ
  passes_of h = h.table.shared.key.value.passes

  -- The pass is one of this table: it knows the table's start, has seen some of the history at each place, and has its own name
  pub record IsOf (h : Hall L V E S) (p : Token V E S) : Type 0 where
    pub table : p.seat.table_id ≡ h.table.shared.table_id
    pub start : p.seat.me.0.start ≡ start_of h ∷ []
    pub wide : length p.seat.me.0.seen ≡ h.cells + h.posts
    pub named : Holds p.seat.me.0 p.seat.me.0.name

module _ {S E : Type 0} where
  -- the pass may give the name: it has it, and it isn't its own
  abbrev pub MayGive : View S E → ℕ → Type 0
  MayGive v n = Holds v n × (n ≢ v.name)

  -- some looks found the lock taken, and nothing else changed
  abbrev pub Looked : View S E → View S E → Type 0
  Looked v w = (v.looks ≤ w.looks) × (w ≡ record v { looks = w.looks; found = w.found })

  -- The lock c was entered: the pass learned all histories of one moment, and the value stands for the lock's
  pub record Entered {V : Type 0} (session : E → ℕ) (writer : S → ℕ → Writer) (stands : S → ℕ → V → List E → Type 0) (kept : S → List (List E) → Type 0) (start : S) (c : ℕ) (v : View S E) (x : V) (w : View S E) : Type 0 where
    pub lists : List (List E)
    pub moment : Moment session writer kept start v lists
    pub stood : stands start c x (at lists c)
    pub view_is : w ≡ entered c lists v

  -- The word at the place q was loaded: the pass learned all histories of one moment, and the number is what the word's history shows then
  pub record Loaded (session : E → ℕ) (writer : S → ℕ → Writer) (number : S → ℕ → List E → ℕ) (kept : S → List (List E) → Type 0) (start : S) (q : ℕ) (v : View S E) (x : ℕ) (w : View S E) : Type 0 where
    pub lists : List (List E)
    pub moment : Moment session writer kept start v lists
    pub shown : number start q (at lists q) ≡ x
    pub view_is : w ≡ learned lists v

  -- The pass w was taken in by the pass v: the one pass that is left learned all histories of one moment. Each begins with what either had seen of it, and has no other entries of either's names than those that they had seen
  pub record Joined (session : E → ℕ) (writer : S → ℕ → Writer) (kept : S → List (List E) → Type 0) (start : S) (v w u : View S E) : Type 0 where
    pub lists : List (List E)
    pub moment : Moment session writer kept start v lists
    pub other : Moment session writer kept start w lists
    pub view_is : u ≡ record v { holds = either_of v.holds w.holds; seen = lists; merged = [] }

  -- the value of each lock stands for its history
  abbrev pub StandFor : {V : Type 0} → (S → ℕ → V → List E → Type 0) → S → List V → List (List E) → Type 0
  StandFor {V} stands start values lists = (c : ℕ) (x : V) → slice_get values c ≡ Some x → stands start c x (at lists c)

  -- each number is what its word's history shows, where the histories of the words come after n others
  abbrev pub ShownBy : (S → ℕ → List E → ℕ) → S → ℕ → List ℕ → List (List E) → Type 0
  ShownBy number start n posts lists = (w x : ℕ) → slice_get posts w ≡ Some x → number start (n + w) (at lists (n + w)) ≡ x
