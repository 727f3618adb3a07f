-- What the stores said of an id, by its own state, and where that is sub-committed by its parent's, and so on.
use Rattle.std.specs.Prelude.{◌≡◌, ◌≢◌, ℕ, ◌<◌, ◌≤◌, ◌⊎◌, Bool, false, List, [], ◌∷◌, Option, None, Some}
use Rattle.notes.specs.Lists.{Grows}
use Rattle.store_pages.specs.Layouts.{word_page_of, xact_page_of}
use Rattle.tx_events.specs.History.{next_given}
use Rattle.tx_events.specs.Horizon.{oldest_xmin}
use Rattle.tx_events.specs.Nearest.{near_id}
use Rattle.tx_core.specs.declared.entry.Entry.{Entry}
use Rattle.tx_core.specs.declared.entry.Start.{Start}
use Rattle.tx_core.specs.declared.entry.State.{State}
use Rattle.tx_core.specs.declared.entry.State.TheVariants as states
use Rattle.tx_core.specs.Entries.{history}
use Rattle.tx_core.specs.Verdict.{is_committed}
use Rattle.bank_sections.specs.Reads.{IsParentRead, IsStateRead}
use Rattle.bank_sections.specs.Sections.{IsSubtransCut, IsXactCut}
use Rattle.xact_reads.specs.declared.dids.Step.{Step}
use Rattle.xact_reads.specs.declared.dids.Step.TheVariants as steps

-- at a moment between these lists
pub record Between (lists more : List (List Entry)) (Holds : List (List Entry) → Type 0) : Type 0 where
  pub moment : List (List Entry)
  pub since : Grows lists moment
  pub till : Grows moment more
  pub holds : Holds moment

-- the state was read so, or the page was cut
abbrev pub IsState : Start → List (List Entry) → List (List Entry) → ℕ → Option State → Type 0
IsState start lists more x state = Between lists more (λ l. IsStateRead start l x state)

abbrev pub IsStateCut : Start → List (List Entry) → List (List Entry) → ℕ → Type 0
IsStateCut start lists more x = Between lists more (λ l. (bank : ℕ) × (cutoff : ℕ) × IsXactCut start l bank (xact_page_of x) cutoff)

-- and so the parent
abbrev pub IsParent : Start → List (List Entry) → List (List Entry) → ℕ → Option ℕ → Type 0
IsParent start lists more x parent = Between lists more (λ l. IsParentRead start l x parent)

abbrev pub IsParentCut : Start → List (List Entry) → List (List Entry) → ℕ → Type 0
IsParentCut start lists more x = Between lists more (λ l. (bank : ℕ) × (cutoff : ℕ) × IsSubtransCut start l bank (word_page_of x) cutoff)

-- a state decides that isn't sub-committed: yes exactly where it is committed
abbrev pub Decides : Start → List (List Entry) → List (List Entry) → ℕ → Bool → Type 0
Decides start lists more x answer =
    (state : Option State) × IsState start lists more x state × (state ≢ Some states.SubCommitted) × (answer ≡ is_committed state)

-- an ancestor's; it is no where the ancestor's page was cut
abbrev pub AncestorDecides : Start → List (List Entry) → List (List Entry) → ℕ → Bool → Type 0
AncestorDecides start lists more x answer = Decides start lists more x answer ⊎ (IsStateCut start lists more x × (answer ≡ false))

-- there is no parent to be asked
abbrev pub HasNoParent : Start → List (List Entry) → List (List Entry) → ℕ → Type 0
HasNoParent start lists more x = IsParent start lists more x None ⊎ IsParentCut start lists more x

-- What a sub-committed id's ancestors say, from its parent on: no where it is before the xmin, or has no parent; else
-- what its parent's state decides, or where that is sub-committed what the parent's own ancestors say.
abbrev pub AncestorsSay : Start → List (List Entry) → List (List Entry) → ℕ → ℕ → List ℕ → Bool → Type 0
AncestorsSay start lists more xmin x [] answer = (answer ≡ false) × ((x < xmin) ⊎ HasNoParent start lists more x)
AncestorsSay start lists more xmin x (parent ∷ above) answer =
    (xmin ≤ x) × IsParent start lists more x (Some parent)
    × (AncestorDecides start lists more parent answer
    ⊎ (IsState start lists more parent (Some states.SubCommitted) × AncestorsSay start lists more xmin parent above answer))

-- what is said of a full id
abbrev pub StoresSay : Start → List (List Entry) → List (List Entry) → ℕ → ℕ → Bool → Type 0
StoresSay start lists more xmin x answer =
    Decides start lists more x answer
    ⊎ (IsState start lists more x (Some states.SubCommitted) × (above : List ℕ) × AncestorsSay start lists more xmin x above answer)

-- What is said of the full id that a stored one means at a look at the ProcArray, of which the oldest xmin is too: no
-- where it wasn't given.
pub record StoresTell (start : Start) (lists more : List (List Entry)) (x : ℕ) (answer : Bool) : Type 0 where
  pub id : ℕ
  pub look : List (List Entry)
  pub since : Grows lists look
  pub near : near_id (next_given start.base.next (history look)) x ≡ Some id
  pub said : ((next_given start.base.next (history look) ≤ id) × (answer ≡ false))
      ⊎ StoresSay start look more (oldest_xmin start.base.next (history look)) id answer

-- ---- one step of a climb

-- by an ancestor's state: what isn't sub-committed decides
abbrev pub IsStep : Option State → ℕ → Step → Type 0
IsStep state x (steps.Ends answer) = (state ≢ Some states.SubCommitted) × (answer ≡ is_committed state)
IsStep state x (steps.Further parent) = (parent ≡ x) × (state ≡ Some states.SubCommitted)

-- what an ancestor says: it decides, or its own ancestors do
abbrev pub AncestorSays : Start → List (List Entry) → List (List Entry) → ℕ → Step → Type 0
AncestorSays start lists more x (steps.Ends answer) = AncestorDecides start lists more x answer
AncestorSays start lists more x (steps.Further parent) = (parent ≡ x) × IsState start lists more x (Some states.SubCommitted)

-- what the parent of a sub-committed id says, if it has one
abbrev pub ParentSays : Start → List (List Entry) → List (List Entry) → ℕ → Step → Type 0
ParentSays start lists more x (steps.Ends answer) =
    ((answer ≡ false) × HasNoParent start lists more x)
    ⊎ ((parent : ℕ) × IsParent start lists more x (Some parent) × AncestorDecides start lists more parent answer)
ParentSays start lists more x (steps.Further parent) =
    IsParent start lists more x (Some parent) × IsState start lists more parent (Some states.SubCommitted)
