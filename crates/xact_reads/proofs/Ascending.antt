-- What the stores said of an id's ancestors, step by step.
use Rattle.std.proofs.Common.{Bool, false, ◌≡◌, ⊎_elim, inl, inr, ℕ, ◌<◌, ◌≤◌, List, [], ◌∷◌, Option, Some, IfSome, refl, sym, subst, ◌∙◌, append-nil}
use Rattle.notes.specs.Lists.{Grows, at}
use Rattle.slru_bank.specs.declared.refusal.BankRefusal.{BankRefusal}
use Rattle.slru_bank.specs.declared.refusal.BankRefusal.TheVariants as refused
use Rattle.tx_events.specs.declared.event.By.{By}
use Rattle.tx_events.specs.Base.{IsBase}
use Rattle.tx_core.specs.EngineInvariant.{EngineInvariant}
use Rattle.xact_reads.proofs.Climbing.{parent_below}
use Rattle.tx_core.specs.declared.entry.Entry.{Entry}
use Rattle.tx_core.specs.declared.entry.Start.{Start}
use Rattle.tx_core.specs.declared.entry.State.{State}
use Rattle.tx_core.specs.declared.entry.State.TheVariants as states
use Rattle.tx_core.specs.Verdict.{is_committed}
use Rattle.engine_parts.specs.Holds.{Knowledge}
use Rattle.engine_parts.proofs.Leaving.{grows_then}
use Rattle.bank_sections.specs.Reads.{IsParentOf, IsParentRead, IsStateRead}
use Rattle.bank_sections.specs.Sections.{BankRefused}
use Rattle.xact_reads.specs.declared.dids.Step.{Step}
use Rattle.xact_reads.specs.declared.dids.Step.TheVariants as steps
use Rattle.xact_reads.specs.Ancestors.{AncestorDecides, AncestorSays, AncestorsSay, Between, Decides, HasNoParent, IsParent, IsState, IsStep, ParentSays, StoresSay}

pub grows_nowhere : (lists : List (List Entry)) → Grows lists lists
grows_nowhere lists = record { begins = λ q. ([], append-nil (at lists q)) }

-- at the last moment
pub just_now : (lists more : List (List Entry)) (Holds : List (List Entry) → Type 0) → Grows lists more → Holds more → Between lists more Holds
just_now lists more Holds g holds = record { moment = more; since = g; till = grows_nowhere more; holds = holds }

-- the cutoff that was told of a page that is cut
pub cut_told : (start : Start) (lock : ℕ) (by : By) (cut : ℕ → Type 0) (v w : Knowledge) (r : BankRefusal) (cutoff : ℕ) → r ≡ refused.Cut cutoff → BankRefused start lock by cut v w r → cut cutoff
cut_told start lock by cut v w r cutoff is s = (subst (λ z. BankRefused start lock by cut v w z) is s).1

-- the parent that was read, where it is below its child
pub parent_found : (start : Start) (lists more : List (List Entry)) (x : ℕ) (found kept o : Option ℕ) → IsBase start.base → EngineInvariant start more → Grows lists more → IsParentRead start more x found → (IfSome found (λ y. y < x) → kept ≡ found) → kept ≡ o → IsParent start lists more x o
parent_found start lists more x found kept o base k g read same is =
    just_now lists more (λ l. IsParentRead start l x o) g (λ used few. let parent = read used few in subst (IsParentOf start more x) (sym (same (parent_below start more x found base k parent)) ∙ is) parent)

-- ---- between wider lists

module _ (start : Start) (a b c d : List (List Entry)) (before : Grows a b) (after : Grows c d) where
  widen : (Holds : List (List Entry) → Type 0) → Between b c Holds → Between a d Holds
  widen Holds m = record { moment = m.moment; since = grows_then a b m.moment before m.since; till = grows_then m.moment c d m.till after; holds = m.holds }

  pub state_wider : (x : ℕ) (state : Option State) → IsState start b c x state → IsState start a d x state
  state_wider x state m = widen _ m

  pub parent_wider : (x : ℕ) (parent : Option ℕ) → IsParent start b c x parent → IsParent start a d x parent
  parent_wider x parent m = widen _ m

  pub none_wider : (x : ℕ) → HasNoParent start b c x → HasNoParent start a d x
  none_wider x m = ⊎_elim (λ k. inl (widen _ k)) (λ k. inr (widen _ k)) m

  pub decides_wider : (x : ℕ) (answer : Bool) → Decides start b c x answer → Decides start a d x answer
  decides_wider x answer m = (m.0, widen _ m.1, m.2, m.3)

  pub ancestor_wider : (x : ℕ) (answer : Bool) → AncestorDecides start b c x answer → AncestorDecides start a d x answer
  ancestor_wider x answer m = ⊎_elim (λ k. inl (decides_wider x answer k)) (λ k. inr (widen _ k.0, k.1)) m

  pub says_wider : (xmin x : ℕ) (above : List ℕ) (answer : Bool) → AncestorsSay start b c xmin x above answer → AncestorsSay start a d xmin x above answer
  says_wider xmin x [] answer s = (s.0, ⊎_elim inl (λ k. inr (none_wider x k)) s.1)
  says_wider xmin x (parent ∷ above) answer s = (s.0, parent_wider x (Some parent) s.1, ⊎_elim (λ k. inl (ancestor_wider parent answer k)) (λ k. inr (state_wider parent (Some states.SubCommitted) k.0, says_wider xmin parent above answer k.1)) s.2)

-- ---- one step

-- by the state that was read of an ancestor
pub ancestor_says : (start : Start) (lists more : List (List Entry)) (x : ℕ) (state : Option State) (step : Step) → Grows lists more → IsStateRead start more x state → IsStep state x step → AncestorSays start lists more x step
ancestor_says start lists more x state (steps.Ends answer) g read s = inl (state, just_now lists more (λ l. IsStateRead start l x state) g read, s.0, s.1)
ancestor_says start lists more x state (steps.Further parent) g read s = (s.0, subst (λ z. IsState start lists more x z) s.1 (just_now lists more (λ l. IsStateRead start l x state) g read))

-- and of the parent that was read before
pub parent_says : (start : Start) (lists then more : List (List Entry)) (x parent : ℕ) (step : Step) → Grows lists then → Grows then more → IsParent start lists then x (Some parent) → AncestorSays start then more parent step → ParentSays start lists more x step
parent_says start lists then more x parent (steps.Ends answer) g h read s = inr (parent, parent_wider start lists lists then more (grows_nowhere lists) h x (Some parent) read, ancestor_wider start lists then more more g (grows_nowhere more) parent answer s)
parent_says start lists then more x parent (steps.Further found) g h read s = (
  subst (λ z. IsParent start lists more x (Some z)) (sym s.0) (parent_wider start lists lists then more (grows_nowhere lists) h x (Some parent) read),
  subst (λ z. IsState start lists more z (Some states.SubCommitted)) (sym s.0) (state_wider start lists then more more g (grows_nowhere more) parent (Some states.SubCommitted) s.1),
)

-- ---- the climb so far: what is said of where it has come is said of where it began

abbrev pub ComesTo : Start → List (List Entry) → List (List Entry) → ℕ → ℕ → ℕ → Type 0
ComesTo start lists now xmin asked x =
    (more : List (List Entry)) (above : List ℕ) (answer : Bool) → Grows now more → AncestorsSay start lists more xmin x above answer → (all : List ℕ) × AncestorsSay start lists more xmin asked all answer

pub comes_nowhere : (start : Start) (lists : List (List Entry)) (xmin x : ℕ) → ComesTo start lists lists xmin x x
comes_nowhere start lists xmin x more above answer g s = (above, s)

module _ (start : Start) (lists now later : List (List Entry)) (xmin asked x : ℕ) (come : ComesTo start lists now xmin asked x) (first : Grows lists now) (second : Grows now later) (from : xmin ≤ x) where
  pub comes_on : (parent : ℕ) → ParentSays start now later x (steps.Further parent) → ComesTo start lists later xmin asked parent
  comes_on parent says more above answer g s =
      come more (parent ∷ above) answer (grows_then now later more second g)
      (from, parent_wider start lists now later more first g x (Some parent) says.0, inr (state_wider start lists now later more first g parent (Some states.SubCommitted) says.1, s))

  pub comes_end : (answer : Bool) → ParentSays start now later x (steps.Ends answer) → (all : List ℕ) × AncestorsSay start lists later xmin asked all answer
  comes_end answer says = ⊎_elim
      (λ k. come later [] answer second (k.0, inr (none_wider start lists now later later first (grows_nowhere later) x k.1)))
      (λ k. come later (k.0 ∷ []) answer second (from, parent_wider start lists now later later first (grows_nowhere later) x (Some k.0) k.1, inl (ancestor_wider start lists now later later first (grows_nowhere later) k.0 answer k.2)))
      says

-- it has come to an id before the xmin
pub comes_before : (start : Start) (lists now : List (List Entry)) (xmin asked x : ℕ) → ComesTo start lists now xmin asked x → x < xmin → (all : List ℕ) × AncestorsSay start lists now xmin asked all false
comes_before start lists now xmin asked x come below = come now [] false (grows_nowhere now) (refl, inl below)

-- ---- what is said of the id that is asked for

-- by its own state
pub say_state : (start : Start) (lists more : List (List Entry)) (xmin x : ℕ) (state : Option State) (answer : Bool) → Grows lists more → IsStateRead start more x state → (state ≡ Some states.SubCommitted → ⊥) → answer ≡ is_committed state → StoresSay start lists more xmin x answer
say_state start lists more xmin x state answer g read other says = inl (state, just_now lists more (λ l. IsStateRead start l x state) g read, other, says)

-- or by its ancestors
pub say_above : (start : Start) (lists then more : List (List Entry)) (xmin x : ℕ) (answer : Bool) → Grows lists then → Grows then more → IsStateRead start then x (Some states.SubCommitted) → (above : List ℕ) × AncestorsSay start then more xmin x above answer → StoresSay start lists more xmin x answer
say_above start lists then more xmin x answer g h read s =
    inr (
      state_wider start lists lists then more (grows_nowhere lists) h x (Some states.SubCommitted) (just_now lists then (λ l. IsStateRead start l x (Some states.SubCommitted)) g read),
      s.0,
      says_wider start lists then more more g (grows_nowhere more) xmin x s.0 answer s.1,
    )
