-- A climb over parents: on its way, at its end, and that there is one.
use Rattle.std.proofs.Common.{◌≡◌, ◌⊎◌, inr, ℕ, zero, suc, ◌+◌, ◌<◌, List, [], ◌∷◌, ◌++◌, Option, None, Some, IfSome, refl, sym, subst, ◌∙◌, arith}
use Rattle.std.specs.List.{flat_map}
use Rattle.notes.specs.Lists.{Grows, at}
use Rattle.tx_events.specs.Base.{IsBase}
use Rattle.tx_core.specs.declared.entry.Entry.{Entry}
use Rattle.tx_core.specs.declared.entry.Start.{Start}
use Rattle.tx_core.specs.EngineInvariant.{EngineInvariant}
use Rattle.tx_core.specs.Entries.{IsLinked, links_in, AreFewIds}
use Rattle.tx_core.specs.Locks.{subtrans_lock_of}
use Rattle.tx_core.specs.Pages.{parent_read}
use Rattle.tx_core.specs.Verdict.{IsClimb}
use Rattle.tx_core.proofs.Lasting.{linked_grows}
use Rattle.engine_parts.specs.Stand.{IsInUse}
use Rattle.bank_sections.specs.Reads.{IsParentOf, IsParentRead}
use Rattle.engine_parts.proofs.Answering.{few_before}
use Rattle.xact_reads.specs.Readings.{IsTopOf}
use Rattle.bank_sections.proofs.ParentSeen.{linked_below, linked_read, read_linked}

-- the parents that were read lead from x up to y
abbrev pub LeadsTo : Start → List (List Entry) → ℕ → List ℕ → ℕ → Type 0
LeadsTo start lists x [] y = y ≡ x
LeadsTo start lists x (parent ∷ parents) y = IsLinked start lists x parent × LeadsTo start lists parent parents y

leads_on : (start : Start) (lists more : List (List Entry)) → Grows lists more → (parents : List ℕ) (x y : ℕ) → LeadsTo start lists x parents y → LeadsTo start more x parents y
leads_on start lists more g [] x y l = l
leads_on start lists more g (parent ∷ parents) x y l = (linked_grows start lists more x parent g l.0, leads_on start lists more g parents parent y l.1)

leads_push : (start : Start) (lists : List (List Entry)) (parents : List ℕ) (x y z : ℕ) → LeadsTo start lists x parents y → IsLinked start lists y z → LeadsTo start lists x (parents ++ z ∷ []) z
leads_push start lists [] x y z l k = (subst (λ a. IsLinked start lists a z) l k, refl)
leads_push start lists (parent ∷ parents) x y z l k = (l.0, leads_push start lists parents parent y z l.1 k)

pub leads_climb : (start : Start) (lists more : List (List Entry)) (xmin : ℕ) (parents : List ℕ) (x y : ℕ) → LeadsTo start more x parents y → (y < xmin) ⊎ ((parent : ℕ) → IsLinked start lists y parent → ⊥) → IsClimb start lists more xmin x parents y
leads_climb start lists more xmin [] x y l end = (l, subst (λ a. (a < xmin) ⊎ ((parent : ℕ) → IsLinked start lists a parent → ⊥)) l end)
leads_climb start lists more xmin (parent ∷ parents) x y l end = (l.0, leads_climb start lists more xmin parents parent y l.1 end)

-- in a life of few ids the climb from an id in use has come so far, to one in use
pub record HasCome (start : Start) (lists : List (List Entry)) (x y : ℕ) : Type 0 where
  pub parents : List ℕ
  pub leads : LeadsTo start lists x parents y
  pub used : IsInUse start y

abbrev pub IsOnTheWay : Start → List (List Entry) → ℕ → ℕ → Type 0
IsOnTheWay start lists x y = IsInUse start x → AreFewIds lists → HasCome start lists x y

pub come_nowhere : (start : Start) (lists : List (List Entry)) (x : ℕ) → IsOnTheWay start lists x x
come_nowhere start lists x used few = record { parents = []; leads = refl; used = used }

-- one parent further
come_on : (start : Start) (lists more : List (List Entry)) (x y z : ℕ) → IsBase start.base → EngineInvariant start more → Grows lists more → HasCome start lists x y → IsLinked start more y z → HasCome start more x z
come_on start lists more x y z base k g c linked =
    let b = linked_below start more y z base k linked in
    let from = b.from in let below = b.below in let old = base.oldest in let to = c.used.2 in record {
      parents = c.parents ++ z ∷ [];
      leads = leads_push start more c.parents x y z (leads_on start lists more g c.parents x y c.leads) linked;
      used = (b.parent_full, omega arith, omega arith);
    }

pub way_on : (start : Start) (lists more : List (List Entry)) (x y z : ℕ) → IsBase start.base → EngineInvariant start more → Grows lists more → IsOnTheWay start lists x y → IsParentRead start more y (Some z) → IsOnTheWay start more x z
way_on start lists more x y z base k g way read used few =
    let c = way used (few_before lists more g few) in
    come_on start lists more x y z base k g c (read c.used few)

-- where the climb ends
pub stops_at : (start : Start) (lists before more : List (List Entry)) (xmin x y : ℕ) → Grows before more → IsOnTheWay start before x y → (IsInUse start y → AreFewIds more → (y < xmin) ⊎ ((parent : ℕ) → IsLinked start lists y parent → ⊥)) → IsTopOf start lists more xmin x y
stops_at start lists before more xmin x y g way end used few =
    let c = way used (few_before before more g few) in
    (c.parents, leads_climb start lists more xmin c.parents x y (leads_on start before more g c.parents x y c.leads) (end c.used few))

-- what has no parent later has none before
pub none_before : (start : Start) (lists more : List (List Entry)) (x : ℕ) → Grows lists more → IsParentOf start more x None → (parent : ℕ) → IsLinked start lists x parent → ⊥
none_before start lists more x g none parent linked = none parent (linked_grows start lists more x parent g linked)

-- a parent is below its child
pub parent_below : (start : Start) (lists : List (List Entry)) (x : ℕ) (o : Option ℕ) → IsBase start.base → EngineInvariant start lists → IsParentOf start lists x o → IfSome o (λ y. y < x)
parent_below start lists x None base k is = tt
parent_below start lists x (Some y) base k is = (linked_below start lists x y base k is).below

-- ---- there is a climb

pub record Climb (start : Start) (lists : List (List Entry)) (xmin x : ℕ) : Type 0 where
  pub parents : List ℕ
  pub topmost : ℕ
  pub climb : IsClimb start lists lists xmin x parents topmost

climb_from : (start : Start) (lists : List (List Entry)) (xmin x : ℕ) → IsBase start.base → EngineInvariant start lists → ((v : ℕ) → v < x → Climb start lists xmin v)
    → (o : Option ℕ) → parent_read (flat_map links_in (at lists (subtrans_lock_of start x))) x ≡ o → Climb start lists xmin x
climb_from start lists xmin x base k below None none = record {
  parents = [];
  topmost = x;
  climb = (refl, inr (λ parent linked. let z = linked_read start lists (subtrans_lock_of start x) x parent refl linked in some_none (sym none ∙ z.1)));
}
  where
    some_none : {z : ℕ} → None ≡ Some z → ⊥
    some_none e = cc
climb_from start lists xmin x base k below (Some v) is =
    let linked = read_linked start lists (subtrans_lock_of start x) x v refl is in
    let c = below v (linked_below start lists x v base k linked).below in record { parents = v ∷ c.parents; topmost = c.topmost; climb = (linked, c.climb) }

climb_within : (start : Start) (lists : List (List Entry)) (xmin : ℕ) → IsBase start.base → EngineInvariant start lists → (n x : ℕ) → x < n → Climb start lists xmin x
climb_within start lists xmin base k zero x l = absurd (omega arith)
climb_within start lists xmin base k (suc n) x l = climb_from start lists xmin x base k (λ v m. climb_within start lists xmin base k n v (omega arith)) (parent_read (flat_map links_in (at lists (subtrans_lock_of start x))) x) refl

pub climb_there : (start : Start) (lists : List (List Entry)) (xmin x : ℕ) → IsBase start.base → EngineInvariant start lists → Climb start lists xmin x
climb_there start lists xmin x base k = climb_within start lists xmin base k (x + 1) x (omega arith)
