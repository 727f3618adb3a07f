-- The members of a multixact in full, from what a script wrote.
use Rattle.std.specs.Prelude.{◌≡◌, ℕ, ◌<◌, ◌≤◌, List, Some, IfSome, slice_get, take}
use Rattle.std.specs.List.{AllByRecursion, AllZip}
use Rattle.tx_events.specs.Ids.{low_half}
use Rattle.tx_events.specs.Nearest.{near_id}
use Rattle.tx_events.specs.declared.multi.Member.{Member}
use Rattle.tx_events.specs.declared.refusal.Refusal.{Refusal}
use Rattle.tx_events.specs.declared.refusal.Refusal.TheVariants as refusals
use Rattle.tx_model.specs.declared.command.Pair.{Pair}
use Rattle.life_law.specs.MultiLines.{IsUngiven}

-- the id that a stored half means near the next one, which was given
pub record IsGivenNear (next x id : ℕ) : Type 0 where
  pub normal : 3 ≤ x
  pub near : near_id next x ≡ Some id
  pub low : low_half id ≡ x
  pub given : id < next

-- a stored half that means an id before the oldest one, or none
pub record IsBeforeOldest (next oldest x : ℕ) : Type 0 where
  pub normal : 3 ≤ x
  pub older : IfSome (near_id next x) (λ id. id < oldest)

-- why a stored half means no id that a member may have
abbrev pub IsNotMember : ℕ → ℕ → ℕ → Refusal → Type 0
IsNotMember next oldest x (refusals.NotGiven told) = (told.number ≡ x) × IsUngiven next x
IsNotMember next oldest x (refusals.TooOld told) = (told ≡ oldest) × IsBeforeOldest next oldest x
IsNotMember next oldest x _ = ⊥

-- the member is what the script wrote, in full
pub record IsFullOf (next : ℕ) (pair : Pair) (member : Member) : Type 0 where
  pub mode : member.mode ≡ pair.mode
  pub id : IsGivenNear next pair.x.number member.id

abbrev pub AreFullOf : ℕ → List Pair → List Member → Type 0
AreFullOf next pairs members = AllZip (IsFullOf next) pairs members

-- the first member that is refused: those before it were given
pub record IsFirstRefused (next oldest : ℕ) (pairs : List Pair) (r : Refusal) : Type 0 where
  pub number : ℕ
  pub pair : Pair
  pub stands : slice_get pairs number ≡ Some pair
  pub others : AllByRecursion (λ (p : Pair). IsUngiven next p.x.number → ⊥) (take number pairs)
  pub refused : IsNotMember next oldest pair.x.number r

-- why they have no full ids: one of them was refused, the first such one, or memory was wanting
abbrev pub AreNotFull : ℕ → ℕ → List Pair → Refusal → Type 0
AreNotFull next oldest pairs refusals.Memory = Unit {0}
AreNotFull next oldest pairs r = IsFirstRefused next oldest pairs r
