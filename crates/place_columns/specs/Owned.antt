-- The events of each session in a history, and from where on a command may read.
use Rattle.std.specs.Prelude.{◌≡◌, ℕ, ◌+◌, ◌<◌, ◌≤◌, ◌↔◌, ◌==◌, ◌&&◌, nat_le, nat_lt, cond, Bool, List, [], ◌∷◌, Some, length, take, drop, slice_get}
use Rattle.std.specs.Global.{Vec}
use Rattle.std.specs.List.{AllByRecursion, HoldsAt}
use Rattle.tx_events.specs.declared.event.By.{By}
use Rattle.place_columns.specs.declared.own.Own.{Own}

-- a session's events, where the events of all sessions are these and stand from place n on
abbrev pub own_from : ℕ → ℕ → List By → List Own
own_from session n [] = []
own_from session n (b ∷ bys) = cond (b.session == session) (record { command = b.command; place = n } ∷ own_from session (n + 1) bys) (own_from session (n + 1) bys)

abbrev pub own_of : ℕ → List By → List Own
own_of session bys = own_from session 0 bys

-- those of all sessions
pub record AreAllOwn (bys : List By) (sessions : ℕ) (lists : List (Vec Own)) : Type 0 where
  pub size : length lists ≡ sessions
  pub each : (s : ℕ) → s < sessions → HoldsAt (λ (l : Vec Own). l.items ≡ own_of s bys) lists s

-- a session's events come in the order of its commands
abbrev pub AreInTurn : List By → Type 0
AreInTurn bys = (p q : ℕ) (a b : By) → p ≤ q → slice_get bys p ≡ Some a → slice_get bys q ≡ Some b → a.session ≡ b.session → a.command ≤ b.command

abbrev pub is_upto : ℕ → ℕ → Own → Bool
is_upto command to own = nat_le own.command command && nat_lt own.place to

-- the session's events among these are of later commands
abbrev pub AreLater : By → List By → Type 0
AreLater by bys = AllByRecursion (λ (b : By). b.session ≡ by.session → by.command < b.command) bys

-- the places up to `to` behind which all events before `to` are of later commands are exactly those from r on
abbrev pub IsReadFrom : List By → By → ℕ → ℕ → Type 0
IsReadFrom bys by to r = (p : ℕ) → p ≤ to → AreLater by (drop p (take to bys)) ↔ (r ≤ p)
