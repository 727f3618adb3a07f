-- Where a look back for an event of a command or an earlier one goes on.
use Rattle.std.specs.Prelude.{◌≡◌, ℕ, ◌-◌, ◌<◌, ◌≤◌, List, Some, length, slice_get}
use Rattle.std.specs.Global.{Vec}
use Rattle.place_columns.specs.declared.own.Own.{Own}
use Rattle.turn_links.specs.declared.links.Link.{Link}

-- those from number `from` to below `end` are of later commands
abbrev pub AreSkipped : List Own → ℕ → ℕ → ℕ → Type 0
AreSkipped own command from end = (k : ℕ) (o : Own) → from ≤ k → k < end → slice_get own k ≡ Some o → command < o.command

-- the last of the first `end` that is of the command or an earlier one stands right before number `count`, if there is one
pub record IsLastUpto (own : List Own) (command end count : ℕ) : Type 0 where
  pub within : count ≤ end
  pub behind : AreSkipped own command count end
  pub upto : (o : Own) → 0 < count → slice_get own (count - 1) ≡ Some o → o.command ≤ command

-- none from number `near` up to this one is of an earlier command than this one, and the one before, if there is one, is
pub record IsNear (own : List Own) (place near : ℕ) : Type 0 where
  pub within : near ≤ place
  pub none : (k : ℕ) (o p : Own) → near ≤ k → k ≤ place → slice_get own k ≡ Some o → slice_get own place ≡ Some p → p.command ≤ o.command
  pub earlier : (o p : Own) → 0 < near → slice_get own (near - 1) ≡ Some o → slice_get own place ≡ Some p → o.command ≤ p.command

-- none from number `far` up to this one is of an earlier command than the one before, if there is one
abbrev pub IsCovered : List Own → ℕ → ℕ → Type 0
IsCovered own far place = (k : ℕ) (o p : Own) → 0 < far → far ≤ k → k ≤ place → slice_get own k ≡ Some o → slice_get own (far - 1) ≡ Some p → p.command ≤ o.command

pub record IsLink (own : List Own) (place : ℕ) (link : Link) : Type 0 where
  pub near : IsNear own place link.near
  pub within : link.far ≤ place
  pub far : IsCovered own link.far place

-- the first ones have these links
pub record AreLinks (own : List Own) (links : List Link) : Type 0 where
  pub within : length links ≤ length own
  pub each : (n : ℕ) (l : Link) → slice_get links n ≡ Some l → IsLink own n l

-- and all events of each session
pub record AreAllLinks (lists : List (Vec Own)) (links : List (Vec Link)) : Type 0 where
  pub size : length links ≡ length lists
  pub each : (s : ℕ) (own : Vec Own) (l : Vec Link) → slice_get lists s ≡ Some own → slice_get links s ≡ Some l → AreLinks own.items l.items × (length l.items ≡ length own.items)
