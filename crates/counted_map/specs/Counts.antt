-- How often each key is there.
use Rattle.std.specs.Prelude.{◌≡◌, ℕ, zero, suc, ◌+◌, ◌≤◌, cond, Option, Some, None, IfSome}
use Rattle.std.specs.Option.{unwrap_or}
use Rattle.std.specs.BTreeMap.{BTreeMap, get}
use Rattle.std.specs.Ordering.{is_eq}
use Rattle.std.specs.declared.cmp.Ordering.{Ordering}
use Rattle.counted_map.specs.declared.CountedMap.{CountedMap}
use Rattle.counted_map.specs.declared.KeyCount.{KeyCount}

-- a number, where it isn't 0
abbrev pub some_of : ℕ → Option ℕ
some_of zero = None
some_of (suc n) = Some (suc n)

module _ {K : Type 0} (cmp : K → K → Ordering) where
  -- how often the key is the one in place
  abbrev pub counted_in_place : Option (KeyCount K) → K → ℕ
  counted_in_place None key = 0
  counted_in_place (Some own) key = cond (is_eq (cmp own.key key)) own.count 0

  -- how often it is in the map
  abbrev pub counted_in : BTreeMap K ℕ → K → ℕ
  counted_in counts key = unwrap_or (get cmp counts key) 0

  -- how often it is there
  abbrev pub counted : CountedMap K → K → ℕ
  counted m key = counted_in_place m.in_place key + counted_in m.counts key

  -- each key is there as often as f says, and none is kept that isn't there
  pub record Counts (f : K → ℕ) (m : CountedMap K) : Type 0 where
    pub each : (k : K) → counted m k ≡ f k
    pub in_place : IfSome m.in_place (λ own. 1 ≤ own.count)
    pub in_map : (k : K) → IfSome (get cmp m.counts k) (λ n. 1 ≤ n)

  -- n for this key, and for the others as before
  abbrev pub with_count : K → ℕ → (K → ℕ) → K → ℕ
  with_count key n f k = cond (is_eq (cmp key k)) n (f k)
