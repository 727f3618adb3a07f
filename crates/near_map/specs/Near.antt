-- Values by numbers, of which some stand in a list.
use Rattle.std.specs.Prelude.{ℕ, ◌-◌, ◌&&◌, nat_le, nat_lt, cond, Bool, Option, None, length}
use Rattle.std.specs.BTreeMap.{get}
use Rattle.std.specs.List.{slice_index_or}
use Rattle.std.specs.Ordering.{nat_cmp}
use Rattle.near_map.specs.declared.NearMap.{NearMap}

-- whether the number's value stands in the list
abbrev pub is_near : {V : Type 0} → NearMap V → ℕ → Bool
is_near m k = nat_le m.first k && nat_lt (k - m.first) (length m.near.items)

-- the number's value
abbrev pub value_of : {V : Type 0} → NearMap V → ℕ → Option V
value_of m k = cond (is_near m k) (slice_index_or m.near.items (k - m.first) None) (get nat_cmp m.far k)
