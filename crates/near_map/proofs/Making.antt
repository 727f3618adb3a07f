-- A map without values.
use Rattle.std.proofs.Common.{◌≡◌, ℕ, zero, suc, ◌-◌, List, [], ◌∷◌, ◌++◌, Option, None, Bool, true, false, cond, get_or, refl}
use Rattle.std.specs.BTreeMap.{get}
use Rattle.std.specs.Ordering.{nat_cmp}
use Rattle.near_map.specs.declared.NearMap.{NearMap}
use Rattle.near_map.specs.Near.{is_near, value_of}

-- one place more without a value
pub none_more : {V : Type 0} (xs : List (Option V)) → ((k : ℕ) → get_or xs k None ≡ None) → (k : ℕ) → get_or (xs ++ None ∷ []) k None ≡ None
none_more [] f zero = refl
none_more [] f (suc k) = refl
none_more (x ∷ xs) f zero = f 0
none_more (x ∷ xs) f (suc k) = none_more xs (λ j. f (suc j)) k

pub none_of : {V : Type 0} (m : NearMap V) → ((k : ℕ) → get_or m.near.items k None ≡ None) → ((k : ℕ) → get nat_cmp m.far k ≡ None) → (k : ℕ) → value_of m k ≡ None
none_of {V} m near far k = step (is_near m k)
  where
    step : (b : Bool) → cond b (get_or m.near.items (k - m.first) None) (get nat_cmp m.far k) ≡ None
    step true = near (k - m.first)
    step false = far k
