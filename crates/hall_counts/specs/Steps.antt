-- What the functions of this crate say.
use Rattle.std.specs.Prelude.{◌≡◌, ℕ, ◌+◌, ◌-◌, ◌<◌, max, List, [], ◌∷◌, ◌++◌}
use Rattle.hall.specs.declared.view.Stage.TheVariants.{Free}
use Rattle.hall.specs.declared.view.View.{View}
use Rattle.hall.specs.declared.view.Opening.{Opening}
use Rattle.notes.specs.Lists.{at}
use Rattle.hall_counts.specs.declared.Entry.{Entry}
use Rattle.hall_counts.specs.Tally.{total, last}

-- the pass went through one critical section, is free again, and is else the same
pub record Went (v w : View (Unit {0}) Entry) : Type 0 where
  pub stage : w.stage ≡ Free
  pub name : w.name ≡ v.name
  pub holds : w.holds ≡ v.holds

-- the pass has learned of entries, and is else the same
pub record Still (v w : View (Unit {0}) Entry) : Type 0 where
  pub stage : w.stage ≡ v.stage
  pub name : w.name ≡ v.name
  pub holds : w.holds ≡ v.holds

-- Counter 0 came to n: the pass found it behind these entries and added one of its own, of one, or of none where the counter was at its greatest
pub record Added (v w : View (Unit {0}) Entry) (n : ℕ) : Type 0 where
  pub before : List Entry
  pub seen : at w.seen 0 ≡ before ++ record { by = v.name; amount = n - total before } ∷ []
  pub more : total before < 18446744073709551615 → n ≡ total before + 1
  pub full : total before ≡ 18446744073709551615 → n ≡ total before

-- Counter 1 came to n: the pass found it behind these entries, and added one of its own. It is then what it was, or what word 0 says where that is more
pub record CaughtUp (v w : View (Unit {0}) Entry) (n : ℕ) : Type 0 where
  pub before : List Entry
  pub seen : at w.seen 1 ≡ before ++ record { by = v.name; amount = n - total before } ∷ []
  pub reached : n ≡ max (total before) (last (at w.seen 2))

-- two counters at 0, two words that say 0, and three names
abbrev pub opening : Opening (Unit {0}) Entry
opening = record { start = tt; lists = [] ∷ [] ∷ [] ∷ [] ∷ []; passes = 3 }
