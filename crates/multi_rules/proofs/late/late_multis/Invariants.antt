use Rattle.std.proofs.Common.{◌≡◌, ℕ, take}
use Rattle.std.specs.BTreeSet.{contains}
use Rattle.std.specs.List.{list_any}
use Rattle.std.specs.Ordering.{nat_cmp}
use Rattle.multi_rules.specs.Gens.{is_ok_gen}
use Rattle.multi_rules.proofs.late.late_multis.Given as goal

abbrev pub invariant-loop-place : goal.invariant-loop-place
invariant-loop-place g l = (x : ℕ) → contains nat_cmp l.late x ≡ list_any (is_ok_gen g.ok x) (take l.place l.events)
