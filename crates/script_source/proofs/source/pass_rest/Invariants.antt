use Rattle.std.proofs.Common.{◌≡◌, ℕ, ◌+◌, ◌-◌, ◌≤◌, List, Option, length}
use Rattle.std.specs.Io.KnownBytes.{Consumes}
use Rattle.script_source.proofs.source.pass_rest.Given as goal

-- what was passed over
pub record Passed (left left' : Option (List ℕ)) (came all : ℕ) : Type 0 where
  pub bytes : List ℕ
  pub read : Consumes left left' bytes
  pub count : all ≡ came + length bytes

abbrev pub invariant-loop-all : goal.invariant-loop-all
invariant-loop-all g l = record {
  passed : Passed (g.S.Source.left l.fn.source) (g.S.Source.left l.source) l.fn.came l.all;
  later : g.S.Source.faults l.fn.source ≤ g.S.Source.faults l.source;
  bound : l.all ≤ 16777217;
}

abbrev pub decreases-loop-all : goal.decreases-loop-all
decreases-loop-all g l = 16777217 - l.all
