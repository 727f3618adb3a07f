use Rattle.std.proofs.Common.{◌≡◌, length}
use Rattle.std.specs.List.{AllByRecursion}
use Rattle.standing_rules.specs.Sessions.{IsFresh}
use Rattle.standing_rules.proofs.sessions.new_sessions.Given as goal

abbrev pub invariant-loop-n : goal.invariant-loop-n
invariant-loop-n l = record {
  size : length l.all.items ≡ l._n;
  fresh : AllByRecursion IsFresh l.all.items;
}
