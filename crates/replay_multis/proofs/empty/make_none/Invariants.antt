use Rattle.std.proofs.Common.{◌≡◌, take, true}
use Rattle.std.specs.List.{list_all}
use Rattle.replay_multis.specs.Empty.{makes_none}
use Rattle.replay_multis.proofs.empty.make_none.Given as goal

abbrev pub invariant-loop-rec : goal.invariant-loop-rec
invariant-loop-rec l = list_all makes_none (take l.rec-index l.recs) ≡ true
