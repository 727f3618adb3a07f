use Rattle.std.proofs.Common.{◌≡◌, ◌≤◌, take}
use Rattle.std.specs.List.{count_by}
use Rattle.life_law.specs.Refused.{is_updater_pair}
use Rattle.multi_makes.proofs.words.count_updaters.Given as goal

abbrev pub invariant-loop-pair : goal.invariant-loop-pair
invariant-loop-pair l = (l.count ≡ count_by is_updater_pair (take l.pair-index l.pairs)) × (l.count ≤ l.pair-index)
