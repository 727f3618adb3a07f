use Rattle.std.proofs.Common.{arith}
use Rattle.session_levels.proofs.LevelLemmas.{levels_length}
use Rattle.session_levels.proofs.levels.depth.Goals as goal

pub returns : goal.returns
returns c = let s = c.args.session.now in omega (arith, levels_length s.level_ids.items s.unnamed)
