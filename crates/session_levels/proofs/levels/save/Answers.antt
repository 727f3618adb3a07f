use Rattle.std.proofs.Common.{◌+◌, arith, map, refl}
use Rattle.session_levels.specs.Stands.{told_of}
use Rattle.session_levels.proofs.LevelLemmas.{levels_length}
use Rattle.session_levels.proofs.StandsLemmas.{stood, stands, stood_levels}
use Rattle.session_levels.proofs.TurnLemmas.{acts_saved}
use Rattle.session_levels.proofs.levels.save.Goals as goal

pub returns : goal.returns
returns c =
    let old = c.args.session.now in
    let levels = levels_length old.level_ids.items old.unnamed in
    record {
      acts = λ base h by. acts_saved base by h old.level_ids.items old.unnamed (map told_of old.registered.items) (omega arith) (omega arith);
      stands = λ base h s n k. stands base h s n _
          (stood_levels base h s n old.open_ids.items old.level_ids.items old.level_ids.items old.unnamed (old.unnamed + 1) old.registered.items k.nest (omega (arith, levels)) (stood base h s n old k));
      count = refl;
    }
