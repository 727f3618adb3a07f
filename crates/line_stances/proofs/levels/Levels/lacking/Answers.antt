use Rattle.std.proofs.Common.{ap, sym, ◌∙◌}
use Rattle.tx_model.specs.Stance.{lacking}
use Rattle.session_levels.proofs.LevelLemmas.{levels_lack}
use Rattle.line_stances.proofs.levels.Levels.lacking.Goals as goal

pub returns : goal.returns
returns c = sym (levels_lack c.self.inside.named.items c.self.inside.unnamed) ∙ ap lacking c.self.view_is
