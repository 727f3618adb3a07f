use Rattle.std.proofs.Common.{◌≡◌, ◌-◌, suc, ap, sym, ◌∙◌, arith}
use Rattle.tx_model.specs.Stance.{without_last}
use Rattle.session_levels.proofs.LevelLemmas.{level_less}
use Rattle.line_stances.proofs.levels.Levels.close.Goals as goal

pub returns-then-self-gt0 : goal.returns-then-self-gt0
returns-then-self-gt0 c =
    let some = c.if-self-gt0.true in
    let more : c.self.inside.unnamed ≡ suc (c.self.inside.unnamed - 1) = omega arith in
    sym (level_less c.self.inside.named.items c.self.inside.unnamed (c.self.inside.unnamed - 1) more) ∙ ap without_last c.self.view_is
