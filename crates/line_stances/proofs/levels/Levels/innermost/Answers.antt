use Rattle.std.proofs.Common.{◌≡◌, ◌-◌, ℕ, suc, ap, sym, ◌∙◌, arith}
use Rattle.tx_model.specs.CommandEvents.{innermost}
use Rattle.session_levels.specs.Stands.{levels_of}
use Rattle.session_levels.proofs.LevelLemmas.{innermost_nameless}
use Rattle.line_stances.proofs.levels.Levels.innermost.Goals as goal

pub returns-then-self-gt0 : goal.returns-then-self-gt0
returns-then-self-gt0 c =
    let some = c.if-self-gt0.true in
    let more : c.self.inside.unnamed ≡ suc (c.self.inside.unnamed - 1) = omega arith in
    sym (ap (λ (n : ℕ). innermost (levels_of c.self.inside.named.items n)) more ∙ innermost_nameless c.self.inside.named.items (c.self.inside.unnamed - 1)) ∙ ap innermost c.self.view_is
