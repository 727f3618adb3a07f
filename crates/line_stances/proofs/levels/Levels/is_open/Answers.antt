use Rattle.std.proofs.Common.{◌≡◌, ap, length, ◌∙◌, arith}
use Rattle.std.proofs.lemmas.Bool.Decides.{nat_tests}
use Rattle.session_levels.specs.Stands.{levels_of}
use Rattle.session_levels.proofs.LevelLemmas.{levels_length}
use Rattle.line_stances.proofs.levels.Levels.is_open.Goals as goal

pub returns-then-self-gt0 : goal.returns-then-self-gt0
returns-then-self-gt0 c =
    let some = c.if-self-gt0.true in (
      λ t e.
          let l = levels_length c.self.inside.named.items c.self.inside.unnamed in
          let z : length (levels_of c.self.inside.named.items c.self.inside.unnamed) ≡ 0 = ap length (c.self.view_is ∙ e) in
          omega arith,
      λ f. grind (arith, nat_tests),
    )
