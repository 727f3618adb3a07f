use Rattle.std.proofs.Common.{◌≡◌, ◌+◌, ◌-◌, ◌^◌, ap, ◌∙◌, min, length, arith}
use Rattle.session_levels.specs.Stands.{levels_of}
use Rattle.session_levels.proofs.LevelLemmas.{levels_length}
use Rattle.line_stances.proofs.levels.Levels.depth.Goals as goal

pub returns : goal.returns
returns c =
    let l = levels_length c.self.inside.named.items c.self.inside.unnamed in
    let same : c.self.inside.unnamed + c.len.result ≡ length (levels_of c.self.inside.named.items c.self.inside.unnamed) = omega (arith, c.len.ensures) in
    c.saturating_add.ensures ∙ ap (λ n. min n (2 ^ 64 - 1)) (same ∙ ap length c.self.view_is)
