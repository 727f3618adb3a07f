use Rattle.std.proofs.Common.{◌≡◌, ℕ, ◌+◌, List, [], ◌∷◌, ◌++◌, None, Option, ap, ◌∙◌, arith, rules}
use Rattle.session_levels.specs.Stands.{levels_of}
use Rattle.session_levels.proofs.LevelLemmas.{level_more}
use Rattle.line_stances.proofs.levels.Levels.save.Goals as goal

pub returns-in-Some-clause-ok : goal.returns-in-Some-clause-ok
returns-in-Some-clause-ok c =
    let more : c.in-Some.unnamed ≡ c.self.inside.unnamed + 1 = first_of (omega (arith, c.in-Some.ensures), omega arith, search rules) in
    ap (levels_of c.self.inside.named.items) more ∙ level_more c.self.inside.named.items c.self.inside.unnamed ∙ ap (λ (l : List (Option ℕ)). l ++ None ∷ []) c.self.view_is
