use Rattle.std.proofs.Common.{◌≡◌, ◌-◌, ◌++◌, ℕ, List, Option, ap, sym, take, ◌∙◌}
use Rattle.tx_model.specs.Stance.{filled}
use Rattle.session_levels.specs.Stands.{levels_of}
use Rattle.line_stances.proofs.Filling.{fill_upto}
use Rattle.line_stances.proofs.levels.Levels.fill.Goals as goal

pub returns-clause-ok : goal.returns-clause-ok
returns-clause-ok c =
    let items : c.extend_from_slice.new.self.items ≡ c.self.inside.named.items ++ take c.min-count.result c.args.ids.now = c.in_ok-extend_from_slice.ensures.items in
    ap (λ (t : List ℕ). levels_of t (c.self.inside.unnamed - c.min-count.result)) items
    ∙ sym (fill_upto c.self.inside.named.items c.self.inside.unnamed c.args.ids.now c.min-count.result c.min-count.ensures)
    ∙ ap (λ (l : List (Option ℕ)). filled l c.args.ids.now) c.self.view_is
