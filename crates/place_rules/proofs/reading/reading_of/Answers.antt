use Rattle.std.proofs.Common.{ℕ, max, ap, ◌∙◌}
use Rattle.place_rules.proofs.Places.{reading_is}
use Rattle.place_rules.proofs.reading.reading_of.Goals as goal

pub returns : goal.returns
returns g c =
    reading_is g.h c.args.by c.args.start c.args.to c.read_from-from.result c.max.result c.max-2.result c.requires.1.1 c.read_from-from.ensures c.max.ensures
    (c.max-2.ensures ∙ ap (λ (n : ℕ). max n c.args.start) c.saturating_sub.ensures)
