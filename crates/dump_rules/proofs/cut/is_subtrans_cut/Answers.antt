use Rattle.std.proofs.Common.{sym, ◌∙◌}
use Rattle.dump_rules.proofs.cut.is_subtrans_cut.Goals as goal

pub returns : goal.returns
returns c = λ base recs h are low.
    let i = c.was_first-known.ensures base h are.parents low in
    (λ t. let b = c.both.ensures.0 t in (i.0 b.0, sym c.lies_before-cut.ensures ∙ b.1), λ s. c.both.ensures.1 (i.1 s.0, c.lies_before-cut.ensures ∙ s.1))
