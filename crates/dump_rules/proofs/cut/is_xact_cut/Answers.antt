use Rattle.std.proofs.Common.{◌≡◌, ◌∷◌, sym, ◌∙◌}
use Rattle.std.specs.List.{list_any}
use Rattle.dump_rules.specs.Cutting.{cuts_xact, first_cut}
use Rattle.dump_rules.proofs.Cutoffs.{xact_iff}
use Rattle.dump_rules.proofs.cut.is_xact_cut.Goals as goal

pub returns : goal.returns
returns c = λ base recs h behind are.
    let i = xact_iff base recs c.args.cutoff in
    let known : c.contains-known.result ≡ list_any (cuts_xact base.oldest c.args.cutoff) (first_cut base ∷ recs) = c.contains-known.ensures ∙ are.xacts c.args.cutoff in
    (λ t. let b = c.both.ensures.0 t in (i.0 (sym known ∙ b.0), sym c.lies_before-cut.ensures ∙ b.1), λ s. c.both.ensures.1 (known ∙ i.1 s.0, c.lies_before-cut.ensures ∙ s.1))
