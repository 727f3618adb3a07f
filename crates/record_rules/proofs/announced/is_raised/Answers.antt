use Rattle.std.proofs.Common.{sym, ◌∙◌}
use Rattle.record_rules.proofs.Keys.{raised_iff}
use Rattle.record_rules.proofs.announced.is_raised.Goals as goal

pub returns : goal.returns
returns c = λ m has. let i = raised_iff m c.args.start in let is = c.contains.ensures ∙ has c.args.start in (λ t. i.0 (sym is ∙ t), λ k. is ∙ i.1 k)
