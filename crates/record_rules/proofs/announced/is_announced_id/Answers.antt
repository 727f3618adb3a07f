use Rattle.std.proofs.Common.{sym, ◌∙◌}
use Rattle.record_rules.proofs.Keys.{announced_iff}
use Rattle.record_rules.proofs.announced.is_announced_id.Goals as goal

pub returns : goal.returns
returns c = λ h has. let i = announced_iff h c.args.oldest in let is = c.contains.ensures ∙ has c.args.oldest in (λ t. i.0 (sym is ∙ t), λ k. is ∙ i.1 k)
