use Rattle.multi_rules.proofs.Answering.{verdicts_iff}
use Rattle.multi_rules.proofs.verdicts.are_verdicts.Goals as goal

pub returns : goal.returns
returns g c =
    let i = verdicts_iff c.args.places.now.base c.args.places.now.events g.of c.args.told.now c.args.multis.now.events c.args.pins.now c.requires.1.1.1.0 in
    (λ t. i.0 (c.answers.ensures.0 t), λ v. c.answers.ensures.1 (i.1 v))
