use Rattle.dump_rules.proofs.Marking.{multis_between}
use Rattle.dump_rules.proofs.shown.multi_epochs.Goals as goal

pub returns-clause-multis : goal.returns-clause-multis
returns-clause-multis c = λ g k. multis_between c.args.gens.now _ _ c.requires.rise c.requires.ends g k
