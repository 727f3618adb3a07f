use Rattle.dump_rules.proofs.Marking.{offsets_between}
use Rattle.dump_rules.proofs.shown.member_epochs.Goals as goal

pub returns-clause-offsets : goal.returns-clause-offsets
returns-clause-offsets c = λ g o k from to. offsets_between c.args.gens.now _ _ c.requires.rise c.requires.ends g o k from to
