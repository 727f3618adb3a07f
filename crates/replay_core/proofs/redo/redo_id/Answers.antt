use Rattle.replay_core.proofs.OneId.{one_redone}
use Rattle.replay_core.proofs.redo.redo_id.Goals as goal

pub returns : goal.returns
returns g c = one_redone c.args.id c.args.bank.now c.set_states.new.bank c.requires.kept c.set_states.result c.set_states.ensures.ok c.set_states.ensures.err c.set_states.ensures.bank
