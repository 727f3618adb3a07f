use Rattle.slru_bank.proofs.BufferLists.{again}
use Rattle.slru_bank.proofs.buffers.take_last.Goals as goal

pub returns : goal.returns
returns c = again c.args.buffers.now.items c.grow.new.buffers.items c.bring.new.buffers.items c.grow.ensures c.bring.ensures.order
