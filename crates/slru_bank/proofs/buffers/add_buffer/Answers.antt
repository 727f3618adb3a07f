use Rattle.std.proofs.Common.{is_ok}
use Rattle.slru_bank.proofs.BufferLists.{grown_if}
use Rattle.slru_bank.proofs.buffers.add_buffer.Goals as goal

pub returns : goal.returns
returns c = grown_if (is_ok c.push.result) c.args.buffers.now.items c.push.new.self.items c.args.buffer c.requires.distinct c.requires.page c.push.ensures.items
