use Rattle.disk_core.specs.Pages.{zero_page}
use Rattle.slru_bank.proofs.BufferLists.{blanked_at}
use Rattle.slru_bank.proofs.buffers.blank_first.Goals as goal

pub returns-clause-puts : goal.returns-clause-puts
returns-clause-puts c pages agree = blanked_at pages c.args.buffers.now.items c.blank.new.self c.args.page zero_page c.requires.distinct agree c.requires.first c.blank.ensures.page c.blank.ensures.bytes
