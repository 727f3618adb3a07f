use Rattle.std.proofs.Common.{sym, subst, slice_set}
use Rattle.disk_core.specs.Pages.{Pages}
use Rattle.slru_bank.proofs.BufferLists.{read_at}
use Rattle.slru_bank.specs.Bank.{StaysUp}
use Rattle.slru_bank.proofs.buffers.read_first.Goals as goal

pub returns-clause-stays : goal.returns-clause-stays
returns-clause-stays g c told =
    let pages : Pages = g.P.PageDisk.pages c.args.disk.now in
    subst (λ (new : Pages). StaysUp pages new c.args.buffers.now (slice_set c.args.buffers.now 0 c.fill.new.self)) (sym (c.fill.ensures.same told))
    (read_at pages c.args.buffers.now c.fill.new.self c.args.page c.fill.result c.requires.distinct (c.requires.agree told) c.requires.clean c.requires.lacks c.fill.ensures.ok c.fill.ensures.err (c.fill.ensures.bytes told))
