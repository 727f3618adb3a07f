use Rattle.slru_bank.proofs.BufferLists.{other_nth, written_at, wrote_mixture}
use Rattle.slru_bank.specs.Bank.{map_of}
use Rattle.slru_bank.specs.Crash.{mixture_call}
use Rattle.slru_bank.proofs.buffers.write_first.Goals as goal

pub returns-clause-stays : goal.returns-clause-stays
returns-clause-stays g c told =
    let d = g.P.PageDisk in
    written_at (d.pages c.args.disk.now) (d.pages c.clean.new.disk) c.args.buffers.now c.index-buffers-0.result c.clean.new.self c.requires.some c.requires.distinct (c.requires.agree told)
    c.clean.ensures.page c.clean.ensures.bytes (c.clean.ensures.others told) (c.clean.ensures.agrees told)

pub returns-clause-crash : goal.returns-clause-crash
returns-clause-crash g c told =
    let d = g.P.PageDisk in
    let pages = d.pages c.args.disk.now in
    let m = map_of pages c.args.buffers.now in
    mixture_call d.images d.moment d.left_at c.args.disk.now c.clean.new.disk m m (c.clean.ensures.time told) (λ x left. g.met.P.PageDisk.only_now c.args.disk.now x told left)
    (λ x left. let from = c.clean.ensures.crash told x left in (from.0, from.1, wrote_mixture pages c.args.buffers.now c.index-buffers-0.result from.0 x c.requires.some from.2))

pub returns-clause-others : goal.returns-clause-others
returns-clause-others g c told q lacks = c.clean.ensures.others told q (other_nth c.args.buffers.now 0 c.index-buffers-0.result q c.requires.some lacks)
