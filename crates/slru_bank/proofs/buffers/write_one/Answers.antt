use Rattle.slru_bank.proofs.BufferLists.{written_nth, wrote_mixture_nth, clean_nth_ok, distinct_nth}
use Rattle.slru_bank.specs.Bank.{map_of}
use Rattle.slru_bank.specs.Crash.{mixture_call}
use Rattle.slru_bank.proofs.buffers.write_one.Goals as goal

pub returns-clause-stays : goal.returns-clause-stays
returns-clause-stays g c told =
    let d = g.P.PageDisk in
    (written_nth (d.pages c.args.disk.now) (d.pages c.clean.new.disk) c.args.buffers.now c.args.at c.index-buffers-at.result c.clean.new.self c.requires.within c.requires.distinct (c.requires.agree told)
    c.clean.ensures.page c.clean.ensures.bytes (c.clean.ensures.others told) (c.clean.ensures.agrees told)).0

pub returns-clause-crash : goal.returns-clause-crash
returns-clause-crash g c told =
    let d = g.P.PageDisk in
    let pages = d.pages c.args.disk.now in
    let m = map_of pages c.args.buffers.now in
    mixture_call d.images d.moment d.left_at c.args.disk.now c.clean.new.disk m m (c.clean.ensures.time told) (λ x left. g.met.P.PageDisk.only_now c.args.disk.now x told left)
    (λ x left. let from = c.clean.ensures.crash told x left in (from.0, from.1, wrote_mixture_nth pages c.args.buffers.now c.args.at c.index-buffers-at.result from.0 x c.requires.within c.requires.distinct from.2))

pub returns-clause-clean : goal.returns-clause-clean
returns-clause-clean g c so_far = clean_nth_ok c.args.buffers.now c.args.at c.clean.new.self c.clean.result c.requires.within so_far c.clean.ensures.clean

pub returns-clause-distinct : goal.returns-clause-distinct
returns-clause-distinct g c = distinct_nth c.args.buffers.now c.args.at c.index-buffers-at.result c.clean.new.self c.requires.within c.clean.ensures.page c.requires.distinct
