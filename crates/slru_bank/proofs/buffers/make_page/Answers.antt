use Rattle.slru_bank.proofs.BufferLists.{first_brought, rearranged_up, held_room}
use Rattle.slru_bank.proofs.buffers.make_page.Goals as goal

pub write_first-requires-clause-agree : goal.write_first-requires-clause-agree
write_first-requires-clause-agree g c told = rw c.deref_mut.ensures.value (c.take_last.ensures.agree (g.P.PageDisk.pages c.args.disk.now) (c.requires.agree told))

pub returns-in-Some-clause-first : goal.returns-in-Some-clause-first
returns-in-Some-clause-first g c =
    let same = c.deref.ensures.value in
    held_room c.args.page c.bring.new.buffers.items
    (first_brought c.args.buffers.now.items c.bring.new.buffers.items c.in-Some.i c.args.page (rw same at c.in-Some.ensures.within) c.bring.ensures.list (λ d. rw same at (c.in-Some.ensures.found d)))

pub returns-in-Some-clause-stays : goal.returns-in-Some-clause-stays
returns-in-Some-clause-stays g c told = rearranged_up (g.P.PageDisk.pages c.args.disk.now) c.args.buffers.now.items c.bring.new.buffers.items c.bring.ensures.order (c.requires.agree told)
