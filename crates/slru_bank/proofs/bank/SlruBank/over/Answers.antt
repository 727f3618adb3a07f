use Rattle.std.proofs.Common.{◌≤◌, length, subst, sym}
use Rattle.slru_bank.specs.declared.bank.Room.{Room}
use Rattle.slru_bank.specs.Bank.{AllEmpty}
use Rattle.slru_bank.proofs.BufferLists.{empty_map, empty_distinct, empty_agree}
use Rattle.slru_bank.proofs.bank.SlruBank.over.Goals as goal

pub invariant_of-result : goal.invariant_of-result
invariant_of-result g c =
    let begun = c.deref_mut-begun.result.now in
    let same = sym c.deref_mut-begun.ensures.value in
    let empty = subst (λ (r : Room). AllEmpty r.buffers.items) same c.requires.empty in
    record {
      some = subst (λ (r : Room). 1 ≤ length r.buffers.items) same c.requires.some;
      distinct = empty_distinct begun.buffers.items empty;
      agree = λ told. empty_agree (g.P.PageDisk.pages c.args.disk) begun.buffers.items empty;
    }

pub returns-clause-map : goal.returns-clause-map
returns-clause-map g c q =
    let begun = c.deref_mut-begun.result.now in
    empty_map (g.P.PageDisk.pages c.args.disk) begun.buffers.items q (subst (λ (r : Room). AllEmpty r.buffers.items) (sym c.deref_mut-begun.ensures.value) c.requires.empty)
