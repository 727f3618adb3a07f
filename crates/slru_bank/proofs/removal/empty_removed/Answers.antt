use Rattle.std.proofs.Common.{List, sym, subst, ◌∙◌}
use Rattle.slru_bank.specs.declared.buffer.Buffer.{Buffer}
use Rattle.slru_bank.specs.Bank.{AllAgree}
use Rattle.slru_bank.proofs.BufferLists.{written_back}
use Rattle.slru_bank.proofs.removal.empty_removed.Goals as goal

pub returns-clause-agree : goal.returns-clause-agree
returns-clause-agree g c pages agree =
    let was = c.deref_mut.ensures in
    rw (written_back c.args.buffers.now.len c.empty_all.new.buffers c.args.buffers.now.items (c.empty_all.ensures.long ∙ was.len))
    (c.empty_all.ensures.agree pages (subst (λ (xs : List Buffer). AllAgree pages xs) (sym was.value) agree))
