use Rattle.std.proofs.Common.{List, ℕ, Bool, sym, subst, ◌∙◌}
use Rattle.slru_bank.specs.declared.buffer.Buffer.{Buffer}
use Rattle.slru_bank.specs.Bank.{AllAgree, map_of}
use Rattle.slru_bank.specs.Removal.{MayDrop, removes}
use Rattle.slru_bank.proofs.BufferLists.{written_back}
use Rattle.slru_bank.proofs.removal.blank_removed.Goals as goal

pub returns-clause-agree : goal.returns-clause-agree
returns-clause-agree g c pages agree =
    let was = c.deref_mut.ensures in
    rw (written_back c.args.buffers.now.len c.blank_all.new.buffers c.args.buffers.now.items (c.blank_all.ensures.long ∙ was.len))
    (c.blank_all.ensures.agree pages (subst (λ (xs : List Buffer). AllAgree pages xs) (sym was.value) agree))

pub returns-clause-map : goal.returns-clause-map
returns-clause-map g c pages =
    let was = c.deref_mut.ensures in
    let gone : ℕ → Bool = removes g.O.PageRule.shape g.O.PageRule.per_page c.args.removal in
    rw (written_back c.args.buffers.now.len c.blank_all.new.buffers c.args.buffers.now.items (c.blank_all.ensures.long ∙ was.len))
    (subst (λ (xs : List Buffer). MayDrop gone (map_of pages xs) (map_of pages c.blank_all.new.buffers)) was.value (c.blank_all.ensures.map pages))
