use Rattle.std.proofs.Common.{ℕ, List, [], length, ap, arith}
use Rattle.slru_bank.specs.Bank.{map_of}
use Rattle.slru_bank.proofs.NumberBytes.{puts_number_ok}
use Rattle.slru_bank.proofs.numbers.put_number.Goals as goal

pub returns-clause-ok : goal.returns-clause-ok
returns-clause-ok g c told =
    let d = g.P.PageDisk in
    let m : ℕ → List ℕ = map_of (d.pages c.args.bank.now.disk) c.args.bank.now.room.value.buffers.items in
    let new : ℕ → List ℕ = map_of (d.pages c.put.new.self.disk) c.put.new.self.room.value.buffers.items in
    puts_number_ok c.put.result m new c.args.page c.args.at c.args.number c.write_u32.new.buf [] c.requires (omega arith) (ap length c.write_u32.ensures) c.write_u32.ensures (c.put.ensures.page told) (c.put.ensures.ok told)
