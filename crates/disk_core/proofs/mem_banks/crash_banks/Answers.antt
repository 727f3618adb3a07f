use Rattle.disk_core.specs.MemMediaViews.{bank_crashed, BankFell}
use Rattle.disk_core.proofs.Banks.{banks_step}
use Rattle.std.proofs.Common.{◌<◌, length, arith}
use Rattle.disk_core.proofs.mem_banks.crash_banks.Goals as goal

pub loop-bank-preserved : goal.loop-bank-preserved
loop-bank-preserved c =
    let lt : c.loop-bank.bank-index < length c.loop-bank.bank-items = omega arith in
    let crashed = banks_step bank_crashed c.deref_mut-bank-items.result.now c.loop-bank.bank-items c.loop-bank.bank-index c.bank-item.result c.crash_bank.new.bank lt
    c.in_ok-crash_bank.ensures.crashed c.loop-bank.invariant.0 c.loop-bank.invariant.2 in
    let fell = banks_step (BankFell c.args.how) c.deref_mut-bank-items.result.now c.loop-bank.bank-items c.loop-bank.bank-index c.bank-item.result c.crash_bank.new.bank lt
    c.in_ok-crash_bank.ensures.fell c.loop-bank.invariant.1 c.loop-bank.invariant.2 in
    (crashed.0, fell.0, crashed.1)
