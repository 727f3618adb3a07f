use Rattle.std.proofs.Common.{arith, rules}
use Rattle.tx_events.specs.declared.refusal.Lock.TheVariants as locks
use Rattle.replay_core.proofs.BankRows.{all_empty, empty_failed, emptying}
use Rattle.replay_core.proofs.Rows.{progress_more}
use Rattle.replay_core.proofs.banks.empty_all.Goals as goal

pub returns-in_err-empty_at : goal.returns-in_err-empty_at
returns-in_err-empty_at g c =
    let all = empty_failed g.P.PageDisk (λ bank. locks.Subtrans bank) c.args.volumes.now.items c.loop-bank.bank c.loop-bank.volumes.items c.empty_at.new.volumes.items c.in_err-empty_at.field-0.0 c.loop-bank.invariant.progress c.in_err-empty_at.ensures in
    search (rules, all)

pub loop-bank-preserved : goal.loop-bank-preserved
loop-bank-preserved g c =
    let old = c.args.volumes.now.items in
    record { progress = progress_more (emptying g.P.PageDisk (λ bank. locks.Subtrans bank) old) old c.loop-bank.bank c.loop-bank.volumes.items c.empty_at.new.volumes.items c.loop-bank.invariant.progress c.in_ok-empty_at.ensures }

pub returns : goal.returns
returns g c =
    all_empty g.P.PageDisk (λ bank. locks.Subtrans bank) c.args.volumes.now.items c.loop-bank.bank c.loop-bank.volumes.items c.loop-bank.invariant.progress (omega (arith, c.len-banks.ensures, c.loop-bank.auto.bank-end))
