use Rattle.tx_events.specs.declared.refusal.Lock.TheVariants as locks
use Rattle.replay_core.proofs.BankRows.{emptying}
use Rattle.replay_core.proofs.Rows.{Progress}
use Rattle.replay_core.proofs.banks.empty_all.Given as goal

abbrev pub invariant-loop-bank : goal.invariant-loop-bank
invariant-loop-bank g l = record {
  progress : Progress (emptying g.P.PageDisk (λ bank. locks.Subtrans bank) l.fn.volumes.items) l.fn.volumes.items l.bank l.volumes.items;
}
