use Rattle.std.proofs.Common.{length}
use Rattle.tx_events.specs.declared.refusal.Lock.TheVariants as locks
use Rattle.replay_core.specs.Banks.{states_become, states_leave}
use Rattle.replay_core.proofs.BankRows.{restoring}
use Rattle.replay_core.proofs.Rows.{Progress}
use Rattle.replay_core.proofs.banks.restore_all_states.Given as goal

abbrev pub invariant-loop-bank : goal.invariant-loop-bank
invariant-loop-bank g l = record {
  progress : Progress (restoring g.P.PageDisk (λ bank. locks.Xact bank) (states_leave (length l.fn.volumes.items) l.recs l.base) (states_become (length l.fn.volumes.items) l.recs l.base) l.fn.volumes.items) l.fn.volumes.items l.bank l.volumes.items;
}
