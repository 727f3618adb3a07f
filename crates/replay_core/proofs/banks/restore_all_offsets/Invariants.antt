use Rattle.std.proofs.Common.{length}
use Rattle.tx_events.specs.declared.refusal.Lock.TheVariants as locks
use Rattle.replay_core.specs.Banks.{offsets_become, offsets_leave}
use Rattle.replay_core.proofs.BankRows.{restoring}
use Rattle.replay_core.proofs.Rows.{Progress}
use Rattle.replay_core.proofs.banks.restore_all_offsets.Given as goal

abbrev pub invariant-loop-bank : goal.invariant-loop-bank
invariant-loop-bank g l = record {
  progress : Progress (restoring g.P.PageDisk (λ bank. locks.Offsets bank) (offsets_leave (length l.fn.volumes.items) l.recs l.span) (offsets_become (length l.fn.volumes.items) l.recs l.span) l.fn.volumes.items) l.fn.volumes.items l.bank l.volumes.items;
}
