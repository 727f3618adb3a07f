use Rattle.std.proofs.Common.{◌≡◌, ◌+◌, ◌*◌}
use Rattle.hall.specs.Calls.{start_of, view}
use Rattle.tx_core.specs.EngineInvariant.{EngineInvariant}
use Rattle.engine_parts.specs.Alone.{IsAlone}
use Rattle.host_calls.specs.Added.{AddsSyncs}
use Rattle.host_calls.specs.Moments.{KeptThroughout}
use Rattle.host_calls.proofs.syncs.sync_all.Given as goal

abbrev pub invariant-loop-bank : goal.invariant-loop-bank
invariant-loop-bank g l = record {
  alone : IsAlone l.hall l.pass;
  holds : (view l.pass).holds ≡ (view l.fn.pass).holds;
  kept : EngineInvariant (start_of l.hall) (view l.pass).seen;
  stages : KeptThroughout g.L.LogDisk g.P.PageDisk (start_of l.hall) (view l.fn.pass).seen (view l.pass).seen;
  synced : AddsSyncs l.by 3 (3 + 4 * l.bank) (view l.fn.pass).seen (view l.pass).seen;
}
