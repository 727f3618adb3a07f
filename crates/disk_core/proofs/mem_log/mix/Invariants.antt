use Rattle.std.proofs.Common.{◌≡◌}
use Rattle.disk_core.specs.MemLog.{mixed_bytes}
use Rattle.disk_core.proofs.Mixed.{so_far}
use Rattle.disk_core.proofs.mem_log.mix.Given as goal

abbrev pub invariant-loop-i : goal.invariant-loop-i
invariant-loop-i l = so_far l.is_odd l.i l.synced l.bytes ≡ mixed_bytes l.fn.is_odd l.synced l.fn.bytes
