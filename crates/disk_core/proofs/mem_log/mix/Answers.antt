use Rattle.std.proofs.Common.{◌<◌, length, arith}
use Rattle.disk_core.specs.MemLog.{mixed_bytes}
use Rattle.disk_core.proofs.Mixed.{mix_then, mix_else}
use Rattle.disk_core.proofs.mem_log.mix.Goals as goal
use Rattle.disk_core.proofs.mem_log.mix.Goals.{then-not-is_odd, else-not-is_odd}

pub loop-i-preserved : goal.loop-i-preserved
loop-i-preserved c =
    let lt : c.loop-i.i < length c.loop-i.bytes = omega (arith, c.loop-i-test.true, c.loop-i.auto.bytes) in
    elim c.if-not-is_odd.branch [
      | then-not-is_odd w ↦ mix_then c.loop-i.is_odd c.args.synced.now c.loop-i.bytes c.if-not-is_odd.bytes (mixed_bytes c.args.is_odd c.args.synced.now c.args.bytes.now) w.byte_or_zero.result c.loop-i.i lt w.if-not-is_odd.true w.byte_or_zero.ensures w.bytes-is c.loop-i.invariant
      | else-not-is_odd w ↦ mix_else c.loop-i.is_odd c.args.synced.now c.loop-i.bytes c.if-not-is_odd.bytes (mixed_bytes c.args.is_odd c.args.synced.now c.args.bytes.now) c.loop-i.i lt w.if-not-is_odd.false w.bytes-is c.loop-i.invariant
    ]
