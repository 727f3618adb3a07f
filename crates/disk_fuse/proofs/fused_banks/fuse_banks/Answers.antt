use Rattle.std.proofs.Common.{◌≡◌, length, length-append, arith, ◌∷◌, [], ap}
use Rattle.disk_fuse.proofs.Fused.{fused_step}
use Rattle.disk_fuse.proofs.fused_banks.fuse_banks.Goals as goal

pub loop-inner-preserved : goal.loop-inner-preserved
loop-inner-preserved g c =
    let i : c.len-i.result ≡ length c.pop.new.self.items = omega arith in
    record {
      wrapped = fused_step c.args.at c.args.fails c.args.refused.now c.args.banks.items c.loop-inner.banks.items c.pop.new.self.items c.loop-inner.into.items c.push.new.self.items c.in-Some.inner
          c.len-i.result c.fails_at-fails.result c.count_at-refused.result c.in-Some.ensures.items i c.fails_at-fails.ensures c.count_at-refused.ensures c.in-Ok.ensures.items c.loop-inner.invariant.wrapped;
      room = omega (arith, ap length c.in-Some.ensures.items, length-append c.pop.new.self.items (c.in-Some.inner ∷ []), c.in-Ok.ensures.len, c.in-Ok.ensures.capacity);
    }
