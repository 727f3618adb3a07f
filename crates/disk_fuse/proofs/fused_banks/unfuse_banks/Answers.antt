use Rattle.std.proofs.Common.{length, length-append, arith, ◌∷◌, [], ap}
use Rattle.disk_fuse.proofs.Fused.{inner_step, refusals_step}
use Rattle.disk_fuse.proofs.fused_banks.unfuse_banks.Goals as goal

pub loop-bank-preserved : goal.loop-bank-preserved
loop-bank-preserved g c =
    let fewer = ap length c.in-Some.ensures.items in let one = length-append c.pop.new.self.items (c.in-Some.bank ∷ []) in
    record {
      unwrapped = inner_step c.args.banks.items c.loop-bank.banks.items c.pop.new.self.items c.loop-bank.into.items c.push.new.self.items c.in-Some.bank
          c.in-Some.ensures.items c.in-Ok.ensures.items c.loop-bank.invariant.unwrapped;
      counted = refusals_step c.args.banks.items c.loop-bank.banks.items c.pop.new.self.items c.loop-bank.counts.items c.push-in-Some.new.self.items c.in-Some.bank
          c.in-Some.ensures.items c.in-Ok-push.ensures.items c.loop-bank.invariant.counted;
      room = omega (arith, fewer, one, c.in-Ok.ensures.len, c.in-Ok.ensures.capacity);
      room_2 = omega (arith, fewer, one, c.in-Ok-push.ensures.len, c.in-Ok-push.ensures.capacity);
    }
