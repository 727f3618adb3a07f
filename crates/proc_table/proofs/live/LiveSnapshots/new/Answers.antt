use Rattle.std.proofs.Common.{ap, arith, length, ◌∙◌, ◌≡◌, ◌+◌, ◌++◌, ◌∷◌, []}
use Rattle.tx_events.proofs.ListSteps.{length_push}
use Rattle.proc_table.proofs.LiveSteps.{kept_push}
use Rattle.proc_table.proofs.live.LiveSnapshots.new.Goals as goal

pub loop-preserved : goal.loop-preserved
loop-preserved c =
    let items : c.push.new.self.items ≡ c.loop.names.items ++ c.new.result ∷ [] = c.in_ok-push.ensures.items in
    let more : length c.push.new.self.items ≡ length c.loop.names.items + 1 = ap length items ∙ length_push c.loop.names.items c.new.result ∙ omega arith in
    let before : length c.loop.names.items ≡ c.loop.counter = c.loop.invariant.0 in
    (omega arith, rw items (kept_push c.loop.names.items c.new.result c.new.ensures c.loop.invariant.1))
