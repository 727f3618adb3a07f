use Rattle.std.proofs.Common.{refl}
use Rattle.std.proofs.lemmas.Option.{slice_get-get_or}
use Rattle.multi_makes.proofs.Reading.{full_next, not_full}
use Rattle.multi_makes.proofs.full.full_members.Goals as goal

pub returns-in-Err : goal.returns-in-Err
returns-in-Err c = not_full c.args.found.now.next c.args.found.now.oldest c.args.pairs.now c.loop-pair.pair-index _ c.loop-pair.members c.in-Err.refusal (slice_get-get_or c.args.pairs.now c.loop-pair.pair-index _ c.loop-pair-test.true) c.loop-pair.invariant c.in-Err.ensures

pub loop-pair-preserved : goal.loop-pair-preserved
loop-pair-preserved c = full_next c.args.found.now.next c.args.pairs.now c.loop-pair.members c.push.new.self c.loop-pair.pair-index _ _ (slice_get-get_or c.args.pairs.now c.loop-pair.pair-index _ c.loop-pair-test.true) c.loop-pair.invariant (record { mode = refl; id = c.in-Ok.ensures }) c.in-Ok-push.ensures.ok
