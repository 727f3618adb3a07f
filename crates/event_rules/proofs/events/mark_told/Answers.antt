use Rattle.std.proofs.Common.{◌≡◌, ◌+◌, Bool, List, Some, length, refl, subst, sym, take}
use Rattle.std.specs.List.{slice_get}
use Rattle.std.proofs.lemmas.Option.{slice_get_read}
use Rattle.event_rules.specs.Told.{AreMarked}
use Rattle.event_rules.proofs.Telling.{none_marked, one_marked}
use Rattle.event_rules.proofs.events.mark_told.Goals as goal

pub loop-rank-init : goal.loop-rank-init
loop-rank-init c = none_marked c.args.marks.now.items c.args.told.now

pub loop-rank-preserved : goal.loop-rank-preserved
loop-rank-preserved c =
    let own = c.args.own.now in
    let n = c.loop-rank.rank in
    let there : slice_get own n ≡ Some c.index-own-rank.result = slice_get_read own (length own) n c.index-own-rank.result refl c.loop-rank-test.true c.index-own-rank.is in
    subst (λ (l : List Bool). AreMarked c.args.marks.now.items l (take (n + 1) own) c.args.told.now) (sym c.in_ok-push.ensures.items)
    (one_marked c.args.marks.now.items c.loop-rank.marks.items own c.args.told.now n c.index-own-rank.result c.is_told_by.result c.loop-rank.invariant there c.is_told_by.ensures)
