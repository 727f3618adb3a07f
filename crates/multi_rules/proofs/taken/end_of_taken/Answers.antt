use Rattle.std.proofs.Common.{◌≡◌, ◌-◌, ℕ, [], List, arith, subst}
use Rattle.std.specs.List.{filter_map}
use Rattle.multi_rules.specs.Snapped.{taken_at}
use Rattle.multi_rules.proofs.Listing.{none_more}
use Rattle.multi_rules.proofs.taken.end_of_taken.Goals as goal

pub loop-end-preserved : goal.loop-end-preserved
loop-end-preserved c =
    let snaps = c.args.snaps.now in
    let within = c.loop-end.invariant.within in
    record {
      within = omega arith;
      none = none_more snaps c.args.own.now.numbers c.loop-end.end c.args.count c.loop-end-test.true
          (subst (λ (t : List ℕ). filter_map (taken_at snaps) t ≡ []) c.places.ensures (c.takes_any.ensures c.if-takes_any.false)) c.loop-end.invariant.none;
    }
