use Rattle.std.proofs.Common.{List, ap, sym, subst}
use Rattle.multi_store.specs.Generator.{Generator}
use Rattle.history_places.specs.declared.start.Start.{Start}
use Rattle.history_places.specs.Starts.{FitsBase}
use Rattle.history_places.proofs.Along.{multi_start}
use Rattle.history_places.proofs.multis.MultiPlaces.new.Goals as goal

pub invariant_of-result : goal.invariant_of-result
invariant_of-result c = (
  sym (ap (λ (g : Generator). g.base.multi) c.new-multis.ensures),
  multi_start c.args.base c.by.result.value c.new-multis.result c.row_of-row.result c.in_ok-nexts.nexts.items c.in_ok-firsts.firsts.items c.in_ok-oldests.oldests.items c.in_ok-stops.stops.items c.in_ok-member_stops.member_stops.items
      c.new-multis.ensures (subst (λ (ss : List Start). FitsBase c.args.base ss) (sym c.by.ensures) c.requires.starts) c.row_of-row.ensures.row c.in_ok-nexts.ensures c.in_ok-firsts.ensures c.in_ok-oldests.ensures c.in_ok-stops.ensures c.in_ok-member_stops.ensures,
)
