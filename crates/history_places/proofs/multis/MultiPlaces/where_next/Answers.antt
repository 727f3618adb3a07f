use Rattle.std.proofs.Common.{sym, subst}
use Rattle.place_columns.specs.Columns.{NeverFalls}
use Rattle.place_columns.proofs.ColumnSteps.{column_rises}
use Rattle.history_places.specs.MultiTold.{next_in}
use Rattle.history_places.proofs.MultiRising.{nexts_rise}
use Rattle.history_places.proofs.Along.{where_is}
use Rattle.history_places.proofs.multis.MultiPlaces.where_next.Goals as goal

pub span_of-requires : goal.span_of-requires
span_of-requires c =
    subst NeverFalls (sym c.as_slice.ensures.value)
    (column_rises (next_in c.self.inside.multis.base) c.self.inside.multis.events c.self.inside.nexts.items c.self.invariant.1.next (nexts_rise c.self.inside.multis.base c.counters_never_fall.ensures c.events-legal.ensures.base c.self.inside.multis.events c.events-legal.ensures.legal))

pub returns : goal.returns
returns c = where_is next_in c.self.inside.multis c.self.inside.starts.value c.args.self.now c.self.inside.nexts.items c.as_slice.result.now c.args.multi c.span_of.result c.self.view_is c.self.invariant.1.next c.as_slice.ensures.value c.span_of.ensures
