use Rattle.std.proofs.Common.{sym, subst}
use Rattle.place_columns.specs.Columns.{NeverFalls}
use Rattle.place_columns.proofs.ColumnSteps.{column_rises}
use Rattle.history_places.specs.MultiTold.{first_in}
use Rattle.history_places.proofs.MultiRising.{firsts_rise}
use Rattle.history_places.proofs.Along.{where_is}
use Rattle.history_places.proofs.multis.MultiPlaces.where_first.Goals as goal

pub span_of-requires : goal.span_of-requires
span_of-requires c =
    subst NeverFalls (sym c.as_slice.ensures.value)
    (column_rises (first_in c.self.inside.multis.base) c.self.inside.multis.events c.self.inside.firsts.items c.self.invariant.1.first (firsts_rise c.self.inside.multis.base c.counters_never_fall.ensures c.events-legal.ensures.base c.self.inside.multis.events c.events-legal.ensures.legal))

pub returns : goal.returns
returns c = where_is first_in c.self.inside.multis c.self.inside.starts.value c.args.self.now c.self.inside.firsts.items c.as_slice.result.now c.args.offset c.span_of.result c.self.view_is c.self.invariant.1.first c.as_slice.ensures.value c.span_of.ensures
