use Rattle.std.proofs.Common.{sym, subst}
use Rattle.place_columns.specs.Columns.{NeverFalls}
use Rattle.place_columns.proofs.ColumnSteps.{column_rises}
use Rattle.history_places.specs.Told.{next_in}
use Rattle.history_places.proofs.Rising.{nexts_rise}
use Rattle.history_places.proofs.PlaceSteps.{where_is}
use Rattle.history_places.proofs.places.HistoryPlaces.where_next.Goals as goal

pub span_of_id-requires : goal.span_of_id-requires
span_of_id-requires c =
    subst NeverFalls (sym c.as_slice.ensures.value)
    (column_rises (next_in c.self.inside.replay.base) c.self.inside.replay.events c.self.inside.nexts.items c.self.invariant.next (nexts_rise c.self.inside.replay.base c.self.inside.replay.events c.events-legal.ensures.legal))

pub returns : goal.returns
returns c = where_is next_in c.self.inside.replay c.args.self.now c.self.inside.nexts.items c.as_slice.result.now c.args.id c.span_of_id.result c.self.view_is c.self.invariant.next c.as_slice.ensures.value c.span_of_id.ensures
