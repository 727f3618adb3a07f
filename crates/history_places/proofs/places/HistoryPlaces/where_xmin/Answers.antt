use Rattle.std.proofs.Common.{sym, subst}
use Rattle.place_columns.specs.Columns.{NeverFalls}
use Rattle.place_columns.proofs.ColumnSteps.{column_rises}
use Rattle.history_places.specs.Told.{xmin_in}
use Rattle.history_places.proofs.Rising.{xmins_rise}
use Rattle.history_places.proofs.PlaceSteps.{where_is}
use Rattle.history_places.proofs.places.HistoryPlaces.where_xmin.Goals as goal

pub span_of_id-requires : goal.span_of_id-requires
span_of_id-requires c =
    subst NeverFalls (sym c.as_slice.ensures.value)
    (column_rises (xmin_in c.self.inside.replay.base) c.self.inside.replay.events c.self.inside.xmins.items c.self.invariant.xmin (xmins_rise c.self.inside.replay.base c.self.inside.replay.events c.events-legal.ensures.base c.events-legal.ensures.legal))

pub returns : goal.returns
returns c = where_is xmin_in c.self.inside.replay c.args.self.now c.self.inside.xmins.items c.as_slice.result.now c.args.xmin c.span_of_id.result c.self.view_is c.self.invariant.xmin c.as_slice.ensures.value c.span_of_id.ensures
