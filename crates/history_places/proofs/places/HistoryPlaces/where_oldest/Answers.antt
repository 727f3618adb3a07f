use Rattle.std.proofs.Common.{sym, subst}
use Rattle.place_columns.specs.Columns.{NeverFalls}
use Rattle.place_columns.proofs.ColumnSteps.{column_rises}
use Rattle.history_places.specs.Told.{oldest_in}
use Rattle.history_places.proofs.Rising.{oldests_rise}
use Rattle.history_places.proofs.PlaceSteps.{where_is}
use Rattle.history_places.proofs.places.HistoryPlaces.where_oldest.Goals as goal

pub span_of_id-requires : goal.span_of_id-requires
span_of_id-requires c =
    subst NeverFalls (sym c.as_slice.ensures.value)
    (column_rises (oldest_in c.self.inside.replay.base) c.self.inside.replay.events c.self.inside.oldests.items c.self.invariant.oldest (oldests_rise c.self.inside.replay.base c.self.inside.replay.events c.events-legal.ensures.legal))

pub returns : goal.returns
returns c = where_is oldest_in c.self.inside.replay c.args.self.now c.self.inside.oldests.items c.as_slice.result.now c.args.id c.span_of_id.result c.self.view_is c.self.invariant.oldest c.as_slice.ensures.value c.span_of_id.ensures
