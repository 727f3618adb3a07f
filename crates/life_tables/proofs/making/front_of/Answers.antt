use Rattle.std.proofs.Common.{◌≡◌, List, Option, map, sym, ap, subst, ◌∙◌}
use Rattle.tx_events.specs.declared.event.By.{By}
use Rattle.tx_events.specs.declared.event.Event.{Event}
use Rattle.tx_events.specs.declared.record.Counters.{Counters}
use Rattle.tx_events.specs.declared.snapshot.SnapData.{SnapData}
use Rattle.tx_events.specs.Events.{by_of}
use Rattle.tx_model.specs.declared.report.LifeReport.{LifeReport}
use Rattle.history_places.specs.SnapMarks.{AreSnapMarks}
use Rattle.event_rules.specs.declared.front.HistoryFront.{HistoryFront}
use Rattle.event_rules.specs.Fronts.{AreTold}
use Rattle.place_columns.specs.Lined.{Numbered, lines_from, number_of}
use Rattle.event_rules.specs.SnapsTold.{told_by}
use Rattle.life_tables.specs.Lives.{judged_life}
use Rattle.life_tables.proofs.Lining.{are_told, if_ok}
use Rattle.life_tables.proofs.making.front_of.Goals as goal

pub returns-clause-snaps : goal.returns-clause-snaps
returns-clause-snaps g c =
    let h = c.args.report.now.life.events in
    let own : c.args.own.now.numbers ≡ map (number_of (lines_from 0 g.at.report.steps)) (map by_of h) =
    ap (λ (n : Numbered). n.numbers) c.requires.1.1.1.0 ∙ ap (λ (r : LifeReport). map (number_of (lines_from 0 r.steps)) (map by_of h)) c.requires.0 in
    let told = are_told (judged_life g.at) h c.args.own.now.numbers c.args.lists.now own c.requires.1.1.1.1 in
    let by = told_by (judged_life g.at) in
    let first = c.args.report.now.life.base.next in
    if_ok
    (λ (f : HistoryFront). (told_by : By → Option SnapData) → AreTold told_by c.items.result.now c.args.own.now.numbers c.args.lists.now → AreSnapMarks c.same.result.next f.places.events told_by f.snaps.items)
    (λ (f : HistoryFront). AreSnapMarks first f.places.events by f.snaps.items)
    c.history_front.result
    (λ f marks. subst (λ (b : Counters). AreSnapMarks b.next f.places.events by f.snaps.items) c.same.ensures (marks by (subst (λ (es : List Event). AreTold by es c.args.own.now.numbers c.args.lists.now) (sym c.items.ensures) told)))
    c.history_front.ensures.snaps
