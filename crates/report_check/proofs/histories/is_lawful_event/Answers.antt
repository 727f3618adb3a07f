use Rattle.std.proofs.Common.{◌≡◌, List, Some, ap, ◌∙◌}
use Rattle.std.specs.List.{slice_get}
use Rattle.tx_events.specs.declared.event.Event.{Event}
use Rattle.tx_model.specs.declared.report.Life.{Life}
use Rattle.report_check.proofs.Judging.{event_by_both}
use Rattle.report_check.proofs.histories.is_lawful_event.Goals as goal

pub returns : goal.returns
returns g c = λ e at.
    let known = c.requires.1.0 in
    let legal = c.requires.1.1.1.1 in
    let items : c.items.result.now ≡ g.j.life.events = c.items.ensures ∙ ap (λ (l : Life). l.events) c.requires.0.life in
    let here : slice_get c.items.result.now c.args.place ≡ Some e = ap (λ (h : List Event). slice_get h c.args.place) items ∙ at in
    let may = (c.may_come_at.ensures g.j.begun.counters g.j.life.events e known.front legal at).0 c.if-not-may_come_at.false in
    event_by_both g.j c.args.place e c.is_its_event.result may (c.is_its_event.ensures e here)
