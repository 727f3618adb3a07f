use Rattle.std.proofs.Common.{◌≡◌, ◌∙◌, List, ap, map, sym}
use Rattle.tx_events.specs.declared.event.Event.{Event}
use Rattle.tx_events.specs.Events.{by_of, events_of, given}
use Rattle.tx_model.specs.declared.report.Life.{Life}
use Rattle.place_columns.specs.Lined.{lines_from, numbered}
use Rattle.event_rules.proofs.Standing.{in_order}
use Rattle.reply_lines.proofs.Askings.{few_numbers, number_stands}
use Rattle.reply_lines.proofs.Pushing.{if_ok}
use Rattle.reply_lines.proofs.commands.its_ids.Goals as goal

pub ids_at-requires : goal.ids_at-requires
ids_at-requires g c =
    let known = c.requires.1.0 in
    let same : c.items.result.now ≡ g.at.j.life.events = c.items.ensures ∙ ap (λ (l : Life). l.events) c.requires.0.life in
    record {
      numbers = (lines_from 0 g.at.j.steps, known.events ∙ ap (λ (h : List Event). numbered (lines_from 0 g.at.j.steps) (map by_of h)) (sym same));
      within = few_numbers g.at c.args.number c.args.line.now c.args.known.now.events (map by_of g.at.j.life.events) known.events c.requires.1.1;
    }

pub returns : goal.returns
returns g c =
    let known = c.requires.1.0 in
    let same : c.items.result.now ≡ g.at.j.life.events = c.items.ensures ∙ ap (λ (l : Life). l.events) c.requires.0.life in
    let numbers : c.args.known.now.events ≡ numbered (lines_from 0 g.at.j.steps) (map by_of c.items.result.now) = known.events ∙ ap (λ (h : List Event). numbered (lines_from 0 g.at.j.steps) (map by_of h)) (sym same) in
    if_ok _ _ c.ids_at.result
    (λ es f. f (lines_from 0 g.at.j.steps) c.args.line.now.by numbers (in_order g.at.j known.order) (number_stands g.at c.args.number c.args.line.now c.requires.1.1) ∙ ap (λ (h : List Event). given (events_of c.args.line.now.by h)) same) c.ids_at.ensures
