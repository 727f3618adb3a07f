use Rattle.std.proofs.Common.{◌≡◌, ◌∙◌, List, ap, map, sym}
use Rattle.tx_events.specs.declared.multi.MultiEvent.{MultiEvent}
use Rattle.report_law.specs.Places.{multis_of}
use Rattle.tx_events.specs.Multis.{multi_by}
use Rattle.tx_model.specs.declared.report.Life.{Life}
use Rattle.place_columns.specs.Lined.{lines_from, numbered}
use Rattle.event_rules.proofs.Standing.{in_order}
use Rattle.reply_lines.proofs.Askings.{few_numbers, number_stands}
use Rattle.reply_lines.proofs.Pushing.{if_ok}
use Rattle.reply_lines.proofs.commands.its_multis.Goals as goal

pub multis_at-requires : goal.multis_at-requires
multis_at-requires g c =
    let known = c.requires.1.0 in
    let same : c.items.result.now ≡ g.at.j.life.multis = c.items.ensures ∙ ap (λ (l : Life). l.multis) c.requires.0.life in
    record {
      numbers = (lines_from 0 g.at.j.steps, known.multis ∙ ap (λ (h : List MultiEvent). numbered (lines_from 0 g.at.j.steps) (map multi_by h)) (sym same));
      within = few_numbers g.at c.args.number c.args.line.now c.args.known.now.multis (map multi_by g.at.j.life.multis) known.multis c.requires.1.1;
    }

pub returns : goal.returns
returns g c =
    let known = c.requires.1.0 in
    let same : c.items.result.now ≡ g.at.j.life.multis = c.items.ensures ∙ ap (λ (l : Life). l.multis) c.requires.0.life in
    let numbers : c.args.known.now.multis ≡ numbered (lines_from 0 g.at.j.steps) (map multi_by c.items.result.now) = known.multis ∙ ap (λ (h : List MultiEvent). numbered (lines_from 0 g.at.j.steps) (map multi_by h)) (sym same) in
    if_ok _ _ c.multis_at.result
    (λ es f. f (lines_from 0 g.at.j.steps) c.args.line.now.by numbers (in_order g.at.j known.order) (number_stands g.at c.args.number c.args.line.now c.requires.1.1) ∙ ap (multis_of c.args.line.now.by) same) c.multis_at.ensures
