use Rattle.std.proofs.Common.{◌≡◌, ◌∙◌, List, ap, arith, map, sym}
use Rattle.tx_events.specs.Multis.{multi_by}
use Rattle.place_columns.specs.Lined.{Numbered, lines_from, numbered, places_of}
use Rattle.place_columns.proofs.LinePlaces.{its_places}
use Rattle.event_rules.proofs.Judging.{few_steps}
use Rattle.event_rules.proofs.Standing.{in_order, within}
use Rattle.report_law.specs.Steps.{lines_of}
use Rattle.std.specs.Prelude.{Contains}
use Rattle.std.proofs.Common.{ℕ, subst}
use Rattle.reply_lines.proofs.Askings.{line_stands, number_stands}
use Rattle.reply_lines.proofs.commands.multi_places_of.Goals as goal

pub places-requires : goal.places-requires
places-requires g c =
    let known = c.requires.0 in
    let l = within (lines_of g.at.j) c.args.number c.args.line.now (line_stands g.at c.args.number c.args.line.now c.requires.1) in
    few_steps g.at.j c.args.number c.args.known.now.multis (map multi_by g.at.j.life.multis) known.multis (omega arith)

pub returns : goal.returns
returns g c = λ p.
    let known = c.requires.0 in
    let whole = its_places (lines_from 0 g.at.j.steps) c.args.number c.args.line.now.by (in_order g.at.j known.order) (number_stands g.at c.args.number c.args.line.now c.requires.1) (map multi_by g.at.j.life.multis) p in
    let same : c.places.result.now ≡ places_of c.args.number (numbered (lines_from 0 g.at.j.steps) (map multi_by g.at.j.life.multis)).numbers = c.places.ensures ∙ ap (λ (o : Numbered). places_of c.args.number o.numbers) known.multis in
    (λ e. subst (λ (t : List ℕ). Contains t p) (sym same) (whole.0 e), λ x. whole.1 (subst (λ (t : List ℕ). Contains t p) same x))
