use Rattle.std.proofs.Common.{◌∙◌, List, ap, arith, length, map, refl, ℕ}
use Rattle.std.specs.Prelude.{nat_lt}
use Rattle.tx_events.specs.declared.multi.MultiEvent.{MultiEvent}
use Rattle.tx_events.specs.Multis.{multi_by}
use Rattle.place_columns.specs.Lined.{lines_from, places_of}
use Rattle.place_columns.proofs.Copying.{copied_whole, place_of_event}
use Rattle.event_rules.proofs.Judging.{few_steps}
use Rattle.event_rules.proofs.Standing.{in_order, within}
use Rattle.report_law.specs.Steps.{lines_of}
use Rattle.reply_lines.proofs.Askings.{line_stands, number_stands}
use Rattle.reply_lines.proofs.Having.{as_many}
use Rattle.reply_lines.proofs.commands.has_multi.Goals as goal

pub places-requires : goal.places-requires
places-requires g c =
    let known = c.requires.0 in
    let l = within (lines_of g.at.j) c.args.number c.args.line.now (line_stands g.at c.args.number c.args.line.now c.requires.1) in
    few_steps g.at.j c.args.number c.args.known.now.multis (map multi_by g.at.j.life.multis) known.multis (omega arith)

pub returns : goal.returns
returns g c =
    let known = c.requires.0 in
    let lines = lines_from 0 g.at.j.steps in
    let all = g.at.j.life.multis in
    let own = c.args.known.now.multis in
    let places = places_of c.args.number own.numbers in
    let whole = as_many all places (λ j l. place_of_event multi_by lines c.args.number j all own places known.multis refl l)
    ∙ ap (λ (h : List MultiEvent). length h) (copied_whole multi_by lines c.args.number c.args.line.now.by all own known.multis (in_order g.at.j known.order) (number_stands g.at c.args.number c.args.line.now c.requires.1)) in
    c.has_some.ensures ∙ ap (λ (ps : List ℕ). nat_lt 0 (length ps)) c.places.ensures ∙ ap (λ n. nat_lt 0 n) whole
