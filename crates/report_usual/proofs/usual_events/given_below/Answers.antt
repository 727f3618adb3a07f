use Rattle.std.proofs.Common.{◌++◌, codes, subst, sym}
use Rattle.tx_events.specs.declared.event.By.{By}
use Rattle.tx_events.specs.declared.event.Event.TheVariants as events
use Rattle.report_words.specs.Fits.{FitsEvent}
use Rattle.report_words.specs.Texts.{IsLineOf, event_line}
use Rattle.report_usual.proofs.Exchanges.{is_given_below}
use Rattle.report_usual.proofs.usual_events.given_below.Goals as goal

pub returns-then-is_end : goal.returns-then-is_end
returns-then-is_end c =
    let ns = c.args.names.now in
    let rest = c.args.rest.now in
    subst (λ (b : By). IsLineOf (FitsEvent ns) (event_line ns) (codes "sub " ++ rest) (events.Sub b c.in_ok-parent.parent c.in_ok-id.id)) (sym c.of.ensures)
    (is_given_below ns rest c.in_ok-by.rest.now c.in_ok-rest.rest.now c.in_ok-below.rest.now c.in_ok-by.by c.in_ok-by.number c.in_ok-parent.parent c.in_ok-below.below c.in_ok-id.id
    c.in_ok-by.ensures.text c.in_ok-by.ensures.fits c.in_ok-parent.ensures.0 c.in_ok-parent.ensures.1 c.in_ok-rest.ensures c.in_ok-below.ensures c.in_ok-id.ensures.0 c.in_ok-id.ensures.1 (c.is_end.ensures c.if-is_end.true))
