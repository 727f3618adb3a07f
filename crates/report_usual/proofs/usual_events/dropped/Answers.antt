use Rattle.std.proofs.Common.{◌++◌, codes, subst, sym}
use Rattle.tx_events.specs.declared.event.By.{By}
use Rattle.tx_events.specs.declared.event.Event.TheVariants as events
use Rattle.report_words.specs.Fits.{FitsEvent}
use Rattle.report_words.specs.Texts.{IsLineOf, event_line}
use Rattle.report_usual.proofs.Exchanges.{is_snap_drop}
use Rattle.report_usual.proofs.usual_events.dropped.Goals as goal

pub returns : goal.returns
returns c =
    let ns = c.args.names.now in
    let rest = c.args.rest.now in
    let f = c.in_ok-by.ensures in
    subst (λ (b : By). IsLineOf (FitsEvent ns) (event_line ns) (codes "drop " ++ rest) (events.SnapDrop c.in_ok-by.name b)) (sym c.of.ensures) (is_snap_drop ns rest c.in_ok-by.by c.in_ok-by.name f.text f.fits f.name)
