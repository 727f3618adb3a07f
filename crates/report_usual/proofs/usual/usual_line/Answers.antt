use Rattle.report_usual.proofs.Exchanges.{is_line}
use Rattle.report_usual.proofs.usual.usual_line.Goals as goal

pub returns : goal.returns
returns c =
    let b = c.in-Some in
    let e = c.in-Some-2 in
    is_line c.args.names.now c.args.line.now b.rest.now b.by e.command e.reply b.ensures.text b.ensures.fits (rw e.is at c.in_ok-command.ensures)
