use Rattle.tx_events.specs.Savepoints.{is_inside}
use Rattle.history_check.proofs.OpenedSteps.{closed_are_ascending}
use Rattle.history_check.proofs.opened.closed_by.Goals as goal

pub returns-in-Undo-clause-order : goal.returns-in-Undo-clause-order
returns-in-Undo-clause-order c = closed_are_ascending c.args.table.now.base c.args.table.now.events c.get.result.session (is_inside c.args.table.now.events c.in-Undo.id) _ c.events-legal.ensures.legal c.ids_inside.ensures
