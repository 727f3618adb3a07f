use Rattle.std.proofs.Common.{◌≡◌, ℕ, ◌<◌, List, IsTrue, true, false}
use Rattle.tx_events.specs.declared.event.Event.{Event}
use Rattle.tx_model.specs.declared.report.Line.{Line}
use Rattle.report_law.specs.Records.{IsOpenOf}
use Rattle.record_rules.specs.Answered.{may_have}
use Rattle.record_rules.specs.Ends.{AreOpenXacts}
use Rattle.record_rules.proofs.transactions.has_open.Given as goal

abbrev pub invariant-loop-xact : goal.invariant-loop-xact
invariant-loop-xact l = (h : List Event) (lines : List Line) → AreOpenXacts h lines l.xacts → (s : ℕ) → s < l.xact-index → IsOpenOf h s l.fn.top l.fn.subs → IsTrue (may_have l.fn.how lines s) → false ≡ true
