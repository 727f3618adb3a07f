use Rattle.std.proofs.Common.{◌≡◌, ℕ, ◌<◌, List, length}
use Rattle.std.specs.List.{HoldsAt}
use Rattle.tx_model.specs.declared.report.Line.{Line}
use Rattle.record_rules.specs.Answered.{AreAnswers}
use Rattle.record_rules.specs.Ends.{IsOpenXact}
use Rattle.record_rules.proofs.transactions.open_xacts.Given as goal

abbrev pub invariant-loop-session : goal.invariant-loop-session
invariant-loop-session l = record {
  size : length l.xacts.items ≡ l.session;
  each : (lines : List Line) → AreAnswers lines l.answers → (s : ℕ) → s < l.session → HoldsAt (IsOpenXact l.replay.events lines s) l.xacts.items s;
}
