use Rattle.std.proofs.Common.{◌≡◌, ◌≤◌, take}
use Rattle.std.specs.List.{count_by}
use Rattle.report_law.specs.Steps.{is_truncation}
use Rattle.reply_rules.proofs.logged.truncations.Given as goal

abbrev pub invariant-loop-rec : goal.invariant-loop-rec
invariant-loop-rec l = (l.count ≡ count_by is_truncation (take l.rec-index l.recs)) × (l.count ≤ l.rec-index)
