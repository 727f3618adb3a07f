use Rattle.std.proofs.Common.{◌≡◌, ◌++◌, List, take}
use Rattle.std.specs.List.{filter_map}
use Rattle.tx_events.specs.declared.record.Rec.{Rec}
use Rattle.reply_rules.specs.Logs.{AreRecordedMultis}
use Rattle.report_check.specs.Keeping.{kept_homes, kept_start}
use Rattle.report_check.proofs.keep.add_multis.Given as goal

abbrev pub invariant-loop-place : goal.invariant-loop-place
invariant-loop-place l = record {
  starts : (recs : List Rec) → AreRecordedMultis recs l.recorded → l.starts.items ≡ l.fn.starts.items ++ filter_map (kept_start recs) (take l.place l.events);
  homes : (recs : List Rec) → AreRecordedMultis recs l.recorded → l.homes.items ≡ l.fn.homes.items ++ kept_homes recs l.life 0 (take l.place l.events);
}
