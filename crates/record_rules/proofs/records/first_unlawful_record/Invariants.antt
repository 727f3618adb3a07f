use Rattle.std.proofs.Common.{◌≡◌, ℕ, ◌<◌, ◌≤◌, Some, IfSome, take}
use Rattle.std.specs.List.{slice_get}
use Rattle.tx_events.specs.declared.record.Rec.{Rec}
use Rattle.report_law.specs.Records.{IsLawfulRecord}
use Rattle.record_rules.specs.Firsts.{AreSeen}
use Rattle.record_rules.proofs.records.first_unlawful_record.Given as goal

abbrev pub invariant-loop-place : goal.invariant-loop-place
invariant-loop-place g l = record {
  seen : AreSeen (take l.place l.report.life.recs) l.seen;
  before : (p : ℕ) (rec : Rec) → p < l.place → slice_get l.report.life.recs p ≡ Some rec → IsLawfulRecord g.j p rec;
  upto : IfSome l.judging.broken (λ p. l.place ≤ p);
}

abbrev pub ghost-judging_of : goal.ghost-judging_of
ghost-judging_of g a = g.j

abbrev pub ghost-is_lawful_record : goal.ghost-is_lawful_record
ghost-is_lawful_record g a = g.j
