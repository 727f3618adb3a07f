use Rattle.std.proofs.Common.{ap, subst, sym, ◌≤◌, ◌∙◌}
use Rattle.disk_core.specs.Volume.{Volume}
use Rattle.wal_core.specs.Kept.{first_on}
use Rattle.wal_core.proofs.wal_log.WalLog.dump.Goals as goal

pub invariant_of-self-clause-starts : goal.invariant_of-self-clause-starts
invariant_of-self-clause-starts g c told up = ap (λ (v : Volume). v.start) (c.read.ensures.same told) ∙ c.args.self.now.starts told up

pub invariant_of-self-clause-begins : goal.invariant_of-self-clause-begins
invariant_of-self-clause-begins g c told up k e x left = c.args.self.now.begins told up k e x (c.read.ensures.crash told x left)

pub invariant_of-self-clause-firsts : goal.invariant_of-self-clause-firsts
invariant_of-self-clause-firsts g c told up = subst (λ (v : Volume). c.args.self.now.first ≤ first_on v) (sym (c.read.ensures.same told)) (c.args.self.now.firsts told up)

pub returns-in-Ok-clause-keeps : goal.returns-in-Ok-clause-keeps
returns-in-Ok-clause-keeps g c told first all k = record {
  earlier = k.earlier;
  whole = k.whole;
  count = k.count;
  each = λ x left. k.each x (c.read.ensures.crash told x left);
  other = k.other;
  begins = λ x left. k.begins x (c.read.ensures.crash told x left);
  settled = λ past x left. k.settled past x (c.read.ensures.crash told x left);
}

pub returns-in-Err-clause-keeps : goal.returns-in-Err-clause-keeps
returns-in-Err-clause-keeps g c told first all k = record {
  earlier = k.earlier;
  whole = k.whole;
  count = k.count;
  each = λ x left. k.each x (c.read.ensures.crash told x left);
  other = k.other;
  begins = λ x left. k.begins x (c.read.ensures.crash told x left);
  settled = λ past x left. k.settled past x (c.read.ensures.crash told x left);
}
