use Rattle.report_law.specs.Steps.{lines_of}
use Rattle.record_rules.proofs.Recorded.{commit_iff}
use Rattle.record_rules.proofs.transactions.is_commit_recorded.Goals as goal

pub returns : goal.returns
returns c = λ j legal each xacts. commit_iff j c.args.top c.args.subs.now c.is_end_recorded.result (c.is_end_recorded.ensures j.begun.counters j.life.events (lines_of j) legal each xacts)
