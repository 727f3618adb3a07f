use Rattle.record_rules.proofs.Lasting.{later_is}
use Rattle.record_rules.proofs.law.starts_go_by_the_last.Goals as goal

pub returns-clause-later : goal.returns-clause-later
returns-clause-later c = later_is
