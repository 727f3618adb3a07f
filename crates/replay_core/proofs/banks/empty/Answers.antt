use Rattle.replay_core.proofs.Emptying.{is_empty}
use Rattle.replay_core.proofs.banks.empty.Goals as goal

pub returns-in-Ok-true : goal.returns-in-Ok-true
returns-in-Ok-true g c =
    let e = c.in-Ok-true.ensures in
    record {
      empty = λ told. is_empty g.P.PageDisk c.sync_if_empty.new.disk (e.empty told c.in-Ok-true.field-0-test) (e.durable told c.in-Ok-true.field-0-test);
      cause = tt;
      count = c.sync_if_empty.ensures.cause.0;
    }
