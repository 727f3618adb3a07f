use Rattle.std.proofs.Common.{◌≡◌, true, false, refl}
use Rattle.tx_events.specs.After.{after_record}
use Rattle.wal_core.specs.BaseTest.{is_base_of}
use Rattle.wal_core.proofs.BaseTests.{base_passes}
use Rattle.record_rules.proofs.log.base_behind.Goals as goal

pub returns-in_err-behind-clause-none : goal.returns-in_err-behind-clause-none
returns-in_err-behind-clause-none c = λ n b.
    let yes : is_base_of (after_record c.args.counters.now c.args.rec.now) ≡ true = base_passes (after_record c.args.counters.now c.args.rec.now) b in
    let never : is_base_of (after_record c.args.counters.now c.args.rec.now) ≡ false = c.in_err-behind.ensures.none refl in
    cc
