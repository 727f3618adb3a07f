use Rattle.std.proofs.Common.{◌<◌, subst, sym}
use Rattle.record_rules.specs.Ends.{IsOpenXact}
use Rattle.record_rules.proofs.transactions.has_open.Goals as goal

pub returns-then-is_open_as-clause-yes : goal.returns-then-is_open_as-clause-yes
returns-then-is_open_as-clause-yes c = λ t h lines a.
    let i = c.loop-xact.xact-index in
    let size = a.size in
    let below : i < 64 = subst (λ n. i < n) size c.loop-xact-test.true in
    let is = subst (IsOpenXact h lines i) (sym c.xact-item.is) (a.each i below c.xact-item.result) in
    let both = (c.is_open_as.ensures h lines i is).0 c.if-is_open_as.true in
    (i, both.0, both.1)
