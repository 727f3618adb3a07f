use Rattle.std.proofs.Common.{ℕ, arith}
use Rattle.std.specs.List.{AllZip}
use Rattle.std.proofs.lemmas.Bool.Decides.{nat_tests}
use Rattle.tx_model.specs.Replies.{taken_by}
use Rattle.report_law.specs.MultiLines.{IsTold}
use Rattle.multi_rules.proofs.Zips.{one_between}
use Rattle.multi_rules.proofs.verdicts.tells.Goals as goal

pub returns : goal.returns
returns g c =
    let h = c.args.places.now.events in
    let base = c.args.places.now.base in
    let i = one_between base.next h (taken_by g.of.by g.of.number) c.args.taken.now (λ (p : ℕ). AllZip (IsTold base g.of.ids h g.of.round p) c.args.members.now c.args.told.now) c.span_of_all-span.result c.requires.1.0 c.span_of_all-span.ensures in
    (λ t. i.0 (grind (arith, nat_tests)), λ z. let l = i.1 z in grind (arith, nat_tests))
