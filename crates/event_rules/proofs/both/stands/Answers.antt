use Rattle.std.proofs.Common.{◌↔◌, nat_lt, refl, subst, sym, IsTrue}
use Rattle.report_law.specs.Events.{StandsAt}
use Rattle.event_rules.proofs.Standing.{stands_told}
use Rattle.event_rules.proofs.both.stands.Goals as goal

pub returns : goal.returns
returns g c = λ by is.
    subst (λ n. IsTrue (nat_lt c.args.number n) ↔ StandsAt g.j by) (sym c.count.ensures)
    (stands_told g.j by c.args.table.now c.args.table.now c.args.number c.requires refl is)
