use Rattle.std.proofs.Common.{◌≡◌, true, false, Some, None, sym, ap, subst, ◌∙◌, rules}
use Rattle.std.specs.Bool.{then_some}
use Rattle.std.specs.BTreeSet.{contains}
use Rattle.std.specs.List.{list_any}
use Rattle.std.specs.Ordering.{nat_cmp}
use Rattle.tx_events.specs.declared.multi.MultiEvent.{MultiEvent}
use Rattle.report_law.specs.Records.{is_same_multi}
use Rattle.multi_rules.specs.declared.homes.Home.{Home}
use Rattle.report_check.specs.Keeping.{kept_home}
use Rattle.report_check.proofs.keep.home_of.Goals as goal

pub returns-then-contains : goal.returns-then-contains
returns-then-contains c = λ recs are.
    let home : Home = record { multi = c.in-Gen.multi; offset = c.in-Gen.offset; life = c.args.life; event = c.args.place } in
    let yes : contains nat_cmp c.args.recorded.now c.in-Gen.multi ≡ true = search rules in
    let any : list_any (is_same_multi c.in-Gen.multi) recs ≡ true = sym (are c.in-Gen.multi) ∙ yes in
    subst (λ (e : MultiEvent). Some home ≡ kept_home recs c.args.life c.args.place e) (sym c.in-Gen.is) (ap (λ b. then_some b home) (sym any))

pub returns-else-contains : goal.returns-else-contains
returns-else-contains c = λ recs are.
    let home : Home = record { multi = c.in-Gen.multi; offset = c.in-Gen.offset; life = c.args.life; event = c.args.place } in
    let no : contains nat_cmp c.args.recorded.now c.in-Gen.multi ≡ false = search rules in
    let none : list_any (is_same_multi c.in-Gen.multi) recs ≡ false = sym (are c.in-Gen.multi) ∙ no in
    subst (λ (e : MultiEvent). None ≡ kept_home recs c.args.life c.args.place e) (sym c.in-Gen.is) (ap (λ b. then_some b home) (sym none))
