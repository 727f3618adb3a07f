use Rattle.std.proofs.Common.{None, sym, ◌∙◌}
use Rattle.proc_table.specs.Lives.{xmin_of_bytes}
use Rattle.proc_table.proofs.LiveSteps.{taken_alone, taken_earlier, taken_last, under_after}
use Rattle.proc_table.proofs.named.NamedXmins.take.Goals as goal

pub returns-then-are_same-clause-left : goal.returns-then-are_same-clause-left
returns-then-are_same-clause-left c =
    taken_last c.args.self.now.last c.args.name.now (λ n. xmin_of_bytes n c.args.self.now.earlier) (λ n. xmin_of_bytes n c.remove-earlier.new.self)
    (rw (sym c.items.ensures) (under_after c.items.result.now c.args.self.now.earlier c.remove-earlier.new.self None c.remove-earlier.ensures.updates)) c.in-Some.last c.in-Some.is (sym c.are_same.ensures ∙ c.if-are_same.true)

pub returns-else-are_same-clause-left : goal.returns-else-are_same-clause-left
returns-else-are_same-clause-left c =
    taken_earlier c.args.self.now.last c.args.name.now (λ n. xmin_of_bytes n c.args.self.now.earlier) (λ n. xmin_of_bytes n c.remove-earlier.new.self)
    (rw (sym c.items.ensures) (under_after c.items.result.now c.args.self.now.earlier c.remove-earlier.new.self None c.remove-earlier.ensures.updates)) c.in-Some.last c.in-Some.is (sym c.are_same.ensures ∙ c.if-are_same.false)

pub returns-in-None-clause-left : goal.returns-in-None-clause-left
returns-in-None-clause-left c =
    taken_alone c.args.self.now.last c.args.name.now (λ n. xmin_of_bytes n c.args.self.now.earlier) (λ n. xmin_of_bytes n c.remove-earlier.new.self)
    (rw (sym c.items.ensures) (under_after c.items.result.now c.args.self.now.earlier c.remove-earlier.new.self None c.remove-earlier.ensures.updates)) c.in-None.is
