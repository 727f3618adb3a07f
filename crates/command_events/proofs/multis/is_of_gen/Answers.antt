use Rattle.std.proofs.Common.{List, sym, subst, ◌∙◌}
use Rattle.std.specs.List.{AllZip}
use Rattle.tx_model.specs.declared.command.Pair.{Pair}
use Rattle.command_events.specs.Reached.{IsMember}
use Rattle.command_events.proofs.Telling.{gen_at}
use Rattle.command_events.proofs.multis.is_of_gen.Goals as goal

pub returns-then-begins_with : goal.returns-then-begins_with
returns-then-begins_with g c =
    let first = c.stands_first.ensures.0 c.if-not-stands_first.false in
    let members = c.in-Gen.members in
    let i = gen_at g.t c.args.reach c.requires.0 c.args.own.now c.args.place c.in-Gen.multi c.in-Gen.offset c.in-Gen.its members c.args.e.now c.in-Gen.is (first.0, sym c.get.ensures ∙ first.1 ∙ c.requires.1.0)
    (sym c.begins_with.ensures ∙ c.if-begins_with.true) in (
      λ y. i.0 (subst (λ (ps : List Pair). AllZip (IsMember c.args.reach) ps members) c.requires.1.1 (c.are_given.ensures.0 y)),
      λ z. c.are_given.ensures.1 (subst (λ (ps : List Pair). AllZip (IsMember c.args.reach) ps members) (sym c.requires.1.1) (i.1 z)),
    )
