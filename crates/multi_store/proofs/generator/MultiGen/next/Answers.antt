use Rattle.std.proofs.Common.{[], ◌∷◌, ◌++◌, refl, ◌∙◌, subst, ap, arith, rules, ◌+◌, ◌<◌, length}
use Rattle.tx_events.specs.Limits.{member_stop, multi_stop_limit}
use Rattle.tx_events.specs.declared.multi.MultiEvent.TheVariants as events
use Rattle.tx_events.specs.declared.record.Counters.{Counters}
use Rattle.multi_store.specs.Generator.{Generator, oldest_offset_of}
use Rattle.multi_store.proofs.States.{state_gen}
use Rattle.multi_store.proofs.generator.MultiGen.next.Goals as goal

below_member_stop : (c : goal.After-self-2-1) → c.first_member-offset.result + length c.args.members.now < member_stop c.self.inside.counters.oldest_offset
below_member_stop c =
    let f : c.first_member-offset.result + length c.items.result.now < c.member_stop-stop.result = omega arith in
    subst (λ s. c.first_member-offset.result + length c.args.members.now < s) c.member_stop-stop.ensures (subst (λ ms. c.first_member-offset.result + length ms < c.member_stop-stop.result) c.items.ensures f)

pub invariant_of-self-2 : goal.invariant_of-self-2
invariant_of-self-2 c =
    let inv = c.self.invariant.0 in
    let below : c.self.inside.counters.multi < multi_stop_limit c.self.inside.counters.oldest_multi = c.in_ok-warn.ensures.0 in (
      rw (c.push_reserved-2.ensures.items, c.in_ok-make_room.ensures.items, c.push_reserved.ensures.items, c.in_ok-make_one_room.ensures.items, c.advance-self-inside.ensures.value, c.items.ensures, c.in_ok-members.ensures, c.of.ensures)
          (state_gen _ _ c.args.by c.first_member-offset.result c.args.members.now _ _ _ _ inv below c.first_member-offset.ensures c.requires (below_member_stop c)),
      omega (arith, c.push_reserved-2.ensures.len, c.push_reserved-2.ensures.capacity, c.in_ok-make_room.ensures.room),
    )

pub returns : goal.returns
returns c = record {
  multi = search rules;
  below_stop = search rules;
  offset = search rules;
  below_member_stop = subst (λ o. c.first_member-offset.result + length c.args.members.now < member_stop o) (ap (λ (k : Counters). k.oldest_offset) c.self.invariant.0.counters_are ∙ ap oldest_offset_of c.self.view_is) (below_member_stop c);
  warn = search rules;
  adds = record {
    events = rw (c.push_reserved-2.ensures.items, c.in_ok-make_room.ensures.items, c.in_ok-members.ensures, c.of.ensures)
        (ap (λ (g : Generator). g.events ++ events.Gen c.args.by c.self.inside.counters.multi c.first_member-offset.result c.args.members.now ∷ []) c.self.view_is);
    base = search rules;
  };
}
