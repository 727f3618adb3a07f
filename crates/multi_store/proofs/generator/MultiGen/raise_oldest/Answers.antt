use Rattle.std.proofs.Common.{◌≡◌, refl, sym, ◌∙◌, subst, ap, arith, ◌≤◌, map, min}
use Rattle.std.specs.List.{fold}
use Rattle.tx_events.specs.Multis.{BeginsAt, InBase, Pin, pin_limit, pins}
use Rattle.tx_events.specs.declared.record.Counters.{Counters}
use Rattle.multi_store.specs.Generator.{Generator, Begins, oldest_of, limit_of}
use Rattle.std.proofs.lemmas.Map.Keys.{ge_from_not_lt}
use Rattle.multi_store.proofs.States.{state_raised}
use Rattle.multi_store.proofs.generator.MultiGen.raise_oldest.Goals as goal

pub invariant_of-self-2 : goal.invariant_of-self-2
invariant_of-self-2 c =
    let inv = c.self.invariant.0 in
    let from : c.self.inside.counters.oldest_multi ≤ c.args.multi = ge_from_not_lt _ _ (sym c.lt.ensures ∙ c.if-lt.false) in
    let limit : c.least_pinned-limit.result ≡ pin_limit c.self.inside.base.multi c.self.inside.events.items =
    c.least_pinned-limit.ensures (pins c.self.inside.events.items) inv.tally
    ∙ ap (λ (k : Counters). fold min k.multi (map (λ (p : Pin). p.1) (pins c.self.inside.events.items))) inv.counters_are in
    let to : c.args.multi ≤ pin_limit c.self.inside.base.multi c.self.inside.events.items = subst (λ m. c.args.multi ≤ m) limit (ge_from_not_lt _ _ (sym c.lt-2.ensures ∙ c.if-lt-2.false)) in
    let old : oldest_of c.args.self.now ≤ c.args.multi = subst (λ m. m ≤ c.args.multi) (ap (λ (k : Counters). k.oldest_multi) inv.counters_are ∙ ap oldest_of c.self.view_is) from in
    let low : c.args.multi ≤ limit_of c.args.self.now = subst (λ m. c.args.multi ≤ m) (ap limit_of c.self.view_is) to in
    let begins : BeginsAt c.self.inside.base (InBase c.self.inside.base) c.self.inside.events.items c.args.multi c.args.offset =
    subst (λ (g : Generator). Begins g c.args.multi c.args.offset) (sym c.self.view_is) (c.requires old low) in (
      rw (c.push_reserved.ensures.items, c.in_ok-make_room.ensures.items, c.of.ensures) (state_raised _ _ c.args.by c.args.multi c.args.offset _ _ _ _ inv from to begins),
      omega (arith, c.push_reserved.ensures.len, c.push_reserved.ensures.capacity, c.in_ok-make_room.ensures.room),
    )
