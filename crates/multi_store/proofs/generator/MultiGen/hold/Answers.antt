use Rattle.std.proofs.Common.{◌≡◌, refl, sym, ◌∙◌, subst, ap, arith, rules, ◌<◌, ◌≤◌, ◌==◌, eqb-true}
use Rattle.tx_events.specs.Ids.{next_multi}
use Rattle.tx_events.proofs.ListSteps.{eqb-refl}
use Rattle.tx_events.specs.Multis.{pins}
use Rattle.tx_events.specs.declared.record.Counters.{Counters}
use Rattle.multi_store.specs.Generator.{oldest_of, next_of}
use Rattle.multi_store.proofs.States.{state_held, state_same}
use Rattle.multi_store.proofs.generator.MultiGen.hold.Goals as goal

pub invariant_of-self-in_err-add_pin : goal.invariant_of-self-in_err-add_pin
invariant_of-self-in_err-add_pin c =
    let inv = c.self.invariant.0 in (
      rw c.in_ok-make_room.ensures.items (state_same _ _ _ _ _ _ _ inv (c.in_err-add_pin.ensures.same (pins c.self.inside.events.items) inv.tally)),
      omega (arith, c.in_ok-make_room.ensures.len, c.in_ok-make_room.ensures.capacity, c.self.invariant.1),
    )

pub invariant_of-self-2 : goal.invariant_of-self-2
invariant_of-self-2 c =
    let inv = c.self.invariant.0 in
    let from : c.self.inside.counters.oldest_multi ≤ c.in_ok-multi.multi = subst (λ m. m ≤ c.in_ok-multi.multi) (sym (ap (λ (k : Counters). k.oldest_multi) inv.counters_are ∙ ap oldest_of c.self.view_is)) c.in_ok-multi.ensures.not_older in
    let to : c.in_ok-multi.multi < c.self.inside.counters.multi = subst (λ m. c.in_ok-multi.multi < m) (sym (ap (λ (k : Counters). k.multi) inv.counters_are ∙ ap next_of c.self.view_is)) c.in_ok-multi.ensures.given in (
      rw (c.push_reserved.ensures.items, c.in_ok-make_room.ensures.items, c.of.ensures)
          (state_held _ _ c.args.by c.in_ok-multi.multi _ _ _ _ _ inv from to (c.in_ok-add_pin.ensures.more (pins c.self.inside.events.items) inv.tally)),
      omega (arith, c.push_reserved.ensures.len, c.push_reserved.ensures.capacity, c.in_ok-make_room.ensures.room),
    )

pub returns : goal.returns
returns c =
    let same : c.eq.result ≡ (c.advance.result == c.self.inside.counters.multi) = c.eq.ensures in
    let up : c.advance.result ≡ next_multi c.in_ok-multi.multi = c.advance.ensures.value in
    let next : c.self.inside.counters.multi ≡ next_of c.args.self.now = ap (λ (k : Counters). k.multi) c.self.invariant.0.counters_are ∙ ap next_of c.self.view_is in
    record {
      meant = search rules;
      last = (λ e. sym up ∙ eqb-true _ _ (sym same ∙ e) ∙ next, λ e. same ∙ ap (λ n. n == c.self.inside.counters.multi) (up ∙ e ∙ sym next) ∙ eqb-refl c.self.inside.counters.multi);
      end = search rules;
      start = search rules;
      most = search rules;
      adds = search rules;
    }
