use Rattle.std.proofs.Common.{◌≡◌, List, ap, sym, subst, ◌∙◌}
use Rattle.tx_events.specs.declared.multi.MultiEvent.{MultiEvent}
use Rattle.tx_events.specs.declared.record.Counters.{Counters}
use Rattle.tx_events.specs.Multis.{MultiMayCome}
use Rattle.multi_store.specs.Generator.{Adds, Generator}
use Rattle.history_places.specs.declared.start.Start.{Start}
use Rattle.history_places.specs.MultiTold.{MultiReplayed, with_event}
use Rattle.history_places.specs.Starts.{BeginsAs, IsAmiss, IsWellBegun}
use Rattle.history_places.proofs.Along.{came, multi_after}
use Rattle.history_places.proofs.Beginning.{amiss_never, as_begun, in_base}
use Rattle.history_places.proofs.multis.MultiPlaces.add.Goals as goal

pub returns-then-is_amiss-clause-refused : goal.returns-then-is_amiss-clause-refused
returns-then-is_amiss-clause-refused c = λ no. (
  λ m.
      let inside = subst (λ (s : MultiReplayed). MultiMayCome s.base (BeginsAs s.starts) s.events c.args.event.now) (sym c.self.view_is) m in
      let same : c.args.starts.now ≡ c.self.inside.starts.value = c.requires ∙ sym (ap (λ (s : MultiReplayed). s.starts) c.self.view_is) in
      let amiss = subst (λ k. IsAmiss k c.self.inside.starts.value c.args.event.now) c.self.invariant.0 (subst (λ (t : List Start). IsAmiss c.self.inside.first t c.args.event.now) same (c.is_amiss.ensures.amiss c.if-is_amiss.true)) in
      amiss_never c.self.inside.multis.base c.self.inside.starts.value c.self.inside.multis.events c.args.event.now amiss inside,
  c.self.view_is,
)

pub returns-then-not-branch-clause-refused : goal.returns-then-not-branch-clause-refused
returns-then-not-branch-clause-refused c = λ no. (
  λ m.
      let inside = subst (λ (s : MultiReplayed). MultiMayCome s.base (BeginsAs s.starts) s.events c.args.event.now) (sym c.self.view_is) m in
      c.in_ok-add_multi.ensures.refused c.if-not-branch.true
      (in_base c.self.inside.multis.base c.self.inside.starts.value c.self.invariant.1.fits c.self.inside.multis.events c.args.event.now c.self.invariant.1.legal inside),
  ap (λ (g : Generator). viewed g c.self.inside.starts.value) (c.in_ok-add_multi.ensures.same c.if-not-branch.true) ∙ c.self.view_is,
)
  where
    viewed : Generator → List Start → MultiReplayed
    viewed g starts = record { base = g.base; starts = starts; events = g.events }

pub invariant_of-self-2 : goal.invariant_of-self-2
invariant_of-self-2 c =
    let adds : Adds c.self.inside.multis c.add_multi.new.multis c.args.event.now = c.in_ok-add_multi.ensures.added c.if-not-branch.false in
    let same : c.args.starts.now ≡ c.self.inside.starts.value = c.requires ∙ sym (ap (λ (s : MultiReplayed). s.starts) c.self.view_is) in
    let well = subst (λ (t : List Start). IsWellBegun c.self.inside.first t c.args.event.now) same (c.is_amiss.ensures.well c.if-is_amiss.false) in (
      c.self.invariant.0 ∙ sym (ap (λ (b : Counters). b.multi) adds.base),
      multi_after c.self.inside.multis c.add_multi.new.multis c.self.inside.starts.value c.self.inside.first c.args.event.now c.row_of-row.result
          c.self.inside.nexts.items c.self.inside.firsts.items c.self.inside.oldests.items c.self.inside.stops.items c.self.inside.member_stops.items
          c.make_one_room.new.items.items c.make_one_room-2.new.items.items c.make_one_room-3.new.items.items c.make_one_room-4.new.items.items c.make_one_room-5.new.items.items
          c.push_reserved.new.self.items c.push_reserved-2.new.self.items c.push_reserved-3.new.self.items c.push_reserved-4.new.self.items c.push_reserved-5.new.self.items
          c.self.invariant.1 c.self.invariant.0 well adds c.row_of-row.ensures.row c.row_of-row.ensures.legal
          c.make_one_room.ensures.items c.make_one_room-2.ensures.items c.make_one_room-3.ensures.items c.make_one_room-4.ensures.items c.make_one_room-5.ensures.items
          c.push_reserved.ensures.items c.push_reserved-2.ensures.items c.push_reserved-3.ensures.items c.push_reserved-4.ensures.items c.push_reserved-5.ensures.items,
    )

pub returns-clause-added : goal.returns-clause-added
returns-clause-added c = λ yes.
    let adds : Adds c.self.inside.multis c.add_multi.new.multis c.args.event.now = c.in_ok-add_multi.ensures.added c.if-not-branch.false in
    let same : c.args.starts.now ≡ c.self.inside.starts.value = c.requires ∙ sym (ap (λ (s : MultiReplayed). s.starts) c.self.view_is) in
    let well = subst (λ (t : List Start). IsWellBegun c.self.inside.first t c.args.event.now) same (c.is_amiss.ensures.well c.if-is_amiss.false) in
    let may = as_begun c.self.inside.multis.base c.self.inside.starts.value c.self.inside.multis.events c.args.event.now (subst (λ k. IsWellBegun k c.self.inside.starts.value c.args.event.now) c.self.invariant.0 well)
    (came c.self.inside.multis c.add_multi.new.multis c.args.event.now adds c.row_of-row.ensures.legal) in (
      subst (λ (s : MultiReplayed). MultiMayCome s.base (BeginsAs s.starts) s.events c.args.event.now) c.self.view_is may,
      ap (λ (b : Counters). told b c.self.inside.starts.value c.add_multi.new.multis.events) adds.base
          ∙ ap (λ (h : List MultiEvent). told c.self.inside.multis.base c.self.inside.starts.value h) adds.events
          ∙ ap (λ (s : MultiReplayed). with_event s c.args.event.now) c.self.view_is,
    )
  where
    told : Counters → List Start → List MultiEvent → MultiReplayed
    told b starts h = record { base = b; starts = starts; events = h }
