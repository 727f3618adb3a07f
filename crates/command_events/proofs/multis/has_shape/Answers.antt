use Rattle.std.proofs.Common.{◌≡◌, ◌↔◌, ⊎_elim, true, ℕ, sym, subst, map, ◌∙◌}
use Rattle.std.specs.List.{AllByRecursion}
use Rattle.tx_events.specs.Multis.{multi_by}
use Rattle.command_events.specs.declared.shape.Shape.{Shape}
use Rattle.command_events.specs.Reached.{MayBeMember}
use Rattle.command_events.specs.Shapes.{IsPinNear, begins_between, begins_raised}
use Rattle.place_columns.proofs.PlaceLists.{any_place}
use Rattle.report_law.proofs.Pinned.{pin_by}
use Rattle.command_events.proofs.Telling.{Has, between, gives, gives_this, pins, pins_near, raised, raises}
use Rattle.command_events.proofs.multis.has_shape.Goals as goal

pub returns-then-begins_given : goal.returns-then-begins_given
returns-then-begins_given g c =
    let own = c.args.own.now in
    let i = gives g.t c.args.reach c.requires.0 own (sym c.begins_given.ensures ∙ c.if-begins_given.true) in
    subst (λ (s : Shape). (c.may_be_given.result ≡ true) ↔ Has g.t s own) (sym c.in-Gives.is)
    (λ y. i.0 (subst (AllByRecursion (MayBeMember c.args.reach)) c.requires.1.1.1.1 (c.may_be_given.ensures.0 y)), λ z. c.may_be_given.ensures.1 (subst (AllByRecursion (MayBeMember c.args.reach)) (sym c.requires.1.1.1.1) (i.1 z)))

pub returns-then-begins_with : goal.returns-then-begins_with
returns-then-begins_with g c =
    let own = c.args.own.now in
    let may = c.may_be_given-then-begins_with in
    let i = gives_this g.t c.args.reach c.requires.0 c.in-GivesThis.multi c.in-GivesThis.offset own (sym c.begins_with.ensures ∙ c.if-begins_with.true) in
    subst (λ (s : Shape). (may.result ≡ true) ↔ Has g.t s own) (sym c.in-GivesThis.is)
    (λ y. i.0 (subst (AllByRecursion (MayBeMember c.args.reach)) c.requires.1.1.1.1 (may.ensures.0 y)), λ z. may.ensures.1 (subst (AllByRecursion (MayBeMember c.args.reach)) (sym c.requires.1.1.1.1) (i.1 z)))

pub returns-then-begins_pinned : goal.returns-then-begins_pinned
returns-then-begins_pinned g c =
    let own = c.args.own.now in
    let i = pins_near g.t c.in-PinsNear.m own (sym c.begins_pinned.ensures ∙ c.if-begins_pinned.true) in
    let any = any_place (λ (p : ℕ). (multi : ℕ) × IsPinNear g.t.base g.t.all g.t.by c.in-PinsNear.m.number multi p) g.t.by (map multi_by g.t.all) c.args.places.now c.requires.1.1.1.0 (λ p z. pin_by g.t.all g.t.by p z.1.0) in
    subst (λ (s : Shape). (c.is_near_a_pin.result ≡ true) ↔ Has g.t s own) (sym c.in-PinsNear.is)
    (λ y. i.0 (any.0 (c.is_near_a_pin.ensures.0 y)), λ z. c.is_near_a_pin.ensures.1 (any.1 (i.1 z)))

pub returns-in-Pins : goal.returns-in-Pins
returns-in-Pins g c =
    let own = c.args.own.now in
    let i = pins g.t c.in-Pins.multi own in
    let e = c.begins_pinned-in-Pins.ensures in
    subst (λ (s : Shape). (c.begins_pinned-in-Pins.result ≡ true) ↔ Has g.t s own) (sym c.in-Pins.is)
    (λ y. i.0 (sym e ∙ y), λ z. e ∙ i.1 z)

pub returns-then-begins_raised : goal.returns-then-begins_raised
returns-then-begins_raised g c =
    let own = c.args.own.now in
    let yes = c.if-begins_raised.true in
    subst (λ (s : Shape). (c.begins_raised.result ≡ true) ↔ Has g.t s own) (sym c.in-Raises.is)
    (λ y. raised g.t c.in-Raises.multi own (sym c.begins_raised.ensures ∙ y), λ z. yes)

pub returns-else-begins_raised : goal.returns-else-begins_raised
returns-else-begins_raised g c =
    let own = c.args.own.now in
    let e = c.begins_between.ensures in
    let none = c.if-begins_raised.false in
    let f = c.begins_raised.ensures in
    subst (λ (s : Shape). (c.begins_between.result ≡ true) ↔ Has g.t s own) (sym c.in-Raises.is)
    (λ y. between g.t c.in-Raises.multi own (sym e ∙ y), λ z. ⊎_elim (λ (b : begins_raised own ≡ true). absurd cc) (λ (b : begins_between own ≡ true). e ∙ b) (raises g.t c.in-Raises.multi own z))
