use Rattle.std.proofs.Common.{◌≡◌, ◌↔◌, ◌∷◌, [], true, Some, ℕ, sym, subst, map, ◌∙◌}
use Rattle.std.specs.List.{slice_get}
use Rattle.tx_events.specs.declared.event.By.{By}
use Rattle.tx_events.specs.declared.multi.MultiEvent.TheVariants as multis
use Rattle.tx_events.specs.Multis.{multi_by}
use Rattle.command_events.specs.declared.shape.Shape.{Shape}
use Rattle.command_events.specs.Shapes.{IsPinNear}
use Rattle.place_columns.proofs.PlaceLists.{any_place}
use Rattle.report_law.proofs.Pinned.{pin_by}
use Rattle.command_events.proofs.Telling.{HasAt, between_at, pins_at, pins_near_at, raised_at}
use Rattle.command_events.proofs.multis.is_of_shape.Goals as goal

pub returns-then-is_of_pin : goal.returns-then-is_of_pin
returns-then-is_of_pin g c =
    let own = c.args.own.now in
    let e = c.args.e.now in
    let m = c.in-PinsNear.m in
    let multi = c.multi_of-multi.result in
    let of = subst (λ (b : By). slice_get (multis.Hold b multi ∷ multis.Unhold b multi ∷ []) c.args.place ≡ Some e) c.requires.1.1.1.1.0 (c.is_of_pin.ensures.0 c.if-is_of_pin.true) in
    let i = pins_near_at g.t m own c.args.place multi e (sym c.begins_pinned.ensures ∙ c.if-not-begins_pinned.false) of c.multi_of-multi.ensures in
    let any = any_place (IsPinNear g.t.base g.t.all g.t.by m.number multi) g.t.by (map multi_by g.t.all) c.args.places.now c.requires.1.1.1.0 (λ p z. pin_by g.t.all g.t.by p z.0) in
    subst (λ (s : Shape). (c.is_near_pin.result ≡ true) ↔ HasAt g.t s own c.args.place e) (sym c.in-PinsNear.is)
    (λ y. i.0 (any.0 (c.is_near_pin.ensures.0 y)), λ z. c.is_near_pin.ensures.1 (any.1 (i.1 z)))

pub returns-then-begins_pinned : goal.returns-then-begins_pinned
returns-then-begins_pinned g c =
    let own = c.args.own.now in
    let e = c.args.e.now in
    let multi = c.in-Pins.multi in
    let s = c.is_of_pin-then-begins_pinned in
    let i = pins_at g.t multi own c.args.place e (sym c.begins_pinned-in-Pins.ensures ∙ c.if-begins_pinned.true) in
    let its = λ (b : By). slice_get (multis.Hold b multi ∷ multis.Unhold b multi ∷ []) c.args.place ≡ Some e in
    subst (λ (s : Shape). (c.is_of_pin-then-begins_pinned.result ≡ true) ↔ HasAt g.t s own c.args.place e) (sym c.in-Pins.is)
    (λ y. i.0 (subst its c.requires.1.1.1.1.0 (s.ensures.0 y)), λ z. s.ensures.1 (subst its (sym c.requires.1.1.1.1.0) (i.1 z)))

pub returns-then-begins_between : goal.returns-then-begins_between
returns-then-begins_between g c =
    let own = c.args.own.now in
    let e = c.args.e.now in
    let multi = c.in-Raises.multi in
    let i = between_at g.t multi own c.args.place e (sym c.begins_between.ensures ∙ c.if-begins_between.true) in
    let its = λ (b : By). (offset : ℕ) × (slice_get (multis.Hold b multi ∷ multis.Raise b multi offset ∷ multis.Unhold b multi ∷ []) c.args.place ≡ Some e) in
    subst (λ (s : Shape). (c.is_of_raise_between.result ≡ true) ↔ HasAt g.t s own c.args.place e) (sym c.in-Raises.is)
    (λ y. i.0 (subst its c.requires.1.1.1.1.0 (c.is_of_raise_between.ensures.0 y)), λ z. c.is_of_raise_between.ensures.1 (subst its (sym c.requires.1.1.1.1.0) (i.1 z)))

pub returns-then-begins_raised : goal.returns-then-begins_raised
returns-then-begins_raised g c =
    let own = c.args.own.now in
    let e = c.args.e.now in
    let multi = c.in-Raises.multi in
    let i = raised_at g.t multi own c.args.place e (sym c.begins_between.ensures ∙ c.if-begins_between.false) (sym c.begins_raised.ensures ∙ c.if-begins_raised.true) in
    let its = λ (b : By). (offset : ℕ) × (slice_get (multis.Raise b multi offset ∷ []) c.args.place ≡ Some e) in
    subst (λ (s : Shape). (c.is_of_raise.result ≡ true) ↔ HasAt g.t s own c.args.place e) (sym c.in-Raises.is)
    (λ y. i.0 (subst its c.requires.1.1.1.1.0 (c.is_of_raise.ensures.0 y)), λ z. c.is_of_raise.ensures.1 (subst its (sym c.requires.1.1.1.1.0) (i.1 z)))
