use Rattle.std.proofs.Common.{◌≡◌, ◌<◌, length, ap, ◌∙◌, refl, arith}
use Rattle.tx_model.specs.declared.report.Life.{Life}
use Rattle.report_law.specs.Events.{IsLawfulEvent}
use Rattle.report_law.specs.ReportLines.{event}
use Rattle.report_check.proofs.Sections.{placed_broken, placed_next}
use Rattle.report_check.proofs.Judging.{all_placed, legal_so_far, never_true, there}
use Rattle.report_check.proofs.histories.walk_events.Goals as goal

pub is_lawful_event-requires : goal.is_lawful_event-requires
is_lawful_event-requires g c =
    let r = c.requires in
    let items : c.items.result.now ≡ g.j.life.events = c.items.ensures ∙ ap (λ (l : Life). l.events) r.0.life in
    let size : length c.items.result.now ≡ length g.j.life.events = ap length items in
    let within : c.loop-place.place < length g.j.life.events = let l : c.loop-place.place < length c.items.result.now = c.loop-place-test.true in omega arith in
    (r.0, (r.1.0, (r.1.1, (within, legal_so_far g.j c.loop-place.place c.loop-place.invariant))))

pub returns-then-not-is_lawful_event : goal.returns-then-not-is_lawful_event
returns-then-not-is_lawful_event g c =
    let items : c.items.result.now ≡ g.j.life.events = c.items.ensures ∙ ap (λ (l : Life). l.events) c.requires.0.life in
    let one = there g.j.life.events c.items.result.now c.loop-place.place (length c.items.result.now) items refl c.loop-place-test.true in
    placed_broken (event g.j) g.j.life.events c.loop-place.place one.0 c.loop-place.invariant one.1
    (never_true c.is_lawful_event.result (IsLawfulEvent g.j c.loop-place.place one.0) c.if-not-is_lawful_event.true (c.is_lawful_event.ensures one.0 one.1))

pub loop-place-preserved : goal.loop-place-preserved
loop-place-preserved g c =
    let items : c.items.result.now ≡ g.j.life.events = c.items.ensures ∙ ap (λ (l : Life). l.events) c.requires.0.life in
    let one = there g.j.life.events c.items.result.now c.loop-place.place (length c.items.result.now) items refl c.loop-place-test.true in
    placed_next (event g.j) g.j.life.events c.loop-place.place one.0 c.loop-place.invariant one.1 ((c.is_lawful_event.ensures one.0 one.1).0 c.if-not-is_lawful_event.false)

pub returns : goal.returns
returns g c =
    let items : c.items.result.now ≡ g.j.life.events = c.items.ensures ∙ ap (λ (l : Life). l.events) c.requires.0.life in
    all_placed (event g.j) g.j.life.events c.items.result.now c.loop-place.place (length c.items.result.now) items refl c.loop-place-test.false c.loop-place.invariant
