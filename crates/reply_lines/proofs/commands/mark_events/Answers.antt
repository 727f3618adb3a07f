use Rattle.std.proofs.Common.{◌∙◌, List, [], refl, subst}
use Rattle.std.proofs.lemmas.Bool.{false≢true}
use Rattle.tx_events.specs.declared.event.Event.{Event}
use Rattle.event_rules.specs.Told.{AreMarked}
use Rattle.reply_lines.specs.At.{before_at}
use Rattle.reply_lines.proofs.Pushing.{marked_more, none_told, told_none, told_some}
use Rattle.reply_lines.proofs.commands.mark_events.Goals as goal

pub returns-in-Some-clause-has : goal.returns-in-Some-clause-has
returns-in-Some-clause-has g c =
    let t = told_some g.at.j (before_at g.at) c.args.line.now c.args.session.now.standing c.as_slice.result.now c.in_ok-events.field-0 c.in-Some.events c.requires.1.1.1.0.stands (c.as_slice.ensures.value ∙ c.in_ok-own.ensures) c.in-Some.is c.in_ok-events.ensures.some in
    (λ y. (c.in-Some.events.items, t.0), λ y. refl)

pub returns-in-Some-clause-told : goal.returns-in-Some-clause-told
returns-in-Some-clause-told g c =
    let r = c.requires in
    let line = c.args.line.now in
    let t = told_some g.at.j (before_at g.at) line c.args.session.now.standing c.as_slice.result.now c.in_ok-events.field-0 c.in-Some.events r.1.1.1.0.stands (c.as_slice.ensures.value ∙ c.in_ok-own.ensures) c.in-Some.is c.in_ok-events.ensures.some in
    let marked = subst (λ (told : List Event). AreMarked c.args.told.now.items c.mark_told.new.marks.items c.as_slice-in-Some.result.now told) c.as_slice-in-Some-2.ensures.value c.in_ok-mark_told-in-Some.ensures in
    marked_more g.at line c.args.number c.args.told.now.items c.mark_told.new.marks.items c.as_slice-in-Some.result.now c.in-Some.events.items r.1.1.0 r.1.0.order (c.as_slice-in-Some.ensures.value ∙ c.in_ok-own.ensures) r.1.1.1.1 t.1 marked

pub returns-clause-has : goal.returns-clause-has
returns-clause-has g c =
    let n = told_none g.at.j (before_at g.at) c.args.line.now c.args.session.now.standing c.as_slice.result.now c.in_ok-events.field-0 c.requires.1.1.1.0.stands (c.as_slice.ensures.value ∙ c.in_ok-own.ensures) c.in-None.is c.in_ok-events.ensures.none in
    (λ y. absurd (false≢true y), λ f. absurd (n f.0 f.1))

pub returns-clause-told : goal.returns-clause-told
returns-clause-told g c =
    let r = c.requires in
    let line = c.args.line.now in
    let n = told_none g.at.j (before_at g.at) line c.args.session.now.standing c.as_slice.result.now c.in_ok-events.field-0 r.1.1.1.0.stands (c.as_slice.ensures.value ∙ c.in_ok-own.ensures) c.in-None.is c.in_ok-events.ensures.none in
    marked_more g.at line c.args.number c.args.told.now.items c.mark_told-in-None.new.marks.items c.as_slice-in-None.result.now [] r.1.1.0 r.1.0.order (c.as_slice-in-None.ensures.value ∙ c.in_ok-own.ensures) r.1.1.1.1 (none_told g.at.j (before_at g.at) line n)
    c.in_ok-mark_told-in-None.ensures
