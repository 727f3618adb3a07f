use Rattle.std.proofs.Common.{◌++◌, map, refl, ap, sym, ◌∙◌}
use Rattle.tx_events.specs.declared.event.Event.{Event}
use Rattle.tx_events.specs.declared.event.Event.TheVariants as events
use Rattle.history_places.specs.IdMarks.{mark_of, noted}
use Rattle.history_places.proofs.Noting.{note_given, note_other}
use Rattle.history_places.proofs.mark.note.Goals as goal

pub returns-in_ok-push-in-Id : goal.returns-in_ok-push-in-Id
returns-in_ok-push-in-Id c =
    note_given c.args.place (events.Id c.in-Id.by c.in-Id.id) c.args.marks.now.items _ _ tt c.in_ok-push-in-Id.ensures.items refl
    ∙ ap (λ (e : Event). map (noted c.args.place e) c.args.marks.now.items ++ mark_of c.args.place e) (sym c.in-Id.is)

pub returns-in_ok-push-in-Sub : goal.returns-in_ok-push-in-Sub
returns-in_ok-push-in-Sub c =
    note_given c.args.place (events.Sub c.in-Sub.by c.in-Sub.parent c.in-Sub.id) c.args.marks.now.items _ _ tt c.in_ok-push-in-Sub.ensures.items refl
    ∙ ap (λ (e : Event). map (noted c.args.place e) c.args.marks.now.items ++ mark_of c.args.place e) (sym c.in-Sub.is)

pub returns-in_default : goal.returns-in_default
returns-in_default c = note_other c.args.place c.args.event.now c.args.marks.now.items c.in_default.not-Id c.in_default.not-Sub c.in_default.not-Undo c.in_default.not-Commit c.in_default.not-Abort
