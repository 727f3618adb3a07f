use Rattle.std.proofs.Common.{List, refl, sym, ap, ◌∙◌, drop}
use Rattle.std.proofs.lemmas.List.{take_rest}
use Rattle.tx_events.specs.declared.event.Event.{Event}
use Rattle.tx_events.specs.declared.multi.MultiEvent.{MultiEvent}
use Rattle.report_read.specs.Item as items
use Rattle.report_read.specs.Grammar.{after, may_stand, multis_line}
use Rattle.report_read.specs.Taking.{second_word}
use Rattle.report_read.proofs.Standing.{cannot, event_cannot, event_taken, event_unnamed, event_unread, event_within, if_err, is_text, none_history, not_text, plain_taken, refuse, unread_none, word_none, words_in}
use Rattle.report_read.proofs.take.take_event.Goals as goal

pub returns-then-is_multis-clause-taken : goal.returns-then-is_multis-clause-taken
returns-then-is_multis-clause-taken c =
    let t = c.args.told.now in
    plain_taken t items.multis _ (drop 1 c.args.line.now) (ap (may_stand items.multis) c.requires.stage) refl (is_text (drop 1 c.args.line.now) multis_line c.is_multis.result (rw (take_rest c.args.line.now 1) at c.is_multis.ensures) c.if-is_multis.true) refl
    (ap (λ (es : List MultiEvent). record (after t items.multis) { multis = es }) c.new.ensures)

pub returns-in_err-name-clause-refused : goal.returns-in_err-name-clause-refused
returns-in_err-name-clause-refused c =
    let t = c.args.told.now in
    let l = c.args.line.now in
    if_err c.from_residual.result _ _ c.from_residual.ensures.1 (λ u q. refuse u t (drop 1 l) (λ f.
    none_history t (drop 1 l) c.requires.stage (not_text (drop 1 l) multis_line c.is_multis.result (rw (take_rest l 1) at c.is_multis.ensures) c.if-is_multis.false)
    (event_unnamed t l c.requires.some (word_none c.in_err-name.field-0.0 (second_word (words_in l)) (sym q ∙ f) c.in_err-name.ensures))))

pub returns-in_err-place-clause-refused : goal.returns-in_err-place-clause-refused
returns-in_err-place-clause-refused c =
    let t = c.args.told.now in
    let l = c.args.line.now in
    let w = c.in_ok-name.name.now in
    if_err c.from_residual-in_err-place.result _ _ c.from_residual-in_err-place.ensures.1 (λ u q. refuse u t (drop 1 l) (λ f.
    none_history t (drop 1 l) c.requires.stage (not_text (drop 1 l) multis_line c.is_multis.result (rw (take_rest l 1) at c.is_multis.ensures) c.if-is_multis.false)
    (event_cannot t l w c.requires.some c.in_ok-name.ensures (cannot c.in_err-place.field-0.0 t.names w (sym q ∙ f) c.in_err-place.ensures.refused))))

pub returns-in_err-event-clause-refused : goal.returns-in_err-event-clause-refused
returns-in_err-event-clause-refused c =
    let t = c.args.told.now in
    let l = c.args.line.now in
    let w = c.in_ok-name.name.now in
    if_err c.from_residual-in_err-event.result _ _ c.from_residual-in_err-event.ensures.1 (λ u q. refuse u t (drop 1 l) (λ f.
    none_history t (drop 1 l) c.requires.stage (not_text (drop 1 l) multis_line c.is_multis.result (rw (take_rest l 1) at c.is_multis.ensures) c.if-is_multis.false)
    (event_unread t l w c.note.new.names c.requires.some c.in_ok-name.ensures c.in_ok-place.ensures.noted (λ e i. unread_none {X = Event} c.in_err-event.field-0.0 e (sym q ∙ f) (c.in_err-event.ensures.only e i)))))

pub returns-clause-taken : goal.returns-clause-taken
returns-clause-taken c =
    let t = c.args.told.now in
    let e = c.in_ok-event.event in
    event_taken t c.args.line.now c.in_ok-name.name.now c.note.new.names e _ c.requires.stage c.requires.some c.in_ok-name.ensures c.in_ok-place.ensures.noted c.in_ok-place.ensures.few c.in_ok-event.ensures.found (event_within c.note.new.names e)
    (ap (λ (es : List Event). record t { names = c.note.new.names; events = es }) c.in_ok-push.ensures.ok)
