use Rattle.std.proofs.Common.{List, refl, sym, ap, ◌∙◌, drop}
use Rattle.tx_events.specs.declared.multi.MultiEvent.{MultiEvent}
use Rattle.report_read.specs.Item as items
use Rattle.report_read.specs.Grammar.{after, may_stand}
use Rattle.report_read.specs.Taking.{second_word}
use Rattle.tx_events.specs.declared.record.Rec.{Rec}
use Rattle.report_lines.specs.declared.life.LogHead.{LogHead}
use Rattle.report_read.proofs.Standing.{cannot, multi_cannot, multi_taken, multi_unnamed, multi_unread, multi_within, if_err, none_multis, plain_taken, refuse, unread_none, word_none, words_in}
use Rattle.report_read.proofs.take.take_multi.Goals as goal

pub returns-in-Ok-clause-taken : goal.returns-in-Ok-clause-taken
returns-in-Ok-clause-taken c =
    let t = c.args.told.now in
    let x = items.log c.in-Ok.head in
    plain_taken t x _ (drop 1 c.args.line.now) (ap (may_stand x) c.requires.stage) (refl, c.in-Ok.ensures.found.fit) c.in-Ok.ensures.found.text refl
    (ap (λ (rs : List Rec). record (after t x) { recs = rs }) c.new.ensures)

pub returns-in_err-name-clause-refused : goal.returns-in_err-name-clause-refused
returns-in_err-name-clause-refused c =
    let t = c.args.told.now in
    let l = c.args.line.now in
    if_err c.from_residual.result _ _ c.from_residual.ensures.1 (λ u q. refuse u t (drop 1 l) (λ f.
    none_multis t (drop 1 l) c.requires.stage (λ h i. unread_none {X = LogHead} c.in-Err-Form.field-0 h c.in-Err-Form.field-0-is (c.in-Err-Form.ensures.only h i))
    (multi_unnamed t l c.requires.some (word_none c.in_err-name.field-0.0 (second_word (words_in l)) (sym q ∙ f) c.in_err-name.ensures))))

pub returns-in_err-place-clause-refused : goal.returns-in_err-place-clause-refused
returns-in_err-place-clause-refused c =
    let t = c.args.told.now in
    let l = c.args.line.now in
    let w = c.in_ok-name.name.now in
    if_err c.from_residual-in_err-place.result _ _ c.from_residual-in_err-place.ensures.1 (λ u q. refuse u t (drop 1 l) (λ f.
    none_multis t (drop 1 l) c.requires.stage (λ h i. unread_none {X = LogHead} c.in-Err-Form.field-0 h c.in-Err-Form.field-0-is (c.in-Err-Form.ensures.only h i))
    (multi_cannot t l w c.requires.some c.in_ok-name.ensures (cannot c.in_err-place.field-0.0 t.names w (sym q ∙ f) c.in_err-place.ensures.refused))))

pub returns-in_err-event-clause-refused : goal.returns-in_err-event-clause-refused
returns-in_err-event-clause-refused c =
    let t = c.args.told.now in
    let l = c.args.line.now in
    let w = c.in_ok-name.name.now in
    if_err c.from_residual-in_err-event.result _ _ c.from_residual-in_err-event.ensures.1 (λ u q. refuse u t (drop 1 l) (λ f.
    none_multis t (drop 1 l) c.requires.stage (λ h i. unread_none {X = LogHead} c.in-Err-Form.field-0 h c.in-Err-Form.field-0-is (c.in-Err-Form.ensures.only h i))
    (multi_unread t l w c.note.new.names c.requires.some c.in_ok-name.ensures c.in_ok-place.ensures.noted (λ e i. unread_none {X = MultiEvent} c.in_err-event.field-0.0 e (sym q ∙ f) (c.in_err-event.ensures.only e i)))))

pub returns-clause-taken : goal.returns-clause-taken
returns-clause-taken c =
    let t = c.args.told.now in
    let e = c.in_ok-event.event in
    multi_taken t c.args.line.now c.in_ok-name.name.now c.note.new.names e _ c.requires.stage c.requires.some c.in_ok-name.ensures c.in_ok-place.ensures.noted c.in_ok-place.ensures.few c.in_ok-event.ensures.found (multi_within c.note.new.names e)
    (ap (λ (es : List MultiEvent). record t { names = c.note.new.names; multis = es }) c.in_ok-push.ensures.ok)
