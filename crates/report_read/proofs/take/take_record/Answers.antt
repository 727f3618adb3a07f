use Rattle.std.proofs.Common.{refl, sym, ap, ◌∙◌, subst, drop, arith}
use Rattle.std.proofs.lemmas.List.{take_rest}
use Rattle.report_text.specs.ReportText.{end_text}
use Rattle.report_words.specs.Texts.{IsLineOf, record_line}
use Rattle.report_read.specs.Item as items
use Rattle.report_read.specs.Grammar.{may_stand}
use Rattle.report_read.specs.declared.told.Told.{Told}
use Rattle.tx_events.specs.declared.record.Rec.{Rec}
use Rattle.tx_model.specs.declared.report.How.{How}
use Rattle.report_words.specs.Fits.{FitsRecord}
use Rattle.report_read.specs.declared.told.Stage.TheVariants as stages
use Rattle.report_read.proofs.Standing.{if_err, is_text, none_log, none_some, not_text, plain_taken, refuse, unread_none}
use Rattle.report_read.proofs.take.take_record.Goals as goal

pub returns-then-is_end-clause-taken : goal.returns-then-is_end-clause-taken
returns-then-is_end-clause-taken c =
    let t = c.args.told.now in
    plain_taken t items.last _ (drop 1 c.args.line.now) (ap (may_stand items.last) c.requires.stage) refl (is_text (drop 1 c.args.line.now) end_text c.is_end.result (rw (take_rest c.args.line.now 1) at c.is_end.ensures) c.if-is_end.true) refl
    (ap (λ (q : Told). record q { stage = stages.Closed }) c.in_ok-end_life.ensures)

pub returns-in-Some-clause-taken : goal.returns-in-Some-clause-taken
returns-in-Some-clause-taken c =
    let t = c.args.told.now in
    let x = items.crash c.in-Some.how in
    plain_taken t x _ (drop 1 c.args.line.now) (ap (may_stand x) c.requires.stage) refl (rw (take_rest c.args.line.now 1) at c.in-Some.ensures.found) refl
    (ap (λ (q : Told). record q { stage = stages.Between }) c.in_ok-end_life-2.ensures)

pub returns-in-None-clause-refused : goal.returns-in-None-clause-refused
returns-in-None-clause-refused c =
    let t = c.args.told.now in
    let l = c.args.line.now in
    none_log t (drop 1 l) c.requires.stage (not_text (drop 1 l) end_text c.is_end.result (rw (take_rest l 1) at c.is_end.ensures) c.if-is_end.false)
    (λ h e. none_some {X = How} h (c.in_default.ensures.only h (take_rest l 1 ∙ e)))
    (λ r k i. let n = c.in-None.ensures.none in absurd (omega arith))

pub returns-in_err-rec-in-Some-next_number-clause-refused : goal.returns-in_err-rec-in-Some-next_number-clause-refused
returns-in_err-rec-in-Some-next_number-clause-refused c =
    let t = c.args.told.now in
    let l = c.args.line.now in
    let n = c.in-Some-next_number.ensures.some in
    if_err c.from_residual-in_err-rec-in-Some-next_number.result _ _ c.from_residual-in_err-rec-in-Some-next_number.ensures.1 (λ u q. refuse u t (drop 1 l) (λ f.
    none_log t (drop 1 l) c.requires.stage (not_text (drop 1 l) end_text c.is_end.result (rw (take_rest l 1) at c.is_end.ensures) c.if-is_end.false)
    (λ h e. none_some {X = How} h (c.in_default.ensures.only h (take_rest l 1 ∙ e)))
    (λ r k i. unread_none {X = Rec} c.in_err-rec-in-Some-next_number.field-0.0 r (sym q ∙ f) (c.in_err-rec-in-Some-next_number.ensures.only r (subst (λ j. IsLineOf (FitsRecord j) (record_line j) (drop 1 l) r) (sym n) i)))))

pub returns-in_ok-add_record-in-Some-next_number-clause-taken : goal.returns-in_ok-add_record-in-Some-next_number-clause-taken
returns-in_ok-add_record-in-Some-next_number-clause-taken c =
    let t = c.args.told.now in
    let n = c.in-Some-next_number.number in
    let r = c.in_ok-rec-in-Some-next_number.rec in
    let x = items.logged n r in
    let found = c.in_ok-rec-in-Some-next_number.ensures.found in
    plain_taken t x _ (drop 1 c.args.line.now) (ap (may_stand x) c.requires.stage) (refl, c.in-Some-next_number.ensures.some, omega arith, found.fit) found.text refl
    c.in_ok-add_record-in-Some-next_number.ensures.ok
