use Rattle.std.proofs.Common.{◌≡◌, ℕ, List, ◌∙◌, ◌+◌, refl, sym, subst, drop, arith}
use Rattle.std.proofs.lemmas.Bool.{false≢true}
use Rattle.tx_model.specs.declared.report.LifeReport.{LifeReport}
use Rattle.tx_model.specs.declared.report.Report.{Report}
use Rattle.report_text.specs.ReportText.{report_text}
use Rattle.report_read.specs.Reports.{IsReport}
use Rattle.report_read.specs.declared.told.Told.{Told}
use Rattle.report_read.proofs.Reading.{WholeReport, all_read, longer, no_title, not_a_report, one_more, one_report, title_read, title_room, wrong_end, wrong_line}
use Rattle.report_read.proofs.Standing.{refused}
use Rattle.report_read.proofs.read.read_report.Goals as goal

pub returns-in-None-clause-wrong : goal.returns-in-None-clause-wrong
returns-in-None-clause-wrong c = no_title c.args.bytes.now c.in-None.ensures.none

pub returns-in-None-clause-read : goal.returns-in-None-clause-read
returns-in-None-clause-read c = not_a_report c.args.bytes.now 1 (no_title c.args.bytes.now c.in-None.ensures.none)

pub loop-line-init : goal.loop-line-init
loop-line-init c =
    let some = c.in-Some.ensures.some in
    record {
      so_far = title_read c.args.bytes.now (drop 1 c.in-Some.rest.now) c.titled-told.result c.titled-told.ensures some.0;
      some = some.1;
      room = title_room c.args.bytes.now c.in-Some.rest.now some.0 some.1;
    }

pub returns-in-Err-Form-clause-wrong : goal.returns-in-Err-Form-clause-wrong
returns-in-Err-Form-clause-wrong c =
    let i = c.loop-line.invariant in
    let a = i.some in
    let b = i.room in
    wrong_line c.args.bytes.now c.loop-line.told c.loop-line.rest.now c.in-Some-next_line.line.now c.in-Some-next_line.after.now c.loop-line.count (c.loop-line.count + 1) i.so_far (omega arith) refl c.in-Some-next_line.ensures.some (refused c.in-Err-Form.field-0 c.loop-line.told (drop 1 c.in-Some-next_line.line.now) c.in-Err-Form.field-0-is c.in-Err-Form.ensures.refused)

pub returns-in-Err-Form-clause-read : goal.returns-in-Err-Form-clause-read
returns-in-Err-Form-clause-read c =
    let i = c.loop-line.invariant in
    let a = i.some in
    let b = i.room in
    not_a_report c.args.bytes.now (c.loop-line.count + 1) (wrong_line c.args.bytes.now c.loop-line.told c.loop-line.rest.now c.in-Some-next_line.line.now c.in-Some-next_line.after.now c.loop-line.count (c.loop-line.count + 1) i.so_far (omega arith) refl c.in-Some-next_line.ensures.some (refused c.in-Err-Form.field-0 c.loop-line.told (drop 1 c.in-Some-next_line.line.now) c.in-Err-Form.field-0-is c.in-Err-Form.ensures.refused))

pub loop-line-preserved : goal.loop-line-preserved
loop-line-preserved c =
    let i = c.loop-line.invariant in
    let k = c.in-Some-next_line.ensures.some in
    let s = k.shorter in
    let r = i.room in
    record {
      so_far = one_more c.args.bytes.now c.loop-line.told c.take.new.told (drop 1 c.loop-line.rest.now) (drop 1 c.in-Some-next_line.line.now) (drop 1 c.in-Some-next_line.after.now) c.loop-line.count i.so_far c.in-Ok.ensures.taken k.text;
      some = k.rest_some;
      room = omega arith;
    }

pub returns-then-not-is_whole-clause-wrong : goal.returns-then-not-is_whole-clause-wrong
returns-then-not-is_whole-clause-wrong c =
    let i = c.loop-line.invariant in
    let a = i.some in
    let b = i.room in
    wrong_end c.args.bytes.now c.loop-line.told c.loop-line.rest.now c.loop-line.count (c.loop-line.count + 1) i.so_far (omega arith) refl c.in_default.ensures.none (λ s. longer c.loop-line.rest.now (λ k. false≢true (sym c.if-not-is_whole.true ∙ c.is_whole.ensures.1 (s, k))))

pub returns-then-not-is_whole-clause-read : goal.returns-then-not-is_whole-clause-read
returns-then-not-is_whole-clause-read c =
    let i = c.loop-line.invariant in
    let a = i.some in
    let b = i.room in
    not_a_report c.args.bytes.now (c.loop-line.count + 1) (wrong_end c.args.bytes.now c.loop-line.told c.loop-line.rest.now c.loop-line.count (c.loop-line.count + 1) i.so_far (omega arith) refl c.in_default.ensures.none (λ s. longer c.loop-line.rest.now (λ k. false≢true (sym c.if-not-is_whole.true ∙ c.is_whole.ensures.1 (s, k)))))

abbrev report_of : List (List ℕ) → List LifeReport → Report
report_of names lives = record { names = names; lives = lives }

abbrev IsWhole : List ℕ → Report → Type 0
IsWhole bytes r = IsReport r × (bytes ≡ report_text r)

-- the lives that are handed on are those that were told
with_lives : (bytes : List ℕ) (t : Told) (lives : List LifeReport) → lives ≡ t.lives → WholeReport bytes t → IsWhole bytes (report_of t.names lives)
with_lives bytes t lives e r = subst (λ (k : List LifeReport). IsWhole bytes (report_of t.names k)) (sym e) (r.is, r.text)

pub returns-clause-found : goal.returns-clause-found
returns-clause-found c =
    let w = c.is_whole.ensures.0 c.if-not-is_whole.false in
    let t = c.loop-line.told in
    with_lives c.args.bytes.now t c.finish-lives.result c.finish-lives.ensures.items (all_read c.args.bytes.now t c.loop-line.rest.now c.loop-line.count c.loop-line.invariant.so_far w.1 w.0)

pub returns-clause-read : goal.returns-clause-read
returns-clause-read c =
    let w = c.is_whole.ensures.0 c.if-not-is_whole.false in
    let t = c.loop-line.told in
    let r = with_lives c.args.bytes.now t c.finish-lives.result c.finish-lives.ensures.items (all_read c.args.bytes.now t c.loop-line.rest.now c.loop-line.count c.loop-line.invariant.so_far w.1 w.0) in
    λ s i e. one_report _ s r.0 i (sym r.1 ∙ e)
