use Rattle.std.proofs.Common.{refl, sym, ap, ◌∙◌, drop, length, ◌+◌}
use Rattle.std.proofs.lemmas.List.{take_rest}
use Rattle.report_read.specs.Item as items
use Rattle.report_read.specs.Grammar.{may_stand}
use Rattle.report_read.proofs.Standing.{plain_taken}
use Rattle.report_read.proofs.take.take_log_line.Goals as goal

pub returns-in_ok-add_record-in-Some-clause-taken : goal.returns-in_ok-add_record-in-Some-clause-taken
returns-in_ok-add_record-in-Some-clause-taken c =
    let t = c.args.told.now in
    let s = c.in-Some in
    let x = items.logged (t.start.from + length t.recs) s.rec in
    let f = c.in_ok-rec.ensures in
    plain_taken t x _ (drop 1 c.args.line.now) (ap (may_stand x) c.requires.stage) (rw s.is at f.rule) (sym (take_rest c.args.line.now 1) ∙ (rw s.is at f.text)) refl c.in_ok-add_record-in-Some.ensures.ok
