use Rattle.std.proofs.Common.{take, arith}
use Rattle.std.proofs.lemmas.List.{take_rest}
use Rattle.report_text.specs.ReportText.{title_text}
use Rattle.report_read.proofs.Reading.{title_behind, title_front, title_short}
use Rattle.report_read.proofs.Standing.{is_text, not_text}
use Rattle.report_read.proofs.read.behind_title.Goals as goal

pub returns-then-bytes-lt14-clause-none : goal.returns-then-bytes-lt14-clause-none
returns-then-bytes-lt14-clause-none c = title_short c.args.bytes.now c.if-bytes-lt14.true

pub returns-then-not-is_title-clause-none : goal.returns-then-not-is_title-clause-none
returns-then-not-is_title-clause-none c = λ e. not_text (take 14 c.args.bytes.now) title_text c.is_title.result c.is_title.ensures c.if-not-is_title.true (title_front c.args.bytes.now e)

pub returns-clause-some : goal.returns-clause-some
returns-clause-some c =
    let l = c.if-bytes-lt14.false in
    title_behind c.args.bytes.now _ (omega arith) (is_text (take 14 c.args.bytes.now) title_text c.is_title.result c.is_title.ensures c.if-not-is_title.false) (take_rest c.args.bytes.now 13)
