use Rattle.std.proofs.Common.{rules}
use Rattle.script_lines.proofs.WordLemmas.{not_empty}
use Rattle.session_lang.proofs.CutLemmas.{last_line, line_and_more, line_and_more_on}
use Rattle.session_lang.proofs.lines.next_line.Goals as goal

pub returns-then-is_empty-clause-lines : goal.returns-then-is_empty-clause-lines
returns-then-is_empty-clause-lines c =
    last_line c.args.bytes.now c.split_at.result.0.now c.split_at.result.1.now c.line_len-count.result.0 c.line_len-count.ensures.value c.split_at.ensures.front c.split_at.ensures.back (search rules)

pub returns-clause-lines : goal.returns-clause-lines
returns-clause-lines c =
    rw c.without_cr-tested.ensures.line (line_and_more c.args.bytes.now c.split_at.result.0.now c.split_at.result.1.now c.split_at-2.result.1.now c.line_len-count.result.0 c.line_len-count.ensures.value c.split_at.ensures.front c.split_at.ensures.back (not_empty c.split_at.result.1.now c.is_empty.result c.is_empty.ensures c.if-is_empty.false) c.split_at-2.ensures.back)

pub returns-clause-on : goal.returns-clause-on
returns-clause-on c ended more =
    rw c.without_cr-tested.ensures.line (line_and_more_on c.args.bytes.now c.split_at.result.0.now c.split_at.result.1.now c.split_at-2.result.1.now more c.line_len-count.result.0 c.line_len-count.ensures.value c.split_at.ensures.front c.split_at.ensures.back (not_empty c.split_at.result.1.now c.is_empty.result c.is_empty.ensures c.if-is_empty.false) c.split_at-2.ensures.back)
