use Rattle.std.proofs.Common.{◌∙◌, ap, arith, drop, rules}
use Rattle.script_lines.proofs.WordLemmas.{first_word, no_word, not_empty}
use Rattle.script_lines.proofs.word.next_word.Goals as goal

pub returns-then-is_empty-clause-none : goal.returns-then-is_empty-clause-none
returns-then-is_empty-clause-none c =
    no_word c.args.line.now c.split_at.result.1.now (c.split_at.ensures.back ∙ ap (λ n. drop n c.args.line.now) c.blanks.ensures.value) (search rules)

pub returns-clause-some : goal.returns-clause-some
returns-clause-some c =
    (first_word c.args.line.now c.split_at.result.1.now c.split_at-2.result.0.now c.split_at-2.result.1.now c.word_len.result (c.split_at.ensures.back ∙ ap (λ n. drop n c.args.line.now) c.blanks.ensures.value) (not_empty c.split_at.result.1.now c.is_empty.result c.is_empty.ensures c.if-is_empty.false) c.word_len.ensures.value c.split_at-2.ensures.front c.split_at-2.ensures.back).words

pub returns-clause-word : goal.returns-clause-word
returns-clause-word c =
    (first_word c.args.line.now c.split_at.result.1.now c.split_at-2.result.0.now c.split_at-2.result.1.now c.word_len.result (c.split_at.ensures.back ∙ ap (λ n. drop n c.args.line.now) c.blanks.ensures.value) (not_empty c.split_at.result.1.now c.is_empty.result c.is_empty.ensures c.if-is_empty.false) c.word_len.ensures.value c.split_at-2.ensures.front c.split_at-2.ensures.back).some

pub returns-clause-shorter : goal.returns-clause-shorter
returns-clause-shorter c =
    let some = (first_word c.args.line.now c.split_at.result.1.now c.split_at-2.result.0.now c.split_at-2.result.1.now c.word_len.result (c.split_at.ensures.back ∙ ap (λ n. drop n c.args.line.now) c.blanks.ensures.value) (not_empty c.split_at.result.1.now c.is_empty.result c.is_empty.ensures c.if-is_empty.false) c.word_len.ensures.value c.split_at-2.ensures.front c.split_at-2.ensures.back).some in
    let behind = c.split_at-2.ensures.back_len in
    let front = c.split_at-2.ensures.front_len in
    let rest = c.split_at.ensures.back_len in
    omega arith
