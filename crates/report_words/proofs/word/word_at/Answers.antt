use Rattle.std.proofs.lemmas.List.{take_rest}
use Rattle.report_words.proofs.Splits.{word_splits}
use Rattle.report_words.proofs.word.word_at.Goals as goal

pub returns-in-len1-up-clause-value : goal.returns-in-len1-up-clause-value
returns-in-len1-up-clause-value c = word_splits c.args.rest.now _ c.split_at.result.0.now c.split_at.result.1.now c.word_len.result c.in-len1-up.len_at_least (take_rest c.args.rest.now 1) c.word_len.ensures.value c.split_at.ensures.front c.split_at.ensures.back
