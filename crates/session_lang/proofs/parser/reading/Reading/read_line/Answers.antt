use Rattle.std.proofs.Common.{◌∙◌, ◌∷◌, sym, rules}
use Rattle.script_lines.specs.LineWords.{words_in}
use Rattle.session_lang.specs.Script.{header_words, words_line}
use Rattle.session_lang.proofs.FirstWord.{body_words_read, header_words_read}
use Rattle.session_lang.proofs.parser.reading.Reading.read_line.Goals as goal

pub returns-then-is_of_header-clause-adds : goal.returns-then-is_of_header-clause-adds
returns-then-is_of_header-clause-adds c =
    let f = c.args.self.now.front in let n = c.args.number in let w = c.in-Some.word.now in let ws = words_in c.in-Some.rest.now in
    rw (header_words_read f n c.args.line.now w ws (search rules) c.in-Some.ensures.some (sym c.is_comment.ensures ∙ c.if-is_comment.false) (sym c.is_of_header.ensures ∙ c.if-is_of_header.true))
    (c.at_line.ensures.told _ (header_words f n (w ∷ ws)) c.header_words.ensures.adds)

pub returns-clause-adds : goal.returns-clause-adds
returns-clause-adds c =
    let f = c.args.self.now.front in let n = c.args.number in let w = c.in-Some.word.now in let ws = words_in c.in-Some.rest.now in
    rw (body_words_read f _ n c.args.line.now w ws (search rules) c.in-Some.ensures.some (sym c.is_comment.ensures ∙ c.if-is_comment.false) (sym c.is_of_header.ensures ∙ c.if-is_of_header.false) c.in_ok-end_header.ensures.adds)
    (c.at_line-2.ensures.told _ (words_line _ (w ∷ ws)) c.words_line.ensures.adds)
