use Rattle.std.proofs.Common.{◌∙◌, sym}
use Rattle.session_lang.proofs.FirstWord.{body_refused, end_refused, header_refused}
use Rattle.session_lang.proofs.parser.reading.Reading.refusal_of.Goals as goal

pub returns-then-is_header_line : goal.returns-then-is_header_line
returns-then-is_header_line c =
    header_refused c.args.self.now.front c.args.number c.args.line.now c.requires.faulty (sym c.is_header_line.ensures ∙ c.if-is_header_line.true)

pub returns-in-Ok : goal.returns-in-Ok
returns-in-Ok c =
    body_refused c.args.self.now.front _ c.args.number c.args.line.now c.requires.faulty (sym c.is_header_line.ensures ∙ c.if-is_header_line.false) c.in-Ok.ensures.adds

pub returns-in-Err : goal.returns-in-Err
returns-in-Err c =
    end_refused c.args.self.now.front c.args.number c.args.line.now c.in-Err.refusal c.requires.faulty (sym c.is_header_line.ensures ∙ c.if-is_header_line.false) c.in-Err.ensures.adds
