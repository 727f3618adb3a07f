use Rattle.std.proofs.Common.{◌≡◌, ◌∙◌, ℕ, ◌++◌, List, [], ap, append-nil, subst, sym, Err}
use Rattle.session_lang.specs.declared.parser.reading.Front.{Front}
use Rattle.session_lang.specs.Answers.{ReadsAs}
use Rattle.session_lang.specs.Lines.{lines_of}
use Rattle.session_lang.specs.Script.{no_front, read_lines}
use Rattle.session_lang.proofs.WholeLemmas.{no_lines}
use Rattle.script_source.proofs.PieceLemmas.{last_read, last_refused, to_end}
use Rattle.script_source.proofs.reader.ScriptReader.finish.Goals as goal

pub returns-in-Err-clause-reads : goal.returns-in-Err-clause-reads
returns-in-Err-clause-reads c text few same =
    let r = c.args.self in
    let whole = ap (λ xs. read_lines r.reading.front r.number (lines_of xs)) (append-nil c.args.bytes.now) ∙ sym same in
    no_lines {X = Unit {0}} (λ _. no_front) text c.in-Err.refusal few (subst (λ read. ReadsAs {X = Unit {0}} {Y = Front} (λ _. no_front) (Err c.in-Err.refusal) read) whole (c.in-Err.ensures.refused []))

pub returns-in-Ok-read_line-clause-reads : goal.returns-in-Ok-read_line-clause-reads
returns-in-Ok-read_line-clause-reads c text few same =
    let r = c.args.self in let s = c.read_ended.new.self in let last = c.in-Ok.last.now in
    c.whole_script.ensures.reads text few (same ∙ to_end r.reading.front s.reading.front r.number s.number c.args.bytes.now last (c.in-Ok.ensures.on [])
    ∙ last_read s.reading.front _ s.number last _ _ c.in-Ok.ensures.last c.next_line-ended.ensures.lines c.in-Ok-read_line.ensures.adds)

pub returns-in-Ok-read_line-clause-ranges : goal.returns-in-Ok-read_line-clause-ranges
returns-in-Ok-read_line-clause-ranges c text same =
    let r = c.args.self in let s = c.read_ended.new.self in let last = c.in-Ok.last.now in
    c.whole_script.ensures.ranges text (same ∙ to_end r.reading.front s.reading.front r.number s.number c.args.bytes.now last (c.in-Ok.ensures.on [])
    ∙ last_read s.reading.front _ s.number last _ _ c.in-Ok.ensures.last c.next_line-ended.ensures.lines c.in-Ok-read_line.ensures.adds)

pub returns-in-Err-read_line-clause-reads : goal.returns-in-Err-read_line-clause-reads
returns-in-Err-read_line-clause-reads c text few same =
    let r = c.args.self in let s = c.read_ended.new.self in let last = c.in-Ok.last.now in
    let whole = same ∙ to_end r.reading.front s.reading.front r.number s.number c.args.bytes.now last (c.in-Ok.ensures.on []) in
    let view = λ (_ : Unit {0}). c.read_line.new.self.front in
    no_lines {X = Unit {0}} view text c.in-Err-read_line.refusal few (subst (λ read. ReadsAs {X = Unit {0}} {Y = Front} view (Err c.in-Err-read_line.refusal) read) (sym whole) (last_refused view c.in-Err-read_line.refusal s.reading.front s.number last _ _ c.in-Ok.ensures.last c.next_line-ended.ensures.lines c.in-Err-read_line.ensures.adds))
