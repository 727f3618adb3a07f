use Rattle.std.proofs.Common.{arith}
use Rattle.session_lang.specs.declared.parser.reading.Reading.{Reading}
use Rattle.session_lang.specs.Lines.{lines_of}
use Rattle.session_lang.proofs.Ranges.{read_in_range}
use Rattle.session_lang.proofs.WholeLemmas.{is_sound, lines_refused, no_base, too_long, whole_read}
use Rattle.session_lang.proofs.parser.parse.Goals as goal

pub returns-then-bytes-gt-MAX_BYTES-clause-reads : goal.returns-then-bytes-gt-MAX_BYTES-clause-reads
returns-then-bytes-gt-MAX_BYTES-clause-reads c = too_long c.args.bytes.now (omega arith)

pub returns-in_err-front-clause-reads : goal.returns-in_err-front-clause-reads
returns-in_err-front-clause-reads c =
    lines_refused {X = Reading} (λ r. r.front) c.args.bytes.now c.from_residual.result c.in_err-front.field-0.0 c.from_residual.ensures.1 (omega arith) c.in_err-front.ensures.reads

pub returns-then-not-has_base-clause-reads : goal.returns-then-not-has_base-clause-reads
returns-then-not-has_base-clause-reads c =
    no_base c.args.bytes.now c.in_ok-front.field-0.front c.has_base.result (omega arith) c.in_ok-front.ensures.reads c.has_base.ensures c.if-not-has_base.true

pub returns-clause-reads : goal.returns-clause-reads
returns-clause-reads c =
    rw (c.base.ensures, c.banks.ensures) (whole_read c.args.bytes.now c.in_ok-front.field-0.front c.has_base.result (omega arith) c.in_ok-front.ensures.reads c.has_base.ensures c.if-not-has_base.false)

pub returns-clause-sound : goal.returns-clause-sound
returns-clause-sound c =
    rw (c.base.ensures, c.banks.ensures) (is_sound c.in_ok-front.field-0.front c.in_ok-front.field-0.commands.items c.has_base.result c.in_ok-front.ensures.so_far c.in_ok-front.ensures.few c.has_base.ensures c.if-not-has_base.false)

pub returns-clause-ranges : goal.returns-clause-ranges
returns-clause-ranges c = read_in_range (lines_of c.args.bytes.now) c.in_ok-front.field-0.front c.in_ok-front.ensures.reads
