use Rattle.session_lang.specs.Lines.{lines_of}
use Rattle.session_lang.proofs.Ranges.{read_in_range}
use Rattle.session_lang.proofs.WholeLemmas.{is_sound, no_base, whole_read}
use Rattle.script_source.proofs.reader.whole_script.Goals as goal

pub returns-then-not-has_base-clause-reads : goal.returns-then-not-has_base-clause-reads
returns-then-not-has_base-clause-reads c text few reads =
    no_base text c.args.front c.has_base.result few reads c.has_base.ensures c.if-not-has_base.true

pub returns-clause-reads : goal.returns-clause-reads
returns-clause-reads c text few reads =
    rw (c.base.ensures, c.banks.ensures) (whole_read text c.args.front c.has_base.result few reads c.has_base.ensures c.if-not-has_base.false)

pub returns-clause-ranges : goal.returns-clause-ranges
returns-clause-ranges c text reads = read_in_range (lines_of text) c.args.front reads

pub returns-clause-sound : goal.returns-clause-sound
returns-clause-sound c counts so_far few =
    rw (c.base.ensures, c.banks.ensures) (is_sound c.args.front counts c.has_base.result so_far few c.has_base.ensures c.if-not-has_base.false)
