use Rattle.session_lang.proofs.StepLemmas.{has_read_none}
use Rattle.session_lang.proofs.parser.reading.Reading.new.Goals as goal

pub returns-clause-so_far : goal.returns-clause-so_far
returns-clause-so_far c = rw (c.new-2.ensures, c.new-3.ensures) (has_read_none c.new-4.result.items c.new-4.ensures.items)
