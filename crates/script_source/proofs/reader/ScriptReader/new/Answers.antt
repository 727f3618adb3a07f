use Rattle.std.proofs.Common.{ap, length}
use Rattle.session_lang.specs.Script.{no_front}
use Rattle.script_source.proofs.reader.ScriptReader.new.Goals as goal

pub returns-clause-none : goal.returns-clause-none
unfolding no_front
returns-clause-none c = ap (λ f. length f.items) c.new.ensures.front
