use Rattle.std.proofs.Common.{arith}
use Rattle.std.proofs.lemmas.List.{get_or_read}
use Rattle.script_lines.specs.Said.{said}
use Rattle.session_lang.proofs.StepLemmas.{has_read_old}
use Rattle.session_lang.proofs.parser.reading.Reading.add_old.Goals as goal

pub returns-in-Ok-clause-so_far : goal.returns-in-Ok-clause-so_far
returns-in-Ok-clause-so_far c =
    let s = c.args.self.now in let h = c.requires.so_far in let e = c.in-Ok.ensures in
    let lengths = h.lengths in let known = c.requires.known in
    let now = get_or_read s.commands.items _ _ (omega arith) c.index-count.ensures 0 in
    rw e (has_read_old s.front.names s.commands.items s.front.items c.args.session c.index-count.result.now (said c.args.command.now) h c.requires.known now (omega arith))
