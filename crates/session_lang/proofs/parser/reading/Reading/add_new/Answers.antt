use Rattle.std.proofs.Common.{ap, arith, length}
use Rattle.script_lines.specs.Said.{said}
use Rattle.session_lang.proofs.StepLemmas.{has_read_new}
use Rattle.session_lang.proofs.parser.reading.Reading.add_new.Goals as goal

pub returns-in-Ok-push_command-clause-so_far : goal.returns-in-Ok-push_command-clause-so_far
returns-in-Ok-push_command-clause-so_far c =
    let s = c.args.self.now in let h = c.requires.so_far in
    let a = c.in-Ok.ensures.ok in let b = c.in-Ok-push.ensures.items in let e = c.in-Ok-push_command.ensures in
    let n = c.items-session.ensures in let m = c.of.ensures in
    let room = c.if-session-ge-MAX_SESSIONS.false in
    let size = ap length n in
    rw (a, m, b, e, n) (has_read_new s.front.names s.commands.items s.front.items c.args.name.now (said c.args.command.now) h c.requires.fresh c.requires.named (omega arith))
