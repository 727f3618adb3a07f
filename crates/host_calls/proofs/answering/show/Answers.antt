use Rattle.std.proofs.Common.{arith, subst}
use Rattle.tx_model.specs.declared.report.DumpOf.{DumpOf}
use Rattle.run_law.specs.Turns.{MayShow}
use Rattle.host_calls.proofs.answering.show.Goals as goal

pub overflow_cast-dump : goal.overflow_cast-dump
overflow_cast-dump g c =
    let m = subst (λ (w : DumpOf). MayShow w c.args.dump.at c.args.dump.length) c.in-Xact.is c.requires.may in
    omega arith

pub show_xact-requires-clause-size : goal.show_xact-requires-clause-size
show_xact-requires-clause-size g c =
    let m = subst (λ (w : DumpOf). MayShow w c.args.dump.at c.args.dump.length) c.in-Xact.is c.requires.may in
    omega arith

pub overflow_cast-dump-in-Subtrans : goal.overflow_cast-dump-in-Subtrans
overflow_cast-dump-in-Subtrans g c =
    let m = subst (λ (w : DumpOf). MayShow w c.args.dump.at c.args.dump.length) c.in-Subtrans.is c.requires.may in
    omega arith

pub show_subtrans-requires-clause-size : goal.show_subtrans-requires-clause-size
show_subtrans-requires-clause-size g c =
    let m = subst (λ (w : DumpOf). MayShow w c.args.dump.at c.args.dump.length) c.in-Subtrans.is c.requires.may in
    omega arith

pub overflow_cast-dump-in-Offsets : goal.overflow_cast-dump-in-Offsets
overflow_cast-dump-in-Offsets g c =
    let m = subst (λ (w : DumpOf). MayShow w c.args.dump.at c.args.dump.length) c.in-Offsets.is c.requires.may in
    omega arith

pub show_offsets-requires-clause-size : goal.show_offsets-requires-clause-size
show_offsets-requires-clause-size g c =
    let m = subst (λ (w : DumpOf). MayShow w c.args.dump.at c.args.dump.length) c.in-Offsets.is c.requires.may in
    omega arith

pub overflow_cast-dump-in-Members : goal.overflow_cast-dump-in-Members
overflow_cast-dump-in-Members g c =
    let m = subst (λ (w : DumpOf). MayShow w c.args.dump.at c.args.dump.length) c.in-Members.is c.requires.may in
    omega arith

pub show_members-requires-clause-size : goal.show_members-requires-clause-size
show_members-requires-clause-size g c =
    let m = subst (λ (w : DumpOf). MayShow w c.args.dump.at c.args.dump.length) c.in-Members.is c.requires.may in
    omega arith
