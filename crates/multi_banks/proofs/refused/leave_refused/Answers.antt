use Rattle.std.proofs.Common.{[], ◌∷◌, ◌++◌, subst, sym}
use Rattle.hall.specs.Calls.{view, start_of}
use Rattle.notes.specs.Lists.{at}
use Rattle.slru_bank.specs.declared.refusal.BankRefusal.TheVariants as refused
use Rattle.tx_core.specs.declared.entry.Entry.{Entry}
use Rattle.engine_parts.specs.Parts.{PartStands}
use Rattle.engine_parts.specs.Sessions.{by_at}
use Rattle.engine_parts.proofs.May.{may_fault}
use Rattle.multi_banks.specs.Refusals.{faults_in}
use Rattle.multi_banks.proofs.Parting.{stands_refused}
use Rattle.multi_banks.proofs.refused.leave_refused.Goals as goal

pub leave_quiet-requires-clause-may : goal.leave_quiet-requires-clause-may
leave_quiet-requires-clause-may g c =
    may_fault (start_of c.args.hall.now) (view c.args.caller.now.pass).seen c.args.lock (by_at c.args.caller.now.number c.args.caller.now.session.levels.commands) (faults_in c.args.part) c.args.fault.value c.requires.lock (c.requires.risen c.in-DiskFault.is) c.requires.fault (c.requires.at.turns c.args.lock)

pub leave_quiet-requires-clause-stands : goal.leave_quiet-requires-clause-stands
leave_quiet-requires-clause-stands g c =
    subst (λ (e : Entry). PartStands (start_of c.args.hall.now) c.args.lock c.args.part (at (view c.args.caller.now.pass).seen c.args.lock ++ e ∷ [])) (sym c.requires.fault)
    (stands_refused (start_of c.args.hall.now) c.args.lock c.args.part (by_at c.args.caller.now.number c.args.caller.now.session.levels.commands) refused.DiskFault (at (view c.args.caller.now.pass).seen c.args.lock) c.requires.at.base c.requires.built c.requires.stands)

pub leave_looked-requires-clause-stands : goal.leave_looked-requires-clause-stands
leave_looked-requires-clause-stands g c =
    stands_refused (start_of c.args.hall.now) c.args.lock c.args.part (by_at c.args.caller.now.number c.args.caller.now.session.levels.commands) (refused.Cut 0) (at (view c.args.caller.now.pass).seen c.args.lock) c.requires.at.base c.requires.built c.requires.stands
