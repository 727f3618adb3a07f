use Rattle.std.proofs.Common.{[], ◌∷◌, ◌++◌, ap, subst, sym}
use Rattle.hall.specs.Calls.{view, start_of}
use Rattle.notes.specs.Lists.{at}
use Rattle.slru_bank.specs.declared.refusal.BankRefusal.TheVariants as refused
use Rattle.tx_core.specs.declared.entry.Entry.{Entry}
use Rattle.tx_core.specs.Entries.{appended, event_of}
use Rattle.tx_core.specs.MultiEntries.{multi_of}
use Rattle.engine_parts.specs.Parts.{PartStands}
use Rattle.engine_parts.specs.Sessions.{by_at}
use Rattle.engine_parts.proofs.May.{may_fault}
use Rattle.bank_sections.specs.Refusals.{faults_in}
use Rattle.bank_sections.proofs.Refusing.{stands_refused}
use Rattle.bank_sections.proofs.refused.leave_refused.Goals as goal

pub leave_quiet-requires-clause-by : goal.leave_quiet-requires-clause-by
leave_quiet-requires-clause-by g c = ap (λ (e : Entry). e.by) c.requires.fault

pub leave_quiet-requires-clause-quiet : goal.leave_quiet-requires-clause-quiet
leave_quiet-requires-clause-quiet g c = (ap event_of c.requires.fault, ap appended c.requires.fault, ap multi_of c.requires.fault)

pub leave_quiet-requires-clause-may : goal.leave_quiet-requires-clause-may
leave_quiet-requires-clause-may g c =
    may_fault (start_of c.args.hall.now) (view c.args.caller.now.pass).seen c.args.lock (by_at c.args.caller.now.number c.args.caller.now.session.levels.commands) (faults_in c.args.part) c.args.fault.value c.requires.lock (c.requires.risen c.in-DiskFault.is) c.requires.fault (c.requires.at.turns c.args.lock)

pub leave_quiet-requires-clause-stands : goal.leave_quiet-requires-clause-stands
leave_quiet-requires-clause-stands g c =
    subst (λ (e : Entry). PartStands (start_of c.args.hall.now) c.args.lock c.args.part (at (view c.args.caller.now.pass).seen c.args.lock ++ e ∷ [])) (sym c.requires.fault)
    (stands_refused (start_of c.args.hall.now) c.args.lock c.args.part (by_at c.args.caller.now.number c.args.caller.now.session.levels.commands) refused.DiskFault (at (view c.args.caller.now.pass).seen c.args.lock) c.requires.lock c.requires.built c.requires.stands)

pub leave_looked-requires-clause-stands : goal.leave_looked-requires-clause-stands
leave_looked-requires-clause-stands g c =
    stands_refused (start_of c.args.hall.now) c.args.lock c.args.part (by_at c.args.caller.now.number c.args.caller.now.session.levels.commands) (refused.Cut 0) (at (view c.args.caller.now.pass).seen c.args.lock) c.requires.lock c.requires.built c.requires.stands
