-- What a reply says of a device, whichever the command.
use Rattle.std.proofs.Common.{Bool, List}
use Rattle.tx_events.specs.declared.event.By.{By}
use Rattle.tx_events.specs.declared.refusal.Lock.{Lock}
use Rattle.tx_events.specs.declared.refusal.Refusal.TheVariants as refusals
use Rattle.tx_model.specs.declared.command.Command.{Command}
use Rattle.tx_model.specs.declared.command.Command.TheVariants as commands
use Rattle.tx_model.specs.declared.reply.Reply.TheVariants as replies
use Rattle.tx_model.specs.Stance.{Stance}
use Rattle.tx_core.specs.declared.entry.Entry.{Entry}
use Rattle.tx_core.specs.declared.entry.Start.{Start}
use Rattle.tx_core.specs.Locks.{number_of}
use Rattle.engine_parts.specs.declared.session.Stage.{Stage}
use Rattle.engine_parts.specs.Met.{MetFault, MetLogFault}
use Rattle.session_promise.specs.Promise.{MayAnswerIn}
use Rattle.session_promise.specs.Told.{Span}

-- a fault that it tells was met
pub log_fault_met : (tells : Bool) (start : Start) (begun lists : List (List Entry)) (span : Span) (by : By) (s : Stance) (stage : Stage) (command : Command) → MayAnswerIn tells start begun lists span by s stage command (replies.Refused refusals.LogFault) → MetLogFault lists by
log_fault_met tells start begun lists span by s stage (commands.Multi pairs) a = a.1
log_fault_met tells start begun lists span by s stage (commands.SeeMulti name m) a = a.1
log_fault_met tells start begun lists span by s stage (commands.MultiFreeze multi) a = a.1
log_fault_met tells start begun lists span by s stage commands.Trim a = a.1
log_fault_met tells start begun lists span by s stage command a = a.1

pub fault_met : (tells : Bool) (start : Start) (begun lists : List (List Entry)) (span : Span) (by : By) (s : Stance) (stage : Stage) (command : Command) (lock : Lock) → MayAnswerIn tells start begun lists span by s stage command (replies.Refused (refusals.DiskFault lock)) → MetFault lists (number_of lock) by
fault_met tells start begun lists span by s stage (commands.Multi pairs) lock a = a.1
fault_met tells start begun lists span by s stage (commands.SeeMulti name m) lock a = a.1
fault_met tells start begun lists span by s stage (commands.MultiFreeze multi) lock a = a.1
fault_met tells start begun lists span by s stage commands.Trim lock a = a.1
fault_met tells start begun lists span by s stage command lock a = a.1
