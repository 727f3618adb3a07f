-- Which replies of a dump are refusals of it, and which are none that a dump has.
use Rattle.std.specs.Prelude.{Bool, true, false}
use Rattle.tx_events.specs.declared.refusal.Refusal.{Refusal}
use Rattle.tx_events.specs.declared.refusal.Refusal.TheVariants as refusals
use Rattle.tx_model.specs.declared.reply.Reply.{Reply}
use Rattle.tx_model.specs.declared.reply.Reply.TheVariants as replies
use Rattle.tx_model.specs.declared.report.DumpOf.{DumpOf}
use Rattle.tx_model.specs.declared.report.DumpOf.TheVariants as dumps
use Rattle.report_law.specs.Dumps.{is_lock_of}

abbrev pub is_log : DumpOf → Bool
is_log dumps.Log = true
is_log what = false

abbrev pub may_fail : DumpOf → Refusal → Bool
may_fail what refusals.LogFault = is_log what
may_fail what (refusals.DiskFault lock) = is_lock_of what lock
may_fail what refusal = false

abbrev pub is_other : Reply → Bool
is_other (replies.Bytes bytes) = false
is_other (replies.Cut cutoff) = false
is_other (replies.Refused refusal) = false
is_other reply = true
