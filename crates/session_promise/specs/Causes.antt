-- Replies that say that a volume failed, and its count of faults.
use Rattle.std.specs.Prelude.{ℕ, ◌+◌, ◌-◌, ◌^◌, ◌==◌, ◌≤◌, min, Bool, false, List, Option, None, Some}
use Rattle.std.specs.List.{count_by}
use Rattle.notes.specs.Lists.{at}
use Rattle.tx_events.specs.declared.refusal.Lock.{Lock}
use Rattle.tx_events.specs.declared.refusal.Lock.TheVariants as locks
use Rattle.tx_events.specs.declared.refusal.Refusal.TheVariants as refusals
use Rattle.tx_model.specs.declared.reply.Reply.{Reply}
use Rattle.tx_model.specs.declared.reply.Reply.TheVariants as replies
use Rattle.tx_model.specs.declared.report.Line.{Line}
use Rattle.tx_core.specs.declared.entry.Entry.{Entry}
use Rattle.tx_core.specs.declared.entry.Start.{Start}
use Rattle.tx_core.specs.FaultsRise.{faults_at, faults_told}
use Rattle.tx_core.specs.Locks.{number_of}
use Rattle.session_promise.specs.Closing.{IsOver}
use Rattle.session_promise.specs.Told.{ToldRound, all_lines, lines_by}

-- the volume that failed by the reply, told by its lock
abbrev pub failed_volume : Reply → Option Lock
failed_volume (replies.Refused (refusals.DiskFault lock)) = Some lock
failed_volume (replies.Refused refusals.LogFault) = Some locks.Log
failed_volume reply = None

-- whether that is the volume behind the lock of this number
abbrev pub is_behind : ℕ → Option Lock → Bool
is_behind lock None = false
is_behind lock (Some failed) = number_of failed == lock

-- how many of the lines say that it failed
abbrev pub faults_in : ℕ → List Line → ℕ
faults_in lock lines = count_by (λ l. is_behind lock (failed_volume l.reply)) lines

-- A count has risen by so many at least. At the greatest 64-bit number it stays.
abbrev pub HasRisenBy : ℕ → ℕ → ℕ → Type 0
HasRisenBy times before now = min (before + times) (2 ^ 64 - 1) ≤ now

-- No session was told of more faults of a volume than the volume had in the life: its list tells them all.
abbrev pub FaultsAreTold : Type 0
FaultsAreTold =
    (tells : Bool) (start : Start) (lists : List (List Entry)) (rounds : List ToldRound) (session lock : ℕ)
    → IsOver tells start lists rounds
    → HasRisenBy (faults_in lock (lines_by session (all_lines rounds))) (faults_at start lock)
    (faults_told start lock (at lists lock))
