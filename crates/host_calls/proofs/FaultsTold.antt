-- What an answer tells besides its bytes.
use Rattle.std.proofs.Common.{◌≡◌, ℕ, List, None, Some, refl, subst, sym}
use Rattle.disk_core.specs.declared.log_disk.LogDisk as logs
use Rattle.disk_core.specs.declared.page_disk.PageDisk as disks
use Rattle.tx_events.specs.declared.refusal.Lock.{Lock}
use Rattle.tx_events.specs.declared.refusal.Lock.TheVariants as locks
use Rattle.tx_events.specs.declared.refusal.Refusal.TheVariants as refusals
use Rattle.tx_model.specs.declared.reply.Reply.{Reply}
use Rattle.tx_model.specs.declared.reply.Reply.TheVariants as replies
use Rattle.tx_model.specs.declared.report.DumpOf.{DumpOf}
use Rattle.slru_bank.specs.declared.refusal.BankRefusal.{BankRefusal}
use Rattle.slru_bank.specs.declared.refusal.BankRefusal.TheVariants as refused
use Rattle.tx_core.specs.declared.entry.Entry.{Entry}
use Rattle.tx_core.specs.declared.entry.Start.{Start}
use Rattle.tx_core.specs.Locks.{log_lock, number_of}
use Rattle.host_calls.specs.Dumps.{IsFaultCounted, ShowsBytes, refusal_by}
use Rattle.host_calls.specs.Shown.{HasFailed}

same_lock : (one other : Lock) → Some one ≡ Some other → one ≡ other
same_lock one other is = cc

no_lock : (other : Lock) → None ≡ Some other → ⊥
no_lock other is = cc

module _ {L P : Type 0} (l : logs.Ghosts L) (p : disks.Ghosts P) (start : Start) (lists : List (List Entry)) where
  -- bytes tell of no fault
  pub bytes_counted : (reply : Reply) (bytes : List ℕ) → reply ≡ replies.Bytes bytes → IsFaultCounted l p start lists reply
  bytes_counted reply bytes told = subst (IsFaultCounted l p start lists) (sym told) (λ other is. absurd (no_lock other is))

  -- the log's fault, where its volume failed
  pub log_counted : HasFailed l p start lists log_lock → IsFaultCounted l p start lists (replies.Refused refusals.LogFault)
  log_counted failed = λ other is. subst (λ (z : Lock). HasFailed l p start lists (number_of z)) (same_lock locks.Log other is) failed

  -- and a bank's
  pub bank_counted : (lock : Lock) (refusal : BankRefusal) → (refusal ≡ refused.DiskFault → HasFailed l p start lists (number_of lock)) → IsFaultCounted l p start lists (refusal_by lock refusal)
  bank_counted lock (refused.Cut cutoff) failed = λ other is. absurd (no_lock other is)
  bank_counted lock refused.DiskFault failed = λ other is. subst (λ (z : Lock). HasFailed l p start lists (number_of z)) (same_lock lock other is) (failed refl)

  -- a bank that refused shows no bytes
  pub bank_shows : (what : DumpOf) (from size : ℕ) (lock : Lock) (refusal : BankRefusal) → ShowsBytes l p start lists what from size (refusal_by lock refusal)
  bank_shows what from size lock (refused.Cut cutoff) = tt
  bank_shows what from size lock refused.DiskFault = tt
