-- What a dump between two rounds is answered.
use Rattle.std.specs.Prelude.{◌≡◌, ℕ, ◌%◌, Bool, IsTrue, List, None, Some, Contains}
use Rattle.disk_core.specs.declared.log_disk.LogDisk as logs
use Rattle.disk_core.specs.declared.page_disk.PageDisk as disks
use Rattle.hall.specs.declared.hall.Hall.{Hall}
use Rattle.hall.specs.Calls.{start_of, view}
use Rattle.notes.specs.Lists.{at as list_at}
use Rattle.tx_events.specs.declared.refusal.Lock.{Lock}
use Rattle.tx_events.specs.declared.refusal.Refusal.TheVariants as refusals
use Rattle.tx_model.specs.declared.reply.Reply.{Reply}
use Rattle.tx_model.specs.declared.reply.Reply.TheVariants as replies
use Rattle.tx_model.specs.declared.report.DumpOf.{DumpOf}
use Rattle.tx_model.specs.declared.report.DumpOf.TheVariants as dumps
use Rattle.store_pages.specs.Layouts.{xact_page_of}
use Rattle.life_law.specs.Dumps.{MayDump}
use Rattle.slru_bank.specs.declared.refusal.BankRefusal.{BankRefusal}
use Rattle.slru_bank.specs.declared.refusal.BankRefusal.TheVariants as refused
use Rattle.tx_core.specs.declared.entry.Entry.{Entry}
use Rattle.tx_core.specs.declared.entry.Start.{Start}
use Rattle.tx_core.specs.Entries.{cut_in, history}
use Rattle.tx_core.specs.Locks.{log_lock, number_of, xact_lock}
use Rattle.engine_parts.specs.declared.part.Part.{Part}
use Rattle.engine_host.specs.declared.host.Host.{Host}
use Rattle.session_promise.specs.Causes.{failed_volume}
use Rattle.session_promise.specs.Promise.{recs_of}
use Rattle.bank_sections.specs.Sections.{IsSubtransCut, IsXactCut}
use Rattle.multi_banks.specs.Sections.{IsMemberCut, IsOffsetCut}
use Rattle.host_calls.specs.Shown.{AreLogBytes, HasFailed, ShowsMembers, ShowsOffsets, ShowsSubtrans, ShowsXact}

-- the answer where a bank refused
abbrev pub refusal_by : Lock → BankRefusal → Reply
refusal_by lock (refused.Cut cutoff) = replies.Cut cutoff
refusal_by lock refused.DiskFault = replies.Refused (refusals.DiskFault lock)

-- in what the host has seen, a dump may be answered so
abbrev pub IsAnswered : {H L P : Type 0} → {l : logs.Ghosts L} → {p : disks.Ghosts P} → Hall H (Part L P l p) Entry Start
    → Host L P l p → DumpOf → ℕ → Reply → Type 0
IsAnswered hall host what size reply =
    MayDump (start_of hall).banks (start_of hall).base (recs_of (view host.pass).seen) (history (view host.pass).seen)
    what size reply

module _ {L P : Type 0} (l : logs.Ghosts L) (p : disks.Ghosts P) (start : Start) (lists : List (List Entry)) where
  -- The volume that failed by the answer did fail.
  abbrev pub IsFaultCounted : Reply → Type 0
  IsFaultCounted reply = (lock : Lock) → failed_volume reply ≡ Some lock → HasFailed l p start lists (number_of lock)

  -- these bytes are what was to be shown, from a place on, where the volumes tell what they hold
  abbrev pub AreShown : DumpOf → ℕ → ℕ → List ℕ → Type 0
  AreShown dumps.Log from size bytes = IsTrue l.tells → AreLogBytes start (list_at lists log_lock) from size bytes
  AreShown (dumps.Xact page) from size bytes = IsTrue p.tells → ShowsXact start lists page from size bytes
  AreShown (dumps.Subtrans page) from size bytes = IsTrue p.tells → ShowsSubtrans start lists page from size bytes
  AreShown (dumps.Offsets page) from size bytes = IsTrue p.tells → ShowsOffsets start lists page from size bytes
  AreShown (dumps.Members page) from size bytes = IsTrue p.tells → ShowsMembers start lists page from size bytes

  -- so the bytes of the answer, where it has some
  abbrev pub ShowsBytes : DumpOf → ℕ → ℕ → Reply → Type 0
  ShowsBytes what from size (replies.Bytes bytes) = AreShown what from size bytes
  ShowsBytes what from size reply = Unit {0}

-- no entry cut the bank
abbrev pub HasNoCut : List Entry → Type 0
HasNoCut es = (e : Entry) → Contains es e → cut_in e.kind ≡ None

-- The cutoff by which a page is told as cut is one of the bank's list. That of pg_xact is the one with which the life began,
-- where no entry cut the bank.
abbrev pub IsCutTold : Bool → Start → List (List Entry) → DumpOf → Reply → Type 0
IsCutTold tells start lists (dumps.Xact page) (replies.Cut cutoff) =
    IsXactCut start lists (page % start.banks) page cutoff
    × (HasNoCut (list_at lists (xact_lock (page % start.banks))) → cutoff ≡ xact_page_of start.base.oldest)
IsCutTold tells start lists (dumps.Subtrans page) (replies.Cut cutoff) =
    IsSubtransCut start lists (page % start.banks) page cutoff
IsCutTold tells start lists (dumps.Offsets page) (replies.Cut cutoff) =
    IsOffsetCut start lists (page % start.banks) page cutoff
IsCutTold tells start lists (dumps.Members page) (replies.Cut cutoff) =
    IsMemberCut start lists (page % start.banks) page cutoff
IsCutTold tells start lists what reply = Unit {0}
