-- What is left in the list of a bank that refused a call.
use Rattle.std.proofs.Common.{None, ◌≡◌, ℕ, suc, ◌≤◌, ◌<◌, List, [], ◌∷◌, ◌++◌, inl, inr, refl, length, arith}
use Rattle.disk_core.specs.declared.log_disk.LogDisk as logs
use Rattle.disk_core.specs.declared.page_disk.PageDisk as disks
use Rattle.store_pages.specs.declared.page_rule.PageRule as rules
use Rattle.slru_bank.specs.declared.bank.SlruBank.{SlruBank}
use Rattle.slru_bank.specs.declared.refusal.BankRefusal.{BankRefusal}
use Rattle.slru_bank.specs.declared.refusal.BankRefusal.TheVariants as refused
use Rattle.slru_bank.specs.Calls.{cutoff_of, faults_of, last_page, pages_of}
use Rattle.tx_events.specs.declared.event.By.{By}
use Rattle.tx_core.specs.declared.entry.Entry.{Entry}
use Rattle.tx_core.specs.declared.entry.Kind.TheVariants as kinds
use Rattle.tx_core.specs.declared.entry.Start.{Start}
use Rattle.tx_core.specs.Entries.{appended, asks_in, cut_in, event_of, links_in, marks_in}
use Rattle.tx_core.specs.MultiEntries.{multi_of}
use Rattle.tx_core.specs.Locks.{IsPageLock, subtrans_lock, xact_lock}
use Rattle.tx_core.specs.Pages.{zeroed_in}
use Rattle.engine_parts.specs.declared.part.Part.{Part}
use Rattle.engine_parts.specs.declared.part.Part.TheVariants as parts
use Rattle.engine_parts.specs.Answers.{MetFault}
use Rattle.engine_parts.specs.BankCourse.{IsParentOn, NotedOnly, ParentsCame, parent_rack}
use Rattle.engine_parts.specs.Course.{HasCourse, Noted}
use Rattle.engine_parts.specs.Holds.{Knowledge, Leaves}
use Rattle.engine_parts.specs.Parts.{IsSubtransOf, IsXactOf, PartStands}
use Rattle.engine_parts.proofs.Banking.{xact_read}
use Rattle.engine_parts.proofs.May.{met_fault}
use Rattle.engine_parts.proofs.SubBanking.{sub_read}
use Rattle.tx_core.specs.FaultsRise.{count_in, faults_at, faults_told}
use Rattle.tx_core.proofs.LastNumbers.{number_same, number_push}
use Rattle.bank_sections.specs.Refusals.{IsBuilt, faults_in, entry_of_refusal}

-- it has no event and no record, asks for no state, changes nothing, cuts nothing and is no sync
pub record IsQuiet (e : Entry) : Type 0 where
  pub event : event_of e ≡ None
  pub multi : multi_of e ≡ None
  pub appended : appended e ≡ None
  pub asks : asks_in e ≡ []
  pub marks : marks_in e ≡ []
  pub links : links_in e ≡ []
  pub zeroed : zeroed_in e.kind ≡ None
  pub cut : cut_in e.kind ≡ None
  pub other : e.kind ≡ kinds.Sync → ⊥

pub refused_quiet : (by : By) (count : ℕ) (refusal : BankRefusal) → IsQuiet (entry_of_refusal by count refusal)
refused_quiet by count refused.DiskFault = record {
  event = refl;
  multi = refl;
  appended = refl;
  asks = refl;
  marks = refl;
  links = refl;
  zeroed = refl;
  cut = refl;
  other = λ sync. let apart : kinds.Fault (by ∷ []) [] None count ≡ kinds.Sync = sync in absurd cc;
}
refused_quiet by count (refused.Cut cutoff) = record {
  event = refl;
  multi = refl;
  appended = refl;
  asks = refl;
  marks = refl;
  links = refl;
  zeroed = refl;
  cut = refl;
  other = λ sync. let apart : kinds.Look ≡ kinds.Sync = sync in absurd cc;
}

pub met_refusal : (start : Start) (v w : Knowledge) (lock : ℕ) (by : By) (count : ℕ) (refusal : BankRefusal) → lock < length v.seen → Leaves start lock (entry_of_refusal by count refusal) v w → refusal ≡ refused.DiskFault → MetFault w.seen lock by
met_refusal start v w lock by count refused.DiskFault inside l is = met_fault start v w lock by count inside l
met_refusal start v w lock by count (refused.Cut cutoff) inside l is = absurd cc

-- the count that the list tells then
refused_told : (start : Start) (lock : ℕ) (by : By) (count : ℕ) (refusal : BankRefusal) (es : List Entry) → faults_told start lock es ≤ count → faults_told start lock (es ++ entry_of_refusal by count refusal ∷ []) ≤ count
refused_told start lock by count refused.DiskFault es le = let a = number_push count_in (faults_at start lock) es (entry_of_refusal by count refused.DiskFault) count refl in omega arith
refused_told start lock by count (refused.Cut cutoff) es le = let a = number_same count_in (faults_at start lock) es (entry_of_refusal by count (refused.Cut cutoff)) refl in omega arith

module _ {P O : Type 0} {g : disks.Ghosts P} {r : rules.Ghosts O} where
  -- the bank stands for the longer list
  pub xact_refused : (start : Start) (bank : ℕ) (store : SlruBank P O g r) (by : By) (refusal : BankRefusal) (es : List Entry) → IsXactOf start bank store es → IsXactOf start bank store (es ++ entry_of_refusal by (faults_of store) refusal ∷ [])
  xact_refused start bank store by refusal es s =
      let q = refused_quiet by (faults_of store) refusal in
      xact_read start bank (faults_of store) (faults_of store) (last_page store) (last_page store) (cutoff_of store) (cutoff_of store) g.tells (pages_of store) (pages_of store) (HasCourse start bank store) (HasCourse start bank store) es (entry_of_refusal by (faults_of store) refusal) s refl refl q.marks q.zeroed
      (refused_told start (xact_lock bank) by (faults_of store) refusal es s.count) (λ told page. refl)
      (λ told k.
      let e : Entry = entry_of_refusal by (faults_of store) refusal in
      let note : Noted store store es (es ++ e ∷ []) = record { entry = e; entries = refl; same = refl; sets = q.marks; makes = q.zeroed; cuts = q.cut; other = q.other } in
      (suc k.0, (store, es, k.1, inr (inl note))))

  pub subtrans_refused : (start : Start) (bank : ℕ) (store : SlruBank P O g r) (by : By) (refusal : BankRefusal) (es : List Entry) → IsSubtransOf start bank store es → IsSubtransOf start bank store (es ++ entry_of_refusal by (faults_of store) refusal ∷ [])
  subtrans_refused start bank store by refusal es s =
      let q = refused_quiet by (faults_of store) refusal in
      sub_read start bank (faults_of store) (faults_of store) (last_page store) (last_page store) (cutoff_of store) (cutoff_of store) g.tells (pages_of store) (pages_of store) (ParentsCame start bank store) (ParentsCame start bank store) es (entry_of_refusal by (faults_of store) refusal) s refl refl q.links q.zeroed
      (refused_told start (subtrans_lock bank) by (faults_of store) refusal es s.count) (λ told page. refl)
      (λ told k.
      let e : Entry = entry_of_refusal by (faults_of store) refusal in
      let note : NotedOnly (parent_rack start) (IsParentOn start bank) store store es (es ++ e ∷ []) = record { entry = e; entries = refl; same = refl; quiet = record { sets = q.links; makes = q.zeroed }; cuts = q.cut; other = q.other } in
      (suc k.0, (store, es, k.1, inr (inl note))))

  -- and one that was only looked at
  pub xact_looked : (start : Start) (bank : ℕ) (store : SlruBank P O g r) (by : By) (es : List Entry) → IsXactOf start bank store es → IsXactOf start bank store (es ++ record { by = by; kind = kinds.Look } ∷ [])
  xact_looked start bank store by es s = xact_refused start bank store by (refused.Cut 0) es s

  pub subtrans_looked : (start : Start) (bank : ℕ) (store : SlruBank P O g r) (by : By) (es : List Entry) → IsSubtransOf start bank store es → IsSubtransOf start bank store (es ++ record { by = by; kind = kinds.Look } ∷ [])
  subtrans_looked start bank store by es s = subtrans_refused start bank store by (refused.Cut 0) es s

module _ {L P : Type 0} {l : logs.Ghosts L} {p : disks.Ghosts P} where
  pub stands_refused : (start : Start) (lock : ℕ) (part : Part L P l p) (by : By) (refusal : BankRefusal) (es : List Entry) → IsPageLock start lock → IsBuilt part → PartStands start lock part es → PartStands start lock part (es ++ entry_of_refusal by (faults_in part) refusal ∷ [])
  stands_refused start lock (parts.Log log) by refusal es pages built s = let q : lock ≡ 0 = s.0 in let f = pages.from in absurd (omega arith)
  stands_refused start lock (parts.Proc table) by refusal es pages built s = let q : lock ≡ 1 = s.0 in let f = pages.from in absurd (omega arith)
  stands_refused start lock (parts.Xact store) by refusal es pages built s = (s.0, s.1, xact_refused start s.0 store.value by refusal es s.2)
  stands_refused start lock (parts.Subtrans store) by refusal es pages built s = (s.0, s.1, subtrans_refused start s.0 store.value by refusal es s.2)
  stands_refused start lock (parts.Multi gen) by refusal es pages built s = absurd built
  stands_refused start lock (parts.Offsets store) by refusal es pages built s = absurd built
  stands_refused start lock (parts.Members store) by refusal es pages built s = absurd built
