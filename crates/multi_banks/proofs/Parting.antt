-- A part behind the lock of a bank of offsets or of members, whose call was refused.
use Rattle.std.proofs.Common.{ℕ, List, [], ◌∷◌, ◌++◌}
use Rattle.disk_core.specs.declared.log_disk.LogDisk as logs
use Rattle.disk_core.specs.declared.page_disk.PageDisk as disks
use Rattle.slru_bank.specs.declared.refusal.BankRefusal.{BankRefusal}
use Rattle.tx_events.specs.Base.{IsBase}
use Rattle.tx_events.specs.declared.event.By.{By}
use Rattle.tx_core.specs.declared.entry.Entry.{Entry}
use Rattle.tx_core.specs.declared.entry.Start.{Start}
use Rattle.engine_parts.specs.declared.part.Part.{Part}
use Rattle.engine_parts.specs.declared.part.Part.TheVariants as parts
use Rattle.engine_parts.specs.Parts.{PartStands}
use Rattle.multi_banks.specs.Refusals.{IsOfMultis, entry_of_refusal, faults_in}
use Rattle.multi_banks.proofs.Membering.{members_refused}
use Rattle.multi_banks.proofs.Offsetting.{offsets_refused}

module _ {L P : Type 0} {l : logs.Ghosts L} {p : disks.Ghosts P} where
  pub stands_refused : (start : Start) (lock : ℕ) (part : Part L P l p) (by : By) (refusal : BankRefusal) (es : List Entry) → IsBase start.base → IsOfMultis part → PartStands start lock part es → PartStands start lock part (es ++ entry_of_refusal by (faults_in part) refusal ∷ [])
  stands_refused start lock (parts.Log log) by refusal es base built s = absurd built
  stands_refused start lock (parts.Proc table) by refusal es base built s = absurd built
  stands_refused start lock (parts.Multi gen) by refusal es base built s = absurd built
  stands_refused start lock (parts.Xact store) by refusal es base built s = absurd built
  stands_refused start lock (parts.Subtrans store) by refusal es base built s = absurd built
  stands_refused start lock (parts.Offsets store) by refusal es base built s = (s.0, s.1, offsets_refused start s.0 base store.value by refusal es s.2)
  stands_refused start lock (parts.Members store) by refusal es base built s = (s.0, s.1, members_refused start s.0 base store.value by refusal es s.2)
