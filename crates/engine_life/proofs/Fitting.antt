-- What a life that is over left fits its log.
use Rattle.std.proofs.Common.{List, Some, arith, length, subst, sym, ℕ, ◌<◌, ◌∙◌, ◌≡◌}
use Rattle.std.proofs.lemmas.Option.{same_Some, slice_get_within}
use Rattle.std.specs.List.{slice_get}
use Rattle.disk_core.specs.Pages.{Pages}
use Rattle.disk_core.specs.declared.log_disk.LogDisk as logs
use Rattle.disk_core.specs.declared.page_disk.PageDisk as disks
use Rattle.disk_core.specs.declared.media.Volumes.{Volumes}
use Rattle.notes.specs.Lists.{at}
use Rattle.tx_events.specs.declared.record.Rec.{Rec}
use Rattle.tx_core.specs.declared.entry.Entry.{Entry}
use Rattle.tx_core.specs.declared.entry.Start.{Start}
use Rattle.tx_core.specs.EngineInvariant.{EngineInvariant}
use Rattle.tx_core.specs.Entries.{AreFewIds, flushed_to}
use Rattle.tx_core.specs.Locks.{log_lock}
use Rattle.tx_core.specs.MultiEntries.{AreFewMultis}
use Rattle.recoverable.specs.Fit.{KeptLog}
use Rattle.recoverable.specs.Whole.{BeganRight}
use Rattle.bank_follows.specs.Ends.{AllFollow}
use Rattle.bank_follows.specs.Holding.{LogHolds}
use Rattle.bank_follows.proofs.Ended.{cluster_fits}
use Rattle.engine_life.specs.Lives.{EndFit, HaveFollowed, HaveFollowedMultis}

-- the volume of each bank follows its list, and so do all
pub all_follow : {P : Type 0} (p : disks.Ghosts P) (banks : ℕ) (Follows : ℕ → Pages → Type 0) (volumes : List P) → length volumes ≡ banks
    → ((bank : ℕ) → bank < banks → (v : P) × (slice_get volumes bank ≡ Some v) × ((c : Pages) → p.images v c → Follows bank c)) → AllFollow p banks Follows volumes
all_follow {P} p banks Follows volumes count each = record {
  count = count;
  each = λ bank disk found.
      let within = slice_get_within volumes bank disk found in
      let here = each bank (omega (arith, within, count)) in
      subst (λ (v : P). (c : Pages) → p.images v c → Follows bank c) (same_Some here.0 disk (sym here.1 ∙ found)) here.2;
}

module _ {L P : Type 0} (l : logs.Ghosts L) (p : disks.Ghosts P) where
  pub end_fit : (start : Start) (lists : List (List Entry)) (volumes : Volumes L P) (kept : KeptLog) (recs : List Rec) (next first : ℕ) → EngineInvariant start lists → BeganRight start → AreFewIds lists → AreFewMultis lists
      → LogHolds start (at lists log_lock) kept recs next first (l.images volumes.log) → kept.flushed ≡ flushed_to start (at lists log_lock) → length volumes.xact.items ≡ start.banks → HaveFollowed p start lists volumes.xact.items → HaveFollowedMultis p start lists volumes
      → EndFit l p start lists volumes
  end_fit start lists volumes kept recs next first k right few few_multis held flushed count states multis = record {
    kept = kept;
    follows = held.is_of;
    flushed = flushed;
    fit = cluster_fits l p start lists kept recs next first volumes.log volumes.xact.items volumes.offsets.items volumes.members.items k right (record { ids = few; multis = few_multis }) (record {
      log_holds = held;
      states = all_follow p start.banks _ volumes.xact.items count states;
      offsets_are = multis.offsets_are;
      members_are = multis.members_are;
    });
  }
