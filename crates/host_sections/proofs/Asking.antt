-- What a section asked the volume behind its lock, from what it found there and what it left.
use Rattle.std.proofs.Common.{◌≡◌, ℕ, ◌<◌, IsTrue, List, [], ◌∷◌, ◌++◌, length, subst, sym}
use Rattle.disk_core.specs.Images.{LeavesOnly}
use Rattle.disk_core.specs.Moments.{started}
use Rattle.disk_core.specs.Volume.{Volume}
use Rattle.disk_core.specs.declared.log_disk.LogDisk as logs
use Rattle.disk_core.specs.declared.page_disk.PageDisk as disks
use Rattle.notes.specs.Lists.{add, at}
use Rattle.notes.proofs.Growing.{at_here}
use Rattle.tx_events.specs.declared.record.Rec.{Rec}
use Rattle.wal_core.specs.Kept.{HasFlushed}
use Rattle.wal_core.specs.LogViews.{KeepsAll, log_disk, log_first, log_flushed}
use Rattle.wal_core.specs.declared.wal_log.WalLog.{WalLog}
use Rattle.tx_core.specs.declared.entry.Entry.{Entry}
use Rattle.tx_core.specs.declared.entry.Start.{Start}
use Rattle.engine_parts.specs.declared.part.Part.{Part}
use Rattle.engine_parts.specs.Parts.{PartStands}
use Rattle.host_sections.specs.Asked.{AsksVolume, LogMoments, PartMoments}

module _ {L P : Type 0} (l : logs.Ghosts L) (p : disks.Ghosts P) (start : Start) (lock : ℕ) (old new : List (List Entry)) (there : lock < length old) (found left : Part L P l p) (stood : PartStands start lock found (at old lock)) (moments : PartMoments found left) where
  -- it added an entry
  pub asks_with : (e : Entry) → PartStands start lock left (at old lock ++ e ∷ []) → new ≡ add old lock e → AsksVolume l p start lock old new
  asks_with e stands adds = record {
    there = there;
    found = found;
    left = left;
    stood = stood;
    stands = subst (λ (es : List Entry). PartStands start lock left es) (sym (subst (λ (z : List (List Entry)). at z lock ≡ at old lock ++ e ∷ []) (sym adds) (at_here old lock e there))) stands;
    moments = moments;
  }

  -- it added none
  pub asks_without : PartStands start lock left (at old lock) → new ≡ old → AsksVolume l p start lock old new
  asks_without stands none = record {
    there = there;
    found = found;
    left = left;
    stood = stood;
    stands = subst (λ (z : List (List Entry)). PartStands start lock left (at z lock)) (sym none) stands;
    moments = moments;
  }

module _ {D : Type 0} {g : logs.Ghosts D} (old new : WalLog D g) where
  -- a flush moves no first record
  pub flush_moments : log_first new ≡ log_first old
      → (IsTrue g.tells → (first : ℕ) (all : List Rec) → KeepsAll first all g.images old → LeavesOnly g.moment g.left_at (log_disk old) (log_disk new) (HasFlushed first all (log_first old) (log_flushed old)))
      → LogMoments old new
  flush_moments same each tells first all keeps =
      subst (λ z. LeavesOnly g.moment g.left_at (log_disk old) (log_disk new) (HasFlushed first all z (log_flushed old))) (sym same) (each tells first all keeps)

  -- one that doesn't ask the volume
  pub append_moments : (IsTrue g.tells → (d : D) (c : Volume) → g.left_at d (g.moment d) c → g.images d c) → log_disk new ≡ log_disk old → log_first new ≡ log_first old → LogMoments old new
  append_moments only_now disk same tells first all keeps =
      subst (λ (z : D × ℕ). LeavesOnly g.moment g.left_at (log_disk old) z.0 (HasFlushed first all z.1 (log_flushed old))) (λ i. (sym disk i, sym same i))
      (started g.moment g.left_at (log_disk old) (HasFlushed first all (log_first old) (log_flushed old)) (λ c now. keeps.each c (only_now tells (log_disk old) c now)))
