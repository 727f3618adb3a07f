-- The volumes of a cluster in which a life ran.
use Rattle.std.proofs.Common.{List, Some, [], arith, length, refl, subst, suc, sym, zero, ℕ, ◌<◌, ◌∷◌, ◌≡◌}
use Rattle.std.specs.List.{slice_get}
use Rattle.disk_core.specs.declared.log_disk.LogDisk as logs
use Rattle.disk_core.specs.declared.page_disk.PageDisk as disks
use Rattle.disk_core.specs.Pages.{Pages}
use Rattle.tx_events.specs.declared.record.Rec.{Rec}
use Rattle.tx_core.specs.declared.entry.Entry.{Entry}
use Rattle.tx_core.specs.declared.entry.Start.{Start}
use Rattle.tx_core.specs.EngineInvariant.{EngineInvariant}
use Rattle.recoverable.specs.Clusters.{AreLeft, IsLeft}
use Rattle.recoverable.specs.Fit.{KeptLog}
use Rattle.recoverable.specs.Volumes.{ImageFits, Left}
use Rattle.recoverable.specs.Whole.{BeganRight, IsShort, LeftFollows}
use Rattle.recoverable.proofs.LifeBases.{list_fits}
use Rattle.recoverable.proofs.Whole.{image_fits}
use Rattle.bank_follows.specs.Ends.{AllFollow, ClusterFits, ClusterHolds}

get_at : {X : Type 0} (xs : List X) (n : ℕ) → n < length xs → (x : X) × (slice_get xs n ≡ Some x)
get_at [] n lt = absurd (omega arith)
get_at (x ∷ xs) zero lt = (x, refl)
get_at (x ∷ xs) (suc n) lt = get_at xs n (omega arith)

-- what a crash leaves of a store's volumes
store_left : {L P : Type 0} (l : logs.Ghosts L) (p : disks.Ghosts P) (banks : ℕ) (Follows : ℕ → Pages → Type 0) (volumes : List P) (left : ℕ → Pages) → AllFollow p banks Follows volumes → AreLeft l p volumes left
    → (bank : ℕ) → bank < banks → Follows bank (left bank)
store_left l p banks Follows volumes left all is bank inside =
    let count = all.count in
    let disk = get_at volumes bank (omega (arith, count, inside)) in
    all.each bank disk.0 disk.1 (left bank) (is bank disk.0 disk.1)

module _ {L P : Type 0} (l : logs.Ghosts L) (p : disks.Ghosts P) where
  module _ (start : Start) (lists : List (List Entry)) (kept : KeptLog) (recs : List Rec) (next first : ℕ) (log : L) (xact offsets members : List P) (k : EngineInvariant start lists) (right : BeganRight start) (short : IsShort lists)
      (holds : ClusterHolds l p start lists kept recs next first log xact offsets members) (left : Left) (is : IsLeft l p log xact offsets members left) where
    follows : LeftFollows start lists kept left
    follows = record {
      log_image = record { kept = first; opens = holds.log_holds.keeps.each left.log is.log_image; forgotten = holds.log_holds.beginning };
      states = store_left l p start.banks _ xact left.xact holds.states is.states;
      offsets_are = store_left l p start.banks _ offsets left.offsets holds.offsets_are is.offsets_are;
      members_are = store_left l p start.banks _ members left.members holds.members_are is.members_are;
    }

    fits : ImageFits start.banks kept left
    fits = image_fits start lists kept left k right short holds.log_holds.is_of follows

  pub cluster_fits : ClusterFits l p
  cluster_fits start lists kept recs next first log xact offsets members k right short holds = record {
    list = list_fits start lists kept k right.told right.full right.base holds.log_holds.is_of;
    each = λ left is. subst (λ (n : ℕ). ImageFits n kept left) (sym holds.states.count) (fits start lists kept recs next first log xact offsets members k right short holds left is);
  }
