-- The volumes of a cluster: what a crash leaves of them, and that recovery may begin from it.
use Rattle.std.specs.Prelude.{◌≡◌, ℕ, List, Some, length, slice_get}
use Rattle.disk_core.specs.declared.log_disk.LogDisk as logs
use Rattle.disk_core.specs.declared.page_disk.PageDisk as disks
use Rattle.disk_core.specs.Faults.{HasRisen}
use Rattle.disk_core.specs.Media.{EachCrashed, LogCrashed, PagesCrashed}
use Rattle.disk_core.specs.Pages.{Pages}
use Rattle.recoverable.specs.Fit.{KeptLog}
use Rattle.recoverable.specs.Volumes.{Left, VolumesFit}

module _ {L P : Type 0} (l : logs.Ghosts L) (p : disks.Ghosts P) where
  -- a crash leaves the volumes of a store's banks so
  abbrev pub AreLeft : List P → (ℕ → Pages) → Type 0
  AreLeft disks left = (bank : ℕ) (disk : P) → slice_get disks bank ≡ Some disk → p.images disk (left bank)

  -- So it leaves the log's volume, and those of pg_xact, of offsets and of members. Of pg_subtrans nothing is asked, since
  -- recovery empties it.
  pub record IsLeft (log : L) (xact offsets members : List P) (left : Left) : Type 0 where
    pub log_image : l.images log left.log
    pub states : AreLeft xact left.xact
    pub offsets_are : AreLeft offsets left.offsets
    pub members_are : AreLeft members left.members

  -- whatever a crash leaves of them fits this log
  abbrev pub Fit : KeptLog → L → List P → List P → List P → Type 0
  Fit kept log xact offsets members = VolumesFit (length xact) kept (IsLeft log xact offsets members)

  -- What fits a log fits it behind a crash, too, which leaves each volume as one of its images.
  abbrev pub CrashKeepsFit : Type 0
  CrashKeepsFit = (kept : KeptLog) (old new : L) (xact xact' offsets offsets' members members' : List P)
      → LogCrashed l.reads l.images l.faults old new → EachCrashed (PagesCrashed p.pages p.images p.faults) xact xact'
      → EachCrashed (PagesCrashed p.pages p.images p.faults) offsets offsets'
      → EachCrashed (PagesCrashed p.pages p.images p.faults) members members'
      → Fit kept old xact offsets members → Fit kept new xact' offsets' members'

-- the volume of this place failed: that one was there before, and this one is now
pub record HasFailedAt {P : Type 0} (faults : P → ℕ) (place : ℕ) (old new : List P) : Type 0 where
  pub before : P
  pub now : P
  pub was : slice_get old place ≡ Some before
  pub is : slice_get new place ≡ Some now
  pub risen : HasRisen (faults before) (faults now)
