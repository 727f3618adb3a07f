-- What a crash leaves at the moments of a checkpoint: between two critical sections of each volume what follows the list of its
-- lock, and while a section asks one, of that one as its disk had it at that moment.
use Rattle.std.specs.Prelude.{◌≡◌, ◌≢◌, ◌⊎◌, ℕ, ◌+◌, ◌*◌, ◌<◌, IsTrue, List, [], ◌∷◌, Option, Some, None}
use Rattle.disk_core.specs.declared.log_disk.LogDisk as logs
use Rattle.disk_core.specs.declared.page_disk.PageDisk as disks
use Rattle.disk_core.specs.Pages.{Pages}
use Rattle.disk_core.specs.Volume.{Volume}
use Rattle.notes.specs.Lists.{add, at}
use Rattle.slru_bank.specs.Calls.{volume_of}
use Rattle.wal_core.specs.LogViews.{log_disk}
use Rattle.tx_core.specs.declared.entry.Entry.{Entry}
use Rattle.tx_core.specs.declared.entry.Start.{Start}
use Rattle.tx_core.specs.EngineInvariant.{EngineInvariant}
use Rattle.tx_core.specs.Locks.{log_lock, members_lock, multi_lock, offsets_lock, proc_lock, xact_lock}
use Rattle.recoverable.specs.Fit.{KeptLog}
use Rattle.recoverable.specs.Laws.{LogFollows}
use Rattle.recoverable.specs.Volumes.{Left, VolumesFit}
use Rattle.recoverable.specs.Whole.{LeftFollows}
use Rattle.bank_follows.specs.Fitting.{FitSoFar, LeavesLog, LeavesPages, PartsFit}
use Rattle.replay_core.specs.Moments.{WasLeft}
use Rattle.engine_parts.specs.declared.part.Part.{Part}
use Rattle.engine_parts.specs.declared.part.Part.TheVariants as parts
use Rattle.engine_parts.specs.Parts.{PartStands}
use Rattle.host_sections.specs.Asked.{AsksVolume}

-- whatever a crash leaves that follows these lists fits the log, in any combination: so a recovery may begin from it
abbrev pub ListsFit : Start → List (List Entry) → Type 0
ListsFit start lists = (kept : KeptLog) → LogFollows start lists kept → VolumesFit start.banks kept (LeftFollows start lists kept)

-- ---- while a section runs

-- the volume of this lock is left as one of its images, or, where it is the section's own, as at a moment of the section
abbrev pub IsLeftAs : ℕ → ℕ → Type 0 → Type 0 → Type 0
IsLeftAs lock own Image Within = ((lock ≢ own) × Image) ⊎ ((lock ≡ own) × Within)

module _ {L P : Type 0} {l : logs.Ghosts L} {p : disks.Ghosts P} where
  -- a crash in the section that found this part behind its lock and left that one leaves the volume there so: of the log,
  abbrev pub LogWithin : Part L P l p → Part L P l p → Volume → Type 0
  LogWithin (parts.Log found) (parts.Log left) v = WasLeft l.moment l.left_at (log_disk found.value) (log_disk left.value) v
  LogWithin found left v = ⊥

  -- of a bank
  abbrev pub PagesWithin : Part L P l p → Part L P l p → Pages → Type 0
  PagesWithin (parts.Xact found) (parts.Xact left) c = WasLeft p.moment p.left_at (volume_of found.value) (volume_of left.value) c
  PagesWithin (parts.Subtrans found) (parts.Subtrans left) c = WasLeft p.moment p.left_at (volume_of found.value) (volume_of left.value) c
  PagesWithin (parts.Offsets found) (parts.Offsets left) c = WasLeft p.moment p.left_at (volume_of found.value) (volume_of left.value) c
  PagesWithin (parts.Members found) (parts.Members left) c = WasLeft p.moment p.left_at (volume_of found.value) (volume_of left.value) c
  PagesWithin found left c = ⊥

  -- So it leaves all volumes: the section's own as at that moment, each other one as an image of what lies behind its lock.
  pub record LeftWithin (banks own : ℕ) (found left : Part L P l p) (others : ℕ → Part L P l p) (c : Left) : Type 0 where
    pub log : IsLeftAs log_lock own (LeavesLog (others log_lock) c.log) (LogWithin found left c.log)
    pub xact : (bank : ℕ) → bank < banks
        → IsLeftAs (xact_lock bank) own (LeavesPages (others (xact_lock bank)) (c.xact bank)) (PagesWithin found left (c.xact bank))
    pub offsets : (bank : ℕ) → bank < banks
        → IsLeftAs (offsets_lock bank) own (LeavesPages (others (offsets_lock bank)) (c.offsets bank)) (PagesWithin found left (c.offsets bank))
    pub members : (bank : ℕ) → bank < banks
        → IsLeftAs (members_lock bank) own (LeavesPages (others (members_lock bank)) (c.members bank)) (PagesWithin found left (c.members bank))

  -- behind each other lock lies what stands for its list
  abbrev pub OthersStand : Start → List (List Entry) → ℕ → (ℕ → Part L P l p) → Type 0
  OthersStand start lists own others = (lock : ℕ) → lock < 3 + 4 * start.banks → lock ≢ own → PartStands start lock (others lock) (at lists lock)

-- ---- the course of sections

-- A section: its lock, and the entry that it added there, if it added one.
pub record Step : Type 0 where
  pub lock : ℕ
  pub more : Option Entry

abbrev pub add_more : List (List Entry) → ℕ → Option Entry → List (List Entry)
add_more lists lock None = lists
add_more lists lock (Some e) = add lists lock e

abbrev pub behind : List (List Entry) → Step → List (List Entry)
behind lists s = add_more lists s.lock s.more

module _ {L P : Type 0} (l : logs.Ghosts L) (p : disks.Ghosts P) (start : Start) where
  -- At every moment of the section what a crash leaves fits the log so far, with whatever it leaves of the other volumes.
  abbrev pub SectionFits : List (List Entry) → ℕ → Part L P l p → Part L P l p → Type 0
  SectionFits lists own found left = IsTrue l.tells → IsTrue p.tells → (others : ℕ → Part L P l p) → OthersStand start lists own others
      → FitSoFar start lists (LeftWithin start.banks own found left others)

  pub record StepFits (before : List (List Entry)) (s : Step) : Type 0 where
    pub asks : AsksVolume l p start s.lock before (behind before s)
    pub fit : SectionFits before s.lock asks.found asks.left

  -- By these sections, one after another, the lists became those. What follows the lists fits before and behind each, and so do
  -- the volumes of whatever stands for them; and at every moment of each section's volume they do.
  abbrev pub FitBy : List (List Entry) → List Step → List (List Entry) → Type 0
  FitBy before [] after = ListsFit start before × PartsFit l p start before × (after ≡ before)
  FitBy before (s ∷ steps) after =
      ListsFit start before × PartsFit l p start before × StepFits before s × FitBy (behind before s) steps after

  pub record FitThroughout (before after : List (List Entry)) : Type 0 where
    pub steps : List Step
    pub fit : FitBy before steps after

  -- Of no section is the list a history's, and the engine invariant holds behind each.
  abbrev pub KeptBy : List (List Entry) → List Step → List (List Entry) → Type 0
  KeptBy before [] after = after ≡ before
  KeptBy before (s ∷ steps) after =
      (s.lock ≢ proc_lock) × (s.lock ≢ multi_lock) × AsksVolume l p start s.lock before (behind before s)
      × EngineInvariant start (behind before s) × KeptBy (behind before s) steps after

  pub record KeptThroughout (before after : List (List Entry)) : Type 0 where
    pub steps : List Step
    pub kept : KeptBy before steps after
