-- What a crash leaves of all volumes while a critical section runs.
use Rattle.std.specs.Prelude.{◌≡◌, ◌⊎◌, ℕ, ◌<◌, ◌≤◌, List, Option, length}
use Rattle.disk_core.specs.Pages.{Pages}
use Rattle.notes.specs.Lists.{Knows, add, at}
use Rattle.tx_core.specs.declared.entry.Entry.{Entry}
use Rattle.tx_core.specs.declared.entry.Kind.{Kind}
use Rattle.tx_core.specs.declared.entry.Kind.TheVariants as kinds
use Rattle.tx_core.specs.declared.entry.LogCall.TheVariants as calls
use Rattle.tx_core.specs.declared.entry.Start.{Start}
use Rattle.tx_core.specs.declared.entry.State.{State}
use Rattle.tx_core.specs.CleanStart.{CleanStart}
use Rattle.tx_core.specs.EngineInvariant.{EngineInvariant}
use Rattle.tx_core.specs.Entries.{session_of}
use Rattle.tx_core.specs.Locks.{log_lock, members_lock, offsets_lock, subtrans_lock, xact_lock}
use Rattle.recoverable.specs.Bytes.{ImageHasZeroTails, StoredBytes}
use Rattle.recoverable.specs.Fit.{KeptLog}
use Rattle.recoverable.specs.Laws.{LogFollows}
use Rattle.recoverable.specs.MemberImages.{CleanMembers}
use Rattle.recoverable.specs.OffsetImages.{CleanOffsets}
use Rattle.recoverable.specs.Volumes.{ImageFits, Left}
use Rattle.recoverable.specs.Whole.{BeganRight, IsShort, LeftFollows, MembersLeft, OffsetsLeft, StatesLeft}
use Rattle.bank_follows.specs.Cells.{ImageShows}
use Rattle.bank_follows.specs.Moments.{Throughout}
use Rattle.bank_follows.specs.Stores.{IsMemberAt, IsOffsetAt, IsXactAt, member_cells, offset_cells, xact_cells}
use Rattle.engine_parts.specs.Law.{MayKeep}

-- the lock of a bank
abbrev pub IsBankLock : ℕ → Type 0
IsBankLock lock = (bank : ℕ)
    × ((lock ≡ xact_lock bank) ⊎ ((lock ≡ subtrans_lock bank) ⊎ ((lock ≡ offsets_lock bank) ⊎ (lock ≡ members_lock bank))))

-- the log was to be forgotten, and that failed or it didn't
abbrev pub IsForget : Kind → Type 0
IsForget (kinds.Forget number) = Unit {0}
IsForget (kinds.LogFault (calls.Forget number) count) = Unit {0}
IsForget _ = ⊥

-- The section asks a bank's volume, or forgets the log. A flush of the log does more: while it runs, the log's images
-- are those of the list before it.
abbrev pub IsBankOrForget : ℕ → Entry → Type 0
IsBankOrForget lock e = IsBankLock lock ⊎ ((lock ≡ log_lock) × IsForget e.kind)

-- A session is inside this lock. It has seen so much, and may add this entry to any lists that go on from there.
pub record IsInside (start : Start) (lists seen : List (List Entry)) (lock : ℕ) (e : Entry) : Type 0 where
  pub asks : IsBankOrForget lock e
  pub there : lock < length lists
  pub knows : Knows session_of (session_of e) seen lists
  pub whole : at seen lock ≡ at lists lock
  pub may : MayKeep start seen lock e

-- Each combination of images fits of which those of its volume follow the list with the entry, and all others theirs:
-- at whichever moment of the section, and whatever others have added meanwhile.
abbrev pub SectionsFit : Type 0
SectionsFit = (start : Start) (lists seen : List (List Entry)) (lock : ℕ) (e : Entry) (kept : KeptLog) (left : Left)
    → EngineInvariant start lists → IsInside start lists seen lock e → BeganRight start → IsShort lists
    → LogFollows start lists kept → LeftFollows start (add lists lock e) kept left → ImageFits start.banks kept left

module _ {D : Type 0} (images : D → Pages → Type 0) (moment : D → ℕ) (left_at : D → ℕ → Pages → Type 0) where
  -- a crash at a moment from one value of a disk to a later one leaves what follows
  abbrev pub EachMoment : (Pages → Type 0) → D → D → Type 0
  EachMoment Follows before after = (t : ℕ) (c : Pages) → moment before ≤ t → t ≤ moment after → left_at after t c → Follows c

  -- So do the volumes of a bank, where their images show a list throughout.
  abbrev pub StatesMoments : Type 0
  StatesMoments = (start : Start) (shown : ℕ → Option State) (bank : ℕ) (es : List Entry) (before after : D) → CleanStart start shown
      → Throughout images moment left_at (ImageShows (xact_cells start shown) (IsXactAt start bank) es) before after
      → EachMoment (StatesLeft start bank es) before after

  abbrev pub OffsetsMoments : Type 0
  OffsetsMoments = (start : Start) (shown : ℕ → Option StoredBytes) (bank : ℕ) (es : List Entry) (before after : D) → CleanOffsets start shown
      → Throughout images moment left_at (ImageShows (offset_cells start shown) (IsOffsetAt start bank) es) before after
      → EachMoment (OffsetsLeft start bank es) before after

  abbrev pub MembersMoments : Type 0
  MembersMoments = (start : Start) (shown : ℕ → Option StoredBytes) (bank : ℕ) (es : List Entry) (before after : D) → CleanMembers start shown
      → Throughout images moment left_at (ImageShows (member_cells start shown) (IsMemberAt start bank) es) before after
      → Throughout images moment left_at ImageHasZeroTails before after
      → EachMoment (MembersLeft start bank es) before after
