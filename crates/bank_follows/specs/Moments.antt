-- At every moment of a bank's calls, and after them, a crash leaves what the list of the bank's lock allows.
use Rattle.std.specs.Prelude.{◌≡◌, ℕ, List, [], ◌∷◌, ◌++◌, Option}
use Rattle.disk_core.specs.Images.{LeavesOnly}
use Rattle.disk_core.specs.Pages.{Pages, page_bytes}
use Rattle.slru_bank.specs.Crash.{CrashLeaves, IsMixture}
use Rattle.tx_core.specs.declared.entry.Entry.{Entry}
use Rattle.tx_core.specs.declared.entry.Kind.TheVariants as kinds
use Rattle.tx_core.specs.declared.entry.Start.{Start}
use Rattle.tx_core.specs.declared.entry.State.{State}
use Rattle.recoverable.specs.Bytes.{StoredBytes}
use Rattle.bank_follows.specs.Cells.{Cells, CutoffStands, ImageShows, IsGoneOr, IsQuietOn, MapBetween, MapShows}
use Rattle.bank_follows.specs.Stores.{IsMemberAt, IsOffsetAt, IsParentAt, IsXactAt, member_cells, offset_cells, parent_cells, xact_cells}

-- an image shows a beginning of the list
abbrev pub ShowsBeginning : {I V : Type 0} → Cells I V → (ℕ → Type 0) → List Entry → Pages → Type 0
ShowsBeginning s Asked es c = (before rest : List Entry) × (es ≡ before ++ rest) × ImageShows s Asked before c

module _ {D : Type 0} (images : D → Pages → Type 0) (moment : D → ℕ) (left_at : D → ℕ → Pages → Type 0) where
  -- a crash at each moment from one value of a disk to a later one, and after it, leaves an image that has P
  pub record Throughout (P : Pages → Type 0) (before after : D) : Type 0 where
    pub now : (c : Pages) → images after c → P c
    pub each : LeavesOnly moment left_at before after P

  module _ {I V : Type 0} (s : Cells I V) (Asked : ℕ → Type 0) where
    -- at each moment since this value of the disk
    abbrev pub BeginningsShown : List Entry → D → D → Type 0
    BeginningsShown es first now = LeavesOnly moment left_at first now (ShowsBeginning s Asked es)

    -- One critical section, call by call, at every moment of it.
    pub record KeepsMoments : Type 0 where
      -- before its first call, of a section that isn't a sync
      pub begins : (es : List Entry) (e : Entry) (d : D) → (e.kind ≡ kinds.Sync → ⊥)
          → ((c : Pages) → left_at d (moment d) c → images d c)
          → ((c : Pages) → images d c → ImageShows s Asked es c) → Throughout (ImageShows s Asked (es ++ e ∷ [])) d d
      -- a call more
      pub calls : (es : List Entry) (e : Entry) (m : ℕ → List ℕ) (d0 d1 d2 : D) → (e.kind ≡ kinds.Sync → ⊥)
          → MapBetween s Asked es e m
          → Throughout (ImageShows s Asked (es ++ e ∷ [])) d0 d1
          → CrashLeaves (IsMixture m m) images moment left_at d1 d2
          → Throughout (ImageShows s Asked (es ++ e ∷ [])) d0 d2
      -- a removal more
      pub removes : (es : List Entry) (e : Entry) (m : ℕ → List ℕ) (cutoff : ℕ) (d0 d1 d2 : D)
          → (e.kind ≡ kinds.Sync → ⊥) → CutoffStands s (es ++ e ∷ []) cutoff → MapBetween s Asked es e m
          → Throughout (ImageShows s Asked (es ++ e ∷ [])) d0 d1
          → CrashLeaves (IsGoneOr s cutoff m) images moment left_at d1 d2
          → Throughout (ImageShows s Asked (es ++ e ∷ [])) d0 d2
      -- a flush: till it is done the images show the list without the sync, and after it with it
      pub flushes : (es : List Entry) (m : ℕ → List ℕ) (d0 d1 : D) → MapShows s Asked es m
          → ((c : Pages) → left_at d0 (moment d0) c → images d0 c)
          → ((c : Pages) → images d0 c → ImageShows s Asked es c)
          → CrashLeaves (IsMixture m m) images moment left_at d0 d1 → Throughout (ImageShows s Asked es) d0 d1
      pub syncs : (es : List Entry) (e : Entry) (m : ℕ → List ℕ) (d : D) → IsQuietOn s e → MapShows s Asked es m
          → ((c : Pages) → images d c → (q : ℕ) → page_bytes (c q) ≡ m q)
          → (c : Pages) → images d c → ImageShows s Asked (es ++ e ∷ []) c
      -- one section after the others of a life: a flush shows the list of before it, the others the list with its entry
      pub goes_on : (es more before rest : List Entry) (d0 d1 d2 : D) → BeginningsShown es d0 d1
          → es ++ more ≡ before ++ rest → Throughout (ImageShows s Asked before) d1 d2
          → BeginningsShown (es ++ more) d0 d2

-- The four stores.
module _ {D : Type 0} (images : D → Pages → Type 0) (moment : D → ℕ) (left_at : D → ℕ → Pages → Type 0) where
  abbrev pub XactMoments : Type 0
  XactMoments = (start : Start) (shown : ℕ → Option State) (bank : ℕ)
      → KeepsMoments images moment left_at (xact_cells start shown) (IsXactAt start bank)

  abbrev pub ParentMoments : Type 0
  ParentMoments = (start : Start) (bank : ℕ)
      → KeepsMoments images moment left_at (parent_cells start) (IsParentAt start bank)

  abbrev pub OffsetMoments : Type 0
  OffsetMoments = (start : Start) (shown : ℕ → Option StoredBytes) (bank : ℕ)
      → KeepsMoments images moment left_at (offset_cells start shown) (IsOffsetAt start bank)

  abbrev pub MemberMoments : Type 0
  MemberMoments = (start : Start) (shown : ℕ → Option StoredBytes) (bank : ℕ)
      → KeepsMoments images moment left_at (member_cells start shown) (IsMemberAt start bank)
