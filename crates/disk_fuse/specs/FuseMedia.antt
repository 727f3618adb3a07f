-- The volumes of a fused media: each fails its calls on, and one of them only so many.
use Rattle.std.specs.Prelude.{◌≡◌, ℕ, ◌+◌, ◌≤◌, ◌==◌, Bool, true, false, List, [], ◌∷◌, length, slice_index, slice_get, vec_capacity, Option, Some, None}
use Rattle.disk_fuse.specs.declared.fails.Fails.{Fails}
use Rattle.disk_fuse.specs.declared.fails.Fails.TheVariants.{Never}
use Rattle.disk_fuse.specs.declared.fused_log.FusedLog.{FusedLog}
use Rattle.disk_fuse.specs.declared.fused_pages.FusedPages.{FusedPages}
use Rattle.disk_core.specs.declared.media.Volumes.{Volumes}
use Rattle.disk_core.specs.declared.media.Which.{Which}
use Rattle.disk_core.specs.declared.media.Which.TheVariants.{Log, Xact, Subtrans, Offsets, Members}

abbrev pub is_log : Which → Bool
is_log Log = true
is_log (Xact n) = false
is_log (Subtrans n) = false
is_log (Offsets n) = false
is_log (Members n) = false

-- its bank, if it is of that store
abbrev pub xact_bank : Which → Option ℕ
xact_bank Log = None
xact_bank (Xact n) = Some n
xact_bank (Subtrans n) = None
xact_bank (Offsets n) = None
xact_bank (Members n) = None

abbrev pub subtrans_bank : Which → Option ℕ
subtrans_bank Log = None
subtrans_bank (Xact n) = None
subtrans_bank (Subtrans n) = Some n
subtrans_bank (Offsets n) = None
subtrans_bank (Members n) = None

abbrev pub offsets_bank : Which → Option ℕ
offsets_bank Log = None
offsets_bank (Xact n) = None
offsets_bank (Subtrans n) = None
offsets_bank (Offsets n) = Some n
offsets_bank (Members n) = None

abbrev pub members_bank : Which → Option ℕ
members_bank Log = None
members_bank (Xact n) = None
members_bank (Subtrans n) = None
members_bank (Offsets n) = None
members_bank (Members n) = Some n

abbrev pub is_at : Option ℕ → ℕ → Bool
is_at None i = false
is_at (Some n) i = n == i

-- which calls fail: these, where the volume is the fused one
abbrev pub fails_if : Bool → Fails → Fails
fails_if true fails = fails
fails_if false fails = Never

-- the banks from number i on, with the counts of what each refused before
abbrev pub fused_banks : {P : Type 0} → Option ℕ → Fails → List ℕ → ℕ → List P → List (FusedPages P)
fused_banks at fails refused i [] = []
fused_banks at fails refused i (p ∷ ps) =
    record { inner = p; fails = fails_if (is_at at i) fails; refused = slice_index refused i } ∷ fused_banks at fails refused (i + 1) ps

-- which calls of a bank fail; none of one that isn't there
abbrev pub bank_fails : {P : Type 0} → Option (FusedPages P) → Fails
bank_fails None = Never
bank_fails (Some f) = f.fails

-- which calls of that volume fail
abbrev pub fails_in : {L P : Type 0} → Which → Volumes (FusedLog L) (FusedPages P) → Fails
fails_in Log volumes = volumes.log.fails
fails_in (Xact n) volumes = bank_fails (slice_get volumes.xact.items n)
fails_in (Subtrans n) volumes = bank_fails (slice_get volumes.subtrans.items n)
fails_in (Offsets n) volumes = bank_fails (slice_get volumes.offsets.items n)
fails_in (Members n) volumes = bank_fails (slice_get volumes.members.items n)

abbrev pub inner_banks : {P : Type 0} → List (FusedPages P) → List P
inner_banks [] = []
inner_banks (f ∷ fs) = f.inner ∷ inner_banks fs

abbrev pub refusals : {P : Type 0} → List (FusedPages P) → List ℕ
refusals [] = []
refusals (f ∷ fs) = f.refused ∷ refusals fs

-- no volume has refused a call yet
pub record HaveRefusedNone (refused : Volumes ℕ ℕ) : Type 0 where
  pub log : refused.log ≡ 0
  pub xact : refused.xact.items ≡ []
  pub subtrans : refused.subtrans.items ≡ []
  pub offsets : refused.offsets.items ≡ []
  pub members : refused.members.items ≡ []

-- the volumes, of which one fails these calls, and with the counts of what each refused in the lives before
pub record IsFused {L P : Type 0} (at : Which) (fails : Fails) (refused : Volumes ℕ ℕ) (volumes : Volumes L P) (fused : Volumes (FusedLog L) (FusedPages P)) : Type 0 where
  pub log : fused.log ≡ record { inner = volumes.log; fails = fails_if (is_log at) fails; refused = refused.log }
  pub xact : fused.xact.items ≡ fused_banks (xact_bank at) fails refused.xact.items 0 volumes.xact.items
  pub subtrans : fused.subtrans.items ≡ fused_banks (subtrans_bank at) fails refused.subtrans.items 0 volumes.subtrans.items
  pub offsets : fused.offsets.items ≡ fused_banks (offsets_bank at) fails refused.offsets.items 0 volumes.offsets.items
  pub members : fused.members.items ≡ fused_banks (members_bank at) fails refused.members.items 0 volumes.members.items

-- the volumes within
pub record AreWithin {L P : Type 0} (fused : Volumes (FusedLog L) (FusedPages P)) (volumes : Volumes L P) : Type 0 where
  pub log : volumes.log ≡ fused.log.inner
  pub xact : volumes.xact.items ≡ inner_banks fused.xact.items
  pub subtrans : volumes.subtrans.items ≡ inner_banks fused.subtrans.items
  pub offsets : volumes.offsets.items ≡ inner_banks fused.offsets.items
  pub members : volumes.members.items ≡ inner_banks fused.members.items

pub record IsUnfused {L P : Type 0} (fused : Volumes (FusedLog L) (FusedPages P)) (volumes : Volumes L P) (refused : Volumes ℕ ℕ) : Type 0 where
  pub within : AreWithin fused volumes
  pub log_refused : refused.log ≡ fused.log.refused
  pub xact_refused : refused.xact.items ≡ refusals fused.xact.items
  pub subtrans_refused : refused.subtrans.items ≡ refusals fused.subtrans.items
  pub offsets_refused : refused.offsets.items ≡ refusals fused.offsets.items
  pub members_refused : refused.members.items ≡ refusals fused.members.items

-- the volumes within fell so
pub record FuseFell {L P : Type 0} (fell : Volumes L P → Volumes L P → Type 0) (old new : Volumes (FusedLog L) (FusedPages P)) : Type 0 where
  pub before : Volumes L P
  pub after : Volumes L P
  pub within_old : AreWithin old before
  pub within_new : AreWithin new after
  pub falls : fell before after

-- empty vectors with room for the banks
pub record HasRoomFor {L P U T : Type 0} (volumes : Volumes L P) (room : Volumes U T) : Type 0 where
  pub xact : (room.xact.items ≡ []) × (length volumes.xact.items ≤ vec_capacity room.xact)
  pub subtrans : (room.subtrans.items ≡ []) × (length volumes.subtrans.items ≤ vec_capacity room.subtrans)
  pub offsets : (room.offsets.items ≡ []) × (length volumes.offsets.items ≤ vec_capacity room.offsets)
  pub members : (room.members.items ≡ []) × (length volumes.members.items ≤ vec_capacity room.members)

-- what the next mount gives: what was given back, or what the media within gives
abbrev pub fuse_gives : {L P : Type 0} → (Volumes L P → Type 0) → Option (Volumes (FusedLog L) (FusedPages P)) → Which → Fails → Volumes ℕ ℕ → Volumes (FusedLog L) (FusedPages P) → Type 0
fuse_gives inner (Some held) at fails refused volumes = volumes ≡ held
fuse_gives {L = L} {P = P} inner None at fails refused volumes = (w : Volumes L P) × inner w × IsFused at fails refused w volumes

-- what a first mount gives: such volumes of the media within, of which one fails these calls, and with those counts
abbrev pub fuse_begins : {L P : Type 0} → (Volumes L P → Type 0) → Which → Fails → Volumes ℕ ℕ → Volumes (FusedLog L) (FusedPages P) → Type 0
fuse_begins {L = L} {P = P} inner at fails refused volumes = (w : Volumes L P) × inner w × IsFused at fails refused w volumes

abbrev pub fuse_is_new : {V : Type 0} → Bool → Option V → Bool
fuse_is_new inner (Some held) = false
fuse_is_new inner None = inner
