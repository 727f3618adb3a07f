-- The volumes of a media, and what a crash makes of them.
use Rattle.std.specs.Prelude.{◌≡◌, ℕ, ◌≤◌, List, [], ◌∷◌, length, Result, IsErrOf}
use Rattle.disk_core.specs.Faults.{HasRisen}
use Rattle.disk_core.specs.Images.{Only}
use Rattle.disk_core.specs.Volume.{Volume}
use Rattle.disk_core.specs.Pages.{Pages}
use Rattle.disk_core.specs.declared.media.MountRefusal.{MountRefusal}
use Rattle.disk_core.specs.declared.media.MountRefusal.TheVariants.{Failed}
use Rattle.disk_core.specs.declared.media.Volumes.{Volumes}

-- so many volumes of each kind
pub record HasBanks {L P : Type 0} (n : ℕ) (volumes : Volumes L P) : Type 0 where
  pub some : 1 ≤ n
  pub few : n ≤ 16
  pub xact : length volumes.xact.items ≡ n
  pub subtrans : length volumes.subtrans.items ≡ n
  pub offsets : length volumes.offsets.items ≡ n
  pub members : length volumes.members.items ≡ n

-- volumes that a first mount of so many banks may give
abbrev pub MayBeFirst : {L P : Type 0} → (ℕ → Volumes L P → Type 0) → ℕ → Volumes L P → Type 0
MayBeFirst begins banks volumes = HasBanks banks volumes × begins banks volumes

-- as many volumes of each kind
pub record HaveSameBanks {L P : Type 0} (old new : Volumes L P) : Type 0 where
  pub xact : length new.xact.items ≡ length old.xact.items
  pub subtrans : length new.subtrans.items ≡ length old.subtrans.items
  pub offsets : length new.offsets.items ≡ length old.offsets.items
  pub members : length new.members.items ≡ length old.members.items

-- a media's count never falls, and rises where a mount answers Failed
pub record CountsMount {T : Type 0} (result : Result T MountRefusal) (old new : ℕ) : Type 0 where
  pub kept : old ≤ new
  pub risen : IsErrOf result Failed → HasRisen old new

-- after a crash a log volume reads one of its images, and a further crash leaves just that
pub record LogCrashed {L : Type 0} (reads : L → Volume) (images : L → Volume → Type 0) (faults : L → ℕ) (old new : L) : Type 0 where
  pub image : images old (reads new)
  pub only : Only (reads new) (images new)
  pub count : faults old ≤ faults new

pub record PagesCrashed {P : Type 0} (pages : P → Pages) (images : P → Pages → Type 0) (faults : P → ℕ) (old new : P) : Type 0 where
  pub image : images old (pages new)
  pub only : Only (pages new) (images new)
  pub count : faults old ≤ faults new

-- the same, one by one
abbrev pub EachCrashed : {P : Type 0} → (P → P → Type 0) → List P → List P → Type 0
EachCrashed crashed [] [] = Unit {0}
EachCrashed crashed (p ∷ ps) (q ∷ qs) = crashed p q × EachCrashed crashed ps qs
EachCrashed crashed [] (q ∷ qs) = ⊥
EachCrashed crashed (p ∷ ps) [] = ⊥

pub record AllCrashed {L P : Type 0} (log_crashed : L → L → Type 0) (page_crashed : P → P → Type 0) (old new : Volumes L P) : Type 0 where
  pub log : log_crashed old.log new.log
  pub xact : EachCrashed page_crashed old.xact.items new.xact.items
  pub subtrans : EachCrashed page_crashed old.subtrans.items new.subtrans.items
  pub offsets : EachCrashed page_crashed old.offsets.items new.offsets.items
  pub members : EachCrashed page_crashed old.members.items new.members.items
