-- What a media over a folder has mounted, and what it counts.
use Rattle.std.specs.Prelude.{◌≡◌, ℕ, ◌+◌, ◌-◌, ◌^◌, min, Bool, not, All, Option, None, Some, Result, Ok, Err}
use Rattle.disk_core.specs.Media.{HasBanks}
use Rattle.disk_core.specs.declared.media.MountRefusal.{MountRefusal}
use Rattle.disk_core.specs.declared.media.MountRefusal.TheVariants.{Failed, Memory}
use Rattle.disk_core.specs.declared.media.Volumes.{Volumes}
use Rattle.disk_folder.specs.declared.folder_log.FolderLog.{FolderLog}
use Rattle.disk_folder.specs.declared.folder_pages.FolderPages.{FolderPages}
use Rattle.disk_folder.specs.declared.folder_media.FolderMedia.{FolderMedia}

abbrev pub is_idle : {R F D : Type 0} → FolderMedia R F D → Bool
is_idle m = not m.is_mounted

abbrev pub IsNewBank : {R F D : Type 0} → FolderPages R F D → Type 0
IsNewBank pages = pages.faults ≡ 0

-- the volumes of a first mount: none has counted a fault, and it isn't said what they hold
pub record IsFirst {R F D : Type 0} (banks : ℕ) (volumes : Volumes (FolderLog R F D) (FolderPages R F D)) : Type 0 where
  pub has : HasBanks banks volumes
  pub log : volumes.log.faults ≡ 0
  pub xact : All IsNewBank volumes.xact.items
  pub subtrans : All IsNewBank volumes.subtrans.items
  pub offsets : All IsNewBank volumes.offsets.items
  pub members : All IsNewBank volumes.members.items

-- so, with the folder's own number of banks
abbrev pub IsFirstOfSome : {R F D : Type 0} → Volumes (FolderLog R F D) (FolderPages R F D) → Type 0
IsFirstOfSome volumes = (banks : ℕ) × IsFirst banks volumes

-- what the next mount gives: what was given back, or at first a folder's volumes
abbrev pub given_by : {R F D : Type 0} → Option (Volumes (FolderLog R F D) (FolderPages R F D)) → Volumes (FolderLog R F D) (FolderPages R F D) → Type 0
given_by (Some held) volumes = volumes ≡ held
given_by None volumes = IsFirstOfSome volumes

abbrev pub gives : {R F D : Type 0} → FolderMedia R F D → Volumes (FolderLog R F D) (FolderPages R F D) → Type 0
gives m volumes = given_by m.held volumes

-- the count of faults after a refusal: want of memory is none
abbrev pub counted_by_refusal : MountRefusal → ℕ → ℕ
counted_by_refusal Failed before = min (before + 1) (2 ^ 64 - 1)
counted_by_refusal Memory before = before

abbrev pub counted_by_mount : {T : Type 0} → Result T MountRefusal → ℕ → ℕ
counted_by_mount (Ok value) before = before
counted_by_mount (Err refusal) before = counted_by_refusal refusal before
