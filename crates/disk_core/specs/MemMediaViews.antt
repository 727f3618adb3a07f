-- What a media in memory holds.
use Rattle.std.specs.Prelude.{◌≡◌, ℕ, Bool, not, List, None, is_some, IsSomeAnd, All}
use Rattle.std.specs.Global.{Box}
use Rattle.disk_core.specs.MemLogViews.{written, synced, log_images, LogFell}
use Rattle.disk_core.specs.MemPagesViews.{pages_images, pages_now, pages_synced, PagesFell}
use Rattle.disk_core.specs.Media.{HasBanks, LogCrashed, PagesCrashed}
use Rattle.disk_core.specs.declared.media.Crash.{Crash}
use Rattle.disk_core.specs.declared.media.Volumes.{Volumes}
use Rattle.disk_core.specs.declared.mem_log.MemLog.{MemLog}
use Rattle.disk_core.specs.declared.mem_pages.MemPages.{MemPages}
use Rattle.disk_core.specs.declared.mem_media.MemMedia.{MemMedia}

abbrev pub is_new : MemMedia → Bool
is_new m = not (is_some m.held)

-- what the next mount gives
abbrev pub gives : MemMedia → Volumes (Box MemLog) (Box MemPages) → Type 0
gives m volumes = IsSomeAnd m.held (λ held. volumes ≡ held)

-- what the log has at the first mount
abbrev pub first_log : MemMedia → List ℕ
first_log m = m.log.items

abbrev pub is_idle : MemMedia → Bool
is_idle m = not m.is_mounted

-- a page volume without pages, which has counted no fault
abbrev pub IsNewBank : Box MemPages → Type 0
IsNewBank p = ((q : ℕ) → pages_now p.value q ≡ None) × ((q : ℕ) → pages_synced p.value q ≡ None) × (p.value.faults ≡ 0)

-- what a crash makes of one
abbrev pub bank_crashed : Box MemPages → Box MemPages → Type 0
bank_crashed = PagesCrashed (λ b. pages_now b.value) (λ b. pages_images b.value) (λ b. b.value.faults)

abbrev pub BankFell : Crash → Box MemPages → Box MemPages → Type 0
BankFell how old new = PagesFell how old.value new.value

-- the same of the log
abbrev pub boxed_log_crashed : Box MemLog → Box MemLog → Type 0
boxed_log_crashed = LogCrashed (λ b. written b.value) (λ b. log_images b.value) (λ b. b.value.faults)

abbrev pub BoxedLogFell : Crash → Box MemLog → Box MemLog → Type 0
BoxedLogFell how old new = LogFell how old.value new.value

-- a log with these bytes, all of them synced, which has counted no fault
abbrev pub IsFirstLog : List ℕ → Box MemLog → Type 0
IsFirstLog bytes log =
    (written log.value ≡ record { start = 0; bytes = bytes }) × (synced log.value ≡ record { start = 0; bytes = bytes }) × (log.value.faults ≡ 0)

-- the volumes of a first mount: this log, all of it synced, and no pages; none has counted a fault
pub record IsFirst (log : List ℕ) (banks : ℕ) (volumes : Volumes (Box MemLog) (Box MemPages)) : Type 0 where
  pub has : HasBanks banks volumes
  pub log_written : written volumes.log.value ≡ record { start = 0; bytes = log }
  pub log_synced : synced volumes.log.value ≡ record { start = 0; bytes = log }
  pub log_faults : volumes.log.value.faults ≡ 0
  pub xact : All IsNewBank volumes.xact.items
  pub subtrans : All IsNewBank volumes.subtrans.items
  pub offsets : All IsNewBank volumes.offsets.items
  pub members : All IsNewBank volumes.members.items
