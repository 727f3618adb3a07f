-- Volumes over which a life may go on, and those that come back where none does.
use Rattle.std.proofs.Common.{inl, inr, subst, sym, ℕ}
use Rattle.disk_core.specs.declared.log_disk.LogDisk as logs
use Rattle.disk_core.specs.declared.page_disk.PageDisk as disks
use Rattle.disk_core.specs.declared.media.Volumes.{Volumes}
use Rattle.disk_core.specs.Images.{NoMore, Only}
use Rattle.disk_core.specs.Media.{HasBanks}
use Rattle.recoverable.specs.Fit.{KeptLog}
use Rattle.recoverable.proofs.Crashed.{crash_keeps_fit}
use Rattle.engine_life.specs.declared.refusal.NoLife.{NoLife}
use Rattle.engine_life.specs.declared.refusal.NoLife.TheVariants as no_lives
use Rattle.engine_life.specs.FirstLives.{MayBeginOver}
use Rattle.engine_life.specs.Lives.{FitsLog}
use Rattle.engine_life.specs.NextLives.{CrashGoesOn, MayGoOn, StayFit, WhenRefused}
use Rattle.engine_life.specs.Reopening.{LeavesLog}

module _ {L P : Type 0} (l : logs.Ghosts L) (p : disks.Ghosts P) where
  -- behind a crash the next life may go on from what it left
  pub crash_goes_on : CrashGoesOn l p
  crash_goes_on kept old new crashed may told =
      let was = may told in
      let c = crashed was.0 told in
      (was.0, crash_keeps_fit l p kept old.log new.log old.xact.items new.xact.items old.offsets.items new.offsets.items old.members.items new.members.items c.log c.xact c.offsets c.members was.1)

  -- over volumes from which one may go on a life may be opened
  pub may_begin : (kept : KeptLog) (banks : ℕ) (volumes : Volumes L P) → HasBanks banks volumes → MayGoOn l p kept volumes → MayBeginOver l p kept volumes
  may_begin kept banks volumes has may = record {
    banks = subst (λ (n : ℕ). HasBanks n volumes) (sym has.xact) has;
    tells = λ told. (may told).0;
    fits = λ told some. (may told).1;
  }

  pub when_fits : (kept : KeptLog) (old new : Volumes L P) (refusal : NoLife) → LeavesLog l p old new kept → WhenRefused l p kept old new refusal
  when_fits kept old new (no_lives.Damaged at) fit = fit
  when_fits kept old new no_lives.Device fit = fit
  when_fits kept old new no_lives.Full fit = fit
  when_fits kept old new no_lives.Memory fit = tt

  -- so of a media that took them back
  pub rested_fit : (kept : KeptLog) (old new : Volumes L P) (gave gives : Volumes L P → Type 0) (refusal : NoLife) → gave old → Only new gives
      → (FitsLog l p kept old → WhenRefused l p kept old new refusal) → StayFit l p kept gave gives refusal
  rested_fit kept old new gave gives refusal given only fit = λ now given_now.
      inr (old, given, λ fits. subst (λ (z : Volumes L P). WhenRefused l p kept old z refusal) (sym (only now given_now)) (fit fits))

  -- and of one that gave none
  pub unmounted_fit : (kept : KeptLog) (gave gives : Volumes L P → Type 0) (refusal : NoLife) → NoMore gave gives → StayFit l p kept gave gives refusal
  unmounted_fit kept gave gives refusal same = λ new given. inl (same new given)
