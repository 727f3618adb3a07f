-- Which media may be handed to a run.
use Rattle.std.specs.Global.{Box}
use Rattle.std.proofs.Common.{IsTrue, List, None, [], ap, false, length, subst, sym, true, ℕ, ◌∙◌, ◌≡◌}
use Rattle.std.proofs.lemmas.Bool.{false≢true}
use Rattle.std.specs.Prelude.{IsSome, Option}
use Rattle.disk_core.specs.declared.log_disk.LogDisk as logs
use Rattle.disk_core.specs.declared.page_disk.PageDisk as disks
use Rattle.disk_core.specs.declared.media.Volumes.{Volumes}
use Rattle.disk_core.specs.Media.{HasBanks}
use Rattle.disk_core.specs.Volume.{Volume}
use Rattle.disk_core.specs.MemLogViews.{written}
use Rattle.disk_core.specs.MemMediaViews.{IsFirst, first_log, gives, is_new}
use Rattle.disk_core.specs.declared.mem_log.MemLog.{MemLog}
use Rattle.disk_core.specs.declared.mem_media.MemMedia.{MemMedia}
use Rattle.disk_core.specs.declared.mem_pages.MemPages.{MemPages}
use Rattle.wal_core.specs.Log.{history_on}
use Rattle.wal_core.specs.Opening.{opened}
use Rattle.recoverable.specs.Fit.{KeptLog}
use Rattle.engine_life.specs.FirstLives.{MayBeginOver, MayMount}
pub use Rattle.session_run.specs.Unknown.{no_log}

-- nothing was written on the log
pub none_on_empty : (v : Volume) → v ≡ record { start = 0; bytes = [] } → history_on v ≡ None
unfolding opened
none_on_empty v same = ap history_on same

no_some : {A : Type 0} (o : Option A) → o ≡ None → IsSome o → ⊥
no_some o none some = let e : false ≡ true = subst IsSome none some in false≢true e

module _ {L P : Type 0} (l : logs.Ghosts L) (p : disks.Ghosts P) (kept : KeptLog) (n : ℕ) (v : Volumes L P) (has : HasBanks n v) where
  own_banks : HasBanks (length v.xact.items) v
  own_banks = subst (λ n. HasBanks n v) (sym has.xact) has

  -- over a new log
  pub new_may_begin : (IsTrue p.tells → IsTrue l.tells) → (IsTrue p.tells → history_on (l.reads v.log) ≡ None) → MayBeginOver l p kept v
  new_may_begin tells none = record { banks = own_banks; tells = tells; fits = λ told some. absurd (no_some (history_on (l.reads v.log)) (none told) some) }

  -- over pages that tell nothing
  pub silent_may_begin : p.tells ≡ false → MayBeginOver l p kept v
  silent_may_begin silent = record { banks = own_banks; tells = λ told. absurd (false≢true (sym silent ∙ told)); fits = λ told some. absurd (false≢true (sym silent ∙ told)) }

-- a media in memory on which nothing was written; its log tells what is written
pub mem_may_begin : {l : logs.Ghosts (Box MemLog)} {p : disks.Ghosts (Box MemPages)} (kept : KeptLog) (m : MemMedia) → first_log m ≡ [] → IsTrue (is_new m) → IsTrue l.tells → ((b : Box MemLog) → l.reads b ≡ written b.value)
    → (banks : ℕ) (v : Volumes (Box MemLog) (Box MemPages)) → MayMount (is_new m) (λ n. IsFirst (first_log m) n) (gives m) banks v → MayBeginOver l p kept v
mem_may_begin {l} {p} kept m empty new tells reads banks v mounted =
    let first = mounted.first new in
    new_may_begin l p kept banks v first.0 (λ told. tells) (λ told. none_on_empty (l.reads v.log) (reads v.log ∙ first.1.log_written ∙ ap (λ (bytes : List ℕ). record { start = 0; bytes = bytes }) empty))
