-- A run over a new media in memory of which one volume fails calls: its log has nothing.
use Rattle.std.proofs.Common.{List, None, [], ap, ℕ, ◌∙◌, ◌≡◌}
use Rattle.std.specs.Global.{Box}
use Rattle.disk_core.specs.declared.media.Volumes.{Volumes}
use Rattle.disk_core.specs.declared.media.Which.{Which}
use Rattle.disk_core.specs.declared.mem_log.MemLog.{MemLog}
use Rattle.disk_core.specs.declared.mem_media.MemMedia.{MemMedia}
use Rattle.disk_core.specs.declared.mem_pages.MemPages.{MemPages}
use Rattle.disk_core.specs.MemLogViews.{written}
use Rattle.disk_core.specs.MemMediaViews.{IsFirst, first_log}
use Rattle.disk_fuse.specs.FuseMedia.{fuse_begins}
use Rattle.disk_fuse.specs.declared.fails.Fails.{Fails}
use Rattle.disk_fuse.specs.declared.fused_log.FusedLog.{FusedLog}
use Rattle.disk_fuse.specs.declared.fused_pages.FusedPages.{FusedPages}
use Rattle.wal_core.specs.Log.{history_on}
use Rattle.session_run.proofs.Handed.{none_on_empty}

-- nothing was written on the log within
pub none_within : (inner : MemMedia) → first_log inner ≡ [] → (at : Which) (fails : Fails) (refused : Volumes ℕ ℕ) (banks : ℕ) (v : Volumes (FusedLog (Box MemLog)) (FusedPages (Box MemPages))) → fuse_begins (IsFirst (first_log inner) banks) at fails refused v → history_on (written v.log.inner.value) ≡ None
none_within inner empty at fails refused banks v begins =
    none_on_empty (written v.log.inner.value) (ap (λ (f : FusedLog (Box MemLog)). written f.inner.value) begins.2.log ∙ begins.1.log_written ∙ ap (λ (bytes : List ℕ). record { start = 0; bytes = bytes }) empty)
