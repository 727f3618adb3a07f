-- A call of a volume in memory takes one moment.
use Rattle.std.proofs.Common.{◌≡◌, List, [], ◌∷◌, ◌++◌, length, sym, subst}
use Rattle.disk_core.specs.Images.{Elapses}
use Rattle.disk_core.specs.Past.{LeftAt, moment_passes}
use Rattle.disk_core.specs.Volume.{Volume}
use Rattle.disk_core.specs.declared.mem_log.LogMoment.{LogMoment}
use Rattle.disk_core.specs.MemLogViews.{log_left}
use Rattle.disk_core.specs.Pages.{Pages}
use Rattle.disk_core.specs.declared.mem_pages.PageMoment.{PageMoment}
use Rattle.disk_core.specs.MemPagesViews.{pages_left}

pub log_elapses : (past now : List LogMoment) (m : LogMoment) (images : Volume → Type 0) → now ≡ past ++ m ∷ []
    → Elapses (length past) (length now) (LeftAt log_left past (log_left m)) (LeftAt log_left now images) images
log_elapses past now m images is =
    subst (λ (l : List LogMoment). Elapses (length past) (length l) (LeftAt log_left past (log_left m)) (LeftAt log_left l images) images) (sym is) (moment_passes log_left past m images)

pub pages_elapse : (past now : List PageMoment) (m : PageMoment) (images : Pages → Type 0) → now ≡ past ++ m ∷ []
    → Elapses (length past) (length now) (LeftAt pages_left past (pages_left m)) (LeftAt pages_left now images) images
pages_elapse past now m images is =
    subst (λ (l : List PageMoment). Elapses (length past) (length l) (LeftAt pages_left past (pages_left m)) (LeftAt pages_left l images) images) (sym is) (moment_passes pages_left past m images)
