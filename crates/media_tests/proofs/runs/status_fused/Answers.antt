use Rattle.std.proofs.Common.{[], refl, subst, sym, ◌≡◌}
use Rattle.std.specs.Prelude.{Bool, IsTrue, not}
use Rattle.disk_core.specs.declared.mem_media.MemMedia.{MemMedia}
use Rattle.disk_core.specs.MemMediaViews.{first_log, is_new}
use Rattle.disk_fuse.specs.FuseMedia.{fuse_is_new}
use Rattle.session_run.specs.Unknown.{no_log}
use Rattle.session_run.proofs.Handed.{new_may_begin}
use Rattle.media_tests.proofs.FusedRuns.{none_within}
use Rattle.media_tests.proofs.runs.status_fused.Goals as goal

pub status_over-requires-clause-idle : goal.status_over-requires-clause-idle
status_over-requires-clause-idle g c κs within = subst (λ (b : Bool). IsTrue (not b)) (sym c.of-media.ensures.idle) refl

pub status_over-requires-clause-may : goal.status_over-requires-clause-may
status_over-requires-clause-may g c κs within = λ banks v mounted.
    let m = c.of-media.result in
    let made = c.of-media.ensures in
    let inner = c.new-inner.ensures in
    let empty = subst (λ (i : MemMedia). first_log i ≡ []) (sym made.inner) inner.log in
    let within_new = subst (λ (i : MemMedia). IsTrue (is_new i)) (sym made.inner) inner.new in
    let first = mounted.first (subst (λ o. IsTrue (fuse_is_new (is_new m.inner) o)) (sym made.held) within_new) in
    new_may_begin _ _ no_log banks v first.0 (λ told. refl) (λ told. none_within m.inner empty m.at m.fails m.refused banks v first.1)
