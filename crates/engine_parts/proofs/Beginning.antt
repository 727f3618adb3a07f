-- With which record what a crash leaves of the log's volume begins.
use Rattle.std.proofs.Common.{◌≡◌, ◌⊎◌, ℕ, ◌+◌, ap, arith, subst, sym, ◌∙◌}
use Rattle.disk_core.specs.Volume.{Volume}
use Rattle.disk_core.specs.declared.log_disk.LogDisk as logs
use Rattle.wal_core.specs.Kept.{first_on}
use Rattle.engine_parts.specs.Begins.{CrashBegins, LogBegins}
use Rattle.engine_parts.specs.Stand.{begin_asked, begin_other}

module _ {D : Type 0} (g : logs.Ghosts D) where
  pub log_begins : LogBegins g
  log_begins start log es s told =
      let k = (s.kept told).2 in let o = s.others told in let is = s.first_is.exact in let to = s.flushed_is in record {
        before = o.0;
        begins = λ c image. subst (λ (n : ℕ). (first_on c ≡ n) ⊎ (first_on c ≡ begin_other o.0 start es)) is (o.1 c image);
        settled = λ past c image. k.settled (omega (arith, past, is, to)) c image ∙ is;
      }

  pub crash_begins : CrashBegins g
  crash_begins start es old new crashed b = record {
    before = b.before;
    begins = λ c same. subst (λ (v : Volume). (first_on v ≡ begin_asked start es) ⊎ (first_on v ≡ begin_other b.before start es)) (sym same) (b.begins (g.reads new) crashed.image);
    settled = λ past c same. ap first_on same ∙ b.settled past (g.reads new) crashed.image;
  }
