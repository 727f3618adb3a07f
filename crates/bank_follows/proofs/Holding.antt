-- The volumes of an engine fit.
use Rattle.std.proofs.Common.{ℕ}
use Rattle.disk_core.specs.Pages.{Pages}
use Rattle.disk_core.specs.Volume.{Volume}
use Rattle.recoverable.proofs.Whole.{volumes_fit}
use Rattle.bank_follows.specs.Holding.{EngineFits, disks_of}
use Rattle.bank_follows.specs.Near.{MakesNear}
use Rattle.bank_follows.proofs.Near.{short_makes_near}
use Rattle.bank_follows.proofs.Standing.{banks_stand}

module _ {L D : Type 0} (log_images : L → Volume → Type 0) (images : D → Pages → Type 0) (moment : D → ℕ) (left_at : D → ℕ → Pages → Type 0) where
  pub engine_fits : EngineFits log_images images moment left_at
  engine_fits start lists tells log recs next kept engine k right short told holds =
      let log_holds = holds.log_holds told in
      let near : (bank : ℕ) → MakesNear start lists bank = λ bank. short_makes_near start lists bank k short in
      volumes_fit log_images images start lists log (disks_of engine) k right short log_holds.is_of (λ left of. record {
        log_image = record {
          kept = kept;
          opens = log_holds.keeps.each left.log of.log;
          forgotten = log_holds.beginning;
        };
        states = λ bank inside.
            let b = engine.xact bank in let h = holds.xact bank inside told in
            (banks_stand images moment left_at start bank).states_left h.shown _ b.pages b.cutoff b.last b.disk (left.xact bank) h.clean (h.stands ((near bank).xact h.shown)) (of.xact bank inside);
        offsets_are = λ bank inside.
            let b = engine.offsets bank in let h = holds.offsets bank inside told in
            (banks_stand images moment left_at start bank).offsets_left h.shown _ b.pages b.cutoff b.last b.disk (left.offsets bank) h.clean (h.stands ((near bank).offsets h.shown)) (of.offsets bank inside);
        members_are = λ bank inside.
            let b = engine.members bank in let h = holds.members bank inside told in
            (banks_stand images moment left_at start bank).members_left h.shown _ b.pages b.cutoff b.last b.disk (left.members bank) h.clean (h.stands ((near bank).members h.shown)) (of.members bank inside) (h.tails (left.members bank) (of.members bank inside));
      })
