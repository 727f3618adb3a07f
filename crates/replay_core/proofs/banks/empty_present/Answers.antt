use Rattle.std.proofs.Common.{ap, arith, refl, subst, sym, ◌∙◌}
use Rattle.slru_bank.specs.Calls.{volume_of}
use Rattle.replay_core.specs.Begun.{IsEmpty}
use Rattle.replay_core.proofs.OnDisk.{read_durable}
use Rattle.replay_core.proofs.banks.empty_present.Goals as goal

pub returns-in-Ok-flush_all : goal.returns-in-Ok-flush_all
returns-in-Ok-flush_all g c =
    let p = g.P.PageDisk in
    let store = c.flush_all.new.self in
    record {
      empty = λ told.
          let durable = c.in-Ok-flush_all.ensures.durable told in
          subst (λ z. IsEmpty p z) (sym c.keep-in-Ok-flush_all.ensures) (record {
            zeros = λ x left q small. durable x left q ∙ (c.flush_all.ensures.same told q ∙ (c.in_default.ensures.bank.drops told).zeros q small refl);
            on_disk = read_durable store durable (g.met.P.PageDisk.reads_image (volume_of store) told);
          });
      cause = tt;
      count =
          let was = ap p.faults c.in-Ok.ensures.disk in
          let cleared = c.in_default.ensures.bank.sweeps.count in
          let flushed = c.flush_all.ensures.bank.count in
          let now = ap p.faults c.keep-in-Ok-flush_all.ensures in
          omega (arith, was, cleared, flushed, now);
    }
