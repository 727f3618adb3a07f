use Rattle.std.proofs.Common.{ap, map, refl, subst, sym, ◌∙◌}
use Rattle.std.proofs.lemmas.Result.{IfOk-weaker}
use Rattle.recoverable.proofs.NewBegins.{new_begins}
use Rattle.tx_core.specs.declared.entry.Start.{Start}
use Rattle.wal_core.specs.LogViews.{log_disk}
use Rattle.engine_host.specs.declared.cluster.Cluster.{Cluster}
use Rattle.engine_host.specs.Counted.{AreCounted}
use Rattle.engine_host.specs.Opening.{faults_behind, gate_behind, life_of}
use Rattle.engine_host.specs.Stores.{of_members, of_offsets, of_subtrans, of_xact}
use Rattle.engine_life.specs.declared.refusal.NoLife.{NoLife}
use Rattle.engine_life.specs.Lives.{IsBegun}
use Rattle.engine_life.specs.Refusals.{IsNoLife}
use Rattle.engine_life.specs.Reopening.{volumes_over}
use Rattle.engine_life.proofs.Finding.{counted_since, first_gate, new_log, not_begun}
use Rattle.engine_life.proofs.Living.{of_err}
use Rattle.engine_life.proofs.opened.begin_new.Goals as goal

pub open_new-requires-clause-new : goal.open_new-requires-clause-new
open_new-requires-clause-new g c = new_log c.requires.found.0 c.args.log c.requires.found.1

pub returns-in-Ok-clause-life : goal.returns-in-Ok-clause-life
returns-in-Ok-clause-life g c disk is =
    let parts = c.in-Ok.parts in
    let k = c.in-Ok.ensures in
    let v = c.args.volumes in let have = c.requires.banks in let banks = c.requires.cluster.banks in
    IfOk-weaker c.begin_life.result _ _ (λ life begun. record {
      banks = record { some = banks.0; few = banks.1; xact = have of_xact; subtrans = have of_subtrans; offsets = have of_offsets; members = have of_members };
      gate = gate_behind parts.locks.items;
      gate_is = λ told. first_gate g.L.LogDisk disk c.args.log (gate_behind parts.locks.items) is told (ap (λ (s : Start). s.gate) (sym k.start) ∙ k.end);
      faults = map faults_behind parts.locks.items;
      counted = subst (λ (s : Start). AreCounted g.L.LogDisk g.P.PageDisk disk v s.faults) k.start
          (counted_since g.L.LogDisk g.P.PageDisk disk (log_disk c.args.log) v parts.start.value.faults is.count k.counted);
      begun = subst (λ (s : Start). IsBegun c.args.cluster s life.value) k.start (subst (λ (d : Cluster). IsBegun d parts.start.value life.value) k.cluster begun);
      right = (new_begins (life_of c.args.cluster (gate_behind parts.locks.items) (map faults_behind parts.locks.items)) refl c.is_full_multi.ensures c.requires.cluster.base refl refl).right;
    }) c.begin_life.ensures.life

pub returns-in-Ok-clause-refused : goal.returns-in-Ok-clause-refused
returns-in-Ok-clause-refused g c disk is =
    of_err c.begin_life.result _ _ (λ e memory. subst (λ (r : NoLife). IsNoLife g.L.LogDisk g.P.PageDisk c.args.cluster (volumes_over disk c.args.volumes) e.0 r) (sym memory) tt) c.begin_life.ensures.refused

pub returns-in-Err-clause-refused : goal.returns-in-Err-clause-refused
returns-in-Err-clause-refused g c disk is =
    subst (λ (r : NoLife). IsNoLife g.L.LogDisk g.P.PageDisk c.args.cluster (volumes_over disk c.args.volumes) c.in-Err.volumes r) (sym c.refusal_of.ensures)
    (not_begun g.L.LogDisk g.P.PageDisk c.args.cluster disk c.args.log c.args.volumes c.in-Err.volumes c.in-Err.refusal is c.in-Err.ensures.refused)
