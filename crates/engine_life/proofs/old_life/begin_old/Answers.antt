use Rattle.std.proofs.Common.{ap, length, map, rules, subst, sym, ◌+◌, ◌∙◌, ◌≡◌}
use Rattle.std.proofs.lemmas.Result.{IfOk-weaker}
use Rattle.recoverable.specs.Whole.{BeganRight}
use Rattle.wal_core.specs.LogViews.{log_next}
use Rattle.tx_core.specs.declared.entry.Start.{Start}
use Rattle.engine_host.specs.Counted.{AreCounted}
use Rattle.engine_host.specs.Opening.{faults_behind, gate_behind}
use Rattle.engine_host.specs.Stores.{of_members, of_offsets, of_subtrans}
use Rattle.engine_life.specs.declared.refusal.NoLife.{NoLife}
use Rattle.engine_life.specs.Lives.{IsBegun}
use Rattle.engine_life.specs.NextLives.{WhenRefused}
use Rattle.engine_life.specs.Refusals.{IsNoLife}
use Rattle.engine_life.specs.Reopening.{volumes_over}
use Rattle.engine_life.proofs.Finding.{not_recovered, opens_up_to}
use Rattle.engine_life.proofs.GoingOn.{when_fits}
use Rattle.engine_life.proofs.Living.{of_err}
use Rattle.engine_life.proofs.old_life.begin_old.Goals as goal

-- With a ghost value the clauses of `requires` have no names: they stand in their order behind what is asked of
-- lifetimes.

pub open_old-requires : goal.open_old-requires
open_old-requires g c =
    let v = c.args.volumes in let have = c.requires.1.1.1.1.0 in
    let some = c.requires.1.1.0 in
    let few = c.requires.1.1.1.0 in
    let as_many : (length v.subtrans.items ≡ length v.xact.items) × (length v.offsets.items ≡ length v.xact.items) × (length v.members.items ≡ length v.xact.items) = (have of_subtrans, have of_offsets, have of_members) in
    let sessions = c.requires.1.1.1.1.1.0 in
    let fits = c.requires.1.1.1.1.1.1 in
    search (rules, some, few, as_many, sessions, fits)

pub returns-in-Ok-clause-life : goal.returns-in-Ok-clause-life
returns-in-Ok-clause-life g c v is =
    let parts = c.in-Ok.parts in
    let k = c.in-Ok.ensures in
    IfOk-weaker c.begin_life.result _ _ (λ life begun. record {
      number = log_next c.args.found.log;
      cluster = parts.cluster;
      banks = k.cluster.0;
      sessions_are = k.cluster.1;
      base = k.start.2;
      opened_to = λ told. (opens_up_to g.L.LogDisk v c.args.found parts.cluster.base is k.start.1 told).0;
      gate = gate_behind parts.locks.items;
      gate_is = λ told.
          ap (λ (s : Start). s.gate) (sym k.start.0) ∙ (k.end ∙ ap (λ n. n + 62) (sym (opens_up_to g.L.LogDisk v c.args.found parts.cluster.base is k.start.1 told).1));
      faults = map faults_behind parts.locks.items;
      counted = subst (λ (s : Start). AreCounted g.L.LogDisk g.P.PageDisk v c.args.volumes s.faults) k.start.0 (k.counted v is);
      begun = subst (λ (s : Start). IsBegun parts.cluster s life.value) k.start.0 begun;
      right = λ told. subst BeganRight k.start.0 (k.right told);
    }) c.begin_life.ensures.life

pub returns-in-Ok-clause-again : goal.returns-in-Ok-clause-again
returns-in-Ok-clause-again g c told v is =
    of_err c.begin_life.result _ _ (λ e memory. subst (λ (r : NoLife). WhenRefused g.L.LogDisk g.P.PageDisk g.kept (volumes_over v c.args.volumes) e.0 r) (sym memory) tt) c.begin_life.ensures.refused

pub returns-in-Ok-clause-refused : goal.returns-in-Ok-clause-refused
returns-in-Ok-clause-refused g c v is fresh =
    of_err c.begin_life.result _ _ (λ e memory. subst (λ (r : NoLife). IsNoLife g.L.LogDisk g.P.PageDisk fresh (volumes_over v c.args.volumes) e.0 r) (sym memory) tt) c.begin_life.ensures.refused

-- no parts were made

pub returns-in-Err-clause-again : goal.returns-in-Err-clause-again
returns-in-Err-clause-again g c told v is =
    when_fits g.L.LogDisk g.P.PageDisk g.kept (volumes_over v c.args.volumes) c.in-Err.volumes c.unrecovered.result (c.in-Err.ensures.again told v is)

pub returns-in-Err-clause-refused : goal.returns-in-Err-clause-refused
returns-in-Err-clause-refused g c v is fresh =
    let old = volumes_over v c.args.volumes in
    subst (λ (r : NoLife). IsNoLife g.L.LogDisk g.P.PageDisk fresh old c.in-Err.volumes r) (sym c.unrecovered.ensures)
    (not_recovered g.L.LogDisk g.P.PageDisk fresh old c.in-Err.volumes c.in-Err.refusal (c.in-Err.ensures.refused v is))
