use Rattle.std.proofs.Common.{◌≡◌, ℕ, List, refl, sym, ap, subst, ◌∙◌}
use Rattle.std.proofs.lemmas.Result.{IfOk-weaker, on_err_weaker}
use Rattle.hall.specs.Calls.{start_of, view}
use Rattle.hall.specs.declared.view.Stage.TheVariants.{Inside}
use Rattle.notes.specs.Lists.{at}
use Rattle.wal_core.specs.LogViews.{log_disk}
use Rattle.disk_core.specs.Volume.{IsRead}
use Rattle.tx_core.specs.declared.entry.Entry.{Entry}
use Rattle.tx_core.specs.EngineInvariant.{EngineInvariant}
use Rattle.tx_core.specs.Locks.{log_lock}
use Rattle.engine_parts.specs.Parts.{IsLogOf}
use Rattle.host_calls.specs.Shown.{ShowsLog}
use Rattle.engine_host.proofs.Homing.{came_home, is_alone}
use Rattle.host_sections.proofs.LogSteps.{IsSameLog, log_same}
use Rattle.host_calls.proofs.Logging.{log_failed, shows_log}
use Rattle.host_calls.proofs.log.dump_log.Goals as goal

pub take_log-held-requires : goal.take_log-held-requires
take_log-held-requires g c = record { alone = is_alone c.args.hall.now c.args.host.now c.requires.home }

pub put_back-requires-clause-inside : goal.put_back-requires-clause-inside
put_back-requires-clause-inside g c = let i = c.take_log-held.ensures.inside in i.inside ∙ ap Inside (sym i.cell)

pub put_back-requires-clause-stands : goal.put_back-requires-clause-stands
put_back-requires-clause-stands g c =
    let start = start_of c.args.hall.now in
    let within = view c.args.host.now.pass in
    let i = c.take_log-held.ensures.inside in
    let r = c.dump-found.ensures in
    let stands = subst (λ l. IsLogOf start l (at within.seen log_lock)) (sym c.deref_mut-log.ensures.value) c.take_log-held.ensures.stands in
    subst (λ (z : ℕ × List (List Entry)). (z.0 ≡ log_lock) × IsLogOf start c.dump-found.new.self (at z.1 z.0)) (λ j. (sym i.cell j, sym i.seen j)) (
      refl,
      log_same start c.deref_mut-log.result.now c.dump-found.new.self (at within.seen log_lock)
          (record { recs = r.recs; next = r.next; first = r.first; flushed = r.flushed; counters = r.counters; down = r.stays; checkpoint = r.checkpoint; end = r.end; count = r.faults; images = r.crash }) stands,
    )

pub returns-clause-stays : goal.returns-clause-stays
returns-clause-stays g c = came_home c.args.hall.now log_lock c.args.host.now _ c.take_log-held.new.pass c.requires.home c.take_log-held.ensures.inside c.put_back.ensures.own.0 c.put_back.ensures.view refl refl

pub returns-clause-kept : goal.returns-clause-kept
returns-clause-kept g c = let i = c.take_log-held.ensures.inside in subst (EngineInvariant (start_of c.args.hall.now)) i.seen i.kept

pub returns-clause-bytes : goal.returns-clause-bytes
returns-clause-bytes g c told =
    let start = start_of c.args.hall.now in
    let within = view c.args.host.now.pass in
    let i = c.take_log-held.ensures.inside in
    let log = c.deref_mut-log.result.now in
    let old = c.args.into.now in
    let new = c.dump-found.new.into in
    let stands = subst (λ l. IsLogOf start l (at within.seen log_lock)) (sym c.deref_mut-log.ensures.value) c.take_log-held.ensures.stands in
    let P : ℕ → Type 0 = λ n. IsRead (g.L.LogDisk.reads (log_disk log)).bytes c.args.from old n new in
    let Q : ℕ → Type 0 = λ n. ShowsLog start (at (view c.args.host.now.pass).seen log_lock) c.args.from old n new in
    IfOk-weaker c.dump-found.result P Q (λ n read.
    shows_log start log (at within.seen log_lock) c.args.from n old new stands told (g.met.L.LogDisk.reads_image (log_disk log) told) read)
    (c.dump-found.ensures.bytes told)

pub returns-clause-fault : goal.returns-clause-fault
returns-clause-fault g c =
    let start = start_of c.args.hall.now in
    let within = view c.args.host.now.pass in
    let i = c.take_log-held.ensures.inside in
    let r = c.dump-found.ensures in
    let log = c.deref_mut-log.result.now in
    let same : IsSameLog log c.dump-found.new.self = record { recs = r.recs; next = r.next; first = r.first; flushed = r.flushed; counters = r.counters; down = r.stays; checkpoint = r.checkpoint; end = r.end; count = r.faults; images = r.crash } in
    on_err_weaker c.dump-found.result (λ f. (
      f.0,
      log_failed g.P.PageDisk start within.seen c.take_log-held.result log c.dump-found.new.self c.deref_mut-log.ensures.value same c.take_log-held.ensures.stands f.1,
    )) r.fault
