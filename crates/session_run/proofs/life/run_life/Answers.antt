use Rattle.std.proofs.Common.{ap, subst, sym, ◌∙◌, ◌<◌}
use Rattle.std.proofs.lemmas.Result.{on_ok_weaker}
use Rattle.std.specs.List.{All}
use Rattle.hall.specs.Calls.{start_of, view}
use Rattle.run_law.specs.Turns.{MayRun}
use Rattle.tx_core.specs.declared.entry.Start.{Start}
use Rattle.recoverable.specs.Whole.{BeganRight}
use Rattle.engine_life.specs.Lives.{volumes_left}
use Rattle.session_run.specs.Turns.{AreToldBy}
use Rattle.session_run.proofs.CausesTold.{causes_told}
use Rattle.session_run.proofs.LifeFits.{life_fits}
use Rattle.session_run.proofs.LifeLived.{ids_few, life_lived, lines_run, multis_few, number_told}
use Rattle.session_run.proofs.Returning.{grows_same}
use Rattle.session_run.proofs.StatesHeld.{bank_holds}
use Rattle.session_run.proofs.life.run_life.Goals as goal

pub run_rounds-ran-requires-clause-parked : goal.run_rounds-ran-requires-clause-parked
run_rounds-ran-requires-clause-parked g c κs within = λ n s inside new.
    let b = c.requires.may.opened.begun in
    b.parked n s (subst (λ k. n < k.sessions) b.cluster inside) new

pub run_rounds-ran-requires-clause-items : goal.run_rounds-ran-requires-clause-items
run_rounds-ran-requires-clause-items g c κs within =
    let m = c.requires.may in
    subst (λ n. All (MayRun n) c.args.part) (sym m.sessions_are ∙ sym (ap (λ k. k.sessions) m.opened.begun.cluster)) c.requires.taken.items

pub run_rounds-ran-requires-clause-told : goal.run_rounds-ran-requires-clause-told
run_rounds-ran-requires-clause-told g c κs within =
    let m = c.requires.may in
    subst (AreToldBy g.P.PageDisk.tells) (sym m.opened.begun.start_is) m.opened.told

pub returns : goal.returns
returns g c =
    let life = c.args.life in
    let left = c.close_life-closed.result in
    let closed = c.close_life-closed.ensures in
    let host = c.run_rounds-ran.new.host in
    record {
      ran = λ k b faults mounted opened.
          on_ok_weaker c.run_rounds-ran.result
          (λ ran.
          let over = c.life_ends.ensures host ran.0 ran.1.rounds ran.1.goes_on closed.kept in
          let few = ids_few g.P.PageDisk.tells (start_of life.hall) (view host.pass).seen _ c.args.part ran.1.steps ran.1.rounds c.requires.taken ran.1.told ran.1.rounds_are over in
          let few_multis = multis_few g.P.PageDisk.tells (start_of life.hall) (view host.pass).seen _ c.args.part ran.1.steps ran.1.rounds c.requires.taken ran.1.told ran.1.rounds_are over in
          let lived = life_lived g.K.LineKeeper life.hall host ran.0 c.args.names.now _ c.args.part k b faults c.args.kept.now c.run_rounds-ran.new.kept left c.requires.taken opened.begun.start_is ran.1 over closed.events closed.log closed.multis (subst (λ n. n < 18446744073709551616) c.next.ensures c.has_64_bits.ensures) (subst (λ n. n < 18446744073709551616) c.end.ensures c.has_64_bits-2.ensures) in
          record {
            steps = ran.1.steps;
            lived = lived.0;
            kept_is = ran.1.kept_is;
            number = number_told (start_of life.hall) k b faults left _ opened.begun.start_is closed.log;
            left = record {
              log = λ tells. lived.1 tells (c.reads_an_image.ensures tells);
              states = λ told. bank_holds g.P.PageDisk (start_of life.hall) (view host.pass).seen k b faults left (volumes_left left).xact.items opened.begun.start_is closed.kept (subst BeganRight (sym opened.begun.start_is) (opened.right told)) few closed.log (closed.states told few) (c.pages_read_an_image.ensures told);
              same = record {
                xact = closed.banks.xact ∙ (ap (λ (t : Start). t.banks) opened.begun.start_is ∙ sym opened.banks.xact);
                subtrans = closed.banks.subtrans ∙ (ap (λ (t : Start). t.banks) opened.begun.start_is ∙ sym opened.banks.subtrans);
                offsets = closed.banks.offsets ∙ (ap (λ (t : Start). t.banks) opened.begun.start_is ∙ sym opened.banks.offsets);
                members = closed.banks.members ∙ (ap (λ (t : Start). t.banks) opened.begun.start_is ∙ sym opened.banks.members);
              };
              fit = λ told tells.
                  let right = subst BeganRight (sym opened.begun.start_is) (opened.right told) in
                  life_fits g.L.LogDisk g.P.PageDisk (start_of life.hall) (view host.pass).seen k b faults left (volumes_left left) opened.begun.start_is closed.log (closed.fit tells told right few few_multis);
              causes = causes_told g.P.PageDisk.tells k (start_of life.hall) (view host.pass).seen ran.1.rounds life mounted (volumes_left left) over b faults opened opened.begun.start_is closed.counted
                  ran.1.steps (lines_run ran.1.steps ran.1.rounds ran.1.rounds_are) (ran.1.faults (view host.pass).seen (grows_same (view host.pass).seen) closed.kept) ran.1.built;
            };
          })
          c.run_rounds-ran.ensures.ran;
    }
