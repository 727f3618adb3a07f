-- The promises of all sessions make a lawful life.
use Rattle.std.proofs.Common.{List, length, subst, sym, ℕ, ◌+◌, ◌≡◌, ◌<◌, ◌^◌}
use Rattle.std.specs.List.{flat_map}
use Rattle.tx_events.specs.declared.event.Event.{Event}
use Rattle.tx_events.specs.declared.multi.MultiEvent.{MultiEvent}
use Rattle.tx_events.specs.declared.record.Counters.{Counters}
use Rattle.tx_events.specs.declared.record.Rec.{Rec}
use Rattle.tx_events.specs.History.{IsLegal}
use Rattle.tx_model.specs.declared.report.Line.{Line}
use Rattle.tx_model.specs.Rounds.{lines_in}
use Rattle.life_law.specs.LifeLog.{IsLogOf}
use Rattle.life_law.specs.Pending.{IsOpenAsTold}
use Rattle.session_promise.specs.Closing.{PromisesMakeLife}
use Rattle.session_promise.specs.Told.{all_lines}
use Rattle.session_promise.proofs.HostFaults.{all_once}
use Rattle.session_promise.proofs.LawfulCheckpoints.{checkpoints_lawful}
use Rattle.session_promise.proofs.LawfulDumps.{dumps_lawful}
use Rattle.session_promise.proofs.LawfulLog.{promises_make_log}
use Rattle.session_promise.proofs.LawfulMultis.{promises_make_multis}
use Rattle.session_promise.proofs.LawfulSteps.{promises_make_steps, report_lines}
use Rattle.session_promise.proofs.Opened.{opened_told}

pub promises_make_life : PromisesMakeLife
promises_make_life tells start lists rounds asked r begins over few few_multis told dumps checks is count gate =
    let made = promises_make_steps tells start lists rounds r begins over few few_multis checks is in
    let lines : flat_map lines_in r.steps ≡ all_lines rounds = report_lines start lists rounds r is in
    let log = promises_make_log tells start lists rounds r.steps r.life.from r.life.end begins over checks (subst (λ (rs : List Rec). r.life.from + length rs < 2 ^ 64) is.recs count) gate in record {
      history = subst (λ (x : Counters × List Event). IsLegal x.0 x.1) (λ j. (sym is.base j, sym is.events j)) over.kept.events.legal;
      told = told;
      in_turn = made.1;
      lawful = made.0;
      dumps = dumps_lawful tells start lists rounds over r is dumps;
      checkpoints = checkpoints_lawful tells start lists rounds r begins over checks is;
      multis = promises_make_multis tells start lists rounds r begins over few_multis is;
      log = subst (λ (x : Counters × ((List Event × List MultiEvent) × (List Rec × ℕ))). IsLogOf r.life.from x.0 x.1.0.0 x.1.0.1 x.1.1.0 x.1.1.1 r.life.end)
          (λ j. (sym is.base j, ((sym is.events j, sym is.multis j), (sym is.recs j, sym is.flushed j)))) log;
      opened = λ n. subst (λ (x : (List Rec × List Event) × List Line). IsOpenAsTold x.0.0 x.0.1 x.1 n) (λ j. ((sym is.recs j, sym is.events j), sym lines j)) (opened_told tells start lists rounds r.life.from begins over n);
      log_fails_once = all_once tells start lists rounds over r.steps checks lines;
    }
