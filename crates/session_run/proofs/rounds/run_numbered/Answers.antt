use Rattle.script_rounds.proofs.PlanLemmas.{plan_listed}
use Rattle.session_run.proofs.RoundsRun.{home_again, ran_more}
use Rattle.run_law.specs.Turns.{turns_in}
use Rattle.session_run.proofs.rounds.run_numbered.Goals as goal

pub clear-requires : goal.clear-requires
clear-requires g c = plan_listed c.args.round.now c.fill.new.self c.in_ok-fill.ensures.plan

pub returns-clause-home : goal.returns-clause-home
returns-clause-home g c =
    let e = c.in_ok-run_round.ensures in
    home_again c.args.hall.now c.args.host.now c.run_round.new.host c.args.sessions.now c.run_round.new.sessions c.requires.home e.host e.cluster e.all e.parked e.count

pub returns-in_err-run_round-clause-home : goal.returns-in_err-run_round-clause-home
returns-in_err-run_round-clause-home g c =
    let e = c.run_round.ensures in
    home_again c.args.hall.now c.args.host.now c.run_round.new.host c.args.sessions.now c.run_round.new.sessions c.requires.home e.host e.cluster e.all e.parked e.count

pub returns-clause-ran : goal.returns-clause-ran
returns-clause-ran g c = λ all first count r.
    let e = c.in_ok-run_round.ensures in
    let h = c.args.hall.now in
    let before = c.args.host.now in
    let after = c.run_round.new.host in
    let old = c.args.sessions.now in
    let new = c.run_round.new.sessions in
    let home = home_again h before after old new c.requires.home e.host e.cluster e.all e.parked e.count in
    ran_more g.K.LineKeeper h before after old new c.args.names.now c.args.rounds (turns_in c.args.round.now) all first c.args.kept.now c.add_round.new.self c.run_round.new.kept e.went.0 count c.in_ok-add_round.ensures e.went.1.grows r
    (c.life_goes_on.ensures before after old new r.rounds c.args.round.now e.went.0 r.goes_on home e.count c.requires.items e.went.1) e.went.2
