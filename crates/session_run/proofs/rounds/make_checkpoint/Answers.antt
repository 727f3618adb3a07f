use Rattle.std.proofs.lemmas.Result.{on_ok_weaker}
use Rattle.session_run.proofs.RoundsRun.{home_still, parked_there, ran_checkpoint}
use Rattle.session_run.proofs.rounds.make_checkpoint.Goals as goal

pub checkpoint-reply-requires-clause-home : goal.checkpoint-reply-requires-clause-home
checkpoint-reply-requires-clause-home g c = record { is_host = c.requires.home.is_host; all = c.requires.home.all }

pub checkpoint-reply-requires-clause-parked : goal.checkpoint-reply-requires-clause-parked
checkpoint-reply-requires-clause-parked g c = parked_there c.args.hall.now c.args.host.now c.args.sessions.now c.requires.home

pub returns-clause-home : goal.returns-clause-home
returns-clause-home g c =
    let e = c.checkpoint-reply.ensures in
    home_still c.args.hall.now c.args.host.now c.checkpoint-reply.new.host c.args.sessions.now c.requires.home e.home e.cluster e.parked

pub returns-clause-ran : goal.returns-clause-ran
returns-clause-ran g c =
    on_ok_weaker c.keep_checkpoint.result (λ put. λ all front r.
    let e = c.checkpoint-reply.ensures in
    let home = home_still c.args.hall.now c.args.host.now c.checkpoint-reply.new.host c.args.sessions.now c.requires.home e.home e.cluster e.parked in
    ran_checkpoint g.K.LineKeeper c.args.hall.now c.args.host.now c.checkpoint-reply.new.host c.args.sessions.now c.args.names.now c.checkpoint-reply.result all front c.args.kept.now c.keep_checkpoint.new.kept home e.went e.fault put r)
    c.keep_checkpoint.ensures
