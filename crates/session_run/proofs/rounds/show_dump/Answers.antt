use Rattle.std.proofs.lemmas.Result.{on_ok_weaker}
use Rattle.session_run.proofs.RoundsRun.{home_shown, ran_dump}
use Rattle.session_run.proofs.rounds.show_dump.Goals as goal

pub show-requires-clause-home : goal.show-requires-clause-home
show-requires-clause-home g c = record { is_host = c.requires.home.is_host; all = c.requires.home.all }

pub returns-in_err-reply-clause-home : goal.returns-in_err-reply-clause-home
returns-in_err-reply-clause-home g c = home_shown c.args.hall.now c.args.host.now c.show.new.host c.args._sessions.now c.requires.home c.show.ensures.stays

pub returns-clause-home : goal.returns-clause-home
returns-clause-home g c = home_shown c.args.hall.now c.args.host.now c.show.new.host c.args._sessions.now c.requires.home c.show.ensures.stays

pub returns-clause-ran : goal.returns-clause-ran
returns-clause-ran g c =
    on_ok_weaker c.keep_dump.result (λ put. λ all front r.
    let home = home_shown c.args.hall.now c.args.host.now c.show.new.host c.args._sessions.now c.requires.home c.show.ensures.stays in
    let d = c.args.dump in
    ran_dump g.K.LineKeeper c.args.hall.now c.args.host.now c.show.new.host c.args._sessions.now c.args.names.now d.what d.at d.length c.in_ok-reply.reply all front c.args.kept.now c.keep_dump.new.kept
    c.show.ensures.stays home c.in_ok-reply.ensures.reply put r)
    c.keep_dump.ensures
