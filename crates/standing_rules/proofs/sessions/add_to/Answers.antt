use Rattle.std.proofs.Common.{◌≡◌}
use Rattle.std.proofs.lemmas.Result.{on_ok_weaker}
use Rattle.tx_model.specs.Stance.{after}
use Rattle.standing_rules.proofs.Behind.{behind_added}
use Rattle.standing_rules.proofs.sessions.add_to.Goals as goal

pub returns : goal.returns
returns c = λ v tops added b.
    let line = c.args.line.now in
    on_ok_weaker c.add.result
    (λ (stands : c.add.new.self ≡ after c.args.session.now.standing line.by.command line.command line.reply c.args.ids.now).
    behind_added v line c.args.ids.now c.args.gave c.is_open_recorded-recorded.result c.args.session.now
    (record { standing = c.add.new.self; pending = c.pending_after-session.result; unfinished = c.unfinished_behind-session.result })
    added b (c.is_open_recorded-recorded.ensures v.recs tops) stands c.pending_after-session.ensures c.unfinished_behind-session.ensures)
    c.add.ensures.ok
