use Rattle.std.proofs.Common.{ap, ◌∙◌}
use Rattle.tx_model.specs.Stance.{Stance, top_level}
use Rattle.reply_lines.specs.At.{before_at, stance_at}
use Rattle.reply_lines.proofs.Commanding.{command_is}
use Rattle.reply_lines.proofs.commands.is_lawful_command.Goals as goal

pub returns-clause-lawful : goal.returns-clause-lawful
returns-clause-lawful g c =
    let r = c.requires in
    let session = r.1.1.1.1.1.0 in
    let l = c.args.line.now in
    let logged = c.is_logged-logged.ensures g.at.j (before_at g.at) (stance_at g.at l.by) r.1.1.0.logs r.1.1.1.1.1.1.0 (c.top_of.ensures ∙ ap (λ (s : Stance). top_level s.levels) session.stands) in
    command_is g.at l c.args.session.now.standing c.args.session.now.pending c.in_ok-events.events c.in_ok-multis.multis c.is_refused_by_standing-standing.result c.is_refused_by_members-members.result c.is_lawful_unless-reply.result c.is_logged-logged.result c.all_six.result
    session.stands session.held c.in_ok-events.ensures.has c.in_ok-multis.ensures c.is_refused_by_standing-standing.ensures c.is_refused_by_members-members.ensures c.is_lawful_unless-reply.ensures logged c.all_six.ensures
