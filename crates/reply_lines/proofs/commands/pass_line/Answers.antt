use Rattle.std.proofs.Common.{◌<◌, ◌∙◌, subst, sym}
use Rattle.standing_rules.specs.Sessions.{AreBehind}
use Rattle.reply_lines.specs.At.{lived_at}
use Rattle.reply_lines.proofs.Askings.{few_sessions}
use Rattle.reply_lines.proofs.commands.pass_line.Goals as goal

pub add_line-requires : goal.add_line-requires
add_line-requires g c =
    let r = c.requires in
    let known = r.1.0 in
    let size = r.1.1.1.0 in (
      subst (λ n. c.args.line.now.by.session < n) (sym size) (few_sessions g.at c.args.known.now c.args.number c.args.line.now known r.1.1.0),
      (
        known.tops,
        (
          record {
            given_ids = c.as_slice.ensures.value ∙ c.in_ok-ids.ensures;
            gave_one = c.has_multi-gave.ensures;
          },
          subst (λ n. AreBehind (lived_at g.at) n c.args.sessions.now.items) (sym size) r.1.1.1.1,
        ),
      ),
    )
