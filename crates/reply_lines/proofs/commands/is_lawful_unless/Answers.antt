use Rattle.std.proofs.Common.{ap, refl, ◌∙◌}
use Rattle.tx_model.specs.declared.report.Life.{Life}
use Rattle.life_law.specs.Refused.{by_standing}
use Rattle.report_law.specs.Steps.{by_members}
use Rattle.reply_lines.proofs.Commanding.{none_unless}
use Rattle.reply_lines.proofs.commands.is_lawful_unless.Goals as goal

pub returns-then-is_by_standing : goal.returns-then-is_by_standing
returns-then-is_by_standing g c = (λ t n m. absurd (c.is_by_standing.ensures.0 c.if-is_by_standing.true n), λ f. refl)

pub returns-then-is_by_members : goal.returns-then-is_by_members
returns-then-is_by_members g c = (λ t n m. absurd (c.is_by_members.ensures.0 c.if-is_by_members.true m), λ f. refl)

pub is_lawful_reply-requires : goal.is_lawful_reply-requires
is_lawful_reply-requires g c =
    let r = c.requires in
    (r.1.0, (c.items.ensures ∙ ap (λ (l : Life). l.multis) r.0.life, (r.1.1.0, (r.1.1.1.0, (r.1.1.1.1.1.stands, (r.1.1.1.1.0, none_unless (by_standing c.args.line.now.reply) c.is_by_standing.result c.if-is_by_standing.false c.is_by_standing.ensures.1))))))

pub returns : goal.returns
returns g c =
    let none = none_unless (by_standing c.args.line.now.reply) c.is_by_standing.result c.if-is_by_standing.false c.is_by_standing.ensures.1 in
    let members = none_unless (by_members c.args.line.now.reply) c.is_by_members.result c.if-is_by_members.false c.is_by_members.ensures.1 in
    (λ t n m. c.is_lawful_reply.ensures.0 t, λ f. c.is_lawful_reply.ensures.1 (f none members))
