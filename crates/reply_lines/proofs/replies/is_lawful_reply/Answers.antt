use Rattle.std.proofs.Common.{◌↔◌, ◌∙◌, refl, subst, sym, ap}
use Rattle.tx_events.specs.declared.event.By.{By}
use Rattle.event_rules.specs.SnapsTold.{told_by}
use Rattle.reply_lines.proofs.Replying.{flipped, told}
use Rattle.std.specs.Prelude.{IsTrue}
use Rattle.tx_model.specs.Stance.{Stance}
use Rattle.report_law.specs.Steps.{AreJudged, IsLawfulByHistory, IsLawfulReply}
use Rattle.reply_lines.specs.At.{before_at, lines_at, multi_span_at, rounds_at, span_at, stance_at}
use Rattle.reply_lines.proofs.Commanding.{judged_is, unjudged_is}
use Rattle.reply_lines.proofs.Askings.{few_sessions, told_at_line}
use Rattle.reply_lines.proofs.replies.is_lawful_reply.Goals as goal

pub by_log_reply-requires : goal.by_log_reply-requires
by_log_reply-requires g c =
    let r = c.requires in
    (r.1.1.0, (r.1.1.1.0, (few_sessions g.at c.args.known.now c.args.number c.args.line.now r.1.1.0 r.1.1.1.1.1.0, sym c.if-is_by_log.ensures)))

pub returns-then-not-goes_by_places : goal.returns-then-not-goes_by_places
returns-then-not-goes_by_places g c =
    let r = c.requires in
    let l = c.args.line.now in
    subst (λ (s : Stance). IsTrue c.is_plain_reply.result ↔ IsLawfulReply (AreJudged g.at.j (rounds_at g.at) (lines_at g.at)) g.at.j (before_at g.at) (span_at g.at) (multi_span_at g.at) l.by s l.command l.reply) r.1.1.1.1.0
    (c.is_plain_reply.ensures g.at.j (rounds_at g.at) (lines_at g.at) (before_at g.at) (span_at g.at) (multi_span_at g.at) l.by)

pub returns-then-not-round : goal.returns-then-not-round
returns-then-not-round g c =
    let l = c.args.line.now in
    unjudged_is (AreJudged g.at.j (rounds_at g.at) (lines_at g.at)) g.at.j (before_at g.at) (span_at g.at) (multi_span_at g.at) l.by (stance_at g.at l.by) l.command l.reply c.args.round.judged
    (sym c.if-not-goes_by_places.ensures) (flipped c.args.round.judged c.if-not-round.true) c.requires.1.1.1.0.judged

pub asking_of-asking-requires : goal.asking_of-asking-requires
asking_of-asking-requires g c =
    let r = c.requires in
    let stands = r.1.1.1.1.1.0 in
    (refl, (r.1.1.0, (r.1.1.1.0, (told c.args.round.judged c.if-not-round.false, ((c.args.line.now, refl, stands), few_sessions g.at c.args.known.now c.args.number c.args.line.now r.1.1.0 stands)))))

pub by_places-requires : goal.by_places-requires
by_places-requires g c =
    let r = c.requires in
    let l = c.args.line.now in
    let by = c.asking_of-asking.ensures.by in
    (record { known_is = refl; asking_is = refl; asked = c.asking_of-asking.ensures.asking }, (r.0, (r.1.0, (r.1.1.1.1.0 ∙ ap (λ (b : By). stance_at g.at b) (sym by), (ap (λ (b : By). told_by g.at.j b) by ∙ told_at_line g.at c.args.known.now c.args.number l r.1.1.0 r.1.1.1.1.1.0, sym c.if-not-goes_by_places.ensures)))))

pub returns : goal.returns
returns g c =
    let r = c.requires in
    let l = c.args.line.now in
    let judged = r.1.1.1.0.judged.0 (told c.args.round.judged c.if-not-round.false) in
    judged_is (AreJudged g.at.j (rounds_at g.at) (lines_at g.at)) g.at.j (before_at g.at) (span_at g.at) (multi_span_at g.at) l.by (stance_at g.at l.by) l.command l.reply c.by_places.result (sym c.if-not-goes_by_places.ensures) judged
    (subst (λ (b : By). IsTrue c.by_places.result ↔ IsLawfulByHistory g.at.j (before_at g.at) (span_at g.at) (multi_span_at g.at) b (stance_at g.at b) l.command l.reply) c.asking_of-asking.ensures.by c.by_places.ensures)
