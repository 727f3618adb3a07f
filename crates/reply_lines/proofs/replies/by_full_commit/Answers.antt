use Rattle.std.proofs.Common.{◌∙◌, ap, length, refl, take}
use Rattle.tx_events.specs.Running.{open_ids}
use Rattle.report_law.specs.Answers.{own_before}
use Rattle.reply_lines.specs.At.{before_at, lines_at, multi_span_at, rounds_at, span_at, stance_at}
use Rattle.reply_lines.proofs.replies.by_full_commit.Goals as goal

pub ids_below-requires : goal.ids_below-requires
ids_below-requires g c =
    (refl, (c.requires.0, (c.requires.1.0.within, c.requires.1.1)))

pub returns : goal.returns
returns g c =
    let by = c.args.by in
    let r = c.requires.1.0 in
    c.is_lawful_full_commit.ensures g.at.j (rounds_at g.at) (lines_at g.at) (before_at g.at) (span_at g.at) (multi_span_at g.at) by (stance_at g.at by) c.requires.0.log_end r.judged
    (λ w. c.ids_below.ensures (r.judged.1 w) ∙ ap (λ n. length (open_ids by.session (own_before by (take n g.at.j.life.events)))) r.to)
