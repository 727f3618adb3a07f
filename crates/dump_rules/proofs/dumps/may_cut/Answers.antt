use Rattle.std.proofs.Common.{◌↔◌, List, IsTrue, sym, subst}
use Rattle.tx_events.specs.declared.event.Event.{Event}
use Rattle.tx_model.specs.declared.reply.Reply.TheVariants as replies
use Rattle.tx_model.specs.declared.report.DumpOf.{DumpOf}
use Rattle.tx_model.specs.declared.report.DumpOf.TheVariants as dumps
use Rattle.life_law.specs.Dumps.{events_behind}
use Rattle.report_law.specs.Dumps.{IsCutBy, MayDump}
use Rattle.dump_rules.proofs.dumps.may_cut.Goals as goal

pub returns-in-Xact : goal.returns-in-Xact
returns-in-Xact c = λ d h are judged reach.
    subst (λ (w : DumpOf). IsTrue c.is_xact_cut.result ↔ MayDump d.j d.before w c.args.at c.args.size (replies.Cut c.args.cutoff)) (sym c.in-Xact.is)
    (c.is_xact_cut.ensures d.j.begun.counters d.j.life.recs h (events_behind d.j.life.events d.before) are)

pub returns-else-not-judged : goal.returns-else-not-judged
returns-else-not-judged c = λ d h are judged reach.
    let r = reach c.if-not-judged.false in
    let i = c.is_subtrans_cut.ensures d.j.begun.counters d.j.life.recs h are r.0 in
    subst (λ (w : DumpOf). IsTrue c.is_subtrans_cut.result ↔ MayDump d.j d.before w c.args.at c.args.size (replies.Cut c.args.cutoff)) (sym c.in-Subtrans.is) (
      λ t a. subst (λ (k : List Event). IsCutBy d.j.begun.counters d.j.life.recs k (dumps.Subtrans c.in-Subtrans.page) c.args.cutoff) r.1 (i.0 t),
      λ s. i.1 (subst (λ (k : List Event). IsCutBy d.j.begun.counters d.j.life.recs k (dumps.Subtrans c.in-Subtrans.page) c.args.cutoff) (sym r.1) (s (judged.0 c.if-not-judged.false))),
    )

pub returns-in-Offsets : goal.returns-in-Offsets
returns-in-Offsets c = λ d h are judged reach.
    subst (λ (w : DumpOf). IsTrue c.is_offset_cut.result ↔ MayDump d.j d.before w c.args.at c.args.size (replies.Cut c.args.cutoff)) (sym c.in-Offsets.is)
    (c.is_offset_cut.ensures d.j.begun.counters d.j.life.recs h (events_behind d.j.life.events d.before) are)

pub returns-in-Members : goal.returns-in-Members
returns-in-Members c = λ d h are judged reach.
    subst (λ (w : DumpOf). IsTrue c.is_member_cut.result ↔ MayDump d.j d.before w c.args.at c.args.size (replies.Cut c.args.cutoff)) (sym c.in-Members.is)
    (c.is_member_cut.ensures d.j.begun.counters d.j.life.recs h (events_behind d.j.life.events d.before) are)
