use Rattle.std.proofs.Common.{IsTrue, ℕ, List, ◌↔◌, sym, subst}
use Rattle.tx_events.specs.declared.record.Rec.{Rec}
use Rattle.tx_events.specs.declared.record.Rec.TheVariants as records
use Rattle.tx_events.specs.declared.record.Counters.{Counters}
use Rattle.life_law.specs.LifeLog.{IsAnnounced}
use Rattle.report_law.specs.Records.{IsAnnouncedMulti, IsTrueRecord}
use Rattle.record_rules.proofs.Recording.{both_iff, multi_iff}
use Rattle.record_rules.proofs.records.is_true_record.Goals as goal

pub returns-in-Commit : goal.returns-in-Commit
returns-in-Commit g c =
    let w = c.requires.whole in
    subst (λ (rec : Rec). IsTrue c.is_commit_recorded.result ↔ IsTrueRecord g.j rec) (sym c.in-Commit.is)
    (subst (λ (subs : List ℕ). IsTrue c.is_commit_recorded.result ↔ IsTrueRecord g.j (records.Commit c.in-Commit.top subs)) c.items.ensures (c.is_commit_recorded.ensures g.j w.legal w.each w.xacts))

pub returns-in-Abort : goal.returns-in-Abort
returns-in-Abort g c =
    let w = c.requires.whole in
    subst (λ (rec : Rec). IsTrue c.is_abort_recorded.result ↔ IsTrueRecord g.j rec) (sym c.in-Abort.is)
    (subst (λ (subs : List ℕ). IsTrue c.is_abort_recorded.result ↔ IsTrueRecord g.j (records.Abort c.in-Abort.top subs)) c.items-in-Abort.ensures (c.is_abort_recorded.ensures g.j w.legal w.each w.xacts))

pub returns-in-Multi : goal.returns-in-Multi
returns-in-Multi g c =
    subst (λ (rec : Rec). IsTrue c.is_given.result ↔ IsTrueRecord g.j rec) (sym c.in-Multi.is)
    (multi_iff g.j c.in-Multi.multi c.in-Multi.offset c.items-in-Multi.result.now c.in-Multi.members c.args.multis.now.events c.is_given.result c.items-in-Multi.ensures c.requires.multis c.is_given.ensures)

pub returns-in-Truncate : goal.returns-in-Truncate
returns-in-Truncate g c =
    let w = c.requires.whole in
    subst (λ (rec : Rec). IsTrue c.both.result ↔ IsTrueRecord g.j rec) (sym c.in-Truncate.is)
    (subst (λ (base : Counters). IsTrue c.both.result ↔ (IsAnnounced base g.j.life.events c.in-Truncate.oldest × IsAnnouncedMulti base g.j.life.multis c.in-Truncate.multi c.in-Truncate.offset)) w.base
    (both_iff (IsAnnounced c.args.judging.now.base g.j.life.events c.in-Truncate.oldest) (IsAnnouncedMulti c.args.judging.now.base g.j.life.multis c.in-Truncate.multi c.in-Truncate.offset) c.is_announced-id.result c.is_announced_multi-start.result c.both.result
    (c.is_announced-id.ensures g.j.life.events g.j.life.multis w.announced) (c.is_announced_multi-start.ensures g.j.life.events g.j.life.multis w.announced) c.both.ensures))
