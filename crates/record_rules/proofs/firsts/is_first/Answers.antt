use Rattle.std.proofs.Common.{Bool, ◌↔◌, IsTrue, not, ap, sym, subst, ◌∙◌}
use Rattle.tx_events.specs.declared.record.Rec.{Rec}
use Rattle.tx_events.specs.declared.record.Rec.TheVariants as records
use Rattle.report_law.specs.Records.{IsFirstOf}
use Rattle.record_rules.proofs.Keys.{first_multi, first_top}
use Rattle.record_rules.proofs.firsts.is_first.Goals as goal

pub returns-in-Commit : goal.returns-in-Commit
returns-in-Commit c = λ recs s.
    subst (λ (rec : Rec). IsTrue c.not.result ↔ IsFirstOf recs rec) (sym c.in-Commit.is)
    (subst (λ (b : Bool). IsTrue b ↔ IsFirstOf recs (records.Commit c.in-Commit.top c.in-Commit.subs)) (sym (c.not.ensures ∙ ap not c.is_named.ensures)) (first_top recs c.in-Commit.top c.args.seen.now.tops s.tops))

pub returns-in-Abort : goal.returns-in-Abort
returns-in-Abort c = λ recs s.
    subst (λ (rec : Rec). IsTrue c.not-in-Abort.result ↔ IsFirstOf recs rec) (sym c.in-Abort.is)
    (subst (λ (b : Bool). IsTrue b ↔ IsFirstOf recs (records.Abort c.in-Abort.top c.in-Abort.subs)) (sym (c.not-in-Abort.ensures ∙ ap not c.is_named-in-Abort.ensures)) (first_top recs c.in-Abort.top c.args.seen.now.tops s.tops))

pub returns-in-Multi : goal.returns-in-Multi
returns-in-Multi c = λ recs s.
    subst (λ (rec : Rec). IsTrue c.not-in-Multi.result ↔ IsFirstOf recs rec) (sym c.in-Multi.is)
    (subst (λ (b : Bool). IsTrue b ↔ IsFirstOf recs (records.Multi c.in-Multi.multi c.in-Multi.offset c.in-Multi.members)) (sym (c.not-in-Multi.ensures ∙ ap not c.contains.ensures)) (first_multi recs c.in-Multi.multi c.args.seen.now.multis s.multis))
