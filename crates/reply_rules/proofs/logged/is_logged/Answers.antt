use Rattle.std.proofs.Common.{◌≡◌, ◌↔◌, ℕ, Option, inl, ap, sym, subst, ◌∙◌, ⊎_elim}
use Rattle.std.specs.Prelude.{IsTrue, Contains}
use Rattle.std.specs.BTreeSet.{contains}
use Rattle.std.specs.List.{list_any}
use Rattle.std.specs.Ordering.{nat_cmp}
use Rattle.std.proofs.lemmas.Bool.{false≢true}
use Rattle.std.proofs.Common.{List}
use Rattle.tx_events.specs.declared.multi.Member.{Member}
use Rattle.tx_events.specs.declared.record.Rec.TheVariants as records
use Rattle.tx_model.specs.declared.command.Command.{Command}
use Rattle.tx_model.specs.declared.command.Command.TheVariants as commands
use Rattle.tx_model.specs.declared.reply.Reply.{Reply}
use Rattle.tx_model.specs.declared.reply.Reply.TheVariants as replies
use Rattle.report_law.specs.Records.{is_same_multi}
use Rattle.report_law.specs.Steps.{IsLogged, IsStrayMulti, flushed_recs}
use Rattle.reply_rules.specs.Logs.{IsCommitLogged}
use Rattle.reply_rules.proofs.Named.{has_given, is_given}
use Rattle.reply_rules.proofs.logged.is_logged.Goals as goal

pub returns-in-Done : goal.returns-in-Done
returns-in-Done c = λ j before s logs trims top.
    let here : IsTrue c.is_commit_logged.result ↔ IsLogged j before s commands.Commit replies.Done =
    subst (λ (o : Option ℕ). IsTrue c.is_commit_logged.result ↔ IsCommitLogged (flushed_recs j.life) o) top (c.is_commit_logged.ensures (flushed_recs j.life) logs.commits) in
    subst (λ (k : Command). IsTrue c.is_commit_logged.result ↔ IsLogged j before s k c.args.reply.now) (sym c.in-Commit.is)
    (subst (λ (r : Reply). IsTrue c.is_commit_logged.result ↔ IsLogged j before s commands.Commit r) (sym c.in-Done.is) here)

pub returns-else-logs : goal.returns-else-logs
returns-else-logs c = λ j before s logs trims top.
    let multi = c.in-Multi-reply.multi in
    let is : c.contains.result ≡ list_any (is_same_multi multi) j.life.recs =
    c.contains.ensures ∙ ap (contains nat_cmp c.args.logs.now.multis) c.number.ensures.value ∙ logs.multis multi in
    let here : IsTrue c.contains.result ↔ IsLogged j before s (commands.Multi c.in-Multi.members) (replies.Multi multi c.in-Multi-reply.offset c.in-Multi-reply.warn) = (
      λ t. inl (is_given j.life.recs multi (sym is ∙ t)),
      λ u. ⊎_elim
          (λ (g : (at : ℕ) × (members : List Member) × Contains j.life.recs (records.Multi multi at members)). is ∙ has_given j.life.recs multi g)
          (λ (stray : IsStrayMulti j). absurd (false≢true (sym c.if-logs.false ∙ logs.stray.1 stray)))
          u,
    ) in
    subst (λ (k : Command). IsTrue c.contains.result ↔ IsLogged j before s k c.args.reply.now) (sym c.in-Multi.is)
    (subst (λ (r : Reply). IsTrue c.contains.result ↔ IsLogged j before s (commands.Multi c.in-Multi.members) r) (sym c.in-Multi-reply.is) here)
