use Rattle.std.proofs.Common.{ap, sym, subst, ◌∙◌, nat_cmp, ℕ, ◌↔◌}
use Rattle.std.specs.Prelude.{IsTrue}
use Rattle.std.specs.BTreeSet.{contains}
use Rattle.tx_events.specs.declared.event.Event.{Event}
use Rattle.report_law.specs.Events.{IsCommitLogged}
use Rattle.event_rules.proofs.Named.{commit_named}
use Rattle.event_rules.proofs.events.is_commit_logged.Goals as goal

pub returns-in-Commit : goal.returns-in-Commit
returns-in-Commit g c =
    subst (λ (e : Event). IsTrue c.contains.result ↔ IsCommitLogged g.j e) (sym c.in-Commit.is)
    (commit_named g.j.life.recs c.contains.result c.in-Commit.top (c.contains.ensures ∙ ap (λ (x : ℕ). contains nat_cmp c.args.tops.now x) c.number.ensures.value ∙ c.requires c.in-Commit.top))
