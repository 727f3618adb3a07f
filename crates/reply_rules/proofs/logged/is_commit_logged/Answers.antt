use Rattle.std.proofs.Common.{◌≡◌, ◌↔◌, ℕ, Option, ap, sym, subst, ◌∙◌}
use Rattle.std.specs.Prelude.{IsTrue}
use Rattle.std.specs.BTreeSet.{contains}
use Rattle.std.specs.List.{list_any}
use Rattle.std.specs.Ordering.{nat_cmp}
use Rattle.life_law.specs.Pending.{is_commit_of}
use Rattle.reply_rules.specs.Logs.{IsCommitLogged}
use Rattle.reply_rules.proofs.Named.{commit_named}
use Rattle.reply_rules.proofs.logged.is_commit_logged.Goals as goal

pub returns-in-Some : goal.returns-in-Some
returns-in-Some c = λ recs tops.
    let is : c.contains.result ≡ list_any (is_commit_of c.in-Some.top) recs =
    c.contains.ensures ∙ ap (contains nat_cmp c.args.commits.now) c.number.ensures.value ∙ tops c.in-Some.top in
    subst (λ (o : Option ℕ). IsTrue c.contains.result ↔ IsCommitLogged recs o) (sym c.in-Some.is) (commit_named recs c.contains.result c.in-Some.top is)
