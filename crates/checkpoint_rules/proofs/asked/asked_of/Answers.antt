use Rattle.checkpoint_rules.proofs.Midway.{least_commit, least_multi}
use Rattle.checkpoint_rules.proofs.asked.asked_of.Goals as goal

pub returns : goal.returns
returns g c =
    let behind = c.requires.0 in
    let few = c.requires.1.0 in
    record {
      commit = least_commit g.at c.args.sessions.now behind few c.least_in_commit-commit.result c.least_in_commit-commit.ensures;
      sure = least_multi g.at c.args.sessions.now behind few c.least_in_multi-sure.result c.least_in_multi-sure.ensures;
      log = c.requires.1.1;
    }
