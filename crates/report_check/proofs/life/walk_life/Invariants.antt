use Rattle.life_tables.specs.Lives.{judged_life}
use Rattle.report_check.proofs.life.walk_life.Given as goal

abbrev pub ghost-known_of : goal.ghost-known_of
ghost-known_of g a = g.at

abbrev pub ghost-walk_from_steps : goal.ghost-walk_from_steps
ghost-walk_from_steps g a = judged_life g.at
