use Rattle.std.proofs.Common.{length, take}
use Rattle.report_law.specs.Steps.{gave_multi, lines_of}
use Rattle.event_rules.specs.SnapsTold.{told_by}
use Rattle.life_tables.specs.Lives.{judged_life}
use Rattle.report_check.proofs.known.known_of.Given as goal

abbrev pub ghost-front_of : goal.ghost-front_of
ghost-front_of g a = g.at

abbrev pub ghost-taken_of : goal.ghost-taken_of
ghost-taken_of g a = record {
  all = g.at.report.life.events;
  events = take (length a.snaps.now) g.at.report.life.events;
  first = g.at.report.life.base.next;
  told = told_by (judged_life g.at);
}

abbrev pub ghost-late_of : goal.ghost-late_of
ghost-late_of g a = gave_multi (lines_of (judged_life g.at))
