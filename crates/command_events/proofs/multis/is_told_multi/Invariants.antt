use Rattle.command_events.specs.Shapes.{pairs_of}
use Rattle.command_events.proofs.multis.is_told_multi.Given as goal

abbrev pub ghost-is_of_shape : goal.ghost-is_of_shape
ghost-is_of_shape g a = record {
  base = g.of.judged.begun.counters;
  events = g.of.judged.life.events;
  round = g.of.round;
  all = g.of.judged.life.multis;
  by = a.line.now.by;
  pairs = pairs_of a.line.now.command;
}
