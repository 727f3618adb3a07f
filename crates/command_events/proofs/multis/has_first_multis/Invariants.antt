use Rattle.command_events.specs.Shapes.{pairs_of}
use Rattle.command_events.proofs.multis.has_first_multis.Given as goal

abbrev pub ghost-has_shape : goal.ghost-has_shape
ghost-has_shape g a = record {
  base = g.of.judged.begun.counters;
  events = g.of.judged.life.events;
  round = g.of.round;
  all = g.of.judged.life.multis;
  by = a.line.now.by;
  pairs = pairs_of a.line.now.command;
}
