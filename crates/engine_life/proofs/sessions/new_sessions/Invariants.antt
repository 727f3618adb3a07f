use Rattle.std.proofs.Common.{◌≡◌, ◌≤◌, length, vec_capacity}
use Rattle.std.specs.List.{All}
use Rattle.engine_host.specs.Hosts.{IsNewSession}
use Rattle.engine_life.proofs.sessions.new_sessions.Given as goal

abbrev pub invariant-loop : goal.invariant-loop
invariant-loop l = record {
  count : length l.all.items ≡ l.counter;
  each : All IsNewSession l.all.items;
  room : l.fn.count ≤ vec_capacity l.all;
}
