use Rattle.std.proofs.Common.{◌≤◌, length, vec_capacity}
use Rattle.std.specs.List.{All}
use Rattle.parts_bench.specs.Turns.{IsIdle, IsReady}
use Rattle.parts_bench.proofs.group_turns.players_below.Given as goal

abbrev pub invariant-loop-number : goal.invariant-loop-number
invariant-loop-number l = record {
  idle : IsIdle l.list l.first;
  few : length l.players.items ≤ l.number;
  room : l.count ≤ vec_capacity l.players;
  each : All (IsReady l.list) l.players.items;
}
