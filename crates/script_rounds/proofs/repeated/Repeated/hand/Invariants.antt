use Rattle.std.proofs.Common.{◌≡◌, ◌≤◌, ◌++◌, ℕ, List, drop, length}
use Rattle.std.specs.Io.KnownBytes.{Appends}
use Rattle.script_rounds.specs.Woven.{own_before, pieces_at, spread}
use Rattle.script_rounds.proofs.repeated.Repeated.hand.Given as goal

abbrev pub invariant-loop-place : goal.invariant-loop-place
invariant-loop-place g l = record {
  within : own_before (pieces_at l.self-inside.bytes.items (drop l.place-index l.self-inside.places.items)) ≤ length l.rest;
  later : g.K.Sink.faults l.fn.sink ≤ g.K.Sink.faults l.sink;
  left : drop (own_before (pieces_at l.self-inside.bytes.items (drop l.place-index l.self-inside.places.items))) l.rest ≡ drop (own_before l.self) l.own;
  told : (written : List ℕ) × (written ++ l.kept.items ++ spread (pieces_at l.self-inside.bytes.items (drop l.place-index l.self-inside.places.items)) l.rest ≡ l.fn.kept.items ++ spread l.self l.own)
      × Appends (g.K.Sink.held l.fn.sink) (g.K.Sink.held l.sink) written;
}
