use Rattle.std.proofs.Common.{◌≡◌, ◌++◌}
use Rattle.std.specs.List.{flat_map}
use Rattle.text_pieces.proofs.pieces.Pieces.take.Given as goal

abbrev pub invariant-loop-text : goal.invariant-loop-text
invariant-loop-text l = record {
  last : l.self-inside.last ≡ l.initial.self-inside.last;
  front : flat_map (λ text. text) l.self-inside.front.items ≡ l.fn.self ++ flat_map (λ text. text) l.yielded;
}
