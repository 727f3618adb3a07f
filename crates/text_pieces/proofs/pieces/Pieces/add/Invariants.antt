use Rattle.std.proofs.Common.{◌≡◌, ◌++◌, [], IsOk}
use Rattle.std.specs.List.{All, flat_map}
use Rattle.text_pieces.specs.Lines.{piece_text}
use Rattle.text_pieces.proofs.pieces.Pieces.add.Given as goal

abbrev pub invariant-loop-piece : goal.invariant-loop-piece
invariant-loop-piece l = record {
  ok : All IsOk l.yielded;
  last : l.self-inside.last ≡ [];
  front : flat_map (λ text. text) l.self-inside.front.items ≡ l.fn.self ++ flat_map piece_text l.yielded;
}
