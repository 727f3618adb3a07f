-- A text of own bytes with pieces between them that stand elsewhere.
use Rattle.std.specs.Prelude.{ℕ, ◌+◌, List, [], ◌∷◌, ◌++◌, drop, map, take}
use Rattle.std.specs.List.{flat_map}

-- a piece: how many own bytes stand before it, behind the piece before it, and its bytes
abbrev pub Piece : Type 0
Piece = ℕ × List ℕ

-- the same bytes in several places
abbrev pub pieces_at : List ℕ → List ℕ → List Piece
pieces_at bytes places = map (λ n. (n, bytes)) places

-- the pieces of several lists
abbrev pub pieces_in : List (List Piece) → List Piece
pieces_in runs = flat_map (λ run. run) runs

-- the own bytes with each piece in its place
unfoldable pub woven : List Piece → List ℕ → List ℕ
woven [] own = own
woven (piece ∷ more) own = take piece.0 own ++ piece.1 ++ woven more (drop piece.0 own)

-- the same up to the last piece
unfoldable pub spread : List Piece → List ℕ → List ℕ
spread [] own = []
spread (piece ∷ more) own = take piece.0 own ++ piece.1 ++ spread more (drop piece.0 own)

-- how many own bytes stand before the last piece
unfoldable pub own_before : List Piece → ℕ
own_before [] = 0
own_before (piece ∷ more) = piece.0 + own_before more
