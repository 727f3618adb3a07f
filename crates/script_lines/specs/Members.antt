-- The members of a multixact, as a script writes them: an id and a mode, with one colon between them.
use Rattle.std.specs.Prelude.{ℕ, not, List, [], ◌∷◌, ◌++◌, ◌==◌, codes, Bool, cond, Result, Ok, Err, take, drop, suc}
use Rattle.std.specs.List.{prefix_len}
use Rattle.std.specs.Str.{bytes_eq}
use Rattle.tx_events.specs.declared.multi.Mode.{Mode}
use Rattle.tx_events.specs.declared.multi.Mode.TheVariants as modes
use Rattle.tx_model.specs.declared.command.Pair.{Pair}
use Rattle.script_lines.specs.declared.kind.Kind.{Kind}
use Rattle.script_lines.specs.declared.kind.Kind.TheVariants as kinds
use Rattle.script_lines.specs.Kinds.{◌>>=◌}
use Rattle.script_lines.specs.Arguments.{stored_in}

abbrev pub is_colon : ℕ → Bool
is_colon b = b == 58

-- what stands before the first colon, and behind it. No mode has a colon in it, nor is nothing one.
abbrev pub id_part : List ℕ → List ℕ
id_part w = take (prefix_len (λ b. not (is_colon b)) w) w

abbrev pub mode_part : List ℕ → List ℕ
mode_part w = drop (suc (prefix_len (λ b. not (is_colon b)) w)) w

unfoldable pub mode_in : List ℕ → Result Mode Kind
mode_in w =
    cond (bytes_eq w (codes "keysh")) (Ok modes.KeySh)
    (cond (bytes_eq w (codes "sh")) (Ok modes.Sh)
    (cond (bytes_eq w (codes "fornokeyupd")) (Ok modes.ForNoKeyUpd)
    (cond (bytes_eq w (codes "forupd")) (Ok modes.ForUpd)
    (cond (bytes_eq w (codes "nokeyupd")) (Ok modes.NoKeyUpd)
    (cond (bytes_eq w (codes "upd")) (Ok modes.Upd) (Err kinds.Mode))))))

-- each word has a mode behind its colon
abbrev pub modes_in : List (List ℕ) → Result (Unit {0}) Kind
modes_in [] = Ok tt
modes_in (w ∷ ws) = mode_in (mode_part w) >>= λ _. modes_in ws

unfoldable pub pair_in : List ℕ → Result Pair Kind
pair_in w = do
  x ← stored_in 0 (id_part w)
  mode ← mode_in (mode_part w)
  Ok (record { x = record { number = x }; mode = mode })

-- members, behind those so far
abbrev pub pairs_from : List Pair → List (List ℕ) → Result (List Pair) Kind
pairs_from so_far [] = Ok so_far
pairs_from so_far (w ∷ ws) = pair_in w >>= λ p. pairs_from (so_far ++ p ∷ []) ws

-- all modes are tested before any number
unfoldable pub pairs_in : List (List ℕ) → Result (List Pair) Kind
pairs_in ws = do
  _ ← modes_in ws
  pairs_from [] ws

-- the fault of a member whose number has this one: that of a later member's mode comes before it
abbrev pub fault_behind : Kind → Result (Unit {0}) Kind → Kind
fault_behind kind (Ok _) = kind
fault_behind kind (Err other) = other
