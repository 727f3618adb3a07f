-- What the words of members say: pieces with colons between them.
use Rattle.std.specs.Prelude.{ℕ, ◌^◌, nat_lt, List, [], ◌∷◌, ◌++◌, ◌==◌, codes, Bool, cond, Option, Some, None}
use Rattle.std.specs.List.{slice_split}
use Rattle.std.specs.Str.{bytes_eq}
use Rattle.tx_events.specs.declared.multi.Mode.{Mode}
use Rattle.tx_events.specs.declared.multi.Mode.TheVariants as modes
use Rattle.tx_events.specs.declared.multi.Member.{Member}
use Rattle.tx_model.specs.declared.command.Pair.{Pair}
use Rattle.tx_model.specs.declared.reply.Verdict.{Verdict}
use Rattle.tx_model.specs.declared.reply.Verdict.TheVariants as verdicts
use Rattle.tx_model.specs.declared.reply.MemberVerdict.{MemberVerdict}
use Rattle.report_words.specs.Reading.{◌>>=◌, word_at, number_of, full_id}

abbrev pub is_colon : ℕ → Bool
is_colon b = b == 58

-- the pieces of a word
abbrev pub pieces : List ℕ → List (List ℕ)
pieces word = slice_split is_colon word

-- the pieces behind a place of a word, which is at its end or at a colon
abbrev pub beyond : List ℕ → List (List ℕ)
beyond [] = []
beyond (b ∷ bytes) = pieces bytes

unfoldable pub mode_of : List ℕ → Option Mode
mode_of w =
    cond (bytes_eq w (codes "keysh")) (Some modes.KeySh)
    (cond (bytes_eq w (codes "sh")) (Some modes.Sh)
    (cond (bytes_eq w (codes "fornokeyupd")) (Some modes.ForNoKeyUpd)
    (cond (bytes_eq w (codes "forupd")) (Some modes.ForUpd)
    (cond (bytes_eq w (codes "nokeyupd")) (Some modes.NoKeyUpd)
    (cond (bytes_eq w (codes "upd")) (Some modes.Upd) None)))))

unfoldable pub verdict_in : List ℕ → Option Verdict
verdict_in w =
    cond (bytes_eq w (codes "visible")) (Some verdicts.Visible)
    (cond (bytes_eq w (codes "hidden")) (Some verdicts.Hidden)
    (cond (bytes_eq w (codes "too-old")) (Some verdicts.TooOld) None))

-- a number of 32 bits
abbrev pub small : ℕ → Option ℕ
small n = cond (nat_lt n (2 ^ 32)) (Some n) None

-- a number and a mode, and the pieces behind them
unfoldable pub moded_at : List (List ℕ) → Option (ℕ × Mode × List (List ℕ))
moded_at ps = do
  d ← word_at ps
  n ← number_of d.0
  m ← word_at d.1
  mode ← mode_of m.0
  Some (n, mode, m.1)

unfoldable pub pair_of : List ℕ → Option Pair
pair_of w = do
  p ← moded_at (pieces w)
  x ← small p.0
  Some (record { x = record { number = x }; mode = p.1 })

unfoldable pub member_of : List ℕ → Option Member
member_of w = do
  p ← moded_at (pieces w)
  id ← full_id p.0
  Some (record { id = id; mode = p.1 })

unfoldable pub verdict_of : List ℕ → Option MemberVerdict
verdict_of w = do
  p ← moded_at (pieces w)
  id ← full_id p.0
  v ← word_at p.2
  verdict ← verdict_in v.0
  Some (record { id = id; mode = p.1; verdict = verdict })

abbrev pub is_arrow : List ℕ → Bool
is_arrow w = bytes_eq w (codes "->")

-- items up to an arrow or the line's end, behind those so far, and what is behind them
abbrev pub until_arrow : {X : Type 0} → (List ℕ → Option X) → List X → List (List ℕ) → Option (List X × List (List ℕ))
until_arrow item so_far [] = Some (so_far, [])
until_arrow item so_far (w ∷ ws) = cond (is_arrow w) (Some (so_far, w ∷ ws)) (item w >>= λ x. until_arrow item (so_far ++ x ∷ []) ws)
