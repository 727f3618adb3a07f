-- A text with pieces between own bytes that grows.
use Rattle.std.proofs.Common.{Bool, true, if◌then◌else◌, ◌≡◌, ℕ, ◌+◌, ◌-◌, ◌<◌, ◌≤◌, List, [], ◌∷◌, ◌++◌, refl, sym, ap, subst, ◌∙◌, arith, append_assoc, append-nil, drop, get_or, length, set, take}
use Rattle.std.proofs.Math.Seq.{drop-length, take-length}
use Rattle.std.proofs.lemmas.Grind.{flat_map-append}
use Rattle.std.proofs.lemmas.List.{drop-append-le, length-append, length-drop, length-set, take-append-le, take_more, take_more_set}
use Rattle.std.specs.Fmt.{decimal}
use Rattle.std.specs.Prelude.{codes}
use Rattle.report_text.specs.CommandText.{command_words}
use Rattle.report_text.specs.ReplyText.{snapshot_words}
use Rattle.report_text.specs.ReportText.{command_line, line_front, snapshot_end}
use Rattle.report_text.specs.Words.{line_text, more, name_at}
use Rattle.tx_events.specs.declared.event.By.{By}
use Rattle.tx_events.specs.declared.snapshot.SnapData.{SnapData}
use Rattle.tx_model.specs.declared.command.Command.{Command}
use Rattle.tx_model.specs.declared.reply.Reply.TheVariants as replies
use Rattle.script_rounds.specs.Woven.{Piece, own_before, pieces_in, woven}

pub first_within : (a b n : ℕ) → a + b ≤ n → a ≤ n
first_within a b n l = omega arith

pub rest_within : (a b : ℕ) (xs : List ℕ) → a + b ≤ length xs → b ≤ length (drop a xs)
rest_within a b xs l = subst (λ n. b ≤ n) (sym (length-drop a xs)) (within a b (length xs) l) where
  within : (a b n : ℕ) → a + b ≤ n → b ≤ n - a
  within a b n l = omega arith

-- own bytes more stand at its end
pub woven_then : (ms : List Piece) (own more : List ℕ) → own_before ms ≤ length own → woven ms (own ++ more) ≡ woven ms own ++ more
unfolding own_before woven
woven_then [] own more l = refl
woven_then (m ∷ ms) own more l =
    let w = first_within m.0 (own_before ms) (length own) l in
    let start = take m.0 own ++ m.1 in
    ap (λ (t : List ℕ). t ++ m.1 ++ woven ms (drop m.0 (own ++ more))) (take-append-le m.0 own more w)
    ∙ ap (λ (d : List ℕ). start ++ woven ms d) (drop-append-le m.0 own more w)
    ∙ ap (λ (t : List ℕ). start ++ t) (woven_then ms (drop m.0 own) more (rest_within m.0 (own_before ms) own l))
    ∙ sym (append_assoc start (woven ms (drop m.0 own)) more)

plus_assoc : (a b c : ℕ) → a + (b + c) ≡ a + b + c
plus_assoc a b c = omega arith

plus_none : (a : ℕ) → a + 0 ≡ 0 + a
plus_none a = omega arith

before_piece : (ms : List Piece) (m : Piece) → own_before (ms ++ m ∷ []) ≡ own_before ms + m.0
unfolding own_before
before_piece [] m = plus_none m.0
before_piece (n ∷ ms) m = ap (λ k. n.0 + k) (before_piece ms m) ∙ plus_assoc n.0 (own_before ms) m.0

rest_is : (a b c : ℕ) (xs : List ℕ) → a + b + c ≡ length xs → b + c ≡ length (drop a xs)
rest_is a b c xs e = less a b c (length xs) e ∙ sym (length-drop a xs) where
  less : (a b c n : ℕ) → a + b + c ≡ n → b + c ≡ n - a
  less a b c n e = omega arith

zero_plus : (a n : ℕ) → 0 + a ≡ n → a ≡ n
zero_plus a n e = omega arith

-- a piece behind all own bytes stands at its end
woven_piece : (ms : List Piece) (own : List ℕ) (m : Piece) → own_before ms + m.0 ≡ length own → woven (ms ++ m ∷ []) own ≡ woven ms own ++ m.1
unfolding own_before woven
woven_piece [] own m e =
    ap (λ n. take n own ++ m.1 ++ drop n own) (zero_plus m.0 (length own) e)
    ∙ ap (λ (t : List ℕ). t ++ m.1 ++ drop (length own) own) (take-length own)
    ∙ ap (λ (d : List ℕ). own ++ m.1 ++ d) (drop-length own)
    ∙ append-nil (own ++ m.1)
woven_piece (n ∷ ms) own m e =
    let start = take n.0 own ++ n.1 in
    ap (λ (t : List ℕ). start ++ t) (woven_piece ms (drop n.0 own) m (rest_is n.0 (own_before ms) m.0 own e))
    ∙ sym (append_assoc start (woven ms (drop n.0 own)) m.1)

-- what the fields of a text keep to
abbrev pub Stands : ℕ → List Piece → List ℕ → Type 0
Stands before ms own = (before ≡ own_before ms) × (before ≤ length own)

pub none_stands : (before : ℕ) (runs : List (List Piece)) (own : List ℕ) → before ≡ 0 → runs ≡ [] → Stands before (pieces_in runs) own
unfolding own_before
none_stands before runs own e f = (e ∙ ap (λ (rs : List (List Piece)). own_before (pieces_in rs)) (sym f), subst (λ n. n ≤ length own) (sym e) (least (length own))) where
  least : (n : ℕ) → 0 ≤ n
  least n = omega arith

pub woven_none : (runs : List (List Piece)) (own : List ℕ) → runs ≡ [] → own ≡ [] → woven (pieces_in runs) own ≡ []
unfolding woven
woven_none runs own e f = ap (λ (rs : List (List Piece)). woven (pieces_in rs) own) e ∙ f

pub stands_then : (before : ℕ) (ms : List Piece) (own more new : List ℕ) → Stands before ms own → new ≡ own ++ more → Stands before ms new
stands_then before ms own more new s e =
    (s.0, subst (λ (x : List ℕ). before ≤ length x) (sym e) (subst (λ n. before ≤ n) (sym (length-append own more)) (longer before (length own) (length more) s.1))) where
      longer : (a b c : ℕ) → a ≤ b → a ≤ b + c
      longer a b c l = omega arith

pub told_then : (before : ℕ) (ms : List Piece) (own more new : List ℕ) → Stands before ms own → new ≡ own ++ more → woven ms new ≡ woven ms own ++ more
told_then before ms own more new s e = ap (woven ms) e ∙ woven_then ms own more (subst (λ n. n ≤ length own) s.0 s.1)

-- a piece behind all own bytes
pub stands_piece : (before : ℕ) (ms new : List Piece) (own : List ℕ) (m : Piece) → Stands before ms own → m.0 ≡ length own - before → new ≡ ms ++ m ∷ [] → Stands (length own) new own
stands_piece before ms new own m s e f = (sym (ap own_before f ∙ before_piece ms m ∙ whole before (own_before ms) m.0 (length own) s.0 s.1 e), same (length own)) where
  whole : (a b c n : ℕ) → a ≡ b → a ≤ n → c ≡ n - a → b + c ≡ n
  whole a b c n e l f = omega arith

  same : (n : ℕ) → n ≤ n
  same n = omega arith

pub told_piece : (before : ℕ) (ms new : List Piece) (own : List ℕ) (m : Piece) → Stands before ms own → m.0 ≡ length own - before → new ≡ ms ++ m ∷ [] → woven new own ≡ woven ms own ++ m.1
told_piece before ms new own m s e f = ap (λ (x : List Piece). woven x own) f ∙ woven_piece ms own m (whole before (own_before ms) m.0 (length own) s.0 s.1 e) where
  whole : (a b c n : ℕ) → a ≡ b → a ≤ n → c ≡ n - a → b + c ≡ n
  whole a b c n e l f = omega arith

-- one list of pieces more
pub one_more : (runs : List (List Piece)) (run : List Piece) → pieces_in (runs ++ run ∷ []) ≡ pieces_in runs ++ run
one_more runs run = flat_map-append (λ r. r) runs (run ∷ []) ∙ ap (λ (t : List Piece). pieces_in runs ++ t) (append-nil run)

last_set : (runs : List (List Piece)) (i : ℕ) (run : List Piece) → i + 1 ≡ length runs → set runs i run ≡ take i runs ++ run ∷ []
last_set runs i run e =
    sym (take-length (set runs i run)) ∙ ap (λ n. take n (set runs i run)) (length-set runs i run ∙ sym e) ∙ take_more_set runs i run (below i (length runs) e) where
      below : (i n : ℕ) → i + 1 ≡ n → i < n
      below i n e = omega arith

last_is : (runs : List (List Piece)) (i : ℕ) (run : List Piece) → i + 1 ≡ length runs → run ≡ get_or runs i run → runs ≡ take i runs ++ run ∷ []
last_is runs i run e is =
    sym (take-length runs) ∙ ap (λ n. take n runs) (sym e) ∙ take_more runs i run (below i (length runs) e) ∙ ap (λ (r : List Piece). take i runs ++ r ∷ []) (sym is) where
      below : (i n : ℕ) → i + 1 ≡ n → i < n
      below i n e = omega arith

-- the last list has one piece more
pub last_longer : (runs new : List (List Piece)) (run longer : List Piece) (m : Piece) (n : ℕ) → n ≡ length runs → 0 < n → run ≡ get_or runs (n - 1) run → longer ≡ run ++ m ∷ [] → new ≡ set runs (n - 1) longer
    → pieces_in new ≡ pieces_in runs ++ m ∷ []
last_longer runs new run longer m n count some is more f =
    let i = n - 1 in
    let e = behind n some ∙ count in
    ap pieces_in (f ∙ ap (λ (r : List Piece). set runs i r) more ∙ last_set runs i (run ++ m ∷ []) e) ∙ one_more (take i runs) (run ++ m ∷ [])
    ∙ sym (append_assoc (pieces_in (take i runs)) run (m ∷ []))
    ∙ ap (λ (t : List Piece). t ++ m ∷ []) (sym (one_more (take i runs) run) ∙ sym (ap pieces_in (last_is runs i run e is))) where
      behind : (n : ℕ) → 0 < n → n - 1 + 1 ≡ n
      behind n l = omega arith

-- the last list is the same
pub last_same : (runs new : List (List Piece)) (run same : List Piece) (n : ℕ) → n ≡ length runs → 0 < n → run ≡ get_or runs (n - 1) run → same ≡ run → new ≡ set runs (n - 1) same → new ≡ runs
last_same runs new run same n count some is e f =
    let i = n - 1 in
    let l = behind n some ∙ count in
    f ∙ last_set runs i same l ∙ ap (λ (r : List Piece). take i runs ++ r ∷ []) e ∙ sym (last_is runs i run l is) where
      behind : (n : ℕ) → 0 < n → n - 1 + 1 ≡ n
      behind n l = omega arith

more_both : (xs ys : List (List ℕ)) → more (xs ++ ys) ≡ more xs ++ more ys
unfolding more
more_both [] ys = refl
more_both (x ∷ xs) ys = ap (λ (t : List ℕ). (32 ∷ x) ++ t) (more_both xs ys) ∙ sym (append_assoc (32 ∷ x) (more xs) (more ys))

-- a snapshot's line, front and end
pub line_parts : (names : List (List ℕ)) (by : By) (command : Command) (s : SnapData) (text : List ℕ) → (text ++ line_front names by command) ++ snapshot_end s ≡ text ++ command_line names (record { by = by; command = command; reply = replies.Snapped s })
unfolding line_text
line_parts names by command s text =
    let name = name_at names by.session in
    let first = decimal by.command ∷ command_words command in
    let rest = codes "->" ∷ codes "ok" ∷ snapshot_words s in
    let end = 10 ∷ [] in
    append_assoc text (name ++ more first) (more rest ++ end)
    ∙ ap (λ (t : List ℕ). text ++ t)
    (append_assoc name (more first) (more rest ++ end) ∙ ap (λ (t : List ℕ). name ++ t) (sym (append_assoc (more first) (more rest) end) ∙ ap (λ (t : List ℕ). t ++ end) (sym (more_both first rest)))
    ∙ sym (append_assoc name (more (first ++ rest)) end))

-- a list of one piece more
pub one_pushed : (runs mid new : List (List Piece)) (run none : List Piece) (m : Piece) (n : ℕ) (ok : Bool) → n ≡ length runs → mid ≡ runs → none ≡ [] → run ≡ none ++ m ∷ [] → ok ≡ true
    → new ≡ (if ok then take n (mid ++ drop (length mid) runs) ++ run ∷ [] else take n (mid ++ drop (length mid) runs)) → pieces_in new ≡ pieces_in runs ++ m ∷ []
one_pushed runs mid new run none m n ok count e f g good told =
    let kept = take n (mid ++ drop (length mid) runs) in
    let same : kept ≡ runs =
    ap (λ (ms : List (List Piece)). take n (ms ++ drop (length ms) runs)) e ∙ ap (λ (ds : List (List Piece)). take n (runs ++ ds)) (drop-length runs)
    ∙ ap (take n) (append-nil runs) ∙ ap (λ k. take k runs) count ∙ take-length runs in
    ap pieces_in (told ∙ ap (λ (b : Bool). if b then kept ++ run ∷ [] else kept) good) ∙ one_more kept run
    ∙ ap (λ (rs : List (List Piece)). pieces_in rs ++ run) same
    ∙ ap (λ (t : List Piece). pieces_in runs ++ t) (g ∙ ap (λ (t : List Piece). t ++ m ∷ []) f)
