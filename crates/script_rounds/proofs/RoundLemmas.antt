-- The commands of a round, session by session, and the rounds of a script.
use Rattle.tx_events.proofs.ListSteps.{eqb-refl}
use Rattle.std.proofs.Common.{◌≡◌, ◌≢◌, ℕ, ◌+◌, ◌<◌, ◌≤◌, ◌⊎◌, ◌==◌, List, [], ◌∷◌, ◌++◌, refl, sym, ap, ◌∙◌, arith, ⊎_elim, Bool, true, false, not, cond, length, map, take, drop, get_or, append-nil, append_assoc, length-append, eqb-true}
use Rattle.std.proofs.lemmas.Bool.{false≢true}
use Rattle.std.proofs.lemmas.Bool.Decides.{nat_tests}
use Rattle.std.proofs.lemmas.Grind.{flat_map-append}
use Rattle.std.proofs.lemmas.List.{take_more, take-append-drop}
use Rattle.std.proofs.lemmas.List.Elements.{filter-append, filter_map-append}
use Rattle.std.proofs.lemmas.List.Filters.{length-filter_both}
use Rattle.std.specs.List.{AllByRecursion, filter, flat_map}
use Rattle.tx_model.specs.declared.command.Command.{Command}
use Rattle.tx_model.specs.Asked as asked
use Rattle.tx_events.specs.Places.{first_seen}
use Rattle.session_lang.specs.declared.script.Item.{Item}
use Rattle.session_lang.specs.declared.script.Item.TheVariants as items
use Rattle.session_lang.specs.Rounds.{asked_at, asked_from, asked_in, asked_of, asked_round, sessions_in, turns_of}
use Rattle.run_law.specs.Turns.{is_command, turn_in, turns_in}

-- the commands of the sessions other than x
abbrev others : ℕ → List (ℕ × Command) → List (ℕ × Command)
others x turns = filter (λ t. not (t.0 == x)) turns

-- the others' commands are as before, and x has none among them
others_none : (x : ℕ) (turns : List (ℕ × Command)) → turns_of x (others x turns) ≡ []
others_none x [] = refl
others_none x (t ∷ turns) = step (t.0 == x) refl (others_none x turns)
  where
    step : (b : Bool) → (t.0 == x) ≡ b → turns_of x (others x turns) ≡ [] → turns_of x (cond (not b) (t ∷ others x turns) (others x turns)) ≡ []
    step true e i = i
    step false e i = ap (λ b. cond b (t ∷ turns_of x (others x turns)) (turns_of x (others x turns))) e ∙ i

others_same : (x y : ℕ) (turns : List (ℕ × Command)) → (y == x) ≡ false → turns_of y (others x turns) ≡ turns_of y turns
others_same x y [] n = refl
others_same x y (t ∷ turns) n = step (t.0 == x) (t.0 == y) refl refl (others_same x y turns n)
  where
    step : (a b : Bool) → (t.0 == x) ≡ a → (t.0 == y) ≡ b → turns_of y (others x turns) ≡ turns_of y turns → turns_of y (cond (not a) (t ∷ others x turns) (others x turns)) ≡ cond (t.0 == y) (t ∷ turns_of y turns) (turns_of y turns)
    step true true e f i = absurd (false≢true (sym n ∙ ap (λ z. z == x) (sym (eqb-true t.0 y f)) ∙ e))
    step true false e f i = i ∙ ap (λ b. cond b (t ∷ turns_of y turns) (turns_of y turns)) (sym f)
    step false b e f i = ap (λ ts. cond (t.0 == y) (t ∷ ts) ts) i

others_grouped : (x : ℕ) (ys : List ℕ) (turns : List (ℕ × Command)) → flat_map (λ y. turns_of y turns) (filter (λ y. not (y == x)) ys) ≡ flat_map (λ y. turns_of y (others x turns)) ys
others_grouped x [] turns = refl
others_grouped x (y ∷ ys) turns = step (y == x) refl (others_grouped x ys turns)
  where
    registered : List ℕ
    registered = filter (λ z. not (z == x)) ys

    rest : List (ℕ × Command)
    rest = flat_map (λ z. turns_of z (others x turns)) ys

    step : (b : Bool) → (y == x) ≡ b → flat_map (λ z. turns_of z turns) registered ≡ rest → flat_map (λ z. turns_of z turns) (cond (not b) (y ∷ registered) registered) ≡ turns_of y (others x turns) ++ rest
    step true e i = i ∙ ap (λ ts. ts ++ rest) (sym (ap (λ z. turns_of z (others x turns)) (eqb-true y x e) ∙ others_none x turns))
    step false e i = ap (λ ts. turns_of y turns ++ ts) i ∙ ap (λ ts. ts ++ rest) (sym (others_same x y turns e))

-- each command once: no more in the order of the sessions than in the round
pub grouped_short : (xs : List ℕ) (turns : List (ℕ × Command)) → length (flat_map (λ y. turns_of y turns) (first_seen xs)) ≤ length turns
grouped_short [] turns = omega arith
grouped_short (x ∷ xs) turns =
    let both = length-filter_both {X = ℕ × Command} (λ t. t.0 == x) (λ t. not (t.0 == x)) (λ t. refl) turns in
    let rest = grouped_short xs (others x turns) in
    let same = ap length (others_grouped x (first_seen xs) turns) in
    let all = length-append (turns_of x turns) (flat_map (λ y. turns_of y turns) (filter (λ y. not (y == x)) (first_seen xs))) in
    omega (arith, both, rest, same, all)

-- the commands of the first sessions, with one session more
pub sessions_on : (turns : List (ℕ × Command)) (numbers : List ℕ) (i : ℕ) → i < length numbers → flat_map (λ y. turns_of y turns) (take (i + 1) numbers) ≡ flat_map (λ y. turns_of y turns) (take i numbers) ++ turns_of (get_or numbers i 0) turns
sessions_on turns numbers i l =
    ap (flat_map (λ y. turns_of y turns)) (take_more numbers i 0 l)
    ∙ flat_map-append (λ y. turns_of y turns) (take i numbers) (get_or numbers i 0 ∷ [])
    ∙ ap (λ t. flat_map (λ y. turns_of y turns) (take i numbers) ++ t) (append-nil (turns_of (get_or numbers i 0) turns))

pub front_short : {X Y : Type 0} (f : X → List Y) (xs : List X) (i : ℕ) → length (flat_map f (take i xs)) ≤ length (flat_map f xs)
front_short f xs i =
    let e = ap length (ap (flat_map f) (sym (take-append-drop i xs)) ∙ flat_map-append f (take i xs) (drop i xs)) in
    omega (arith, e, length-append (flat_map f (take i xs)) (flat_map f (drop i xs)))

pub sessions_of_turns : (script : List Item) → map (λ (p : ℕ × Command). p.0) (turns_in script) ≡ sessions_in script
sessions_of_turns [] = refl
sessions_of_turns (items.Run s c ∷ script) = ap (λ t. s ∷ t) (sessions_of_turns script)
sessions_of_turns (items.Round ∷ script) = sessions_of_turns script
sessions_of_turns (items.Checkpoint ∷ script) = sessions_of_turns script
sessions_of_turns (items.Crash how ∷ script) = sessions_of_turns script
sessions_of_turns (items.Dump what at length ∷ script) = sessions_of_turns script

pub turns_short : (script : List Item) → length (turns_in script) ≤ length script
turns_short [] = omega arith
turns_short (items.Run s c ∷ script) = let l = turns_short script in omega arith
turns_short (items.Round ∷ script) = let l = turns_short script in omega arith
turns_short (items.Checkpoint ∷ script) = let l = turns_short script in omega arith
turns_short (items.Crash how ∷ script) = let l = turns_short script in omega arith
turns_short (items.Dump what at size ∷ script) = let l = turns_short script in omega arith

-- one item more
pub turns_step : (n : ℕ) (script : List Item) (i : ℕ) (x : Item) → i < length script → x ≡ get_or script i x → turns_of n (turns_in (take (i + 1) script)) ≡ turns_of n (turns_in (take i script)) ++ turns_of n (turns_in (x ∷ []))
turns_step n script i x l e =
    ap (λ t. turns_of n (turns_in t)) (take_more script i x l ∙ ap (λ y. take i script ++ y ∷ []) (sym e))
    ∙ ap (turns_of n) (filter_map-append turn_in (take i script) (x ∷ []))
    ∙ filter-append (λ p. p.0 == n) (turns_in (take i script)) (turns_in (x ∷ []))

-- another session's item adds none
pub others_turn : (n s : ℕ) (c : Command) → s ≢ n → turns_of n (turns_in (items.Run s c ∷ [])) ≡ []
others_turn n s c d = let e : (s == n) ≡ false = grind (arith, nat_tests) in rw e refl

pub own_turn : (n : ℕ) (c : Command) → turns_of n (turns_in (items.Run n c ∷ [])) ≡ (n, c) ∷ []
own_turn n c = rw (eqb-refl n) refl

-- a place behind a list, and at its end
get_behind : {X : Type 0} → (xs ys : List X) (x d : X) → get_or (xs ++ x ∷ ys) (length xs) d ≡ x
get_behind [] ys x d = refl
get_behind (y ∷ xs) ys x d = get_behind xs ys x d

get_past : {X : Type 0} → (xs : List X) (d : X) → get_or xs (length xs) d ≡ d
get_past [] d = refl
get_past (y ∷ xs) d = get_past xs d

-- what is asked up to the directive that ends a round, by it, and behind it
asked_then : (turns : List (ℕ × Command)) (round rest : List Item) (d : Item) → AllByRecursion (λ item. is_command item ≡ true) round → is_command d ≡ false → asked_from turns (round ++ d ∷ rest) ≡ asked_round (turns ++ turns_in round) ++ (asked_in d ++ asked_of rest)
asked_then turns [] rest items.Round a e = ap (λ ts. asked_round ts ++ asked_of rest) (sym (append-nil turns))
asked_then turns [] rest items.Checkpoint a e = ap (λ ts. asked_round ts ++ asked.checkpoint ∷ asked_of rest) (sym (append-nil turns))
asked_then turns [] rest (items.Crash how) a e = ap (λ ts. asked_round ts ++ asked_of rest) (sym (append-nil turns))
asked_then turns [] rest (items.Dump what at size) a e = ap (λ ts. asked_round ts ++ asked.dump what at size ∷ asked_of rest) (sym (append-nil turns))
asked_then turns [] rest (items.Run s c) a e = absurd (false≢true (sym e))
asked_then turns (items.Run s c ∷ round) rest d a e =
    asked_then (turns ++ (s, c) ∷ []) round rest d a.1 e ∙ ap (λ ts. asked_round ts ++ (asked_in d ++ asked_of rest)) (append_assoc turns ((s, c) ∷ []) (turns_in round))
asked_then turns (items.Round ∷ round) rest d a e = absurd (false≢true a.0)
asked_then turns (items.Checkpoint ∷ round) rest d a e = absurd (false≢true a.0)
asked_then turns (items.Crash how ∷ round) rest d a e = absurd (false≢true a.0)
asked_then turns (items.Dump what at size ∷ round) rest d a e = absurd (false≢true a.0)

only_commands : (turns : List (ℕ × Command)) (round : List Item) → AllByRecursion (λ item. is_command item ≡ true) round → asked_from turns round ≡ asked_round (turns ++ turns_in round)
only_commands turns [] a = ap asked_round (sym (append-nil turns))
only_commands turns (items.Run s c ∷ round) a = only_commands (turns ++ (s, c) ∷ []) round a.1 ∙ ap asked_round (append_assoc turns ((s, c) ∷ []) (turns_in round))
only_commands turns (items.Round ∷ round) a = absurd (false≢true a.0)
only_commands turns (items.Checkpoint ∷ round) a = absurd (false≢true a.0)
only_commands turns (items.Crash how ∷ round) a = absurd (false≢true a.0)
only_commands turns (items.Dump what at size ∷ round) a = absurd (false≢true a.0)

-- what a script asks for: its first round, the directive behind that, and what the rest asks for
pub first_asked : (script round rest : List Item) → AllByRecursion (λ item. is_command item ≡ true) round → ((script ≡ round) × (rest ≡ [])) ⊎ ((d : Item) × (is_command d ≡ false) × (script ≡ round ++ d ∷ rest)) → asked_of script ≡ asked_round (turns_in round) ++ (asked_at script (length round) ++ asked_of rest)
first_asked script round rest a k = ⊎_elim
    (λ (b : (script ≡ round) × (rest ≡ [])).
    let none : asked_at script (length round) ≡ [] = ap (λ all. asked_at all (length round)) b.0 ∙ ap asked_in (get_past round items.Round) in
    ap asked_of b.0 ∙ only_commands [] round a ∙ sym (append-nil (asked_round (turns_in round)))
    ∙ ap (λ t. asked_round (turns_in round) ++ (t ++ asked_of [])) (sym none)
    ∙ ap (λ t. asked_round (turns_in round) ++ (asked_at script (length round) ++ asked_of t)) (sym b.1))
    (λ (b : (d : Item) × (is_command d ≡ false) × (script ≡ round ++ d ∷ rest)).
    let one : asked_at script (length round) ≡ asked_in b.0 = ap (λ all. asked_at all (length round)) b.2 ∙ ap asked_in (get_behind round rest b.0 items.Round) in
    ap asked_of b.2 ∙ asked_then [] round rest b.0 a b.1 ∙ ap (λ t. asked_round (turns_in round) ++ (t ++ asked_of rest)) (sym one))
    k
