-- The sessions of a report's lines: each is one that was named before or the next one, and in a round those of one stand
-- together.
use Rattle.std.proofs.Common.{◌≡◌, ◌≢◌, ◌⊎◌, ℕ, suc, ◌+◌, ◌<◌, ◌≤◌, List, [], ◌∷◌, ◌++◌, Bool, true, false, cond, not, Option, Some, None, refl, sym, ap, subst, ◌∙◌, inl, inr, ⊎_elim, arith, length, map, ◌==◌, ◌||◌, eqb-true, append-nil, append_assoc, length-append}
use Rattle.std.proofs.lemmas.Bool.{false≢true}
use Rattle.std.proofs.lemmas.List.{map-append}
use Rattle.std.proofs.lemmas.List.FromFn.{length-range_with_len}
use Rattle.std.specs.List.{AllByRecursion, count_by, filter, flat_map, range_with_len}
use Rattle.tx_model.specs.declared.command.Command.{Command}
use Rattle.tx_model.specs.Lines.{grouped}
use Rattle.tx_events.specs.IdLists.{has}
use Rattle.tx_events.specs.Places.{first_seen}
use Rattle.tx_events.proofs.ListSteps.{eqb-refl, list_any-push, range_push}
use Rattle.session_lang.specs.Rounds.{turns_of}
use Rattle.session_lang.proofs.SeenLemmas.{is_in, is_in_seen, next_number, old_number, push_next, push_old}
use Rattle.run_law.proofs.PartSums.{count_cons}
use Rattle.report_read.specs.Grammar.{after_turn, is_speaker, may_speak}

-- ---- numbers in the order in which they first appear

-- k numbers have appeared, and k' when these are through
abbrev pub Climbs : ℕ → List ℕ → ℕ → Type 0
Climbs k [] k' = k ≡ k'
Climbs k (x ∷ xs) k' = ((x < k) × Climbs k xs k') ⊎ ((x ≡ k) × Climbs (suc k) xs k')

climb_step : (xs ys : List ℕ) (y m n : ℕ) → ((zs : List ℕ) (k : ℕ) → first_seen zs ≡ range_with_len 0 k → first_seen (zs ++ ys) ≡ range_with_len 0 n → Climbs k ys n) → first_seen xs ≡ range_with_len 0 m → first_seen (xs ++ y ∷ ys) ≡ range_with_len 0 n → (b : Bool) → is_in y xs ≡ b → Climbs m (y ∷ ys) n
climb_step xs ys y m n rest e f true i = inl (
  old_number y m xs e i,
  rest (xs ++ y ∷ []) m (push_old y xs i ∙ e) (ap first_seen (append_assoc xs (y ∷ []) ys) ∙ f),
)
climb_step xs ys y m n rest e f false i =
    let next : y ≡ m = next_number y m n xs ys e i f in
    inr (
      next,
      rest (xs ++ y ∷ []) (suc m) (push_next y xs i ∙ ap (λ t. t ++ y ∷ []) e ∙ ap (λ z. range_with_len 0 m ++ z ∷ []) next ∙ sym (range_push 0 m ∙ ap (λ z. range_with_len 0 m ++ z ∷ []) (omega arith))) (ap first_seen (append_assoc xs (y ∷ []) ys) ∙ f),
    )

climbs_from : (n : ℕ) (ys xs : List ℕ) (m : ℕ) → first_seen xs ≡ range_with_len 0 m → first_seen (xs ++ ys) ≡ range_with_len 0 n → Climbs m ys n
climbs_from n [] xs m e f = sym (length-range_with_len 0 m) ∙ ap length (sym e ∙ ap first_seen (sym (append-nil xs)) ∙ f) ∙ length-range_with_len 0 n
climbs_from n (y ∷ ys) xs m e f = climb_step xs ys y m n (λ zs k. climbs_from n ys zs k) e f (is_in y xs) refl

pub climbs : (n : ℕ) (ys : List ℕ) → first_seen ys ≡ range_with_len 0 n → Climbs 0 ys n
climbs n ys f = climbs_from n ys [] 0 refl f

pub record Cut (k : ℕ) (xs ys : List ℕ) (k' : ℕ) : Type 0 where
  pub middle : ℕ
  pub front : Climbs k xs middle
  pub behind : Climbs middle ys k'

pub climbs_apart : (k k' : ℕ) (xs ys : List ℕ) → Climbs k (xs ++ ys) k' → Cut k xs ys k'
climbs_apart k k' [] ys c = record { middle = k; front = refl; behind = c }
climbs_apart k k' (x ∷ xs) ys c = ⊎_elim
    (λ (a : (x < k) × Climbs k (xs ++ ys) k'). let r = climbs_apart k k' xs ys a.1 in record { middle = r.middle; front = inl (a.0, r.front); behind = r.behind })
    (λ (a : (x ≡ k) × Climbs (suc k) (xs ++ ys) k'). let r = climbs_apart (suc k) k' xs ys a.1 in record { middle = r.middle; front = inr (a.0, r.front); behind = r.behind })
    c

-- no fewer have appeared behind them than before
pub climbs_up : (k k' : ℕ) (xs : List ℕ) → Climbs k xs k' → k ≤ k'
climbs_up k k' [] c = let e : k ≡ k' = c in omega arith
climbs_up k k' (x ∷ xs) c = ⊎_elim
    (λ (a : (x < k) × Climbs k xs k'). climbs_up k k' xs a.1)
    (λ (a : (x ≡ k) × Climbs (suc k) xs k'). let l = climbs_up (suc k) k' xs a.1 in omega arith)
    c

-- each that appears is below the number behind them
pub climbs_within : (k k' : ℕ) (xs : List ℕ) → Climbs k xs k' → AllByRecursion (λ x. x < k') xs
climbs_within k k' [] c = tt
climbs_within k k' (x ∷ xs) c = ⊎_elim
    (λ (a : (x < k) × Climbs k xs k'). let up = climbs_up k k' xs a.1 in let low = a.0 in (omega (arith, up, low), climbs_within k k' xs a.1))
    (λ (a : (x ≡ k) × Climbs (suc k) xs k'). let up = climbs_up (suc k) k' xs a.1 in let same = a.0 in (omega (arith, up, same), climbs_within (suc k) k' xs a.1))
    c

-- ---- a round's commands, session by session

abbrev pub sessions_of : List (ℕ × Command) → List ℕ
sessions_of turns = map (λ t. t.0) turns

own_sessions : (s : ℕ) (turns : List (ℕ × Command)) → AllByRecursion (λ x. x ≡ s) (sessions_of (turns_of s turns))
own_sessions s [] = tt
own_sessions s (t ∷ turns) = step (t.0 == s) refl (own_sessions s turns)
  where
    step : (b : Bool) → (t.0 == s) ≡ b → AllByRecursion (λ x. x ≡ s) (sessions_of (turns_of s turns)) → AllByRecursion (λ x. x ≡ s) (sessions_of (cond b (t ∷ turns_of s turns) (turns_of s turns)))
    step true e a = (eqb-true t.0 s e, a)
    step false e a = a

some_own : (s : ℕ) (turns : List (ℕ × Command)) → is_in s (sessions_of turns) ≡ true → turns_of s turns ≢ []
some_own s [] i = λ _. absurd (false≢true i)
some_own s (t ∷ turns) i = step (t.0 == s) refl (λ f. some_own s turns f)
  where
    swapped : (b : Bool) → (t.0 == s) ≡ false → (s == t.0) ≡ b → is_in s (sessions_of turns) ≡ true
    swapped true e f = absurd (false≢true (sym e ∙ ap (λ z. t.0 == z) (eqb-true s t.0 f) ∙ eqb-refl t.0))
    swapped false e f = ap (λ b. b || is_in s (sessions_of turns)) (sym f) ∙ i

    step : (b : Bool) → (t.0 == s) ≡ b → (is_in s (sessions_of turns) ≡ true → turns_of s turns ≢ []) → cond b (t ∷ turns_of s turns) (turns_of s turns) ≢ []
    step true e rest = λ n. cc
    step false e rest = rest (swapped (s == t.0) e refl)

-- the sessions, each once
abbrev pub AreApart : List ℕ → Type 0
AreApart [] = Unit {0}
AreApart (x ∷ xs) = (is_in x xs ≡ false) × AreApart xs

not_in_others : (x : ℕ) (xs : List ℕ) → is_in x (filter (λ y. not (y == x)) xs) ≡ false
not_in_others x [] = refl
not_in_others x (z ∷ xs) = step (z == x) refl (not_in_others x xs)
  where
    other : (b : Bool) → (z == x) ≡ false → (x == z) ≡ b → b ≡ false
    other true e f = absurd (false≢true (sym e ∙ ap (λ y. z == y) (eqb-true x z f) ∙ eqb-refl z))
    other false e f = refl

    step : (b : Bool) → (z == x) ≡ b → is_in x (filter (λ y. not (y == x)) xs) ≡ false → is_in x (cond (not b) (z ∷ filter (λ y. not (y == x)) xs) (filter (λ y. not (y == x)) xs)) ≡ false
    step true e i = i
    step false e i = ap (λ b. b || is_in x (filter (λ y. not (y == x)) xs)) (other (x == z) e refl) ∙ i

not_in_fewer : (x : ℕ) (q : ℕ → Bool) (xs : List ℕ) → is_in x xs ≡ false → is_in x (filter q xs) ≡ false
not_in_fewer x q [] i = refl
not_in_fewer x q (z ∷ xs) i = both (x == z) refl i (λ k. not_in_fewer x q xs k)
  where
    both : (b : Bool) → (x == z) ≡ b → b || is_in x xs ≡ false → (is_in x xs ≡ false → is_in x (filter q xs) ≡ false) → is_in x (cond (q z) (z ∷ filter q xs) (filter q xs)) ≡ false
    both true e i rest = absurd (false≢true (sym i))
    both false e i rest = elim (q z) as (λ c. is_in x (cond c (z ∷ filter q xs) (filter q xs)) ≡ false) [ true ↦ ap (λ b. b || is_in x (filter q xs)) e ∙ rest i | false ↦ rest i ]

fewer_apart : (q : ℕ → Bool) (xs : List ℕ) → AreApart xs → AreApart (filter q xs)
fewer_apart q [] a = tt
fewer_apart q (z ∷ xs) a = elim (q z) as (λ c. AreApart (cond c (z ∷ filter q xs) (filter q xs))) [ true ↦ (not_in_fewer z q xs a.0, fewer_apart q xs a.1) | false ↦ fewer_apart q xs a.1 ]

pub seen_apart : (xs : List ℕ) → AreApart (first_seen xs)
seen_apart [] = tt
seen_apart (x ∷ xs) = (not_in_others x (first_seen xs), fewer_apart (λ y. not (y == x)) (first_seen xs) (seen_apart xs))

count_none : (x : ℕ) (ss : List ℕ) → is_in x ss ≡ false → count_by (λ s. x == s) ss ≡ 0
count_none x [] i = refl
count_none x (s ∷ ss) i = count_cons (λ s. x == s) s ss ∙ step (x == s) i (λ k. count_none x ss k)
  where
    step : (b : Bool) → b || is_in x ss ≡ false → (is_in x ss ≡ false → count_by (λ s. x == s) ss ≡ 0) → cond b 1 0 + count_by (λ s. x == s) ss ≡ 0
    step true i rest = absurd (false≢true (sym i))
    step false i rest = let r = rest i in omega arith

count_once : (x : ℕ) (ss : List ℕ) → AreApart ss → count_by (λ s. x == s) ss ≤ 1
count_once x [] a = omega arith
count_once x (s ∷ ss) a = let c = count_cons (λ s. x == s) s ss in let t = step (x == s) refl (count_once x ss a.1) in omega arith
  where
    step : (b : Bool) → (x == s) ≡ b → count_by (λ s. x == s) ss ≤ 1 → cond b 1 0 + count_by (λ s. x == s) ss ≤ 1
    step true e i = let z = count_none x ss (ap (λ y. is_in y ss) (eqb-true x s e) ∙ a.0) in omega arith
    step false e i = omega arith

-- a command more is told by as many blocks as are its session's
blocks_more : (t : ℕ × Command) (turns : List (ℕ × Command)) (ss : List ℕ) → length (flat_map (λ s. turns_of s (t ∷ turns)) ss) ≡ count_by (λ s. t.0 == s) ss + length (flat_map (λ s. turns_of s turns) ss)
blocks_more t turns [] = refl
blocks_more t turns (s ∷ ss) =
    let more = length-append (turns_of s (t ∷ turns)) (flat_map (λ s. turns_of s (t ∷ turns)) ss) in
    let old = length-append (turns_of s turns) (flat_map (λ s. turns_of s turns) ss) in
    let count = count_cons (λ s. t.0 == s) s ss in
    let one = step (t.0 == s) in
    let rest = blocks_more t turns ss in
    omega arith
  where
    step : (b : Bool) → length (cond b (t ∷ turns_of s turns) (turns_of s turns)) ≡ cond b 1 0 + length (turns_of s turns)
    step true = omega arith
    step false = omega arith

blocks_none : (ss : List ℕ) → length (flat_map (λ s. turns_of s []) ss) ≡ 0
blocks_none [] = refl
blocks_none (s ∷ ss) = blocks_none ss

blocks_short : (ss : List ℕ) (turns : List (ℕ × Command)) → AreApart ss → length (flat_map (λ s. turns_of s turns) ss) ≤ length turns
blocks_short ss [] a = let z = blocks_none ss in omega arith
blocks_short ss (t ∷ turns) a = let m = blocks_more t turns ss in let c = count_once t.0 ss a in let i = blocks_short ss turns a in omega arith

-- grouped by session the commands are no more than before
pub grouped_short : (turns : List (ℕ × Command)) → length (grouped turns) ≤ length turns
grouped_short turns = blocks_short (first_seen (sessions_of turns)) turns (seen_apart (sessions_of turns))

-- a block of lines for each session, none of them empty
abbrev blocks : List (ℕ × Command) → List ℕ → List ℕ
blocks turns ss = sessions_of (flat_map (λ s. turns_of s turns) ss)

blocks_cons : (turns : List (ℕ × Command)) (s : ℕ) (ss : List ℕ) → blocks turns (s ∷ ss) ≡ sessions_of (turns_of s turns) ++ blocks turns ss
blocks_cons turns s ss = map-append (λ (t : ℕ × Command). t.0) (turns_of s turns) (flat_map (λ s. turns_of s turns) ss)

others_twice : (s : ℕ) (zs : List ℕ) → filter (λ y. not (y == s)) (filter (λ y. not (y == s)) zs) ≡ filter (λ y. not (y == s)) zs
others_twice s [] = refl
others_twice s (z ∷ zs) = step (z == s) refl (others_twice s zs)
  where
    step : (b : Bool) → (z == s) ≡ b → filter (λ y. not (y == s)) (filter (λ y. not (y == s)) zs) ≡ filter (λ y. not (y == s)) zs → filter (λ y. not (y == s)) (cond (not b) (z ∷ filter (λ y. not (y == s)) zs) (filter (λ y. not (y == s)) zs)) ≡ cond (not b) (z ∷ filter (λ y. not (y == s)) zs) (filter (λ y. not (y == s)) zs)
    step true e i = i
    step false e i = rw e (ap (λ t. z ∷ t) i)

-- the others among numbers that begin with s alone
others_behind : (s : ℕ) (xs ys : List ℕ) → AllByRecursion (λ x. x ≡ s) xs → filter (λ y. not (y == s)) (first_seen (xs ++ ys)) ≡ filter (λ y. not (y == s)) (first_seen ys)
others_behind s [] ys a = refl
others_behind s (x ∷ xs) ys a =
    let same : (x == s) ≡ true = ap (λ z. z == s) a.0 ∙ eqb-refl s in
    rw same (ap (λ z. filter (λ y. not (y == s)) (filter (λ y. not (y == z)) (first_seen (xs ++ ys)))) a.0 ∙ others_twice s (first_seen (xs ++ ys)) ∙ others_behind s xs ys a.1)

all_others : (s : ℕ) (xs : List ℕ) → is_in s xs ≡ false → filter (λ y. not (y == s)) xs ≡ xs
all_others s [] i = refl
all_others s (x ∷ xs) i = step (s == x) (x == s) refl refl i (λ k. all_others s xs k)
  where
    step : (b c : Bool) → (s == x) ≡ b → (x == s) ≡ c → b || is_in s xs ≡ false → (is_in s xs ≡ false → filter (λ y. not (y == s)) xs ≡ xs) → cond (not c) (x ∷ filter (λ y. not (y == s)) xs) (filter (λ y. not (y == s)) xs) ≡ x ∷ xs
    step true c e f i rest = absurd (false≢true (sym i))
    step false true e f i rest = absurd (false≢true (sym e ∙ ap (λ z. s == z) (eqb-true x s f) ∙ eqb-refl s))
    step false false e f i rest = ap (λ t. x ∷ t) (rest i)

block_seen : (s : ℕ) (xs ys : List ℕ) → AllByRecursion (λ x. x ≡ s) xs → xs ≢ [] → first_seen (xs ++ ys) ≡ s ∷ filter (λ y. not (y == s)) (first_seen ys)
block_seen s [] ys a n = absurd (n refl)
block_seen s (x ∷ xs) ys a n =
    ap (λ z. z ∷ filter (λ y. not (y == z)) (first_seen (xs ++ ys))) a.0
    ∙ ap (λ t. s ∷ t) (others_behind s xs ys a.1)

map_some : (turns : List (ℕ × Command)) → turns ≢ [] → sessions_of turns ≢ []
map_some [] n = λ _. n refl
map_some (t ∷ turns) n = λ e. cc

blocks_seen : (turns : List (ℕ × Command)) (ss : List ℕ) → AreApart ss → AllByRecursion (λ s. turns_of s turns ≢ []) ss → first_seen (blocks turns ss) ≡ ss
blocks_seen turns [] a n = refl
blocks_seen turns (s ∷ ss) a n =
    ap first_seen (blocks_cons turns s ss)
    ∙ block_seen s (sessions_of (turns_of s turns)) (blocks turns ss) (own_sessions s turns) (map_some (turns_of s turns) n.0)
    ∙ ap (λ t. s ∷ filter (λ y. not (y == s)) t) (blocks_seen turns ss a.1 n.1)
    ∙ ap (λ t. s ∷ t) (all_others s ss a.0)

all_some : (turns : List (ℕ × Command)) (ss : List ℕ) → ((s : ℕ) → is_in s ss ≡ true → is_in s (sessions_of turns) ≡ true) → AllByRecursion (λ s. turns_of s turns ≢ []) ss
all_some turns [] f = tt
all_some turns (s ∷ ss) f = (
  some_own s turns (f s (ap (λ b. b || is_in s ss) (eqb-refl s))),
  all_some turns ss (λ x i. f x (later x (x == s) i)),
)
  where
    later : (x : ℕ) (b : Bool) → is_in x ss ≡ true → b || is_in x ss ≡ true
    later x true i = refl
    later x false i = i

-- grouped by session the sessions first appear as before
pub grouped_seen : (turns : List (ℕ × Command)) → first_seen (sessions_of (grouped turns)) ≡ first_seen (sessions_of turns)
grouped_seen turns =
    let ss = first_seen (sessions_of turns) in
    blocks_seen turns ss (seen_apart (sessions_of turns)) (all_some turns ss (λ s i. sym (is_in_seen s (sessions_of turns)) ∙ i))

-- ---- who may speak

abbrev pub MaySpeak : Option ℕ → List ℕ → List ℕ → Type 0
MaySpeak speaker spoken [] = Unit {0}
MaySpeak speaker spoken (x ∷ xs) = (may_speak speaker spoken x ≡ true) × MaySpeak (Some x) (after_turn speaker spoken x) xs

goes_on : (s : ℕ) (spoken xs ys : List ℕ) → AllByRecursion (λ x. x ≡ s) xs → MaySpeak (Some s) spoken ys → MaySpeak (Some s) spoken (xs ++ ys)
goes_on s spoken [] ys a m = m
goes_on s spoken (x ∷ xs) ys a m =
    subst (λ z. MaySpeak (Some s) spoken (z ∷ (xs ++ ys))) (sym a.0)
    (rw (eqb-refl s) (refl, goes_on s spoken xs ys a.1 m))

-- none of these has spoken
record AreNew (speaker : Option ℕ) (spoken ss : List ℕ) : Type 0 where
  silent : (y : ℕ) → is_in y ss ≡ true → is_speaker speaker y ≡ false
  unheard : (y : ℕ) → is_in y ss ≡ true → has spoken y ≡ false

begins_block : (speaker : Option ℕ) (s : ℕ) (spoken xs ys : List ℕ) → is_speaker speaker s ≡ false → has spoken s ≡ false → AllByRecursion (λ x. x ≡ s) xs → xs ≢ [] → MaySpeak (Some s) (spoken ++ s ∷ []) ys → MaySpeak speaker spoken (xs ++ ys)
begins_block speaker s spoken [] ys p q a n m = absurd (n refl)
begins_block speaker s spoken (x ∷ xs) ys p q a n m =
    subst (λ z. MaySpeak speaker spoken (z ∷ (xs ++ ys))) (sym a.0)
    (rw (p, q) (refl, goes_on s (spoken ++ s ∷ []) xs ys a.1 m))

has_push : (xs : List ℕ) (s y : ℕ) → has xs y ≡ false → (y == s) ≡ false → has (xs ++ s ∷ []) y ≡ false
has_push xs s y h e = list_any-push (λ z. y == z) xs s ∙ rw (h, e) refl

blocks_speak : (turns : List (ℕ × Command)) (ss : List ℕ) (speaker : Option ℕ) (spoken : List ℕ) → AreApart ss → AllByRecursion (λ s. turns_of s turns ≢ []) ss → AreNew speaker spoken ss → MaySpeak speaker spoken (blocks turns ss)
blocks_speak turns [] speaker spoken a n new = tt
blocks_speak turns (s ∷ ss) speaker spoken a n new =
    subst (MaySpeak speaker spoken) (sym (blocks_cons turns s ss))
    (begins_block speaker s spoken (sessions_of (turns_of s turns)) (blocks turns ss) (new.silent s here) (new.unheard s here) (own_sessions s turns) (map_some (turns_of s turns) n.0)
    (blocks_speak turns ss (Some s) (spoken ++ s ∷ []) a.1 n.1 (record { silent = λ y i. apart y i (s == y) refl; unheard = λ y i. has_push spoken s y (new.unheard y (later y (y == s) i)) (other y i (y == s) refl) })))
  where
    here : is_in s (s ∷ ss) ≡ true
    here = ap (λ b. b || is_in s ss) (eqb-refl s)

    later : (y : ℕ) (b : Bool) → is_in y ss ≡ true → b || is_in y ss ≡ true
    later y true i = refl
    later y false i = i

    apart : (y : ℕ) → is_in y ss ≡ true → (b : Bool) → (s == y) ≡ b → b ≡ false
    apart y i true e = absurd (false≢true (sym a.0 ∙ ap (λ z. is_in z ss) (eqb-true s y e) ∙ i))
    apart y i false e = refl

    other : (y : ℕ) → is_in y ss ≡ true → (b : Bool) → (y == s) ≡ b → b ≡ false
    other y i true e = absurd (false≢true (sym a.0 ∙ ap (λ z. is_in z ss) (sym (eqb-true y s e)) ∙ i))
    other y i false e = refl

-- in a round each session speaks once, all its commands together
pub grouped_speak : (turns : List (ℕ × Command)) → MaySpeak None [] (sessions_of (grouped turns))
grouped_speak turns =
    let ss = first_seen (sessions_of turns) in
    blocks_speak turns ss None [] (seen_apart (sessions_of turns)) (all_some turns ss (λ s i. sym (is_in_seen s (sessions_of turns)) ∙ i)) (record { silent = λ y i. refl; unheard = λ y i. refl })
