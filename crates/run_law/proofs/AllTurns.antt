-- A life's lines are its script's commands, session by session and in all.
use Rattle.std.proofs.Common.{◌≡◌, ℕ, ◌+◌, ◌==◌, ◌||◌, Bool, true, false, cond, List, [], ◌∷◌, ◌++◌, refl, sym, ap, ◌∙◌, arith, map, append-nil, append_assoc, eqb-true}
use Rattle.std.proofs.lemmas.Bool.{false≢true}
use Rattle.std.proofs.lemmas.Grind.{flat_map-append}
use Rattle.std.proofs.lemmas.List.{map-append}
use Rattle.std.proofs.lemmas.List.Elements.{filter-append}
use Rattle.std.proofs.lemmas.List.Sums.{sum_by-cons}
use Rattle.std.specs.List.{AllByRecursion, count_by, filter, flat_map, sum_by}
use Rattle.tx_events.proofs.ListSteps.{eqb-refl, equal_swap}
use Rattle.tx_events.specs.Places.{first_seen}
use Rattle.tx_model.specs.declared.command.Command.{Command}
use Rattle.tx_model.specs.declared.report.Line.{Line}
use Rattle.tx_model.specs.declared.report.Step.{Step}
use Rattle.tx_model.specs.declared.report.Step.TheVariants as steps
use Rattle.tx_model.specs.Lines.{grouped, is_line_of, turn_of}
use Rattle.tx_model.specs.Asked as asked
use Rattle.tx_model.specs.Asked.{Asked, rounds_in}
use Rattle.tx_model.specs.Rounds.{AreSteps, lines_in}
use Rattle.session_lang.specs.declared.script.Item.{Item}
use Rattle.session_lang.specs.declared.script.Item.TheVariants as items
use Rattle.session_lang.specs.Rounds.{asked_of, round_of, rounds_from, rounds_of, turns_of}
use Rattle.session_lang.proofs.Asking.{rounds_asked}
use Rattle.session_lang.proofs.SeenLemmas.{is_in}
use Rattle.run_law.specs.Turns.{turns_in}
use Rattle.run_law.proofs.PartSums.{count_cons, count_join, is_nil, is_one, parts_count, seen_once}

abbrev pub Turns : Type 0
Turns = List (ℕ × Command)

-- ---- the rounds have the script's commands

abbrev pub turns_of_all : List Turns → Turns
turns_of_all rounds = flat_map (λ (turns : Turns). turns) rounds

one_round : (turns : Turns) → turns_of_all (round_of turns) ≡ turns
one_round [] = refl
one_round (t ∷ turns) = append-nil (t ∷ turns)

next_round : (turns : Turns) (script : List Item) → turns_of_all (rounds_of script) ≡ turns_in script → turns_of_all (round_of turns ++ rounds_of script) ≡ turns ++ turns_in script
next_round turns script e =
    flat_map-append (λ (ts : Turns). ts) (round_of turns) (rounds_of script)
    ∙ ap (λ ts. ts ++ turns_of_all (rounds_of script)) (one_round turns) ∙ ap (λ ts. turns ++ ts) e

rounds_turns : (turns : Turns) (script : List Item) → turns_of_all (rounds_from turns script) ≡ turns ++ turns_in script
rounds_turns turns [] = one_round turns ∙ sym (append-nil turns)
rounds_turns turns (items.Run s c ∷ script) = rounds_turns (turns ++ (s, c) ∷ []) script ∙ append_assoc turns ((s, c) ∷ []) (turns_in script)
rounds_turns turns (items.Round ∷ script) = next_round turns script (rounds_turns [] script)
rounds_turns turns (items.Checkpoint ∷ script) = next_round turns script (rounds_turns [] script)
rounds_turns turns (items.Crash how ∷ script) = next_round turns script (rounds_turns [] script)
rounds_turns turns (items.Dump what at size ∷ script) = next_round turns script (rounds_turns [] script)

pub all_turns : (script : List Item) → turns_of_all (rounds_of script) ≡ turns_in script
all_turns script = rounds_turns [] script

-- ---- grouped by session

abbrev sessions_of : Turns → List ℕ
sessions_of turns = map (λ t. t.0) turns

all_once : (ss : List ℕ) (turns : Turns) → ((z : ℕ) → is_in z (sessions_of turns) ≡ true → count_by (λ s. z == s) ss ≡ 1) → AllByRecursion (λ t. count_by (λ s. t.0 == s) ss ≡ 1) turns
all_once ss [] f = tt
all_once ss (t ∷ turns) f =
    (f t.0 (ap (λ b. b || is_in t.0 (sessions_of turns)) (eqb-refl t.0)), all_once ss turns (λ z i. f z (later z (z == t.0) i)))
  where
    later : (z : ℕ) (b : Bool) → is_in z (sessions_of turns) ≡ true → b || is_in z (sessions_of turns) ≡ true
    later z true i = refl
    later z false i = i

blocks_count : (p : ℕ × Command → Bool) (turns : Turns) (ss : List ℕ) → count_by p (flat_map (λ s. turns_of s turns) ss) ≡ sum_by (λ s. count_by p (turns_of s turns)) ss
blocks_count p turns [] = refl
blocks_count p turns (s ∷ ss) =
    let j = count_join p (turns_of s turns) (flat_map (λ s. turns_of s turns) ss) in
    let i = blocks_count p turns ss in
    let c = sum_by-cons (λ s. count_by p (turns_of s turns)) s ss in
    omega arith

-- a round has as many commands of each kind when it is grouped by session
pub grouped_count : (p : ℕ × Command → Bool) (turns : Turns) → count_by p (grouped turns) ≡ count_by p turns
grouped_count p turns =
    let ss = first_seen (sessions_of turns) in
    blocks_count p turns ss ∙ parts_count p (λ t s. t.0 == s) ss turns (all_once ss turns (λ z i. seen_once z (sessions_of turns) i))

-- ---- one session's commands

own_twice : (k : ℕ) (turns : Turns) → turns_of k (turns_of k turns) ≡ turns_of k turns
own_twice k [] = refl
own_twice k (t ∷ turns) = step (t.0 == k) refl (own_twice k turns)
  where
    step : (b : Bool) → (t.0 == k) ≡ b → turns_of k (turns_of k turns) ≡ turns_of k turns → turns_of k (cond b (t ∷ turns_of k turns) (turns_of k turns)) ≡ cond b (t ∷ turns_of k turns) (turns_of k turns)
    step true e i = rw e (ap (λ ts. t ∷ ts) i)
    step false e i = i

own_of_other : (k s : ℕ) (turns : Turns) → (k == s) ≡ false → turns_of k (turns_of s turns) ≡ []
own_of_other k s [] e = refl
own_of_other k s (t ∷ turns) e = step (t.0 == s) refl (own_of_other k s turns e)
  where
    step : (b : Bool) → (t.0 == s) ≡ b → turns_of k (turns_of s turns) ≡ [] → turns_of k (cond b (t ∷ turns_of s turns) (turns_of s turns)) ≡ []
    step true f i =
        let same : t.0 ≡ s = eqb-true t.0 s f in
        let other : (t.0 == k) ≡ false = ap (λ z. z == k) same ∙ equal_swap s k ∙ e in
        rw other i
    step false f i = i

no_block : (k : ℕ) (turns : Turns) (ss : List ℕ) → count_by (λ s. k == s) ss ≡ 0 → turns_of k (flat_map (λ s. turns_of s turns) ss) ≡ []
no_block k turns [] n = refl
no_block k turns (s ∷ ss) n = step (k == s) refl (λ n. no_block k turns ss n)
  where
    step : (b : Bool) → (k == s) ≡ b → (count_by (λ s. k == s) ss ≡ 0 → turns_of k (flat_map (λ s. turns_of s turns) ss) ≡ []) → turns_of k (turns_of s turns ++ flat_map (λ s. turns_of s turns) ss) ≡ []
    step true e rest = let here = is_one (k == s) e in let c = count_cons (λ s. k == s) s ss in absurd (omega arith)
    step false e rest =
        let none = is_nil (k == s) e in
        let c = count_cons (λ s. k == s) s ss in
        filter-append (λ (t : ℕ × Command). t.0 == k) (turns_of s turns) (flat_map (λ s. turns_of s turns) ss)
        ∙ ap (λ ts. ts ++ turns_of k (flat_map (λ s. turns_of s turns) ss)) (own_of_other k s turns e) ∙ rest (omega arith)

one_block : (k : ℕ) (turns : Turns) (ss : List ℕ) → count_by (λ s. k == s) ss ≡ 1 → turns_of k (flat_map (λ s. turns_of s turns) ss) ≡ turns_of k turns
one_block k turns [] n = absurd (let e : 0 ≡ 1 = n in omega arith)
one_block k turns (s ∷ ss) n = step (k == s) refl (λ n. one_block k turns ss n)
  where
    step : (b : Bool) → (k == s) ≡ b → (count_by (λ s. k == s) ss ≡ 1 → turns_of k (flat_map (λ s. turns_of s turns) ss) ≡ turns_of k turns) → turns_of k (turns_of s turns ++ flat_map (λ s. turns_of s turns) ss) ≡ turns_of k turns
    step true e rest =
        let same : k ≡ s = eqb-true k s e in
        let here = is_one (k == s) e in
        let c = count_cons (λ s. k == s) s ss in
        filter-append (λ (t : ℕ × Command). t.0 == k) (turns_of s turns) (flat_map (λ s. turns_of s turns) ss)
        ∙ ap (λ ts. turns_of k (turns_of s turns) ++ ts) (no_block k turns ss (omega arith)) ∙ append-nil (turns_of k (turns_of s turns))
        ∙ ap (λ s. turns_of k (turns_of s turns)) (sym same) ∙ own_twice k turns
    step false e rest =
        let none = is_nil (k == s) e in
        let c = count_cons (λ s. k == s) s ss in
        filter-append (λ (t : ℕ × Command). t.0 == k) (turns_of s turns) (flat_map (λ s. turns_of s turns) ss)
        ∙ ap (λ ts. ts ++ turns_of k (flat_map (λ s. turns_of s turns) ss)) (own_of_other k s turns e) ∙ rest (omega arith)

none_own : (k : ℕ) (turns : Turns) → is_in k (sessions_of turns) ≡ false → turns_of k turns ≡ []
none_own k [] i = refl
none_own k (t ∷ turns) i = step (k == t.0) refl i (λ i. none_own k turns i)
  where
    step : (b : Bool) → (k == t.0) ≡ b → b || is_in k (sessions_of turns) ≡ false → (is_in k (sessions_of turns) ≡ false → turns_of k turns ≡ []) → turns_of k (t ∷ turns) ≡ []
    step true e i rest = absurd (false≢true (sym i))
    step false e i rest = let other : (t.0 == k) ≡ false = equal_swap t.0 k ∙ e in rw other (rest i)

pub own_grouped : (k : ℕ) (turns : Turns) → turns_of k (grouped turns) ≡ turns_of k turns
own_grouped k turns = step (is_in k (sessions_of turns)) refl
  where
    step : (b : Bool) → is_in k (sessions_of turns) ≡ b → turns_of k (grouped turns) ≡ turns_of k turns
    step true i = one_block k turns (first_seen (sessions_of turns)) (seen_once k (sessions_of turns) i)
    step false i = blocks_none (first_seen (sessions_of turns)) ∙ sym (none_own k turns i)
      where
        own_of : (s : ℕ) → turns_of k (turns_of s turns) ≡ []
        own_of s = other (k == s) refl
          where
            other : (b : Bool) → (k == s) ≡ b → turns_of k (turns_of s turns) ≡ []
            other true e = ap (λ s. turns_of k (turns_of s turns)) (sym (eqb-true k s e)) ∙ own_twice k turns ∙ none_own k turns i
            other false e = own_of_other k s turns e

        blocks_none : (ss : List ℕ) → turns_of k (flat_map (λ s. turns_of s turns) ss) ≡ []
        blocks_none [] = refl
        blocks_none (s ∷ ss) =
            filter-append (λ (t : ℕ × Command). t.0 == k) (turns_of s turns) (flat_map (λ s. turns_of s turns) ss)
            ∙ ap (λ ts. ts ++ turns_of k (flat_map (λ s. turns_of s turns) ss)) (own_of s) ∙ blocks_none ss

-- ---- the lines

own_turns : (k : ℕ) (lines : List Line) → map turn_of (filter (is_line_of k) lines) ≡ turns_of k (map turn_of lines)
own_turns k [] = refl
own_turns k (l ∷ lines) = step (l.by.session == k) refl (own_turns k lines)
  where
    step : (b : Bool) → (l.by.session == k) ≡ b → map turn_of (filter (is_line_of k) lines) ≡ turns_of k (map turn_of lines) → map turn_of (cond b (l ∷ filter (is_line_of k) lines) (filter (is_line_of k) lines)) ≡ cond b (turn_of l ∷ turns_of k (map turn_of lines)) (turns_of k (map turn_of lines))
    step true e i = ap (λ ts. turn_of l ∷ ts) i
    step false e i = i

lines_own : (k n : ℕ) (all : List Asked) (ss : List Step) → AreSteps n all ss → turns_of k (map turn_of (flat_map lines_in ss)) ≡ turns_of k (turns_of_all (rounds_in all))
lines_own k n [] [] r = refl
lines_own k n (asked.dump what at size ∷ all) (steps.Dump of from count reply ∷ ss) r = lines_own k n all ss r.3
lines_own k n (asked.checkpoint ∷ all) (steps.Checkpoint reply ∷ ss) r = lines_own k n all ss r
lines_own k n (asked.round turns ∷ all) (steps.Round number lines ∷ ss) r =
    ap (turns_of k) (map-append turn_of lines (flat_map lines_in ss))
    ∙ filter-append (λ (t : ℕ × Command). t.0 == k) (map turn_of lines) (map turn_of (flat_map lines_in ss))
    ∙ ap (λ ts. ts ++ turns_of k (map turn_of (flat_map lines_in ss))) (ap (turns_of k) r.1 ∙ own_grouped k turns)
    ∙ ap (λ ts. turns_of k turns ++ ts) (lines_own k (n + 1) all ss r.2)
    ∙ sym (filter-append (λ (t : ℕ × Command). t.0 == k) turns (turns_of_all (rounds_in all)))
lines_own k n all ss r = absurd r

lines_count : (p : ℕ × Command → Bool) (n : ℕ) (all : List Asked) (ss : List Step) → AreSteps n all ss → count_by p (map turn_of (flat_map lines_in ss)) ≡ count_by p (turns_of_all (rounds_in all))
lines_count p n [] [] r = refl
lines_count p n (asked.dump what at size ∷ all) (steps.Dump of from count reply ∷ ss) r = lines_count p n all ss r.3
lines_count p n (asked.checkpoint ∷ all) (steps.Checkpoint reply ∷ ss) r = lines_count p n all ss r
lines_count p n (asked.round turns ∷ all) (steps.Round number lines ∷ ss) r =
    let a = ap (count_by p) (map-append turn_of lines (flat_map lines_in ss)) ∙ count_join p (map turn_of lines) (map turn_of (flat_map lines_in ss)) in
    let b = ap (count_by p) r.1 ∙ grouped_count p turns in
    let c = lines_count p (n + 1) all ss r.2 in
    let d = count_join p turns (turns_of_all (rounds_in all)) in
    omega arith
lines_count p n all ss r = absurd r

-- of a script
pub script_count : (p : ℕ × Command → Bool) (script : List Item) (ss : List Step) → AreSteps 1 (asked_of script) ss → count_by p (map turn_of (flat_map lines_in ss)) ≡ count_by p (turns_in script)
script_count p script ss r = lines_count p 1 (asked_of script) ss r ∙ ap (λ rs. count_by p (turns_of_all rs)) (rounds_asked script) ∙ ap (count_by p) (all_turns script)

-- and of one of its sessions
pub session_turns : (k : ℕ) (script : List Item) (ss : List Step) → AreSteps 1 (asked_of script) ss → map turn_of (filter (is_line_of k) (flat_map lines_in ss)) ≡ turns_of k (turns_in script)
session_turns k script ss r =
    own_turns k (flat_map lines_in ss) ∙ lines_own k 1 (asked_of script) ss r ∙ ap (λ rs. turns_of k (turns_of_all rs)) (rounds_asked script) ∙ ap (turns_of k) (all_turns script)
