-- The rounds of a script, line by line.
use Rattle.std.proofs.Common.{◌≡◌, ℕ, ◌+◌, List, [], ◌∷◌, ◌++◌, refl, sym, ap, ◌∙◌, subst, arith, Bool, cond, ◌==◌, length}
use Rattle.std.proofs.Math.Seq.{drop-append_seam, take-append_seam}
use Rattle.std.proofs.lemmas.List.{append-nil}
use Rattle.std.proofs.lemmas.List.Elements.{All-append, All-cons, All-drop, All-head, All-nil, All-take}
use Rattle.std.proofs.lemmas.List.Sums.{length-filter, sum_by-append}
use Rattle.std.specs.List.{All, count_by}
use Rattle.tx_model.specs.declared.command.Command.{Command}
use Rattle.session_lang.specs.declared.script.Item.{Item}
use Rattle.session_lang.specs.declared.script.Item.TheVariants as items
use Rattle.script_lines.specs.declared.directive.Directive.{Directive}
use Rattle.script_lines.specs.declared.directive.Directive.TheVariants as directives
use Rattle.session_lang.specs.Rounds.{IsShort, open_from, round_of, rounds_from, turns_of}
use Rattle.session_lang.specs.Script.{item_of}

pub all_earlier : {X : Type 0} (P : X → Type 0) (xs ys : List X) → All P (xs ++ ys) → All P xs
all_earlier P xs ys a = subst (All P) (take-append_seam xs ys) (All-take P (length xs) (xs ++ ys) a)

pub all_later : {X : Type 0} (P : X → Type 0) (xs ys : List X) → All P (xs ++ ys) → All P ys
all_later P xs ys a = subst (All P) (drop-append_seam xs ys) (All-drop P (length xs) (xs ++ ys) a)

-- one command more in a round
count_push : {X : Type 0} (p : X → Bool) (xs : List X) (y : X) → count_by p (xs ++ y ∷ []) ≡ count_by p xs + cond (p y) 1 0
count_push p xs y = sum_by-append (λ x. cond (p x) 1 0) xs (y ∷ []) ∙ omega arith

pub turns_push : (turns : List (ℕ × Command)) (k j : ℕ) (command : Command) → length (turns_of j (turns ++ (k, command) ∷ [])) ≡ length (turns_of j turns) + cond (k == j) 1 0
turns_push turns k j command =
    let test : ℕ × Command → Bool = λ t. t.0 == j in
    length-filter test (turns ++ (k, command) ∷ []) ∙ count_push test turns (k, command) ∙ ap (λ n. n + cond (k == j) 1 0) (sym (length-filter test turns))

-- the round that goes on, with a line more
pub open_push : (turns : List (ℕ × Command)) (before : List Item) (k : ℕ) (command : Command) → open_from turns (before ++ items.Run k command ∷ []) ≡ open_from turns before ++ (k, command) ∷ []
open_push turns [] k command = refl
open_push turns (items.Run s c ∷ before) k command = open_push (turns ++ (s, c) ∷ []) before k command
open_push turns (x ∷ before) k command = open_push [] before k command

none_open : (turns : List (ℕ × Command)) (d : Directive) → open_from turns (item_of d ∷ []) ≡ []
none_open turns directives.Round = refl
none_open turns directives.Checkpoint = refl
none_open turns (directives.Crash how) = refl
none_open turns (directives.Dump what at size) = refl

pub open_end : (turns : List (ℕ × Command)) (before : List Item) (d : Directive) → open_from turns (before ++ item_of d ∷ []) ≡ []
open_end turns [] d = none_open turns d
open_end turns (items.Run s c ∷ before) d = open_end (turns ++ (s, c) ∷ []) before d
open_end turns (x ∷ before) d = open_end [] before d

short_round : (turns : List (ℕ × Command)) → IsShort turns → All IsShort (round_of turns)
short_round [] s = All-nil IsShort
short_round (t ∷ turns) s = All-cons IsShort (t ∷ turns) [] s (All-nil IsShort)

round_short : (turns : List (ℕ × Command)) → All IsShort (round_of turns) → IsShort turns
round_short [] a = λ session. omega arith
round_short (t ∷ turns) a = All-head IsShort (t ∷ turns) [] a

-- the rounds with a line more
last_round : (turns : List (ℕ × Command)) (d : Directive) → rounds_from turns (item_of d ∷ []) ≡ round_of turns
last_round turns directives.Round = append-nil (round_of turns)
last_round turns directives.Checkpoint = append-nil (round_of turns)
last_round turns (directives.Crash how) = append-nil (round_of turns)
last_round turns (directives.Dump what at size) = append-nil (round_of turns)

pub rounds_end : (turns : List (ℕ × Command)) (before : List Item) (d : Directive) → rounds_from turns (before ++ item_of d ∷ []) ≡ rounds_from turns before
rounds_end turns [] d = last_round turns d
rounds_end turns (items.Run s c ∷ before) d = rounds_end (turns ++ (s, c) ∷ []) before d
rounds_end turns (x ∷ before) d = ap (λ t. round_of turns ++ t) (rounds_end [] before d)

pub short_push : (turns : List (ℕ × Command)) (before : List Item) (k : ℕ) (command : Command) → All IsShort (rounds_from turns before) → IsShort (open_from turns before ++ (k, command) ∷ []) → All IsShort (rounds_from turns (before ++ items.Run k command ∷ []))
short_push turns [] k command a s = short_round (turns ++ (k, command) ∷ []) s
short_push turns (items.Run m c ∷ before) k command a s = short_push (turns ++ (m, c) ∷ []) before k command a s
short_push turns (x ∷ before) k command a s =
    All-append IsShort (round_of turns) (rounds_from [] (before ++ items.Run k command ∷ [])) (all_earlier IsShort (round_of turns) (rounds_from [] before) a) (short_push [] before k command (all_later IsShort (round_of turns) (rounds_from [] before) a) s)

-- a round is short while it goes on
pub open_short : (turns : List (ℕ × Command)) (before : List Item) → All IsShort (rounds_from turns before) → IsShort (open_from turns before)
open_short turns [] a = round_short turns a
open_short turns (items.Run s c ∷ before) a = open_short (turns ++ (s, c) ∷ []) before a
open_short turns (x ∷ before) a = open_short [] before (all_later IsShort (round_of turns) (rounds_from [] before) a)

front_short : (turns : List (ℕ × Command)) (later : List Item) → All IsShort (rounds_from turns later) → IsShort turns
front_short turns [] a = round_short turns a
front_short turns (items.Run s c ∷ later) a =
    λ session. let w = front_short (turns ++ (s, c) ∷ []) later a session in let e = turns_push turns s session c in omega arith
front_short turns (x ∷ later) a = round_short turns (all_earlier IsShort (round_of turns) (rounds_from [] later) a)

-- so also with the next command of the script
pub next_short : (turns : List (ℕ × Command)) (before : List Item) (k : ℕ) (command : Command) (later : List Item) → All IsShort (rounds_from turns (before ++ items.Run k command ∷ later)) → IsShort (open_from turns before ++ (k, command) ∷ [])
next_short turns [] k command later a = front_short (turns ++ (k, command) ∷ []) later a
next_short turns (items.Run s c ∷ before) k command later a = next_short (turns ++ (s, c) ∷ []) before k command later a
next_short turns (x ∷ before) k command later a =
    next_short [] before k command later (all_later IsShort (round_of turns) (rounds_from [] (before ++ items.Run k command ∷ later)) a)
