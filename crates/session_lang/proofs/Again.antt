-- What is written as a report writes it is read as it.
use Rattle.std.proofs.Common.{◌≡◌, ℕ, ◌+◌, ◌-◌, ◌*◌, ◌/◌, ◌%◌, ◌^◌, ◌<◌, ◌≤◌, inl, inr, nat_lt, nat_le, ◌&&◌, ◌||◌, List, [], ◌∷◌, ◌++◌, true, false, Option, Some, None, Ok, refl, sym, ap, ◌∙◌, one-add, length, append-nil, append_assoc, arith}
use Rattle.std.specs.Fmt.{decimal}
use Rattle.std.specs.List.{AllByRecursion}
use Rattle.std.proofs.lemmas.Fmt.{decimal_by_steps, decimal_nonempty, length-decimal-le}
use Rattle.std.proofs.lemmas.Bool.Decides.{nat_tests}
use Rattle.tx_events.specs.declared.multi.Mode.{Mode}
use Rattle.tx_events.specs.declared.multi.Mode.TheVariants as modes
use Rattle.tx_model.specs.declared.command.Command.{Command}
use Rattle.tx_model.specs.declared.command.Command.TheVariants as commands
use Rattle.tx_model.specs.declared.command.Pair.{Pair}
use Rattle.tx_events.specs.Ids.{IsFullId, IsFullMulti, IsXidNumber, low_half}
use Rattle.report_text.specs.CommandText.{command_word, command_words}
use Rattle.report_text.specs.MemberText.{id_word, mode_word, pair_word, pair_words}
use Rattle.script_lines.specs.LineWords.{and_then, next, number_from, number_of}
use Rattle.script_lines.specs.Arguments.{asked_id_in, id_in, multi_in, number_in}
use Rattle.script_lines.specs.Members.{id_part, is_colon, mode_in, mode_part, modes_in, pair_in, pairs_from, pairs_in}
use Rattle.script_lines.specs.Commands.{command_at, command_in, long_command, see_in, see_multi_in}
use Rattle.tx_model.specs.declared.report.DumpOf.TheVariants as dumps
use Rattle.tx_model.specs.declared.report.How.TheVariants as hows
use Rattle.script_lines.specs.declared.directive.Directive.{Directive}
use Rattle.script_lines.specs.declared.directive.Directive.TheVariants as directives
use Rattle.script_lines.specs.Directives.{directive_at, how_in, log_dump_in, page_dump_in, store_in}
use Rattle.session_lang.specs.Plain.{IsDirective, IsInRange, directive_rest, directive_word}

-- ---- numbers

digit_again : (d : ℕ) → d < 10 → (48 + d + 208) % 256 ≡ d
digit_again d l = omega arith

next_again : (k d n : ℕ) → d < 10 → 10 * k + d ≡ n → n < 2 ^ 64 → next k d ≡ Some n
next_again k d n l e f = grind (arith, nat_tests)

last_step : (o : Option ℕ) → and_then o (λ m. Some m) ≡ o
last_step None = refl
last_step (Some m) = refl

later_step : (xs : List ℕ) (b : ℕ) (o : Option ℕ) → ((m : ℕ) → number_from m (xs ++ b ∷ []) ≡ and_then (number_from m xs) (λ k. next k ((b + 208) % 256))) → and_then o (λ m. number_from m (xs ++ b ∷ [])) ≡ and_then (and_then o (λ m. number_from m xs)) (λ m. next m ((b + 208) % 256))
later_step xs b None h = refl
later_step xs b (Some m) h = h m

from_append : (xs : List ℕ) (k b : ℕ) → number_from k (xs ++ b ∷ []) ≡ and_then (number_from k xs) (λ m. next m ((b + 208) % 256))
from_append [] k b = last_step (next k ((b + 208) % 256))
from_append (x ∷ xs) k b = later_step xs b (next k ((x + 208) % 256)) (λ m. from_append xs m b)

digits_again : (n : ℕ) → n < 2 ^ 64 → number_from 0 (decimal n) ≡ Some n
digits_again n l = decimal_by_steps (λ n ds. n < 2 ^ 64 → number_from 0 ds ≡ Some n) one further n l l
  where
    one : (n : ℕ) → n < 10 → n < 2 ^ 64 → number_from 0 ((48 + n) ∷ []) ≡ Some n
    one n l f = rw (digit_again n l, next_again 0 n n l (omega arith) f) refl

    further : (n : ℕ) (ds : List ℕ) → 10 ≤ n → (n / 10 < 2 ^ 64 → number_from 0 ds ≡ Some (n / 10)) → n < 2 ^ 64 → number_from 0 (ds ++ (48 + n % 10) ∷ []) ≡ Some n
    further n ds m h f =
        from_append ds 0 (48 + n % 10)
        ∙ ap (λ o. and_then o (λ m. next m ((48 + n % 10 + 208) % 256))) (h (omega arith))
        ∙ ap (next (n / 10)) (digit_again (n % 10) (omega arith))
        ∙ next_again (n / 10) (n % 10) n (omega arith) (omega arith) f

pub number_again : (n : ℕ) → n < 2 ^ 64 → number_of (decimal n) ≡ Some n
number_again n l = rw (fits) (digits_again n l)
  where
    some : 0 < length (decimal n)
    some = decimal_nonempty n l

    short : length (decimal n) ≤ 20
    short = length-decimal-le 20 n (omega arith) (omega arith) l

    fits : (nat_lt 0 (length (decimal n)) && nat_le (length (decimal n)) 20) ≡ true
    fits = let a : 0 < length (decimal n) = some in let b : length (decimal n) ≤ 20 = short in grind (arith, nat_tests)

pub in_range : (low high n : ℕ) → low ≤ n → n ≤ high → n < 2 ^ 64 → number_in low high (decimal n) ≡ Ok n
in_range low high n l h f = rw (number_again n f, test) refl
  where
    test : (nat_le low n && nat_le n high) ≡ true
    test = grind (arith, nat_tests)

pub id_again : (n : ℕ) → IsFullId n → n ≤ 2 ^ 62 → id_in (decimal n) ≡ Ok n
unfolding id_in
id_again n i l = rw (in_range 3 (2 ^ 62) n (omega arith) l (omega arith), test) refl
  where
    test : nat_le 3 (low_half n) ≡ true
    test = grind (arith, nat_tests)

asked_again : (n : ℕ) → IsXidNumber n → n ≤ 2 ^ 62 → asked_id_in (decimal n) ≡ Ok n
unfolding asked_id_in
asked_again n i l = rw (in_range 0 (2 ^ 62) n (omega arith) l (omega arith), test i) refl
  where
    test : IsXidNumber n → (nat_lt n 3 || nat_le 3 (low_half n)) ≡ true
    test (inl s) = grind (arith, nat_tests)
    test (inr s) = grind (arith, nat_tests)

pub multi_again : (n : ℕ) → IsFullMulti n → n ≤ 2 ^ 62 → multi_in (decimal n) ≡ Ok n
unfolding multi_in
multi_again n i l = rw (in_range 1 (2 ^ 62) n (omega arith) l (omega arith), test) refl
  where
    test : nat_le 1 (low_half n) ≡ true
    test = grind (arith, nat_tests)

-- ---- members

abbrev NoColon : List ℕ → Type 0
NoColon w = AllByRecursion (λ b. is_colon b ≡ false) w

push_digit : (ds : List ℕ) (b : ℕ) → NoColon ds → is_colon b ≡ false → NoColon (ds ++ b ∷ [])
push_digit [] b i e = (e, tt)
push_digit (c ∷ ds) b i e = (i.0, push_digit ds b i.1 e)

no_colon : (n : ℕ) → n < 2 ^ 64 → NoColon (decimal n)
no_colon n l = decimal_by_steps (λ n ds. NoColon ds) (λ n l. (not_colon (48 + n) (omega arith), tt)) (λ n ds m h. push_digit ds (48 + n % 10) h (not_colon (48 + n % 10) (omega arith))) n l
  where
    not_colon : (b : ℕ) → b < 58 → is_colon b ≡ false
    not_colon b l = grind (arith, nat_tests)

id_of_member : (ds rest : List ℕ) → NoColon ds → id_part (ds ++ 58 ∷ rest) ≡ ds
id_of_member [] rest i = refl
id_of_member (d ∷ ds) rest i = rw (i.0, one-add) (ap (λ t. d ∷ t) (id_of_member ds rest i.1))

mode_of_member : (ds rest : List ℕ) → NoColon ds → mode_part (ds ++ 58 ∷ rest) ≡ rest
mode_of_member [] rest i = refl
mode_of_member (d ∷ ds) rest i = rw (i.0, one-add) (mode_of_member ds rest i.1)

mode_again : (m : Mode) → mode_in (mode_word m) ≡ Ok m
unfolding mode_in mode_word
mode_again modes.KeySh = refl
mode_again modes.Sh = refl
mode_again modes.ForNoKeyUpd = refl
mode_again modes.ForUpd = refl
mode_again modes.NoKeyUpd = refl
mode_again modes.Upd = refl

moded : (p : Pair) → p.x.number < 2 ^ 32 → mode_in (mode_part (pair_word p)) ≡ Ok p.mode
unfolding pair_word id_word
moded p l = rw (mode_of_member (decimal p.x.number) (mode_word p.mode) (no_colon p.x.number (omega arith))) (mode_again p.mode)

pair_again : (p : Pair) → p.x.number < 2 ^ 32 → pair_in (pair_word p) ≡ Ok p
unfolding pair_in pair_word id_word
pair_again p l =
    rw (id_of_member (decimal p.x.number) (mode_word p.mode) (no_colon p.x.number (omega arith)), in_range 0 (2 ^ 32 - 1) p.x.number (omega arith) (omega arith) (omega arith), mode_of_member (decimal p.x.number) (mode_word p.mode) (no_colon p.x.number (omega arith)), mode_again p.mode) refl

abbrev AreStored : List Pair → Type 0
AreStored pairs = AllByRecursion (λ (p : Pair). p.x.number < 2 ^ 32) pairs

modes_again : (pairs : List Pair) → AreStored pairs → modes_in (pair_words pairs) ≡ Ok tt
modes_again [] a = refl
modes_again (p ∷ pairs) a = rw (moded p a.0) (modes_again pairs a.1)

from_again : (before pairs : List Pair) → AreStored pairs → pairs_from before (pair_words pairs) ≡ Ok (before ++ pairs)
from_again before [] a = ap Ok (sym (append-nil before))
from_again before (p ∷ pairs) a = rw (pair_again p a.0) (from_again (before ++ p ∷ []) pairs a.1 ∙ ap Ok (append_assoc before (p ∷ []) pairs))

pairs_again : (pairs : List Pair) → AreStored pairs → pairs_in (pair_words pairs) ≡ Ok pairs
unfolding pairs_in
pairs_again pairs a = rw (modes_again pairs a) (from_again [] pairs a)

-- ---- commands

pub command_again : (c : Command) → IsInRange c → command_at (command_words c) ≡ Ok c
unfolding command_in long_command see_in see_multi_in command_word
command_again commands.Begin i = refl
command_again commands.Save i = refl
command_again commands.Write i = refl
command_again commands.Release i = refl
command_again commands.Undo i = refl
command_again commands.Commit i = refl
command_again commands.Abort i = refl
command_again commands.Trim i = refl
command_again commands.Horizon i = refl
command_again (commands.Snap name) i = rw i refl
command_again (commands.DropSnap name) i = rw i refl
command_again (commands.See name x) i = rw (i.0, in_range 0 (2 ^ 32 - 1) x.number (omega arith) (omega (arith, i.1)) (omega (arith, i.1))) refl
command_again (commands.Status x) i = rw (asked_again x i.0 i.1) refl
command_again (commands.Did x) i = rw (in_range 0 (2 ^ 32 - 1) x.number (omega arith) (omega arith) (omega arith)) refl
command_again (commands.Multi members) i = rw (pairs_again members i) refl
command_again (commands.SeeMulti name m) i = rw (i.0, in_range 1 (2 ^ 32 - 1) m.number i.1 (omega (arith, i.2)) (omega (arith, i.2))) refl
command_again (commands.Freeze x) i = rw (id_again x i.0 i.1) refl
command_again (commands.MultiFreeze m) i = rw (multi_again m i.0 i.1) refl

-- ---- directives

dump_size : (n : ℕ) → 1 ≤ n → n ≤ 64 → number_in 1 64 (decimal n) ≡ Ok n
dump_size n l m = in_range 1 64 n l m (omega arith)

fits_page : (at size : ℕ) → at + size ≤ 8192 → nat_lt 8192 (at + size) ≡ false
fits_page at size l = grind (arith, nat_tests)

pub directive_again : (d : Directive) → IsDirective d → directive_at (directive_word d) (directive_rest d) ≡ Ok d
unfolding directive_at how_in store_in log_dump_in page_dump_in
directive_again directives.Round i = refl
directive_again directives.Checkpoint i = refl
directive_again (directives.Crash hows.Lost) i = refl
directive_again (directives.Crash hows.Kept) i = refl
directive_again (directives.Crash hows.Torn) i = refl
directive_again (directives.Dump dumps.Log at size) i = rw (in_range 0 (2 ^ 40) at (omega arith) i.0 (omega (arith, i.0)), dump_size size i.1 i.2) refl
directive_again (directives.Dump (dumps.Xact page) at size) i =
    rw (in_range 0 (2 ^ 32 - 1) page (omega arith) (omega (arith, i.0.0)) (omega (arith, i.0.0)), in_range 0 8192 at (omega arith) (omega (arith, i.0.1)) (omega (arith, i.0.1)), dump_size size i.1 i.2, fits_page at size i.0.1) refl
directive_again (directives.Dump (dumps.Subtrans page) at size) i =
    rw (in_range 0 (2 ^ 32 - 1) page (omega arith) (omega (arith, i.0.0)) (omega (arith, i.0.0)), in_range 0 8192 at (omega arith) (omega (arith, i.0.1)) (omega (arith, i.0.1)), dump_size size i.1 i.2, fits_page at size i.0.1) refl
directive_again (directives.Dump (dumps.Offsets page) at size) i =
    rw (in_range 0 (2 ^ 32 - 1) page (omega arith) (omega (arith, i.0.0)) (omega (arith, i.0.0)), in_range 0 8192 at (omega arith) (omega (arith, i.0.1)) (omega (arith, i.0.1)), dump_size size i.1 i.2, fits_page at size i.0.1) refl
directive_again (directives.Dump (dumps.Members page) at size) i =
    rw (in_range 0 (2 ^ 32 - 1) page (omega arith) (omega (arith, i.0.0)) (omega (arith, i.0.0)), in_range 0 8192 at (omega arith) (omega (arith, i.0.1)) (omega (arith, i.0.1)), dump_size size i.1 i.2, fits_page at size i.0.1) refl
