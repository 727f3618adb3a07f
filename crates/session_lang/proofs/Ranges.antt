-- The items of what is read are in their ranges.
use Rattle.std.proofs.Common.{◌≡◌, ℕ, ◌+◌, ◌-◌, ◌^◌, ◌<◌, ◌≤◌, nat_lt, nat_le, not, ◌&&◌, ◌||◌, List, [], ◌∷◌, ◌++◌, Bool, true, false, cond, Option, Some, None, Result, Ok, Err, IfOk, refl, subst, inl, inr, codes, arith}
use Rattle.std.specs.List.{AllByRecursion}
use Rattle.std.specs.Str.{bytes_eq}
use Rattle.std.proofs.lemmas.Bool.{and_parts}
use Rattle.std.proofs.lemmas.Bool.Decides.{nat_tests}
use Rattle.tx_events.specs.Ids.{IsFullId, IsFullMulti, IsXidNumber, low_half}
use Rattle.tx_events.specs.Names.{is_name}
use Rattle.tx_events.proofs.ListSteps.{all_push}
use Rattle.tx_model.specs.declared.command.Command.{Command}
use Rattle.tx_model.specs.declared.command.Command.TheVariants as commands
use Rattle.tx_model.specs.declared.command.Pair.{Pair}
use Rattle.script_lines.specs.declared.directive.Directive.{Directive}
use Rattle.script_lines.specs.declared.directive.Directive.TheVariants as directives
use Rattle.script_lines.specs.declared.kind.Kind.{Kind}
use Rattle.script_lines.specs.declared.kind.Kind.TheVariants as kinds
use Rattle.script_lines.specs.Kinds.{◌>>=◌, fault_if}
use Rattle.script_lines.specs.LineWords.{is_plain, number_of, words_in}
use Rattle.script_lines.specs.Arguments.{asked_id_in, id_in, multi_in, name_in, none_of, number_in, one_of, some_number, stored_in, such, three_of, two_of}
use Rattle.script_lines.specs.Members.{id_part, mode_in, mode_part, modes_in, pair_in, pairs_from, pairs_in}
use Rattle.script_lines.specs.Commands.{alone, command_at, command_in, long_command, only_name, see_in, see_multi_in}
use Rattle.script_lines.specs.Directives.{directive_at, dump_at, how_in, log_dump_in, page_dump_in, store_in}
use Rattle.script_lines.specs.Header.{base_of, header_with, is_base}
use Rattle.script_lines.proofs.Stores.{on_each_page}
use Rattle.session_lang.specs.declared.parser.reading.Front.{Front}
use Rattle.session_lang.specs.declared.script.Item.TheVariants as items
use Rattle.session_lang.specs.Plain.{IsDirective, IsDump, IsInRange, IsItem}
use Rattle.session_lang.specs.Script.{at_line, body_line, command_line, end_header, header_line, header_words, is_dot, is_full, is_header_line, is_passed, item_of, names_with, no_front, place_of, read_line, read_lines, with_directive, with_turn, words_line}

-- ---- steps

then_holds : {A B F : Type 0} (P : A → Type 0) (Q : B → Type 0) (r : Result A F) (f : A → Result B F) → IfOk r P → ((x : A) → P x → IfOk (f x) Q) → IfOk (r >>= f) Q
then_holds P Q (Ok x) f p g = g x p
then_holds P Q (Err k) f p g = tt

behind : {A B F : Type 0} (Q : B → Type 0) (r : Result A F) (f : A → Result B F) → ((x : A) → IfOk (f x) Q) → IfOk (r >>= f) Q
behind Q (Ok x) f g = g x
behind Q (Err k) f g = tt

either_holds : {A F : Type 0} (P : A → Type 0) (b : Bool) (r s : Result A F) → (b ≡ true → IfOk r P) → (b ≡ false → IfOk s P) → IfOk (cond b r s) P
either_holds P true r s p q = p refl
either_holds P false r s p q = q refl

from_le : (m n : ℕ) → nat_le m n ≡ true → m ≤ n
from_le m n e = grind (arith, nat_tests)

from_lt : (m n : ℕ) → nat_lt m n ≡ true → m < n
from_lt m n e = grind (arith, nat_tests)

not_above : (m n : ℕ) → nat_lt m n ≡ false → n ≤ m
not_above m n e = grind (arith, nat_tests)

-- ---- numbers and names

abbrev IsFrom : ℕ → ℕ → ℕ → Type 0
IsFrom low high n = (low ≤ n) × (n ≤ high)

within : (low high n : ℕ) → (nat_le low n && nat_le n high) ≡ true → IsFrom low high n
within low high n e = let both = and_parts (nat_le low n) (nat_le n high) e in (from_le low n both.0, from_le n high both.1)

some_within : (low high : ℕ) (o : Option ℕ) → IfOk (some_number o >>= λ n. cond (nat_le low n && nat_le n high) (Ok n) (Err kinds.Number)) (IsFrom low high)
some_within low high None = tt
some_within low high (Some n) = either_holds (IsFrom low high) (nat_le low n && nat_le n high) (Ok n) (Err kinds.Number) (within low high n) (λ _. tt)

number_within : (low high : ℕ) (w : List ℕ) → IfOk (number_in low high w) (IsFrom low high)
number_within low high w = some_within low high (number_of w)

such_holds : (P : ℕ → Type 0) (b : Bool) (n : ℕ) → (b ≡ true → P n) → IfOk (such b n) P
such_holds P b n p = either_holds P b (Ok n) (Err kinds.Number) p (λ _. tt)

id_within : (w : List ℕ) → IfOk (id_in w) (λ n. IsFullId n × (n ≤ 2 ^ 62))
unfolding id_in
id_within w =
    then_holds (IsFrom 3 (2 ^ 62)) (λ n. IsFullId n × (n ≤ 2 ^ 62)) (number_in 3 (2 ^ 62) w) (λ n. such (nat_le 3 (low_half n)) n) (number_within 3 (2 ^ 62) w)
    (λ n l. such_holds (λ n. IsFullId n × (n ≤ 2 ^ 62)) (nat_le 3 (low_half n)) n (λ e. (from_le 3 (low_half n) e, l.1)))

xid_number : (n : ℕ) → (nat_lt n 3 || nat_le 3 (low_half n)) ≡ true → IsXidNumber n
xid_number n e = one (nat_lt n 3) refl e
  where
    one : (b : Bool) → nat_lt n 3 ≡ b → (b || nat_le 3 (low_half n)) ≡ true → IsXidNumber n
    one true f e = inl (from_lt n 3 f)
    one false f e = inr (from_le 3 (low_half n) e)

asked_id_within : (w : List ℕ) → IfOk (asked_id_in w) (λ n. IsXidNumber n × (n ≤ 2 ^ 62))
unfolding asked_id_in
asked_id_within w =
    then_holds (IsFrom 0 (2 ^ 62)) (λ n. IsXidNumber n × (n ≤ 2 ^ 62)) (number_in 0 (2 ^ 62) w) (λ n. such (nat_lt n 3 || nat_le 3 (low_half n)) n) (number_within 0 (2 ^ 62) w)
    (λ n l. such_holds (λ n. IsXidNumber n × (n ≤ 2 ^ 62)) (nat_lt n 3 || nat_le 3 (low_half n)) n (λ e. (xid_number n e, l.1)))

multi_within : (w : List ℕ) → IfOk (multi_in w) (λ n. IsFullMulti n × (n ≤ 2 ^ 62))
unfolding multi_in
multi_within w =
    then_holds (IsFrom 1 (2 ^ 62)) (λ n. IsFullMulti n × (n ≤ 2 ^ 62)) (number_in 1 (2 ^ 62) w) (λ n. such (nat_le 1 (low_half n)) n) (number_within 1 (2 ^ 62) w)
    (λ n l. such_holds (λ n. IsFullMulti n × (n ≤ 2 ^ 62)) (nat_le 1 (low_half n)) n (λ e. (from_le 1 (low_half n) e, l.1)))

name_within : (w : List ℕ) → IfOk (name_in w) (λ n. is_name n ≡ true)
name_within w = either_holds (λ n. is_name n ≡ true) (is_name w) (Ok w) (Err kinds.Name) (λ e. e) (λ _. tt)

-- ---- commands

abbrev IsPair : Pair → Type 0
IsPair p = p.x.number < 2 ^ 32

pair_within : (w : List ℕ) → IfOk (pair_in w) IsPair
unfolding pair_in
pair_within w =
    then_holds (IsFrom 0 (2 ^ 32 - 1)) IsPair (stored_in 0 (id_part w)) (λ x. mode_in (mode_part w) >>= λ mode. Ok (record { x = record { number = x }; mode = mode })) (number_within 0 (2 ^ 32 - 1) (id_part w))
    (λ x l. behind IsPair (mode_in (mode_part w)) (λ mode. Ok (record { x = record { number = x }; mode = mode })) (λ mode. omega (arith, l.1)))

pairs_within : (so_far : List Pair) (ws : List (List ℕ)) → AllByRecursion IsPair so_far → IfOk (pairs_from so_far ws) (AllByRecursion IsPair)
pairs_within so_far [] a = a
pairs_within so_far (w ∷ ws) a =
    then_holds IsPair (AllByRecursion IsPair) (pair_in w) (λ p. pairs_from (so_far ++ p ∷ []) ws) (pair_within w) (λ p l. pairs_within (so_far ++ p ∷ []) ws (all_push IsPair so_far p a l))

all_pairs_within : (ws : List (List ℕ)) → IfOk (pairs_in ws) (AllByRecursion IsPair)
unfolding pairs_in
all_pairs_within ws = behind (AllByRecursion IsPair) (modes_in ws) (λ _. pairs_from [] ws) (λ _. pairs_within [] ws tt)

only_name_within : (ws : List (List ℕ)) → IfOk (only_name ws) (λ n. is_name n ≡ true)
only_name_within ws = behind (λ n. is_name n ≡ true) (one_of ws) name_in name_within

see_within : (ws : List (List ℕ)) → IfOk (see_in ws) IsInRange
unfolding see_in
see_within ws =
    behind IsInRange (two_of ws) (λ two. name_in two.0 >>= λ name. stored_in 0 two.1 >>= λ x. Ok (commands.See name (record { number = x })))
    (λ two. then_holds (λ n. is_name n ≡ true) IsInRange (name_in two.0) (λ name. stored_in 0 two.1 >>= λ x. Ok (commands.See name (record { number = x }))) (name_within two.0)
    (λ name i. then_holds (IsFrom 0 (2 ^ 32 - 1)) IsInRange (stored_in 0 two.1) (λ x. Ok (commands.See name (record { number = x }))) (number_within 0 (2 ^ 32 - 1) two.1) (λ x l. (i, omega (arith, l.1)))))

see_multi_within : (ws : List (List ℕ)) → IfOk (see_multi_in ws) IsInRange
unfolding see_multi_in
see_multi_within ws =
    behind IsInRange (two_of ws) (λ two. name_in two.0 >>= λ name. stored_in 1 two.1 >>= λ m. Ok (commands.SeeMulti name (record { number = m })))
    (λ two. then_holds (λ n. is_name n ≡ true) IsInRange (name_in two.0) (λ name. stored_in 1 two.1 >>= λ m. Ok (commands.SeeMulti name (record { number = m }))) (name_within two.0)
    (λ name i. then_holds (IsFrom 1 (2 ^ 32 - 1)) IsInRange (stored_in 1 two.1) (λ m. Ok (commands.SeeMulti name (record { number = m }))) (number_within 1 (2 ^ 32 - 1) two.1) (λ m l. (i, l.0, omega (arith, l.1)))))

-- a command of one word, as it is read
one_within : {A : Type 0} (P : A → Type 0) (read : List ℕ → Result A Kind) (make : A → Command) (ws : List (List ℕ)) → ((w : List ℕ) → IfOk (read w) P) → ((x : A) → P x → IsInRange (make x)) → IfOk (one_of ws >>= read >>= λ x. Ok (make x)) IsInRange
one_within P read make ws r m = then_holds P IsInRange (one_of ws >>= read) (λ x. Ok (make x)) (behind P (one_of ws) read r) m

long_within : (w : List ℕ) (ws : List (List ℕ)) → IfOk (long_command w ws) IsInRange
unfolding long_command
long_within w ws =
    either_holds IsInRange (bytes_eq w (codes "snap")) _ _ (λ _. then_holds (λ n. is_name n ≡ true) IsInRange (only_name ws) (λ name. Ok (commands.Snap name)) (only_name_within ws) (λ _ i. i)) (λ _.
    either_holds IsInRange (bytes_eq w (codes "drop")) _ _ (λ _. then_holds (λ n. is_name n ≡ true) IsInRange (only_name ws) (λ name. Ok (commands.DropSnap name)) (only_name_within ws) (λ _ i. i)) (λ _.
    either_holds IsInRange (bytes_eq w (codes "see")) _ _ (λ _. see_within ws) (λ _.
    either_holds IsInRange (bytes_eq w (codes "status")) _ _ (λ _. one_within (λ n. IsXidNumber n × (n ≤ 2 ^ 62)) asked_id_in (λ x. commands.Status x) ws asked_id_within (λ _ i. i)) (λ _.
    either_holds IsInRange (bytes_eq w (codes "did")) _ _ (λ _. one_within (IsFrom 0 (2 ^ 32 - 1)) (stored_in 0) (λ x. commands.Did (record { number = x })) ws (number_within 0 (2 ^ 32 - 1)) (λ _ l. omega (arith, l.1))) (λ _.
    either_holds IsInRange (bytes_eq w (codes "multi")) _ _ (λ _. then_holds (AllByRecursion IsPair) IsInRange (pairs_in ws) (λ members. Ok (commands.Multi members)) (all_pairs_within ws) (λ _ i. i)) (λ _.
    either_holds IsInRange (bytes_eq w (codes "seemulti")) _ _ (λ _. see_multi_within ws) (λ _.
    either_holds IsInRange (bytes_eq w (codes "freeze")) _ _ (λ _. one_within (λ n. IsFullId n × (n ≤ 2 ^ 62)) id_in (λ x. commands.Freeze x) ws id_within (λ _ i. i)) (λ _.
    either_holds IsInRange (bytes_eq w (codes "multifreeze")) _ _ (λ _. one_within (λ n. IsFullMulti n × (n ≤ 2 ^ 62)) multi_in (λ x. commands.MultiFreeze x) ws multi_within (λ _ i. i)) (λ _. tt)))))))))

alone_within : (c : Command) (ws : List (List ℕ)) → IsInRange c → IfOk (alone c ws) IsInRange
alone_within c ws i = behind IsInRange (none_of ws) (λ _. Ok c) (λ _. i)

any_within : (w : List ℕ) (ws : List (List ℕ)) → IfOk (command_in w ws) IsInRange
unfolding command_in
any_within w ws =
    either_holds IsInRange (bytes_eq w (codes "begin")) _ _ (λ _. alone_within commands.Begin ws tt) (λ _.
    either_holds IsInRange (bytes_eq w (codes "write")) _ _ (λ _. alone_within commands.Write ws tt) (λ _.
    either_holds IsInRange (bytes_eq w (codes "commit")) _ _ (λ _. alone_within commands.Commit ws tt) (λ _.
    either_holds IsInRange (bytes_eq w (codes "abort")) _ _ (λ _. alone_within commands.Abort ws tt) (λ _.
    either_holds IsInRange (bytes_eq w (codes "save")) _ _ (λ _. alone_within commands.Save ws tt) (λ _.
    either_holds IsInRange (bytes_eq w (codes "release")) _ _ (λ _. alone_within commands.Release ws tt) (λ _.
    either_holds IsInRange (bytes_eq w (codes "undo")) _ _ (λ _. alone_within commands.Undo ws tt) (λ _.
    either_holds IsInRange (bytes_eq w (codes "trim")) _ _ (λ _. alone_within commands.Trim ws tt) (λ _.
    either_holds IsInRange (bytes_eq w (codes "horizon")) _ _ (λ _. alone_within commands.Horizon ws tt) (λ _. long_within w ws)))))))))

command_within : (ws : List (List ℕ)) → IfOk (command_at ws) IsInRange
command_within [] = tt
command_within (w ∷ ws) = any_within w ws

pub command_in_range : (ws : List (List ℕ)) (c : Command) → command_at ws ≡ Ok c → IsInRange c
command_in_range ws c e = subst (λ r. IfOk r IsInRange) e (command_within ws)

-- ---- directives

log_dump_within : (ws : List (List ℕ)) → IfOk (log_dump_in ws) IsDirective
unfolding log_dump_in
log_dump_within ws =
    behind IsDirective (two_of ws) _
    (λ two. then_holds (IsFrom 0 (2 ^ 40)) IsDirective (number_in 0 (2 ^ 40) two.0) _ (number_within 0 (2 ^ 40) two.0)
    (λ at l. then_holds (IsFrom 1 64) IsDirective (number_in 1 64 two.1) _ (number_within 1 64 two.1) (λ size m. (l.1, m.0, m.1))))

no_fault : (b : Bool) (k : Kind) → IfOk (fault_if b k) (λ _. b ≡ false)
no_fault true k = tt
no_fault false k = refl

page_dump_within : (w : List ℕ) (ws : List (List ℕ)) → IfOk (page_dump_in w ws) IsDirective
unfolding page_dump_in
page_dump_within w ws =
    behind IsDirective (three_of ws) _
    (λ three. behind IsDirective (store_in w) _
    (λ store. then_holds (IsFrom 0 (2 ^ 32 - 1)) IsDirective (stored_in 0 three.0) _ (number_within 0 (2 ^ 32 - 1) three.0)
    (λ page l. behind IsDirective (number_in 0 8192 three.1) _
    (λ at. then_holds (IsFrom 1 64) IsDirective (number_in 1 64 three.2) _ (number_within 1 64 three.2)
    (λ size m. then_holds (λ _. nat_lt 8192 (at + size) ≡ false) IsDirective (fault_if (nat_lt 8192 (at + size)) kinds.Number) _ (no_fault (nat_lt 8192 (at + size)) kinds.Number)
    (λ _ e. let on : (page < 2 ^ 32) × (at + size ≤ 8192) = (omega (arith, l.1), not_above 8192 (at + size) e) in (on_each_page (λ d. IsDump d at size) store page on on on on, m.0, m.1)))))))

dump_within : (ws : List (List ℕ)) → IfOk (dump_at ws) IsDirective
dump_within [] = tt
dump_within (w ∷ ws) = either_holds IsDirective (bytes_eq w (codes "log")) (log_dump_in ws) (page_dump_in w ws) (λ _. log_dump_within ws) (λ _. page_dump_within w ws)

directive_within : (w : List ℕ) (ws : List (List ℕ)) → IfOk (directive_at w ws) IsDirective
unfolding directive_at
directive_within w ws =
    either_holds IsDirective (bytes_eq w (codes ".round")) _ _ (λ _. behind IsDirective (none_of ws) (λ _. Ok directives.Round) (λ _. tt)) (λ _.
    either_holds IsDirective (bytes_eq w (codes ".checkpoint")) _ _ (λ _. behind IsDirective (none_of ws) (λ _. Ok directives.Checkpoint) (λ _. tt)) (λ _.
    either_holds IsDirective (bytes_eq w (codes ".crash")) _ _ (λ _. behind IsDirective (one_of ws >>= how_in) (λ how. Ok (directives.Crash how)) (λ _. tt)) (λ _.
    either_holds IsDirective (bytes_eq w (codes ".dump")) _ _ (λ _. dump_within ws) (λ _. tt))))

item_within : (d : Directive) → IsDirective d → IsItem (item_of d)
item_within directives.Round i = tt
item_within directives.Checkpoint i = tt
item_within (directives.Crash how) i = tt
item_within (directives.Dump what at size) i = i

-- ---- lines

abbrev IsRanged : Front → Type 0
IsRanged f = AllByRecursion IsItem f.items

command_line_within : (f : Front) (name : List ℕ) (ws : List (List ℕ)) → IsRanged f → IfOk (command_line f name ws) IsRanged
unfolding command_line
command_line_within f name ws r =
    behind IsRanged (fault_if (not (is_name name)) kinds.Session) (λ _. command_at ws >>= λ command. with_turn f (place_of f.names name) name command)
    (λ _. then_holds IsInRange IsRanged (command_at ws) (λ command. with_turn f (place_of f.names name) name command) (command_within ws)
    (λ c i. either_holds IsRanged (is_full f (place_of f.names name)) (Err kinds.Limit) (Ok (record f { names = names_with f.names (place_of f.names name) name; items = f.items ++ items.Run (place_of f.names name) c ∷ [] })) (λ _. tt) (λ _. all_push IsItem f.items (items.Run (place_of f.names name) c) r i)))

words_within : (f : Front) (ws : List (List ℕ)) → IsRanged f → IfOk (words_line f ws) IsRanged
words_within f [] r = r
words_within f (w ∷ ws) r =
    either_holds IsRanged (is_dot w) (directive_at w ws >>= λ d. Ok (with_directive f d)) (command_line f w ws) (λ _. then_holds IsDirective IsRanged (directive_at w ws) (λ d. Ok (with_directive f d)) (directive_within w ws) (λ d i. all_push IsItem f.items (item_of d) r (item_within d i)))
    (λ _. command_line_within f w ws r)

body_within : (f : Front) (line : List ℕ) → IsRanged f → IfOk (body_line f line) IsRanged
unfolding body_line
body_within f line r = behind IsRanged (fault_if (not (is_plain line)) kinds.Byte) (λ _. words_line f (words_in line)) (λ _. words_within f (words_in line) r)

header_words_within : (f : Front) (n : ℕ) (ws : List (List ℕ)) → IsRanged f → IfOk (header_words f n ws) IsRanged
header_words_within f n [] r = r
header_words_within f n (w ∷ ws) r = behind IsRanged (header_with f.header w ws) (λ h. Ok (record f { header = h; header_end = n })) (λ _. r)

header_within : (f : Front) (n : ℕ) (line : List ℕ) → IsRanged f → IfOk (header_line f n line) IsRanged
unfolding header_line
header_within f n line r = behind IsRanged (fault_if (not (is_plain line)) kinds.Byte) (λ _. header_words f n (words_in line)) (λ _. header_words_within f n (words_in line) r)

at_line_within : (n : ℕ) (r : Result Front Kind) → IfOk r IsRanged → IfOk (at_line n r) IsRanged
at_line_within n (Ok f) i = i
at_line_within n (Err k) i = tt

end_within : (f : Front) → IsRanged f → IfOk (end_header f) IsRanged
end_within f r = either_holds IsRanged (f.late || is_base (base_of f.header)) (Ok (record f { late = true })) (Err (f.header_end, kinds.Base)) (λ _. r) (λ _. tt)

line_within : (f : Front) (n : ℕ) (line : List ℕ) → IsRanged f → IfOk (read_line f n line) IsRanged
unfolding read_line
line_within f n line r =
    either_holds IsRanged (is_plain line && is_passed (words_in line)) (Ok f) (cond (not f.late && is_header_line (words_in line)) (at_line n (header_line f n line)) (end_header f >>= λ g. at_line n (body_line g line))) (λ _. r) (λ _.
    either_holds IsRanged (not f.late && is_header_line (words_in line)) (at_line n (header_line f n line)) (end_header f >>= λ g. at_line n (body_line g line)) (λ _. at_line_within n (header_line f n line) (header_within f n line r)) (λ _.
    then_holds IsRanged IsRanged (end_header f) (λ g. at_line n (body_line g line)) (end_within f r) (λ g s. at_line_within n (body_line g line) (body_within g line s))))

lines_within : (f : Front) (n : ℕ) (lines : List (List ℕ)) → IsRanged f → IfOk (read_lines f n lines) IsRanged
lines_within f n [] r = r
lines_within f n (line ∷ lines) r = then_holds IsRanged IsRanged (read_line f n line) (λ g. read_lines g (n + 1) lines) (line_within f n line r) (λ g s. lines_within g (n + 1) lines s)

pub read_in_range : (lines : List (List ℕ)) (f : Front) → read_lines no_front 1 lines ≡ Ok f → AllByRecursion IsItem f.items
unfolding no_front
read_in_range lines f e = subst (λ r. IfOk r IsRanged) e (lines_within no_front 1 lines tt)
