-- What is known of each script that is read: its number of banks, and that few of its commands make a level.
use Rattle.std.proofs.Common.{◌≡◌, ℕ, ◌+◌, ◌*◌, ◌^◌, ◌<◌, ◌≤◌, ◌&&◌, ◌||◌, nat_lt, nat_le, not, List, [], ◌∷◌, ◌++◌, Bool, true, false, cond, Option, Some, None, IfSome, Result, Ok, Err, IfOk, refl, ap, subst, ◌∙◌, codes, arith, length, unwrap_or}
use Rattle.std.proofs.lemmas.Bool.{false≢true}
use Rattle.std.proofs.lemmas.Bool.Decides.{nat_tests}
use Rattle.std.proofs.lemmas.List.{append-nil}
use Rattle.std.proofs.lemmas.List.Elements.{filter_map-append}
use Rattle.std.proofs.lemmas.List.Sums.{sum_by_push}
use Rattle.std.specs.List.{count_by}
use Rattle.std.specs.Option.{is_some}
use Rattle.std.specs.Str.{bytes_eq}
use Rattle.tx_events.specs.Names.{is_name}
use Rattle.tx_model.specs.declared.command.Command.{Command}
use Rattle.script_lines.specs.declared.directive.Directive.{Directive}
use Rattle.script_lines.specs.declared.directive.Directive.TheVariants as directives
use Rattle.script_lines.specs.declared.header.Header.{Header}
use Rattle.script_lines.specs.declared.kind.Kind.{Kind}
use Rattle.script_lines.specs.declared.kind.Kind.TheVariants as kinds
use Rattle.script_lines.specs.Arguments.{number_in, one_of, some_number}
use Rattle.script_lines.specs.Commands.{command_at}
use Rattle.script_lines.specs.Directives.{directive_at}
use Rattle.script_lines.specs.Header.{base_of, given_id, given_multi, given_number, header_with, is_base, no_header}
use Rattle.script_lines.specs.Kinds.{◌>>=◌, fault_if}
use Rattle.script_lines.specs.LineWords.{is_plain, number_of, words_in}
use Rattle.session_lang.specs.declared.parser.reading.Front.{Front}
use Rattle.session_lang.specs.declared.script.Item.{Item}
use Rattle.session_lang.specs.declared.script.Item.TheVariants as items
use Rattle.session_lang.specs.declared.script.Script.{Script}
use Rattle.session_lang.specs.Lines.{lines_of}
use Rattle.session_lang.specs.Script.{at_line, body_line, command_line, end_header, header_line, header_words, is_dot, is_full, is_header_line, is_passed, item_of, names_with, no_front, place_of, read_line, read_lines, read_script, script_of, with_directive, with_turn, words_line}
use Rattle.run_law.specs.Turns.{takers_in, takes_number, turn_in, turns_in}
use Rattle.run_law.proofs.Commands.{HasRoom, command_room}
use Rattle.run_law.proofs.Sizes.{lines_size, size_of, words_size}
use Rattle.run_law.proofs.Steps.{behind, either_holds, no_fault, not_false, of_ok, then_holds, went}

-- ---- banks

abbrev pub AreBanks : ℕ → Type 0
AreBanks n = (1 ≤ n) × (n ≤ 16)

within : (n : ℕ) → (nat_le 1 n && nat_le n 16) ≡ true → AreBanks n
within n e = (grind (arith, nat_tests), grind (arith, nat_tests))

given_banks : (o : Option ℕ) (ws : List (List ℕ)) → IfOk (given_number 16 o ws) AreBanks
unfolding given_number
given_banks o ws =
    behind AreBanks (fault_if (is_some o) kinds.Directive) _ (λ _. behind AreBanks (one_of ws) (number_in 1 16)
    (λ w. behind AreBanks (some_number (number_of w)) (λ n. cond (nat_le 1 n && nat_le n 16) (Ok n) (Err kinds.Number))
    (λ n. either_holds AreBanks (nat_le 1 n && nat_le n 16) (Ok n) (Err kinds.Number) (within n) (λ _. tt))))

abbrev HasBanks : Header → Type 0
HasBanks h = IfSome h.banks AreBanks

header_banks : (h : Header) (w : List ℕ) (ws : List (List ℕ)) → HasBanks h → IfOk (header_with h w ws) HasBanks
unfolding header_with
header_banks h w ws b =
    either_holds HasBanks (bytes_eq w (codes ".start")) _ _ (λ _. behind HasBanks (given_id h.start ws) (λ n. Ok (record h { start = Some n })) (λ _. b)) (λ _.
    either_holds HasBanks (bytes_eq w (codes ".oldest")) _ _ (λ _. behind HasBanks (given_id h.oldest ws) (λ n. Ok (record h { oldest = Some n })) (λ _. b)) (λ _.
    either_holds HasBanks (bytes_eq w (codes ".multi")) _ _ (λ _. behind HasBanks (given_multi h.multi ws) (λ n. Ok (record h { multi = Some n })) (λ _. b)) (λ _.
    either_holds HasBanks (bytes_eq w (codes ".offset")) _ _ (λ _. behind HasBanks (given_number (2 ^ 62) h.offset ws) (λ n. Ok (record h { offset = Some n })) (λ _. b)) (λ _.
    either_holds HasBanks (bytes_eq w (codes ".oldest-multi")) _ _ (λ _. behind HasBanks (given_multi h.oldest_multi ws) (λ n. Ok (record h { oldest_multi = Some n })) (λ _. b)) (λ _.
    either_holds HasBanks (bytes_eq w (codes ".oldest-offset")) _ _ (λ _. behind HasBanks (given_number (2 ^ 62) h.oldest_offset ws) (λ n. Ok (record h { oldest_offset = Some n })) (λ _. b)) (λ _.
    either_holds HasBanks (bytes_eq w (codes ".banks")) _ _ (λ _. then_holds AreBanks HasBanks (given_number 16 h.banks ws) (λ n. Ok (record h { banks = Some n })) (given_banks h.banks ws) (λ _ k. k)) (λ _. tt)))))))

or_four : (o : Option ℕ) → IfSome o AreBanks → AreBanks (unwrap_or o 4)
or_four None b = (omega arith, omega arith)
or_four (Some n) b = b

-- ---- the commands that take a number

takers_push : (before : List Item) (k : ℕ) (c : Command) → takers_in (before ++ items.Run k c ∷ []) ≡ takers_in before + cond (takes_number c) 1 0
takers_push before k c =
    ap (count_by (λ (t : ℕ × Command). takes_number t.1)) (filter_map-append turn_in before (items.Run k c ∷ []))
    ∙ sum_by_push (λ (t : ℕ × Command). cond (takes_number t.1) 1 0) (turns_in before) (k, c)

no_turn : (d : Directive) → turns_in (item_of d ∷ []) ≡ []
no_turn directives.Round = refl
no_turn directives.Checkpoint = refl
no_turn (directives.Crash how) = refl
no_turn (directives.Dump what at size) = refl

takers_end : (before : List Item) (d : Directive) → takers_in (before ++ item_of d ∷ []) ≡ takers_in before
takers_end before d =
    ap (count_by (λ (t : ℕ × Command). takes_number t.1))
    (filter_map-append turn_in before (item_of d ∷ []) ∙ ap (λ t. turns_in before ++ t) (no_turn d) ∙ append-nil (turns_in before))

-- ---- lines

-- The line of a command that takes a number has six bytes at least: a session of one letter, a blank and `save`. With its
-- end it has seven. n is how many bytes were read, with the end of the last line.
record Reads (n : ℕ) (f : Front) : Type 0 where
  takers : 7 * takers_in f.items ≤ n
  banks : HasBanks f.header

reads_up : (m n : ℕ) (f : Front) → Reads m f → m ≤ n → Reads n f
reads_up m n f r l = record { takers = let a = r.takers in omega arith; banks = r.banks }

has_letter : (name : List ℕ) → is_name name ≡ true → 1 ≤ length name
has_letter [] e = absurd (false≢true e)
has_letter (b ∷ name) e = omega arith

seven : (b : Bool) (letters size : ℕ) → 5 * cond b 1 0 ≤ size → 1 ≤ letters → 7 * cond b 1 0 ≤ letters + 1 + size
seven true letters size r l = omega arith
seven false letters size r l = omega arith

abbrev with_run : Front → ℕ → List ℕ → Command → Front
with_run f k name command = record f { names = names_with f.names k name; items = f.items ++ items.Run k command ∷ [] }

run_reads : (n : ℕ) (f : Front) (k : ℕ) (name : List ℕ) (ws : List (List ℕ)) (c : Command) → Reads n f → is_name name ≡ true → HasRoom ws c → Reads (n + size_of (name ∷ ws)) (with_run f k name c)
run_reads n f k name ws c r i room = record {
  takers =
      let before = r.takers in
      let more = takers_push f.items k c in
      let line = seven (takes_number c) (length name) (size_of ws) room (has_letter name i) in
      omega arith;
  banks = r.banks;
}

command_reads : (n : ℕ) (f : Front) (name : List ℕ) (ws : List (List ℕ)) → Reads n f → IfOk (command_line f name ws) (Reads (n + size_of (name ∷ ws)))
unfolding command_line
command_reads n f name ws r =
    let after = Reads (n + size_of (name ∷ ws)) in
    then_holds (λ _. not (is_name name) ≡ false) after (fault_if (not (is_name name)) kinds.Session) (λ _. command_at ws >>= λ command. with_turn f (place_of f.names name) name command) (no_fault (not (is_name name)) kinds.Session)
    (λ _ e. then_holds (HasRoom ws) after (command_at ws) (λ command. with_turn f (place_of f.names name) name command) (command_room ws)
    (λ c room. either_holds after (is_full f (place_of f.names name)) (Err kinds.Limit) (Ok (with_run f (place_of f.names name) name c)) (λ _. tt) (λ _. run_reads n f (place_of f.names name) name ws c r (not_false (is_name name) e) room)))

directive_reads : (n : ℕ) (f : Front) (d : Directive) → Reads n f → Reads n (with_directive f d)
directive_reads n f d r = record { takers = let a = r.takers in let same = takers_end f.items d in omega arith; banks = r.banks }

words_read : (n : ℕ) (f : Front) (ws : List (List ℕ)) → Reads n f → IfOk (words_line f ws) (Reads (n + size_of ws))
words_read n f [] r = reads_up n (n + 0) f r (omega arith)
words_read n f (w ∷ ws) r =
    let after = Reads (n + size_of (w ∷ ws)) in
    either_holds after (is_dot w) (directive_at w ws >>= λ d. Ok (with_directive f d)) (command_line f w ws)
    (λ _. behind after (directive_at w ws) (λ d. Ok (with_directive f d)) (λ d. reads_up n (n + size_of (w ∷ ws)) (with_directive f d) (directive_reads n f d r) (omega arith)))
    (λ _. command_reads n f w ws r)

up_to : (m n : ℕ) (r : Result Front Kind) → m ≤ n → IfOk r (Reads m) → IfOk r (Reads n)
up_to m n (Ok f) l g = reads_up m n f g l
up_to m n (Err k) l g = tt

body_reads : (n : ℕ) (f : Front) (line : List ℕ) → Reads n f → IfOk (body_line f line) (Reads (n + (length line + 1)))
unfolding body_line
body_reads n f line r =
    let short = words_size line in
    behind (Reads (n + (length line + 1))) (fault_if (not (is_plain line)) kinds.Byte) (λ _. words_line f (words_in line))
    (λ _. up_to (n + size_of (words_in line)) (n + (length line + 1)) (words_line f (words_in line)) (omega (arith, short)) (words_read n f (words_in line) r))

header_words_read : (n : ℕ) (f : Front) (number : ℕ) (ws : List (List ℕ)) → Reads n f → IfOk (header_words f number ws) (Reads n)
header_words_read n f number [] r = r
header_words_read n f number (w ∷ ws) r =
    then_holds HasBanks (Reads n) (header_with f.header w ws) (λ h. Ok (record f { header = h; header_end = number })) (header_banks f.header w ws r.banks)
    (λ h b. record { takers = r.takers; banks = b })

header_reads : (n : ℕ) (f : Front) (number : ℕ) (line : List ℕ) → Reads n f → IfOk (header_line f number line) (Reads (n + (length line + 1)))
unfolding header_line
header_reads n f number line r =
    behind (Reads (n + (length line + 1))) (fault_if (not (is_plain line)) kinds.Byte) (λ _. header_words f number (words_in line))
    (λ _. up_to n (n + (length line + 1)) (header_words f number (words_in line)) (omega arith) (header_words_read n f number (words_in line) r))

at_line_reads : (n number : ℕ) (r : Result Front Kind) → IfOk r (Reads n) → IfOk (at_line number r) (Reads n)
at_line_reads n number (Ok f) g = g
at_line_reads n number (Err k) g = tt

end_reads : (n : ℕ) (f : Front) → Reads n f → IfOk (end_header f) (Reads n)
end_reads n f r =
    either_holds (Reads n) (f.late || is_base (base_of f.header)) (Ok (record f { late = true })) (Err (f.header_end, kinds.Base))
    (λ _. record { takers = r.takers; banks = r.banks }) (λ _. tt)

line_reads : (n : ℕ) (f : Front) (number : ℕ) (line : List ℕ) → Reads n f → IfOk (read_line f number line) (Reads (n + (length line + 1)))
unfolding read_line
line_reads n f number line r =
    let most = n + (length line + 1) in
    either_holds (Reads most) (is_plain line && is_passed (words_in line)) (Ok f) (cond (not f.late && is_header_line (words_in line)) (at_line number (header_line f number line)) (end_header f >>= λ h. at_line number (body_line h line))) (λ _. reads_up n most f r (omega arith)) (λ _.
    either_holds (Reads most) (not f.late && is_header_line (words_in line)) (at_line number (header_line f number line)) (end_header f >>= λ h. at_line number (body_line h line)) (λ _. at_line_reads most number (header_line f number line) (header_reads n f number line r)) (λ _.
    then_holds (Reads n) (Reads most) (end_header f) (λ h. at_line number (body_line h line)) (end_reads n f r) (λ h k. at_line_reads most number (body_line h line) (body_reads n h line k))))

lines_read : (n most : ℕ) (f : Front) (number : ℕ) (lines : List (List ℕ)) → n + size_of lines ≤ most → Reads n f → IfOk (read_lines f number lines) (Reads most)
lines_read n most f number [] l r = reads_up n most f r (omega arith)
lines_read n most f number (line ∷ lines) l r =
    then_holds (Reads (n + (length line + 1))) (Reads most) (read_line f number line) (λ h. read_lines h (number + 1) lines) (line_reads n f number line r)
    (λ h k. lines_read (n + (length line + 1)) most h (number + 1) lines (omega arith) k)

begins : Reads 0 no_front
unfolding no_front no_header
begins = record { takers = omega arith; banks = tt }

-- ---- a script

pub record IsKnown (s : Script) : Type 0 where
  pub banks : AreBanks s.banks
  pub few : takers_in s.items < 2900000

front_known : (f : Front) → Reads 16777217 f → IsKnown (script_of f)
front_known f r = record { banks = or_four f.header.banks r.banks; few = let a = r.takers in omega arith }

pub script_known : (bytes : List ℕ) (s : Script) → read_script bytes ≡ Ok s → IsKnown s
unfolding read_script
script_known bytes s e =
    let sized = went (fault_if (nat_lt 16777216 (length bytes)) (0, kinds.Size)) _ s e in
    let read = went (read_lines no_front 1 (lines_of bytes)) _ s sized.2 in
    let f : Front = read.0 in
    let based = went (fault_if (not (is_base (base_of f.header))) (f.header_end, kinds.Base)) _ s read.2 in
    let long : nat_lt 16777216 (length bytes) ≡ false = of_ok (λ _. nat_lt 16777216 (length bytes) ≡ false) (fault_if (nat_lt 16777216 (length bytes)) (0, kinds.Size)) sized.0 (no_fault (nat_lt 16777216 (length bytes)) (0, kinds.Size)) sized.1 in
    let size = lines_size bytes in
    let short : length bytes ≤ 16777216 = grind (arith, nat_tests) in
    let reads : Reads 16777217 f = of_ok (Reads 16777217) (read_lines no_front 1 (lines_of bytes)) f (lines_read 0 16777217 no_front 1 (lines_of bytes) (omega arith) begins) read.1 in
    let same : script_of f ≡ s = cc in
    subst IsKnown same (front_known f reads)
