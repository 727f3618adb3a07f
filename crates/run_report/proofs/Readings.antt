-- What is read as a script: its names, its sessions' numbers, and how many lines it has; and that counters can be told.
use Rattle.std.proofs.Common.{◌≡◌, ◌⊎◌, ℕ, zero, suc, ◌+◌, ◌^◌, ◌<◌, ◌≤◌, ◌&&◌, ◌||◌, nat_lt, nat_le, not, List, [], ◌∷◌, ◌++◌, Bool, true, false, cond, Result, Ok, Err, IfOk, refl, sym, ap, subst, ◌∙◌, inl, inr, ⊎_elim, arith, length, get_or, set, replicate, one-add}
use Rattle.std.proofs.lemmas.Bool.{false≢true}
use Rattle.std.proofs.lemmas.Bool.Decides.{nat_tests}
use Rattle.std.proofs.lemmas.List.Elements.{recursion_from_All}
use Rattle.std.proofs.lemmas.List.Splits.{length-slice_split}
use Rattle.std.proofs.lemmas.List.Sums.{count_by-le-length}
use Rattle.std.specs.List.{AllByRecursion, range_with_len, slice_split}
use Rattle.tx_events.specs.Ids.{IsFullMulti}
use Rattle.tx_events.specs.Limits.{member_stop, multi_stop_limit}
use Rattle.tx_events.specs.declared.record.Counters.{Counters}
use Rattle.tx_events.specs.Base.{IsBase}
use Rattle.tx_events.specs.Events.{same_name}
use Rattle.tx_events.specs.Names.{IsName, is_name}
use Rattle.tx_events.specs.Places.{first_seen}
use Rattle.tx_events.proofs.ListSteps.{below_not, eqb-refl, length_push}
use Rattle.tx_events.proofs.Names.{same_name_refl}
use Rattle.tx_model.specs.declared.command.Command.{Command}
use Rattle.proc_table.proofs.Bounds.{stop_to}
use Rattle.script_lines.specs.declared.directive.Directive.{Directive}
use Rattle.script_lines.specs.declared.kind.Kind.{Kind}
use Rattle.script_lines.specs.declared.kind.Kind.TheVariants as kinds
use Rattle.script_lines.specs.Commands.{command_at}
use Rattle.script_lines.specs.Directives.{directive_at}
use Rattle.script_lines.specs.Header.{base_of, header_with, is_base}
use Rattle.script_lines.specs.Kinds.{◌>>=◌, fault_if}
use Rattle.script_lines.specs.LineWords.{is_plain, words_in}
use Rattle.session_lang.specs.declared.parser.reading.Front.{Front}
use Rattle.session_lang.specs.declared.script.Item.TheVariants as items
use Rattle.session_lang.specs.declared.script.Script.{Script}
use Rattle.session_lang.specs.Lines.{ended, is_line_end, lines_of}
use Rattle.session_lang.specs.Plain.{IsItem}
use Rattle.session_lang.specs.Reading.{HasRead, IsNew}
use Rattle.session_lang.specs.Rounds.{count_of, sessions_in}
use Rattle.session_lang.specs.Script.{at_line, body_line, command_line, end_header, header_line, header_words, is_dot, is_full, is_header_line, is_passed, item_of, names_with, no_front, place_of, read_line, read_lines, read_script, script_of, with_directive, with_turn, words_line}
use Rattle.session_lang.proofs.Ranges.{read_in_range}
use Rattle.session_lang.proofs.StepLemmas.{has_read_end, has_read_new, has_read_none, has_read_old}
use Rattle.report_words.specs.Fits.{AreNames, FitsCounters}
use Rattle.run_law.proofs.Steps.{behind, both_false, either_holds, no_fault, not_false, of_ok, then_holds, went}
use Rattle.run_report.proofs.Ids.{full_fits, oldest_fits}

above : (m n : ℕ) → nat_le m n ≡ false → n < m
above m n e = grind (arith, nat_tests)

-- ---- counters

multi_to : (oldest : ℕ) → multi_stop_limit oldest + 1 ≤ 2 ^ 63
multi_to oldest = omega arith

member_to : (oldest : ℕ) → member_stop oldest + 1 ≤ 2 ^ 63
member_to oldest = omega arith

pub counters_fit : (c : Counters) → IsBase c → IsFullMulti c.multi → IsFullMulti c.oldest_multi → FitsCounters c
counters_fit c b f g =
    let ids = stop_to c.oldest in
    let multis = multi_to c.oldest_multi in
    let members = member_to c.oldest_offset in
    let n = b.next in
    let m = b.multi in
    let o = b.offset in
    let om = b.oldest_multi in
    let oo = b.oldest_offset in
    record {
      next = full_fits c.next b.full (omega arith);
      oldest = oldest_fits c b;
      multi = (omega arith, f);
      offset = omega arith;
      oldest_multi = (omega arith, g);
      oldest_offset = omega arith;
    }

-- ---- sessions

IsPlaced : List (List ℕ) → List ℕ → ℕ → Type 0
IsPlaced names w k = ((k ≡ length names) × IsNew names w) ⊎ (k < length names)

-- a name is the one past the last, or it stands before that
placed_behind : (v w : List ℕ) (names : List (List ℕ)) → (same_name v w ≡ false) → IsPlaced names w (place_of names w) → IsPlaced (v ∷ names) w (suc (place_of names w))
unfolding IsPlaced
placed_behind v w names e p = ⊎_elim
    (λ (a : (place_of names w ≡ length names) × IsNew names w). inl (ap suc a.0, other a.1))
    (λ (a : place_of names w < length names). inr (omega arith))
    p
  where
    other : IsNew names w → IsNew (v ∷ names) w
    other n zero at = let same : v ≡ w = cc in absurd (false≢true (sym e ∙ ap (λ x. same_name x w) same ∙ same_name_refl w))
    other n (suc k) at = n k at

placed : (names : List (List ℕ)) (w : List ℕ) → IsPlaced names w (place_of names w)
unfolding IsPlaced
placed [] w = inl (refl, λ k e. cc)
placed (v ∷ names) w = step (same_name v w) refl (placed names w)
  where
    step : (b : Bool) → same_name v w ≡ b → IsPlaced names w (place_of names w) → IsPlaced (v ∷ names) w (cond (not b) (1 + place_of names w) 0)
    step true e p = inr (omega arith)
    step false e p = rw one-add (placed_behind v w names e p)

-- the lines so far, at most so many of them items
record Goes (n : ℕ) (f : Front) : Type 0 where
  counts : List ℕ
  read : HasRead f.names counts f.items
  few : length f.items ≤ n

goes_up : (m n : ℕ) (f : Front) → Goes m f → m ≤ n → Goes n f
goes_up m n f g l = record { counts = g.counts; read = g.read; few = let a = g.few in omega arith }

abbrev with_run : Front → ℕ → List ℕ → Command → Front
with_run f k name command = record f { names = names_with f.names k name; items = f.items ++ items.Run k command ∷ [] }

-- a command more, of a session that is new
run_new : (n : ℕ) (f : Front) (k : ℕ) (name : List ℕ) (command : Command) → Goes n f → is_name name ≡ true → k < 64 → k ≡ length f.names → IsNew f.names name → Goes (suc n) (with_run f k name command)
run_new n f k name command g i l e new =
    let named = f.names in
    let read = has_read_new named g.counts f.items name command g.read new i (omega arith) in
    subst (λ j. Goes (suc n) (with_run f j name command)) (sym e)
    (record {
      counts = g.counts ++ 1 ∷ [];
      read = subst (λ b. HasRead (cond b (named ++ name ∷ []) named) (g.counts ++ 1 ∷ []) (f.items ++ items.Run (length named) command ∷ [])) (sym (eqb-refl (length named))) read;
      few = let a = g.few in let p = length_push f.items (items.Run (length named) command) in omega arith;
    })

-- or has had one
run_old : (n : ℕ) (f : Front) (k : ℕ) (name : List ℕ) (command : Command) → Goes n f → count_of k f.items < 100000 → k < length f.names → Goes (suc n) (with_run f k name command)
run_old n f k name command g l within =
    let named = f.names in
    let counted = g.read.counted k in
    let counts : List ℕ = set g.counts k (get_or g.counts k 0 + 1) in
    let read : HasRead named counts (f.items ++ items.Run k command ∷ []) = has_read_old named g.counts f.items k (get_or g.counts k 0) command g.read within refl (subst (λ c. c < 100000) (sym counted) l) in
    record {
      counts = counts;
      read = subst (λ b. HasRead (cond b (named ++ name ∷ []) named) counts (f.items ++ items.Run k command ∷ [])) (sym (below_not k (length named) within)) read;
      few = let a = g.few in let p = length_push f.items (items.Run k command) in omega arith;
    }

run_goes : (n : ℕ) (f : Front) (k : ℕ) (name : List ℕ) (command : Command) → Goes n f → is_name name ≡ true → IsPlaced f.names name k → is_full f k ≡ false → Goes (suc n) (with_run f k name command)
unfolding IsPlaced
run_goes n f k name command g i p e =
    let room = both_false (nat_le 64 k) (nat_le 100000 (count_of k f.items)) e in
    ⊎_elim
    (λ (a : (k ≡ length f.names) × IsNew f.names name). run_new n f k name command g i (above 64 k room.0) a.0 a.1)
    (λ (a : k < length f.names). run_old n f k name command g (above 100000 (count_of k f.items) room.1) a)
    p

-- ---- lines

command_goes : (n : ℕ) (f : Front) (name : List ℕ) (ws : List (List ℕ)) → Goes n f → IfOk (command_line f name ws) (Goes (suc n))
unfolding command_line
command_goes n f name ws g =
    then_holds (λ _. not (is_name name) ≡ false) (Goes (suc n)) (fault_if (not (is_name name)) kinds.Session) (λ _. command_at ws >>= λ command. with_turn f (place_of f.names name) name command) (no_fault (not (is_name name)) kinds.Session)
    (λ _ e. behind (Goes (suc n)) (command_at ws) (λ command. with_turn f (place_of f.names name) name command)
    (λ c. either_holds (Goes (suc n)) (is_full f (place_of f.names name)) (Err kinds.Limit) (Ok (with_run f (place_of f.names name) name c)) (λ _. tt) (λ full. run_goes n f (place_of f.names name) name c g (not_false (is_name name) e) (placed f.names name) full)))

directive_goes : (n : ℕ) (f : Front) (d : Directive) → Goes n f → Goes (suc n) (with_directive f d)
directive_goes n f d g = record {
  counts = replicate (length g.counts) 0;
  read = has_read_end f.names g.counts f.items d g.read;
  few = let a = g.few in let p = length_push f.items (item_of d) in omega arith;
}

words_go : (n : ℕ) (f : Front) (ws : List (List ℕ)) → Goes n f → IfOk (words_line f ws) (Goes (suc n))
words_go n f [] g = goes_up n (suc n) f g (omega arith)
words_go n f (w ∷ ws) g =
    either_holds (Goes (suc n)) (is_dot w) (directive_at w ws >>= λ d. Ok (with_directive f d)) (command_line f w ws)
    (λ _. behind (Goes (suc n)) (directive_at w ws) (λ d. Ok (with_directive f d)) (λ d. directive_goes n f d g))
    (λ _. command_goes n f w ws g)

body_goes : (n : ℕ) (f : Front) (line : List ℕ) → Goes n f → IfOk (body_line f line) (Goes (suc n))
unfolding body_line
body_goes n f line g = behind (Goes (suc n)) (fault_if (not (is_plain line)) kinds.Byte) (λ _. words_line f (words_in line)) (λ _. words_go n f (words_in line) g)

header_words_go : (n : ℕ) (f : Front) (number : ℕ) (ws : List (List ℕ)) → Goes n f → IfOk (header_words f number ws) (Goes (suc n))
header_words_go n f number [] g = goes_up n (suc n) f g (omega arith)
header_words_go n f number (w ∷ ws) g =
    behind (Goes (suc n)) (header_with f.header w ws) (λ h. Ok (record f { header = h; header_end = number }))
    (λ h. record { counts = g.counts; read = g.read; few = let a = g.few in omega arith })

header_goes : (n : ℕ) (f : Front) (number : ℕ) (line : List ℕ) → Goes n f → IfOk (header_line f number line) (Goes (suc n))
unfolding header_line
header_goes n f number line g = behind (Goes (suc n)) (fault_if (not (is_plain line)) kinds.Byte) (λ _. header_words f number (words_in line)) (λ _. header_words_go n f number (words_in line) g)

at_line_goes : (n number : ℕ) (r : Result Front Kind) → IfOk r (Goes n) → IfOk (at_line number r) (Goes n)
at_line_goes n number (Ok f) g = g
at_line_goes n number (Err k) g = tt

end_goes : (n : ℕ) (f : Front) → Goes n f → IfOk (end_header f) (Goes n)
end_goes n f g =
    either_holds (Goes n) (f.late || is_base (base_of f.header)) (Ok (record f { late = true })) (Err (f.header_end, kinds.Base))
    (λ _. record { counts = g.counts; read = g.read; few = g.few }) (λ _. tt)

line_goes : (n : ℕ) (f : Front) (number : ℕ) (line : List ℕ) → Goes n f → IfOk (read_line f number line) (Goes (suc n))
unfolding read_line
line_goes n f number line g =
    either_holds (Goes (suc n)) (is_plain line && is_passed (words_in line)) (Ok f) (cond (not f.late && is_header_line (words_in line)) (at_line number (header_line f number line)) (end_header f >>= λ h. at_line number (body_line h line))) (λ _. goes_up n (suc n) f g (omega arith)) (λ _.
    either_holds (Goes (suc n)) (not f.late && is_header_line (words_in line)) (at_line number (header_line f number line)) (end_header f >>= λ h. at_line number (body_line h line)) (λ _. at_line_goes (suc n) number (header_line f number line) (header_goes n f number line g)) (λ _.
    then_holds (Goes n) (Goes (suc n)) (end_header f) (λ h. at_line number (body_line h line)) (end_goes n f g) (λ h k. at_line_goes (suc n) number (body_line h line) (body_goes n h line k))))

lines_go : (n most : ℕ) (f : Front) (number : ℕ) (lines : List (List ℕ)) → n + length lines ≤ most → Goes n f → IfOk (read_lines f number lines) (Goes most)
lines_go n most f number [] l g = goes_up n most f g (omega arith)
lines_go n most f number (line ∷ lines) l g = then_holds (Goes (suc n)) (Goes most) (read_line f number line) (λ h. read_lines h (number + 1) lines) (line_goes n f number line g) (λ h k. lines_go (suc n) most h (number + 1) lines (omega arith) k)

begins : Goes 0 no_front
unfolding no_front
begins = record { counts = []; read = has_read_none [] refl; few = omega arith }

-- ---- a script

ended_length : (raws : List (List ℕ)) → length (ended raws) ≡ length raws
ended_length [] = refl
ended_length (last ∷ []) = refl
ended_length (raw ∷ next ∷ more) = ap suc (ended_length (next ∷ more))

lines_few : (bytes : List ℕ) → length (lines_of bytes) ≤ length bytes + 1
lines_few bytes =
    let a = ended_length (slice_split is_line_end bytes) in
    let b = length-slice_split is_line_end bytes in
    let c = count_by-le-length is_line_end bytes in
    omega arith

-- what a report of a script needs of it
pub record IsRead (s : Script) : Type 0 where
  pub names : AreNames s.names
  pub sessions : length s.names ≤ 64
  pub numbered : first_seen (sessions_in s.items) ≡ range_with_len 0 (length s.names)
  pub items : AllByRecursion IsItem s.items
  pub few : length s.items ≤ 2 ^ 25

front_read : (n : ℕ) (f : Front) → n ≤ 2 ^ 25 → AllByRecursion IsItem f.items → Goes n f → IsRead (script_of f)
front_read n f l i g =
    let read = g.read in
    record {
      names = record { each = recursion_from_All IsName f.names read.names; distinct = read.distinct };
      sessions = read.sessions;
      numbered = read.numbered;
      items = i;
      few = let a = g.few in omega arith;
    }

pub script_read : (bytes : List ℕ) (s : Script) → read_script bytes ≡ Ok s → IsRead s
unfolding read_script
script_read bytes s e =
    let sized = went (fault_if (nat_lt 16777216 (length bytes)) (0, kinds.Size)) _ s e in
    let read = went (read_lines no_front 1 (lines_of bytes)) _ s sized.2 in
    let f : Front = read.0 in
    let based = went (fault_if (not (is_base (base_of f.header))) (f.header_end, kinds.Base)) _ s read.2 in
    let long : nat_lt 16777216 (length bytes) ≡ false = of_ok (λ _. nat_lt 16777216 (length bytes) ≡ false) (fault_if (nat_lt 16777216 (length bytes)) (0, kinds.Size)) sized.0 (no_fault (nat_lt 16777216 (length bytes)) (0, kinds.Size)) sized.1 in
    let few = lines_few bytes in
    let short : length bytes ≤ 16777216 = grind (arith, nat_tests) in
    let goes : Goes (2 ^ 25) f = of_ok (Goes (2 ^ 25)) (read_lines no_front 1 (lines_of bytes)) f (lines_go 0 (2 ^ 25) no_front 1 (lines_of bytes) (omega arith) begins) read.1 in
    let same : script_of f ≡ s = cc in
    subst IsRead same (front_read (2 ^ 25) f (omega arith) (read_in_range (lines_of bytes) f read.1) goes)
