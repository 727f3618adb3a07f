-- The plain text of a script is read as it.
use Rattle.std.proofs.Common.{◌≡◌, ℕ, ◌+◌, ◌<◌, ◌≤◌, nat_le, ◌||◌, ◌==◌, not, List, [], ◌∷◌, ◌++◌, Bool, true, false, cond, Some, Ok, refl, sym, ap, subst, ◌∙◌, zero, suc, take, length, map, arith, append_assoc, append-nil, eq-eqb}
use Rattle.std.specs.List.{All, AllByRecursion, prefix_len, range_with_len, slice_get}
use Rattle.std.proofs.lemmas.Bool.Decides.{nat_tests}
use Rattle.std.proofs.lemmas.List.{take_all}
use Rattle.std.proofs.lemmas.List.Elements.{All-get_or, filter_map-append}
use Rattle.std.proofs.lemmas.List.FromFn.{length-range_with_len}
use Rattle.std.proofs.lemmas.Option.{slice_get-get_or, unwrap_or-slice_get}
use Rattle.tx_events.proofs.ListSteps.{eqb-refl, range_push}
use Rattle.tx_events.specs.Events.{same_name}
use Rattle.tx_events.specs.Places.{first_seen}
use Rattle.tx_model.specs.declared.command.Command.{Command}
use Rattle.report_text.specs.Words.{name_at}
use Rattle.script_lines.specs.declared.directive.Directive.{Directive}
use Rattle.script_lines.specs.declared.directive.Directive.TheVariants as directives
use Rattle.script_lines.specs.Header.{base_of, is_base}
use Rattle.tx_events.specs.Names.{is_name}
use Rattle.session_lang.specs.declared.script.Item.{Item}
use Rattle.session_lang.specs.declared.script.Item.TheVariants as items
use Rattle.session_lang.specs.declared.script.Script.{Script}
use Rattle.session_lang.specs.declared.parser.reading.Front.{Front}
use Rattle.session_lang.specs.Plain.{IsDirective, IsInRange, IsItem, directive_rest, directive_word, item_words, spaced}
use Rattle.session_lang.specs.Reading.{IsSound}
use Rattle.session_lang.specs.Rounds.{IsShort, count_of, open_round, rounds_of, session_of, sessions_in}
use Rattle.session_lang.specs.Script.{at_line, item_of, names_with, place_of, read_line, read_lines, with_directive, with_turn}
use Rattle.session_lang.proofs.CountLemmas.{sessions_end, sessions_push}
use Rattle.session_lang.proofs.LineLemmas.{nothing_read}
use Rattle.session_lang.proofs.PlaceLemmas.{place_old}
use Rattle.session_lang.proofs.PlainItems.{behind_header, command_read, directive_read}
use Rattle.session_lang.proofs.RoundLemmas.{next_short, turns_push}
use Rattle.session_lang.proofs.SeenLemmas.{is_in, next_number, old_number, push_next, push_old}

-- ---- the front of a list

prefix_step : {X : Type 0} (p : X → Bool) (x : X) (xs : List X) (m : ℕ) (b : Bool) → p x ≡ b → prefix_len p (x ∷ xs) ≤ suc m → (prefix_len p xs ≤ m → prefix_len p (take m xs) ≡ prefix_len p xs) → prefix_len p (take (suc m) (x ∷ xs)) ≡ prefix_len p (x ∷ xs)
prefix_step p x xs m true e l h = let k = rw e at l in rw e (ap (λ n. 1 + n) (h (omega arith)))
prefix_step p x xs m false e l h = rw e refl

-- what passes at a list's front passes at the front of a longer front of it
prefix_of_front : {X : Type 0} (p : X → Bool) (xs : List X) (m : ℕ) → prefix_len p xs ≤ m → prefix_len p (take m xs) ≡ prefix_len p xs
prefix_of_front p [] zero l = refl
prefix_of_front p [] (suc m) l = refl
prefix_of_front p (x ∷ xs) zero l = omega (arith, l)
prefix_of_front p (x ∷ xs) (suc m) l = prefix_step p x xs m (p x) refl l (prefix_of_front p xs m)

take_push : {X : Type 0} (xs : List X) (m : ℕ) (x : X) → slice_get xs m ≡ Some x → take m xs ++ x ∷ [] ≡ take (suc m) xs
take_push [] m x e = absurd cc
take_push (y ∷ xs) zero x e = let same : y ≡ x = cc in ap (λ z. z ∷ []) (sym same)
take_push (y ∷ xs) (suc m) x e = ap (λ t. y ∷ t) (take_push xs m x e)

length_front : {X : Type 0} (xs : List X) (m : ℕ) → m ≤ length xs → length (take m xs) ≡ m
length_front [] zero l = refl
length_front [] (suc m) l = absurd (omega arith)
length_front (x ∷ xs) zero l = refl
length_front (x ∷ xs) (suc m) l = ap suc (length_front xs m (omega arith))

-- ---- one item more

-- so many of the script's names and these items have been read
record HasFront (s : Script) (f : Front) (before later : List Item) (m : ℕ) : Type 0 where
  split : s.items ≡ before ++ later
  items : f.items ≡ before
  names : f.names ≡ take m s.names
  base : is_base (base_of f.header) ≡ true
  seen : first_seen (sessions_in before) ≡ range_with_len 0 m
  most : m ≤ length s.names

record GoesOn (s : Script) (f : Front) (n : ℕ) (before : List Item) (x : Item) (later : List Item) : Type 0 where
  front : Front
  known : ℕ
  read : read_line f n (spaced (item_words s.names x)) ≡ Ok front
  header : front.header ≡ f.header
  has : HasFront s front (before ++ x ∷ []) later known

split_on : (before later all : List Item) (x : Item) → all ≡ before ++ x ∷ later → all ≡ (before ++ x ∷ []) ++ later
split_on before later all x e = e ∙ sym (append_assoc before (x ∷ []) later)

directive_step : (s : Script) (f : Front) (n : ℕ) (before : List Item) (d : Directive) (later : List Item) (m : ℕ) → HasFront s f before (item_of d ∷ later) m → IsDirective d → item_words s.names (item_of d) ≡ directive_word d ∷ directive_rest d → GoesOn s f n before (item_of d) later
directive_step s f n before d later m h i w = record {
  front = with_directive (behind_header f) d;
  known = m;
  read = ap (λ ws. read_line f n (spaced ws)) w ∙ directive_read f n d i h.base;
  header = refl;
  has = record {
    split = split_on before later s.items (item_of d) h.split;
    items = ap (λ t. t ++ item_of d ∷ []) h.items;
    names = h.names;
    base = h.base;
    seen = ap first_seen (sessions_end before d) ∙ h.seen;
    most = h.most;
  };
}

-- the session of a command is one of those so far, or the next one
record IsPlace (s : Script) (before : List Item) (k m : ℕ) : Type 0 where
  known : ℕ
  low : k ≤ m
  names : (name : List ℕ) → slice_get s.names k ≡ Some name → names_with (take m s.names) k name ≡ take known s.names
  seen : first_seen (sessions_in before ++ k ∷ []) ≡ range_with_len 0 known
  most : known ≤ length s.names

in_middle : (k : ℕ) (xs ys : List ℕ) → is_in k (xs ++ k ∷ ys) ≡ true
in_middle k [] ys = rw (eqb-refl k) refl
in_middle k (x ∷ xs) ys = rw (in_middle k xs ys) (or_true (k == x))
  where
    or_true : (b : Bool) → (b || true) ≡ true
    or_true true = refl
    or_true false = refl

sessions_split : (before : List Item) (k : ℕ) (c : Command) (later : List Item) → sessions_in (before ++ items.Run k c ∷ later) ≡ sessions_in before ++ k ∷ sessions_in later
sessions_split before k c later = filter_map-append session_of before (items.Run k c ∷ later)

old_place : (s : Script) (before : List Item) (k m : ℕ) → m ≤ length s.names → first_seen (sessions_in before) ≡ range_with_len 0 m → is_in k (sessions_in before) ≡ true → IsPlace s before k m
old_place s before k m l seen o =
    let low : k < m = old_number k m (sessions_in before) seen o in
    let size = length_front s.names m l in
    let other : (k == length (take m s.names)) ≡ false = grind (arith, nat_tests) in
    record {
      known = m;
      low = omega arith;
      names = λ name e. rw other refl;
      seen = push_old k (sessions_in before) o ∙ seen;
      most = l;
    }

new_place : (s : Script) (before : List Item) (k m : ℕ) (rest : List ℕ) → m ≤ length s.names → first_seen (sessions_in before) ≡ range_with_len 0 m → is_in k (sessions_in before) ≡ false → first_seen (sessions_in before ++ k ∷ rest) ≡ range_with_len 0 (length s.names) → IsPlace s before k m
new_place s before k m rest l seen o all =
    let next : k ≡ m = next_number k m (length s.names) (sessions_in before) rest seen o all in
    let within : k < length s.names = old_number k (length s.names) (sessions_in before ++ k ∷ rest) all (in_middle k (sessions_in before) rest) in
    let size : length (take m s.names) ≡ m = length_front s.names m l in
    let same : (k == length (take m s.names)) ≡ true = eq-eqb k (length (take m s.names)) (next ∙ sym size) in
    let zeroed : k ≡ 0 + m = omega arith in
    record {
      known = suc m;
      low = omega arith;
      names = λ name e. rw same (take_push s.names m name (subst (λ j. slice_get s.names j ≡ Some name) next e));
      seen = push_next k (sessions_in before) o ∙ ap (λ t. t ++ k ∷ []) seen ∙ ap (λ j. range_with_len 0 m ++ j ∷ []) zeroed ∙ sym (range_push 0 m);
      most = omega arith;
    }

place_for : (s : Script) (before : List Item) (k m : ℕ) (rest : List ℕ) (b : Bool) → is_in k (sessions_in before) ≡ b → m ≤ length s.names → first_seen (sessions_in before) ≡ range_with_len 0 m → first_seen (sessions_in before ++ k ∷ rest) ≡ range_with_len 0 (length s.names) → IsPlace s before k m
place_for s before k m rest true o l seen all = old_place s before k m l seen o
place_for s before k m rest false o l seen all = new_place s before k m rest l seen o all

few_so_far : (a b all one : ℕ) → a ≡ b → all ≡ b + one → one ≡ 1 → all ≤ 100000 → a < 100000
few_so_far a b all one e f g h = omega arith

room : (s : Script) (f : Front) (before : List Item) (k : ℕ) (name : List ℕ) (c : Command) (later : List Item) → k < 64 → All IsShort (rounds_of (before ++ items.Run k c ∷ later)) → f.items ≡ before → with_turn f k name c ≡ Ok (record f { names = names_with f.names k name; items = f.items ++ items.Run k c ∷ [] })
room s f before k name c later l short e =
    let few : count_of k f.items < 100000 = few_so_far (count_of k f.items) (count_of k before) _ (cond (k == k) 1 0) (ap (count_of k) e) (turns_push (open_round before) k k c) (ap (λ b. cond {A = ℕ} b 1 0) (eqb-refl k)) (next_short [] before k c later short k) in
    let test : (nat_le 64 k || nat_le 100000 (count_of k f.items)) ≡ false = grind (arith, nat_tests) in
    rw test refl

command_step : (s : Script) (f : Front) (n : ℕ) (before : List Item) (k : ℕ) (c : Command) (later : List Item) (m : ℕ) → IsSound s → HasFront s f before (items.Run k c ∷ later) m → IsInRange c → GoesOn s f n before (items.Run k c) later
command_step s f n before k c later m sound h i =
    let name = name_at s.names k in
    let rest = sessions_in later in
    let all : first_seen (sessions_in before ++ k ∷ rest) ≡ range_with_len 0 (length s.names) = ap first_seen (sym (ap sessions_in h.split ∙ sessions_split before k c later)) ∙ sound.numbered in
    let within : k < length s.names = old_number k (length s.names) (sessions_in before ++ k ∷ rest) all (in_middle k (sessions_in before) rest) in
    let there : slice_get s.names k ≡ Some name = slice_get-get_or s.names k [] within ∙ ap Some (sym (unwrap_or-slice_get s.names k [])) in
    let named : is_name name ≡ true = subst (λ w. is_name w ≡ true) (sym (unwrap_or-slice_get s.names k [])) (All-get_or (λ w. is_name w ≡ true) s.names k [] within sound.names) in
    let p = place_for s before k m rest (is_in k (sessions_in before)) refl h.most h.seen all in
    let whole : place_of s.names name ≡ k = place_old s.names name k sound.distinct there in
    let low = p.low in
    let place : place_of f.names name ≡ k = ap (λ t. place_of t name) h.names ∙ prefix_of_front (λ other. not (same_name other name)) s.names m (omega arith) ∙ whole in
    let sessions = sound.sessions in
    let turn = room s (behind_header f) before k name c later (omega arith) (subst (λ t. All IsShort (rounds_of t)) h.split sound.commands) h.items in
    record {
      front = record f { late = true; names = names_with f.names k name; items = f.items ++ items.Run k c ∷ [] };
      known = p.known;
      read = command_read f n name c named i h.base ∙ ap (λ j. at_line n (with_turn (behind_header f) j name c)) place ∙ ap (at_line n) turn;
      header = refl;
      has = record {
        split = split_on before later s.items (items.Run k c) h.split;
        items = ap (λ t. t ++ items.Run k c ∷ []) h.items;
        names = ap (λ t. names_with t k name) h.names ∙ p.names name there;
        base = h.base;
        seen = ap first_seen (sessions_push before k c) ∙ p.seen;
        most = p.most;
      };
    }

item_step : (s : Script) (f : Front) (n : ℕ) (before : List Item) (x : Item) (later : List Item) (m : ℕ) → IsSound s → HasFront s f before (x ∷ later) m → IsItem x → GoesOn s f n before x later
item_step s f n before (items.Run k c) later m sound h i = command_step s f n before k c later m sound h i
item_step s f n before items.Round later m sound h i = directive_step s f n before directives.Round later m h tt refl
item_step s f n before items.Checkpoint later m sound h i = directive_step s f n before directives.Checkpoint later m h tt refl
item_step s f n before (items.Crash how) later m sound h i = directive_step s f n before (directives.Crash how) later m h tt refl
item_step s f n before (items.Dump what at size) later m sound h i = directive_step s f n before (directives.Dump what at size) later m h i refl

-- ---- all items

pub record ReadsItems (s : Script) (f : Front) (n : ℕ) (later : List Item) : Type 0 where
  pub front : Front
  pub read : read_lines f n (map spaced (map (item_words s.names) later) ++ [] ∷ []) ≡ Ok front
  pub header : front.header ≡ f.header
  pub names : front.names ≡ s.names
  pub items : front.items ≡ s.items

all_names : (s : Script) (before : List Item) (m : ℕ) → IsSound s → s.items ≡ before ++ [] → first_seen (sessions_in before) ≡ range_with_len 0 m → take m s.names ≡ s.names
all_names s before m sound split seen =
    let ranges : range_with_len 0 (length s.names) ≡ range_with_len 0 m = sym sound.numbered ∙ ap (λ t. first_seen (sessions_in t)) (split ∙ append-nil before) ∙ seen in
    let lengths : length s.names ≡ m = sym (length-range_with_len 0 (length s.names)) ∙ ap length ranges ∙ length-range_with_len 0 m in
    take_all m s.names (omega arith)

items_read : (s : Script) (f : Front) (n : ℕ) (before later : List Item) (m : ℕ) → IsSound s → HasFront s f before later m → AllByRecursion IsItem later → ReadsItems s f n later
items_read s f n before [] m sound h a = record {
  front = f;
  read = rw (nothing_read f n [] refl) refl;
  header = refl;
  names = h.names ∙ all_names s before m sound h.split h.seen;
  items = h.items ∙ sym (h.split ∙ append-nil before);
}
items_read s f n before (x ∷ later) m sound h a =
    let g = item_step s f n before x later m sound h a.0 in
    let r = items_read s g.front (n + 1) (before ++ x ∷ []) later g.known sound g.has a.1 in
    record {
      front = r.front;
      read = rw g.read r.read;
      header = r.header ∙ g.header;
      names = r.names;
      items = r.items;
    }

pub from_header : (s : Script) (f : Front) (n : ℕ) → IsSound s → is_base (base_of f.header) ≡ true → f.names ≡ [] → f.items ≡ [] → AllByRecursion IsItem s.items → ReadsItems s f n s.items
from_header s f n sound base names none a =
    items_read s f n [] s.items 0 sound (record { split = refl; items = none; names = names; base = base; seen = refl; most = omega arith }) a
