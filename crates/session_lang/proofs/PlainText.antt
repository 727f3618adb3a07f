-- The plain text of a script is read as it.
use Rattle.std.proofs.Common.{◌≡◌, ℕ, ◌<◌, ◌||◌, ◌==◌, List, [], ◌∷◌, true, Ok, refl, sym, ap, subst, ◌∙◌, length, map}
use Rattle.std.specs.List.{All, AllByRecursion}
use Rattle.std.proofs.lemmas.Bool.{or_right}
use Rattle.std.proofs.lemmas.List.Elements.{All-get_or}
use Rattle.std.proofs.lemmas.Option.{unwrap_or-slice_get}
use Rattle.tx_events.proofs.ListSteps.{eqb-refl}
use Rattle.tx_events.specs.Base.{IsBase}
use Rattle.tx_events.specs.declared.record.Counters.{Counters}
use Rattle.report_text.specs.Words.{name_at}
use Rattle.script_lines.specs.declared.directive.Directive.TheVariants as directives
use Rattle.script_lines.specs.declared.header.Header.{Header}
use Rattle.script_lines.specs.Header.{banks_of, base_of, is_base}
use Rattle.tx_events.specs.Names.{is_name}
use Rattle.script_lines.proofs.Bases.{base_passes}
use Rattle.session_lang.specs.declared.parser.reading.Front.{Front}
use Rattle.session_lang.specs.declared.script.Item.{Item}
use Rattle.session_lang.specs.declared.script.Item.TheVariants as items
use Rattle.session_lang.specs.declared.script.Script.{Script}
use Rattle.session_lang.specs.Lines.{lines_of}
use Rattle.session_lang.specs.Plain.{AreWords, IsItem, IsPlainText, header_onto, is_word, item_words}
use Rattle.session_lang.specs.Rounds.{sessions_in}
use Rattle.session_lang.specs.Script.{no_front, read_lines, read_script, script_of}
use Rattle.session_lang.proofs.PlainHeader.{front_of, header_are_words, header_lines_read}
use Rattle.session_lang.proofs.PlainItems.{command_are_words, directive_are_words, name_is_word}
use Rattle.session_lang.proofs.PlainLines.{plain_lines}
use Rattle.session_lang.proofs.PlainScript.{from_header}
use Rattle.session_lang.proofs.SeenLemmas.{is_in, old_number}
use Rattle.session_lang.proofs.WholeLemmas.{whole_read}

named : (names : List (List ℕ)) (k : ℕ) → All (λ name. is_name name ≡ true) names → k < length names → is_word (name_at names k) ≡ true
named names k all l =
    name_is_word (name_at names k) (subst (λ w. is_name w ≡ true) (sym (unwrap_or-slice_get names k [])) (All-get_or (λ w. is_name w ≡ true) names k [] l all))

items_are_words : (names : List (List ℕ)) (script : List Item) → All (λ name. is_name name ≡ true) names → ((k : ℕ) → is_in k (sessions_in script) ≡ true → k < length names) → AllByRecursion IsItem script → AllByRecursion AreWords (map (item_words names) script)
items_are_words names [] all f a = tt
items_are_words names (items.Run s c ∷ script) all f a = (
  (named names s all (f s (ap (λ b. b || is_in s (sessions_in script)) (eqb-refl s))), command_are_words c a.0),
  items_are_words names script all (λ k e. f k (or_right (k == s) (is_in k (sessions_in script)) e)) a.1,
)
items_are_words names (items.Round ∷ script) all f a = (directive_are_words directives.Round tt, items_are_words names script all f a.1)
items_are_words names (items.Checkpoint ∷ script) all f a = (directive_are_words directives.Checkpoint tt, items_are_words names script all f a.1)
items_are_words names (items.Crash how ∷ script) all f a = (directive_are_words (directives.Crash how) tt, items_are_words names script all f a.1)
items_are_words names (items.Dump what at size ∷ script) all f a = (directive_are_words (directives.Dump what at size) a.0, items_are_words names script all f a.1)

same_script : (s : Script) (f : Front) (h : Header) → f.header ≡ h → s.base ≡ base_of h → s.banks ≡ banks_of h → f.names ≡ s.names → f.items ≡ s.items → script_of f ≡ s
same_script s f h e b k n i =
    let make : Counters → ℕ → List (List ℕ) → List Item → Script = λ c m names script. record { base = c; banks = m; names = names; items = script } in
    ap (λ c. make c (banks_of f.header) f.names f.items) (ap base_of e ∙ sym b) ∙ ap (λ m. make s.base m f.names f.items) (ap banks_of e ∙ sym k)
    ∙ ap (λ names. make s.base s.banks names f.items) n ∙ ap (λ script. make s.base s.banks s.names script) i

pub plain_text_read : (h : Header) (s : Script) (bytes : List ℕ) → IsPlainText h s bytes → read_script bytes ≡ Ok s
plain_text_read h s bytes p =
    let body = map (item_words s.names) s.items in
    let words = items_are_words s.names s.items p.sound.names (λ k e. old_number k (length s.names) (sessions_in s.items) p.sound.numbered e) p.items in
    let lines = ap lines_of p.text ∙ plain_lines (λ (ws : List (List ℕ)). ws) (header_onto h body) (header_are_words h body p.header words) in
    let base : is_base (base_of h) ≡ true = base_passes (base_of h) (subst IsBase p.base p.sound.base) in
    let front = header_lines_read h body ([] ∷ []) p.header in
    let rest = from_header s (front_of h front.end) front.number p.sound base refl refl p.items in
    let read = ap (read_lines no_front 1) lines ∙ front.read ∙ rest.read in
    let based : true ≡ is_base (base_of rest.front.header) = sym (ap (λ j. is_base (base_of j)) rest.header ∙ base) in
    whole_read bytes rest.front true p.size read based refl ∙ ap Ok (same_script s rest.front h rest.header p.base p.banks rest.names rest.items)
