-- What it takes that a line may stand, and why none may.
use Rattle.std.proofs.Common.{Bor, Result, Ok, Err, ◌≡◌, ℕ, ◌+◌, ◌-◌, ◌≤◌, ◌<◌, ◌^◌, List, ◌++◌, Bool, true, false, Option, Some, None, refl, sym, ap, ◌∙◌, subst, arith, length, take, drop}
use Rattle.std.specs.Str.{bytes_eq}
use Rattle.std.proofs.lemmas.Bool.{false≢true}
use Rattle.std.proofs.lemmas.Slice.Eq.{bytes_eq-Decides}
use Rattle.tx_events.specs.Events.{by_of}
use Rattle.tx_events.specs.declared.event.Event.{Event}
use Rattle.tx_events.specs.declared.event.Event.TheVariants as events
use Rattle.tx_events.specs.declared.multi.MultiEvent.{MultiEvent}
use Rattle.tx_events.specs.declared.multi.MultiEvent.TheVariants as multis
use Rattle.tx_events.specs.declared.record.Rec.{Rec}
use Rattle.tx_model.specs.declared.report.How.{How}
use Rattle.report_text.specs.Words.{name_at}
use Rattle.tx_events.specs.Multis.{multi_by}
use Rattle.report_text.specs.EventText.{event_rest, event_word, by_words, multi_event_rest, multi_event_word}
use Rattle.report_text.specs.ReportText.{crash_text, end_text, title_text}
use Rattle.report_words.specs.Words.{behind}
use Rattle.report_lines.specs.declared.life.Start.{Start}
use Rattle.report_lines.specs.declared.life.LogHead.{LogHead}
use Rattle.report_words.specs.Fits.{FitsEvent, FitsMultiEvent, FitsRecord}
use Rattle.report_lines.specs.Fits.{FitsLog, FitsStart}
use Rattle.report_words.specs.Texts.{IsLineOf, event_line, multi_line, record_line}
use Rattle.report_lines.specs.Texts.{log_line, start_line}
use Rattle.report_lines.proofs.AgainEvents.{event_are_words, multi_event_are_words}
use Rattle.report_lines.proofs.Apart.{some_same}
use Rattle.std.specs.Result.{IsErrAnd, IfErr}
use Rattle.report_words.specs.Reading.{Gives, IsOnly}
use Rattle.report_words.specs.declared.unread.Unread.{Unread}
use Rattle.report_words.specs.declared.unread.Unread.TheVariants as unreads
use Rattle.report_words.proofs.Again.{line_again}
use Rattle.report_read.specs.Item.{Item}
use Rattle.report_read.specs.Item as items
use Rattle.report_read.specs.Grammar.{Follows, Rule, after, item_line, may_stand, multis_line, note}
use Rattle.report_read.specs.Taking.{AreFew, CannotNote, IsRefused, IsTaken, second_word}
use Rattle.report_read.specs.declared.told.Stage.TheVariants as stages
use Rattle.report_read.specs.declared.told.Told.{Told}
use Rattle.report_read.proofs.LineWords.{item_words, line_words}
use Rattle.report_read.proofs.Runs.{closed_ends}
use Rattle.report_read.proofs.Same.{event_second, multi_second, stage_group, stands_in}

abbrev Names : Type 0
Names = List (List ℕ)

-- the words of a line that follows the byte before it
abbrev pub words_in : List ℕ → List (List ℕ)
words_in bytes = behind (take (length bytes - 1) bytes)

-- no line may stand that is this one
abbrev pub NoneStands : Told → List ℕ → Type 0
NoneStands t line = (x : Item) (m : Told) → Follows t x m → line ≡ item_line m.names x → ⊥

-- ---- where the stage leaves one kind of line, or two

pub none_opening : (t : Told) (line : List ℕ) → t.stage ≡ stages.Opening → (line ≡ title_text → ⊥) → NoneStands t line
none_opening t line s d items.title m f e = d e
none_opening t line s d x m f e = let g = stands_in x t.stage f.stands ∙ ap stage_group s in absurd (omega arith)

pub none_between : (t : Told) (line : List ℕ) → t.stage ≡ stages.Between → ((r : Start) → IsLineOf FitsStart (start_line (length t.lives + 1)) line r → ⊥) → NoneStands t line
none_between t line s d (items.life n r) m f e = d r (record { fit = f.rule.3; text = e ∙ ap (λ k. start_line k r) f.rule.1 })
none_between t line s d x m f e = let g = stands_in x t.stage f.stands ∙ ap stage_group s in absurd (omega arith)

pub none_closed : (t : Told) (line : List ℕ) → t.stage ≡ stages.Closed → NoneStands t line
none_closed t line s x m f e = closed_ends t x m s f

pub none_history : (t : Told) (line : List ℕ) → t.stage ≡ stages.History → (line ≡ multis_line → ⊥) → ((e : Event) (names : Names) → Rule t (items.event e) names → line ≡ event_line names e → ⊥) → NoneStands t line
none_history t line s d n (items.event v) m f e = n v m.names f.rule e
none_history t line s d n items.multis m f e = d e
none_history t line s d n x m f e = let g = stands_in x t.stage f.stands ∙ ap stage_group s in absurd (omega arith)

pub none_multis : (t : Told) (line : List ℕ) → t.stage ≡ stages.Multis → ((l : LogHead) → IsLineOf FitsLog log_line line l → ⊥) → ((e : MultiEvent) (names : Names) → Rule t (items.multi e) names → line ≡ multi_line names e → ⊥) → NoneStands t line
none_multis t line s d n (items.multi v) m f e = n v m.names f.rule e
none_multis t line s d n (items.log l) m f e = d l (record { fit = f.rule.1; text = e })
none_multis t line s d n x m f e = let g = stands_in x t.stage f.stands ∙ ap stage_group s in absurd (omega arith)

pub none_log : (t : Told) (line : List ℕ) → t.stage ≡ stages.Log → (line ≡ end_text → ⊥) → ((h : How) → line ≡ crash_text (Some h) → ⊥) → ((r : Rec) → t.start.from + length t.recs < 2 ^ 64 → IsLineOf (FitsRecord (t.start.from + length t.recs)) (record_line (t.start.from + length t.recs)) line r → ⊥) → NoneStands t line
none_log t line s d c n (items.logged k r) m f e =
    let l = f.rule.2 in let q = f.rule.1 in
    n r (omega arith) (record { fit = subst (λ i. FitsRecord i r) f.rule.1 f.rule.3; text = e ∙ ap (λ i. record_line i r) f.rule.1 })
none_log t line s d c n (items.crash h) m f e = c h e
none_log t line s d c n items.last m f e = d e
none_log t line s d c n x m f e = let g = stands_in x t.stage f.stands ∙ ap stage_group s in absurd (omega arith)

-- ---- events

event_names : (t : Told) (bytes : List ℕ) (e : Event) (names : Names) → 1 ≤ length bytes → Rule t (items.event e) names → drop 1 bytes ≡ event_line names e → second_word (words_in bytes) ≡ Some (name_at names (by_of e).session)
event_names t bytes e names l r g = ap second_word (line_words t (items.event e) names bytes l r g) ∙ event_second names e

some_none : (w : List ℕ) → Some w ≡ None → ⊥
some_none w e = absurd cc

pub event_unnamed : (t : Told) (bytes : List ℕ) → 1 ≤ length bytes → second_word (words_in bytes) ≡ None → (e : Event) (names : Names) → Rule t (items.event e) names → drop 1 bytes ≡ event_line names e → ⊥
event_unnamed t bytes l n e names r g = some_none (name_at names (by_of e).session) (sym (event_names t bytes e names l r g) ∙ n)

event_noted : (t : Told) (bytes w : List ℕ) → 1 ≤ length bytes → second_word (words_in bytes) ≡ Some w → (e : Event) (names : Names) → Rule t (items.event e) names → drop 1 bytes ≡ event_line names e → names ≡ note t.names w
event_noted t bytes w l n e names r g = r.0.noted ∙ ap (note t.names) (some_same _ _ (sym (event_names t bytes e names l r g) ∙ n))

pub event_cannot : (t : Told) (bytes w : List ℕ) → 1 ≤ length bytes → second_word (words_in bytes) ≡ Some w → (AreFew (note t.names w) → ⊥) → (e : Event) (names : Names) → Rule t (items.event e) names → drop 1 bytes ≡ event_line names e → ⊥
event_cannot t bytes w l n c e names r g = c (subst (λ (q : Names). AreFew q) (event_noted t bytes w l n e names r g) (record { are = r.0.are; few = r.0.few }))

pub event_unread : (t : Told) (bytes w : List ℕ) (noted : Names) → 1 ≤ length bytes → second_word (words_in bytes) ≡ Some w → noted ≡ note t.names w → ((e : Event) → IsLineOf (FitsEvent noted) (event_line noted) (drop 1 bytes) e → ⊥) → (e : Event) (names : Names) → Rule t (items.event e) names → drop 1 bytes ≡ event_line names e → ⊥
event_unread t bytes w noted l n q d e names r g =
    let same : names ≡ noted = event_noted t bytes w l n e names r g ∙ sym q in
    d e (record { fit = subst (λ (k : Names). FitsEvent k e) same r.1; text = g ∙ ap (λ k. event_line k e) same })

pub event_taken : (t : Told) (bytes w : List ℕ) (noted : Names) (e : Event) (m : Told) → t.stage ≡ stages.History → 1 ≤ length bytes → second_word (words_in bytes) ≡ Some w → noted ≡ note t.names w → AreFew noted → IsLineOf (FitsEvent noted) (event_line noted) (drop 1 bytes) e → (FitsEvent noted e → (by_of e).session < length noted) → m ≡ record (after t (items.event e)) { names = noted } → IsTaken t m (drop 1 bytes)
event_taken t bytes w noted e m s l n q f i within g =
    let ws : words_in bytes ≡ item_words noted (items.event e) = line_again bytes (event_word e) (by_words noted (by_of e) ++ event_rest e) l (event_are_words noted e f.are i.fit) i.text in
    let named : w ≡ name_at noted (by_of e).session = some_same _ _ (sym n ∙ ap second_word ws ∙ event_second noted e) in
    let names : m.names ≡ noted = ap (λ (k : Told). k.names) g in
    record {
      item = items.event e;
      follows = record {
        stands = ap (may_stand (items.event e)) s;
        rule = subst (λ (k : Names). Rule t (items.event e) k) (sym names) (record { within = within i.fit; noted = q ∙ ap (note t.names) named; few = f.few; are = f.are }, i.fit);
        told = g ∙ ap (λ k. record (after t (items.event e)) { names = k }) (sym names);
      };
      text = i.text ∙ ap (λ k. event_line k e) (sym names);
    }

-- ---- multixact events

multi_names : (t : Told) (bytes : List ℕ) (e : MultiEvent) (names : Names) → 1 ≤ length bytes → Rule t (items.multi e) names → drop 1 bytes ≡ multi_line names e → second_word (words_in bytes) ≡ Some (name_at names (multi_by e).session)
multi_names t bytes e names l r g = ap second_word (line_words t (items.multi e) names bytes l r g) ∙ multi_second names e

pub multi_unnamed : (t : Told) (bytes : List ℕ) → 1 ≤ length bytes → second_word (words_in bytes) ≡ None → (e : MultiEvent) (names : Names) → Rule t (items.multi e) names → drop 1 bytes ≡ multi_line names e → ⊥
multi_unnamed t bytes l n e names r g = some_none (name_at names (multi_by e).session) (sym (multi_names t bytes e names l r g) ∙ n)

multi_noted : (t : Told) (bytes w : List ℕ) → 1 ≤ length bytes → second_word (words_in bytes) ≡ Some w → (e : MultiEvent) (names : Names) → Rule t (items.multi e) names → drop 1 bytes ≡ multi_line names e → names ≡ note t.names w
multi_noted t bytes w l n e names r g = r.0.noted ∙ ap (note t.names) (some_same _ _ (sym (multi_names t bytes e names l r g) ∙ n))

pub multi_cannot : (t : Told) (bytes w : List ℕ) → 1 ≤ length bytes → second_word (words_in bytes) ≡ Some w → (AreFew (note t.names w) → ⊥) → (e : MultiEvent) (names : Names) → Rule t (items.multi e) names → drop 1 bytes ≡ multi_line names e → ⊥
multi_cannot t bytes w l n c e names r g = c (subst (λ (q : Names). AreFew q) (multi_noted t bytes w l n e names r g) (record { are = r.0.are; few = r.0.few }))

pub multi_unread : (t : Told) (bytes w : List ℕ) (noted : Names) → 1 ≤ length bytes → second_word (words_in bytes) ≡ Some w → noted ≡ note t.names w → ((e : MultiEvent) → IsLineOf (FitsMultiEvent noted) (multi_line noted) (drop 1 bytes) e → ⊥) → (e : MultiEvent) (names : Names) → Rule t (items.multi e) names → drop 1 bytes ≡ multi_line names e → ⊥
multi_unread t bytes w noted l n q d e names r g =
    let same : names ≡ noted = multi_noted t bytes w l n e names r g ∙ sym q in
    d e (record { fit = subst (λ (k : Names). FitsMultiEvent k e) same r.1; text = g ∙ ap (λ k. multi_line k e) same })

pub multi_taken : (t : Told) (bytes w : List ℕ) (noted : Names) (e : MultiEvent) (m : Told) → t.stage ≡ stages.Multis → 1 ≤ length bytes → second_word (words_in bytes) ≡ Some w → noted ≡ note t.names w → AreFew noted → IsLineOf (FitsMultiEvent noted) (multi_line noted) (drop 1 bytes) e → (FitsMultiEvent noted e → (multi_by e).session < length noted) → m ≡ record (after t (items.multi e)) { names = noted } → IsTaken t m (drop 1 bytes)
multi_taken t bytes w noted e m s l n q f i within g =
    let ws : words_in bytes ≡ item_words noted (items.multi e) = line_again bytes (multi_event_word e) (by_words noted (multi_by e) ++ multi_event_rest e) l (multi_event_are_words noted e f.are i.fit) i.text in
    let named : w ≡ name_at noted (multi_by e).session = some_same _ _ (sym n ∙ ap second_word ws ∙ multi_second noted e) in
    let names : m.names ≡ noted = ap (λ (k : Told). k.names) g in
    record {
      item = items.multi e;
      follows = record {
        stands = ap (may_stand (items.multi e)) s;
        rule = subst (λ (k : Names). Rule t (items.multi e) k) (sym names) (record { within = within i.fit; noted = q ∙ ap (note t.names) named; few = f.few; are = f.are }, i.fit);
        told = g ∙ ap (λ k. record (after t (items.multi e)) { names = k }) (sym names);
      };
      text = i.text ∙ ap (λ k. multi_line k e) (sym names);
    }

-- ---- lines without a name

pub is_text : (line text : List ℕ) (b : Bool) → b ≡ bytes_eq line text → b ≡ true → line ≡ text
is_text line text b e f = (bytes_eq-Decides line text).0 (sym e ∙ f)

pub not_text : (line text : List ℕ) (b : Bool) → b ≡ bytes_eq line text → b ≡ false → line ≡ text → ⊥
not_text line text b e f g = false≢true (sym f ∙ e ∙ (bytes_eq-Decides line text).1 g)

pub plain_taken : (t : Told) (x : Item) (m : Told) (line : List ℕ) → may_stand x t.stage ≡ true → Rule t x t.names → line ≡ item_line t.names x → (after t x).names ≡ t.names → m ≡ after t x → IsTaken t m line
plain_taken t x m line s r e n g =
    let names : m.names ≡ t.names = ap (λ (k : Told). k.names) g ∙ n in
    record {
      item = x;
      follows = record {
        stands = s;
        rule = subst (λ (k : Names). Rule t x k) (sym names) r;
        told = g ∙ ap (λ k. record (after t x) { names = k }) (n ∙ sym names);
      };
      text = e ∙ ap (λ k. item_line k x) (sym names);
    }

-- an answer that is handed on
pub if_err : {X E : Type 0} (r : Result X E) (P Q : E → Type 0) → IsErrAnd r Q → ((e : E) → Q e → P e) → IfErr r P
if_err (Ok x) P Q a f = tt
if_err (Err e) P Q a f = f e a

-- a form that is none; want of memory says nothing
pub refuse : (u : Unread) (t : Told) (line : List ℕ) → (u ≡ unreads.Form → NoneStands t line) → IsRefused u t line
refuse unreads.Form t line f = f refl
refuse unreads.Memory t line f = tt

pub cannot : (u : Unread) (names : Names) (w : List ℕ) → u ≡ unreads.Form → CannotNote u names w → AreFew (note names w) → ⊥
cannot unreads.Form names w e c = c
cannot unreads.Memory names w e c = absurd cc

pub unread_none : {X : Type 0} (u : Unread) (x : X) → u ≡ unreads.Form → IsOnly {X = X} (Err u) x → ⊥
unread_none unreads.Form x e o = o
unread_none unreads.Memory x e o = absurd cc

pub word_none : (u : Unread) (read : Option (List ℕ)) → u ≡ unreads.Form → Gives {X = Bor (List ℕ)} {Y = List ℕ} (λ w. w.now) (Err u) read → read ≡ None
word_none unreads.Form read e g = g
word_none unreads.Memory read e g = absurd cc

pub event_within : (names : Names) (e : Event) → FitsEvent names e → (by_of e).session < length names
event_within names (events.Id by id) f = f.0.session
event_within names _ f = f.0.session

pub multi_within : (names : Names) (e : MultiEvent) → FitsMultiEvent names e → (multi_by e).session < length names
multi_within names (multis.Gen by multi offset members) f = f.0.session
multi_within names _ f = f.0.session

pub none_some : {X : Type 0} (x : X) → (◌≡◌ {A = Option X} None (Some x)) → ⊥
none_some x e = absurd cc

pub if_err_too : {X E : Type 0} (r : Result X E) (P Q : E → Type 0) → IfErr r Q → ((e : E) → Q e → P e) → IfErr r P
if_err_too (Ok x) P Q a f = tt
if_err_too (Err e) P Q a f = f e a

pub refused : (u : Unread) (t : Told) (line : List ℕ) → u ≡ unreads.Form → IsRefused u t line → NoneStands t line
refused unreads.Form t line e r = r
refused unreads.Memory t line e r = absurd cc
