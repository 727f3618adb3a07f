-- Events are printed from the last ones on.
use Rattle.std.proofs.Common.{List, [], ap, append-nil, append_assoc, drop, length, sym, take, ℕ, ◌++◌, ◌-◌, ◌∙◌, ◌∷◌, ◌≡◌}
use Rattle.std.proofs.Math.Seq.{take-length}
use Rattle.std.proofs.lemmas.Grind.{flat_map-append}
use Rattle.std.proofs.lemmas.List.{length-drop, take-append-drop}
use Rattle.std.specs.List.{flat_map}
use Rattle.report_text.specs.EventText.{event_words}
use Rattle.report_text.specs.Words.{line_text}
use Rattle.tx_events.specs.declared.event.Event.{Event}
use Rattle.text_pieces.proofs.Printed.{lines_flat}
use Rattle.text_pieces.specs.Lines.{events_text, lines_text}

-- texts, the first one of which is the last
abbrev pub back_text : List (List ℕ) → List ℕ
back_text [] = []
back_text (t ∷ ts) = back_text ts ++ t

pub back_more : (ts : List (List ℕ)) (t : List ℕ) → back_text (ts ++ t ∷ []) ≡ t ++ back_text ts
back_more [] t = sym (append-nil t)
back_more (x ∷ ts) t = ap (λ (u : List ℕ). u ++ x) (back_more ts t) ∙ append_assoc t (back_text ts) x

events_cut : (names : List (List ℕ)) (from : ℕ) (events : List Event) → events_text names (take from events) ++ events_text names (drop from events) ≡ events_text names events
events_cut names from events =
    sym (flat_map-append (λ e. line_text (event_words names e)) (take from events) (drop from events))
    ∙ ap (λ (es : List Event). events_text names es) (take-append-drop from events)

-- the last events, as a slice has them
pub last_events : (events same : List Event) (from : ℕ) → same ≡ events → take (length same - from) (drop from same) ≡ drop from events
last_events events same from e =
    ap (λ n. take n (drop from same)) (sym (length-drop from same)) ∙ take-length (drop from same) ∙ ap (λ (es : List Event). drop from es) e

-- a text of events
pub printed_alone : (names : List (List ℕ)) (events : List Event) (none text : List ℕ) → none ≡ [] → text ≡ none ++ lines_text (λ n e. line_text (event_words names e)) 0 events → text ≡ events_text names events
printed_alone names events none text e f =
    f ∙ ap (λ (t : List ℕ). t ++ lines_text (λ n x. line_text (event_words names x)) 0 events) e ∙ lines_flat (λ x. line_text (event_words names x)) 0 events

-- the last events are printed, and go
pub given_away : (names : List (List ℕ)) (events rest : List Event) (from : ℕ) (text all : List ℕ) (behind more : List (List ℕ)) → rest ≡ take from events → text ≡ events_text names (drop from events)
    → more ≡ behind ++ text ∷ [] → events_text names events ++ back_text behind ≡ all → events_text names rest ++ back_text more ≡ all
given_away names events rest from text all behind more e f g told =
    ap (λ (t : List ℕ). events_text names rest ++ t) (ap back_text g ∙ back_more behind text)
    ∙ sym (append_assoc (events_text names rest) text (back_text behind))
    ∙ ap (λ (t : List ℕ). t ++ back_text behind)
    (ap (λ (es : List Event). events_text names es ++ text) e ∙ ap (λ (t : List ℕ). events_text names (take from events) ++ t) f ∙ events_cut names from events)
    ∙ told

-- the first events are printed behind what stands
pub first_printed : (names : List (List ℕ)) (events : List Event) (old new all : List ℕ) (behind : List (List ℕ)) → new ≡ old ++ lines_text (λ n e. line_text (event_words names e)) 0 events
    → events_text names events ++ back_text behind ≡ all → new ++ back_text behind ≡ old ++ all
first_printed names events old new all behind e told =
    ap (λ (t : List ℕ). t ++ back_text behind) (e ∙ ap (λ (t : List ℕ). old ++ t) (lines_flat (λ x. line_text (event_words names x)) 0 events))
    ∙ append_assoc old (events_text names events) (back_text behind) ∙ ap (λ (t : List ℕ). old ++ t) told

-- the next text is taken
pub next_taken : (self new text all : List ℕ) (behind less : List (List ℕ)) → behind ≡ less ++ text ∷ [] → new ≡ self ++ text → self ++ back_text behind ≡ all → new ++ back_text less ≡ all
next_taken self new text all behind less e f told =
    ap (λ (t : List ℕ). t ++ back_text less) f ∙ append_assoc self text (back_text less)
    ∙ ap (λ (t : List ℕ). self ++ t) (sym (ap back_text e ∙ back_more less text)) ∙ told
