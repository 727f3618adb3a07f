-- What a line's reply tells of events, behind what those of the lines before do.
use Rattle.std.proofs.Common.{◌≡◌, ◌↔◌, ℕ, suc, zero, ◌+◌, ◌<◌, ◌≤◌, List, [], ◌∷◌, ◌++◌, Bool, false, length, get_or, take, refl, ap, sym, subst, ◌∙◌, arith, ⊎_elim, Option, Some, None, length-append, Result, Ok, Err}
use Rattle.std.specs.Global.{Vec}
use Rattle.std.specs.Prelude.{IfNone, IfOk, IfSome}
use Rattle.std.specs.List.{flat_map, slice_get}
use Rattle.std.proofs.lemmas.Bool.{cases_lt}
use Rattle.std.proofs.lemmas.List.Elements.{filter_map-append}
use Rattle.std.proofs.lemmas.Option.{same_Some}
use Rattle.tx_events.specs.declared.event.By.{By}
use Rattle.tx_events.specs.declared.event.Event.{Event}
use Rattle.tx_events.specs.Events.{by_of, events_of, given, given_by}
use Rattle.tx_model.specs.declared.report.Line.{Line}
use Rattle.tx_model.specs.declared.report.Step.{Step}
use Rattle.tx_model.specs.Lines.{stance}
use Rattle.tx_model.specs.Rounds.{lines_in}
use Rattle.tx_model.specs.Stance.{Stance}
use Rattle.command_events.specs.Told.{AreTold, IsToldNothing}
use Rattle.place_columns.specs.declared.lines.LineAt.{LineAt}
use Rattle.place_columns.specs.Lined.{lines_from}
use Rattle.place_columns.proofs.CountingLines.{count_next}
use Rattle.place_columns.proofs.Slots.{below_upto}
use Rattle.report_law.specs.Events.{StandsAt, lines_before}
use Rattle.report_law.specs.Steps.{HasFirst, Judged}
use Rattle.event_rules.specs.Lined.{AreLinesInOrder, events_in, number_at}
use Rattle.event_rules.specs.Told.{AreMarked, AreToldEvents, count_before}
use Rattle.event_rules.proofs.Standing.{by_at_line, in_order, within}
use Rattle.event_rules.proofs.Telling.{rank_counts}
use Rattle.reply_lines.specs.At.{AtLine, StandsThere, before_at, lines_at, rounds_at}

-- ---- what the line tells

get_of_front : {X : Type 0} (n k : ℕ) (xs : List X) (x : X) → slice_get (take n xs) k ≡ Some x → slice_get xs k ≡ Some x
get_of_front zero k [] x e = absurd cc
get_of_front zero k (y ∷ xs) x e = absurd cc
get_of_front (suc n) k [] x e = absurd cc
get_of_front (suc n) zero (y ∷ xs) x e = e
get_of_front (suc n) (suc k) (y ∷ xs) x e = get_of_front n k xs x e

-- an event is told in its turn by a line's reply where it stands so in this list
abbrev pub AreAllTold : Judged → List Line → Line → List Event → Type 0
AreAllTold j before l told = (k : ℕ) (e : Event) → (slice_get told k ≡ Some e) ↔ ((es : List Event) × HasFirst j before l es × (slice_get es k ≡ Some e))

told_list : (j : Judged) (before : List Line) (l : Line) (s : Stance) (own es : List Event) → s ≡ stance j.life.events before l.by.session → own ≡ events_of l.by j.life.events → AreTold l.by s l.command l.reply own es
    → HasFirst j before l es × AreAllTold j before l es
told_list j before l s own es standing events told =
    let t : AreTold l.by (stance j.life.events before l.by.session) l.command l.reply (events_of l.by j.life.events) es =
    subst (λ (h : List Event). AreTold l.by (stance j.life.events before l.by.session) l.command l.reply h es) events (subst (λ (x : Stance). AreTold l.by x l.command l.reply own es) standing told) in
    let has : HasFirst j before l es = (t.has, t.begin) in (
      has,
      λ k e. (
        λ at. (es, has, at),
        λ f. get_of_front (length f.0) k es e (subst (λ (xs : List Event). slice_get xs k ≡ Some e) (t.longest f.0 f.1.0 f.1.1) f.2),
      ),
    )

pub told_some : (j : Judged) (before : List Line) (l : Line) (s : Stance) (own : List Event) (o : Option (Vec Event)) (v : Vec Event) → s ≡ stance j.life.events before l.by.session → own ≡ events_of l.by j.life.events
    → o ≡ Some v → IfSome o (λ es. AreTold l.by s l.command l.reply own es.items) → HasFirst j before l v.items × AreAllTold j before l v.items
told_some j before l s own None v standing events is told = absurd cc
told_some j before l s own (Some w) v standing events is told =
    told_list j before l s own v.items standing events (subst (λ (x : Vec Event). AreTold l.by s l.command l.reply own x.items) (same_Some w v is) told)

pub told_none : (j : Judged) (before : List Line) (l : Line) (s : Stance) (own : List Event) (o : Option (Vec Event)) → s ≡ stance j.life.events before l.by.session → own ≡ events_of l.by j.life.events
    → o ≡ None → IfNone o (IsToldNothing l.by s l.command l.reply own) → ((es : List Event) → HasFirst j before l es → ⊥)
told_none j before l s own (Some w) standing events is none = absurd cc
told_none j before l s own None standing events is none =
    let t : IsToldNothing l.by (stance j.life.events before l.by.session) l.command l.reply (events_of l.by j.life.events) =
    subst (λ (h : List Event). IsToldNothing l.by (stance j.life.events before l.by.session) l.command l.reply h) events (subst (λ (x : Stance). IsToldNothing l.by x l.command l.reply own) standing none) in
    λ es has. t es has.0 has.1

pub none_told : (j : Judged) (before : List Line) (l : Line) → ((es : List Event) → HasFirst j before l es → ⊥) → AreAllTold j before l []
none_told j before l none = λ k e. (λ at. absurd cc, λ f. absurd (none f.0 f.1))

-- ---- the marks of one line more

-- a line's number tells its round and its place there
place_once : (steps : List Step) (r k q n : ℕ) (s t : Step) → slice_get steps r ≡ Some s → slice_get steps k ≡ Some t → q < length (lines_in s) → n < length (lines_in t)
    → length (flat_map lines_in (take r steps)) + q ≡ length (flat_map lines_in (take k steps)) + n → (r ≡ k) × (q ≡ n)
place_once [] r k q n s t a b l m e = absurd cc
place_once (x ∷ steps) zero zero q n s t a b l m e = (refl, omega arith)
place_once (x ∷ steps) zero (suc k) q n s t a b l m e =
    let same : length (lines_in x) ≡ length (lines_in s) = ap (λ (o : Step). length (lines_in o)) (same_Some x s a) in
    let size = length-append (lines_in x) (flat_map lines_in (take k steps)) in
    absurd (omega arith)
place_once (x ∷ steps) (suc r) zero q n s t a b l m e =
    let same : length (lines_in x) ≡ length (lines_in t) = ap (λ (o : Step). length (lines_in o)) (same_Some x t b) in
    let size = length-append (lines_in x) (flat_map lines_in (take r steps)) in
    absurd (omega arith)
place_once (x ∷ steps) (suc r) (suc k) q n s t a b l m e =
    let size = length-append (lines_in x) (flat_map lines_in (take r steps)) in
    let more = length-append (lines_in x) (flat_map lines_in (take k steps)) in
    let p = place_once steps r k q n s t a b l m (omega arith) in
    (ap (λ i. suc i) p.0, p.1)

-- the command of this number is the line's
its_line : (at : AtLine) (line : Line) (by : By) (s : StandsAt at.j by) → slice_get at.j.steps at.round ≡ Some at.step → slice_get (lines_at at) at.place ≡ Some line → number_at at.j by s ≡ length (rounds_at at) + at.place
    → (s.line ≡ line) × (lines_before at.j by s ≡ before_at at)
its_line at line by s told stands number =
    let steps = at.j.steps in
    let once = place_once steps s.round at.round s.place at.place s.step at.step s.told told (within (lines_in s.step) s.place s.line s.stands) (within (lines_in at.step) at.place line stands) number in
    let one : s.step ≡ at.step = same_Some s.step at.step (sym s.told ∙ ap (λ k. slice_get steps k) once.0 ∙ told) in
    let row : slice_get (lines_in s.step) s.place ≡ Some line = ap (λ (x : Step). slice_get (lines_in x) s.place) one ∙ ap (λ k. slice_get (lines_in at.step) k) once.1 ∙ stands in (
      same_Some s.line line (sym s.stands ∙ row),
      ap (λ k. flat_map lines_in (take k steps) ++ take s.place (lines_in s.step)) once.0
          ∙ ap (λ k. flat_map lines_in (take at.round steps) ++ take k (lines_in s.step)) once.1
          ∙ ap (λ (x : Step). flat_map lines_in (take at.round steps) ++ take at.place (lines_in x)) one,
    )

-- how many events are of one line more
next_count : (j : Judged) (by : By) (s : StandsAt j by) → AreLinesInOrder j → count_before j (number_at j by s + 1) ≡ count_before j (number_at j by s) + length (events_of by j.life.events)
next_count j by s order =
    let lines : List LineAt = lines_from 0 j.steps in
    let m : ℕ = number_at j by s in
    count_next m (events_in j).numbers ∙ ap (λ k. count_before j m + k) (rank_counts by_of lines m by j.life.events (in_order j order) (by_at_line j by s))

pub marked_more : (at : AtLine) (line : Line) (number : ℕ) (old new : List Bool) (own told : List Event) → StandsThere at number line → AreLinesInOrder at.j → own ≡ events_of line.by at.j.life.events
    → AreToldEvents at.j number old → AreAllTold at.j (before_at at) line told → AreMarked old new own told → AreToldEvents at.j (number + 1) new
marked_more at line number old new own told there order own_is before here marked =
    let j = at.j in
    let mine : StandsAt j line.by = record { round = at.round; step = at.step; told = there.told; place = at.place; line = line; stands = there.stands; its = refl } in
    let its_number : number ≡ number_at j line.by mine = there.number_is in
    let was : length old ≡ count_before j number = before.size in
    record {
      size =
          let more : count_before j (number + 1) ≡ count_before j number + length (events_of line.by j.life.events) =
          ap (λ k. count_before j (k + 1)) its_number ∙ next_count j line.by mine order ∙ ap (λ k. count_before j k + length (events_of line.by j.life.events)) (sym its_number) in
          let grown = marked.size in
          let size : length own ≡ length (events_of line.by j.life.events) = ap (λ (l : List Event). length l) own_is in
          omega arith;
      each = λ by s l rank e at_rank.
          ⊎_elim
          (λ (u : number_at j by s < number).
          let m : ℕ = number_at j by s in
          let next = next_count j by s order in
          let rises : count_before j (m + 1) ≤ count_before j number = below_upto (m + 1) number (events_in j).numbers (omega arith) in
          let few : rank < length (events_of by j.life.events) = within (events_of by j.life.events) rank e at_rank in
          let same : get_or new (count_before j m + rank) false ≡ get_or old (count_before j m + rank) false = marked.front (count_before j m + rank) (omega arith) in
          let both = before.each by s u rank e at_rank in (λ y. both.0 (sym same ∙ y), λ y. same ∙ both.1 y))
          (λ (u : number ≤ number_at j by s).
          let same : number_at j by s ≡ number = omega arith in
          let it = its_line at line by s there.told there.stands (same ∙ there.number_is) in
          let by_is : by ≡ line.by = sym s.its ∙ ap (λ (x : Line). x.by) it.0 in
          let its : slice_get own rank ≡ Some e = ap (λ (h : List Event). slice_get h rank) (own_is ∙ ap (λ (b : By). events_of b j.life.events) (sym by_is)) ∙ at_rank in
          let seam : count_before j (number_at j by s) + rank ≡ length old + rank = ap (λ k. count_before j k + rank) same ∙ ap (λ k. k + rank) (sym was) in
          let flag : get_or new (count_before j (number_at j by s) + rank) false ≡ get_or new (length old + rank) false = ap (λ k. get_or new k false) seam in
          let both = marked.each rank e its in
          let all : (slice_get told rank ≡ Some e) ↔ ((es : List Event) × HasFirst j (lines_before j by s) s.line es × (slice_get es rank ≡ Some e)) =
          subst (λ (t : List Line). (slice_get told rank ≡ Some e) ↔ ((es : List Event) × HasFirst j t s.line es × (slice_get es rank ≡ Some e))) (sym it.1)
          (subst (λ (x : Line). (slice_get told rank ≡ Some e) ↔ ((es : List Event) × HasFirst j (before_at at) x es × (slice_get es rank ≡ Some e))) (sym it.0) (here rank e)) in (
            λ y. all.0 (both.0 (sym flag ∙ y)),
            λ y. flag ∙ both.1 (all.1 y),
          ))
          (cases_lt (number_at j by s) number);
    }

-- ---- the ids that events give

pub given_more : (old new : List Event) (e : Event) (ids pushed : List ℕ) → ids ≡ given old → new ≡ old ++ e ∷ [] → pushed ≡ ids ++ given (e ∷ []) → pushed ≡ given new
given_more old new e ids pushed sofar more is = is ∙ ap (λ (t : List ℕ). t ++ given (e ∷ [])) sofar ∙ sym (filter_map-append given_by old (e ∷ [])) ∙ ap given (sym more)

pub if_ok : {X E : Type 0} (P Q : X → Type 0) (r : Result X E) → ((x : X) → P x → Q x) → IfOk r P → IfOk r Q
if_ok {X} {E} P Q (Ok x) f p = f x p
if_ok {X} {E} P Q (Err e) f p = p
