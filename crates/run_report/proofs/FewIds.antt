-- A life gives no more ids than its commands made levels.
use Rattle.std.proofs.Common.{◌≡◌, ℕ, ◌+◌, ◌≤◌, ◌==◌, Bool, true, false, cond, List, [], ◌∷◌, ◌++◌, refl, sym, ap, subst, ◌∙◌, arith, length, map, append-nil, eqb-true, ◌||◌}
use Rattle.std.proofs.lemmas.List.Sums.{sum_by-append}
use Rattle.std.specs.List.{AllByRecursion, count_by, filter, flat_map, sum_by}
use Rattle.tx_events.specs.declared.event.Event.{Event}
use Rattle.tx_events.specs.declared.event.Event.TheVariants as events
use Rattle.tx_events.specs.Events.{events_of, given}
use Rattle.tx_events.specs.Places.{EachPlace, first_seen}
use Rattle.tx_events.proofs.ListSteps.{eqb-refl}
use Rattle.tx_model.specs.declared.report.Line.{Line}
use Rattle.tx_model.specs.declared.report.Step.{Step}
use Rattle.tx_model.specs.Lines.{is_line_of, stance}
use Rattle.tx_model.specs.Replies.{RoundSpan}
use Rattle.tx_model.specs.Rounds.{lines_in}
use Rattle.tx_model.specs.Stance.{lacking, nothing_yet, stance_from}
use Rattle.tx_model.proofs.LineGrowth.{stance_push}
use Rattle.life_law.specs.Commands.{makes_level}
use Rattle.life_law.specs.Facts.{Facts}
use Rattle.life_law.specs.Lines.{IsLawfulLine, IsLawfulRound}
use Rattle.life_law.proofs.IdSteps.{bounds_of}
use Rattle.session_lang.proofs.SeenLemmas.{is_in}
use Rattle.script_gen.specs.Counts.{gives_id}
use Rattle.run_law.proofs.PartSums.{count_cons, parts_sum, seen_once, sum_less}
use Rattle.run_report.proofs.Walk.{by_line, own_push}

abbrev ids_of : List Event → Line → ℕ
ids_of h l = length (given (events_of l.by h))

abbrev level_of : Line → ℕ
level_of l = cond (makes_level l.command) 1 0

-- of one session: its ids and the levels that lack one are no more than the levels that it made
record AreFew (f : Facts) (k : ℕ) (lines : List Line) : Type 0 where
  few : sum_by (ids_of f.events) (filter (is_line_of k) lines) + lacking (stance f.events lines k).levels ≤ sum_by level_of (filter (is_line_of k) lines)

sum_last : {X : Type 0} (w : X → ℕ) (xs : List X) (x : X) → sum_by w (xs ++ x ∷ []) ≡ sum_by w xs + w x
sum_last w xs x = let a = sum_by-append w xs (x ∷ []) in omega arith

own_few : (f : Facts) (before : List Line) (l : Line) (round multis : RoundSpan) → AreFew f l.by.session before → IsLawfulLine f round multis before l → AreFew f l.by.session (before ++ l ∷ [])
own_few f before l round multis a lawful =
    let k = l.by.session in
    let own = filter (is_line_of k) before in
    let cut : filter (is_line_of k) (before ++ l ∷ []) ≡ own ++ l ∷ [] = own_push k before l true (eqb-refl k) in
    let ids = ap (sum_by (ids_of f.events)) cut ∙ sum_last (ids_of f.events) own l in
    let made = ap (sum_by level_of) cut ∙ sum_last level_of own l in
    let bound = bounds_of l.by l.by.command (stance f.events before k) l.command l.reply (events_of l.by f.events) lawful.events in
    let left = ap (λ s. lacking s.levels) (stance_push f.events before l) in
    let old = a.few in
    record { few = omega arith }

other_few : (f : Facts) (k : ℕ) (before : List Line) (l : Line) → is_line_of k l ≡ false → AreFew f k before → AreFew f k (before ++ l ∷ [])
other_few f k before l e a =
    let same : filter (is_line_of k) (before ++ l ∷ []) ≡ filter (is_line_of k) before = own_push k before l false e ∙ append-nil (filter (is_line_of k) before) in
    record { few = subst (λ own. sum_by (ids_of f.events) own + lacking (stance_from nothing_yet f.events own).levels ≤ sum_by level_of own) (sym same) a.few }

next_few : (f : Facts) (k : ℕ) (before : List Line) (l : Line) (round multis : RoundSpan) → AreFew f k before → IsLawfulLine f round multis before l → AreFew f k (before ++ l ∷ [])
next_few f k before l round multis a lawful = step (is_line_of k l) refl
  where
    step : (b : Bool) → is_line_of k l ≡ b → AreFew f k (before ++ l ∷ [])
    step true e =
        let own : l.by.session ≡ k = eqb-true l.by.session k e in
        subst (λ k. AreFew f k (before ++ l ∷ [])) own (own_few f before l round multis (subst (λ k. AreFew f k before) (sym own) a) lawful)
    step false e = other_few f k before l e a

session_few : (f : Facts) (k : ℕ) (steps : List Step) → EachPlace steps (λ before step. IsLawfulRound f (flat_map lines_in before) (lines_in step)) → AreFew f k (flat_map lines_in steps)
session_few f k steps each = by_line f (AreFew f k) (record { few = omega arith }) (next_few f k) steps each

-- ---- all sessions

abbrev sessions_of : List Line → List ℕ
sessions_of lines = map (λ l. l.by.session) lines

each_once : (ss : List ℕ) (lines : List Line) → ((z : ℕ) → is_in z (sessions_of lines) ≡ true → count_by (λ s. z == s) ss ≡ 1) → AllByRecursion (λ l. count_by (λ s. l.by.session == s) ss ≡ 1) lines
each_once ss [] f = tt
each_once ss (l ∷ lines) f =
    (f l.by.session (ap (λ b. b || is_in l.by.session (sessions_of lines)) (eqb-refl l.by.session)), each_once ss lines (λ z i. f z (later z (z == l.by.session) i)))
  where
    later : (z : ℕ) (b : Bool) → is_in z (sessions_of lines) ≡ true → b || is_in z (sessions_of lines) ≡ true
    later z true i = refl
    later z false i = i

pub lines_few : (f : Facts) (steps : List Step) → EachPlace steps (λ before step. IsLawfulRound f (flat_map lines_in before) (lines_in step)) → sum_by (ids_of f.events) (flat_map lines_in steps) ≤ sum_by level_of (flat_map lines_in steps)
lines_few f steps each =
    let lines = flat_map lines_in steps in
    let ss = first_seen (sessions_of lines) in
    let one = each_once ss lines (λ z i. seen_once z (sessions_of lines) i) in
    let ids = parts_sum (ids_of f.events) (λ (l : Line) s. l.by.session == s) ss lines one in
    let made = parts_sum level_of (λ (l : Line) s. l.by.session == s) ss lines one in
    let less = sum_less (λ s. sum_by (ids_of f.events) (filter (is_line_of s) lines)) (λ s. sum_by level_of (filter (is_line_of s) lines)) ss (λ s. let a = (session_few f s steps each).few in omega arith) in
    omega arith

-- the ids of a history are its events that give one
pub given_count : (h : List Event) → length (given h) ≡ count_by gives_id h
given_count [] = refl
given_count (e ∷ h) = let c = count_cons gives_id e h in let i = given_count h in one e c i
  where
    one : (e : Event) → count_by gives_id (e ∷ h) ≡ cond (gives_id e) 1 0 + count_by gives_id h → length (given h) ≡ count_by gives_id h → length (given (e ∷ h)) ≡ count_by gives_id (e ∷ h)
    one (events.Id by id) c i = omega arith
    one (events.Sub by parent id) c i = omega arith
    one (events.Undo by id) c i = omega arith
    one (events.Commit by top) c i = omega arith
    one (events.Abort by top) c i = omega arith
    one (events.Snap name by) c i = omega arith
    one (events.SnapDrop name by) c i = omega arith
    one (events.Oldest by oldest) c i = omega arith
    one (events.Ask by id) c i = omega arith
