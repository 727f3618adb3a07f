-- Each event is of one line.
use Rattle.std.proofs.Common.{◌≡◌, ◌+◌, ◌<◌, ◌≤◌, ◌==◌, ◌||◌, Bool, true, false, List, [], ◌∷◌, ◌++◌, refl, sym, ap, ◌∙◌, arith, eqb-true, eq-eqb}
use Rattle.std.proofs.lemmas.Bool.{and_parts, false≢true}
use Rattle.std.specs.List.{AllByRecursion, count_by, flat_map, list_any, sum_by}
use Rattle.tx_events.specs.declared.event.By.{By}
use Rattle.tx_events.specs.declared.event.Event.{Event}
use Rattle.tx_events.specs.Events.{by_of, events_of, same_by}
use Rattle.tx_events.specs.Places.{EachPlace}
use Rattle.tx_events.proofs.OwnEvents.{same_by_swap}
use Rattle.tx_model.specs.declared.report.Line.{Line}
use Rattle.tx_model.specs.declared.report.Step.{Step}
use Rattle.tx_model.specs.Lines.{has_line, is_line_of}
use Rattle.tx_model.specs.Replies.{RoundSpan}
use Rattle.tx_model.specs.Rounds.{lines_in}
use Rattle.life_law.specs.Facts.{Facts}
use Rattle.life_law.specs.Lines.{IsLawfulLine, IsLawfulRound}
use Rattle.run_law.proofs.PartSums.{count_cons, count_push, is_nil, is_one, parts_count}
use Rattle.run_report.proofs.Walk.{by_line}

abbrev is_of : By → Line → Bool
is_of b l = same_by b l.by

-- at most one line is of this command, and none before its turn
record IsOnce (b : By) (lines : List Line) : Type 0 where
  most : count_by (is_of b) lines ≤ 1
  before : count_by (is_line_of b.session) lines < b.command → count_by (is_of b) lines ≡ 0

add_line : (f : Facts) (b : By) (before : List Line) (l : Line) (round multis : RoundSpan) → IsOnce b before → IsLawfulLine f round multis before l → IsOnce b (before ++ l ∷ [])
add_line f b before l round multis o lawful = step (is_of b l) refl
  where
    step : (own : Bool) → is_of b l ≡ own → IsOnce b (before ++ l ∷ [])
    step false e =
        let c = count_push (is_of b) before l in
        let n = is_nil (is_of b l) e in
        let s = count_push (is_line_of b.session) before l in
        let most = o.most in
        record { most = omega arith; before = λ low. let z : count_by (is_of b) before ≡ 0 = o.before (omega arith) in omega arith }
    step true e =
        let parts = and_parts (b.session == l.by.session) (b.command == l.by.command) e in
        let session : b.session ≡ l.by.session = eqb-true b.session l.by.session parts.0 in
        let command : b.command ≡ l.by.command = eqb-true b.command l.by.command parts.1 in
        let number : l.by.command ≡ count_by (is_line_of b.session) before + 1 = lawful.number ∙ ap (λ k. count_by (is_line_of k) before + 1) (sym session) in
        let low : count_by (is_line_of b.session) before < b.command = omega arith in
        let z : count_by (is_of b) before ≡ 0 = o.before low in
        let c = count_push (is_of b) before l in
        let n = is_one (is_of b l) e in
        let s = count_push (is_line_of b.session) before l in
        let m = is_one (is_line_of b.session l) (eq-eqb l.by.session b.session (sym session)) in
        record { most = omega arith; before = λ low. absurd (omega arith) }

once : (f : Facts) (steps : List Step) (b : By) → EachPlace steps (λ before step. IsLawfulRound f (flat_map lines_in before) (lines_in step)) → IsOnce b (flat_map lines_in steps)
once f steps b each = by_line f (IsOnce b) (record { most = omega arith; before = λ low. refl }) (add_line f b) steps each

some_line : (b : By) (lines : List Line) → list_any (λ l. same_by l.by b) lines ≡ true → 1 ≤ count_by (is_of b) lines
some_line b [] e = absurd (false≢true e)
some_line b (l ∷ lines) e = step (same_by l.by b) refl e (λ t. some_line b lines t)
  where
    step : (own : Bool) → same_by l.by b ≡ own → own || list_any (λ l. same_by l.by b) lines ≡ true → (list_any (λ l. same_by l.by b) lines ≡ true → 1 ≤ count_by (is_of b) lines) → 1 ≤ count_by (is_of b) (l ∷ lines)
    step true s t rest =
        let c = count_cons (is_of b) l lines in
        let here = is_one (is_of b l) (same_by_swap l.by b s) in
        omega arith
    step false s t rest =
        let c = count_cons (is_of b) l lines in
        let i = rest t in
        omega arith

one_line : (f : Facts) (steps : List Step) → EachPlace steps (λ before step. IsLawfulRound f (flat_map lines_in before) (lines_in step)) → (h : List Event) → AllByRecursion (λ e. has_line (flat_map lines_in steps) e ≡ true) h → AllByRecursion (λ e. count_by (λ l. same_by (by_of e) l.by) (flat_map lines_in steps) ≡ 1) h
one_line f steps each [] a = tt
one_line f steps each (e ∷ h) a =
    let o = once f steps (by_of e) each in
    let most = o.most in
    let some = some_line (by_of e) (flat_map lines_in steps) a.0 in
    (omega arith, one_line f steps each h a.1)

-- the lines have together what the history has
pub events_counted : (f : Facts) (steps : List Step) (p : Event → Bool) → EachPlace steps (λ before step. IsLawfulRound f (flat_map lines_in before) (lines_in step)) → (h : List Event) → AllByRecursion (λ e. has_line (flat_map lines_in steps) e ≡ true) h → sum_by (λ l. count_by p (events_of l.by h)) (flat_map lines_in steps) ≡ count_by p h
events_counted f steps p each h a = parts_count p (λ e l. same_by (by_of e) l.by) (flat_map lines_in steps) h (one_line f steps each h a)
