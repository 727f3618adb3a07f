-- How far steps reach in both histories.
use Rattle.std.proofs.Common.{◌≡◌, ℕ, zero, suc, ◌≤◌, ◌||◌, Bool, true, false, cond, List, [], ◌∷◌, ◌++◌, append-nil, length, take, refl, ap, sym, subst, ◌∙◌, arith}
use Rattle.std.proofs.lemmas.List.Concat.{flat_map-append}
use Rattle.std.proofs.lemmas.List.Folds.{list_any-append}
use Rattle.std.proofs.lemmas.List.Sums.{sum_by-cons}
use Rattle.std.specs.List.{count_by, flat_map}
use Rattle.tx_events.specs.declared.event.Event.{Event}
use Rattle.tx_events.specs.declared.multi.MultiEvent.{MultiEvent}
use Rattle.tx_events.specs.declared.record.Counters.{Counters}
use Rattle.tx_events.specs.Events.{by_of, same_by}
use Rattle.tx_events.specs.Multis.{multi_by}
use Rattle.tx_model.specs.declared.report.Line.{Line}
use Rattle.tx_model.specs.declared.report.Step.{Step}
use Rattle.tx_model.specs.Lines.{has_line}
use Rattle.tx_model.specs.Rounds.{lines_in}
use Rattle.history_check.specs.Replays.{Replayed}
use Rattle.report_law.specs.Checkpoints.{counters_after, counters_behind}
use Rattle.report_law.specs.Places.{has_multi_line}
use Rattle.checkpoint_rules.specs.Behind.{AreCheckpoints}
use Rattle.checkpoint_rules.specs.declared.counted.Checkpoints.{Checkpoints}
use Rattle.checkpoint_rules.specs.declared.checkpoints.Point.{Point}
use Rattle.checkpoint_rules.specs.Noting.{AreFronts, AreNoted, IsPointOf, IsReached, Noting, from_of, multi_from_of, with_step}

take_of_take : {X : Type 0} (n k : ℕ) (xs : List X) → n ≤ k → take n (take k xs) ≡ take n xs
take_of_take zero k xs l = refl
take_of_take (suc n) zero xs l = absurd (omega arith)
take_of_take (suc n) (suc k) [] l = refl
take_of_take (suc n) (suc k) (x ∷ xs) l = ap (λ t. x ∷ t) (take_of_take n k xs (omega arith))

-- the counters there are those of the first events of the whole histories
pub counters_are : (at : Noting) (places : Replayed) (column : List Counters) (point : Point) → AreFronts at places column → IsPointOf at point → IsReached at places
    → counters_after places.base (take point.from places.events) (take point.multi_from at.multis) ≡ counters_behind at.j (flat_map lines_in at.before)
counters_are at places column point f p r =
    let events : take point.from places.events ≡ take (from_of at) at.j.life.events =
    ap (λ n. take n places.events) p.from_is ∙ ap (λ t. take (from_of at) t) f.front.events_are ∙ take_of_take (from_of at) (length places.events) at.j.life.events r.events in
    let multis : take point.multi_from at.multis ≡ take (multi_from_of at) at.j.life.multis =
    ap (λ n. take n at.multis) p.multi_from_is ∙ ap (λ t. take (multi_from_of at) t) f.multi_front ∙ take_of_take (multi_from_of at) (length at.multis) at.j.life.multis r.multis in
    ap (λ (b : Counters). counters_after b (take point.from places.events) (take point.multi_from at.multis)) f.front.base_is
    ∙ ap (λ (t : List Event). counters_after at.j.begun.counters t (take point.multi_from at.multis)) events
    ∙ ap (counters_after at.j.begun.counters (take (from_of at) at.j.life.events)) multis

-- ---- more steps reach no less far

count_more : {X : Type 0} (p q : X → Bool) (xs : List X) → ((x : X) → p x ≡ true → q x ≡ true) → count_by p xs ≤ count_by q xs
count_more p q [] f = omega arith
count_more p q (x ∷ xs) f =
    let less = sum_by-cons (λ y. cond (p y) 1 0) x xs in
    let more = sum_by-cons (λ y. cond (q y) 1 0) x xs in
    let here = one (p x) (q x) (f x) in
    let later = count_more p q xs f in
    omega arith
  where
    one : (b c : Bool) → (b ≡ true → c ≡ true) → cond b 1 0 ≤ cond c 1 0
    one true c k = subst (λ d. 1 ≤ cond d 1 0) (sym (k refl)) (omega arith)
    one false c k = omega arith

has_more : (a b : List Line) (e : Event) → has_line a e ≡ true → has_line (a ++ b) e ≡ true
has_more a b e t = list_any-append (λ (l : Line). same_by l.by (by_of e)) a b ∙ ap (λ y. y || has_line b e) t

has_more_multi : (a b : List Line) (e : MultiEvent) → has_multi_line a e ≡ true → has_multi_line (a ++ b) e ≡ true
has_more_multi a b e t = list_any-append (λ (l : Line). same_by l.by (multi_by e)) a b ∙ ap (λ y. y || has_multi_line b e) t

lines_push : (before : List Step) (s : Step) → flat_map lines_in (before ++ s ∷ []) ≡ flat_map lines_in before ++ lines_in s
lines_push before s = flat_map-append lines_in before (s ∷ []) ∙ ap (λ (t : List Line). flat_map lines_in before ++ t) (append-nil (lines_in s))

pub reached_before : (at : Noting) (places : Replayed) (s : Step) → IsReached (with_step at s) places → IsReached at places
reached_before at places s r =
    let lines = flat_map lines_in at.before in
    let more = lines_push at.before s in
    let events = count_more (has_line lines) (has_line (lines ++ lines_in s)) at.j.life.events (has_more lines (lines_in s)) in
    let multis = count_more (has_multi_line lines) (has_multi_line (lines ++ lines_in s)) at.j.life.multis (has_more_multi lines (lines_in s)) in
    let there : count_by (has_line (lines ++ lines_in s)) at.j.life.events ≤ length places.events = subst (λ (t : List Line). count_by (has_line t) at.j.life.events ≤ length places.events) more r.events in
    let there_too : count_by (has_multi_line (lines ++ lines_in s)) at.j.life.multis ≤ length at.multis = subst (λ (t : List Line). count_by (has_multi_line t) at.j.life.multis ≤ length at.multis) more r.multis in
    record { events = omega arith; multis = omega arith }

pub other_noted : (at : Noting) (places : Replayed) (s : Step) (c : Checkpoints) → (AreCheckpoints at.j at.before c → AreCheckpoints at.j (at.before ++ s ∷ []) c) → AreNoted at places c → AreNoted (with_step at s) places c
other_noted at places s c step kept r = step (kept (reached_before at places s r))
