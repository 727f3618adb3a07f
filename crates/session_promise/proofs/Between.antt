-- The rounds of a life among its steps.
use Rattle.std.proofs.Common.{Bool, List, Some, [], ap, cond, false, refl, subst, sym, take, true, zero, suc, ℕ, ◌+◌, ◌++◌, ◌∙◌, ◌∷◌, ◌≡◌}
use Rattle.std.specs.List.{filter, flat_map, slice_get}
use Rattle.tx_events.specs.declared.event.Event.{Event}
use Rattle.tx_events.specs.Places.{EachPlace}
use Rattle.tx_model.specs.declared.report.Line.{Line}
use Rattle.tx_model.specs.declared.report.Step.{Step}
use Rattle.tx_model.specs.declared.report.Step.TheVariants as steps
use Rattle.tx_model.specs.Rounds.{AreInTurn, StandFirst, is_round, lines_in}
use Rattle.session_promise.specs.Told.{ToldRound, all_lines, steps_of}

-- ---- what passes of a list

pub filter_take : {X : Type 0} (p : X → Bool) (xs : List X) (k : ℕ) → (n : ℕ) × (take n (filter p xs) ≡ filter p (take k xs))
filter_take p xs zero = (0, refl)
filter_take p [] (suc k) = (0, refl)
filter_take {X} p (x ∷ xs) (suc k) = step (p x) (filter_take p xs k)
  where
    step : (b : Bool) → ((n : ℕ) × (take n (filter p xs) ≡ filter p (take k xs))) → (n : ℕ) × (take n (cond b (x ∷ filter p xs) (filter p xs)) ≡ cond b (x ∷ filter p (take k xs)) (filter p (take k xs)))
    step true r = (suc r.0, ap (λ (t : List X). x ∷ t) r.1)
    step false r = r

filter_at : {X : Type 0} (p : X → Bool) (xs : List X) (k : ℕ) (x : X) → slice_get xs k ≡ Some x → p x ≡ true → (n : ℕ) × (slice_get (filter p xs) n ≡ Some x) × (take n (filter p xs) ≡ filter p (take k xs))
filter_at p [] k x at pass = absurd cc
filter_at p (y ∷ xs) zero x at pass =
    let same : y ≡ x = cc in
    subst (λ (b : Bool). (n : ℕ) × (slice_get (cond b (y ∷ filter p xs) (filter p xs)) n ≡ Some x) × (take n (cond b (y ∷ filter p xs) (filter p xs)) ≡ [])) (sym (ap p same ∙ pass)) (0, at, refl)
filter_at {X} p (y ∷ xs) (suc k) x at pass = step (p y) (filter_at p xs k x at pass)
  where
    step : (b : Bool) → ((n : ℕ) × (slice_get (filter p xs) n ≡ Some x) × (take n (filter p xs) ≡ filter p (take k xs)))
        → (n : ℕ) × (slice_get (cond b (y ∷ filter p xs) (filter p xs)) n ≡ Some x) × (take n (cond b (y ∷ filter p xs) (filter p xs)) ≡ cond b (y ∷ filter p (take k xs)) (filter p (take k xs)))
    step true r = (suc r.0, r.1, ap (λ (t : List X). y ∷ t) r.2)
    step false r = r

-- ---- the rounds

pub lines_of_rounds : (ss : List Step) → flat_map lines_in (filter is_round ss) ≡ flat_map lines_in ss
lines_of_rounds [] = refl
lines_of_rounds (steps.Round number lines ∷ ss) = ap (λ (ls : List Line). lines ++ ls) (lines_of_rounds ss)
lines_of_rounds (steps.Checkpoint reply ∷ ss) = lines_of_rounds ss
lines_of_rounds (steps.Dump what at size reply ∷ ss) = lines_of_rounds ss

-- what holds of the lines of each round, and of no lines, holds of each step's
pub each_between : (P : List Line → List Line → Type 0) (ss : List Step) → ((before : List Line) → P before []) → EachPlace (filter is_round ss) (λ before step. P (flat_map lines_in before) (lines_in step)) → EachPlace ss (λ before step. P (flat_map lines_in before) (lines_in step))
each_between P ss none each k step at = by step at
  where
    by : (s : Step) → slice_get ss k ≡ Some s → P (flat_map lines_in (take k ss)) (lines_in s)
    by (steps.Round number lines) at =
        let f = filter_at is_round ss k (steps.Round number lines) at refl in
        subst (λ (b : List Line). P b lines) (ap (flat_map lines_in) f.2 ∙ lines_of_rounds (take k ss)) (each f.0 (steps.Round number lines) f.1)
    by (steps.Checkpoint reply) at = none (flat_map lines_in (take k ss))
    by (steps.Dump what from size reply) at = none (flat_map lines_in (take k ss))

pub in_turn_between : (h : List Event) (ss : List Step) → AreInTurn h (filter is_round ss) → AreInTurn h ss
in_turn_between h ss turns n =
    let f = filter_take is_round ss n in
    subst (StandFirst h) (ap (flat_map lines_in) f.1 ∙ lines_of_rounds (take n ss)) (turns f.0)

pub step_lines : (n : ℕ) (rounds : List ToldRound) → flat_map lines_in (steps_of n rounds) ≡ all_lines rounds
step_lines n [] = refl
step_lines n (r ∷ rounds) = ap (λ (ls : List Line). r.lines ++ ls) (step_lines (n + 1) rounds)
