-- A step that tells a fault of the log stands among its life's.
use Rattle.std.proofs.Common.{◌≡◌, ◌<◌, ◌⊎◌, ℕ, zero, suc, inl, inr, Bool, true, false, List, [], ◌∷◌, ◌++◌, length, get_or, refl, subst, arith, ⊎_elim, ◌||◌}
use Rattle.std.specs.List.{flat_map, list_any}
use Rattle.tx_model.specs.declared.report.Line.{Line}
use Rattle.tx_model.specs.declared.report.Step.{Step}
use Rattle.tx_model.specs.Rounds.{lines_in}
use Rattle.life_law.specs.Facts.{has_log_fault, is_checkpoint_fault, is_log_fault}
use Rattle.report_law.specs.Answers.{AreLogFaults}

pub either : (a b : Bool) → (a || b) ≡ true → (a ≡ true) ⊎ (b ≡ true)
either true b t = inl refl
either false b t = inr t

pub right_true : (a b : Bool) → b ≡ true → (a || b) ≡ true
right_true true b t = refl
right_true false b t = t

fault_left : (xs ys : List Line) → has_log_fault xs ≡ true → has_log_fault (xs ++ ys) ≡ true
fault_left [] ys t = absurd cc
fault_left (x ∷ xs) ys t =
    ⊎_elim
    (λ (u : is_log_fault x.reply ≡ true). rw u refl)
    (λ (u : has_log_fault xs ≡ true). right_true (is_log_fault x.reply) (has_log_fault (xs ++ ys)) (fault_left xs ys u))
    (either (is_log_fault x.reply) (has_log_fault xs) t)

fault_right : (xs ys : List Line) → has_log_fault ys ≡ true → has_log_fault (xs ++ ys) ≡ true
fault_right [] ys t = t
fault_right (x ∷ xs) ys t = right_true (is_log_fault x.reply) (has_log_fault (xs ++ ys)) (fault_right xs ys t)

faults_first : (s : Step) (steps : List Step) → (has_log_fault (lines_in s) || is_checkpoint_fault s) ≡ true → AreLogFaults (flat_map lines_in (s ∷ steps)) (s ∷ steps)
faults_first s steps t =
    ⊎_elim
    (λ (u : has_log_fault (lines_in s) ≡ true). inl (fault_left (lines_in s) (flat_map lines_in steps) u))
    (λ (u : is_checkpoint_fault s ≡ true). inr (rw u refl))
    (either (has_log_fault (lines_in s)) (is_checkpoint_fault s) t)

faults_later : (s : Step) (steps : List Step) → AreLogFaults (flat_map lines_in steps) steps → AreLogFaults (flat_map lines_in (s ∷ steps)) (s ∷ steps)
faults_later s steps f =
    ⊎_elim
    (λ (u : has_log_fault (flat_map lines_in steps) ≡ true). inl (fault_right (lines_in s) (flat_map lines_in steps) u))
    (λ (u : list_any is_checkpoint_fault steps ≡ true). inr (right_true (is_checkpoint_fault s) (list_any is_checkpoint_fault steps) u))
    f

pub faults_at : (steps : List Step) (i : ℕ) (step : Step) → i < length steps → step ≡ get_or steps i step → (has_log_fault (lines_in step) || is_checkpoint_fault step) ≡ true → AreLogFaults (flat_map lines_in steps) steps
faults_at [] i step l is t = absurd (omega arith)
faults_at (s ∷ steps) zero step l is t = faults_first s steps (subst (λ (x : Step). (has_log_fault (lines_in x) || is_checkpoint_fault x) ≡ true) is t)
faults_at (s ∷ steps) (suc i) step l is t = faults_later s steps (faults_at steps i step (omega arith) is t)
