-- The lines of a life, step by step.
use Rattle.std.proofs.Common.{◌≡◌, ℕ, suc, ◌+◌, ◌<◌, List, [], ◌∷◌, ◌++◌, length, get_or, map, take, refl, ap, sym, ◌∙◌, arith}
use Rattle.std.specs.List.{flat_map}
use Rattle.std.proofs.lemmas.List.{append-nil, append_assoc, length-take-le, map-append, take_more}
use Rattle.tx_events.specs.declared.event.By.{By}
use Rattle.tx_model.specs.declared.report.Line.{Line}
use Rattle.tx_model.specs.declared.report.Step.{Step}
use Rattle.tx_model.specs.declared.report.Step.TheVariants as steps
use Rattle.tx_model.specs.Rounds.{lines_in}
use Rattle.place_columns.specs.declared.lines.LineAt.{LineAt}
use Rattle.place_columns.specs.Lined.{bys_of, line_at, line_by, lines_from}

lines_push : (n : ℕ) (steps : List Step) (s : Step) → lines_from n (steps ++ s ∷ []) ≡ lines_from n steps ++ map (line_at (n + length steps)) (lines_in s)
lines_push n [] s =
    let z : n ≡ n + 0 = omega arith in
    append-nil (map (line_at n) (lines_in s)) ∙ ap (λ k. map (line_at k) (lines_in s)) z
lines_push n (t ∷ steps) s =
    let z : (n + 1) + length steps ≡ n + suc (length steps) = omega arith in
    ap (λ (r : List LineAt). map (line_at n) (lines_in t) ++ r) (lines_push (n + 1) steps s ∙ ap (λ k. lines_from (n + 1) steps ++ map (line_at k) (lines_in s)) z)
    ∙ sym (append_assoc (map (line_at n) (lines_in t)) (lines_from (n + 1) steps) (map (line_at (n + suc (length steps))) (lines_in s)))

pub lines_more : (steps : List Step) (i : ℕ) (s : Step) → i < length steps → s ≡ get_or steps i s → lines_from 0 (take (i + 1) steps) ≡ lines_from 0 (take i steps) ++ map (line_at i) (lines_in s)
lines_more steps i s l is =
    let size : 0 + length (take i steps) ≡ i = omega (arith, length-take-le i steps (omega arith)) in
    ap (λ (t : List Step). lines_from 0 t) (take_more steps i s l ∙ ap (λ x. take i steps ++ x ∷ []) (sym is))
    ∙ lines_push 0 (take i steps) s
    ∙ ap (λ k. lines_from 0 (take i steps) ++ map (line_at k) (lines_in s)) size

bys_in : (n : ℕ) (lines : List Line) → bys_of (map (line_at n) lines) ≡ map line_by lines
bys_in n [] = refl
bys_in n (l ∷ lines) = ap (λ (t : List By). l.by ∷ t) (bys_in n lines)

-- whose they are
pub bys_are : (n : ℕ) (steps : List Step) → bys_of (lines_from n steps) ≡ map line_by (flat_map lines_in steps)
bys_are n [] = refl
bys_are n (s ∷ steps) =
    map-append (λ (l : LineAt). l.by) (map (line_at n) (lines_in s)) (lines_from (n + 1) steps)
    ∙ ap (λ (t : List By). t ++ bys_of (lines_from (n + 1) steps)) (bys_in n (lines_in s))
    ∙ ap (λ (t : List By). map line_by (lines_in s) ++ t) (bys_are (n + 1) steps)
    ∙ sym (map-append line_by (lines_in s) (flat_map lines_in steps))

-- a step that is no round has none
pub no_lines : (s : Step) → ((number : ℕ) (lines : List Line) → s ≡ steps.Round number lines → ⊥) → lines_in s ≡ []
no_lines (steps.Round number lines) never = absurd (never number lines refl)
no_lines (steps.Checkpoint reply) never = refl
no_lines (steps.Dump what at size reply) never = refl
