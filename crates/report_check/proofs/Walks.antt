-- The first line that breaks its rule, part by part.
use Rattle.std.proofs.Common.{◌≡◌, ℕ, zero, suc, ◌+◌, ◌<◌, List, [], ◌∷◌, ◌++◌, length, take, get_or, refl, sym, ap, subst, ◌∙◌, append_assoc, arith}
use Rattle.std.proofs.lemmas.List.{append-nil, length-append}
use Rattle.std.specs.List.{AllByRecursion, flat_map}
use Rattle.tx_model.specs.declared.report.LifeReport.{LifeReport}
use Rattle.tx_model.specs.declared.report.Line.{Line}
use Rattle.tx_model.specs.declared.report.Step.{Step}
use Rattle.report_law.specs.ReportLines.{IsLawfulAt, ReportLine, command, command_lines, life_lines, lives_lines, placed, step_lines, steps_lines}
use Rattle.report_law.specs.Steps.{Judged}
use Rattle.report_check.specs.Walk.{IsFirstBroken}

-- ---- one part behind another

pub all_append : (xs ys : List ReportLine) → AllByRecursion IsLawfulAt xs → AllByRecursion IsLawfulAt ys → AllByRecursion IsLawfulAt (xs ++ ys)
all_append [] ys a b = b
all_append (x ∷ xs) ys a b = (a.0, all_append xs ys a.1 b)

pub broken_left : (xs ys : List ReportLine) (n : ℕ) → IsFirstBroken xs n → IsFirstBroken (xs ++ ys) n
broken_left xs ys n b = record {
  before = b.before;
  line = b.line;
  rest = b.rest ++ ys;
  are = ap (λ (l : List ReportLine). l ++ ys) b.are ∙ append_assoc b.before (b.line ∷ b.rest) ys;
  number = b.number;
  lawful = b.lawful;
  unlawful = b.unlawful;
}

pub broken_right : (xs ys : List ReportLine) (n : ℕ) → AllByRecursion IsLawfulAt xs → IsFirstBroken ys n → IsFirstBroken (xs ++ ys) (length xs + n)
broken_right xs ys n a b = record {
  before = xs ++ b.before;
  line = b.line;
  rest = b.rest;
  are = ap (λ (l : List ReportLine). xs ++ l) b.are ∙ sym (append_assoc xs b.before (b.line ∷ b.rest));
  number = ap (λ k. length xs + k) b.number ∙ sym (length-append xs b.before);
  lawful = all_append xs b.before a b.lawful;
  unlawful = b.unlawful;
}

pub broken_first : (x : ReportLine) (xs : List ReportLine) → (IsLawfulAt x → ⊥) → IsFirstBroken (x ∷ xs) 0
broken_first x xs never = record { before = []; line = x; rest = xs; are = refl; number = refl; lawful = tt; unlawful = never }

-- the line behind lawful ones breaks its rule
pub broken_next : (xs : List ReportLine) (x : ReportLine) (ys : List ReportLine) → AllByRecursion IsLawfulAt xs → (IsLawfulAt x → ⊥) → IsFirstBroken (xs ++ x ∷ ys) (length xs)
broken_next xs x ys a never = record { before = xs; line = x; rest = ys; are = refl; number = refl; lawful = a; unlawful = never }

pub lawful_next : (xs : List ReportLine) (x : ReportLine) → AllByRecursion IsLawfulAt xs → IsLawfulAt x → AllByRecursion IsLawfulAt (xs ++ x ∷ [])
lawful_next xs x a b = all_append xs (x ∷ []) a (b, tt)

-- ---- a section, item by item

pub placed_append : {X : Type 0} (line : ℕ → X → ReportLine) (n : ℕ) (xs ys : List X) → placed line n (xs ++ ys) ≡ placed line n xs ++ placed line (n + length xs) ys
placed_append line n [] ys = ap (λ k. placed line k ys) (let z : n ≡ n + 0 = omega arith in z)
placed_append line n (x ∷ xs) ys =
    let z : (n + 1) + length xs ≡ n + suc (length xs) = omega arith in
    ap (λ (l : List ReportLine). line n x ∷ l) (placed_append line (n + 1) xs ys ∙ ap (λ k. placed line (n + 1) xs ++ placed line k ys) z)

pub placed_length : {X : Type 0} (line : ℕ → X → ReportLine) (n : ℕ) (xs : List X) → length (placed line n xs) ≡ length xs
placed_length line n [] = refl
placed_length line n (x ∷ xs) = ap suc (placed_length line (n + 1) xs)

pub commands_append : (j : Judged) (rounds lines earlier xs ys : List Line) → command_lines j rounds lines earlier (xs ++ ys) ≡ command_lines j rounds lines earlier xs ++ command_lines j rounds lines (earlier ++ xs) ys
commands_append j rounds lines earlier [] ys = ap (λ (l : List Line). command_lines j rounds lines l ys) (sym (append-nil earlier))
commands_append j rounds lines earlier (x ∷ xs) ys =
    ap (λ (l : List ReportLine). command j rounds lines earlier x ∷ l)
    (commands_append j rounds lines (earlier ++ x ∷ []) xs ys
    ∙ ap (λ (l : List Line). command_lines j rounds lines (earlier ++ x ∷ []) xs ++ command_lines j rounds lines l ys) (append_assoc earlier (x ∷ []) xs))

pub commands_length : (j : Judged) (rounds lines earlier xs : List Line) → length (command_lines j rounds lines earlier xs) ≡ length xs
commands_length j rounds lines earlier [] = refl
commands_length j rounds lines earlier (x ∷ xs) = ap suc (commands_length j rounds lines (earlier ++ x ∷ []) xs)

pub steps_append : (j : Judged) (before xs ys : List Step) → steps_lines j before (xs ++ ys) ≡ steps_lines j before xs ++ steps_lines j (before ++ xs) ys
steps_append j before [] ys = ap (λ (l : List Step). steps_lines j l ys) (sym (append-nil before))
steps_append j before (s ∷ xs) ys =
    ap (λ (l : List ReportLine). step_lines j before s ++ l)
    (steps_append j (before ++ s ∷ []) xs ys ∙ ap (λ (l : List Step). steps_lines j (before ++ s ∷ []) xs ++ steps_lines j l ys) (append_assoc before (s ∷ []) xs))
    ∙ sym (append_assoc (step_lines j before s) (steps_lines j (before ++ s ∷ []) xs) (steps_lines j (before ++ (s ∷ [] ++ xs)) ys))

pub lives_append : (before xs ys : List LifeReport) → lives_lines before (xs ++ ys) ≡ lives_lines before xs ++ lives_lines (before ++ xs) ys
lives_append before [] ys = ap (λ (l : List LifeReport). lives_lines l ys) (sym (append-nil before))
lives_append before (r ∷ xs) ys =
    ap (λ (l : List ReportLine). life_lines before r ++ l)
    (lives_append (before ++ r ∷ []) xs ys ∙ ap (λ (l : List LifeReport). lives_lines (before ++ r ∷ []) xs ++ lives_lines l ys) (append_assoc before (r ∷ []) xs))
    ∙ sym (append_assoc (life_lines before r) (lives_lines (before ++ r ∷ []) xs) (lives_lines (before ++ (r ∷ [] ++ xs)) ys))
