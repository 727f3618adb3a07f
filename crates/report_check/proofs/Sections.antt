-- The first line that breaks its rule, in each section of a life, in a life, and in a report.
use Rattle.std.proofs.Common.{◌≡◌, ◌↔◌, ℕ, zero, suc, ◌+◌, ◌-◌, ◌<◌, List, [], ◌∷◌, ◌++◌, Option, Some, None, length, take, drop, refl, sym, ap, subst, ◌∙◌, arith}
use Rattle.std.specs.List.{AllByRecursion, flat_map, slice_get}
use Rattle.std.proofs.lemmas.List.{append-nil, length-take-le}
use Rattle.std.proofs.lemmas.Option.{slice_get_within}
use Rattle.tx_model.specs.declared.report.LifeReport.{LifeReport}
use Rattle.tx_model.specs.declared.report.Line.{Line}
use Rattle.tx_model.specs.declared.report.Report.{Report}
use Rattle.tx_model.specs.declared.report.Step.{Step}
use Rattle.tx_model.specs.Rounds.{lines_in}
use Rattle.report_law.specs.Begun.{IsLawfulStart}
use Rattle.report_law.specs.Records.{IsLawfulLog}
use Rattle.report_law.specs.ReportLines.{IsLawfulAt, IsUnlawful, ReportLine, command, command_lines, event, judged, life_lines, lives_lines, log, logged, multi, placed, plain, report_lines, start, step_lines, steps_lines}
use Rattle.report_law.specs.Steps.{IsLawfulCommand, Judged}
use Rattle.report_check.specs.Walk.{IsFirstBroken}
use Rattle.report_check.proofs.Walks.{all_append, broken_first, broken_left, broken_next, broken_right, commands_append, commands_length, lawful_next, lives_append, placed_append, placed_length, steps_append}

-- ---- one item of a list

split_suc : {X : Type 0} (xs : List X) (p : ℕ) (x : X) → slice_get xs p ≡ Some x → xs ≡ take p xs ++ x ∷ drop (suc p) xs
split_suc [] p x e = absurd cc
split_suc {X} (y ∷ xs) zero x e = let same : y ≡ x = cc in ap (λ (z : X). z ∷ xs) same
split_suc {X} (y ∷ xs) (suc p) x e = ap (λ (t : List X). y ∷ t) (split_suc xs p x e)

split_at : {X : Type 0} (xs : List X) (p : ℕ) (x : X) → slice_get xs p ≡ Some x → xs ≡ take p xs ++ x ∷ drop (p + 1) xs
split_at xs p x e = let z : suc p ≡ p + 1 = omega arith in subst (λ k. xs ≡ take p xs ++ x ∷ drop k xs) z (split_suc xs p x e)

more_suc : {X : Type 0} (n : ℕ) (xs : List X) (x : X) → slice_get xs n ≡ Some x → take (suc n) xs ≡ take n xs ++ x ∷ []
more_suc n [] x e = absurd cc
more_suc {X} zero (y ∷ xs) x e = let same : y ≡ x = cc in ap (λ (z : X). z ∷ []) same
more_suc {X} (suc n) (y ∷ xs) x e = ap (λ (t : List X). y ∷ t) (more_suc n xs x e)

one_more : {X : Type 0} (n : ℕ) (xs : List X) (x : X) → slice_get xs n ≡ Some x → take (n + 1) xs ≡ take n xs ++ x ∷ []
one_more n xs x e = let z : suc n ≡ n + 1 = omega arith in subst (λ k. take k xs ≡ take n xs ++ x ∷ []) z (more_suc n xs x e)

same_count : (xs : List ReportLine) (m n : ℕ) → m ≡ n → IsFirstBroken xs m → IsFirstBroken xs n
same_count xs m n e b = subst (λ k. IsFirstBroken xs k) e b

-- ---- items at their places

module _ {X : Type 0} (line : ℕ → X → ReportLine) (xs : List X) where
  pub placed_next : (p : ℕ) (x : X) → AllByRecursion IsLawfulAt (placed line 0 (take p xs)) → slice_get xs p ≡ Some x → IsLawfulAt (line p x) → AllByRecursion IsLawfulAt (placed line 0 (take (p + 1) xs))
  placed_next p x a at l =
      let within = slice_get_within xs p x at in
      let size : length (take p xs) ≡ p = length-take-le p xs (omega arith) in
      let shift : 0 + length (take p xs) ≡ p = omega arith in
      let more : placed line 0 (take (p + 1) xs) ≡ placed line 0 (take p xs) ++ line p x ∷ [] =
      ap (placed line 0) (one_more p xs x at) ∙ placed_append line 0 (take p xs) (x ∷ []) ∙ ap (λ k. placed line 0 (take p xs) ++ line k x ∷ []) shift in
      subst (AllByRecursion IsLawfulAt) (sym more) (lawful_next (placed line 0 (take p xs)) (line p x) a l)

  pub placed_broken : (p : ℕ) (x : X) → AllByRecursion IsLawfulAt (placed line 0 (take p xs)) → slice_get xs p ≡ Some x → (IsLawfulAt (line p x) → ⊥) → IsFirstBroken (placed line 0 xs) p
  placed_broken p x a at never =
      let within = slice_get_within xs p x at in
      let size : length (take p xs) ≡ p = length-take-le p xs (omega arith) in
      let shift : 0 + length (take p xs) ≡ p = omega arith in
      let all : placed line 0 xs ≡ placed line 0 (take p xs) ++ line p x ∷ placed line (p + 1) (drop (p + 1) xs) =
      ap (placed line 0) (split_at xs p x at) ∙ placed_append line 0 (take p xs) (x ∷ drop (p + 1) xs)
      ∙ ap (λ k. placed line 0 (take p xs) ++ placed line k (x ∷ drop (p + 1) xs)) shift in
      let many : length (placed line 0 (take p xs)) ≡ p = placed_length line 0 (take p xs) ∙ size in
      subst (λ (l : List ReportLine). IsFirstBroken l p) (sym all)
      (same_count (placed line 0 (take p xs) ++ line p x ∷ placed line (p + 1) (drop (p + 1) xs)) (length (placed line 0 (take p xs))) p many
      (broken_next (placed line 0 (take p xs)) (line p x) (placed line (p + 1) (drop (p + 1) xs)) a never))

-- ---- the commands of a round

module _ (j : Judged) (rounds lines : List Line) where
  pub commands_next : (p : ℕ) (l : Line) → AllByRecursion IsLawfulAt (command_lines j rounds lines [] (take p lines)) → slice_get lines p ≡ Some l → IsLawfulCommand j rounds lines (take p lines) l
      → AllByRecursion IsLawfulAt (command_lines j rounds lines [] (take (p + 1) lines))
  commands_next p l a at lawful =
      let more : command_lines j rounds lines [] (take (p + 1) lines) ≡ command_lines j rounds lines [] (take p lines) ++ command j rounds lines (take p lines) l ∷ [] =
      ap (command_lines j rounds lines []) (one_more p lines l at) ∙ commands_append j rounds lines [] (take p lines) (l ∷ []) in
      subst (AllByRecursion IsLawfulAt) (sym more) (lawful_next (command_lines j rounds lines [] (take p lines)) (command j rounds lines (take p lines) l) a lawful)

  pub commands_broken : (p : ℕ) (l : Line) → AllByRecursion IsLawfulAt (command_lines j rounds lines [] (take p lines)) → slice_get lines p ≡ Some l → (IsLawfulCommand j rounds lines (take p lines) l → ⊥)
      → IsFirstBroken (command_lines j rounds lines [] lines) p
  commands_broken p l a at never =
      let within = slice_get_within lines p l at in
      let size : length (take p lines) ≡ p = length-take-le p lines (omega arith) in
      let front = command_lines j rounds lines [] (take p lines) in
      let rest = command_lines j rounds lines (take p lines ++ l ∷ []) (drop (p + 1) lines) in
      let all : command_lines j rounds lines [] lines ≡ front ++ command j rounds lines (take p lines) l ∷ rest =
      ap (command_lines j rounds lines []) (split_at lines p l at) ∙ commands_append j rounds lines [] (take p lines) (l ∷ drop (p + 1) lines) in
      let many : length front ≡ p = commands_length j rounds lines [] (take p lines) ∙ size in
      subst (λ (x : List ReportLine). IsFirstBroken x p) (sym all)
      (same_count (front ++ command j rounds lines (take p lines) l ∷ rest) (length front) p many (broken_next front (command j rounds lines (take p lines) l) rest a never))

-- ---- the steps of a life

module _ (j : Judged) (steps : List Step) where
  pub steps_next : (p : ℕ) (s : Step) → AllByRecursion IsLawfulAt (steps_lines j [] (take p steps)) → slice_get steps p ≡ Some s → AllByRecursion IsLawfulAt (step_lines j (take p steps) s)
      → AllByRecursion IsLawfulAt (steps_lines j [] (take (p + 1) steps))
  steps_next p s a at lawful =
      let more : steps_lines j [] (take (p + 1) steps) ≡ steps_lines j [] (take p steps) ++ (step_lines j (take p steps) s ++ []) =
      ap (steps_lines j []) (one_more p steps s at) ∙ steps_append j [] (take p steps) (s ∷ []) in
      subst (AllByRecursion IsLawfulAt) (sym more)
      (all_append (steps_lines j [] (take p steps)) (step_lines j (take p steps) s ++ []) a (subst (AllByRecursion IsLawfulAt) (sym (append-nil (step_lines j (take p steps) s))) lawful))

  -- how many lines stand before the step
  pub steps_broken : (p : ℕ) (s : Step) (n : ℕ) → AllByRecursion IsLawfulAt (steps_lines j [] (take p steps)) → slice_get steps p ≡ Some s → IsFirstBroken (step_lines j (take p steps) s) n
      → IsFirstBroken (steps_lines j [] steps) (length (steps_lines j [] (take p steps)) + n)
  steps_broken p s n a at broken =
      let front = steps_lines j [] (take p steps) in
      let rest = steps_lines j (take p steps ++ s ∷ []) (drop (p + 1) steps) in
      let all : steps_lines j [] steps ≡ front ++ (step_lines j (take p steps) s ++ rest) =
      ap (steps_lines j []) (split_at steps p s at) ∙ steps_append j [] (take p steps) (s ∷ drop (p + 1) steps) in
      subst (λ (x : List ReportLine). IsFirstBroken x (length front + n)) (sym all)
      (broken_right front (step_lines j (take p steps) s ++ rest) n a (broken_left (step_lines j (take p steps) s) rest n broken))

-- ---- a life

module _ (before : List LifeReport) (r : LifeReport) where
  abbrev j : Judged
  j = judged before r

  abbrev starts : List ReportLine
  starts = start before r.life ∷ steps_lines j [] r.steps

  abbrev events : List ReportLine
  events = plain ∷ placed (event j) 0 r.life.events

  abbrev multis : List ReportLine
  multis = plain ∷ placed (multi j) 0 r.life.multis

  abbrev logs : List ReportLine
  logs = log r.crash j ∷ placed (logged j) 0 r.life.recs

  parts : life_lines before r ≡ (((starts ++ events) ++ multis) ++ logs) ++ plain ∷ []
  parts = refl

  in_starts : (n : ℕ) → IsFirstBroken starts n → IsFirstBroken (life_lines before r) n
  in_starts n b =
      broken_left (((starts ++ events) ++ multis) ++ logs) (plain ∷ []) n
      (broken_left ((starts ++ events) ++ multis) logs n (broken_left (starts ++ events) multis n (broken_left starts events n b)))

  -- the first line
  pub life_start_broken : (IsLawfulStart before r.life → ⊥) → IsFirstBroken (life_lines before r) 0
  life_start_broken never = in_starts 0 (broken_first (start before r.life) (steps_lines j [] r.steps) never)

  pub life_step_broken : (n : ℕ) → IsLawfulStart before r.life → IsFirstBroken (steps_lines j [] r.steps) n → IsFirstBroken (life_lines before r) (1 + n)
  life_step_broken n s b = in_starts (1 + n) (broken_right (start before r.life ∷ []) (steps_lines j [] r.steps) n (s, tt) b)

  module _ (lawful : AllByRecursion IsLawfulAt starts) where
    pub life_event_broken : (n : ℕ) → IsFirstBroken (placed (event j) 0 r.life.events) n → IsFirstBroken (life_lines before r) (length starts + (1 + n))
    life_event_broken n b =
        broken_left (((starts ++ events) ++ multis) ++ logs) (plain ∷ []) (length starts + (1 + n))
        (broken_left ((starts ++ events) ++ multis) logs (length starts + (1 + n))
        (broken_left (starts ++ events) multis (length starts + (1 + n))
        (broken_right starts events (1 + n) lawful (broken_right (plain ∷ []) (placed (event j) 0 r.life.events) n (tt, tt) b))))

    module _ (come : AllByRecursion IsLawfulAt (placed (event j) 0 r.life.events)) where
      come_so : AllByRecursion IsLawfulAt (starts ++ events)
      come_so = all_append starts events lawful (tt, come)

      pub life_multi_broken : (n : ℕ) → IsFirstBroken (placed (multi j) 0 r.life.multis) n → IsFirstBroken (life_lines before r) (length (starts ++ events) + (1 + n))
      life_multi_broken n b =
          broken_left (((starts ++ events) ++ multis) ++ logs) (plain ∷ []) (length (starts ++ events) + (1 + n))
          (broken_left ((starts ++ events) ++ multis) logs (length (starts ++ events) + (1 + n))
          (broken_right (starts ++ events) multis (1 + n) come_so (broken_right (plain ∷ []) (placed (multi j) 0 r.life.multis) n (tt, tt) b)))

      module _ (given : AllByRecursion IsLawfulAt (placed (multi j) 0 r.life.multis)) where
        given_so : AllByRecursion IsLawfulAt ((starts ++ events) ++ multis)
        given_so = all_append (starts ++ events) multis come_so (tt, given)

        pub life_log_broken : (IsLawfulLog r.crash r.life → ⊥) → IsFirstBroken (life_lines before r) (length ((starts ++ events) ++ multis) + 0)
        life_log_broken never =
            broken_left (((starts ++ events) ++ multis) ++ logs) (plain ∷ []) (length ((starts ++ events) ++ multis) + 0)
            (broken_right ((starts ++ events) ++ multis) logs 0 given_so (broken_first (log r.crash j) (placed (logged j) 0 r.life.recs) never))

        pub life_record_broken : (n : ℕ) → IsLawfulLog r.crash r.life → IsFirstBroken (placed (logged j) 0 r.life.recs) n → IsFirstBroken (life_lines before r) (length ((starts ++ events) ++ multis) + (1 + n))
        life_record_broken n l b =
            broken_left (((starts ++ events) ++ multis) ++ logs) (plain ∷ []) (length ((starts ++ events) ++ multis) + (1 + n))
            (broken_right ((starts ++ events) ++ multis) logs (1 + n) given_so (broken_right (log r.crash j ∷ []) (placed (logged j) 0 r.life.recs) n (l, tt) b))

        pub life_lawful : IsLawfulLog r.crash r.life → AllByRecursion IsLawfulAt (placed (logged j) 0 r.life.recs) → AllByRecursion IsLawfulAt (life_lines before r)
        life_lawful l recs = all_append (((starts ++ events) ++ multis) ++ logs) (plain ∷ []) (all_append ((starts ++ events) ++ multis) logs given_so (l, recs)) (tt, tt)

-- ---- the lives of a report

module _ (lives : List LifeReport) where
  pub lives_next : (p : ℕ) (r : LifeReport) → AllByRecursion IsLawfulAt (lives_lines [] (take p lives)) → slice_get lives p ≡ Some r → AllByRecursion IsLawfulAt (life_lines (take p lives) r)
      → AllByRecursion IsLawfulAt (lives_lines [] (take (p + 1) lives))
  lives_next p r a at lawful =
      let more : lives_lines [] (take (p + 1) lives) ≡ lives_lines [] (take p lives) ++ (life_lines (take p lives) r ++ []) =
      ap (lives_lines []) (one_more p lives r at) ∙ lives_append [] (take p lives) (r ∷ []) in
      subst (AllByRecursion IsLawfulAt) (sym more)
      (all_append (lives_lines [] (take p lives)) (life_lines (take p lives) r ++ []) a (subst (AllByRecursion IsLawfulAt) (sym (append-nil (life_lines (take p lives) r))) lawful))

  pub lives_broken : (p : ℕ) (r : LifeReport) (n : ℕ) → AllByRecursion IsLawfulAt (lives_lines [] (take p lives)) → slice_get lives p ≡ Some r → IsFirstBroken (life_lines (take p lives) r) n
      → IsFirstBroken (lives_lines [] lives) (length (lives_lines [] (take p lives)) + n)
  lives_broken p r n a at broken =
      let front = lives_lines [] (take p lives) in
      let rest = lives_lines (take p lives ++ r ∷ []) (drop (p + 1) lives) in
      let all : lives_lines [] lives ≡ front ++ (life_lines (take p lives) r ++ rest) =
      ap (lives_lines []) (split_at lives p r at) ∙ lives_append [] (take p lives) (r ∷ drop (p + 1) lives) in
      subst (λ (x : List ReportLine). IsFirstBroken x (length front + n)) (sym all)
      (broken_right front (life_lines (take p lives) r ++ rest) n a (broken_left (life_lines (take p lives) r) rest n broken))

-- line n + 2 of the report, behind `txid report 1`
pub report_broken : (r : Report) (n : ℕ) → IsFirstBroken (lives_lines [] r.lives) n → IsUnlawful r (n + 2)
report_broken r n b =
    let whole = broken_right (plain ∷ []) (lives_lines [] r.lives) n (tt, tt) b in
    record {
      before = whole.before;
      line = whole.line;
      rest = whole.rest;
      lines = whole.are;
      number = let z = whole.number in omega arith;
      lawful = whole.lawful;
      unlawful = whole.unlawful;
    }
