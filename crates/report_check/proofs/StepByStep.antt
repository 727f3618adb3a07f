-- From step to step.
use Rattle.std.proofs.Common.{◌≡◌, ◌↔◌, ℕ, suc, zero, ◌+◌, ◌<◌, ◌≤◌, Bool, true, false, ◌||◌, List, [], ◌∷◌, ◌++◌, Some, length, map, take, drop, refl, sym, ap, subst, ◌∙◌, arith, append_assoc, append-nil}
use Rattle.std.specs.Prelude.{IsTrue}
use Rattle.std.specs.List.{All, AllByRecursion, flat_map, list_any, slice_get}
use Rattle.std.proofs.lemmas.Grind.{flat_map-append}
use Rattle.std.proofs.lemmas.List.{length-append}
use Rattle.tx_events.specs.declared.event.By.{By}
use Rattle.tx_events.specs.declared.multi.MultiEvent.{MultiEvent}
use Rattle.tx_events.specs.declared.record.Counters.{Counters}
use Rattle.tx_model.specs.declared.report.Line.{Line}
use Rattle.tx_model.specs.declared.report.Step.{Step}
use Rattle.tx_model.specs.Rounds.{lines_in}
use Rattle.event_rules.proofs.Fronting.{one_more}
use Rattle.place_columns.specs.Lined.{line_by}
use Rattle.place_columns.proofs.CountingLines.{count_none}
use Rattle.event_rules.specs.Lined.{events_in}
use Rattle.report_law.specs.ReportLines.{IsLawfulAt, ReportLine, plain, step_lines, steps_lines}
use Rattle.history_check.specs.Replays.{Replayed}
use Rattle.checkpoint_rules.specs.declared.counted.Checkpoints.{Checkpoints}
use Rattle.report_law.specs.Steps.{Judged, lines_of}
use Rattle.checkpoint_rules.specs.Behind.{AreMultiCounters}
use Rattle.report_check.specs.Walk.{IsFirstBroken}
use Rattle.report_check.proofs.Sections.{steps_broken}
use Rattle.report_check.proofs.Walks.{broken_first, broken_right, steps_append}
use Rattle.reply_lines.specs.At.{IsRoundAt}
use Rattle.reply_lines.specs.Known.{IsKnown}
use Rattle.reply_lines.specs.declared.known.Known.{Known}
use Rattle.reply_lines.specs.declared.rounds.RoundAt.{RoundAt}
use Rattle.report_check.specs.declared.walked.Walked.{Walked}
use Rattle.report_check.specs.declared.walked.Walked.TheVariants as walks
use Rattle.checkpoint_rules.specs.Midst.{AreFew}
use Rattle.checkpoint_rules.specs.Noting.{AreFronts, AreNoted, IsPointOf, IsReached}
use Rattle.report_check.specs.Stepping.{noting_of, step_or}
use Rattle.event_rules.specs.Told.{AreToldEvents}
use Rattle.report_check.specs.Walked.{IfLawful, IsWalked, is_lawful}
use Rattle.report_check.proofs.Judging.{never_true}
use Rattle.report_check.proofs.Rounding.{lines_split, rounds_are, round_within}

pub if_same : (v w : Walked) (P : Type 0) → is_lawful w ≡ is_lawful v → IfLawful v P → IfLawful w P
if_same (walks.Lawful n) (walks.Lawful m) P e p = p
if_same (walks.Lawful n) (walks.Broken m) P e p = tt
if_same (walks.Broken n) (walks.Lawful m) P e p = absurd cc
if_same (walks.Broken n) (walks.Broken m) P e p = tt

pub one_broken : (b : Bool) (x : ReportLine) → b ≡ false → (IsTrue b ↔ IsLawfulAt x) → IsFirstBroken (x ∷ []) 0
one_broken b x isnt f = broken_first x [] (never_true b (IsLawfulAt x) isnt f)

from_all : {X Y : Type 0} (P : Y → Type 0) (f : X → Y) (xs : List X) → All P (map f xs) → AllByRecursion (λ x. P (f x)) xs
from_all P f [] a = tt
from_all P f (x ∷ xs) a = (a 0 (f x) (omega arith), from_all P f xs (λ k d l. a (suc k) d (omega arith)))

front_of : {X : Type 0} (P : X → Type 0) (xs ys : List X) → AllByRecursion P (xs ++ ys) → AllByRecursion P xs
front_of P [] ys a = tt
front_of P (x ∷ xs) ys a = (a.0, front_of P xs ys a.1)

-- a step that stands there passes for one of them
pub has_step : (p : Step → Bool) (all : List Step) (i : ℕ) (s : Step) → slice_get all i ≡ Some s → p s ≡ true → list_any p all ≡ true
has_step p [] i s at t = absurd cc
has_step p (x ∷ all) zero s at t = let same : x ≡ s = cc in let yes : p x ≡ true = ap p same ∙ t in rw yes refl
has_step p (x ∷ all) (suc i) s at t = rest (p x) (has_step p all i s at t)
  where
    rest : (b : Bool) → list_any p all ≡ true → (b || list_any p all) ≡ true
    rest true t = refl
    rest false t = t

module _ (j : Judged) (n : ℕ) (step : Step) (told : slice_get j.steps n ≡ Some step) where
  abbrev before : List Line
  before = flat_map lines_in (take n j.steps)

  pub few_before : All (λ (b : By). b.session < 64) (map line_by (lines_of j)) → AreFew before
  few_before a =
      let all : AllByRecursion (λ (l : Line). l.by.session < 64) (lines_of j) = from_all (λ (b : By). b.session < 64) line_by (lines_of j) a in
      front_of (λ (l : Line). l.by.session < 64) before (lines_in step ++ flat_map lines_in (drop (suc n) j.steps))
      (subst (AllByRecursion (λ (l : Line). l.by.session < 64)) (lines_split j n step told ∙ append_assoc before (lines_in step) (flat_map lines_in (drop (suc n) j.steps))) all)

  -- the place of no line behind the steps before
  pub none_are : (count : ℕ) → count ≡ length before → (before ≡ take count (lines_of j)) × (before ++ [] ≡ take count (lines_of j)) × (count ≤ count) × (count ≤ length (lines_of j))
  none_are count is =
      let a : before ≡ take count (lines_of j) = rounds_are j n step told ∙ ap (λ k. take k (lines_of j)) (sym is) in
      let within = round_within j n step told in
      (a, append-nil before ∙ a, omega arith, omega arith)

  -- a step more
  pub lines_more : before ++ lines_in step ≡ flat_map lines_in (take (n + 1) j.steps)
  lines_more = sym (ap (flat_map lines_in) (one_more n j.steps step told) ∙ flat_map-append lines_in (take n j.steps) (step ∷ []) ∙ ap (λ (t : List Line). before ++ t) (append-nil (lines_in step)))

pub fronts_are : (j : Judged) (before : List Step) (k : Known) (multis : List MultiEvent) (column items : List Counters) → IsKnown j k → multis ≡ k.multi_places.events → column ≡ items → AreMultiCounters j.begun.counters k.multi_places.events items
    → AreFronts (noting_of j before multis) k.places column
fronts_are j before k multis column items known is same c = record {
  front = known.front;
  multi_front = is ∙ known.multi_front.events_are ∙ ap (λ (t : List MultiEvent). take (length t) j.life.multis) (sym is);
  column_is = subst (λ (t : List MultiEvent). AreMultiCounters j.begun.counters t column) (sym is) (subst (λ (t : List Counters). AreMultiCounters j.begun.counters k.multi_places.events t) (sym same) c);
}

pub point_is : (j : Judged) (before : List Step) (k : Known) (multis : List MultiEvent) (r : RoundAt) → IsRoundAt j (flat_map lines_in before) [] k r → IsPointOf (noting_of j before multis) (record { from = r.from; multi_from = r.multi_from })
point_is j before k multis r here = record { from_is = here.from; multi_from_is = here.multi_from }

pub reached_is : (j : Judged) (before : List Step) (k : Known) (multis : List MultiEvent) (r : RoundAt) → IsRoundAt j (flat_map lines_in before) [] k r → multis ≡ k.multi_places.events → IsTrue r.judged → IsReached (noting_of j before multis) k.places
reached_is j before k multis r here is t =
    let a = here.within t in
    let b = here.multi_within t in
    let f = here.forward in
    let g = here.multi_forward in
    let x = here.from in
    let y = here.multi_from in
    let size : length multis ≡ length k.multi_places.events = ap length is in
    record { events = omega arith; multis = omega arith }

-- ---- all steps

pub steps_counted : (j : Judged) (p : ℕ) (s : Step) (old lines new : ℕ) → slice_get j.steps p ≡ Some s → old ≡ length (steps_lines j [] (take p j.steps)) → lines ≡ length (step_lines j (take p j.steps) s) → new ≡ old + lines
    → new ≡ length (steps_lines j [] (take (p + 1) j.steps))
steps_counted j p s old lines new at so is sum =
    let front : List ReportLine = steps_lines j [] (take p j.steps) in
    let more : steps_lines j [] (take (p + 1) j.steps) ≡ front ++ (step_lines j (take p j.steps) s ++ []) = ap (steps_lines j []) (one_more p j.steps s at) ∙ steps_append j [] (take p j.steps) (s ∷ []) in
    let size : length (steps_lines j [] (take (p + 1) j.steps)) ≡ length front + length (step_lines j (take p j.steps) s) =
    ap length more ∙ length-append front (step_lines j (take p j.steps) s ++ []) ∙ ap (λ (t : List ReportLine). length front + length t) (append-nil (step_lines j (take p j.steps) s)) in
    omega arith

pub step_broken : (j : Judged) (p : ℕ) (s : Step) (old n sum : ℕ) → AllByRecursion IsLawfulAt (steps_lines j [] (take p j.steps)) → slice_get j.steps p ≡ Some s → old ≡ length (steps_lines j [] (take p j.steps)) → sum ≡ old + n
    → IsFirstBroken (step_lines j (take p j.steps) s) n → IsFirstBroken (steps_lines j [] j.steps) sum
step_broken j p s old n sum a at so is b =
    let whole : length (steps_lines j [] (take p j.steps)) + n ≡ sum = omega arith in
    subst (λ k. IsFirstBroken (steps_lines j [] j.steps) k) whole (steps_broken j j.steps p s n a at b)

pub always_if : (w : Walked) (P : Type 0) → P → IfLawful w P
always_if (walks.Lawful n) P p = p
always_if (walks.Broken n) P p = tt

pub both_if : (w : Walked) (P Q R : Type 0) → (P → Q → R) → IfLawful w P → Q → IfLawful w R
both_if (walks.Lawful n) P Q R f p q = f p q
both_if (walks.Broken n) P Q R f p q = tt

pub plain_broken : (xs : List ReportLine) (w : Walked) (n m : ℕ) → w ≡ walks.Broken n → m ≡ n + 1 → IsWalked xs w → IsFirstBroken (plain ∷ xs) m
plain_broken xs w n m is more b =
    let broken : IsFirstBroken xs n = subst (IsWalked xs) is b in
    let size : 1 + n ≡ m = omega arith in
    subst (λ k. IsFirstBroken (plain ∷ xs) k) size (broken_right (plain ∷ []) xs n (tt, tt) broken)

-- a step without lines
pub none_more : (j : Judged) (n : ℕ) (step : Step) → slice_get j.steps n ≡ Some step → lines_in step ≡ [] → flat_map lines_in (take n j.steps) ≡ flat_map lines_in (take (n + 1) j.steps)
none_more j n step told e =
    let before : List Line = flat_map lines_in (take n j.steps) in
    sym (append-nil before) ∙ ap (λ (t : List Line). before ++ t) (sym e) ∙ lines_more j n step told

pub noted_next : (j : Judged) (n : ℕ) (step s : Step) (multis events : List MultiEvent) (places : Replayed) (c : Checkpoints) → slice_get j.steps n ≡ Some step → s ≡ step → multis ≡ events → AreNoted (noting_of j (take n j.steps ++ s ∷ []) multis) places c
    → AreNoted (noting_of j (take (n + 1) j.steps) events) places c
noted_next j n step s multis events places c told is same a =
    subst (λ (t : List MultiEvent). AreNoted (noting_of j (take (n + 1) j.steps) t) places c) same
    (subst (λ (t : List Step). AreNoted (noting_of j t multis) places c) (ap (λ (x : Step). take n j.steps ++ x ∷ []) is ∙ sym (one_more n j.steps step told)) a)

-- no line has told anything yet
pub none_told : (j : Judged) → AreToldEvents j 0 []
none_told j = record {
  size = count_none (events_in j).numbers;
  each = λ by s l rank e at. absurd (omega arith);
}

-- the step at this place
pub step_there : (all : List Step) (p : ℕ) → p < length all → slice_get all p ≡ Some (step_or all p)
step_there [] p l = absurd (omega arith)
step_there (s ∷ all) zero l = refl
step_there (s ∷ all) (suc p) l = step_there all p (omega arith)
