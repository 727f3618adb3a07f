-- A life from part to part.
use Rattle.std.proofs.Common.{◌≡◌, ◌↔◌, ℕ, suc, zero, ◌+◌, ◌≤◌, Bool, false, List, [], ◌∷◌, ◌++◌, Option, length, take, drop, refl, sym, subst, ◌∙◌, arith, append_assoc, take-append-drop}
use Rattle.std.specs.Prelude.{IfOk, IsTrue, Result}
use Rattle.std.proofs.lemmas.Result.{IfOk-weaker}
use Rattle.std.specs.List.{All, AllByRecursion, flat_map}
use Rattle.std.proofs.lemmas.List.{length-append}
use Rattle.std.proofs.lemmas.List.Sums.{count_by-le-length}
use Rattle.tx_events.specs.declared.event.Event.{Event}
use Rattle.tx_events.specs.declared.multi.MultiEvent.{MultiEvent}
use Rattle.tx_events.specs.declared.record.Counters.{Counters}
use Rattle.tx_events.specs.declared.sequence.Memory.{Memory}
use Rattle.tx_events.specs.History.{IsLegal}
use Rattle.tx_events.specs.Multis.{AreLegalMultis, MultiMayCome}
use Rattle.tx_events.proofs.PlaceLemmas.{each_place_start}
use Rattle.tx_events.proofs.GivenIds.{legal_take}
use Rattle.tx_model.specs.declared.report.How.{How}
use Rattle.tx_model.specs.declared.report.Life.{Life}
use Rattle.tx_model.specs.declared.report.LifeReport.{LifeReport}
use Rattle.tx_model.specs.Lines.{has_line}
use Rattle.tx_model.specs.Rounds.{lines_in}
use Rattle.event_rules.proofs.Fronting.{all_taken, legal_to}
use Rattle.event_rules.proofs.MultiFronting.{multis_legal_to}
use Rattle.history_places.specs.Starts.{BeginsAs}
use Rattle.report_law.specs.Begun.{Begun, IsLawfulStart, begun_from}
use Rattle.report_law.specs.Records.{IsLawfulLog}
use Rattle.report_law.specs.MultiLines.{of_records}
use Rattle.report_law.specs.Places.{has_multi_line}
use Rattle.report_law.specs.ReportLines.{IsLawfulAt, ReportLine, event, judged, life_lines, log, logged, multi, placed, plain, start, steps_lines}
use Rattle.report_law.specs.Steps.{Judged}
use Rattle.report_check.specs.Walk.{IsFirstBroken}
use Rattle.report_check.proofs.Walks.{all_append, broken_first, broken_left, broken_right}
use Rattle.reply_lines.specs.Known.{IsKnown}
use Rattle.reply_lines.specs.declared.known.Known.{Known}
use Rattle.checkpoint_rules.specs.Noting.{IsReached}
use Rattle.report_check.specs.Stepping.{noting_of}
use Rattle.report_check.specs.Walked.{IsWalked, behind_steps}
use Rattle.report_check.specs.declared.walked.Walked.{Walked}
use Rattle.report_check.specs.declared.walked.Walked.TheVariants as walks
use Rattle.report_check.proofs.Judging.{as_started, legal_so_far, multis_so_far, never_true}

-- ---- parts

pub lawful_both : (xs ys : List ReportLine) (w : Walked) (count lines sum : ℕ) → w ≡ walks.Lawful lines → sum ≡ count + lines → AllByRecursion IsLawfulAt xs → count ≡ length xs → IsWalked ys w → AllByRecursion IsLawfulAt (xs ++ ys) × (sum ≡ length (xs ++ ys))
lawful_both xs ys w count lines sum is sum_is a size b =
    let rest : AllByRecursion IsLawfulAt ys × (lines ≡ length ys) = subst (IsWalked ys) is b in
    let many = rest.1 in
    let all : length (xs ++ ys) ≡ length xs + length ys = length-append xs ys in
    (all_append xs ys a rest.0, omega arith)

pub broken_behind : (xs ys : List ReportLine) (w : Walked) (count lines sum : ℕ) → w ≡ walks.Broken lines → sum ≡ count + lines → AllByRecursion IsLawfulAt xs → count ≡ length xs → IsWalked ys w → IsFirstBroken (xs ++ ys) sum
broken_behind xs ys w count lines sum is sum_is a size b =
    let broken : IsFirstBroken ys lines = subst (IsWalked ys) is b in
    let whole : length xs + lines ≡ sum = omega arith in
    subst (λ k. IsFirstBroken (xs ++ ys) k) whole (broken_right xs ys lines a broken)

pub broken_before : (xs ys : List ReportLine) (w : Walked) (lines : ℕ) → w ≡ walks.Broken lines → IsWalked xs w → IsFirstBroken (xs ++ ys) lines
broken_before xs ys w lines is b = broken_left xs ys lines (subst (IsWalked xs) is b)

pub lawful_part : (xs : List ReportLine) (w : Walked) (lines : ℕ) → w ≡ walks.Lawful lines → IsWalked xs w → AllByRecursion IsLawfulAt xs × (lines ≡ length xs)
lawful_part xs w lines is b = subst (IsWalked xs) is b

-- ---- the histories, where their lines are lawful

module _ (j : Judged) where
  pub whole_legal : AllByRecursion IsLawfulAt (plain ∷ placed (event j) 0 j.life.events) → IsLegal j.begun.counters j.life.events
  whole_legal a =
      let all : take (length j.life.events) j.life.events ≡ j.life.events = all_taken (length j.life.events) j.life.events (omega arith) in
      subst (λ (h : List Event). IsLegal j.begun.counters h) all (legal_so_far j (length j.life.events) (subst (λ (h : List Event). AllByRecursion IsLawfulAt (placed (event j) 0 h)) (sym all) a.1))

  pub whole_multis : AllByRecursion IsLawfulAt (plain ∷ placed (multi j) 0 j.life.multis) → AreLegalMultis j.begun.counters (of_records j.begun.counters j.begun.recorded) j.life.multis
  whole_multis a =
      let all : take (length j.life.multis) j.life.multis ≡ j.life.multis = all_taken (length j.life.multis) j.life.multis (omega arith) in
      subst (λ (h : List MultiEvent). AreLegalMultis j.begun.counters (of_records j.begun.counters j.begun.recorded) h) all
      (multis_so_far j (length j.life.multis) (subst (λ (h : List MultiEvent). AllByRecursion IsLawfulAt (placed (multi j) 0 h)) (sym all) a.1))

  -- both fronts are whole
  pub whole_reached : (k : Known) → IsKnown j k → IsLegal j.begun.counters j.life.events → AreLegalMultis j.begun.counters (of_records j.begun.counters j.begun.recorded) j.life.multis → IsReached (noting_of j j.steps k.multi_places.events) k.places
  whole_reached k known legal multis =
      let h : List Event = j.life.events in
      let ms : List MultiEvent = j.life.multis in
      let f = known.front in
      let m = known.multi_front in
      let begins = as_started j k.multi_places.starts known.offsets ms multis in
      let own : IsLegal k.places.base k.places.events =
      subst (λ (b : Counters). IsLegal b k.places.events) (sym f.base_is) (subst (λ (t : List Event). IsLegal j.begun.counters t) (sym f.events_are) (legal_take j.begun.counters h (length k.places.events) legal)) in
      let own_multis : AreLegalMultis k.multi_places.base (BeginsAs k.multi_places.starts) k.multi_places.events =
      subst (λ (b : Counters). AreLegalMultis b (BeginsAs k.multi_places.starts) k.multi_places.events) (sym m.base_is)
      (subst (λ (t : List MultiEvent). AreLegalMultis j.begun.counters (BeginsAs k.multi_places.starts) t) (sym m.events_are) (front_legal k ms (length k.multi_places.events) begins)) in
      let all : take (length h) h ≡ h = all_taken (length h) h (omega arith) in
      let all_multis : take (length ms) ms ≡ ms = all_taken (length ms) ms (omega arith) in
      let a : length h ≤ length k.places.events = (legal_to j.begun.counters h k.places f own (length h) (omega arith)).1 (subst (λ (t : List Event). IsLegal j.begun.counters t) (sym all) legal) in
      let b : length ms ≤ length k.multi_places.events =
      (multis_legal_to j.begun.counters k.multi_places.starts ms k.multi_places m own_multis (length ms) (omega arith)).1
      (subst (λ (t : List MultiEvent). AreLegalMultis j.begun.counters (BeginsAs k.multi_places.starts) t) (sym all_multis) begins) in
      let c = count_by-le-length (has_line (flat_map lines_in j.steps)) h in
      let d = count_by-le-length (has_multi_line (flat_map lines_in j.steps)) ms in
      record { events = omega arith; multis = omega arith }
    where
      front_legal : (k : Known) (ms : List MultiEvent) (n : ℕ) → AreLegalMultis j.begun.counters (BeginsAs k.multi_places.starts) ms → AreLegalMultis j.begun.counters (BeginsAs k.multi_places.starts) (take n ms)
      front_legal k ms n l = each_place_start (MultiMayCome j.begun.counters (BeginsAs k.multi_places.starts)) (take n ms) (drop n ms) (subst (AreLegalMultis j.begun.counters (BeginsAs k.multi_places.starts)) (sym (take-append-drop n ms)) l)

-- ---- the whole life

pub life_split : (before : List LifeReport) (r : LifeReport) → life_lines before r ≡ (start before r.life ∷ []) ++ (steps_lines (judged before r) [] r.steps ++ behind_steps r.crash (judged before r))
life_split before r =
    let j : Judged = judged before r in
    let s : List ReportLine = start before r.life ∷ steps_lines j [] r.steps in
    let e : List ReportLine = plain ∷ placed (event j) 0 r.life.events in
    let m : List ReportLine = plain ∷ placed (multi j) 0 r.life.multis in
    let l : List ReportLine = log r.crash j ∷ placed (logged j) 0 r.life.recs in
    let parts : life_lines before r ≡ (((s ++ e) ++ m) ++ l) ++ plain ∷ [] = refl in
    parts ∙ append_assoc ((s ++ e) ++ m) l (plain ∷ []) ∙ append_assoc (s ++ e) m (l ++ plain ∷ []) ∙ append_assoc s e (m ++ (l ++ plain ∷ []))

-- what `behind` tells
abbrev pub Joins : ℕ → Walked → Walked → Type 0
Joins count v w = (xs ys : List ReportLine) → AllByRecursion IsLawfulAt xs → count ≡ length xs → IsWalked ys v → IsWalked (xs ++ ys) w

pub joined : (r : Result Walked Memory) (count : ℕ) (v : Walked) (xs ys : List ReportLine) → IfOk r (Joins count v) → AllByRecursion IsLawfulAt xs → count ≡ length xs → IsWalked ys v → IfOk r (IsWalked (xs ++ ys))
joined r count v xs ys h a s b = IfOk-weaker r (Joins count v) (IsWalked (xs ++ ys)) (λ w f. f xs ys a s b) h

abbrev pub Ends : Walked → Walked → Type 0
Ends v w = (xs : List ReportLine) → IsWalked xs v → IsWalked (xs ++ plain ∷ []) w

pub ended : (r : Result Walked Memory) (v : Walked) (xs : List ReportLine) → IfOk r (Ends v) → IsWalked xs v → IfOk r (IsWalked (xs ++ plain ∷ []))
ended r v xs h b = IfOk-weaker r (Ends v) (IsWalked (xs ++ plain ∷ [])) (λ w f. f xs b) h

pub log_broken : (crash : Option How) (j : Judged) (rest : List ReportLine) (life : Life) (b : Bool) → life ≡ j.life → b ≡ false → (IsTrue b ↔ IsLawfulLog crash life) → IsFirstBroken (log crash j ∷ rest) 0
log_broken crash j rest life b is isnt f = broken_first (log crash j) rest (λ l. never_true b (IsLawfulLog crash life) isnt f (subst (IsLawfulLog crash) (sym is) l))

pub few_of : {X : Type 0} (P : X → Type 0) (xs : List X) → AllByRecursion P xs → All P xs
few_of P [] a k d l = absurd (omega arith)
few_of P (x ∷ xs) a zero d l = a.0
few_of P (x ∷ xs) a (suc k) d l = few_of P xs a.1 k d (omega arith)

pub life_whole : (before : List LifeReport) (r s : LifeReport) (begun : Begun) (result : Result Walked Memory) (v : Walked) → begun ≡ begun_from before r.life → r ≡ s → IsLawfulStart before r.life → IfOk result (Joins 1 v)
    → IsWalked (steps_lines (record { begun = begun; life = s.life; steps = s.steps }) [] s.steps ++ behind_steps r.crash (record { begun = begun; life = s.life; steps = s.steps })) v → IfOk result (IsWalked (life_lines before r))
life_whole before r s begun result v is same lawful h b =
    let rest : LifeReport → Begun → List ReportLine = λ (x : LifeReport) (y : Begun). steps_lines (record { begun = y; life = x.life; steps = x.steps }) [] x.steps ++ behind_steps r.crash (record { begun = y; life = x.life; steps = x.steps }) in
    let own : IsWalked (rest r begun) v = subst (λ (x : LifeReport). IsWalked (rest x begun) v) (sym same) b in
    let its : IsWalked (rest r (begun_from before r.life)) v = subst (λ (y : Begun). IsWalked (rest r y) v) is own in
    subst (λ (t : List ReportLine). IfOk result (IsWalked t)) (sym (life_split before r)) (joined result 1 v (start before r.life ∷ []) (rest r (begun_from before r.life)) h (lawful, tt) refl its)
