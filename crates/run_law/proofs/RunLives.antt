-- The lives of a run, one more.
use Rattle.std.proofs.Common.{◌≡◌, ◌≢◌, ℕ, ◌+◌, Bool, IsTrue, List, [], ◌∷◌, ◌++◌, ap, append-nil, append_assoc, arith, length, refl, sym, ◌∙◌}
use Rattle.std.specs.List.{flat_map}
use Rattle.tx_events.proofs.ListSteps.{all_push}
use Rattle.tx_model.specs.declared.report.LifeReport.{LifeReport}
use Rattle.tx_model.specs.declared.report.Report.{Report}
use Rattle.life_law.specs.LawfulLife.{IsLawfulLife}
use Rattle.report_law.specs.Lives.{GoesBehind}
use Rattle.report_law.proofs.GoingOn.{go_on_push}
use Rattle.report_text.specs.ReportText.{end_text, life_line, life_text, lives_text, report_text, rest_text, step_text, title_text}
use Rattle.session_lang.specs.Rounds.{asked_of}
use Rattle.run_law.specs.Lives.{AreLivesOf, AreRunLives, BeginRun, BeginsRun, BeginsWithBase, IsFrontOf, LifePart, RunStart, last_text, life_rest, text_so_far}

-- ---- the lives

of_push : (tells : Bool) (banks : ℕ) (done : List LifePart) (lives : List LifeReport) (p : LifePart) (r : LifeReport) → AreLivesOf tells banks done lives → IsLawfulLife tells banks (asked_of p.items) r → r.crash ≡ p.crash → AreLivesOf tells banks (done ++ p ∷ []) (lives ++ r ∷ [])
of_push tells banks [] [] p r of lawful crash = (lawful, crash, tt)
of_push tells banks (q ∷ done) (s ∷ lives) p r of lawful crash = (of.0, of.1, of_push tells banks done lives p r of.2 lawful crash)
of_push tells banks [] (s ∷ lives) p r of lawful crash = absurd of
of_push tells banks (q ∷ done) [] p r of lawful crash = absurd of

begin_push : (start : RunStart) (lives : List LifeReport) (r : LifeReport) → BeginRun start lives → (lives ≡ [] → BeginsRun start r.life) → BeginRun start (lives ++ r ∷ [])
begin_push start [] r begin first = first refl
begin_push start (s ∷ lives) r begin first = begin

pub run_lives_push : (tells : Bool) (banks : ℕ) (start : RunStart) (done : List LifePart) (lives : List LifeReport) (p : LifePart) (r : LifeReport) → AreRunLives tells banks start done lives → IsLawfulLife tells banks (asked_of p.items) r → r.crash ≡ p.crash
    → (lives ≡ [] → BeginsRun start r.life) → BeginsWithBase r → (IsTrue tells → GoesBehind lives r.life) → AreRunLives tells banks start (done ++ p ∷ []) (lives ++ r ∷ [])
run_lives_push tells banks start done lives p r are lawful crash first base behind = record {
  of = of_push tells banks done lives p r are.of lawful crash;
  begin = begin_push start lives r are.begin first;
  bases = all_push BeginsWithBase lives r are.bases base;
  go_on = λ told. go_on_push lives r (are.go_on told) (behind told);
}

-- ---- their text

lives_push : (names : List (List ℕ)) (n : ℕ) (ls : List LifeReport) (l : LifeReport) → lives_text names n (ls ++ l ∷ []) ≡ lives_text names n ls ++ life_text names (n + length ls) l
unfolding lives_text
lives_push names n [] l = let z : n + 0 ≡ n = omega arith in append-nil (life_text names n l) ∙ ap (λ k. life_text names k l) (sym z)
lives_push names n (q ∷ ls) l =
    let z : n + 1 + length ls ≡ n + length (q ∷ ls) = omega arith in
    ap (λ t. life_text names n q ++ t) (lives_push names (n + 1) ls l ∙ ap (λ k. lives_text names (n + 1) ls ++ life_text names k l) z)
    ∙ sym (append_assoc (life_text names n q) (lives_text names (n + 1) ls) (life_text names (n + length (q ∷ ls)) l))

lives_one : (names : List (List ℕ)) (n : ℕ) (l : LifeReport) → lives_text names n (l ∷ []) ≡ life_text names n l
unfolding lives_text
lives_one names n l = append-nil (life_text names n l)

joined : (a b c d e : List ℕ) → (a ++ ((b ++ c) ++ d)) ++ e ≡ a ++ (b ++ (c ++ (d ++ e)))
joined a b c d e =
    append_assoc a ((b ++ c) ++ d) e
    ∙ ap (λ (t : List ℕ). a ++ t) (append_assoc (b ++ c) d e ∙ append_assoc b c (d ++ e))

-- behind the text so far the text of a life is that with this life
pub so_far_push : (names : List (List ℕ)) (lives : List LifeReport) (r : LifeReport) (number : ℕ) (front : List ℕ) → number ≡ length lives + 1 → IsFrontOf number r.life.from r.life.base front
    → text_so_far names lives ++ (front ++ life_rest names r) ≡ text_so_far names (lives ++ r ∷ []) ++ last_text r.crash
so_far_push names [] r number front count is =
    let one : number ≡ 1 = omega (arith, count) in
    let line = life_line 1 r.life.from r.life.base in
    let told = flat_map (step_text names) r.steps in
    let rest = rest_text names r.life r.crash in
    ap (λ t. t ++ life_rest names r) (is.first one)
    ∙ (append_assoc title_text line (life_rest names r)
    ∙ (sym (joined title_text line told rest (last_text r.crash))
    ∙ ap (λ t. (title_text ++ t) ++ last_text r.crash) (sym (lives_one names 1 r))))
so_far_push names (q ∷ lives) r number front count is =
    let other : number ≢ 1 = λ e. omega (arith, count, e) in
    let place : number ≡ 1 + length (q ∷ lives) = omega (arith, count) in
    let before = lives_text names 1 (q ∷ lives) in
    let line = life_line number r.life.from r.life.base in
    let told = flat_map (step_text names) r.steps in
    let rest = rest_text names r.life r.crash in
    ap (λ t. (title_text ++ before) ++ (t ++ life_rest names r)) (is.later other)
    ∙ (sym (joined (title_text ++ before) line told rest (last_text r.crash))
    ∙ (ap (λ n. ((title_text ++ before) ++ life_text names n r) ++ last_text r.crash) place
    ∙ (ap (λ t. t ++ last_text r.crash) (append_assoc title_text before (life_text names (1 + length (q ∷ lives)) r))
    ∙ ap (λ t. (title_text ++ t) ++ last_text r.crash) (sym (lives_push names 1 (q ∷ lives) r)))))

-- and behind all lives it is the report's
pub whole_text : (names : List (List ℕ)) (r : LifeReport) (lives : List LifeReport) → text_so_far names (r ∷ lives) ++ end_text ≡ report_text (record { names = names; lives = r ∷ lives })
whole_text names r lives = refl
