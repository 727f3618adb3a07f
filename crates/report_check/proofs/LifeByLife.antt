-- From life to life.
use Rattle.std.proofs.Common.{◌≡◌, ◌↔◌, ℕ, suc, zero, ◌+◌, ◌<◌, ◌≤◌, List, [], ◌∷◌, ◌++◌, Option, Some, None, get_or, length, take, refl, sym, ap, subst, ◌∙◌, arith}
use Rattle.std.specs.List.{AllByRecursion, slice_get}
use Rattle.std.proofs.lemmas.List.{append-nil, length-append}
use Rattle.std.proofs.lemmas.Option.{slice_get-get_or}
use Rattle.tx_model.specs.declared.report.LifeReport.{LifeReport}
use Rattle.report_law.specs.Begun.{begun_from}
use Rattle.report_law.specs.ReportLines.{IsLawfulAt, ReportLine, life_lines, lives_lines}
use Rattle.life_tables.specs.Numbered.{IsNumbered}
use Rattle.report_check.specs.Walk.{IsFirstBroken}
use Rattle.report_check.proofs.Sections.{lives_broken}
use Rattle.report_check.proofs.Walks.{lives_append}
use Rattle.event_rules.proofs.Fronting.{all_taken, one_more}
use Rattle.report_check.specs.Found.{IsTextJudgedAs}
use Rattle.report_check.specs.Judgement.{IsFirstUnlawful, IsLawfulText}
use Rattle.report_check.specs.Keeping.{IsLeft, IsLeftBefore, IsNothingKept}
use Rattle.reply_lines.specs.declared.known.Kept.{Kept}
use Rattle.report_check.proofs.Once.{first_not_lawful, one_first}

pub numbered_at : (lives : List LifeReport) (p : ℕ) (r : LifeReport) → AllByRecursion IsNumbered lives → slice_get lives p ≡ Some r → IsNumbered r
numbered_at [] p r a e = absurd cc
numbered_at (x ∷ lives) zero r a e = let same : x ≡ r = cc in subst IsNumbered same a.0
numbered_at (x ∷ lives) (suc p) r a e = numbered_at lives p r a.1 e

-- the life at this place
pub life_at : (lives : List LifeReport) (p : ℕ) (r : LifeReport) → p < length lives → r ≡ get_or lives p r → slice_get lives p ≡ Some r
life_at lives p r l is = slice_get-get_or lives p r l ∙ ap (λ (x : LifeReport). Some x) (sym is)

-- before the first life
pub left_first : (kept : Kept) → IsNothingKept kept → IsLeftBefore [] kept
left_first kept n = record { first = λ e. n; later = λ before last e. absurd (never before last e) }
  where
    never : (before : List LifeReport) (last : LifeReport) → [] ≡ before ++ last ∷ [] → ⊥
    never [] last e = cc
    never (x ∷ before) last e = cc

same_end : (xs ys : List LifeReport) (x y : LifeReport) → xs ++ x ∷ [] ≡ ys ++ y ∷ [] → (xs ≡ ys) × (x ≡ y)
same_end [] [] x y e = (refl, cc)
same_end [] (z ∷ []) x y e = absurd cc
same_end [] (z ∷ w ∷ ys) x y e = absurd cc
same_end (z ∷ []) [] x y e = absurd cc
same_end (z ∷ w ∷ xs) [] x y e = absurd cc
same_end (z ∷ xs) (w ∷ ys) x y e =
    let first : z ≡ w = cc in
    let rest : xs ++ x ∷ [] ≡ ys ++ y ∷ [] = cc in
    let r = same_end xs ys x y rest in
    (ap (λ (t : List LifeReport). z ∷ t) r.0 ∙ ap (λ (t : LifeReport). t ∷ ys) first, r.1)

-- behind one life more
pub left_next : (before : List LifeReport) (r : LifeReport) (kept : Kept) → IsLeft (begun_from before r.life) before kept → IsLeftBefore (before ++ r ∷ []) kept
left_next before r kept l = record {
  first = λ e. absurd (never before e);
  later = λ earlier last e.
      let s = same_end before earlier r last e in
      subst (λ (x : LifeReport). IsLeft (begun_from earlier x.life) earlier kept) s.1 (subst (λ (t : List LifeReport). IsLeft (begun_from t r.life) t kept) s.0 l);
}
  where
    never : (before : List LifeReport) → before ++ r ∷ [] ≡ [] → ⊥
    never [] e = cc
    never (x ∷ before) e = cc

pub left_at : (lives : List LifeReport) (p : ℕ) (r : LifeReport) (kept : Kept) → slice_get lives p ≡ Some r → IsLeft (begun_from (take p lives) r.life) (take p lives) kept → IsLeftBefore (take (p + 1) lives) kept
left_at lives p r kept at l = subst (λ (t : List LifeReport). IsLeftBefore t kept) (sym (one_more p lives r at)) (left_next (take p lives) r kept l)

-- its lines more
pub counted_on : (lives : List LifeReport) (p : ℕ) (r : LifeReport) (old lines new : ℕ) → slice_get lives p ≡ Some r → old ≡ length (lives_lines [] (take p lives)) → lines ≡ length (life_lines (take p lives) r) → new ≡ old + lines
    → new ≡ length (lives_lines [] (take (p + 1) lives))
counted_on lives p r old lines new at so is sum =
    let front : List ReportLine = lives_lines [] (take p lives) in
    let more : lives_lines [] (take (p + 1) lives) ≡ front ++ (life_lines (take p lives) r ++ []) = ap (lives_lines []) (one_more p lives r at) ∙ lives_append [] (take p lives) (r ∷ []) in
    let size : length (lives_lines [] (take (p + 1) lives)) ≡ length front + length (life_lines (take p lives) r) =
    ap length more ∙ length-append front (life_lines (take p lives) r ++ []) ∙ ap (λ (t : List ReportLine). length front + length t) (append-nil (life_lines (take p lives) r)) in
    omega arith

pub all_lives : (lives : List LifeReport) (p : ℕ) → length lives ≤ p → AllByRecursion IsLawfulAt (lives_lines [] (take p lives)) → AllByRecursion IsLawfulAt (lives_lines [] lives)
all_lives lives p l a = subst (λ (t : List LifeReport). AllByRecursion IsLawfulAt (lives_lines [] t)) (all_taken p lives l) a

pub broken_there : (lives : List LifeReport) (p : ℕ) (r : LifeReport) (old n sum : ℕ) → AllByRecursion IsLawfulAt (lives_lines [] (take p lives)) → slice_get lives p ≡ Some r → old ≡ length (lives_lines [] (take p lives)) → sum ≡ old + n
    → IsFirstBroken (life_lines (take p lives) r) n → IsFirstBroken (lives_lines [] lives) sum
broken_there lives p r old n sum a at so is b =
    let whole : length (lives_lines [] (take p lives)) + n ≡ sum = omega arith in
    subst (λ k. IsFirstBroken (lives_lines [] lives) k) whole (lives_broken lives p r n a at b)

-- ---- a text

none_some : {X : Type 0} (n : X) → None ≡ Some n → ⊥
none_some n e = cc

-- what is told of a text is told of no other
pub told_exactly : (bytes : List ℕ) (o : Option ℕ) → IsTextJudgedAs bytes o → ((o ≡ None) ↔ IsLawfulText bytes) × ((n : ℕ) → (o ≡ Some n) ↔ IsFirstUnlawful bytes n)
told_exactly bytes None l = (
  (λ e. l, λ t. refl),
  λ n. (λ e. absurd (none_some n e), λ u. absurd (first_not_lawful bytes n l u)),
)
told_exactly bytes (Some m) u = (
  (λ e. absurd (none_some m (sym e)), λ l. absurd (first_not_lawful bytes m l u)),
  λ n. (λ e. let same : m ≡ n = cc in subst (IsFirstUnlawful bytes) same u, λ v. ap (λ k. Some k) (one_first bytes m n u v)),
)
