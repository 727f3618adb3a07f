-- A text has one judgement.
use Rattle.std.proofs.Common.{◌≡◌, ℕ, zero, suc, ◌+◌, ◌-◌, ◌<◌, ◌≤◌, ◌⊎◌, List, [], ◌∷◌, ◌++◌, length, refl, sym, ap, subst, ◌∙◌, arith, inl, inr, ⊎_elim}
use Rattle.std.specs.List.{AllByRecursion}
use Rattle.std.proofs.lemmas.Bool.{cases_lt}
use Rattle.tx_model.specs.declared.report.Report.{Report}
use Rattle.report_text.specs.ReportText.{report_text}
use Rattle.report_lines.specs.Front.{behind_line, first_line, front}
use Rattle.report_lines.proofs.Fronts.{same_first, same_rest}
use Rattle.report_read.specs.Reports.{IsFirstWrong, IsReport}
use Rattle.report_read.proofs.Reading.{one_report}
use Rattle.report_law.specs.ReportLines.{IsLawfulAt, IsLawfulReport, IsUnlawful}
use Rattle.tx_io.specs.Amounts.{most_bytes}
use Rattle.report_check.specs.Judgement.{BreaksRule, IsFirstUnlawful, IsJudgedOnce, IsLawfulText}

-- ---- the first wrong line

fewer : (m n : ℕ) (a b : List ℕ) → m ≤ n → front n a ≡ front n b → front m a ≡ front m b
fewer zero n a b l e = refl
fewer (suc m) zero a b l e = absurd (omega arith)
fewer (suc m) (suc n) a b l e =
    ap (λ t. t ++ front m (behind_line a)) (same_first n a b e) ∙ ap (λ t. first_line b ++ t) (fewer m n (behind_line a) (behind_line b) (omega arith) (same_rest n a b e))

none_earlier : (bytes : List ℕ) (n m : ℕ) → IsFirstWrong bytes n → IsFirstWrong bytes m → n < m → ⊥
none_earlier bytes n m a b l = a.wrong b.report b.is (fewer n (m - 1) (report_text b.report) bytes (omega arith) b.before)

one_wrong : (bytes : List ℕ) (n m : ℕ) → IsFirstWrong bytes n → IsFirstWrong bytes m → n ≡ m
one_wrong bytes n m a b =
    ⊎_elim (λ (l : n < m). absurd (none_earlier bytes n m a b l))
    (λ (g : m ≤ n). ⊎_elim (λ (l : m < n). absurd (none_earlier bytes m n b a l)) (λ (h : n ≤ m). omega arith) (cases_lt m n))
    (cases_lt n m)

none_wrong : (bytes : List ℕ) (n : ℕ) (r : Report) → IsFirstWrong bytes n → IsReport r → bytes ≡ report_text r → ⊥
none_wrong bytes n r a i e = a.wrong r i (ap (front n) (sym e))

-- ---- the first that breaks its rule

module _ {X : Type 0} (P : X → Type 0) where
  one_place : (a b r s : List X) (x y : X) → a ++ x ∷ r ≡ b ++ y ∷ s → AllByRecursion P a → AllByRecursion P b → (P x → ⊥) → (P y → ⊥) → length a ≡ length b
  one_place [] [] r s x y e p q f g = refl
  one_place [] (z ∷ b) r s x y e p q f g = let same : z ≡ x = cc in absurd (f (subst P same q.0))
  one_place (z ∷ a) [] r s x y e p q f g = let same : z ≡ y = cc in absurd (g (subst P same p.0))
  one_place (z ∷ a) (w ∷ b) r s x y e p q f g = let rest : a ++ x ∷ r ≡ b ++ y ∷ s = cc in ap suc (one_place a b r s x y rest p.1 q.1 f g)

  none_broken : (a r : List X) (x : X) → AllByRecursion P (a ++ x ∷ r) → (P x → ⊥) → ⊥
  none_broken [] r x p f = f p.0
  none_broken (z ∷ a) r x p f = none_broken a r x p.1 f

one_unlawful : (r : Report) (n m : ℕ) → IsUnlawful r n → IsUnlawful r m → n ≡ m
one_unlawful r n m a b =
    let places = one_place IsLawfulAt a.before b.before a.rest b.rest a.line b.line (sym a.lines ∙ b.lines) a.lawful b.lawful a.unlawful b.unlawful in
    a.number ∙ ap (λ (k : ℕ). k + 1) places ∙ sym b.number

one_broken : (bytes : List ℕ) (n m : ℕ) → BreaksRule bytes n → BreaksRule bytes m → n ≡ m
one_broken bytes n m a b =
    let same : a.report ≡ b.report = one_report a.report b.report a.is b.is (sym a.text ∙ b.text) in
    one_unlawful b.report n m (subst (λ (r : Report). IsUnlawful r n) same a.unlawful) b.unlawful

lawful_unbroken : (bytes : List ℕ) (n : ℕ) → IsLawfulText bytes → BreaksRule bytes n → ⊥
lawful_unbroken bytes n l b =
    let same : l.report ≡ b.report = one_report l.report b.report l.is b.is (sym l.text ∙ b.text) in
    let lawful : IsLawfulReport b.report = subst IsLawfulReport same l.lawful in
    none_broken IsLawfulAt b.unlawful.before b.unlawful.rest b.unlawful.line (subst (AllByRecursion IsLawfulAt) b.unlawful.lines lawful) b.unlawful.unlawful

-- ---- both

one_told : (bytes : List ℕ) (n m : ℕ) → IsFirstWrong bytes n ⊎ BreaksRule bytes n → IsFirstWrong bytes m ⊎ BreaksRule bytes m → n ≡ m
one_told bytes n m (inl a) (inl b) = one_wrong bytes n m a b
one_told bytes n m (inl a) (inr b) = absurd (none_wrong bytes n b.report a b.is b.text)
one_told bytes n m (inr a) (inl b) = absurd (none_wrong bytes m a.report b a.is a.text)
one_told bytes n m (inr a) (inr b) = one_broken bytes n m a b

pub one_first : (bytes : List ℕ) (n m : ℕ) → IsFirstUnlawful bytes n → IsFirstUnlawful bytes m → n ≡ m
one_first bytes n m (inl a) (inl b) = a.1 ∙ sym b.1
one_first bytes n m (inl a) (inr b) = let x = a.0 in let y = b.0 in absurd (omega arith)
one_first bytes n m (inr a) (inl b) = let x = a.0 in let y = b.0 in absurd (omega arith)
one_first bytes n m (inr a) (inr b) = one_told bytes n m a.1 b.1

told_not_lawful : (bytes : List ℕ) (n : ℕ) → IsLawfulText bytes → IsFirstWrong bytes n ⊎ BreaksRule bytes n → ⊥
told_not_lawful bytes n l (inl a) = none_wrong bytes n l.report a l.is l.text
told_not_lawful bytes n l (inr b) = lawful_unbroken bytes n l b

pub first_not_lawful : (bytes : List ℕ) (n : ℕ) → IsLawfulText bytes → IsFirstUnlawful bytes n → ⊥
first_not_lawful bytes n l (inl a) = let x = a.0 in let y = l.short in omega arith
first_not_lawful bytes n l (inr b) = told_not_lawful bytes n l b.1

told_counts : (bytes : List ℕ) (n : ℕ) → IsFirstWrong bytes n ⊎ BreaksRule bytes n → 1 ≤ n
told_counts bytes n (inl a) = a.counted
told_counts bytes n (inr b) = let k = b.unlawful.number in omega arith

zero_is_long : (bytes : List ℕ) → IsFirstUnlawful bytes 0 → most_bytes < length bytes
zero_is_long bytes (inl a) = a.0
zero_is_long bytes (inr b) = let k = told_counts bytes 0 b.1 in absurd (omega arith)

pub judged_once : (bytes : List ℕ) → IsJudgedOnce bytes
judged_once bytes = record { one = one_first bytes; never_both = first_not_lawful bytes; zero = zero_is_long bytes }
