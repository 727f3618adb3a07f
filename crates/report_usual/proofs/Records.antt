-- The lines of records are those that a report prints.
use Rattle.std.proofs.Common.{◌≡◌, ℕ, ◌<◌, ◌^◌, List, [], ◌∷◌, ◌++◌, Option, Result, IfOk, IfSome, refl, sym, ap, ◌∙◌, subst, codes}
use Rattle.std.specs.Fmt.{decimal}
use Rattle.tx_events.specs.declared.multi.Member.{Member}
use Rattle.tx_events.specs.declared.record.Rec.{Rec}
use Rattle.tx_events.specs.declared.record.Rec.TheVariants as records
use Rattle.report_text.specs.Words.{more, numbers}
use Rattle.report_text.specs.MemberText.{member_word, member_words}
use Rattle.report_words.specs.Fits.{FitsId, FitsMember, FitsMulti, FitsRecord}
use Rattle.report_words.specs.Texts.{IsLineOf, record_line}
use Rattle.report_usual.specs.Usual.{AreInFront}
use Rattle.report_usual.proofs.Exchanges.{line_of, word_before}

abbrev Tells : ℕ → List ℕ → Rec → Type 0
Tells number line r = IsLineOf (FitsRecord number) (record_line number) line r

pub is_commit : (number : ℕ) (bytes r₁ r₂ subs : List ℕ) (n top : ℕ) → bytes ≡ 32 ∷ (decimal n ++ r₁) → (top ≡ n) × FitsId top → AreInFront decimal FitsId r₁ subs r₂ → r₂ ≡ 10 ∷ [] → IsLineOf (FitsRecord number) (record_line number) (decimal number ++ (codes " commit" ++ bytes)) (records.Commit top subs)
is_commit number bytes r₁ r₂ subs n top e f a g =
    let s₁ : r₁ ≡ more (numbers subs) ++ 10 ∷ [] = a.text ∙ ap (λ t. more (numbers subs) ++ t) g in
    let s : bytes ≡ more (decimal top ∷ numbers subs) ++ 10 ∷ [] = e ∙ ap (λ (v : ℕ). 32 ∷ (decimal v ++ r₁)) (sym f.0) ∙ word_before (decimal top) (numbers subs) r₁ s₁ in
    record {
      fit = (f.1, a.each);
      text = ap (λ t. decimal number ++ t) (word_before (codes "commit") (decimal top ∷ numbers subs) bytes s) ∙ line_of (decimal number) (codes "commit" ∷ decimal top ∷ numbers subs);
    }

given : (number : ℕ) (bytes r₁ r₂ r₃ : List ℕ) (n multi offset : ℕ) (list : List Member) → bytes ≡ 32 ∷ (decimal n ++ r₁) → (multi ≡ n) × FitsMulti multi → r₁ ≡ 32 ∷ (decimal offset ++ r₂) → offset < 2 ^ 64 → AreInFront member_word FitsMember r₂ list r₃ → r₃ ≡ 10 ∷ [] → Tells number (decimal number ++ (codes " multi" ++ bytes)) (records.Multi multi offset list)
given number bytes r₁ r₂ r₃ n multi offset list e m g small a h =
    let s₂ : r₂ ≡ more (member_words list) ++ 10 ∷ [] = a.text ∙ ap (λ t. more (member_words list) ++ t) h in
    let s₁ : r₁ ≡ more (decimal offset ∷ member_words list) ++ 10 ∷ [] = g ∙ word_before (decimal offset) (member_words list) r₂ s₂ in
    let s : bytes ≡ more (decimal multi ∷ decimal offset ∷ member_words list) ++ 10 ∷ [] = e ∙ ap (λ (v : ℕ). 32 ∷ (decimal v ++ r₁)) (sym m.0) ∙ word_before (decimal multi) (decimal offset ∷ member_words list) r₁ s₁ in
    record {
      fit = (m.1, small, a.each);
      text = ap (λ t. decimal number ++ t) (word_before (codes "multi") (decimal multi ∷ decimal offset ∷ member_words list) bytes s) ∙ line_of (decimal number) (codes "multi" ∷ decimal multi ∷ decimal offset ∷ member_words list);
    }

pub is_generated : (number : ℕ) (bytes r₁ r₂ r₃ : List ℕ) (n multi offset : ℕ) (list members : List Member) → bytes ≡ 32 ∷ (decimal n ++ r₁) → (multi ≡ n) × FitsMulti multi → r₁ ≡ 32 ∷ (decimal offset ++ r₂) → offset < 2 ^ 64 → AreInFront member_word FitsMember r₂ list r₃ → r₃ ≡ 10 ∷ [] → members ≡ list → IsLineOf (FitsRecord number) (record_line number) (decimal number ++ (codes " multi" ++ bytes)) (records.Multi multi offset members)
is_generated number bytes r₁ r₂ r₃ n multi offset list members e m g small a h q =
    subst (λ (l : List Member). Tells number (decimal number ++ (codes " multi" ++ bytes)) (records.Multi multi offset l)) (sym q) (given number bytes r₁ r₂ r₃ n multi offset list e m g small a h)

-- what is found behind a record's number and a word is found
pub record_behind : {E : Type 0} (r : Result (Option Rec) E) (number told : ℕ) (line rest piece tail : List ℕ) → line ≡ decimal told ++ rest → told ≡ number → rest ≡ piece ++ tail → IfOk r (λ found. IfSome found (λ x. IsLineOf (FitsRecord number) (record_line number) (decimal number ++ (piece ++ tail)) x)) → IfOk r (λ found. IfSome found (λ x. IsLineOf (FitsRecord number) (record_line number) line x))
record_behind r number told line rest piece tail e s f h =
    subst (λ t. IfOk r (λ found. IfSome found (λ x. IsLineOf (FitsRecord number) (record_line number) t x))) (sym (e ∙ ap (λ (v : ℕ). decimal v ++ rest) s ∙ ap (λ t. decimal number ++ t) f)) h
