-- The lines of multixact events are those that a report prints.
use Rattle.std.proofs.Common.{◌≡◌, ℕ, ◌<◌, ◌^◌, List, [], ◌∷◌, ◌++◌, Option, Result, IfOk, IfSome, refl, sym, ap, ◌∙◌, subst, codes}
use Rattle.std.specs.Fmt.{decimal}
use Rattle.tx_events.specs.declared.event.By.{By}
use Rattle.tx_events.specs.declared.multi.Member.{Member}
use Rattle.tx_events.specs.declared.multi.MultiEvent.{MultiEvent}
use Rattle.tx_events.specs.declared.multi.MultiEvent.TheVariants as multis
use Rattle.report_text.specs.Words.{more}
use Rattle.report_text.specs.EventText.{multi_event_word}
use Rattle.report_text.specs.MemberText.{member_word, member_words}
use Rattle.report_words.specs.Fits.{FitsBy, FitsMember, FitsMulti, FitsMultiEvent}
use Rattle.report_words.specs.Texts.{IsLineOf, multi_line}
use Rattle.report_usual.specs.Usual.{AreInFront, by_front}
use Rattle.report_usual.proofs.Exchanges.{event_text, last_word, word_before}

abbrev Names : Type 0
Names = List (List ℕ)

abbrev Tells : Names → List ℕ → MultiEvent → Type 0
Tells names line e = IsLineOf (FitsMultiEvent names) (multi_line names) line e

pub is_held : (names : Names) (rest : List ℕ) (by : By) (multi : ℕ) → rest ≡ by_front names by (32 ∷ decimal multi ++ 10 ∷ []) → FitsBy names by → FitsMulti multi → IsLineOf (FitsMultiEvent names) (multi_line names) (codes "hold " ++ rest) (multis.Hold by multi)
unfolding multi_event_word
is_held names rest by multi e f g = record { fit = (f, g); text = event_text names (codes "hold") rest _ by (decimal multi ∷ []) e (last_word (decimal multi)) }

pub is_unheld : (names : Names) (rest : List ℕ) (by : By) (multi : ℕ) → rest ≡ by_front names by (32 ∷ decimal multi ++ 10 ∷ []) → FitsBy names by → FitsMulti multi → IsLineOf (FitsMultiEvent names) (multi_line names) (codes "unhold " ++ rest) (multis.Unhold by multi)
unfolding multi_event_word
is_unheld names rest by multi e f g = record { fit = (f, g); text = event_text names (codes "unhold") rest _ by (decimal multi ∷ []) e (last_word (decimal multi)) }

given : (names : Names) (bytes r₁ r₂ r₃ : List ℕ) (by : By) (n multi offset : ℕ) (list : List Member) → bytes ≡ by_front names by (32 ∷ decimal n ++ r₁) → FitsBy names by → (multi ≡ n) × FitsMulti multi → r₁ ≡ 32 ∷ (decimal offset ++ r₂) → offset < 2 ^ 64 → AreInFront member_word FitsMember r₂ list r₃ → r₃ ≡ 10 ∷ [] → Tells names (codes "gen " ++ bytes) (multis.Gen by multi offset list)
unfolding multi_event_word
given names bytes r₁ r₂ r₃ by n multi offset list e f m g small a h =
    let s₂ : r₂ ≡ more (member_words list) ++ 10 ∷ [] = a.text ∙ ap (λ t. more (member_words list) ++ t) h in
    let s₁ : r₁ ≡ more (decimal offset ∷ member_words list) ++ 10 ∷ [] = g ∙ word_before (decimal offset) (member_words list) r₂ s₂ in
    record {
      fit = (f, m.1, small, a.each);
      text = event_text names (codes "gen") bytes _ by (decimal multi ∷ decimal offset ∷ member_words list) e
          (ap (λ (v : ℕ). 32 ∷ (decimal v ++ r₁)) (sym m.0) ∙ word_before (decimal multi) (decimal offset ∷ member_words list) r₁ s₁);
    }

pub is_generated : (names : Names) (bytes r₁ r₂ r₃ : List ℕ) (by kept : By) (n multi offset : ℕ) (list members : List Member) → bytes ≡ by_front names by (32 ∷ decimal n ++ r₁) → FitsBy names by → (multi ≡ n) × FitsMulti multi → r₁ ≡ 32 ∷ (decimal offset ++ r₂) → offset < 2 ^ 64 → AreInFront member_word FitsMember r₂ list r₃ → r₃ ≡ 10 ∷ [] → kept ≡ by → members ≡ list → IsLineOf (FitsMultiEvent names) (multi_line names) (codes "gen " ++ bytes) (multis.Gen kept multi offset members)
is_generated names bytes r₁ r₂ r₃ by kept n multi offset list members e f m g small a h p q =
    subst (λ (b : By). Tells names (codes "gen " ++ bytes) (multis.Gen b multi offset members)) (sym p)
    (subst (λ (l : List Member). Tells names (codes "gen " ++ bytes) (multis.Gen by multi offset l)) (sym q)
    (given names bytes r₁ r₂ r₃ by n multi offset list e f m g small a h))

-- what is found behind a piece is found
pub event_behind : (names : Names) (r : Option MultiEvent) (line piece tail : List ℕ) → line ≡ piece ++ tail → IfSome r (λ x. IsLineOf (FitsMultiEvent names) (multi_line names) (piece ++ tail) x) → IfSome r (λ x. IsLineOf (FitsMultiEvent names) (multi_line names) line x)
event_behind names r line piece tail e h = subst (λ t. IfSome r (λ x. IsLineOf (FitsMultiEvent names) (multi_line names) t x)) (sym e) h

pub given_behind : {E : Type 0} (names : Names) (r : Result (Option MultiEvent) E) (line piece tail : List ℕ) → line ≡ piece ++ tail → IfOk r (λ found. IfSome found (λ x. IsLineOf (FitsMultiEvent names) (multi_line names) (piece ++ tail) x)) → IfOk r (λ found. IfSome found (λ x. IsLineOf (FitsMultiEvent names) (multi_line names) line x))
given_behind names r line piece tail e h = subst (λ t. IfOk r (λ found. IfSome found (λ x. IsLineOf (FitsMultiEvent names) (multi_line names) t x))) (sym e) h
