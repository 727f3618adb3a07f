-- What a reader answers that prints again and compares.
use Rattle.std.proofs.Common.{◌≡◌, ℕ, ◌↔◌, IsTrue, List, Bool, false, Option, Some, Ok, Err, sym, ◌∙◌, subst}
use Rattle.std.proofs.lemmas.Bool.{false≢true}
use Rattle.report_words.specs.Reading.{Gives, IsOnly}
use Rattle.report_words.specs.declared.unread.Unread.{Unread}
use Rattle.report_words.proofs.Again.{gives_only}
use Rattle.report_words.specs.Texts.{IsLineOf}

pub only_err : {X : Type 0} (read : Option X) (s : Unread) (x : X) → Gives {X = X} (λ y. y) (Err s) read → read ≡ Some x → IsOnly {X = X} (Err s) x
only_err {X} read s x g e = gives_only {X = X} (Err s) read x g e

pub only_ok : {X : Type 0} (read : Option X) (y x : X) → Gives {X = X} (λ z. z) (Ok y) read → read ≡ Some x → y ≡ x
only_ok {X} read y x g e = gives_only {X = X} (Ok y) read x g e

-- the line isn't that of y, so it is none's
pub only_no : {X : Type 0} (fits : X → Type 0) (text : X → List ℕ) (line : List ℕ) (read : Option X) (y x : X) (b : Bool) → Gives {X = X} (λ z. z) (Ok y) read → IsTrue b ↔ IsLineOf fits text line y → b ≡ false → read ≡ Some x → IsLineOf fits text line x → ⊥
only_no {X} fits text line read y x b g w e f t = false≢true (sym e ∙ w.1 (subst (λ z. IsLineOf fits text line z) (sym (only_ok read y x g f)) t))
