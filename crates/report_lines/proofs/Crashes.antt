-- The lines of crashes.
use Rattle.std.proofs.Common.{◌≡◌, ℕ, List, Bool, true, false, cond, Option, Some, None, IfSome, refl, ap, ◌∙◌}
use Rattle.std.specs.Str.{bytes_eq}
use Rattle.std.proofs.lemmas.Slice.Eq.{bytes_eq-Decides}
use Rattle.report_text.specs.Words.{line_text, more}
use Rattle.report_text.specs.ReportText.{crash_text}
use Rattle.tx_model.specs.declared.report.How.{How}
use Rattle.tx_model.specs.declared.report.How.TheVariants as hows
use Rattle.report_lines.specs.Fixed.{crash_in}

again : (h : How) → crash_in (crash_text (Some h)) ≡ Some h
unfolding crash_text line_text more
again hows.Lost = refl
again hows.Kept = refl
again hows.Torn = refl

pub only : (l : List ℕ) (o : Option How) → o ≡ crash_in l → (h : How) → l ≡ crash_text (Some h) → o ≡ Some h
only l o e h t = e ∙ ap crash_in t ∙ again h

read : (l : List ℕ) (a b c : Bool) → bytes_eq l (crash_text (Some hows.Lost)) ≡ a → bytes_eq l (crash_text (Some hows.Kept)) ≡ b → bytes_eq l (crash_text (Some hows.Torn)) ≡ c → IfSome (cond a (Some hows.Lost) (cond b (Some hows.Kept) (cond c (Some hows.Torn) None))) (λ h. l ≡ crash_text (Some h))
read l true b c e f g = (bytes_eq-Decides l (crash_text (Some hows.Lost))).0 e
read l false true c e f g = (bytes_eq-Decides l (crash_text (Some hows.Kept))).0 f
read l false false true e f g = (bytes_eq-Decides l (crash_text (Some hows.Torn))).0 g
read l false false false e f g = tt

pub found : (l : List ℕ) (o : Option How) → o ≡ crash_in l → IfSome o (λ h. l ≡ crash_text (Some h))
found l o e = rw e (read l (bytes_eq l (crash_text (Some hows.Lost))) (bytes_eq l (crash_text (Some hows.Kept))) (bytes_eq l (crash_text (Some hows.Torn))) refl refl refl)
