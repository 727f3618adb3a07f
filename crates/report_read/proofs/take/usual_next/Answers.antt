use Rattle.std.proofs.Common.{◌≡◌, ℕ, ◌+◌, ◌<◌, ◌^◌, List, Option, Result, Ok, Err, Some, None, IfOk, IfSome, refl, ap, ◌∙◌, subst, length, arith}
use Rattle.tx_events.specs.declared.record.Rec.{Rec}
use Rattle.report_words.specs.Fits.{FitsRecord}
use Rattle.report_words.specs.Texts.{IsLineOf, record_line}
use Rattle.report_read.specs.declared.told.Told.{Told}
use Rattle.report_read.specs.Grammar.{Rule}
use Rattle.report_read.specs.Item as items
use Rattle.report_read.proofs.take.usual_next.Goals as goal

ruled : {E : Type 0} (r : Result (Option Rec) E) (t : Told) (n : ℕ) (line : List ℕ) → n ≡ t.start.from + length t.recs → n < 2 ^ 64 → IfOk r (λ found. IfSome found (λ x. IsLineOf (FitsRecord n) (record_line n) line x)) → IfOk r (λ found. IfSome found (λ x. Rule t (items.logged (t.start.from + length t.recs) x) t.names))
ruled (Ok (Some x)) t n line e l h = (refl, refl, subst (λ (k : ℕ). k < 2 ^ 64) e l, subst (λ (k : ℕ). FitsRecord k x) e h.fit)
ruled (Ok None) t n line e l h = tt
ruled (Err u) t n line e l h = tt

told : {E : Type 0} (r : Result (Option Rec) E) (t : Told) (n : ℕ) (line : List ℕ) → n ≡ t.start.from + length t.recs → IfOk r (λ found. IfSome found (λ x. IsLineOf (FitsRecord n) (record_line n) line x)) → IfOk r (λ found. IfSome found (λ x. line ≡ record_line (t.start.from + length t.recs) x))
told (Ok (Some x)) t n line e h = h.text ∙ ap (λ (k : ℕ). record_line k x) e
told (Ok None) t n line e h = tt
told (Err u) t n line e h = tt

pub returns-in-Some-clause-rule : goal.returns-in-Some-clause-rule
returns-in-Some-clause-rule c =
    let s = c.in-Some in
    let small : s.number < 2 ^ 64 = omega arith in
    ruled c.usual_record.result c.args.told.now s.number c.args.line.now s.ensures.some small c.usual_record.ensures

pub returns-in-Some-clause-text : goal.returns-in-Some-clause-text
returns-in-Some-clause-text c = told c.usual_record.result c.args.told.now c.in-Some.number c.args.line.now c.in-Some.ensures.some c.usual_record.ensures
