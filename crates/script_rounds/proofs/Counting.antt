-- What is counted of lines, and of more.
use Rattle.std.proofs.Common.{◌≡◌, ℕ, ◌+◌, ◌-◌, ◌^◌, ◌<◌, List, [], ◌∷◌, ◌++◌, arith, length, length-append, min}
use Rattle.tx_model.specs.declared.report.Line.{Line}
use Rattle.run_law.specs.Counting.{is_verdict}
use Rattle.run_law.proofs.PartSums.{count_join, count_push}
use Rattle.script_rounds.specs.Counted.{capped, verdict_count, verdicts_in}

pub capped_few : (n count : ℕ) → count ≡ capped n → n < 2 ^ 64 → count ≡ n
capped_few n count e few = omega (arith, e, few)

-- the counts with a line more
pub counted_push : (lines : List Line) (l : Line) (commands verdicts : ℕ) → commands ≡ capped (length lines) → verdicts ≡ capped (verdicts_in lines)
    → (min (commands + 1) (2 ^ 64 - 1) ≡ capped (length (lines ++ l ∷ []))) × (min (verdicts + verdict_count l.reply) (2 ^ 64 - 1) ≡ capped (verdicts_in (lines ++ l ∷ [])))
counted_push lines l commands verdicts many told =
    let size = length-append lines (l ∷ []) in
    let more : verdicts_in (lines ++ l ∷ []) ≡ verdicts_in lines + verdict_count l.reply = count_push (λ (x : Line). is_verdict x.reply) lines l in
    (omega (arith, many, size), omega (arith, told, more))

-- and with others
pub counted_both : (xs ys : List Line) (c d e f : ℕ) → c ≡ capped (length xs) → d ≡ capped (verdicts_in xs) → e ≡ capped (length ys) → f ≡ capped (verdicts_in ys)
    → (min (c + e) (2 ^ 64 - 1) ≡ capped (length (xs ++ ys))) × (min (d + f) (2 ^ 64 - 1) ≡ capped (verdicts_in (xs ++ ys)))
counted_both xs ys c d e f c_is d_is e_is f_is =
    let size = length-append xs ys in
    let more : verdicts_in (xs ++ ys) ≡ verdicts_in xs + verdicts_in ys = count_join (λ (l : Line). is_verdict l.reply) xs ys in
    (omega (arith, c_is, e_is, size), omega (arith, d_is, f_is, more))
