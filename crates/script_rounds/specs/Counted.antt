-- What is counted of lines.
use Rattle.std.specs.Prelude.{ℕ, ◌-◌, ◌^◌, List, cond, min}
use Rattle.std.specs.List.{count_by}
use Rattle.tx_model.specs.declared.reply.Reply.{Reply}
use Rattle.tx_model.specs.declared.report.Line.{Line}
use Rattle.run_law.specs.Counting.{is_verdict}

-- 1 for a verdict
abbrev pub verdict_count : Reply → ℕ
verdict_count reply = cond (is_verdict reply) 1 0

-- those whose reply is a verdict
abbrev pub verdicts_in : List Line → ℕ
verdicts_in lines = count_by (λ l. is_verdict l.reply) lines

-- a count, which stops at the greatest 64-bit number
abbrev pub capped : ℕ → ℕ
capped n = min n (2 ^ 64 - 1)
