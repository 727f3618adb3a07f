-- A life, what it begins from, and what its lines' replies tell.
use Rattle.std.specs.Prelude.{Bool, true, false}
use Rattle.tx_model.specs.declared.reply.Reply.{Reply}
use Rattle.tx_model.specs.declared.reply.Reply.TheVariants as replies
use Rattle.tx_model.specs.declared.report.LifeReport.{LifeReport}
use Rattle.report_law.specs.Begun.{Begun}
use Rattle.report_law.specs.Steps.{Judged}

-- a life, and what it begins from
pub record LifeAt : Type 0 where
  pub begun : Begun
  pub report : LifeReport

abbrev pub judged_life : LifeAt → Judged
judged_life at = record { begun = at.begun; life = at.report.life; steps = at.report.steps }

-- whether the line was answered `ok` with a multixact
abbrev pub is_multi_reply : Reply → Bool
is_multi_reply (replies.Multi multi offset warn) = true
is_multi_reply reply = false
