-- What a checkpoint is judged by.
use Rattle.std.specs.Prelude.{◌≡◌, ℕ, ◌<◌, IfNone, IfSome, List, [], Option}
use Rattle.tx_events.specs.declared.record.Counters.{Counters}
use Rattle.tx_model.specs.declared.reply.Reply.{Reply}
use Rattle.tx_model.specs.declared.reply.Reply.TheVariants as replies
use Rattle.tx_model.specs.declared.report.Line.{Line}
use Rattle.report_law.specs.Checkpoints.{IsCommitPending, counters_behind}
use Rattle.report_law.specs.Standing.{sure, unfinished}
use Rattle.report_law.specs.Steps.{AreJudged, Judged}
use Rattle.reply_rules.specs.Ends.{IsLogEnd}
use Rattle.standing_rules.specs.declared.pending.Unfinished.{Unfinished}
use Rattle.standing_rules.specs.Told.{told_of}
use Rattle.checkpoint_rules.specs.declared.pending.Asked.{Asked}

-- the session is the least for which P holds; None where it holds for none
pub record IsLeast (P : ℕ → Type 0) (least : Option ℕ) : Type 0 where
  pub some : IfSome least P
  pub below : IfSome least (λ n. (s : ℕ) → s < n → P s → ⊥)
  pub none : IfNone least ((s : ℕ) → P s → ⊥)

-- what is so behind these lines
pub record IsAsked (j : Judged) (lines : List Line) (a : Asked) : Type 0 where
  pub commit : IsLeast (IsCommitPending j lines) a.commit
  pub sure : IsLeast (λ s. unfinished j.life.multis lines s ≡ sure) a.sure
  pub log : IsLogEnd j a.end

-- what is unfinished of the session that the reply names
abbrev pub IsNamed : Judged → List Line → Reply → Unfinished → Type 0
IsNamed j lines (replies.Pending session refusal) named = told_of named ≡ unfinished j.life.multis lines session
IsNamed j lines reply named = Unit {0}

-- the counters behind these lines, where both histories are judged up to there
pub record AreCountersOf (j : Judged) (lines : List Line) (counters : Option Counters) : Type 0 where
  pub some : IfSome counters (λ c. AreJudged j lines [] × (c ≡ counters_behind j lines))
  pub none : IfNone counters (AreJudged j lines [] → ⊥)
