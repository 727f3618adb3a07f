-- What a log holds of commands that were answered `ok`.
use Rattle.std.specs.Prelude.{◌≡◌, ◌↔◌, ℕ, IsTrue, List, Option, IfSome, Contains}
use Rattle.std.specs.BTreeSet.{BTreeSet, contains}
use Rattle.std.specs.List.{count_by, list_any}
use Rattle.std.specs.Ordering.{nat_cmp}
use Rattle.tx_events.specs.declared.record.Rec.{Rec}
use Rattle.tx_events.specs.declared.record.Rec.TheVariants as records
use Rattle.report_law.specs.Records.{is_same_multi}
use Rattle.report_law.specs.Tops.{AreTops}
use Rattle.report_law.specs.Steps.{IsStrayMulti, Judged, flushed_recs, is_truncation}
use Rattle.reply_rules.specs.declared.logged.Logs.{Logs}

-- the multixacts of the records among these
abbrev pub AreRecordedMultis : List Rec → BTreeSet ℕ → Type 0
AreRecordedMultis recs multis = (x : ℕ) → contains nat_cmp multis x ≡ list_any (is_same_multi x) recs

-- a transaction with this id, where it has one, has its commit record
abbrev pub IsCommitLogged : List Rec → Option ℕ → Type 0
IsCommitLogged recs top = IfSome top (λ top. (subs : List ℕ) × Contains recs (records.Commit top subs))

-- what a life's log holds
pub record AreLogs (j : Judged) (logs : Logs) : Type 0 where
  pub commits : AreTops (flushed_recs j.life) logs.commits
  pub truncations : logs.truncations ≡ count_by is_truncation (flushed_recs j.life)
  pub multis : AreRecordedMultis j.life.recs logs.multis
  pub stray : IsTrue logs.stray ↔ IsStrayMulti j
