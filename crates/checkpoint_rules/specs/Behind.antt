-- The counters behind the first events of both histories, and checkpoints that have them.
use Rattle.std.specs.Prelude.{◌≡◌, ℕ, ◌+◌, ◌^◌, ◌<◌, ◌≤◌, List, [], drop, length, take}
use Rattle.std.specs.List.{HoldsAt, count_by}
use Rattle.tx_events.specs.Ids.{next_multi}
use Rattle.tx_events.specs.declared.multi.MultiEvent.{MultiEvent}
use Rattle.tx_events.specs.declared.multi.MultiEvent.TheVariants as multis
use Rattle.tx_events.specs.declared.record.Counters.{Counters}
use Rattle.tx_events.specs.Multis.{multi_counters}
use Rattle.tx_model.specs.declared.report.Step.{Step}
use Rattle.report_law.specs.Checkpoints.{is_checkpoint_of, ok_checkpoints}
use Rattle.report_law.specs.Steps.{Judged}
use Rattle.checkpoint_rules.specs.declared.counted.Checkpoints.{Checkpoints}
use Rattle.record_rules.specs.AskedFor.{asked_checkpoints}
use Rattle.record_rules.specs.Counts.{AreCounted}

-- the counters after one multixact event more
abbrev pub counters_with : Counters → MultiEvent → Counters
counters_with c (multis.Gen by multi offset members) = record c { multi = next_multi multi; offset = offset + length members }
counters_with c (multis.Hold by multi) = c
counters_with c (multis.Unhold by multi) = c
counters_with c (multis.Raise by multi offset) = record c { oldest_multi = multi; oldest_offset = offset }

-- the numbers are below 2^63
abbrev pub IsSmall : MultiEvent → Type 0
IsSmall (multis.Gen by multi offset members) = (multi < 2 ^ 63) × (offset + length members < 2 ^ 63)
IsSmall e = Unit {0}

-- those of each place, and of the one behind the history
pub record AreMultiCounters (base : Counters) (h : List MultiEvent) (column : List Counters) : Type 0 where
  pub size : length column ≡ length h + 1
  pub each : (p : ℕ) → p ≤ length h → HoldsAt (λ (c : Counters). c ≡ multi_counters base (take p h)) column p

-- a life and its steps so far
pub record Walked : Type 0 where
  pub j : Judged
  pub before : List Step

-- the records of checkpoints behind the first record, and the checkpoints of the steps so far, by their counters
pub record AreCheckpoints (j : Judged) (before : List Step) (c : Checkpoints) : Type 0 where
  pub recorded : AreCounted (λ k. count_by (is_checkpoint_of k) (drop 1 j.life.recs)) c.recorded
  pub asked : AreCounted (λ k. asked_checkpoints j k [] before) c.asked
  pub done : AreCounted (λ k. ok_checkpoints j k [] before) c.done
