-- What the records of a life are judged by.
use Rattle.std.specs.Prelude.{◌≡◌, ℕ, ◌<◌, [], IfNone, IfSome, Option, Some, None, slice_get}
use Rattle.std.specs.BTreeMap.{BTreeMap}
use Rattle.std.specs.List.{AllByRecursion}
use Rattle.tx_events.specs.declared.record.Rec.{Rec}
use Rattle.tx_events.specs.Events.{by_of}
use Rattle.tx_events.specs.History.{IsLegal}
use Rattle.record_rules.specs.Behind.{AreBases, IsFirstNoBase}
use Rattle.history_places.specs.MultiTold.{MultiReplayed}
use Rattle.report_law.specs.Records.{IsLawfulRecord}
use Rattle.report_law.specs.Steps.{Judged, lines_of}
use Rattle.record_rules.specs.declared.counts.CountersKey.{CountersKey}
use Rattle.record_rules.specs.declared.records.Judging.{Judging}
use Rattle.record_rules.specs.AskedFor.{asked_checkpoints}
use Rattle.record_rules.specs.Counts.{AreCounted}
use Rattle.record_rules.specs.Ends.{AreTransactions}
use Rattle.record_rules.specs.Firsts.{AreAnnounced}

abbrev pub IsBrokenAt : Option ℕ → ℕ → Type 0
IsBrokenAt None place = ⊥
IsBrokenAt (Some at) place = at ≡ place

-- what is kept of the life is so, and its history is legal to its end
pub record IsKnownWhole (j : Judged) (r : Judging) : Type 0 where
  pub base : r.base ≡ j.begun.counters
  pub from : r.from ≡ j.life.from
  pub legal : IsLegal j.begun.counters j.life.events
  pub each : AllByRecursion (λ e. (by_of e).session < 64) j.life.events
  pub xacts : AreTransactions j.life.events (lines_of j) r.xacts
  pub announced : AreAnnounced j.life.events j.life.multis r.announced
  pub bases : IfNone r.broken (AreBases j.begun.counters j.life.recs)
  pub broken : IfSome r.broken (λ p. IsFirstNoBase j.begun.counters j.life.recs p)

-- and the multixacts are legal to their end, and all checkpoints of the life counted
pub record IsJudging (j : Judged) (r : Judging) (m : MultiReplayed) (counts : BTreeMap CountersKey ℕ) : Type 0 where
  pub whole : IsKnownWhole j r
  pub base : m.base ≡ j.begun.counters
  pub multis : m.events ≡ j.life.multis
  pub asked : AreCounted (λ k. asked_checkpoints j k [] j.steps) counts

-- the life's record at this place is the first that isn't lawful
pub record IsFirstUnlawful (j : Judged) (place : ℕ) : Type 0 where
  pub before : (p : ℕ) (rec : Rec) → p < place → slice_get j.life.recs p ≡ Some rec → IsLawfulRecord j p rec
  pub rec : Rec
  pub stands : slice_get j.life.recs place ≡ Some rec
  pub unlawful : IsLawfulRecord j place rec → ⊥
