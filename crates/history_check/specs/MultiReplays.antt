-- The first event of a history of multixacts that may not come.
use Rattle.std.specs.Prelude.{ℕ, ◌+◌, ◌<◌, List, length, take}
use Rattle.tx_events.specs.declared.multi.MultiEvent.{MultiEvent}
use Rattle.tx_events.specs.declared.record.Counters.{Counters}
use Rattle.tx_events.specs.Multis.{AreLegalMultis, InBase}

-- the history is legal up to this event, and not with it
pub record IsFirstIllegalMulti (base : Counters) (h : List MultiEvent) (p : ℕ) : Type 0 where
  pub within : p < length h
  pub before : AreLegalMultis base (InBase base) (take p h)
  pub not_then : AreLegalMultis base (InBase base) (take (p + 1) h) → ⊥
