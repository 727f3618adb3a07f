-- What is read of the ProcArray at once.
use Rattle.std.specs.Prelude.{◌≡◌, List}
use Rattle.tx_events.specs.Ids.{IsFullMulti, IsXidNumber}
use Rattle.tx_events.specs.declared.event.Event.{Event}
use Rattle.tx_events.specs.declared.record.Counters.{Counters}
use Rattle.tx_events.specs.declared.record.Rec.{Rec}
use Rattle.tx_events.specs.declared.record.Rec.TheVariants as records
use Rattle.tx_events.specs.History.{next_given}
use Rattle.tx_events.specs.Horizon.{oldest_id, oldest_xmin}
use Rattle.proc_sections.specs.declared.looking.Horizons.{Horizons}

-- the next id, the oldest one and the oldest xmin behind this history
pub record AreHorizonsOf (base : Counters) (h : List Event) (found : Horizons) : Type 0 where
  pub next : found.next ≡ next_given base.next h
  pub oldest : found.oldest ≡ oldest_id base.oldest h
  pub xmin : found.oldest_xmin ≡ oldest_xmin base.next h

-- the record of a truncation to what is announced behind this history
abbrev pub truncation_behind : Counters → List Event → Rec
truncation_behind base h = records.Truncate (oldest_id base.oldest h) base.oldest_multi base.oldest_offset

-- the numbers that it names have the forms of an id and of a multixact
abbrev pub HasForms : Rec → Type 0
HasForms (records.Truncate oldest multi offset) = IsXidNumber oldest × IsFullMulti multi
HasForms rec = Unit {0}
