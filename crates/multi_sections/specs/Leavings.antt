-- The generator before an event and behind it.
use Rattle.std.specs.Prelude.{List}
use Rattle.tx_events.specs.declared.multi.MultiEvent.{MultiEvent}
use Rattle.tx_events.specs.declared.multi.MultiEvent.TheVariants as events
use Rattle.multi_store.specs.Generator.{Adds, Generator}
use Rattle.tx_core.specs.declared.entry.Entry.{Entry}
use Rattle.tx_core.specs.declared.entry.Start.{Start}
use Rattle.engine_parts.specs.Stand.{MultiStands}

-- it stood for this list, and has one event more
pub record Made (start : Start) (new : Generator) (es : List Entry) (event : MultiEvent) : Type 0 where
  pub old : Generator
  pub stood : MultiStands start old es
  pub adds : Adds old new event

-- the event gives no multixact
abbrev pub GivesNone : MultiEvent → Type 0
GivesNone (events.Gen by multi offset members) = ⊥
GivesNone event = Unit {0}
