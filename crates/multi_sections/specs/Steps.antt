-- What a critical section of the generator leaves.
use Rattle.std.specs.Prelude.{◌≡◌, ℕ, List, [], ◌∷◌, ◌++◌, Result, Ok, Err}
use Rattle.tx_events.specs.declared.multi.MultiEvent.{MultiEvent}
use Rattle.tx_events.specs.Multis.{multi_by}
use Rattle.tx_core.specs.declared.entry.Entry.{Entry}
use Rattle.tx_core.specs.declared.entry.Kind.TheVariants as kinds
use Rattle.tx_core.specs.declared.entry.Start.{Start}
use Rattle.tx_core.specs.Locks.{multi_lock}
use Rattle.tx_core.specs.MultiEntries.{multi_history}
use Rattle.engine_parts.specs.declared.session.Session.{Session}
use Rattle.engine_parts.specs.Holds.{Knowledge, Section}
use Rattle.engine_parts.specs.Sessions.{look_by}

-- The event is the last one of all, behind these.
pub record IsLast (before : List MultiEvent) (event : MultiEvent) (lists : List (List Entry)) : Type 0 where
  pub split : multi_history lists ≡ before ++ event ∷ []

abbrev pub entry_of : MultiEvent → Entry
entry_of event = record { by = multi_by event; kind = kinds.Multi event }

-- the critical section, by the event that its answer tells, or else a look
abbrev pub MultiSection : {T R : Type 0} → Start → ℕ → Session → (T → MultiEvent) → Knowledge → Knowledge → Result T R → Type 0
MultiSection start n s event v w (Ok x) = Section start multi_lock (entry_of (event x)) v w
MultiSection start n s event v w (Err r) = Section start multi_lock (look_by n s) v w
