-- Why the end of a transaction stops, and where it stops.
use Rattle.std.specs.Prelude.{◌≡◌, ℕ, ◌⊎◌, ◌≤◌, List}
use Rattle.notes.specs.Lists.{at}
use Rattle.tx_events.specs.declared.event.By.{By}
use Rattle.tx_events.specs.declared.refusal.Lock.TheVariants as locks
use Rattle.tx_events.specs.declared.refusal.Refusal.{Refusal}
use Rattle.tx_events.specs.declared.refusal.Refusal.TheVariants as refusals
use Rattle.tx_core.specs.declared.entry.Entry.{Entry}
use Rattle.tx_core.specs.declared.entry.Start.{Start}
use Rattle.tx_core.specs.Locks.{log_lock, subtrans_lock, xact_lock}
use Rattle.engine_parts.specs.declared.session.Stage.{Stage}
use Rattle.engine_parts.specs.declared.session.Stage.TheVariants as stages
use Rattle.engine_parts.specs.Answers.{MetFault, MetLogFault}
use Rattle.engine_parts.specs.Stand.{IsDownAt}
use Rattle.engine_parts.specs.Standing.{IsHeldDown, IsLoggedFrom, steps_of}

-- a commit has its record on disk only behind this stage
abbrev pub IsUnflushed : Stage → Type 0
IsUnflushed stages.Clear = Unit {0}
IsUnflushed (stages.Logged number) = Unit {0}
IsUnflushed _ = ⊥

-- why a commit that was at the old stage stopped at the new one
abbrev pub Stops : Start → List (List Entry) → By → Stage → Stage → Refusal → Type 0
Stops start lists by old new (refusals.DiskFault (locks.Xact bank)) =
    MetFault lists (xact_lock bank) by × (steps : ℕ) × (steps_of old ≤ steps) × (new ≡ stages.Settling steps)
Stops start lists by old new (refusals.DiskFault (locks.Subtrans bank)) =
    MetFault lists (subtrans_lock bank) by × (old ≡ stages.Clear) × (new ≡ old)
Stops start lists by old new refusals.LogFault =
    MetLogFault lists by × IsLoggedFrom old new
    × ((down : ℕ) × IsDownAt start (at lists log_lock) down × IsHeldDown new down)
Stops start lists by old new (refusals.LogDown down) =
    IsDownAt start (at lists log_lock) down × IsHeldDown old down × IsUnflushed old
    × ((new ≡ old) ⊎ IsLoggedFrom old new) × IsHeldDown new down
Stops start lists by old new refusals.Full = (old ≡ stages.Clear) × (new ≡ old)
Stops start lists by old new refusals.Memory = (old ≡ stages.Clear) × (new ≡ old)
Stops start lists by old new _ = ⊥
