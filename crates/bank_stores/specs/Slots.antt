-- Slots of members as numbers: a mode byte and an id.
use Rattle.std.specs.Prelude.{ℕ, ◌==◌, if◌then◌else◌, Option, Some, None}
use Rattle.tx_events.specs.declared.multi.Mode.{Mode}
use Rattle.tx_events.specs.Modes.{mode_of}
use Rattle.bank_stores.specs.declared.slot.Slot.{Slot}
use Rattle.bank_stores.specs.declared.slot.Slot.TheVariants.{Unused, Is, Odd}

-- a slot that is in use
abbrev pub used_slot : ℕ → ℕ → Option Mode → Slot
used_slot byte id None = Odd byte
used_slot byte id (Some mode) = Is (record { number = id }) mode

-- what a mode byte and an id say
abbrev pub slot_of : ℕ → ℕ → Slot
slot_of byte id = if id == 0 then Unused else used_slot byte id (mode_of byte)
