-- The stores that commands ask.
use Rattle.std.specs.Prelude.{Bool, true, false}
use Rattle.tx_events.specs.declared.refusal.Lock.{Lock}
use Rattle.tx_events.specs.declared.refusal.Lock.TheVariants as locks

abbrev pub is_xact : Lock → Bool
is_xact (locks.Xact bank) = true
is_xact lock = false

abbrev pub is_xact_or_subtrans : Lock → Bool
is_xact_or_subtrans (locks.Subtrans bank) = true
is_xact_or_subtrans lock = is_xact lock

abbrev pub is_offsets : Lock → Bool
is_offsets (locks.Offsets bank) = true
is_offsets lock = false

abbrev pub is_offsets_or_members : Lock → Bool
is_offsets_or_members (locks.Members bank) = true
is_offsets_or_members lock = is_offsets lock

-- a store of pages, of whichever kind
abbrev pub is_store : Lock → Bool
is_store (locks.Offsets bank) = true
is_store (locks.Members bank) = true
is_store lock = is_xact_or_subtrans lock
