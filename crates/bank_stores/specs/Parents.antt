-- Parents as numbers, and where a climb ends.
use Rattle.std.specs.Prelude.{ℕ, Bool, true, ◌==◌, if◌then◌else◌, Option, Some, None}
use Rattle.tx_events.specs.Order.{xid_before}
use Rattle.tx_events.specs.declared.order.Xid.{Xid}

-- 0 is no parent
abbrev pub parent_of : ℕ → Option Xid
parent_of number = if number == 0 then None else Some (record { number = number })

-- there is no parent, or it precedes xmin
abbrev pub ends_climb : Option Xid → ℕ → Bool
ends_climb None xmin = true
ends_climb (Some parent) xmin = xid_before parent.number xmin
