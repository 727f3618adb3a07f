-- The numbers of modes in pages and records (MultiXactStatus).
use Rattle.std.specs.Prelude.{ℕ, zero, suc, Option, Some, None}
use Rattle.tx_events.specs.declared.multi.Mode.{Mode}
use Rattle.tx_events.specs.declared.multi.Mode.TheVariants.{KeySh, Sh, ForNoKeyUpd, ForUpd, NoKeyUpd, Upd}

abbrev pub mode_number : Mode → ℕ
mode_number KeySh = 0
mode_number Sh = 1
mode_number ForNoKeyUpd = 2
mode_number ForUpd = 3
mode_number NoKeyUpd = 4
mode_number Upd = 5

-- the mode of a number, if there is one
abbrev pub mode_of : ℕ → Option Mode
mode_of zero = Some KeySh
mode_of (suc zero) = Some Sh
mode_of (suc (suc zero)) = Some ForNoKeyUpd
mode_of (suc (suc (suc zero))) = Some ForUpd
mode_of (suc (suc (suc (suc zero)))) = Some NoKeyUpd
mode_of (suc (suc (suc (suc (suc zero))))) = Some Upd
mode_of (suc (suc (suc (suc (suc (suc n)))))) = None
