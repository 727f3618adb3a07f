-- Modes and their numbers, both ways.
use Rattle.std.proofs.Common.{◌≡◌, ℕ, zero, suc, Some, refl, ap}
use Rattle.tx_events.specs.declared.multi.Mode.{Mode}
use Rattle.tx_events.specs.declared.multi.Mode.TheVariants.{KeySh, Sh, ForNoKeyUpd, ForUpd, NoKeyUpd, Upd}
use Rattle.tx_events.specs.Modes.{mode_number, mode_of}

some_is : (a b : Mode) → Some a ≡ Some b → a ≡ b
some_is a b e = cc

pub mode_takes : (b : ℕ) (m : Mode) → mode_of b ≡ Some m → b ≡ mode_number m
mode_takes zero m e = ap mode_number (some_is KeySh m e)
mode_takes (suc zero) m e = ap mode_number (some_is Sh m e)
mode_takes (suc (suc zero)) m e = ap mode_number (some_is ForNoKeyUpd m e)
mode_takes (suc (suc (suc zero))) m e = ap mode_number (some_is ForUpd m e)
mode_takes (suc (suc (suc (suc zero)))) m e = ap mode_number (some_is NoKeyUpd m e)
mode_takes (suc (suc (suc (suc (suc zero))))) m e = ap mode_number (some_is Upd m e)
mode_takes (suc (suc (suc (suc (suc (suc n)))))) m e = absurd cc

pub mode_again : (m : Mode) → mode_of (mode_number m) ≡ Some m
mode_again KeySh = refl
mode_again Sh = refl
mode_again ForNoKeyUpd = refl
mode_again ForUpd = refl
mode_again NoKeyUpd = refl
mode_again Upd = refl
