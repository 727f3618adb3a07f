use Rattle.std.proofs.Common.{[], ◌∷◌}
use Rattle.tx_core.specs.declared.entry.Change.TheVariants as changes
use Rattle.tx_core.specs.declared.entry.Kind.TheVariants as kinds
use Rattle.multi_banks.proofs.offsets.set_note.Given as goal

abbrev pub ghost-by : goal.ghost-by
ghost-by a = record { by = a._about.now.0; kind = kinds.Set (changes.Offset a._about.now.0 a._about.now.1 a._about.now.2 ∷ []) }
