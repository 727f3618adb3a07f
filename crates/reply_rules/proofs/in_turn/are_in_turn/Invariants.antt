use Rattle.std.proofs.Common.{take}
use Rattle.std.specs.List.{AllByRecursion}
use Rattle.tx_events.specs.declared.record.Rec.{Rec}
use Rattle.reply_rules.specs.Gens.{IsStrayRec}
use Rattle.reply_rules.proofs.in_turn.are_in_turn.Given as goal

abbrev pub invariant-loop-rec : goal.invariant-loop-rec
invariant-loop-rec l = AllByRecursion (λ (rec : Rec). IsStrayRec l.multis rec → ⊥) (take l.rec-index l.recs)
