use Rattle.std.proofs.Common.{◌≡◌, List, [], ◌∷◌, length, refl, ap, suc}
use Rattle.std.specs.List.{AllZip}
use Rattle.tx_events.specs.declared.multi.Member.{Member}
use Rattle.tx_model.specs.declared.command.Pair.{Pair}
use Rattle.command_events.specs.Reached.{IsMember}
use Rattle.command_events.proofs.reach.Reach.are_members.Goals as goal

same_length : (R : Pair → Member → Type 0) (pairs : List Pair) (members : List Member) → AllZip R pairs members → length pairs ≡ length members
same_length R [] [] z = refl
same_length R [] (m ∷ members) z = absurd z
same_length R (p ∷ pairs) [] z = absurd z
same_length R (p ∷ pairs) (m ∷ members) z = ap suc (same_length R pairs members z.1)

pub returns-then-pairs-members : goal.returns-then-pairs-members
returns-then-pairs-members c = (λ f. absurd cc, λ z. let l = same_length (IsMember c.args.self) c.args.pairs.now c.args.members.now z in absurd (c.if-pairs-members.true l))
