use Rattle.std.proofs.Common.{refl, arith, length-set, ◌∙◌}
use Rattle.hall.proofs.Naming.{told_all, told_step}
use Rattle.hall.proofs.names.Names.first.Goals as goal

pub loop-name-init : goal.loop-name-init
loop-name-init c = (refl, λ k h. absurd (omega arith))

pub loop-name-preserved : goal.loop-name-preserved
loop-name-preserved c = let l = c.loop-name.invariant in (length-set _ _ _ ∙ l.0, told_step _ _ _ (let t = c.loop-name-test.true in let e = l.0 in omega arith) l.1)

pub returns-clause-held : goal.returns-clause-held
returns-clause-held c = let l = c.loop-name.invariant in told_all _ _ (let e = l.0 in let r = c.requires.1 in omega arith) (λ k h. l.1 k (let e = l.0 in omega arith))
