use Rattle.std.proofs.Common.{◌∙◌, arith}
use Rattle.tx_events.specs.Events.{same_name}
use Rattle.xact_engine.proofs.Snapping.{forgets_only}
use Rattle.xact_engine.proofs.snapshots.let_go.Goals as goal

pub returns-then-len-eq1 : goal.returns-then-len-eq1
returns-then-len-eq1 c =
    c.clear.ensures.items ∙ forgets_only (λ k. same_name k.name c.args.name.now) c.args.registered.now.items (omega (arith, c.len.ensures, c.if-len-eq1.true)) c.requires
