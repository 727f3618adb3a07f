use Rattle.std.proofs.Common.{sym, ◌∙◌}
use Rattle.tx_events.specs.Events.{same_name}
use Rattle.session_levels.proofs.ListLemmas.{find_first, find_next}
use Rattle.session_levels.proofs.registered.find_registered.Goals as goal

pub returns-then-is_named-clause-found : goal.returns-then-is_named-clause-found
returns-then-is_named-clause-found c =
    find_first (λ x. same_name x.name c.args.name.now) c.args.registered.now c.loop-k.k-index c.k-item.result c.loop-k-test.true c.k-item.is c.loop-k.invariant (sym c.is_named.ensures ∙ c.if-is_named.true)

pub loop-k-preserved : goal.loop-k-preserved
loop-k-preserved c =
    find_next (λ x. same_name x.name c.args.name.now) c.args.registered.now c.loop-k.k-index c.k-item.result c.loop-k-test.true c.k-item.is c.loop-k.invariant (sym c.is_named.ensures ∙ c.if-is_named.false)
