use Rattle.std.proofs.Common.{sym, ◌∙◌}
use Rattle.tx_events.specs.Events.{same_name}
use Rattle.session_levels.proofs.ListLemmas.{find_first, find_next}
use Rattle.line_stances.specs.declared.snaps.Taken.{Taken}
use Rattle.line_stances.proofs.ToldLemmas.{told_found, told_missing, none_in_all}
use Rattle.line_stances.proofs.snaps.find_taken.Goals as goal

pub returns-then-is_named-clause-some : goal.returns-then-is_named-clause-some
returns-then-is_named-clause-some c =
    told_found c.args.name.now c.args.items.now c.t-item.result
    (find_first (λ (x : Taken). same_name x.name c.args.name.now) c.args.items.now c.loop-t.t-index c.t-item.result c.loop-t-test.true c.t-item.is c.loop-t.invariant (sym c.is_named.ensures ∙ c.if-is_named.true))

pub loop-t-preserved : goal.loop-t-preserved
loop-t-preserved c =
    find_next (λ (x : Taken). same_name x.name c.args.name.now) c.args.items.now c.loop-t.t-index c.t-item.result c.loop-t-test.true c.t-item.is c.loop-t.invariant (sym c.is_named.ensures ∙ c.if-is_named.false)

pub returns-clause-none : goal.returns-clause-none
returns-clause-none c = told_missing c.args.name.now c.args.items.now (none_in_all c.args.name.now c.args.items.now c.loop-t.t-index c.loop-t-test.false c.loop-t.invariant)
