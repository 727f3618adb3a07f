use Rattle.std.proofs.Common.{ap, ◌∙◌}
use Rattle.tx_events.specs.Sights.{sight_by, top_sight_by}
use Rattle.tx_core.proofs.Seeing.{rule_is, sight_then}
use Rattle.tx_core.proofs.verdict.answer.Goals as goal

pub returns-in-Seen : goal.returns-in-Seen
returns-in-Seen c a b =
    ap (λ s. sight_then s (top_sight_by c.args.snap.now c.args.topmost)) (c.in-Seen.ensures.value a b ∙ ap (sight_by c.args.snap.now c.args.x) c.has_committed.ensures)
    ∙ rule_is c.args.snap.now c.args.state c.args.topmost c.args.x

pub returns-in-Hidden : goal.returns-in-Hidden
returns-in-Hidden c a b =
    ap (λ s. sight_then s (top_sight_by c.args.snap.now c.args.topmost)) (c.in-Hidden.ensures.value a b ∙ ap (sight_by c.args.snap.now c.args.x) c.has_committed.ensures)
    ∙ rule_is c.args.snap.now c.args.state c.args.topmost c.args.x

pub returns-in-AskParents : goal.returns-in-AskParents
returns-in-AskParents c a b =
    c.sight_of_top.ensures.value a
    ∙ ap (λ s. sight_then s (top_sight_by c.args.snap.now c.args.topmost)) (c.in-AskParents.ensures.value a b ∙ ap (sight_by c.args.snap.now c.args.x) c.has_committed.ensures)
    ∙ rule_is c.args.snap.now c.args.state c.args.topmost c.args.x
