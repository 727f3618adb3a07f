use Rattle.std.proofs.Common.{◌≡◌, ◌<◌, [], sym, subst}
use Rattle.record_rules.specs.AskedFor.{asked_checkpoints}
use Rattle.record_rules.proofs.AskingFor.{above_zero, asked_iff}
use Rattle.record_rules.proofs.asked.is_asked.Goals as goal

pub returns : goal.returns
returns c = λ j counted.
    let i = asked_iff j c.args.counters.now in
    let is : c.how_often.result ≡ asked_checkpoints j c.args.counters.now [] j.steps = c.how_often.ensures.counted (λ k. asked_checkpoints j k [] j.steps) counted in
    let above = above_zero c.how_often.result in (
      λ t. i.0 (subst (λ n. 0 < n) is (above.0 t)),
      λ a. above.1 (subst (λ n. 0 < n) (sym is) (i.1 a)),
    )
