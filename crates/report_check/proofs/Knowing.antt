-- What is known of a life is known of the same life.
use Rattle.std.proofs.Common.{◌≡◌, subst}
use Rattle.tx_model.specs.declared.report.LifeReport.{LifeReport}
use Rattle.life_tables.specs.Lives.{LifeAt, judged_life}
use Rattle.reply_lines.specs.Known.{IsKnown}
use Rattle.reply_lines.specs.declared.known.Known.{Known}

pub known_at : (at : LifeAt) (r : LifeReport) (k : Known) → r ≡ at.report → IsKnown (judged_life (record { begun = at.begun; report = r })) k → IsKnown (judged_life at) k
known_at at r k e known = subst (λ (x : LifeReport). IsKnown (judged_life (record { begun = at.begun; report = x })) k) e known
