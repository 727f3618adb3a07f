use Rattle.std.proofs.Common.{◌≡◌, take, ◌∙◌, arith}
use Rattle.tx_events.specs.History.{next_given}
use Rattle.dump_rules.proofs.GivenAt.{is_given}
use Rattle.dump_rules.proofs.shown.id_epochs.Goals as goal

pub returns-clause-ids : goal.returns-clause-ids
returns-clause-ids c = λ n k.
    let base = c.args.places.now.base in
    let h = c.args.places.now.events in
    let from : c.number-from.result ≡ base.next = c.number-from.ensures.value ∙ c.next_at.ensures in
    let to : c.number-to.result ≡ next_given base.next (take c.args.place h) = c.number-to.ensures.value ∙ c.next_at-2.ensures in
    let r = is_given base h c.args.place c.legal.ensures.full c.legal.ensures.legal n k in
    let x = r.1 in let y = r.2 in
    (omega arith, omega arith)
