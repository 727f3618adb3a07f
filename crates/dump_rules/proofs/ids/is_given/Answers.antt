use Rattle.std.proofs.Common.{◌≡◌, take, ◌∙◌, arith}
use Rattle.tx_events.specs.History.{next_given}
use Rattle.dump_rules.proofs.GivenAt.{given_is, is_given}
use Rattle.dump_rules.proofs.ids.is_given.Goals as goal

pub returns : goal.returns
returns c =
    let base = c.args.places.now.base in
    let h = c.args.places.now.events in
    let from : c.number-from.result ≡ base.next = c.number-from.ensures.value ∙ c.next_at.ensures in
    let to : c.number-to.result ≡ next_given base.next (take c.args.place h) = c.number-to.ensures.value ∙ c.next_at-2.ensures in (
      λ t. let w = c.is_within.ensures.0 t in let x = w.1 in let y = w.2 in given_is base h c.args.place c.legal.ensures.full c.legal.ensures.legal c.args.number w.0 (omega arith) (omega arith),
      λ k. let r = is_given base h c.args.place c.legal.ensures.full c.legal.ensures.legal c.args.number k in let x = r.1 in let y = r.2 in c.is_within.ensures.1 (r.0, omega arith, omega arith),
    )
