use Rattle.std.proofs.Common.{min, sym, ◌∙◌, ap}
use Rattle.multi_rules.specs.Limits.{pinned}
use Rattle.multi_rules.proofs.Tallied.{least_none, least_some}
use Rattle.multi_rules.proofs.pins.least_pinned.Goals as goal

pub returns-in-Some : goal.returns-in-Some
returns-in-Some c = λ held t.
    let is = c.in-Some.ensures (pinned held) t in
    let least = least_some held c.in-Some.multi c.args.next is.0 is.1 in
    c.min.ensures ∙ ap (λ k. min c.args.next k) c.number.ensures.value ∙ sym least

pub returns-in-None : goal.returns-in-None
returns-in-None c = λ held t. sym (least_none held c.args.next (c.in-None.ensures (pinned held) t))
