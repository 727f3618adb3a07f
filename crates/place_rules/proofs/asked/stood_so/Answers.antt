use Rattle.std.proofs.Common.{sym, ◌∙◌}
use Rattle.place_rules.proofs.asked.stood_so.Goals as goal

pub returns : goal.returns
returns g c =
    let within = c.is_within.ensures.0 c.if-not-is_within.false in (
      λ t. record { asked = c.asks.ensures.0 c.if-not-asks.false; young = within.0; given = within.1; exact = c.is_same.ensures.0 t ∙ c.status_at.ensures },
      λ s. c.is_same.ensures.1 (s.exact ∙ sym c.status_at.ensures),
    )
