use Rattle.std.proofs.Common.{◌∙◌}
use Rattle.tx_events.proofs.Searching.{listed}
use Rattle.tx_events.proofs.listed.is_listed.Goals as goal

pub returns : goal.returns
returns c a = c.is_ok.ensures.value ∙ listed _ _ _ c.binary_search.ensures.position a
