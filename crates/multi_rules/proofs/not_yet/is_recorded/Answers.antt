use Rattle.std.proofs.lemmas.Bool.{false≢true}
use Rattle.history_places.specs.Starts.{start_of}
use Rattle.multi_rules.proofs.not_yet.is_recorded.Goals as goal

pub returns-in-None : goal.returns-in-None
returns-in-None c = (
  λ t. absurd (false≢true t),
  λ r. let s = start_of 0 0 in absurd (c.in-None.ensures.none r.0 r.1.0 s (r.1.1 s)),
)
