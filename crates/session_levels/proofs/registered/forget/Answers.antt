use Rattle.std.proofs.Common.{rules, not}
use Rattle.std.proofs.lemmas.Fn.{filter_same}
use Rattle.tx_events.specs.Events.{same_name}
use Rattle.session_levels.specs.declared.session.RegisteredSnapshot.{RegisteredSnapshot}
use Rattle.session_levels.proofs.registered.forget.Goals as goal

pub returns : goal.returns
returns c = filter_same _ (λ (k : RegisteredSnapshot). not (same_name k.name c.args.name.now)) _ (λ x b f' k. search rules) _ _ c.retain.ensures.filtered
