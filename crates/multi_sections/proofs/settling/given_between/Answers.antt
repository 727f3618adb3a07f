use Rattle.std.proofs.Common.{subst}
use Rattle.tx_events.specs.Ids.{IsFullMulti}
use Rattle.multi_store.proofs.Numbers.{place_is}
use Rattle.multi_sections.proofs.settling.given_between.Goals as goal

pub returns : goal.returns
returns c =
    rw (c.number-to.ensures.value, c.number-from.ensures.value)
    (place_is c.args.first c.args.multi (subst IsFullMulti c.number-from.ensures.value c.number-from.ensures.form) (subst IsFullMulti c.number-to.ensures.value c.number-to.ensures.form) c.requires)
