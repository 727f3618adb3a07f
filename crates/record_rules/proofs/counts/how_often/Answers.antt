use Rattle.std.proofs.Common.{◌∙◌, ap, unwrap_or}
use Rattle.std.specs.BTreeMap.{get}
use Rattle.record_rules.specs.Counts.{key_cmp, key_of}
use Rattle.record_rules.proofs.counts.how_often.Goals as goal

pub returns-clause-counted : goal.returns-clause-counted
returns-clause-counted c = λ f a.
    c.unwrap_or.ensures ∙ ap (λ o. unwrap_or o 0) (c.copied.ensures ∙ c.get.ensures.value ∙ ap (get key_cmp c.args.counts.now) c.key_of-key.ensures) ∙ a (key_of c.args.counters.now)
