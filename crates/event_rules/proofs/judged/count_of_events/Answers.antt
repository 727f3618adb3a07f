use Rattle.std.proofs.Common.{ap, ◌∙◌, map, nat_lt}
use Rattle.std.specs.List.{count_by}
use Rattle.tx_events.specs.Events.{by_of}
use Rattle.place_columns.specs.Lined.{Numbered}
use Rattle.event_rules.proofs.Judging.{counted, few_steps}
use Rattle.event_rules.proofs.judged.count_of_events.Goals as goal

pub count_before-requires : goal.count_before-requires
count_before-requires g c = few_steps g.j c.args.lines c.args.own.now (map by_of g.j.life.events) c.requires.0 c.requires.1

pub returns : goal.returns
returns g c =
    c.count_before.ensures
    ∙ ap (λ (o : Numbered). count_by (λ k. nat_lt k c.args.lines) o.numbers) c.requires.0
    ∙ counted by_of g.j c.args.lines c.requires.1 g.j.life.events
