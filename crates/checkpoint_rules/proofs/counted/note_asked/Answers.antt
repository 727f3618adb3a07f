use Rattle.std.proofs.Common.{[], length}
use Rattle.std.proofs.lemmas.Result.{on_ok_weaker}
use Rattle.record_rules.specs.AskedFor.{asked_checkpoints}
use Rattle.checkpoint_rules.proofs.Stepping.{asked_few, asked_one, one_fits}
use Rattle.checkpoint_rules.proofs.counted.note_asked.Goals as goal

pub count_one-requires : goal.count_one-requires
count_one-requires g c =
    one_fits (λ k. asked_checkpoints g.at.j k [] g.at.before) c.args.asked.now c.args.counters.now (length g.at.before) c.requires.0 (asked_few g.at.j c.args.counters.now [] g.at.before) c.requires.1.1

pub returns : goal.returns
returns g c =
    on_ok_weaker c.count_one.result
    (λ f reply. asked_one g.at.j g.at.before reply c.args.counters.now c.count_one.new.counts c.requires.1.0 (f (λ k. asked_checkpoints g.at.j k [] g.at.before) c.requires.0))
    c.count_one.ensures
