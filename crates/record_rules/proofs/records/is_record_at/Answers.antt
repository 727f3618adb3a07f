use Rattle.record_rules.proofs.Recording.{behind_first, the_first}
use Rattle.record_rules.proofs.records.is_record_at.Goals as goal

pub returns-then-place-eq0 : goal.returns-then-place-eq0
returns-then-place-eq0 g c = the_first g.j c.args.place c.args.rec.now c.is_checkpoint_of.result c.args.judging.now.from c.args.judging.now.base c.if-place-eq0.true c.requires.whole.from c.requires.whole.base c.is_checkpoint_of.ensures

pub returns : goal.returns
returns g c = behind_first g.j c.args.place c.args.rec.now c.is_true_record.result c.if-place-eq0.false c.is_true_record.ensures
