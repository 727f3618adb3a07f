use Rattle.std.proofs.Common.{◌∙◌, sym}
use Rattle.record_rules.proofs.Ending.{no_end_kept}
use Rattle.record_rules.proofs.ends.note_end.Goals as goal

pub returns-then-not-is_end : goal.returns-then-not-is_end
returns-then-not-is_end c = λ a. no_end_kept c.args.replay.now.events c.args.event.now c.args.ends.now (sym c.is_end.ensures ∙ c.if-not-is_end.true) a
