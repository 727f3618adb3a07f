use Rattle.report_check.proofs.Leaving.{bases_before}
use Rattle.report_check.proofs.keep.keep_on.Goals as goal

pub begins_right-requires : goal.begins_right-requires
begins_right-requires c = bases_before c.args.before.now c.args.kept.now c.requires.lawful c.requires.kept
