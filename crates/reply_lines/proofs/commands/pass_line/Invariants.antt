use Rattle.reply_lines.specs.At.{lived_at}
use Rattle.reply_lines.proofs.commands.pass_line.Given as goal

abbrev pub ghost-its_ids : goal.ghost-its_ids
ghost-its_ids g a = g.at

abbrev pub ghost-has_multi : goal.ghost-has_multi
ghost-has_multi g a = g.at

abbrev pub ghost-add_line : goal.ghost-add_line
ghost-add_line g a = lived_at g.at
