use Rattle.script_lines.specs.LineWords.{words_in}
use Rattle.script_lines.specs.Said.{said}
use Rattle.session_lang.proofs.Ranges.{command_in_range}
use Rattle.session_lang.proofs.parser.reading.Reading.command_line.Goals as goal

pub add-requires-clause-ranges : goal.add-requires-clause-ranges
add-requires-clause-ranges c = command_in_range (words_in c.args.rest.now) (said c.in_ok-command.command) c.in_ok-command.ensures
