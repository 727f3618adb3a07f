use Rattle.reply_lines.specs.At.{span_at}
use Rattle.reply_lines.proofs.commands.has_its_multis.Given as goal

abbrev pub ghost-its_multis : goal.ghost-its_multis
ghost-its_multis g a = g.at

abbrev pub ghost-multi_places_of : goal.ghost-multi_places_of
ghost-multi_places_of g a = g.at

abbrev pub ghost-has_first_multis : goal.ghost-has_first_multis
ghost-has_first_multis g a = record { judged = g.at.j; round = span_at g.at }
