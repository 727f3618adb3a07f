use Rattle.reply_lines.specs.At.{base_of, history_of, multis_of_life}
use Rattle.reply_lines.proofs.by_multis.has_pinned.Given as goal

abbrev pub ghost-is_pinned_or_next : goal.ghost-is_pinned_or_next
ghost-is_pinned_or_next g a = record { base = base_of g.s; events = history_of g.s; all = multis_of_life g.s; by = g.s.asking.by }
