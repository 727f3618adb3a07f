use Rattle.reply_lines.specs.At.{base_of, multi_round_of}
use Rattle.reply_lines.proofs.by_multis.is_held.Given as goal

abbrev pub ghost-read_before : goal.ghost-read_before
ghost-read_before g a = g.s

abbrev pub ghost-is_held_back : goal.ghost-is_held_back
ghost-is_held_back g a = record { base = base_of g.s; events = g.s.known.multi_places.events; round = multi_round_of g.s; by = g.s.asking.by }
