use Rattle.event_rules.specs.SnapsTold.{told_by}
use Rattle.reply_lines.proofs.by_ids.has_taken.Given as goal

abbrev pub ghost-is_snapped : goal.ghost-is_snapped
ghost-is_snapped g a = record { first = g.s.spot.at.j.begun.counters.next; events = g.s.spot.known.places.events; told = told_by g.s.spot.at.j; by = g.s.spot.asking.by; lists = g.s.lists }
