use Rattle.std.proofs.Common.{◌≡◌, drop}
use Rattle.report_words.specs.Reading.{name_place, later_place}
use Rattle.report_words.proofs.names.name_place.Given as goal

abbrev pub invariant-loop-i : goal.invariant-loop-i
invariant-loop-i l = name_place l.names l.name ≡ later_place l.i (name_place (drop l.i l.names) l.name)
