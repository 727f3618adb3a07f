use Rattle.std.proofs.Common.{◌-◌, ◌≤◌, length}
use Rattle.session_lang.specs.Lines.{ArePrintable}
use Rattle.session_lang.proofs.lines.printable_front.Given as goal

abbrev pub invariant-loads : goal.invariant-loads
invariant-loads l = record {
  within : l.end ≤ length l.bytes;
  printable : ArePrintable l.bytes 0 l.end;
}

abbrev pub decreases-loads : goal.decreases-loads
decreases-loads l = length l.bytes - l.end
