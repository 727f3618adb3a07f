use Rattle.std.proofs.Common.{◌≡◌, length}
use Rattle.multi_rules.proofs.Listing.{AreListed}
use Rattle.multi_rules.proofs.taken.taken_by_lines.Given as goal

abbrev pub invariant-loop-line : goal.invariant-loop-line
invariant-loop-line g l = record {
  size : length l.lists.items ≡ l.line;
  listed : AreListed l.snaps l.own.numbers l.lists.items l.line;
}
