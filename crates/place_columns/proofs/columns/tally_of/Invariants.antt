use Rattle.std.proofs.Common.{◌≡◌, length, take}
use Rattle.place_columns.specs.Tables.{AreRanks, AreTotals}
use Rattle.place_columns.proofs.columns.tally_of.Given as goal

abbrev pub invariant-loop-number : goal.invariant-loop-number
invariant-loop-number l = record {
  size : length l.totals.items ≡ l.count;
  counted : AreTotals (take l.number-index l.numbers) l.totals.items;
  ranked : AreRanks (take l.number-index l.numbers) l.ranks.items;
}
