use Rattle.std.proofs.Common.{◌≡◌, ◌++◌, take}
use Rattle.report_text.specs.Words.{more, numbers}
use Rattle.report_text.proofs.numbers.push_numbers.Given as goal

abbrev pub invariant-loop-id : goal.invariant-loop-id
invariant-loop-id l = l.bytes ≡ l.fn.bytes ++ more (numbers (take l.id-index l.ids))
