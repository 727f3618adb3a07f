use Rattle.std.proofs.Common.{◌≡◌, ◌++◌, length}
use Rattle.report_words.specs.Words.{behind}
use Rattle.report_words.specs.Reading.{front_ids, behind_ids}
use Rattle.report_words.proofs.list.read_ids.Given as goal

abbrev pub invariant-loop-number : goal.invariant-loop-number
invariant-loop-number l = record {
  ids : l.ids ++ front_ids (behind l.rest) ≡ l.fn.ids ++ front_ids (behind l.fn.rest);
  rest : behind_ids (behind l.rest) ≡ behind_ids (behind l.fn.rest);
}

abbrev pub decreases-loop-number : goal.decreases-loop-number
decreases-loop-number l = length (behind l.rest)
