use Rattle.std.proofs.Common.{◌≡◌, length}
use Rattle.report_words.specs.Words.{behind}
use Rattle.report_words.specs.Members.{until_arrow}
use Rattle.report_words.specs.Replies.{byte_of}
use Rattle.report_words.proofs.reply.read_bytes.Given as goal

abbrev pub invariant-loop-word : goal.invariant-loop-word
invariant-loop-word l = until_arrow byte_of l.bytes (behind l.rest) ≡ until_arrow byte_of l.fn.bytes (behind l.fn.rest)

abbrev pub decreases-loop-word : goal.decreases-loop-word
decreases-loop-word l = length (behind l.rest)
