use Rattle.std.proofs.Common.{◌≡◌, ◌++◌, take, map}
use Rattle.report_text.specs.Words.{more}
use Rattle.report_text.specs.ReplyText.{hex_word}
use Rattle.report_text.proofs.reply.put_hex.Given as goal

abbrev pub invariant-loop-byte : goal.invariant-loop-byte
invariant-loop-byte l = l.out ≡ l.fn.out ++ more (map hex_word (take l.byte-index l.bytes))
