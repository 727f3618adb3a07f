-- What is counted of a run.
use Rattle.std.specs.Prelude.{Bool, true, false}
use Rattle.tx_model.specs.declared.reply.Reply.{Reply}
use Rattle.tx_model.specs.declared.reply.Reply.TheVariants as replies

-- `visible` or `hidden`
abbrev pub is_verdict : Reply → Bool
is_verdict (replies.Seen visible) = true
is_verdict reply = false
