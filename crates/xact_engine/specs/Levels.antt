-- Replies to commands on levels.
use Rattle.tx_model.specs.declared.reply.Reply.{Reply}
use Rattle.tx_model.specs.declared.reply.Reply.TheVariants as replies

-- the command is done, or it is refused
abbrev pub IsDoneOrNot : Reply → Type 0
IsDoneOrNot replies.Done = Unit {0}
IsDoneOrNot (replies.Refused refusal) = Unit {0}
IsDoneOrNot _ = ⊥
