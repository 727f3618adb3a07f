-- What a session has pending of its multixacts, by its lines.
use Rattle.std.specs.Prelude.{ℕ, ◌&&◌, Bool, true, false, List, [], ◌∷◌, length, nat_lt}
use Rattle.std.specs.List.{filter, list_any}
use Rattle.tx_events.specs.declared.event.By.{By}
use Rattle.tx_events.specs.declared.multi.MultiEvent.{MultiEvent}
use Rattle.tx_events.specs.declared.refusal.Refusal.TheVariants as refusals
use Rattle.tx_events.specs.Events.{same_by}
use Rattle.tx_model.specs.declared.command.Command.{Command}
use Rattle.tx_model.specs.declared.command.Command.TheVariants as commands
use Rattle.tx_model.specs.declared.reply.Reply.{Reply}
use Rattle.tx_model.specs.declared.reply.Reply.TheVariants as replies
use Rattle.tx_model.specs.declared.report.Line.{Line}
use Rattle.tx_model.specs.Lines.{is_line_of}
use Rattle.life_law.specs.MultiPlaces.{multis_of}

-- a multixact that has a number and isn't recorded: there is none, there may be one, there is one
pub data Unfinished : Type 0 where
  none : Unfinished
  perhaps : Unfinished
  sure : Unfinished

abbrev pub still : Unfinished → Unfinished
still none = none
still _ = sure

abbrev pub still_perhaps : Unfinished → Unfinished
still_perhaps none = none
still_perhaps _ = perhaps

-- A refused `multi` first finished what the one before left, or not. Want of memory doesn't tell which.
abbrev pub unfinished_after : Unfinished → Bool → Reply → Unfinished
unfinished_after old gave (replies.Multi multi offset warn) = none
unfinished_after old true (replies.Refused refusal) = sure
unfinished_after old false (replies.Refused (refusals.NotGiven x)) = none
unfinished_after old false (replies.Refused (refusals.TooOld oldest)) = none
unfinished_after old false (replies.Refused (refusals.MultiStop next stop)) = none
unfinished_after old false (replies.Refused (refusals.MemberStop next stop)) = none
unfinished_after old false (replies.Refused refusals.Memory) = still_perhaps old
unfinished_after old false (replies.Refused refusals.Full) = still old
unfinished_after old false (replies.Refused (refusals.LogDown at)) = still old
unfinished_after old false (replies.Refused (refusals.DiskFault lock)) = still old
unfinished_after old gave reply = old

abbrev pub unfinished_behind : Unfinished → Bool → Command → Reply → Unfinished
unfinished_behind old gave (commands.Multi members) reply = unfinished_after old gave reply
unfinished_behind old gave command reply = old

-- behind these lines of a session
abbrev pub unfinished_from : List MultiEvent → Unfinished → List Line → Unfinished
unfinished_from h old [] = old
unfinished_from h old (l ∷ lines) =
    unfinished_from h (unfinished_behind old (nat_lt 0 (length (multis_of l.by h))) l.command l.reply) lines

-- what is unfinished of a session after the lines before
abbrev pub unfinished : List MultiEvent → List Line → ℕ → Unfinished
unfinished h before session = unfinished_from h none (filter (is_line_of session) before)

-- whether the command was answered `ok` with a multixact
abbrev pub gave_multi : List Line → By → Bool
gave_multi lines by = list_any (λ l. same_by l.by by && is_multi l.reply) lines
  where
    is_multi : Reply → Bool
    is_multi (replies.Multi multi offset warn) = true
    is_multi reply = false
