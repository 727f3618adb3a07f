-- What a command on multixacts may be answered, by the two histories.
use Rattle.std.specs.Prelude.{◌≡◌, ℕ, ◌<◌, ◌^◌, ◌↔◌, IsTrue, List, None, Some, length}
use Rattle.std.specs.List.{AllByRecursion}
use Rattle.tx_events.specs.Ids.{IsFullMulti, IsXidNumber}
use Rattle.tx_events.specs.declared.event.By.{By}
use Rattle.tx_events.specs.declared.event.Event.{Event}
use Rattle.tx_events.specs.declared.multi.MultiEvent.{MultiEvent}
use Rattle.tx_events.specs.declared.record.Counters.{Counters}
use Rattle.tx_events.specs.declared.refusal.Refusal.TheVariants as refusals
use Rattle.tx_model.specs.declared.command.Command.{Command}
use Rattle.tx_model.specs.declared.command.Command.TheVariants as commands
use Rattle.tx_model.specs.declared.reply.MemberVerdict.{MemberVerdict}
use Rattle.tx_model.specs.declared.reply.Reply.{Reply}
use Rattle.tx_model.specs.declared.reply.Reply.TheVariants as replies
use Rattle.tx_model.specs.Replies.{RoundSpan}
use Rattle.tx_model.specs.Stance.{Stance, snap_of}
use Rattle.life_law.specs.MultiLines.{AreVerdicts, IsHeldBack, IsMemberStop, IsMultiBackward, IsMultiFuture, IsMultiStop, IsMultiTooOld, IsMultiWarned, IsNotGiven, IsOldMember, IsPinnedOrNext}
use Rattle.life_law.specs.MultiPlaces.{Recorded}

-- what the pages tell in any case: the verdict is on a number of an id, and a multixact that isn't there yet has one
abbrev pub IsOfId : MemberVerdict → Type 0
IsOfId v = (v.id < 2 ^ 64) × IsXidNumber v.id

abbrev pub IsMultiNumber : ℕ → Type 0
IsMultiNumber multi = (multi < 2 ^ 64) × IsFullMulti multi

-- In a round with these spans of the two histories. What the pages show is judged where they told; whether a multixact
-- isn't recorded yet is judged by the one who asks. A refusal by the members alone, or for a snapshot that there isn't, is
-- judged elsewhere.
abbrev pub MayReplyMulti : Type 0 → (ℕ → Type 0) → Counters → List ℕ → List Recorded → List Event → List MultiEvent
    → RoundSpan → RoundSpan → By → Stance → Command → Reply → Type 0
MayReplyMulti told NotYet base committed recorded h all span multis by s (commands.Multi pairs) (replies.Multi multi offset warn) =
    IsTrue warn ↔ IsMultiWarned base all by multi
MayReplyMulti told NotYet base committed recorded h all span multis by s (commands.Multi pairs) (replies.Refused (refusals.NotGiven x)) =
    IsNotGiven base h span by pairs x.number
MayReplyMulti told NotYet base committed recorded h all span multis by s (commands.Multi pairs) (replies.Refused (refusals.TooOld oldest)) =
    IsOldMember base h span by pairs oldest
MayReplyMulti told NotYet base committed recorded h all span multis by s (commands.Multi pairs) (replies.Refused (refusals.MultiStop next stop)) =
    IsMultiStop base all multis by next stop
MayReplyMulti told NotYet base committed recorded h all span multis by s (commands.Multi pairs) (replies.Refused (refusals.MemberStop next stop)) =
    IsMemberStop base all multis by (length pairs) next stop
MayReplyMulti told NotYet base committed recorded h all span multis by s (commands.Multi pairs) (replies.Refused refusals.MemberCount) = Unit {0}
MayReplyMulti told NotYet base committed recorded h all span multis by s (commands.Multi pairs) (replies.Refused refusals.TwoUpdaters) = Unit {0}
MayReplyMulti told NotYet base committed recorded h all span multis by s (commands.SeeMulti name m) (replies.Verdicts verdicts) =
    AllByRecursion IsOfId verdicts
    × (told → (number : ℕ) × (snap_of name s ≡ Some number) × AreVerdicts base committed recorded h all span by number verdicts)
MayReplyMulti told NotYet base committed recorded h all span multis by s (commands.SeeMulti name m) (replies.Refused (refusals.NotYet multi)) =
    IsMultiNumber multi × (told → NotYet multi)
MayReplyMulti told NotYet base committed recorded h all span multis by s (commands.SeeMulti name m) (replies.Refused (refusals.MultiTooOld oldest)) =
    IsMultiTooOld base all multis by m.number oldest
MayReplyMulti told NotYet base committed recorded h all span multis by s (commands.SeeMulti name m) (replies.Refused (refusals.MultiFuture next)) =
    IsMultiFuture base all multis by m.number next
MayReplyMulti told NotYet base committed recorded h all span multis by s (commands.SeeMulti name m) (replies.Refused refusals.NoSnapshot) =
    snap_of name s ≡ None
MayReplyMulti told NotYet base committed recorded h all span multis by s (commands.MultiFreeze multi) replies.Done = IsPinnedOrNext base all by multi
MayReplyMulti told NotYet base committed recorded h all span multis by s (commands.MultiFreeze multi) (replies.Refused (refusals.Backward now)) =
    IsMultiBackward base all multis by multi now
MayReplyMulti told NotYet base committed recorded h all span multis by s (commands.MultiFreeze multi) (replies.Refused (refusals.Held limit)) =
    IsHeldBack base all multis by multi limit
MayReplyMulti told NotYet base committed recorded h all span multis by s (commands.MultiFreeze multi) (replies.Refused (refusals.NotYet next)) =
    IsMultiNumber next × (told → NotYet next)
MayReplyMulti told NotYet base committed recorded h all span multis by s commands.Trim replies.Done = Unit {0}
MayReplyMulti told NotYet base committed recorded h all span multis by s command reply = ⊥
