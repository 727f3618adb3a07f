-- What a commit leaves pending goes by whether its record stands in the log.
use Rattle.std.proofs.Common.{◌≡◌, Bool, Option, Some, cond, refl, ap}
use Rattle.tx_events.specs.declared.record.Rec.{Rec}
use Rattle.std.proofs.Common.{List}
use Rattle.tx_events.specs.declared.refusal.Lock.TheVariants as locks
use Rattle.tx_events.specs.declared.refusal.Refusal.{Refusal}
use Rattle.tx_events.specs.declared.refusal.Refusal.TheVariants as refusals
use Rattle.tx_model.specs.declared.command.Command.TheVariants as commands
use Rattle.tx_model.specs.declared.reply.Reply.{Reply}
use Rattle.tx_model.specs.declared.reply.Reply.TheVariants as replies
use Rattle.tx_model.specs.Stance.{Stance, top_level}
use Rattle.life_law.specs.Pending.{is_recorded, pending_after}
use Rattle.standing_rules.specs.Told.{logged_after}

pub logged_is : (recs : List Rec) (s : Stance) (recorded : Bool) (old : Option Refusal) (reply : Reply) → recorded ≡ is_recorded recs (top_level s.levels) → logged_after recorded old reply ≡ pending_after recs s old commands.Commit reply
logged_is recs s recorded old replies.Done e = refl
logged_is recs s recorded old (replies.Refused refusals.LogFault) e = refl
logged_is recs s recorded old (replies.Refused (refusals.DiskFault (locks.Xact bank))) e = refl
logged_is recs s recorded old (replies.Refused (refusals.LogDown at)) e = ap (λ b. cond b (Some refusals.CommitPending) old) e
logged_is recs s recorded old reply e = refl
