-- What a command's reply tells that touches no multixact.
use Rattle.std.proofs.Common.{◌≡◌, ◌⊎◌, ◌<◌, ℕ, Bool, Contains, Err, IfOk, IsTrue, List, None, Ok, Result, false, inl, inr, refl, sym, ◌∙◌, ⊎_elim}
use Rattle.tx_events.specs.declared.event.By.{By}
use Rattle.tx_events.specs.declared.multi.MultiEvent.TheVariants as multis
use Rattle.tx_events.specs.declared.refusal.Refusal.{Refusal}
use Rattle.tx_events.specs.declared.refusal.Refusal.TheVariants as refusals
use Rattle.tx_model.specs.declared.command.Command.{Command}
use Rattle.tx_model.specs.declared.command.Command.TheVariants as commands
use Rattle.tx_model.specs.declared.command.Pair.{Pair}
use Rattle.tx_model.specs.declared.reply.Reply.{Reply}
use Rattle.tx_model.specs.declared.reply.Reply.TheVariants as replies
use Rattle.tx_model.specs.Stance.{Stance}
use Rattle.life_law.specs.Commands.{makes_multi}
use Rattle.life_law.specs.Refused.{by_members, refused_by_members}
use Rattle.tx_core.specs.declared.entry.Entry.{Entry}
use Rattle.tx_core.specs.declared.entry.Start.{Start}
use Rattle.tx_core.specs.MultiEntries.{AreFewMultis, multi_history}
use Rattle.multi_store.specs.declared.answers.MultiGiven.{MultiGiven}
use Rattle.engine_parts.specs.declared.session.Stage.{Stage}
use Rattle.engine_parts.specs.Answers.{MayAnswerAny, reply_of}
use Rattle.multi_makes.specs.Makes.{IsMade, given_reply}
use Rattle.xact_freezes.specs.Trims.{HasTrimmed as HasCut}
use Rattle.session_promise.specs.Promise.{HasTrimmed, IsMadeFor, IsRaisedAsTold, IsRecordedIn}

-- whether a command makes a multixact
is_multi : (command : Command) → ((pairs : List Pair) × (command ≡ commands.Multi pairs)) ⊎ (makes_multi command ≡ false)
is_multi (commands.Multi pairs) = inl (pairs, refl)
is_multi command = inr refl

none_asked : (command : Command) → makes_multi command ≡ false → refused_by_members command ≡ None
none_asked (commands.Multi pairs) plain = absurd cc
none_asked command plain = refl

module _ (tells : Bool) (start : Start) (begun lists : List (List Entry)) (by : By) (s : Stance) (stage : Stage) where
  abbrev Answers : Command → Reply → Type 0
  Answers command reply = MayAnswerAny tells start begun lists by s stage command reply

  -- none but a new multixact is refused by members
  no_count : (command : Command) → makes_multi command ≡ false → Answers command (replies.Refused refusals.MemberCount) → ⊥
  no_count (commands.Multi pairs) plain a = absurd cc
  no_count command plain a = a

  no_updaters : (command : Command) → makes_multi command ≡ false → Answers command (replies.Refused refusals.TwoUpdaters) → ⊥
  no_updaters (commands.Multi pairs) plain a = absurd cc
  no_updaters command plain a = a

  -- and none else is given one
  no_multi : (command : Command) (multi offset : ℕ) (warn : Bool) → makes_multi command ≡ false → Answers command (replies.Multi multi offset warn) → ⊥
  no_multi (commands.Multi pairs) multi offset warn plain a = absurd cc
  no_multi command multi offset warn plain a = a

  no_members : (command : Command) (refusal : Refusal) → makes_multi command ≡ false → Answers command (replies.Refused refusal) → by_members (replies.Refused refusal) ≡ None
  no_members command refusals.MemberCount plain a = absurd (no_count command plain a)
  no_members command refusals.TwoUpdaters plain a = absurd (no_updaters command plain a)
  no_members command refusal plain a = refl

  plain_members : (command : Command) (reply : Reply) → makes_multi command ≡ false → Answers command reply → by_members reply ≡ None
  plain_members command (replies.Refused refusal) plain a = no_members command refusal plain a
  plain_members command reply plain a = refl

  plain_made : (command : Command) (reply : Reply) (n : ℕ) → makes_multi command ≡ false → Answers command reply → IsMadeFor start lists n reply
  plain_made command (replies.Multi multi offset warn) n plain a = absurd (no_multi command multi offset warn plain a)
  plain_made command reply n plain a = tt

  -- so a reply goes by the members exactly where these are so
  pub members_told : (command : Command) (reply : Reply) → Answers command reply → ((pairs : List Pair) → command ≡ commands.Multi pairs → by_members reply ≡ refused_by_members command) → by_members reply ≡ refused_by_members command
  members_told command reply a given = ⊎_elim
      (λ (m : (pairs : List Pair) × (command ≡ commands.Multi pairs)). given m.0 m.1)
      (λ (plain : makes_multi command ≡ false). plain_members command reply plain a ∙ sym (none_asked command plain))
      (is_multi command)

  -- and a multixact that was given is made
  pub made_told : (command : Command) (reply : Reply) (n : ℕ) → Answers command reply → ((pairs : List Pair) → command ≡ commands.Multi pairs → IsMadeFor start lists n reply) → IsMadeFor start lists n reply
  made_told command reply n a given = ⊎_elim
      (λ (m : (pairs : List Pair) × (command ≡ commands.Multi pairs)). given m.0 m.1)
      (λ (plain : makes_multi command ≡ false). plain_made command reply n plain a)
      (is_multi command)

-- a raise is to what is recorded
pub raised_told : (tells : Bool) (start : Start) (lists : List (List Entry)) (by : By) (command : Command) (reply : Reply) → ((multi : ℕ) → command ≡ commands.MultiFreeze multi → IsRaisedAsTold tells start lists by command reply) → IsRaisedAsTold tells start lists by command reply
raised_told tells start lists by (commands.MultiFreeze m) reply given = given m refl
raised_told tells start lists by command reply given = tt

-- ---- what the calls tell

-- a multixact that a call gave is made
pub made_by : (start : Start) (lists : List (List Entry)) (n : ℕ) (result : Result MultiGiven Refusal) → IfOk result (IsMade start lists n) → IsMadeFor start lists n (reply_of given_reply result)
made_by start lists n (Ok g) done = (done.members, done.done)
made_by start lists n (Err r) done = tt

-- a truncation that a call did has its record on disk
pub trimmed_by : {T : Type 0} (start : Start) (before lists : List (List Entry)) (by : By) (result : Result T Refusal) → IfOk result (λ _. HasCut start before lists by) → reply_of (λ _. replies.Done) result ≡ replies.Done → HasTrimmed start lists by
trimmed_by start before lists by (Ok x) cut done = record { place = cut.place; to = cut.to; oldest = cut.oldest; multi = cut.multi; offset = cut.offset; stands = cut.stands; past = cut.past; flushed = cut.flushed }
trimmed_by start before lists by (Err r) cut done = absurd cc

-- a raise that a call did is to what is recorded
pub raised_by : {T : Type 0} (tells : Bool) (start : Start) (lists : List (List Entry)) (by : By) (multi : ℕ) (result : Result T Refusal)
    → (IsTrue tells → IfOk result (λ _. AreFewMultis lists → multi < start.base.multi → (offset : ℕ) → Contains (multi_history lists) (multis.Raise by multi offset) → IsRecordedIn start multi offset)) → IsRaisedAsTold tells start lists by (commands.MultiFreeze multi) (reply_of (λ _. replies.Done) result)
raised_by tells start lists by multi (Ok x) raised = raised
raised_by tells start lists by multi (Err r) raised = tt
