-- Of single commands: what they append, and how they are answered.
use Rattle.std.proofs.Common.{Bool, true, List, [], drop, length, refl, subst, sym, ℕ, ⊎_elim, ◌++◌, ◌≡◌, ◌∷◌}
use Rattle.std.specs.List.{AllByRecursion}
use Rattle.std.proofs.lemmas.Bool.{false≢true}
use Rattle.tx_events.specs.declared.event.By.{By}
use Rattle.tx_events.specs.declared.record.Rec.{Rec}
use Rattle.tx_events.specs.declared.record.Rec.TheVariants as records
use Rattle.tx_model.specs.declared.command.Command.{Command}
use Rattle.tx_model.specs.declared.command.Command.TheVariants as commands
use Rattle.tx_model.specs.declared.reply.Reply.{Reply}
use Rattle.tx_model.specs.declared.reply.Reply.TheVariants as replies
use Rattle.tx_model.specs.Stance.{Stance}
use Rattle.life_law.specs.LawfulMultis.{is_ok_trim}
use Rattle.tx_core.specs.declared.entry.Entry.{Entry}
use Rattle.tx_core.specs.declared.entry.Start.{Start}
use Rattle.engine_parts.specs.declared.session.Stage.{Stage}
use Rattle.engine_parts.specs.Adding.{IsAbortOf, IsCommitOf, IsOfMulti, IsRecordBy, IsTruncation}
use Rattle.engine_parts.specs.Answers.{MayAnswerAny}
use Rattle.session_promise.specs.Told.{between, place_of}
use Rattle.session_promise.specs.Promise.{IsOfSession, MayAnswerIn}

pub all_front : {X : Type 0} (P : X → Type 0) (xs ys : List X) → AllByRecursion P (xs ++ ys) → AllByRecursion P xs
all_front P [] ys a = tt
all_front P (x ∷ xs) ys a = (a.0, all_front P xs ys a.1)

pub all_back : {X : Type 0} (P : X → Type 0) (xs ys : List X) → AllByRecursion P (xs ++ ys) → AllByRecursion P ys
all_back P [] ys a = a
all_back P (x ∷ xs) ys a = all_back P xs ys a.1

-- the record that a command may append is of an end, of a multixact or of a truncation
truncation_of : (rec : Rec) → IsTruncation rec → IsOfSession rec
truncation_of (records.Truncate oldest multi offset) t = tt
truncation_of rec t = absurd t

multi_of_session : (rec : Rec) → IsOfMulti rec → IsOfSession rec
multi_of_session (records.Multi multi offset members) m = tt
multi_of_session (records.Truncate oldest multi offset) m = tt
multi_of_session rec m = absurd m

pub of_session : (command : Command) (s : Stance) (stage : Stage) (opened : List ℕ) (rec : Rec) → IsRecordBy command s stage opened rec → IsOfSession rec
of_session commands.Commit s stage opened rec r = ⊎_elim (λ (c : IsCommitOf opened rec). subst IsOfSession (sym c.is) tt) (truncation_of rec) r.1
of_session commands.Abort s stage opened rec r = ⊎_elim (λ (c : IsAbortOf opened rec). subst IsOfSession (sym c.is) tt) (truncation_of rec) r.1
of_session (commands.Multi pairs) s stage opened rec r = multi_of_session rec r
of_session commands.Trim s stage opened rec r = truncation_of rec r
of_session command s stage opened rec r = absurd r

-- what a command was answered that ran alone
pub answered_in : (tells : Bool) (start : Start) (begun lists : List (List Entry)) (by : By) (s : Stance) (stage : Stage) (command : Command) (reply : Reply)
    → MayAnswerAny tells start begun lists by s stage command reply → MayAnswerIn tells start begun lists (between (place_of begun) (place_of lists)) by s stage command reply
answered_in tells start begun lists by s stage (commands.Multi pairs) reply a = a
answered_in tells start begun lists by s stage (commands.SeeMulti name m) reply a = a
answered_in tells start begun lists by s stage (commands.MultiFreeze multi) reply a = a
answered_in tells start begun lists by s stage commands.Trim reply a = a
answered_in tells start begun lists by s stage command reply a = a

-- an `ok` trim is one
pub trim_is : (by : By) (command : Command) (reply : Reply) → is_ok_trim (record { by = by; command = command; reply = reply }) ≡ true → (command ≡ commands.Trim) × (reply ≡ replies.Done)
trim_is by commands.Trim replies.Done e = (refl, refl)
trim_is by command reply e = absurd (false≢true e)

-- nothing stands behind all
pub none_behind : {X : Type 0} (P : X → Type 0) (xs : List X) → AllByRecursion P (drop (length xs) xs)
none_behind P [] = tt
none_behind P (x ∷ xs) = none_behind P xs
