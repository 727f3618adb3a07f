-- A commit is pending by the session's own record.
use Rattle.std.proofs.Common.{Bool, Contains, IfSome, Option, Some, refl, subst, ◌≡◌, ℕ, ◌+◌, ◌≤◌, List, ◌∷◌, ◌==◌, true, eq-eqb, arith}
use Rattle.std.specs.List.{filter}
use Rattle.std.proofs.lemmas.Bool.{false≢true}
use Rattle.std.proofs.lemmas.List.Elements.{All-contains}
use Rattle.notes.specs.Lists.{at}
use Rattle.tx_events.specs.declared.record.Rec.TheVariants as records
use Rattle.tx_events.proofs.Membership.{contains_has, filter_has, has_contains}
use Rattle.tx_events.specs.declared.refusal.Refusal.{Refusal}
use Rattle.tx_model.specs.declared.command.Command.{Command}
use Rattle.tx_model.specs.declared.reply.Reply.TheVariants as replies
use Rattle.tx_model.specs.Replies.{RoundSpan}
use Rattle.tx_core.specs.declared.entry.Entry.{Entry}
use Rattle.tx_core.specs.declared.entry.Kind.TheVariants as kinds
use Rattle.tx_core.specs.declared.entry.Start.{Start}
use Rattle.tx_core.specs.Entries.{IsAppended, history}
use Rattle.tx_core.specs.Locks.{log_lock}
use Rattle.tx_core.proofs.Reading.{appended_at, flushed_appended}
use Rattle.session_levels.proofs.HeadLemmas.{first_level}
use Rattle.engine_parts.specs.declared.session.Session.{Session}
use Rattle.engine_parts.specs.declared.session.Stage.{Stage}
use Rattle.engine_parts.specs.declared.session.Stage.TheVariants as stages
use Rattle.engine_parts.specs.Answers.{IsCommitPending, MayAnswer}
use Rattle.engine_parts.specs.Holds.{Knowledge}
use Rattle.engine_parts.specs.Sessions.{MayCall, by_at, inner_id, stance_of}
use Rattle.engine_parts.specs.Stages.{IsInStage, may_be_recorded, pending_in}

-- the record that a stage tells of
pub record HasRecord (lists : List (List Entry)) (n : ℕ) (opened : List ℕ) : Type 0 where
  pub top : ℕ
  pub subs : List ℕ
  pub ids : opened ≡ top ∷ subs
  pub appended : IsAppended lists n (records.Commit top subs)

pub record_of : (start : Start) (lists : List (List Entry)) (n : ℕ) (inner : Option ℕ) (opened : List ℕ) (stage : Stage) → may_be_recorded stage ≡ true → IsInStage start lists n inner opened stage → HasRecord lists n opened
record_of start lists n inner opened stages.Clear q i = absurd (false≢true q)
record_of start lists n inner opened (stages.Logged number) q i = record { top = i.top; subs = i.subs; ids = i.ids; appended = appended_at lists n (records.Commit i.top i.subs) i.appended.place i.appended.by i.appended.own i.appended.stands }
record_of start lists n inner opened (stages.Settling steps) q i = record { top = i.top; subs = i.subs; ids = i.ids; appended = flushed_appended start lists n (records.Commit i.top i.subs) i.flushed }
record_of start lists n inner opened stages.Aborting q i = absurd (false≢true q)
record_of start lists n inner opened stages.Undoing q i = absurd (false≢true q)

pub commit_pends : (start : Start) (v : Knowledge) (n : ℕ) (s : Session) → MayCall start v n s → may_be_recorded s.stage ≡ true → IsCommitPending v.seen (by_at n (s.levels.commands + 1)) (stance_of s)
commit_pends start v n s m recorded =
    let a = m.ready.at in
    let r = record_of start v.seen n (inner_id s) s.levels.open_ids.items s.stage recorded m.stage in
    let e : Entry = record { by = r.appended.0; kind = kinds.Append (records.Commit r.top r.subs) } in
    let mine : Contains (filter (λ (f : Entry). f.by.session == n) (at v.seen log_lock)) e =
    has_contains _ e (filter_has (λ (f : Entry). f.by.session == n) (at v.seen log_lock) e (contains_has (at v.seen log_lock) e r.appended.2) (eq-eqb r.appended.0.session n r.appended.1)) in
    let before : r.appended.0.command ≤ s.levels.commands = All-contains (λ (f : Entry). f.by.command ≤ s.levels.commands) _ e (a.turns log_lock).after mine in
    record {
      top = r.top;
      subs = r.subs;
      other = r.appended.0;
      own = r.appended.1;
      earlier = omega arith;
      top_is = first_level (history v.seen) s.levels.open_ids.items s.levels.level_ids.items s.levels.unnamed r.top r.subs a.stands.nest r.ids;
      stands = r.appended.2;
    }

-- the refusals by the stage are lawful
pub pending_answer : (tells : Bool) (start : Start) (v : Knowledge) (n : ℕ) (s : Session) (span : RoundSpan) (command : Command) (r : Refusal) → MayCall start v n s → pending_in s.stage ≡ Some r
    → MayAnswer tells start v.seen span (by_at n (s.levels.commands + 1)) (stance_of s) s.stage command (replies.Refused r)
pending_answer tells start v n s span command r m is =
    subst (λ (o : Option Refusal). IfSome o (λ x. MayAnswer tells start v.seen span (by_at n (s.levels.commands + 1)) (stance_of s) s.stage command (replies.Refused x))) is (each s.stage (commit_pends start v n s m))
  where
    each : (x : Stage) → (may_be_recorded x ≡ true → IsCommitPending v.seen (by_at n (s.levels.commands + 1)) (stance_of s)) → IfSome (pending_in x) (λ r. MayAnswer tells start v.seen span (by_at n (s.levels.commands + 1)) (stance_of s) x command (replies.Refused r))
    each stages.Clear f = tt
    each (stages.Logged number) f = f refl
    each (stages.Settling steps) f = f refl
    each stages.Aborting f = refl
    each stages.Undoing f = refl
