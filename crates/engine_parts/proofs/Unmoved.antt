-- What a call did that left its session as it stood.
use Rattle.std.proofs.Common.{false, append-nil, ◌≡◌, ◌≤◌, ℕ, List, [], None, length, refl, sym, ap, subst, ◌∙◌}
use Rattle.std.specs.List.{AllByRecursion}
use Rattle.disk_core.specs.declared.log_disk.LogDisk as logs
use Rattle.disk_core.specs.declared.page_disk.PageDisk as disks
use Rattle.hall.specs.declared.hall.Hall.{Hall}
use Rattle.hall.specs.Calls.{IsOf, start_of, view}
use Rattle.notes.proofs.Growing.{begins_length}
use Rattle.tx_events.specs.declared.event.Event.{Event}
use Rattle.tx_events.specs.Events.{by_of, given}
use Rattle.tx_events.specs.Running.{open_ids}
use Rattle.tx_model.specs.declared.command.Command.{Command}
use Rattle.tx_model.specs.declared.reply.Reply.{Reply}
use Rattle.tx_model.specs.CommandEvents.{HasEvents}
use Rattle.tx_model.specs.Replies.{alone}
use Rattle.tx_model.specs.Stance.{after}
use Rattle.life_law.specs.Refused.{by_standing, refused_by}
use Rattle.tx_core.specs.declared.entry.Entry.{Entry}
use Rattle.tx_core.specs.declared.entry.Kind.{Kind}
use Rattle.tx_core.specs.declared.entry.Kind.TheVariants as kinds
use Rattle.tx_core.specs.declared.entry.Start.{Start}
use Rattle.tx_core.specs.Entries.{history}
use Rattle.tx_core.specs.Locks.{oldest_word, proc_lock}
use Rattle.tx_core.proofs.Lasting.{history_grows}
use Rattle.engine_parts.specs.declared.part.Part.{Part}
use Rattle.engine_parts.specs.declared.session.Caller.{Caller}
use Rattle.engine_parts.specs.declared.session.Session.{Session}
use Rattle.engine_parts.specs.Adding.{Adds, MayLeave}
use Rattle.engine_parts.specs.Answers.{MayAnswer, touches_multis}
use Rattle.tx_core.specs.OwnMultis.{own_multis}
use Rattle.engine_parts.proofs.Touching.{any_answer, no_multis}
use Rattle.engine_parts.specs.Calls.{IsCounted, MayRun, Ran, next_command}
use Rattle.engine_parts.specs.Holds.{Knowledge, ProcSection}
use Rattle.engine_parts.specs.Makings.{has_more_multis}
use Rattle.engine_parts.specs.Sessions.{IsAt, IsReady, MayCall, by_at, inner_id, look_by, stance_of}
use Rattle.engine_parts.specs.Stages.{IsInStage, pending_in}
use Rattle.engine_parts.specs.Standing.{flushes, moves_end, needs_log}
use Rattle.engine_parts.specs.Steps.{WentOn}
use Rattle.engine_parts.proofs.Beholding.{held_unneeded, not_standing}
use Rattle.engine_parts.proofs.Calling.{may_counted, ran_counted}
use Rattle.engine_parts.proofs.Going.{stage_later}
use Rattle.engine_parts.proofs.KeptMaking.{plain_making}
use Rattle.engine_parts.proofs.Refusing.{keeps_stage}
use Rattle.engine_parts.proofs.Sectioning.{proc_section_adds}

-- the history is no shorter behind steps without an event
pub went_longer : (n : ℕ) (lists more : List (List Entry)) → WentOn n [] lists more → length (history lists) ≤ length (history more)
went_longer n lists more went = begins_length (history lists) (history more) (history_grows lists more went.on.grows)

-- a look at the ProcArray
pub look_adds : (start : Start) (v w : Knowledge) (n : ℕ) (s : Session) (May : ℕ → Kind → Type 0) → IsAt start v n s → ((number : ℕ) → May (oldest_word start) (kinds.Post number)) → May proc_lock kinds.Look → ProcSection start (look_by n s) v w → Adds (by_at n s.levels.commands) May v.seen w.seen
look_adds start v w n s May a posts may section = proc_section_adds start v w n s (look_by n s) a refl section May posts may

-- a session that may call may call again behind such steps
pub call_read : {added : List Event} (start : Start) (v w : Knowledge) (n n' : ℕ) (s s' : Session) → MayCall start v n s → WentOn n added v.seen w.seen → n' ≡ n → s' ≡ s → IsReady start w n' s' → MayCall start w n' s'
call_read start v w n n' s s' m went number same r = record {
  ready = r;
  stage = subst (λ (z : ℕ × Session). IsInStage start w.seen z.0 (inner_id z.1) z.1.levels.open_ids.items z.1.stage) (λ j. (sym number j, sym same j))
      (stage_later start v.seen w.seen n (inner_id s) s.levels.open_ids.items s.stage went.on.grows went.asks m.stage);
}

-- a session that stands the same, in what it has seen since
pub at_same : (start : Start) (w : Knowledge) (n n' : ℕ) (s s' : Session) → n' ≡ n → s' ≡ s → IsReady start w n' s' → IsAt start w n s
at_same start w n n' s s' number same r = subst (λ (z : ℕ × Session). IsAt start w z.0 z.1) (λ j. (number j, same j)) r.at

-- what a call did that left its session as it stood, with these events
module _ {H L P : Type 0} {l : logs.Ghosts L} {p : disks.Ghosts P} (hall : Hall H (Part L P l p) Entry Start) where
  pub ran_unmoved : {banks : ℕ} (added : List Event) (old u new : Caller L P l p) (command : Command) (reply : Reply) → AllByRecursion (λ e. by_of e ≡ by_at u.number u.session.levels.commands) added → IsCounted old u → MayRun hall banks old → IsOf hall new.pass → IsReady (start_of hall) (view new.pass) new.number new.session → WentOn u.number added (view u.pass).seen (view new.pass).seen → new.session ≡ u.session → new.number ≡ u.number
      → HasEvents (by_at u.number u.session.levels.commands) (stance_of u.session) command reply added
      → Adds (by_at u.number u.session.levels.commands) (MayLeave command (stance_of u.session) u.session.stage (open_ids u.number (history (view u.pass).seen)) reply) (view u.pass).seen (view new.pass).seen
      → MayAnswer (p.tells) (start_of hall) (view new.pass).seen (alone (history (view u.pass).seen) (history (view new.pass).seen)) (by_at u.number u.session.levels.commands) (stance_of u.session) u.session.stage command reply
      → touches_multis command ≡ false → by_standing reply ≡ refused_by command (stance_of u.session) (pending_in u.session.stage) → after (stance_of u.session) u.session.levels.commands command reply (given added) ≡ stance_of u.session → moves_end command ≡ false → flushes command (stance_of u.session) u.session.stage ≡ false → needs_log command (stance_of u.session) u.session.stage ≡ false → by_standing reply ≡ None
      → Ran hall (next_command old) command reply old new
  ran_unmoved added old u new command reply each c m own ready went same number fitting adds allowed untouched standing left still unflushed unneeded free =
      ran_counted hall old u new command reply c (record {
        own = own;
        may = call_read (start_of hall) (view u.pass) (view new.pass) u.number new.number u.session new.session (may_counted hall old u c m) went number same ready;
        acted = record {
          grows = went.on.grows;
          added = added;
          own = went.on.own;
          each = each;
          fitting = fitting;
          multis = [];
          own_multi = went.on.multis ∙ sym (append-nil (own_multis u.number (view u.pass).seen));
          each_multi = tt;
          fitting_multi = no_multis (start_of hall) (view u.pass).seen (view new.pass).seen (by_at u.number u.session.levels.commands) command reply untouched;
          adds = adds;
          allowed = any_answer p.tells (start_of hall) (view u.pass).seen (view new.pass).seen (by_at u.number u.session.levels.commands) (stance_of u.session) u.session.stage command reply untouched allowed;
          standing = standing;
          left = left ∙ sym (ap stance_of same);
        };
        stage = keeps_stage command reply u.session.stage new.session.stage still (ap (λ (z : Session). z.stage) same);
        held = held_unneeded p.tells (start_of hall) (view new.pass).seen (alone (history (view u.pass).seen) (history (view new.pass).seen)) (by_at u.number u.session.levels.commands) (stance_of u.session) u.session.stage new.session.stage command reply unflushed unneeded allowed;
        still = λ q is. not_standing (by_standing reply) q free is;
        making = plain_making command reply (has_more_multis u.number (view u.pass).seen (view new.pass).seen) u.session.making new.session.making untouched (ap (λ (z : Session). z.making) same);
        count = (ap (λ (z : Session). z.levels.commands) same, number);
      })

  -- with none
  pub ran_read : {banks : ℕ} (old u new : Caller L P l p) (command : Command) (reply : Reply) → IsCounted old u → MayRun hall banks old → IsOf hall new.pass → IsReady (start_of hall) (view new.pass) new.number new.session → WentOn u.number [] (view u.pass).seen (view new.pass).seen → new.session ≡ u.session → new.number ≡ u.number
      → HasEvents (by_at u.number u.session.levels.commands) (stance_of u.session) command reply []
      → Adds (by_at u.number u.session.levels.commands) (MayLeave command (stance_of u.session) u.session.stage (open_ids u.number (history (view u.pass).seen)) reply) (view u.pass).seen (view new.pass).seen
      → MayAnswer (p.tells) (start_of hall) (view new.pass).seen (alone (history (view u.pass).seen) (history (view new.pass).seen)) (by_at u.number u.session.levels.commands) (stance_of u.session) u.session.stage command reply
      → touches_multis command ≡ false → by_standing reply ≡ refused_by command (stance_of u.session) (pending_in u.session.stage) → after (stance_of u.session) u.session.levels.commands command reply [] ≡ stance_of u.session → moves_end command ≡ false → flushes command (stance_of u.session) u.session.stage ≡ false → needs_log command (stance_of u.session) u.session.stage ≡ false → by_standing reply ≡ None
      → Ran hall (next_command old) command reply old new
  ran_read old u new command reply = ran_unmoved [] old u new command reply tt
