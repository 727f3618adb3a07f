-- What a call did that had no event, or one.
use Rattle.std.proofs.Common.{Bool, false, ◌≡◌, ℕ, List, [], ◌∷◌, None, Some, sym, subst, ◌∙◌, append-nil}
use Rattle.std.specs.List.{filter}
use Rattle.notes.specs.Lists.{at}
use Rattle.notes.proofs.Growing.{begins_same}
use Rattle.tx_events.specs.declared.event.Event.{Event}
use Rattle.tx_events.specs.declared.refusal.Refusal.{Refusal}
use Rattle.tx_events.specs.Events.{by_of, given, is_of}
use Rattle.tx_events.specs.Running.{open_ids}
use Rattle.tx_model.specs.declared.command.Command.{Command}
use Rattle.tx_model.specs.declared.reply.Reply.{Reply}
use Rattle.tx_model.specs.declared.reply.Reply.TheVariants as replies
use Rattle.tx_model.specs.CommandEvents.{HasEvents}
use Rattle.tx_model.specs.Stance.{Stance, after}
use Rattle.tx_core.specs.declared.entry.Entry.{Entry}
use Rattle.tx_core.specs.declared.entry.Start.{Start}
use Rattle.tx_core.specs.Entries.{asks_in, event_of, history}
use Rattle.tx_core.specs.Locks.{proc_lock}
use Rattle.tx_model.specs.Replies.{alone}
use Rattle.engine_parts.proofs.Touching.{any_answer, no_multis}
use Rattle.tx_core.specs.MultiEntries.{multi_of}
use Rattle.tx_core.specs.OwnMultis.{own_multis}
use Rattle.engine_parts.specs.declared.session.Session.{Session}
use Rattle.engine_parts.specs.declared.session.Stage.{Stage}
use Rattle.engine_parts.specs.Adding.{IsPlain, MayLeave}
use Rattle.engine_parts.specs.Answers.{Acted, MayAnswer, touches_multis}
use Rattle.engine_parts.specs.Holds.{EntersProc, Knowledge, Leaves}
use Rattle.engine_parts.specs.Sessions.{IsAt, by_at, stance_of}
use Rattle.life_law.specs.Refused.{by_standing, refused_by}
use Rattle.engine_parts.proofs.Adding.{adds_nothing, event_plain, plain_leaves}
use Rattle.engine_parts.proofs.Refusing.{refused_leaves}
use Rattle.engine_parts.specs.Stages.{pending_in}
use Rattle.engine_parts.proofs.Sectioning.{proc_added, proc_event, proc_quiet}

-- with one critical section, of the ProcArray, which had no event
pub acted_looked : {tells : Bool} (start : Start) (v u w : Knowledge) (n : ℕ) (s : Session) (s' : Stance) (stage : Stage) (command : Command) (reply : Reply) (e : Entry) → IsAt start v n s → EntersProc start (by_at n s.levels.commands) v u → event_of e ≡ None → multi_of e ≡ None → asks_in e ≡ [] → e.by ≡ by_at n s.levels.commands → IsPlain proc_lock e.kind → Leaves start proc_lock e u w
    → HasEvents (by_at n s.levels.commands) (stance_of s) command reply [] → touches_multis command ≡ false → MayAnswer tells start w.seen (alone (history v.seen) (history w.seen)) (by_at n s.levels.commands) (stance_of s) stage command reply → by_standing reply ≡ refused_by command (stance_of s) (pending_in stage) → after (stance_of s) s.levels.commands command reply [] ≡ s'
    → Acted tells start (by_at n s.levels.commands) (stance_of s) s' stage command reply v.seen w.seen
acted_looked {tells = tells} start v u w n s s' stage command reply e a entered looks none asks mine plain l fitting untouched allowed standing left =
    let went = proc_quiet start v u w n s e a entered looks none asks l in
    record {
      grows = went.on.grows;
      added = [];
      own = went.on.own;
      each = tt;
      fitting = fitting;
      multis = [];
      own_multi = went.on.multis ∙ sym (append-nil (own_multis n v.seen));
      each_multi = tt;
      fitting_multi = no_multis start v.seen w.seen (by_at n s.levels.commands) command reply untouched;
      adds = proc_added start v u w n s e (MayLeave command (stance_of s) stage (open_ids n (history v.seen)) reply) a entered (λ number. tt) l mine (plain_leaves command (stance_of s) stage (open_ids n (history v.seen)) reply proc_lock e.kind plain);
      allowed = any_answer tells start v.seen w.seen (by_at n s.levels.commands) (stance_of s) stage command reply untouched allowed;
      standing = standing;
      left = left;
    }

-- with one critical section, of the ProcArray, which had this event
pub acted_event : {tells : Bool} (start : Start) (v u w : Knowledge) (n : ℕ) (s : Session) (s' : Stance) (command : Command) (reply : Reply) (e : Entry) (event : Event) → IsAt start v n s → EntersProc start (by_at n s.levels.commands) v u → event_of e ≡ Some event → by_of event ≡ by_at n s.levels.commands → asks_in e ≡ [] → e.by ≡ by_at n s.levels.commands → Leaves start proc_lock e u w
    → HasEvents (by_at n s.levels.commands) (stance_of s) command reply (event ∷ []) → touches_multis command ≡ false → MayAnswer tells start w.seen (alone (history v.seen) (history w.seen)) (by_at n s.levels.commands) (stance_of s) s.stage command reply → by_standing reply ≡ refused_by command (stance_of s) (pending_in s.stage) → after (stance_of s) s.levels.commands command reply (given (event ∷ [])) ≡ s'
    → Acted tells start (by_at n s.levels.commands) (stance_of s) s' s.stage command reply v.seen w.seen
acted_event {tells = tells} start v u w n s s' command reply e event a entered is own asks mine l fitting untouched allowed standing left =
    let by = by_at n s.levels.commands in
    let went = proc_event start v u w by s e event a entered is own asks l in
    record {
      grows = went.on.grows;
      added = event ∷ [];
      own = went.on.own;
      each = (own, tt);
      fitting = fitting;
      multis = [];
      own_multi = went.on.multis ∙ sym (append-nil (own_multis n v.seen));
      each_multi = tt;
      fitting_multi = no_multis start v.seen w.seen by command reply untouched;
      adds = proc_added start v u w n s e (MayLeave command (stance_of s) s.stage (open_ids n (history v.seen)) reply) a entered (λ number. tt) l mine (plain_leaves command (stance_of s) s.stage (open_ids n (history v.seen)) reply proc_lock e.kind (event_plain proc_lock e.kind event is));
      allowed = any_answer tells start v.seen w.seen by (stance_of s) s.stage command reply untouched allowed;
      standing = standing;
      left = left;
    }

-- with none
pub acted_nothing : {tells : Bool} (start : Start) (lists lists' : List (List Entry)) (n number : ℕ) (s s' : Stance) (stage : Stage) (command : Command) (reply : Reply) → lists' ≡ lists → HasEvents (by_at n number) s command reply [] → touches_multis command ≡ false
    → MayAnswer tells start lists (alone (history lists) (history lists)) (by_at n number) s stage command reply → by_standing reply ≡ refused_by command s (pending_in stage) → after s number command reply [] ≡ s' → Acted tells start (by_at n number) s s' stage command reply lists lists'
acted_nothing {tells = tells} start lists lists' n number s s' stage command reply same fitting untouched allowed standing left =
    subst (λ z. Acted tells start (by_at n number) s s' stage command reply lists z) (sym same) (record {
      grows = record { begins = λ q. begins_same (at lists q) };
      added = [];
      own = sym (append-nil (filter (is_of n) (history lists)));
      each = tt;
      fitting = fitting;
      multis = [];
      own_multi = sym (append-nil (own_multis n lists));
      each_multi = tt;
      fitting_multi = no_multis start lists lists (by_at n number) command reply untouched;
      adds = adds_nothing (by_at n number) _ lists;
      allowed = any_answer tells start lists lists (by_at n number) s stage command reply untouched allowed;
      standing = standing;
      left = left;
    })

-- with none, and refused
pub acted_refused : {tells : Bool} (start : Start) (lists lists' : List (List Entry)) (n number : ℕ) (s s' : Stance) (stage : Stage) (command : Command) (r : Refusal) → lists' ≡ lists → s' ≡ s → HasEvents (by_at n number) s command (replies.Refused r) [] → touches_multis command ≡ false
    → MayAnswer tells start lists (alone (history lists) (history lists)) (by_at n number) s stage command (replies.Refused r) → by_standing (replies.Refused r) ≡ refused_by command s (pending_in stage) → Acted tells start (by_at n number) s s' stage command (replies.Refused r) lists lists'
acted_refused {tells = tells} start lists lists' n number s s' stage command r same stays fitting untouched allowed standing =
    acted_nothing {tells = tells} start lists lists' n number s s' stage command (replies.Refused r) same fitting untouched allowed standing
    (refused_leaves s number command r ∙ sym stays)
