-- What a call did that left its session as it stood and had these events of multixacts.
use Rattle.std.proofs.Common.{◌≡◌, ⊎_elim, ℕ, ◌≤◌, ◌<◌, false, Contains, IfSome, List, [], ◌++◌, None, Some, append-nil, eq-eqb, sym, ap, subst, ◌∙◌, arith, ◌==◌}
use Rattle.std.specs.List.{AllByRecursion, filter}
use Rattle.std.proofs.lemmas.List.Elements.{recursion_from_All}
use Rattle.disk_core.specs.declared.log_disk.LogDisk as logs
use Rattle.disk_core.specs.declared.page_disk.PageDisk as disks
use Rattle.hall.specs.declared.hall.Hall.{Hall}
use Rattle.hall.specs.Calls.{start_of, view}
use Rattle.notes.specs.Lists.{at}
use Rattle.tx_events.proofs.Membership.{Has, all_at, contains_has, filter_has, has_cases, has_filter, has_filter_map}
use Rattle.tx_events.specs.Multis.{InBase, MultiMayCome, multi_by}
use Rattle.tx_events.specs.Running.{open_ids}
use Rattle.tx_events.specs.declared.event.By.{By}
use Rattle.tx_events.specs.declared.multi.MultiEvent.{MultiEvent}
use Rattle.tx_model.specs.declared.command.Command.{Command}
use Rattle.tx_model.specs.declared.reply.Reply.{Reply}
use Rattle.tx_model.specs.CommandEvents.{HasEvents}
use Rattle.tx_model.specs.Replies.{alone}
use Rattle.tx_model.specs.Stance.{after}
use Rattle.life_law.specs.Commands.{makes_multi}
use Rattle.life_law.specs.MultiLines.{HasMultiEvents}
use Rattle.life_law.specs.Refused.{by_standing, refused_by}
use Rattle.tx_core.specs.declared.entry.Entry.{Entry}
use Rattle.tx_core.specs.declared.entry.Start.{Start}
use Rattle.tx_core.specs.EngineInvariant.{EngineInvariant}
use Rattle.tx_core.specs.Entries.{history}
use Rattle.tx_core.specs.Locks.{multi_lock}
use Rattle.tx_core.specs.MultiEntries.{multi_history, multi_of, multis_in}
use Rattle.tx_core.specs.MultisLegal.{NeedsMulti, ToldOf}
use Rattle.tx_core.specs.OwnMultis.{is_multi_of, own_multis}
use Rattle.tx_core.specs.ProgramOrder.{IsInTurn}
use Rattle.tx_core.proofs.Asking.{upheld_has}
use Rattle.engine_parts.specs.declared.part.Part.{Part}
use Rattle.engine_parts.specs.declared.session.Caller.{Caller}
use Rattle.engine_parts.specs.declared.session.Session.{Session}
use Rattle.engine_parts.specs.Adding.{MayLeave}
use Rattle.engine_parts.specs.Answers.{MayAnswerAny}
use Rattle.engine_parts.specs.Calls.{IsCounted, IsHeldBehind, Ran, next_command}
use Rattle.engine_parts.specs.Makings.{has_more_multis}
use Rattle.engine_parts.specs.Sessions.{by_at, stance_of}
use Rattle.engine_parts.specs.Stages.{pending_in}
use Rattle.engine_parts.specs.Standing.{moves_end}
use Rattle.engine_parts.specs.Steps.{WentMulti}
use Rattle.engine_parts.proofs.Beholding.{not_standing}
use Rattle.engine_parts.proofs.Calling.{ran_counted}
use Rattle.engine_parts.proofs.KeptMaking.{kept_making}
use Rattle.engine_parts.proofs.Refusing.{keeps_stage}
use Rattle.xact_freezes.specs.Visits.{Visited}

module _ {H L P : Type 0} {l : logs.Ghosts L} {p : disks.Ghosts P} (hall : Hall H (Part L P l p) Entry Start) where
  pub ran_multi : {banks : ℕ} (xs : List MultiEvent) (old u new : Caller L P l p) (command : Command) (reply : Reply) → IsCounted old u → Visited hall banks (MayLeave command (stance_of u.session) u.session.stage (open_ids u.number (history (view u.pass).seen)) reply) xs u new
      → AllByRecursion (λ e. multi_by e ≡ by_at u.number u.session.levels.commands) xs
      → HasEvents (by_at u.number u.session.levels.commands) (stance_of u.session) command reply []
      → HasMultiEvents (start_of hall).base (history (view new.pass).seen) (alone (history (view u.pass).seen) (history (view new.pass).seen)) (multi_history (view new.pass).seen) (by_at u.number u.session.levels.commands) command reply xs
      → MayAnswerAny (p.tells) (start_of hall) (view u.pass).seen (view new.pass).seen (by_at u.number u.session.levels.commands) (stance_of u.session) u.session.stage command reply
      → by_standing reply ≡ refused_by command (stance_of u.session) (pending_in u.session.stage) → after (stance_of u.session) u.session.levels.commands command reply [] ≡ stance_of u.session → moves_end command ≡ false → makes_multi command ≡ false
      → IsHeldBehind (start_of hall) (view new.pass).seen command reply new.session.stage → by_standing reply ≡ None
      → Ran hall (next_command old) command reply old new
  ran_multi xs old u new command reply c v each fitting multis allowed standing left still made held free =
      ran_counted hall old u new command reply c (record {
        own = v.step.own;
        may = v.step.may;
        acted = record {
          grows = v.went.grows;
          added = [];
          own = v.went.own ∙ sym (append-nil _);
          each = tt;
          fitting = fitting;
          multis = xs;
          own_multi = v.went.multis;
          each_multi = each;
          fitting_multi = multis;
          adds = v.adds;
          allowed = allowed;
          standing = standing;
          left = left ∙ sym (ap stance_of v.session);
        };
        stage = keeps_stage command reply u.session.stage new.session.stage still (ap (λ (z : Session). z.stage) v.session);
        held = held;
        making = kept_making command reply (has_more_multis u.number (view u.pass).seen (view new.pass).seen) u.session.making new.session.making made (ap (λ (z : Session). z.making) v.session);
        still = λ q is. not_standing (by_standing reply) q free is;
        count = (ap (λ (z : Session). z.levels.commands) v.session, v.number);
      })

-- ---- the events of a command

if_here : (P : MultiEvent → Type 0) (e : Entry) (event : MultiEvent) → IfSome (multi_of e) P → multi_of e ≡ Some event → P event
if_here P e event k is = subst (λ o. IfSome o P) is k

-- a command that the session hasn't begun has no event
pub none_yet : (start : Start) (lists : List (List Entry)) (by : By) (command : ℕ) → EngineInvariant start lists → IsInTurn start (at lists multi_lock) by → by.command < command → (e : MultiEvent) → Has (multi_history lists) e → multi_by e ≡ record by { command = command } → ⊥
none_yet start lists by command k turn later e there own =
    let f = has_filter_map multi_of (at lists multi_lock) e there in
    let need = upheld_has (NeedsMulti start) lists multi_lock f.0 k.multis.each f.1 in
    let mine : multi_by e ≡ f.0.by = (if_here (λ event. (multi_by event ≡ f.0.by) × MultiMayCome start.base (InBase start.base) (multis_in need.0) event × ToldOf start event) f.0 e need.1 f.2).0 in
    let same : f.0.by ≡ record by { command = command } = sym mine ∙ own in
    let le : f.0.by.command ≤ by.command = all_at (λ (g : Entry). g.by.command ≤ by.command) (filter (λ (g : Entry). g.by.session == by.session) (at lists multi_lock)) f.0 (recursion_from_All (λ (g : Entry). g.by.command ≤ by.command) (filter (λ (g : Entry). g.by.session == by.session) (at lists multi_lock)) turn.after)
    (filter_has (λ (g : Entry). g.by.session == by.session) (at lists multi_lock) f.0 f.1 (eq-eqb f.0.by.session by.session (ap (λ (z : By). z.session) same))) in
    let is : f.0.by.command ≡ command = ap (λ (z : By). z.command) same in
    omega (arith, le, is, later)

-- so an event of it is one of those that it had
pub own_event : (start : Start) (lists more : List (List Entry)) (by : By) (command : ℕ) (xs : List MultiEvent) (e : MultiEvent) → EngineInvariant start lists → IsInTurn start (at lists multi_lock) by → by.command < command → WentMulti by.session xs lists more → Contains (multi_history more) e → multi_by e ≡ record by { command = command } → Has xs e
own_event start lists more by command xs e k turn later went c own =
    let mine : (multi_by e).session ≡ by.session = ap (λ (z : By). z.session) own in
    let there : Has (own_multis by.session lists ++ xs) e = subst (λ (l : List MultiEvent). Has l e) went.multis (filter_has (is_multi_of by.session) (multi_history more) e (contains_has (multi_history more) e c) (eq-eqb (multi_by e).session by.session mine)) in
    ⊎_elim
    (λ (old : Has (own_multis by.session lists) e). absurd (none_yet start lists by command k turn later e (has_filter (is_multi_of by.session) (multi_history lists) e old).0 own))
    (λ (new : Has xs e). new)
    (has_cases (own_multis by.session lists) xs e there)
