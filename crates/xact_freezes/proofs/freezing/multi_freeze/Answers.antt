use Rattle.std.proofs.Common.{◌≡◌, ⊎_elim, inl, inr, ℕ, ◌+◌, ◌<◌, ◌≤◌, [], ◌∷◌, Contains, List, Ok, ap, arith, refl, subst, sym, ◌∙◌}
use Rattle.hall.specs.Calls.{view, start_of}
use Rattle.tx_events.proofs.Membership.{Has}
use Rattle.tx_events.specs.Ids.{low_half}
use Rattle.tx_events.specs.Running.{open_ids}
use Rattle.tx_events.specs.declared.multi.Member.{Member}
use Rattle.tx_events.specs.declared.record.Rec.TheVariants as records
use Rattle.tx_events.specs.declared.refusal.Refusal.{Refusal}
use Rattle.tx_events.specs.declared.event.By.{By}
use Rattle.tx_events.specs.declared.multi.MultiEvent.{MultiEvent}
use Rattle.tx_events.specs.declared.multi.MultiEvent.TheVariants as multis
use Rattle.tx_model.specs.declared.command.Command.TheVariants as commands
use Rattle.tx_model.specs.declared.reply.Reply.TheVariants as replies
use Rattle.life_law.specs.MultiLines.{IsPinnedOrNext}
use Rattle.life_law.specs.MultiReplies.{IsMultiNumber}
use Rattle.tx_core.specs.declared.entry.Entry.{Entry}
use Rattle.tx_core.specs.declared.entry.Kind.{Kind}
use Rattle.tx_core.specs.Entries.{history}
use Rattle.tx_core.specs.MultiEntries.{multi_history}
use Rattle.tx_core.proofs.Rising.{made_more}
use Rattle.tx_core.specs.Locks.{multi_lock}
use Rattle.engine_parts.specs.declared.session.Session.{Session}
use Rattle.engine_parts.specs.Adding.{IsPlain, MayLeave, MayMeet}
use Rattle.engine_parts.specs.Calls.{Ran, next_command}
use Rattle.engine_parts.specs.Steps.{WentMulti}
use Rattle.engine_parts.specs.Sessions.{by_at, look_by, stance_of}
use Rattle.engine_parts.proofs.Adding.{met_leaves, plain_leaves}
use Rattle.engine_parts.proofs.Calling.{may_counted, step_counted}
use Rattle.engine_parts.proofs.Sectioning.{shared_adds}
use Rattle.multi_sections.specs.Pinnings.{IsPinned, hold_event, unhold_event}
use Rattle.multi_sections.specs.Raisings.{StartsFreeze, freezing_event, raise_event}
use Rattle.multi_sections.specs.Steps.{MultiSection, entry_of}
use Rattle.xact_freezes.specs.Freezes.{IsNotFrozenPinned}
use Rattle.xact_freezes.specs.Visits.{Visited}
use Rattle.xact_freezes.proofs.Answering.{next_then, not_begun, not_pinned_so, pinned_then}
use Rattle.xact_freezes.proofs.Going.{multi_then, visited_now, visited_then}
use Rattle.xact_freezes.proofs.Ranning.{own_event, ran_multi}
use Rattle.xact_freezes.proofs.freezing.multi_freeze.Goals as goal

pub start_freeze-requires-clause-ready : goal.start_freeze-requires-clause-ready
start_freeze-requires-clause-ready g c = (may_counted c.args.hall.now c.args.caller.now c.count.new.caller c.count.ensures c.requires.may).ready

pub returns-in-Err-clause-ran : goal.returns-in-Err-clause-ran
returns-in-Err-clause-ran g c =
    let hall = c.args.hall.now in
    let start = start_of hall in
    let old = c.args.caller.now in
    let u = c.count.new.caller in
    let w = c.start_freeze.new.caller in
    let e = c.in-Err.ensures in
    let r = c.in-Err.refusal in
    let command = commands.MultiFreeze c.args.multi in
    let reply = replies.Refused r in
    let step = step_counted hall old u c.count.ensures c.requires.may in
    let by = by_at u.number u.session.levels.commands in
    let May = MayLeave command (stance_of u.session) u.session.stage (open_ids u.number (history (view u.pass).seen)) reply in
    let v = visited_now hall c.args.banks May [] u w step e.own e.ready e.starts.0 e.same (shared_adds start (view u.pass) (view w.pass) multi_lock (look_by u.number u.session) by u.session May (omega arith) step.may.ready.at e.section refl tt) in
    let fit = not_begun g.P.PageDisk.tells start (view u.pass).seen (view w.pass).seen by (stance_of u.session) u.session.stage w.session.stage c.args.multi r e.starts.0.grows e.starts.1 in
    ran_multi hall [] old u w command reply c.count.ensures v tt refl fit.events fit.answer fit.free refl refl refl fit.held fit.free

-- behind the pin the session may go on
pub freeze_pinned-requires-clause-step : goal.freeze_pinned-requires-clause-step
freeze_pinned-requires-clause-step g c =
    let hall = c.args.hall.now in
    let start = start_of hall in
    let old = c.args.caller.now in
    let u = c.count.new.caller in
    let w = c.start_freeze.new.caller in
    let e = c.in-Ok.ensures in
    let h = c.in-Pinned.held in
    let step = step_counted hall old u c.count.ensures c.requires.may in
    let starts = subst (λ z. StartsFreeze start u.number u.session c.args.multi (view u.pass).seen (view w.pass).seen (Ok z)) c.in-Pinned.is e.starts in
    let section = subst (λ z. MultiSection {R = Refusal} start u.number u.session (freezing_event u.number u.session c.args.multi) (view u.pass) (view w.pass) (Ok z)) c.in-Pinned.is e.section in
    (visited_now hall c.args.banks IsPlain (hold_event u.number u.session h ∷ []) u w step e.own e.ready starts.0 e.same
    (shared_adds start (view u.pass) (view w.pass) multi_lock (entry_of (hold_event u.number u.session h)) (by_at u.number u.session.levels.commands) u.session IsPlain (omega arith) step.may.ready.at section refl tt)).step

pub returns-in-Raised-clause-ran : goal.returns-in-Raised-clause-ran
returns-in-Raised-clause-ran g c =
    let hall = c.args.hall.now in
    let start = start_of hall in
    let old = c.args.caller.now in
    let u = c.count.new.caller in
    let w = c.start_freeze.new.caller in
    let e = c.in-Ok.ensures in
    let offset = c.in-Raised._offset in
    let command = commands.MultiFreeze c.args.multi in
    let step = step_counted hall old u c.count.ensures c.requires.may in
    let by = by_at u.number u.session.levels.commands in
    let May = MayLeave command (stance_of u.session) u.session.stage (open_ids u.number (history (view u.pass).seen)) replies.Done in
    let starts = subst (λ z. StartsFreeze start u.number u.session c.args.multi (view u.pass).seen (view w.pass).seen (Ok z)) c.in-Raised.is e.starts in
    let section = subst (λ z. MultiSection {R = Refusal} start u.number u.session (freezing_event u.number u.session c.args.multi) (view u.pass) (view w.pass) (Ok z)) c.in-Raised.is e.section in
    let event : MultiEvent = raise_event u.number u.session c.args.multi offset in
    let v = visited_now hall c.args.banks May (event ∷ []) u w step e.own e.ready starts.0.went e.same (shared_adds start (view u.pass) (view w.pass) multi_lock (entry_of event) by u.session May (omega arith) step.may.ready.at section refl tt) in
    ran_multi hall (event ∷ []) old u w command replies.Done c.count.ensures v (refl, tt) refl (inr (offset, refl)) (next_then start (view w.pass).seen by c.args.multi offset starts.0.before starts.0.last.split starts.1) refl refl refl refl tt refl

pub returns-in-Raised-clause-recorded : goal.returns-in-Raised-clause-recorded
returns-in-Raised-clause-recorded g c tells few below offset there =
    let start = start_of c.args.hall.now in
    let u = c.count.new.caller in
    let w = c.start_freeze.new.caller in
    let starts = subst (λ z. StartsFreeze start u.number u.session c.args.multi (view u.pass).seen (view w.pass).seen (Ok z)) c.in-Raised.is c.in-Ok.ensures.starts in
    let up = made_more start.base.multi [] starts.0.before (starts.0.before, refl) in
    let next = starts.1 in
    absurd (omega (arith, up, next, below))

pub returns-in-Ok-freeze_pinned-clause-ran : goal.returns-in-Ok-freeze_pinned-clause-ran
returns-in-Ok-freeze_pinned-clause-ran g c =
    let hall = c.args.hall.now in
    let start = start_of hall in
    let old = c.args.caller.now in
    let u = c.count.new.caller in
    let mid = c.start_freeze.new.caller in
    let w = c.freeze_pinned.new.caller in
    let e = c.in-Ok.ensures in
    let h = c.in-Pinned.held in
    let command = commands.MultiFreeze c.args.multi in
    let step = step_counted hall old u c.count.ensures c.requires.may in
    let by = by_at u.number u.session.levels.commands in
    let May = MayLeave command (stance_of u.session) u.session.stage (open_ids u.number (history (view u.pass).seen)) replies.Done in
    let starts = subst (λ z. StartsFreeze start u.number u.session c.args.multi (view u.pass).seen (view mid.pass).seen (Ok z)) c.in-Pinned.is e.starts in
    let section = subst (λ z. MultiSection {R = Refusal} start u.number u.session (freezing_event u.number u.session c.args.multi) (view u.pass) (view mid.pass) (Ok z)) c.in-Pinned.is e.section in
    let hold : MultiEvent = hold_event u.number u.session h in
    let first : Visited hall c.args.banks IsPlain (hold ∷ []) u mid = visited_now hall c.args.banks IsPlain (hold ∷ []) u mid step e.own e.ready starts.0 e.same (shared_adds start (view u.pass) (view mid.pass) multi_lock (entry_of hold) by u.session IsPlain (omega arith) step.may.ready.at section refl tt) in
    let r = c.in-Ok-freeze_pinned.ensures.freezes in
    let offset = r.0 in
    let wide : (lock : ℕ) (kind : Kind) → IsPlain lock kind → May lock kind = plain_leaves command (stance_of u.session) u.session.stage (open_ids u.number (history (view u.pass).seen)) replies.Done in
    let all : Visited hall c.args.banks May (hold ∷ raise_event mid.number mid.session h.multi offset ∷ unhold_event mid.number mid.session h.multi ∷ []) u w =
    visited_then hall c.args.banks IsPlain IsPlain May (hold ∷ []) (raise_event mid.number mid.session h.multi offset ∷ unhold_event mid.number mid.session h.multi ∷ []) u mid w wide wide first r.1 in
    let same : h.multi ≡ c.args.multi = starts.2 in
    let xs : List MultiEvent = multis.Hold by c.args.multi ∷ multis.Raise by c.args.multi offset ∷ multis.Unhold by c.args.multi ∷ [] in
    let named : Visited hall c.args.banks May xs u w =
    subst (λ (z : By × ℕ). Visited hall c.args.banks May (multis.Hold by z.1 ∷ multis.Raise z.0 z.1 offset ∷ multis.Unhold z.0 z.1 ∷ []) u w) (λ j. (by_at (first.number j) (ap (λ (s : Session). s.levels.commands) first.session j), same j)) all in
    let then = pinned_then g.P.PageDisk.tells start (view u.pass).seen (view mid.pass).seen (view w.pass).seen by (stance_of u.session) u.session.stage w.session.stage h starts.3 starts.0.grows r.1.went.grows starts.4.split (subst (λ m. IsPinned start.base starts.3 (low_half m) h) (sym same) starts.5) in
    ran_multi hall xs old u w command replies.Done c.count.ensures named (refl, (refl, (refl, tt))) refl (inl (offset, refl)) (subst (λ m. IsPinnedOrNext start.base (multi_history (view w.pass).seen) by m) same then) refl refl refl refl tt refl

pub returns-in-Ok-freeze_pinned-clause-recorded : goal.returns-in-Ok-freeze_pinned-clause-recorded
returns-in-Ok-freeze_pinned-clause-recorded g c tells few below offset there =
    let hall = c.args.hall.now in
    let start = start_of hall in
    let old = c.args.caller.now in
    let u = c.count.new.caller in
    let mid = c.start_freeze.new.caller in
    let w = c.freeze_pinned.new.caller in
    let e = c.in-Ok.ensures in
    let h = c.in-Pinned.held in
    let a = c.requires.may.step.may.ready.at in
    let starts = subst (λ z. StartsFreeze start u.number u.session c.args.multi (view u.pass).seen (view mid.pass).seen (Ok z)) c.in-Pinned.is e.starts in
    let r = c.in-Ok-freeze_pinned.ensures.freezes in
    let same : h.multi ≡ c.args.multi = starts.2 in
    let number : u.number ≡ old.number = c.count.ensures.number in
    let counted : u.session.levels.commands ≡ old.session.levels.commands + 1 = ap (λ z. z.commands) c.count.ensures.levels in
    let xs : List MultiEvent = hold_event u.number u.session h ∷ raise_event mid.number mid.session h.multi r.0 ∷ unhold_event mid.number mid.session h.multi ∷ [] in
    let went : WentMulti u.number xs (view u.pass).seen (view w.pass).seen = multi_then u.number (hold_event u.number u.session h ∷ []) (raise_event mid.number mid.session h.multi r.0 ∷ unhold_event mid.number mid.session h.multi ∷ []) (view u.pass).seen (view mid.pass).seen (view w.pass).seen starts.0 (subst (λ z. WentMulti z (raise_event mid.number mid.session h.multi r.0 ∷ unhold_event mid.number mid.session h.multi ∷ []) (view mid.pass).seen (view w.pass).seen) e.same.1 r.1.went) in
    let from : WentMulti old.number xs (view old.pass).seen (view w.pass).seen = subst (λ (z : ℕ × List (List Entry)). WentMulti z.0 xs z.1 (view w.pass).seen) (λ j. (number j, (view (c.count.ensures.pass j)).seen)) went in
    let event : MultiEvent = multis.Raise (by_at old.number (old.session.levels.commands + 1)) c.args.multi offset in
    let mine : Has xs event = own_event start (view old.pass).seen (view w.pass).seen (by_at old.number old.session.levels.commands) (old.session.levels.commands + 1) xs event a.kept (a.turns multi_lock) (omega arith) from there refl in
    let is : r.0 ≡ offset = raised_at (by_at u.number u.session.levels.commands) (by_at mid.number mid.session.levels.commands) (by_at old.number (old.session.levels.commands + 1)) h.multi c.args.multi r.0 offset mine in
    let told = r.2 tells few (subst (λ m. m < start.base.multi) (sym same) below) in
    subst (λ (z : ℕ × ℕ). (members : List Member) × Contains start.recorded (records.Multi z.0 z.1 members)) (λ j. (same j, is j)) told
  where
    raised_at : (a b d : By) (multi m x y : ℕ) → Has (multis.Hold a multi ∷ multis.Raise b multi x ∷ multis.Unhold b multi ∷ []) (multis.Raise d m y) → x ≡ y
    raised_at a b d multi m x y k = ⊎_elim
        (λ (q : multis.Hold a multi ≡ multis.Raise d m y). absurd cc)
        (λ rest. ⊎_elim
        (λ (q : multis.Raise b multi x ≡ multis.Raise d m y). cc)
        (λ last. ⊎_elim (λ (q : multis.Unhold b multi ≡ multis.Raise d m y). absurd cc) (λ z. absurd z) last)
        rest)
        k

pub returns-in-Err-freeze_pinned-clause-ran : goal.returns-in-Err-freeze_pinned-clause-ran
returns-in-Err-freeze_pinned-clause-ran g c =
    let hall = c.args.hall.now in
    let start = start_of hall in
    let old = c.args.caller.now in
    let u = c.count.new.caller in
    let mid = c.start_freeze.new.caller in
    let w = c.freeze_pinned.new.caller in
    let e = c.in-Ok.ensures in
    let h = c.in-Pinned.held in
    let refusal = c.in-Err-freeze_pinned.refusal in
    let reply = replies.Refused refusal in
    let step = step_counted hall old u c.count.ensures c.requires.may in
    let by = by_at u.number u.session.levels.commands in
    let starts = subst (λ z. StartsFreeze start u.number u.session c.args.multi (view u.pass).seen (view mid.pass).seen (Ok z)) c.in-Pinned.is e.starts in
    let section = subst (λ z. MultiSection {R = Refusal} start u.number u.session (freezing_event u.number u.session c.args.multi) (view u.pass) (view mid.pass) (Ok z)) c.in-Pinned.is e.section in
    let hold : MultiEvent = hold_event u.number u.session h in
    let first : Visited hall c.args.banks IsPlain (hold ∷ []) u mid = visited_now hall c.args.banks IsPlain (hold ∷ []) u mid step e.own e.ready starts.0 e.same (shared_adds start (view u.pass) (view mid.pass) multi_lock (entry_of hold) by u.session IsPlain (omega arith) step.may.ready.at section refl tt) in
    let r = c.in-Err-freeze_pinned.ensures.freezes in
    let May : ℕ → ℕ → Kind → Type 0 = λ m. MayLeave (commands.MultiFreeze m) (stance_of u.session) u.session.stage (open_ids u.number (history (view u.pass).seen)) reply in
    let same : h.multi ≡ c.args.multi = starts.2 in
    let all : Visited hall c.args.banks (May h.multi) (hold ∷ unhold_event mid.number mid.session h.multi ∷ []) u w =
    visited_then hall c.args.banks IsPlain (MayMeet refusal) (May h.multi) (hold ∷ []) (unhold_event mid.number mid.session h.multi ∷ []) u mid w (plain_leaves (commands.MultiFreeze h.multi) (stance_of u.session) u.session.stage (open_ids u.number (history (view u.pass).seen)) reply) (met_leaves (commands.MultiFreeze h.multi) (stance_of u.session) u.session.stage (open_ids u.number (history (view u.pass).seen)) refusal) first r.0 in
    let named : Visited hall c.args.banks (May h.multi) (multis.Hold by h.multi ∷ multis.Unhold by h.multi ∷ []) u w =
    subst (λ (z : By). Visited hall c.args.banks (May h.multi) (hold ∷ multis.Unhold z h.multi ∷ []) u w) (λ j. by_at (first.number j) (ap (λ (s : Session). s.levels.commands) first.session j)) all in
    let number = subst IsMultiNumber (c.number-multi.ensures.value ∙ sym same) (omega arith, c.number-multi.ensures.form) in
    let some : 1 ≤ u.session.levels.commands = let counted : u.session.levels.commands ≡ old.session.levels.commands + 1 = ap (λ z. z.commands) c.count.ensures.levels in omega (arith, counted) in
    let cause = subst (λ (z : By). IsNotFrozenPinned g.P.PageDisk.tells start z (view mid.pass).seen (view w.pass).seen h.multi refusal) (λ j. by_at (first.number j) (ap (λ (s : Session). s.levels.commands) first.session j)) r.1 in
    let fit = not_pinned_so g.P.PageDisk.tells start (view u.pass).seen (view mid.pass).seen (view w.pass).seen by (stance_of u.session) u.session.stage w.session.stage h starts.3 starts.0.grows r.0.went.grows starts.4.split (subst (λ m. IsPinned start.base starts.3 (low_half m) h) (sym same) starts.5) refusal number some cause in
    subst (λ m. Ran hall (next_command old) (commands.MultiFreeze m) reply old w) same
    (ran_multi hall (multis.Hold by h.multi ∷ multis.Unhold by h.multi ∷ []) old u w (commands.MultiFreeze h.multi) reply c.count.ensures named (refl, (refl, tt)) refl fit.events fit.answer fit.free refl refl refl fit.held fit.free)
