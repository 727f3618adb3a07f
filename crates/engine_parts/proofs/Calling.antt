-- What a call did, from what it did behind the count of its command.
use Rattle.std.proofs.Common.{false, true, ◌≡◌, ℕ, List, Option, refl, sym, ap, subst, ◌∙◌, Some}
use Rattle.disk_core.specs.declared.log_disk.LogDisk as logs
use Rattle.disk_core.specs.declared.page_disk.PageDisk as disks
use Rattle.hall.specs.declared.hall.Hall.{Hall}
use Rattle.hall.specs.Calls.{IsOf, start_of, view}
use Rattle.tx_events.specs.declared.event.Event.{Event}
use Rattle.tx_events.specs.declared.refusal.Refusal.{Refusal}
use Rattle.tx_model.specs.declared.command.Command.{Command}
use Rattle.tx_model.specs.declared.reply.Reply.{Reply}
use Rattle.tx_model.specs.declared.reply.Reply.TheVariants as replies
use Rattle.tx_model.specs.Replies.{alone}
use Rattle.tx_model.specs.Stance.{Stance}
use Rattle.tx_core.specs.declared.entry.Entry.{Entry}
use Rattle.tx_core.specs.declared.entry.Start.{Start}
use Rattle.tx_core.specs.Entries.{history}
use Rattle.session_levels.specs.Stands as levels
use Rattle.engine_parts.specs.declared.part.Part.{Part}
use Rattle.engine_parts.specs.declared.session.Caller.{Caller}
use Rattle.engine_parts.specs.declared.session.Making.{Making}
use Rattle.engine_parts.specs.declared.session.Session.{Session}
use Rattle.engine_parts.specs.declared.session.Stage.{Stage}
use Rattle.engine_parts.specs.Answers.{Acted, MayAnswer, touches_multis}
use Rattle.engine_parts.specs.Calls.{IsCounted, MayRun, MayStep, Ran, next_command}
use Rattle.engine_parts.specs.Holds.{Knowledge}
use Rattle.engine_parts.specs.Makings.{KeepsMaking, has_more_multis}
use Rattle.engine_parts.specs.Sessions.{MayCall, by_at, stance_of}
use Rattle.engine_parts.specs.Stages.{pending_in}
use Rattle.life_law.specs.Refused.{by_standing, is_by_standing, refused_by}
use Rattle.engine_parts.specs.Standing.{LeavesStage}
use Rattle.engine_parts.proofs.Acting.{acted_refused}
use Rattle.engine_parts.proofs.Going.{ready_next}
use Rattle.engine_parts.proofs.KeptMaking.{plain_making}
use Rattle.engine_parts.proofs.Pending.{pending_answer}
use Rattle.engine_parts.proofs.Beholding.{held_standing}
use Rattle.engine_parts.proofs.Refusing.{is_pending, pending_stands, refused_events, stands_still}

module _ {H L P : Type 0} {l : logs.Ghosts L} {p : disks.Ghosts P} (hall : Hall H (Part L P l p) Entry Start) where
  -- a session that went on to its next command may call
  pub own_counted : (old u : Caller L P l p) → IsCounted old u → IsOf hall old.pass → IsOf hall u.pass
  own_counted old u c own = subst (λ p. IsOf hall p) (sym c.pass) own

  pub may_counted : {banks : ℕ} (old u : Caller L P l p) → IsCounted old u → MayRun hall banks old → MayCall (start_of hall) (view u.pass) u.number u.session
  may_counted old u c m =
      let t : Session = record old.session { levels = record old.session.levels { commands = next_command old } } in
      let is : u.session ≡ t = λ j. record { levels = c.levels j; stage = c.stage j; unlinked = c.unlinked j; making = c.making j } in
      subst (λ (z : (Knowledge × ℕ) × Session). MayCall (start_of hall) z.0.0 z.0.1 z.1) (λ j. ((view (sym c.pass j), sym c.number j), sym is j))
      (record { ready = ready_next (start_of hall) (view old.pass) old.number old.session t refl m.step.may.ready; stage = m.step.may.stage })

  pub step_counted : {banks : ℕ} (old u : Caller L P l p) → IsCounted old u → MayRun hall banks old → MayStep hall banks u
  step_counted old u c m = record { own = own_counted old u c m.step.own; laid = m.step.laid; each = m.step.each; may = may_counted old u c m }

  -- what a call did behind that
  pub ran_counted : (old u new : Caller L P l p) (command : Command) (reply : Reply) → IsCounted old u → Ran hall u.session.levels.commands command reply u new → Ran hall (next_command old) command reply old new
  ran_counted old u new command reply c r =
      let counted = ap (λ z. z.commands) c.levels in record {
        own = r.own;
        may = r.may;
        acted = subst (λ (z : ((Stance × Stage) × List (List Entry)) × (ℕ × ℕ)). Acted (p.tells) (start_of hall) (by_at z.1.0 z.1.1) z.0.0.0 (stance_of new.session) z.0.0.1 command reply z.0.1 (view new.pass).seen)
            (λ j. (((levels.stance_of (c.levels j), c.stage j), (view (c.pass j)).seen), (c.number j, counted j))) r.acted;
        stage = subst (λ (z : Stage). LeavesStage command reply z new.session.stage) c.stage r.stage;
        held = r.held;
        still = λ q by. r.still q by ∙ ap (λ p. (view p).seen) c.pass;
        making = subst (λ (z : (ℕ × List (List Entry)) × Option Making). KeepsMaking command reply (has_more_multis z.0.0 z.0.1 (view new.pass).seen) z.1 new.session.making)
            (λ j. ((c.number j, (view (c.pass j)).seen), c.making j)) r.making;
        count = (r.count.0 ∙ counted, r.count.1 ∙ c.number);
      }

  -- a command that is refused before any critical section
  pub ran_refused : {banks : ℕ} (old u : Caller L P l p) (command : Command) (r : Refusal) → IsCounted old u → MayRun hall banks old → touches_multis command ≡ false → is_by_standing r ≡ true → by_standing (replies.Refused r) ≡ refused_by command (stance_of old.session) (pending_in old.session.stage)
      → MayAnswer (p.tells) (start_of hall) (view old.pass).seen (alone (history (view old.pass).seen) (history (view old.pass).seen)) (by_at old.number (next_command old)) (stance_of old.session) old.session.stage command (replies.Refused r)
      → Ran hall (next_command old) command (replies.Refused r) old u
  ran_refused old u command r c m untouched by standing allowed = record {
    own = own_counted old u c m.step.own;
    may = may_counted old u c m;
    acted = acted_refused (start_of hall) (view old.pass).seen (view u.pass).seen old.number (next_command old) (stance_of old.session) (stance_of u.session) old.session.stage command r (ap (λ p. (view p).seen) c.pass) (ap levels.stance_of c.levels) (refused_events (by_at old.number (next_command old)) (stance_of old.session) command r by) untouched allowed standing;
    stage = stands_still command r old.session.stage u.session.stage by c.stage;
    held = held_standing (start_of hall) (view u.pass).seen command r u.session.stage by;
    still = λ q is. ap (λ p. (view p).seen) c.pass;
    making = plain_making command (replies.Refused r) (has_more_multis old.number (view old.pass).seen (view u.pass).seen) old.session.making u.session.making untouched c.making;
    count = (ap (λ z. z.commands) c.levels, c.number);
  }

  -- by an end that was begun
  pub ran_held : {banks : ℕ} (old u : Caller L P l p) (command : Command) (r : Refusal) → IsCounted old u → MayRun hall banks old → touches_multis command ≡ false → pending_in old.session.stage ≡ Some r → refused_by command (stance_of old.session) (pending_in old.session.stage) ≡ Some r
      → Ran hall (next_command old) command (replies.Refused r) old u
  ran_held old u command r c m untouched pending refused =
      let h : List Event = history (view old.pass).seen in
      ran_refused old u command r c m untouched (is_pending old.session.stage r pending) (pending_stands old.session.stage r pending ∙ sym refused) (pending_answer (p.tells) (start_of hall) (view old.pass) old.number old.session (alone h h) command r m.step.may pending)
