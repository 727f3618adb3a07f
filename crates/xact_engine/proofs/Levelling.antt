-- What a command on levels leaves, which has no critical section.
use Rattle.std.proofs.Common.{◌≡◌, ◌≢◌, ◌<◌, ℕ, Bool, false, length, List, [], ◌∷◌, Option, None, Some, ◌⊎◌, ⊎_elim, inl, inr, nat_lt, nat_le, ◌==◌, refl, sym, ap, subst, ◌∙◌, eq-eqb, ne_eqb, le-leb, lt-ltb, arith}
use Rattle.std.proofs.lemmas.Bool.{lt-leb}
use Rattle.std.specs.Bool.{then_some}
use Rattle.std.proofs.lemmas.List.{nil_from_length}
use Rattle.disk_core.specs.declared.log_disk.LogDisk as logs
use Rattle.disk_core.specs.declared.page_disk.PageDisk as disks
use Rattle.hall.specs.declared.hall.Hall.{Hall}
use Rattle.hall.specs.Calls.{start_of, view}
use Rattle.tx_events.specs.declared.event.Event.{Event}
use Rattle.tx_events.specs.declared.refusal.Refusal.{Refusal}
use Rattle.tx_events.specs.declared.refusal.Refusal.TheVariants as refusals
use Rattle.tx_events.specs.Events.{given}
use Rattle.tx_model.specs.declared.command.Command.{Command}
use Rattle.tx_model.specs.declared.command.Command.TheVariants as commands
use Rattle.tx_model.specs.declared.reply.Reply.{Reply}
use Rattle.tx_model.specs.declared.reply.Reply.TheVariants as replies
use Rattle.tx_events.specs.declared.event.By.{By}
use Rattle.tx_events.specs.declared.record.Counters.{Counters}
use Rattle.tx_model.specs.CommandEvents.{HasEvents, innermost}
use Rattle.tx_model.specs.Replies.{MayReply, RoundSpan, alone, most_levels}
use Rattle.tx_model.specs.Stance.{Stance, after}
use Rattle.tx_core.specs.declared.entry.Entry.{Entry}
use Rattle.tx_core.specs.declared.entry.Start.{Start}
use Rattle.tx_core.specs.Entries.{history}
use Rattle.session_levels.specs.Acts.{Acts, RunsAlone}
use Rattle.session_levels.specs.declared.session.Session as plain
use Rattle.session_levels.specs.Stands.{Stands}
use Rattle.session_levels.specs.Stands as levels
use Rattle.engine_parts.specs.declared.part.Part.{Part}
use Rattle.engine_parts.specs.declared.session.Caller.{Caller}
use Rattle.engine_parts.specs.declared.session.Session.{Session}
use Rattle.engine_parts.specs.declared.session.Stage.{Stage}
use Rattle.engine_parts.specs.declared.session.Stage.TheVariants as stages
use Rattle.engine_parts.specs.Answers.{Acted, MayAnswer, MayAnswerAny, touches_multis}
use Rattle.engine_parts.specs.Calls.{IsCounted, MayRun, Ran, next_command}
use Rattle.engine_parts.specs.Holds.{Knowledge}
use Rattle.engine_parts.specs.Sessions.{IsFiled, MayCall, by_at, inner_id, stance_of}
use Rattle.engine_parts.specs.Stages.{AreUnaborted, IsInStage, IsUndoing, pending_in}
use Rattle.life_law.specs.Refused.{by_standing, held_by, refused_by}
use Rattle.engine_parts.specs.Standing.{moves_end, flushes, needs_log}
use Rattle.tx_core.specs.ProgramOrder.{IsInTurn}
use Rattle.notes.specs.Lists.{at}
use Rattle.engine_parts.proofs.Acting.{acted_nothing}
use Rattle.engine_parts.proofs.Refusing.{keeps_stage}
use Rattle.engine_parts.proofs.Calling.{may_counted, own_counted}
use Rattle.engine_parts.proofs.Refusing.{first_fails, first_holds, not_held}
use Rattle.engine_parts.proofs.Beholding.{held_unneeded}
use Rattle.engine_parts.proofs.KeptMaking.{kept_making}
use Rattle.engine_parts.specs.Makings.{has_more_multis}
use Rattle.life_law.specs.Commands.{makes_multi}
use Rattle.xact_engine.specs.Levels.{IsDoneOrNot}

-- the commands that change levels alone
abbrev pub IsOnLevels : Command → Type 0
IsOnLevels commands.Begin = Unit {0}
IsOnLevels commands.Save = Unit {0}
IsOnLevels commands.Release = Unit {0}
IsOnLevels command = ⊥

on_levels_moves : (command : Command) → IsOnLevels command → moves_end command ≡ false
on_levels_moves commands.Begin on = refl
on_levels_moves commands.Save on = refl
on_levels_moves commands.Release on = refl
on_levels_moves command on = absurd on

on_levels_makes : (command : Command) → IsOnLevels command → makes_multi command ≡ false
on_levels_makes commands.Begin on = refl
on_levels_makes commands.Save on = refl
on_levels_makes commands.Release on = refl
on_levels_makes command on = absurd on

on_levels_needs : (command : Command) (s : Stance) (stage : Stage) → IsOnLevels command → (flushes command s stage ≡ false) × (needs_log command s stage ≡ false)
on_levels_needs commands.Begin s stage on = (refl, refl)
on_levels_needs commands.Save s stage on = (refl, refl)
on_levels_needs commands.Release s stage on = (refl, refl)
on_levels_needs command s stage on = absurd on

pub done_or_not : (base : Counters) (h : List Event) (r : RoundSpan) (by : By) (s : Stance) (command : Command) (reply : Reply) → IsOnLevels command → MayReply base [] h r by s command reply → IsDoneOrNot reply
done_or_not base h r by s commands.Begin replies.Done l a = tt
done_or_not base h r by s commands.Begin (replies.Refused refusals.AlreadyOpen) l a = tt
done_or_not base h r by s commands.Begin _ l a = absurd a
done_or_not base h r by s commands.Save replies.Done l a = tt
done_or_not base h r by s commands.Save (replies.Refused refusals.NoTransaction) l a = tt
done_or_not base h r by s commands.Save (replies.Refused refusals.DepthLimit) l a = tt
done_or_not base h r by s commands.Save _ l a = absurd a
done_or_not base h r by s commands.Release replies.Done l a = tt
done_or_not base h r by s commands.Release (replies.Refused refusals.NoSavepoint) l a = tt
done_or_not base h r by s commands.Release _ l a = absurd a
done_or_not base h r by s command reply l a = absurd l

some_length : (levels : List (Option ℕ)) → levels ≢ [] → 0 < length levels
some_length [] some = absurd (some refl)
some_length (level ∷ levels) some = omega arith

no_length : (levels : List (Option ℕ)) → levels ≢ [] → (length levels == 0) ≡ false
no_length levels some = ne_eqb (length levels) 0 (λ e. some (nil_from_length levels e))

-- Where no end that was begun holds it up, what such a command may be answered over no history it may be answered over
-- any, and a refusal comes exactly where its levels stand so.
level_reply : (tells : Bool) (base : Counters) (start : Start) (lists : List (List Entry)) (r span : RoundSpan) (by : By) (s : Stance) (stage : Stage) (command : Command) (reply : Reply) → IsOnLevels command → held_by command (pending_in stage) ≡ None → MayReply base [] [] r by s command reply
    → MayAnswer tells start lists span by s stage command reply × (by_standing reply ≡ refused_by command s (pending_in stage))
level_reply tells base start lists r span by s stage commands.Begin replies.Done l free a = (a, sym (ap (λ (ls : List (Option ℕ)). then_some (nat_lt 0 (length ls)) refusals.AlreadyOpen) a))
level_reply tells base start lists r span by s stage commands.Begin (replies.Refused refusals.AlreadyOpen) l free a =
    (a, sym (ap (λ (b : Bool). then_some b refusals.AlreadyOpen) (lt-ltb 0 (length s.levels) (some_length s.levels a))))
level_reply tells base start lists r span by s stage commands.Begin _ l free a = absurd a
level_reply tells base start lists r span by s stage commands.Save replies.Done l free a = (
  a,
  sym
      (first_fails (length s.levels == 0) refusals.NoTransaction _ (no_length s.levels a.0)
      ∙ (not_held (held_by commands.Save (pending_in stage)) _ free ∙ first_fails (nat_le most_levels (length s.levels)) refusals.DepthLimit None (lt-leb most_levels (length s.levels) a.1))),
)
level_reply tells base start lists r span by s stage commands.Save (replies.Refused refusals.NoTransaction) l free a = (a, sym (first_holds (length s.levels == 0) refusals.NoTransaction _ (eq-eqb (length s.levels) 0 (ap length a))))
level_reply tells base start lists r span by s stage commands.Save (replies.Refused refusals.DepthLimit) l free a = (
  a,
  sym
      (first_fails (length s.levels == 0) refusals.NoTransaction _ (ne_eqb (length s.levels) 0 (λ e. let deep = a in omega arith))
      ∙ (not_held (held_by commands.Save (pending_in stage)) _ free ∙ first_holds (nat_le most_levels (length s.levels)) refusals.DepthLimit None (le-leb most_levels (length s.levels) a))),
)
level_reply tells base start lists r span by s stage commands.Save _ l free a = absurd a
level_reply tells base start lists r span by s stage commands.Release replies.Done l free a = (a, sym (first_fails (nat_le (length s.levels) 1) refusals.NoSavepoint _ (lt-leb (length s.levels) 1 (let deep = a in omega arith)) ∙ not_held (held_by commands.Release (pending_in stage)) None free))
level_reply tells base start lists r span by s stage commands.Release (replies.Refused refusals.NoSavepoint) l free a = (a, sym (first_holds (nat_le (length s.levels) 1) refusals.NoSavepoint _ (le-leb (length s.levels) 1 a)))
level_reply tells base start lists r span by s stage commands.Release _ l free a = absurd a
level_reply tells base start lists r span by s stage command reply l free a = absurd l

-- such a command touches no multixact
levels_alone : (command : Command) → IsOnLevels command → touches_multis command ≡ false
levels_alone (commands.Multi pairs) l = absurd l
levels_alone (commands.SeeMulti name m) l = absurd l
levels_alone (commands.MultiFreeze multi) l = absurd l
levels_alone commands.Trim l = absurd l
levels_alone command l = refl

-- so it is answered as one that touches none
levels_answer : (tells : Bool) (start : Start) (begun lists : List (List Entry)) (by : By) (s : Stance) (stage : Stage) (command : Command) (reply : Reply) → IsOnLevels command
    → MayAnswerAny tells start begun lists by s stage command reply → MayAnswer tells start lists (alone (history begun) (history lists)) by s stage command reply
levels_answer tells start begun lists by s stage (commands.Multi pairs) reply l a = absurd l
levels_answer tells start begun lists by s stage (commands.SeeMulti name m) reply l a = absurd l
levels_answer tells start begun lists by s stage (commands.MultiFreeze multi) reply l a = absurd l
levels_answer tells start begun lists by s stage commands.Trim reply l a = absurd l
levels_answer tells start begun lists by s stage command reply l a = a

-- what is said of such a command over no history is said over any
acted_levels : (tells : Bool) (start : Start) (lists lists' : List (List Entry)) (base : Counters) (n number : ℕ) (s s' : Stance) (stage : Stage) (command : Command) (reply : Reply) → IsOnLevels command → held_by command (pending_in stage) ≡ None → lists' ≡ lists → Acts base (by_at n number) s s' command reply [] []
    → Acted tells start (by_at n number) s s' stage command reply lists lists'
acted_levels tells start lists lists' base n number s s' stage command reply l free same a =
    let none : a.added ≡ [] = sym a.grown in
    let answer = level_reply tells base start lists (alone [] []) (alone (history lists) (history lists)) (by_at n number) s stage command reply l free a.allowed in
    acted_nothing {tells = tells} start lists lists' n number s s' stage command reply same
    (subst (λ (es : List Event). HasEvents (by_at n number) s command reply es) none a.fitting) (levels_alone command l) answer.0 answer.1
    (sym (ap (λ (es : List Event). after s number command reply (given es)) none) ∙ a.left)

-- the session's innermost level is as before, where an undo is pending of it
abbrev IsInnerKept : Session → Session → Type 0
IsInnerKept s s' = s.stage ≡ stages.Undoing → (inner_id s' ≡ inner_id s) ⊎ (inner_id s ≡ None)

stage_kept : (start : Start) (lists : List (List Entry)) (n : ℕ) (inner inner' : Option ℕ) (opened : List ℕ) (stage : Stage) → (stage ≡ stages.Undoing → (inner' ≡ inner) ⊎ (inner ≡ None)) → IsInStage start lists n inner opened stage → IsInStage start lists n inner' opened stage
stage_kept start lists n inner inner' opened stages.Clear kept i = i
stage_kept start lists n inner inner' opened (stages.Logged number) kept i = i
stage_kept start lists n inner inner' opened (stages.Settling steps) kept i = i
stage_kept start lists n inner inner' opened stages.Aborting kept i = i
stage_kept start lists n inner inner' opened stages.Undoing kept i =
    ⊎_elim (λ same. subst (λ (o : Option ℕ). IsUndoing lists n o opened) (sym same) i) (λ none. absurd (some_none i.savepoint (sym i.innermost ∙ none))) (kept refl)
  where
    some_none : (id : ℕ) → Some id ≡ None → ⊥
    some_none id e = cc

-- a command on levels is refused where an undo is pending, or finds none
inner_kept : (base : Counters) (h : List Event) (r : RoundSpan) (by : By) (number : ℕ) (s s' : Stance) (stage : Stage) (command : Command) (reply : Reply) → IsOnLevels command → held_by command (pending_in stage) ≡ None → MayReply base [] h r by s command reply → after s number command reply [] ≡ s' → stage ≡ stages.Undoing → (innermost s'.levels ≡ innermost s.levels) ⊎ (innermost s.levels ≡ None)
inner_kept base h r by number s s' stage commands.Begin replies.Done on free a left is = inr (ap innermost a)
inner_kept base h r by number s s' stage commands.Begin (replies.Refused refusals.AlreadyOpen) on free a left is = inl (sym (ap (λ (z : Stance). innermost z.levels) left))
inner_kept base h r by number s s' stage commands.Begin _ on free a left is = absurd a
inner_kept base h r by number s s' stage commands.Save reply on free a left is = absurd (held refusals.UndoPending (ap (λ (z : Stage). held_by commands.Save (pending_in z)) (sym is) ∙ free))
  where
    held : (x : Refusal) → Some x ≡ None → ⊥
    held x e = cc
inner_kept base h r by number s s' stage commands.Release reply on free a left is = absurd (held refusals.UndoPending (ap (λ (z : Stage). held_by commands.Release (pending_in z)) (sym is) ∙ free))
  where
    held : (x : Refusal) → Some x ≡ None → ⊥
    held x e = cc
inner_kept base h r by number s s' stage command reply on free a left is = absurd on

-- a session whose levels alone changed, as they stand
pub call_levels : (start : Start) (v : Knowledge) (n : ℕ) (s s' : Session) (new : plain.Session) → s' ≡ record s { levels = new } → new.commands ≡ s.levels.commands
    → (Stands start.base (history v.seen) n s.levels.commands s.levels → Stands start.base (history v.seen) n s.levels.commands new) → IsInnerKept s (record s { levels = new }) → MayCall start v n s → MayCall start v n s'
call_levels start v n s s' new is count stands kept m =
    let a = m.ready.at in
    let opened : new.open_ids.items ≡ s.levels.open_ids.items = sym (stands a.stands).opened ∙ a.stands.opened in
    let t : Session = record s { levels = new } in
    subst (MayCall start v n) (sym is) (record {
      ready = record {
        free = m.ready.free;
        at = record {
          base = a.base;
          before = a.before;
          kept = a.kept;
          name = a.name;
          known = a.known;
          wide = a.wide;
          turns = λ lock. subst (λ (z : ℕ). IsInTurn start (at v.seen lock) (by_at n z)) (sym count) (a.turns lock);
          stands = subst (λ (z : ℕ). Stands start.base (history v.seen) n z new) (sym count) (stands a.stands);
          clear = a.clear;
          unaborted = λ q. subst (λ (z : List ℕ). AreUnaborted v.seen n z) (sym opened) (a.unaborted q);
          filed = subst (λ (z : List ℕ). IsFiled start v.seen n z s.unlinked) (sym opened) a.filed;
          makes = a.makes;
        };
      };
      stage = subst (λ (z : List ℕ). IsInStage start v.seen n (inner_id t) z s.stage) (sym opened) (stage_kept start v.seen n (inner_id s) (inner_id t) s.levels.open_ids.items s.stage kept m.stage);
    })

-- what a call did that changed levels alone
module _ {H L P : Type 0} {l : logs.Ghosts L} {p : disks.Ghosts P} (hall : Hall H (Part L P l p) Entry Start) where
  pub ran_levels : {banks : ℕ} (old u : Caller L P l p) (t : plain.Session) (command : Command) (reply : Reply) → IsOnLevels command → held_by command (pending_in old.session.stage) ≡ None → IsCounted old u → MayRun hall banks old → RunsAlone u.session.levels t command reply
      → Ran hall (next_command old) command reply old (record u { session = record u.session { levels = t } })
  ran_levels old u t command reply on free c m r =
      let start = start_of hall in
      let by = by_at old.number (next_command old) in
      let a = r.acts start.base [] by in
      let seen = (view old.pass).seen in
      let acts : Acted (p.tells) start by (stance_of old.session) (levels.stance_of t) old.session.stage command reply seen (view u.pass).seen = acted_levels (p.tells) start seen (view u.pass).seen start.base old.number (next_command old) (stance_of old.session) (levels.stance_of t) old.session.stage command reply on free (ap (λ q. (view q).seen) c.pass)
      (subst (λ (z : Stance). Acts start.base by z (levels.stance_of t) command reply [] []) (ap levels.stance_of c.levels) (r.acts start.base [] by)) in
      let needs = on_levels_needs command (stance_of old.session) old.session.stage on in record {
        own = own_counted hall old u c m.step.own;
        may = call_levels start (view u.pass) u.number u.session (record u.session { levels = t }) t refl r.count (λ st. r.stands start.base (history (view u.pass).seen) u.number u.session.levels.commands st) (λ q. inner_kept start.base [] (alone [] []) by by.command (levels.stance_of u.session.levels) (levels.stance_of t) old.session.stage command reply on free a.allowed
            (ap (λ (es : List Event). after (levels.stance_of u.session.levels) by.command command reply (given es)) a.grown ∙ a.left) (sym c.stage ∙ q)) (may_counted hall old u c m);
        acted = acts;
        stage = keeps_stage command reply old.session.stage u.session.stage (on_levels_moves command on) c.stage;
        held = held_unneeded p.tells start (view u.pass).seen (alone (history seen) (history (view u.pass).seen)) by (stance_of old.session) old.session.stage u.session.stage command reply needs.0 needs.1 (levels_answer p.tells start seen (view u.pass).seen by (stance_of old.session) old.session.stage command reply on acts.allowed);
        still = λ q is. ap (λ p. (view p).seen) c.pass;
        making = kept_making command reply (has_more_multis old.number seen (view u.pass).seen) old.session.making u.session.making (on_levels_makes command on) c.making;
        count = (r.count ∙ ap (λ z. z.commands) c.levels, c.number);
      }
