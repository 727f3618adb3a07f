-- What a call did that rolls a savepoint back.
use Rattle.std.proofs.Common.{Bool, Err, IsTrue, List, None, Ok, Option, Result, Some, [], ap, append-nil, arith, false, inl, inr, is_some, length, map, nat_le, refl, subst, suc, sym, true, zero, ℕ, ⊎_elim, ◌++◌, ◌+◌, ◌-◌, ◌∙◌, ◌∷◌, ◌≡◌, ◌≤◌, ◌⊎◌}
use Rattle.std.proofs.lemmas.Bool.{lt-leb}
use Rattle.disk_core.specs.declared.log_disk.LogDisk as logs
use Rattle.disk_core.specs.declared.page_disk.PageDisk as disks
use Rattle.hall.specs.declared.hall.Hall.{Hall}
use Rattle.hall.specs.Calls.{IsOf, start_of, view}
use Rattle.tx_events.specs.declared.event.By.{By}
use Rattle.tx_events.specs.declared.event.Event.{Event}
use Rattle.tx_events.specs.declared.event.Event.TheVariants as events
use Rattle.tx_events.specs.declared.refusal.Lock.TheVariants as locks
use Rattle.tx_events.specs.declared.refusal.Refusal.{Refusal}
use Rattle.tx_events.specs.declared.refusal.Refusal.TheVariants as refusals
use Rattle.tx_model.specs.declared.command.Command.TheVariants as commands
use Rattle.tx_model.specs.declared.reply.Reply.TheVariants as replies
use Rattle.tx_model.specs.CommandEvents.{innermost, undo_event}
use Rattle.tx_model.specs.Replies.{RoundSpan, alone}
use Rattle.tx_model.specs.Stance.{Stance, without_last}
use Rattle.tx_core.specs.declared.entry.Entry.{Entry}
use Rattle.tx_core.specs.declared.entry.Start.{Start}
use Rattle.tx_core.specs.Entries.{history}
use Rattle.session_levels.specs.declared.session.Session as plain
use Rattle.session_levels.specs.Stands.{levels_of, told_of}
use Rattle.session_levels.proofs.LevelLemmas.{innermost_nameless, level_less, levels_length, named_less}
use Rattle.bank_sections.specs.Faults.{IsXactFault}
use Rattle.tx_core.specs.OwnMultis.{own_multis}
use Rattle.engine_parts.specs.declared.part.Part.{Part}
use Rattle.engine_parts.specs.declared.session.Caller.{Caller}
use Rattle.engine_parts.specs.declared.session.Session.{Session}
use Rattle.engine_parts.specs.declared.session.Stage.{Stage}
use Rattle.engine_parts.specs.declared.session.Stage.TheVariants as stages
use Rattle.engine_parts.specs.Answers.{MayAnswer, reply_of}
use Rattle.engine_parts.specs.Calls.{Ran}
use Rattle.engine_parts.specs.Holds.{Knowledge}
use Rattle.engine_parts.specs.Sessions.{MayCall, by_at, inner_id, stance_of}
use Rattle.engine_parts.specs.Stages.{AreUnasked, IsInStage, IsUndoing, pending_in}
use Rattle.life_law.specs.Refused.{held_by, is_by_standing, refused_by, by_standing}
use Rattle.engine_parts.specs.Standing.{LeavesStage}
use Rattle.engine_parts.specs.Steps.{GoesOn}
use Rattle.engine_parts.proofs.Acting.{acted_nothing}
use Rattle.engine_parts.proofs.Refusing.{first_fails, not_held}
use Rattle.proc_sections.proofs.Cutting.{inner_last}
use Rattle.xact_ends.specs.Undos.{IsUnwound, Undoes}
use Rattle.engine_parts.specs.Adding.{Adds, MayLeave}
use Rattle.tx_events.specs.Running.{open_ids}
use Rattle.engine_parts.proofs.Beholding.{not_standing}
use Rattle.engine_parts.proofs.KeptMaking.{kept_making}
use Rattle.engine_parts.specs.Makings.{has_more_multis}
use Rattle.xact_ends.proofs.Acts.{acted_stopped, else_none, fault_held}

-- no other end was begun
abbrev pub IsFreeToUndo : Stage → Type 0
IsFreeToUndo stage = (stage ≡ stages.Clear) ⊎ (stage ≡ stages.Undoing)

undo_free : (stage : Stage) → IsFreeToUndo stage → held_by commands.Undo (pending_in stage) ≡ None
undo_free stage free = ⊎_elim (λ (c : stage ≡ stages.Clear). ap (λ (z : Stage). held_by commands.Undo (pending_in z)) c) (λ (u : stage ≡ stages.Undoing). ap (λ (z : Stage). held_by commands.Undo (pending_in z)) u) free

not_refused : (s : Stance) (stage : Stage) → 2 ≤ length s.levels → IsFreeToUndo stage → refused_by commands.Undo s (pending_in stage) ≡ None
not_refused s stage two free = first_fails (nat_le (length s.levels) 1) refusals.NoSavepoint _ (lt-leb (length s.levels) 1 (omega arith)) ∙ not_held (held_by commands.Undo (pending_in stage)) None (undo_free stage free)

-- ---- a fault

fault_answer : (tells : Bool) (start : Start) (lists : List (List Entry)) (span : RoundSpan) (by : By) (s : Stance) (stage : Stage) (r : Refusal) → IsTrue (is_some (innermost s.levels)) → IsXactFault lists by r → MayAnswer tells start lists span by s stage commands.Undo (replies.Refused r)
fault_answer tells start lists span by s stage (refusals.DiskFault (locks.Xact bank)) some c = (some, c)
fault_answer tells start lists span by s stage _ some c = absurd c

fault_else : (lists : List (List Entry)) (by : By) (r : Refusal) → IsXactFault lists by r → is_by_standing r ≡ false
fault_else lists by (refusals.DiskFault (locks.Xact bank)) c = refl
fault_else lists by _ c = absurd c

fault_stage : (lists : List (List Entry)) (by : By) (old new : Stage) (r : Refusal) → new ≡ stages.Undoing → IsXactFault lists by r → LeavesStage commands.Undo (replies.Refused r) old new
fault_stage lists by old new (refusals.DiskFault (locks.Xact bank)) is c = is
fault_stage lists by old new _ is c = absurd c

-- ---- the levels

named_gone : (named left : List ℕ) (unnamed unnamed' id : ℕ) → unnamed ≡ 0 → named ≡ left ++ id ∷ [] → unnamed' ≡ unnamed → without_last (levels_of named unnamed) ≡ levels_of left unnamed'
named_gone named left unnamed unnamed' id none is same =
    (λ j. without_last (levels_of (is j) (none j))) ∙ (named_less left id ∙ ap (levels_of left) (sym (same ∙ none)))

unnamed_inner : (named : List ℕ) (unnamed : ℕ) → 1 ≤ unnamed → innermost (levels_of named unnamed) ≡ None
unnamed_inner named zero some = absurd (omega arith)
unnamed_inner named (suc k) some = innermost_nameless named k

module _ {H L P : Type 0} {l : logs.Ghosts L} {p : disks.Ghosts P} (hall : Hall H (Part L P l p) Entry Start) where
  -- an undo that is over, or that a fault stopped
  pub ran_undo : (u new : Caller L P l p) (id : ℕ) (r : Result (Unit {0}) Refusal) → IsOf hall new.pass → MayCall (start_of hall) (view new.pass) new.number new.session → new.number ≡ u.number → 2 ≤ length (stance_of u.session).levels → inner_id u.session ≡ Some id → IsFreeToUndo u.session.stage
      → Adds (by_at u.number u.session.levels.commands) (MayLeave commands.Undo (stance_of u.session) u.session.stage (open_ids u.number (history (view u.pass).seen)) (reply_of (λ x. replies.Done) r)) (view u.pass).seen (view new.pass).seen
      → Undoes u.number id u.session new.session (view u.pass).seen (view new.pass).seen r → Ran hall u.session.levels.commands commands.Undo (reply_of (λ x. replies.Done) r) u new
  ran_undo u new id (Ok x) own may number two inner free adds c =
      let s = u.session in
      let g : GoesOn u.number (events.Undo (by_at u.number s.levels.commands) id ∷ []) (view u.pass).seen (view new.pass).seen = c.0 in
      let none = (inner_last s.levels.level_ids.items s.levels.unnamed id inner).0 in
      record {
        own = own;
        may = may;
        acted = record {
          grows = g.grows;
          added = events.Undo (by_at u.number s.levels.commands) id ∷ [];
          own = g.own;
          each = (refl, tt);
          fitting = sym (ap (undo_event (by_at u.number s.levels.commands)) inner);
          multis = [];
          own_multi = g.multis ∙ sym (append-nil (own_multis u.number (view u.pass).seen));
          each_multi = tt;
          fitting_multi = refl;
          adds = adds;
          allowed = two;
          standing = sym (not_refused (stance_of s) s.stage two free);
          left = λ j. record {
            levels = named_gone s.levels.level_ids.items new.session.levels.level_ids.items s.levels.unnamed new.session.levels.unnamed id none c.1.named c.1.unnamed j;
            snaps = map told_of ((sym c.1.registered j).items);
          };
        };
        stage = c.1.stage;
        held = tt;
        still = λ q is. not_standing None q refl is;
        making = kept_making commands.Undo replies.Done (has_more_multis u.number (view u.pass).seen (view new.pass).seen) u.session.making new.session.making refl c.1.making;
        count = (c.1.count, number);
      }
  ran_undo u new id (Err r) own may number two inner free adds c =
      let by = by_at u.number u.session.levels.commands in
      let h : List Event = history (view u.pass).seen in
      record {
        own = own;
        may = may;
        acted = acted_stopped (start_of hall) u.number u.session new.session u.session.stage commands.Undo r (view u.pass).seen (view new.pass).seen c.0 c.1 (fault_else (view new.pass).seen by r c.3)
            (not_refused (stance_of u.session) u.session.stage two free) refl refl adds
            (fault_answer p.tells (start_of hall) (view new.pass).seen (alone h (history (view new.pass).seen)) by (stance_of u.session) u.session.stage r (subst (λ (o : Option ℕ). IsTrue (is_some o)) (sym inner) refl) c.3);
        stage = fault_stage (view new.pass).seen by u.session.stage new.session.stage r c.2 c.3;
        held = fault_held (start_of hall) (view new.pass).seen by commands.Undo new.session.stage r c.3;
        still = λ q is. not_standing (by_standing (replies.Refused r)) q (else_none r (fault_else (view new.pass).seen by r c.3)) is;
        making = kept_making commands.Undo (replies.Refused r) (has_more_multis u.number (view u.pass).seen (view new.pass).seen) u.session.making new.session.making refl c.4;
        count = (ap (λ (z : plain.Session). z.commands) c.1, number);
      }

  -- a savepoint without an id
  pub ran_unwound : (u new : Caller L P l p) → IsOf hall u.pass → MayCall (start_of hall) (view u.pass) u.number u.session → 2 ≤ length (stance_of u.session).levels → 1 ≤ u.session.levels.unnamed → IsFreeToUndo u.session.stage → IsUnwound u new
      → Ran hall u.session.levels.commands commands.Undo replies.Done u new
  ran_unwound u new own was two some free c = record {
    own = subst (λ z. IsOf hall z) (sym c.pass) own;
    may = subst (λ (z : (Knowledge × ℕ) × Session). MayCall (start_of hall) z.0.0 z.0.1 z.1) (λ j. ((view (sym c.pass j), sym c.number j), sym is j)) may;
    acted = acted_nothing (start_of hall) lists (view new.pass).seen u.number u.session.levels.commands (stance_of u.session) (stance_of new.session) u.session.stage commands.Undo replies.Done (ap (λ z. (view z).seen) c.pass)
        (sym (ap (undo_event (by_at u.number u.session.levels.commands)) none)) refl two (sym (not_refused (stance_of u.session) u.session.stage two free))
        ((λ j. record { levels = level_less u.session.levels.level_ids.items u.session.levels.unnamed (u.session.levels.unnamed - 1) fewer j; snaps = map told_of u.session.levels.registered.items }) ∙ sym (ap stance_of is));
    stage = c.stage ∙ clear;
    held = tt;
    still = λ q is. not_standing None q refl is;
    making = kept_making commands.Undo replies.Done (has_more_multis u.number (view u.pass).seen (view new.pass).seen) u.session.making new.session.making refl c.making;
    count = (ap (λ (z : plain.Session). z.commands) c.levels, c.number);
  }
    where
      lists : List (List Entry)
      lists = (view u.pass).seen

      fewer : u.session.levels.unnamed ≡ suc (u.session.levels.unnamed - 1)
      fewer = omega arith

      none : innermost (levels_of u.session.levels.level_ids.items u.session.levels.unnamed) ≡ None
      none = unnamed_inner u.session.levels.level_ids.items u.session.levels.unnamed some

      no_some : (x : ℕ) → None ≡ Some x → ⊥
      no_some x e = cc

      -- an undo that is pending is of a level with an id
      clear : u.session.stage ≡ stages.Clear
      clear = ⊎_elim (λ (k : u.session.stage ≡ stages.Clear). k)
          (λ (q : u.session.stage ≡ stages.Undoing). let g : IsUndoing lists u.number (inner_id u.session) u.session.levels.open_ids.items = subst (IsInStage (start_of hall) lists u.number (inner_id u.session) u.session.levels.open_ids.items) q was.stage in absurd (no_some g.savepoint (sym none ∙ g.innermost)))
          free

      t : Session
      t = record { levels = record u.session.levels { unnamed = u.session.levels.unnamed - 1 }; stage = u.session.stage; unlinked = u.session.unlinked; making = u.session.making }

      is : new.session ≡ t
      is = λ j. record { levels = c.levels j; stage = c.stage j; unlinked = c.unlinked j; making = c.making j }

      unasked : AreUnasked lists u.number u.session.levels.open_ids.items
      unasked = subst (IsInStage (start_of hall) lists u.number (inner_id u.session) u.session.levels.open_ids.items) clear was.stage

      may : MayCall (start_of hall) (view u.pass) u.number t
      may = let a = was.ready.at in record {
        ready = record {
          free = was.ready.free;
          at = record {
            base = a.base;
            before = a.before;
            kept = a.kept;
            name = a.name;
            known = a.known;
            wide = a.wide;
            turns = a.turns;
            stands = record {
              opened = a.stands.opened;
              ascend = a.stands.ascend;
              nest = a.stands.nest;
              depth = (let d = a.stands.depth in omega arith);
              turn = a.stands.turn;
              live = a.stands.live;
              snaps = a.stands.snaps;
            };
            clear = a.clear;
            unaborted = a.unaborted;
            filed = a.filed;
            makes = a.makes;
          };
        };
        stage = subst (IsInStage (start_of hall) lists u.number (inner_id t) u.session.levels.open_ids.items) (sym clear) unasked;
      }
