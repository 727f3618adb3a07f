-- The replies of a look at a multixact's members are lawful, and the call did no more.
use Rattle.std.proofs.Common.{Bool, Contains, IsTrue, List, None, Option, Some, IfSome, [], ap, append-nil, arith, drop, inl, inr, length, refl, subst, sym, take, take-append-drop, take_all, ℕ, ⊎_elim, ◌++◌, ◌<◌, ◌∙◌, ◌∷◌, ◌≡◌, ◌≤◌}
use Rattle.std.specs.Prelude.{MatchOption}
use Rattle.std.specs.List.{AllByRecursion, filter, filter_map}
use Rattle.disk_core.specs.declared.log_disk.LogDisk as logs
use Rattle.disk_core.specs.declared.page_disk.PageDisk as disks
use Rattle.hall.specs.declared.hall.Hall.{Hall}
use Rattle.hall.specs.Calls.{IsOf, start_of, view}
use Rattle.notes.specs.Lists.{Begins, Grows}
use Rattle.tx_events.specs.After.{ids_of}
use Rattle.tx_events.specs.Nearest.{near_id}
use Rattle.tx_events.specs.declared.event.By.{By}
use Rattle.tx_events.specs.Events.{is_of}
use Rattle.tx_events.specs.declared.multi.Member.{Member}
use Rattle.tx_events.specs.declared.multi.MultiEvent.{MultiEvent}
use Rattle.tx_events.specs.declared.multi.MultiEvent.TheVariants as multis
use Rattle.tx_events.specs.declared.full_multi.MultiId.{MultiId}
use Rattle.tx_events.specs.declared.record.Rec.TheVariants as records
use Rattle.tx_events.specs.declared.refusal.Lock.TheVariants as locks
use Rattle.tx_events.specs.declared.refusal.Refusal.{Refusal}
use Rattle.tx_events.specs.declared.refusal.Refusal.TheVariants as refusals
use Rattle.tx_events.specs.Multis.{IsKnown, IsNextMade, multi_by, next_made, oldest_multi}
use Rattle.tx_events.specs.Running.{open_ids}
use Rattle.tx_events.proofs.ListSteps.{le_or_over}
use Rattle.tx_events.proofs.Membership.{contains_has, has_contains, has_place}
use Rattle.tx_events.proofs.PlaceLemmas.{take-grows}
use Rattle.tx_model.specs.declared.command.Command.TheVariants as commands
use Rattle.tx_model.specs.declared.command.Pair.{Pair}
use Rattle.tx_model.specs.declared.reply.MemberVerdict.{MemberVerdict}
use Rattle.tx_model.specs.declared.reply.Reply.{Reply}
use Rattle.tx_model.specs.declared.reply.Reply.TheVariants as replies
use Rattle.tx_model.specs.Replies.{alone}
use Rattle.tx_model.specs.Stance.{snap_of}
use Rattle.life_law.specs.MultiLines.{HasMembers, HasMultiEvents, IsMultiFuture}
use Rattle.life_law.specs.MultiPlaces.{MayReadMultis, recorded_by}
use Rattle.life_law.specs.MultiReplies.{IsOfId}
use Rattle.life_law.specs.Refused.{by_standing, refused_by}
use Rattle.tx_core.specs.declared.entry.Entry.{Entry}
use Rattle.tx_core.specs.declared.entry.Start.{Start}
use Rattle.tx_core.specs.EngineInvariant.{EngineInvariant}
use Rattle.tx_core.specs.Entries.{AreFewIds, history}
use Rattle.tx_core.specs.MultiEntries.{AreFewMultis, multi_history}
use Rattle.tx_core.proofs.Growing.{slice_get_begins}
use Rattle.tx_core.proofs.Nearness.{multis_are_legal}
use Rattle.tx_core.proofs.Rising.{made_more, multis_grow}
use Rattle.tx_core.proofs.Taking.{take_in}
use Rattle.multi_banks.proofs.Seeing.{filter_map_has}
use Rattle.bank_stores.specs.declared.slot.Slot.{Slot}
use Rattle.recoverable.proofs.Stretches.{get_inside}
use Rattle.notes.proofs.Growing.{begins_length}
use Rattle.session_levels.specs.declared.session.RegisteredSnapshot.{RegisteredSnapshot}
use Rattle.session_levels.specs.Stands.{IsRegistered}
use Rattle.engine_parts.specs.declared.part.Part.{Part}
use Rattle.engine_parts.specs.declared.session.Caller.{Caller}
use Rattle.engine_parts.specs.declared.session.Session.{Session}
use Rattle.engine_parts.specs.declared.session.Stage.{Stage}
use Rattle.engine_parts.specs.Adding.{Adds, MayLeave}
use Rattle.engine_parts.specs.Answers.{alone_multis}
use Rattle.engine_parts.specs.Calls.{IsCounted, IsHeldBehind, MayRun, Ran, next_command}
use Rattle.engine_parts.specs.Makings.{has_more_multis}
use Rattle.engine_parts.specs.MultiAnswers.{MayAnswerMulti, recorded_in}
use Rattle.engine_parts.specs.Sessions.{IsReady, by_at, inner_id, stance_of}
use Rattle.engine_parts.specs.Stages.{IsInStage, pending_in}
use Rattle.engine_parts.specs.Steps.{WentMulti}
use Rattle.engine_parts.proofs.Beholding.{not_standing}
use Rattle.engine_parts.proofs.Calling.{may_counted, ran_counted}
use Rattle.engine_parts.proofs.Going.{stage_later}
use Rattle.engine_parts.proofs.KeptMaking.{kept_making}
use Rattle.engine_parts.proofs.Refusing.{keeps_stage}
use Rattle.bank_sections.specs.Faults.{IsBankFault}
use Rattle.multi_sections.specs.Pinnings.{IsNotPinned}
use Rattle.xact_reads.specs.Multis.{AreItsSlots, AreJudged, HasMembersIn, IsUnseen, PinsOnce, pair_in}
use Rattle.xact_reads.proofs.Judging.{all_told}
use Rattle.xact_reads.proofs.Pinning.{multi_then}
use Rattle.xact_reads.proofs.Verdicts.{few_pairs}

-- ---- the pin, later

take_more : (p q : ℕ) (h : List MultiEvent) → p ≤ q → Begins (take p h) (take q h)
take_more p q h le = (drop p (take q h), ap (λ (t : List MultiEvent). t ++ drop p (take q h)) (sym (take_in p q h le)) ∙ take-append-drop p (take q h))

-- a step without an event of a multixact leaves the pin where it was
pub once_later : (start : Start) (n : ℕ) (s : Session) (m : ℕ) (lists mid more : List (List Entry)) (multi : ℕ) → PinsOnce start n s m lists mid multi → WentMulti n [] mid more → PinsOnce start n s m lists more multi
once_later start n s m lists mid more multi p went =
    let b = multis_grow mid more went.grows in
    let inside = get_inside (multi_history mid) p.place _ p.stands in
    let front : take p.place (multi_history more) ≡ take p.place (multi_history mid) = ap (take p.place) (sym b.1) ∙ take-grows (multi_history mid) b.0 _ p.place p.stands in
    record {
      went = subst (λ (t : List MultiEvent). WentMulti n t lists more) (append-nil _) (multi_then n _ [] lists mid more p.went went);
      place = p.place;
      stands = slice_get_begins (multi_history mid) (multi_history more) p.place (multis.Hold (by_at n s.levels.commands) multi) b p.stands;
      near = ap (λ (t : List MultiEvent). near_id (next_made start.base.multi t) m) front ∙ p.near;
      known = subst (λ (t : List MultiEvent). IsKnown start.base t multi) (sym front) p.known;
    }

-- ---- the rows

nothing_left : {X : Type 0} (xs : List X) → drop (length xs) (take (length xs) xs) ≡ []
nothing_left [] = refl
nothing_left (x ∷ xs) = nothing_left xs

if_some : (o : Option ℕ) (P : ℕ → Type 0) → MatchOption o (Unit {0}) P → IfSome o P
if_some None P q = tt
if_some (Some x) P q = q

-- What a reply needs that isn't one by how the session stands.
pub record Answer (tells : Bool) (start : Start) (n : ℕ) (s : Session) (name : List ℕ) (m : MultiId) (lists more : List (List Entry)) (es : List MultiEvent) (reply : Reply) : Type 0 where
  pub allowed : MayAnswerMulti tells start lists more (alone (history lists) (history more)) (alone_multis lists more) (by_at n s.levels.commands) (stance_of s) s.stage (commands.SeeMulti name m) reply
  pub free : by_standing reply ≡ None
  pub fitting : HasMultiEvents start.base (history more) (alone (history lists) (history more)) (multi_history more) (by_at n s.levels.commands) (commands.SeeMulti name m) reply es
  pub held : (new : Stage) → IsHeldBehind start more (commands.SeeMulti name m) reply new

module _ (tells : Bool) (start : Start) (n : ℕ) (s : Session) (name : List ℕ) (m : MultiId) (lists more : List (List Entry)) (g : Grows lists more) (k : EngineInvariant start more) where
  abbrev by : By
  by = by_at n s.levels.commands

  abbrev all : List MultiEvent
  all = multi_history more

  whole : take (length all) all ≡ all
  whole = take_all (length all) all (omega arith)

  reads_end : MayReadMultis all (alone_multis lists more) by (length all)
  reads_end = record {
    not_before = begins_length (multi_history lists) all (multis_grow lists more g);
    not_past = omega arith;
    behind = subst (AllByRecursion (λ e. (multi_by e).session ≡ by.session → by.command < (multi_by e).command)) (sym (nothing_left all)) tt;
  }

  -- the number means none that may be pinned
  pub unpinned_answer : (r : Refusal) → IsNotPinned start.base all m.number r → Answer tells start n s name m lists more [] (replies.Refused r)
  unpinned_answer (refusals.MultiTooOld oldest) q = record {
    allowed = record {
      place = length all;
      read = reads_end;
      oldest_is = q.0 ∙ ap (oldest_multi start.base.oldest_multi) (sym whole);
      older = subst (λ (t : List MultiEvent). IfSome (near_id (next_made start.base.multi t) m.number) (λ multi. multi < oldest)) (sym whole) (if_some (near_id (next_made start.base.multi all) m.number) (λ multi. multi < oldest) q.1);
    };
    free = refl;
    fitting = refl;
    held = λ new. tt;
  }
  unpinned_answer (refusals.MultiFuture next) q = record {
    allowed = future (near_id (next_made start.base.multi all) m.number) refl q.1;
    free = refl;
    fitting = refl;
    held = λ new. tt;
  }
    where
      future : (o : Option ℕ) → near_id (next_made start.base.multi all) m.number ≡ o → MatchOption o ⊥ (λ multi. next ≤ multi) → IsMultiFuture start.base all (alone_multis lists more) by m.number next
      future None is x = absurd x
      future (Some multi) is past = record {
        place = length all;
        read = reads_end;
        multi = multi;
        near = ap (λ (t : List MultiEvent). near_id (next_made start.base.multi t) m.number) whole ∙ is;
        next_is = q.0 ∙ ap (next_made start.base.multi) (sym whole);
        past = past;
      }
  unpinned_answer refusals.Memory q = record { allowed = refl; free = refl; fitting = inl refl; held = λ new. tt }
  unpinned_answer r q = absurd q

  abbrev pinned : ℕ → List MultiEvent
  pinned multi = multis.Hold by multi ∷ multis.Unhold by multi ∷ []

  -- it was pinned, and its offset was wanting, or a volume failed
  pub unseen_answer : (r : Refusal) (multi : ℕ) → PinsOnce start n s m.number lists more multi → IsUnseen start (IsTrue tells) lists more by r → Answer tells start n s name m lists more (pinned multi) (replies.Refused r)
  unseen_answer (refusals.NotYet next) multi p u = record { allowed = (u.0, λ t. u.1 t.0 t.2); free = refl; fitting = (p.place, multi, (multi, p.stands), p.near, refl); held = λ new. tt }
  unseen_answer (refusals.DiskFault (locks.Offsets bank)) multi p u = record { allowed = (refl, u); free = refl; fitting = (p.place, multi, (multi, p.stands), p.near, refl); held = λ new. tt }
  unseen_answer (refusals.DiskFault (locks.Members bank)) multi p u = record { allowed = (refl, u); free = refl; fitting = (p.place, multi, (multi, p.stands), p.near, refl); held = λ new. tt }
  unseen_answer r multi p u = absurd u

  -- while its members were judged a volume failed
  pub unjudged_answer : (r : Refusal) (multi : ℕ) → PinsOnce start n s m.number lists more multi → IsBankFault more by r → Answer tells start n s name m lists more (pinned multi) (replies.Refused r)
  unjudged_answer (refusals.DiskFault (locks.Xact bank)) multi p u = record { allowed = (refl, u); free = refl; fitting = (p.place, multi, (multi, p.stands), p.near, refl); held = λ new. tt }
  unjudged_answer (refusals.DiskFault (locks.Subtrans bank)) multi p u = record { allowed = (refl, u); free = refl; fitting = (p.place, multi, (multi, p.stands), p.near, refl); held = λ new. tt }
  unjudged_answer r multi p u = absurd u

  -- the members that were read are those of the pinned multixact
  has_members : (multi : ℕ) (members : List Member) (p : PinsOnce start n s m.number lists more multi) → HasMembersIn start more multi members → HasMembers (recorded_in start) all p.place multi members
  has_members multi members p has = ⊎_elim
      (λ (w : (by : By) × (offset : ℕ) × Contains all (multis.Gen by multi offset members)).
      let legal = multis_are_legal start more k in
      let q = has_place all (multis.Gen w.0 multi w.1 members) (contains_has all _ w.2) in
      let rule : IsNextMade start.base (take q.0 all) multi w.1 members = legal q.0 (multis.Gen w.0 multi w.1 members) q.1 in
      inl (q.0, before p.place q.0 (p.known.given) rule.next, record { by = w.0; offset = w.1; stands = q.1 }))
      (λ (c : (offset : ℕ) × Contains start.recorded (records.Multi multi offset members)).
      inr (c.0, has_contains (recorded_in start) (multi, c.0, members) (filter_map_has recorded_by start.recorded (records.Multi multi c.0 members) (multi, c.0, members) (contains_has start.recorded _ c.1) refl)))
      has
    where
      before : (pin given : ℕ) → multi < next_made start.base.multi (take pin all) → multi ≡ next_made start.base.multi (take given all) → given < pin
      before pin given below is = ⊎_elim
          (λ (le : pin ≤ given).
          let up = made_more start.base.multi (take pin all) (take given all) (take_more pin given all le) in
          absurd (omega (arith, below, is, up)))
          (λ lt. lt)
          (le_or_over pin given)

  -- the verdicts
  pub seen_answer : (multi : ℕ) (read : RegisteredSnapshot) (slots : List Slot) (vs : List MemberVerdict) → PinsOnce start n s m.number lists more multi → IsRegistered start.base (history more) n read → snap_of name (stance_of s) ≡ Some read.command
      → (IsTrue tells → AreFewMultis more → AreItsSlots start more multi slots) → (IsTrue tells → AreFewIds more → length (filter_map pair_in slots) ≤ 64 → AreJudged start more read (filter_map pair_in slots) vs) → AllByRecursion IsOfId vs
      → Answer tells start n s name m lists more (pinned multi) (replies.Verdicts vs)
  seen_answer multi read slots vs p r snap its judged ranges = record {
    allowed = (
      ranges,
      λ t.
          let i = its t.0 t.2 in (
            read.command,
            snap,
            record {
              taken = read.place;
              snapshot = (read.name, r.taken);
              multi = multi;
              pinned = p.place;
              pin = p.stands;
              members = i.members;
              has = has_members multi i.members p i.has;
              each = all_told start more (length (history lists)) n read r i.members vs (λ id h. i.full id (has_contains (ids_of i.members) id h))
                  (subst (λ (t : List Pair). AreJudged start more read t vs) i.shown (judged t.0 t.1 (few_pairs slots i.members i.shown i.most)));
            },
          ),
    );
    free = refl;
    fitting = (p.place, multi, (multi, p.stands), p.near, refl);
    held = λ new. tt;
  }

-- ---- the call

module _ {H L P : Type 0} {l : logs.Ghosts L} {p : disks.Ghosts P} (hall : Hall H (Part L P l p) Entry Start) where
  pub ran_seen : {banks : ℕ} (old u new : Caller L P l p) (name : List ℕ) (m : MultiId) (reply : Reply) (es : List MultiEvent) → IsCounted old u → MayRun hall banks old → IsOf hall new.pass → IsReady (start_of hall) (view new.pass) new.number new.session
      → WentMulti u.number es (view u.pass).seen (view new.pass).seen → new.session ≡ u.session → new.number ≡ u.number → AllByRecursion (λ e. multi_by e ≡ by_at u.number u.session.levels.commands) es
      → Adds (by_at u.number u.session.levels.commands) (MayLeave (commands.SeeMulti name m) (stance_of u.session) u.session.stage (open_ids u.number (history (view u.pass).seen)) reply) (view u.pass).seen (view new.pass).seen
      → refused_by (commands.SeeMulti name m) (stance_of u.session) (pending_in u.session.stage) ≡ None
      → Answer p.tells (start_of hall) u.number u.session name m (view u.pass).seen (view new.pass).seen es reply
      → Ran hall (next_command old) (commands.SeeMulti name m) reply old new
  ran_seen old u new name m reply es c may own ready went same number each adds standing a =
      let start = start_of hall in
      let was = may_counted hall old u c may in
      ran_counted hall old u new (commands.SeeMulti name m) reply c (record {
        own = own;
        may = record {
          ready = ready;
          stage = subst (λ (z : ℕ × Session). IsInStage start (view new.pass).seen z.0 (inner_id z.1) z.1.levels.open_ids.items z.1.stage) (λ j. (sym number j, sym same j))
              (stage_later start (view u.pass).seen (view new.pass).seen u.number (inner_id u.session) u.session.levels.open_ids.items u.session.stage went.grows went.asks was.stage);
        };
        acted = record {
          grows = went.grows;
          added = [];
          own = went.own ∙ sym (append-nil (filter (is_of u.number) (history (view u.pass).seen)));
          each = tt;
          fitting = refl;
          multis = es;
          own_multi = went.multis;
          each_multi = each;
          fitting_multi = a.fitting;
          adds = adds;
          allowed = a.allowed;
          standing = a.free ∙ sym standing;
          left = sym (ap stance_of same);
        };
        stage = keeps_stage (commands.SeeMulti name m) reply u.session.stage new.session.stage refl (ap (λ (z : Session). z.stage) same);
        held = a.held new.session.stage;
        still = λ q is. not_standing (by_standing reply) q a.free is;
        making = kept_making (commands.SeeMulti name m) reply (has_more_multis u.number (view u.pass).seen (view new.pass).seen) u.session.making new.session.making refl (ap (λ (z : Session). z.making) same);
        count = (ap (λ (z : Session). z.levels.commands) same, number);
      })
