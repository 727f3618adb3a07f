-- What a look at a multixact's members did, by what its steps did.
use Rattle.std.proofs.Common.{Err, IsTrue, List, None, Ok, Some, [], ap, append-nil, inl, length, refl, sym, subst, ⊎_elim, ℕ, ◌∙◌, ◌∷◌, ◌≡◌, ◌≤◌}
use Rattle.std.specs.List.{AllByRecursion, filter, filter_map}
use Rattle.disk_core.specs.declared.log_disk.LogDisk as logs
use Rattle.disk_core.specs.declared.page_disk.PageDisk as disks
use Rattle.hall.specs.declared.hall.Hall.{Hall}
use Rattle.hall.specs.Calls.{IsOf, start_of, view}
use Rattle.notes.specs.Lists.{at}
use Rattle.notes.proofs.Growing.{begins_same}
use Rattle.tx_events.specs.Events.{is_of}
use Rattle.tx_events.specs.declared.full_multi.MultiId.{MultiId}
use Rattle.tx_events.specs.declared.multi.MultiEvent.TheVariants as multis
use Rattle.tx_events.specs.declared.refusal.Refusal.{Refusal}
use Rattle.tx_events.specs.declared.refusal.Refusal.TheVariants as refusals
use Rattle.tx_events.specs.Running.{open_ids}
use Rattle.tx_model.specs.declared.command.Command.TheVariants as commands
use Rattle.tx_model.specs.declared.reply.MemberVerdict.{MemberVerdict}
use Rattle.tx_model.specs.declared.reply.Reply.TheVariants as replies
use Rattle.tx_model.specs.Stance.{snap_of}
use Rattle.life_law.specs.MultiReplies.{IsOfId}
use Rattle.life_law.specs.Refused.{by_standing, refused_by}
use Rattle.tx_core.specs.declared.entry.Entry.{Entry}
use Rattle.tx_core.specs.declared.entry.Start.{Start}
use Rattle.tx_core.specs.Entries.{AreFewIds, history}
use Rattle.tx_core.specs.OwnMultis.{own_multis}
use Rattle.bank_stores.specs.declared.slot.Slot.{Slot}
use Rattle.session_levels.specs.declared.session.RegisteredSnapshot.{RegisteredSnapshot}
use Rattle.session_levels.specs.Stands.{IsRegistered}
use Rattle.session_levels.specs.Stands as levels
use Rattle.engine_parts.specs.declared.part.Part.{Part}
use Rattle.engine_parts.specs.declared.session.Caller.{Caller}
use Rattle.engine_parts.specs.Adding.{Adds, IsPlain, MayMeet}
use Rattle.engine_parts.specs.Answers.{Acted}
use Rattle.engine_parts.specs.Calls.{IsCounted, MayRun, Ran, next_command}
use Rattle.engine_parts.specs.Makings.{has_more_multis}
use Rattle.engine_parts.specs.Sessions.{IsReady, by_at, stance_of}
use Rattle.engine_parts.specs.Stages.{pending_in}
use Rattle.engine_parts.specs.Steps.{WentMulti}
use Rattle.engine_parts.proofs.Adding.{adds_nothing, adds_wider, met_leaves, plain_leaves}
use Rattle.engine_parts.proofs.Beholding.{held_standing}
use Rattle.engine_parts.proofs.Calling.{may_counted, own_counted}
use Rattle.engine_parts.proofs.KeptMaking.{kept_making}
use Rattle.engine_parts.proofs.Refusing.{refused_leaves, stands_still}
use Rattle.engine_parts.proofs.Stepping.{went_nowhere}
use Rattle.bank_sections.specs.Faults.{IsBankFault}
use Rattle.xact_reads.specs.Multis.{AreJudged, ReadsMulti, pair_in}
use Rattle.xact_reads.proofs.MultiReplying.{once_later, ran_seen, seen_answer, unjudged_answer, unpinned_answer, unseen_answer}
use Rattle.xact_reads.proofs.Gathering.{its_later}
use Rattle.xact_reads.proofs.Once.{few_multis_before}
use Rattle.xact_reads.proofs.Pinning.{multi_quiet}

module _ {H L P : Type 0} {l : logs.Ghosts L} {p : disks.Ghosts P} (hall : Hall H (Part L P l p) Entry Start) {banks : ℕ} (old u : Caller L P l p) (name : List ℕ) (m : MultiId) (c : IsCounted old u) (may : MayRun hall banks old) where
  -- the session has no snapshot of this name
  pub ran_unnamed : snap_of name (stance_of old.session) ≡ None → by_standing (replies.Refused refusals.NoSnapshot) ≡ refused_by (commands.SeeMulti name m) (stance_of old.session) (pending_in old.session.stage) → Ran hall (next_command old) (commands.SeeMulti name m) (replies.Refused refusals.NoSnapshot) old u
  ran_unnamed none standing =
      let lists = (view old.pass).seen in
      let n = old.number in
      let command = commands.SeeMulti name m in
      let reply = replies.Refused refusals.NoSnapshot in
      record {
        own = own_counted hall old u c may.step.own;
        may = may_counted hall old u c may;
        acted = subst (λ z. Acted p.tells (start_of hall) (by_at n (next_command old)) (stance_of old.session) (stance_of u.session) old.session.stage command reply lists z) (sym (ap (λ q. (view q).seen) c.pass)) (record {
          grows = record { begins = λ q. begins_same (at lists q) };
          added = [];
          own = sym (append-nil (filter (is_of n) (history lists)));
          each = tt;
          fitting = refl;
          multis = [];
          own_multi = sym (append-nil (own_multis n lists));
          each_multi = tt;
          fitting_multi = refl;
          adds = adds_nothing (by_at n (next_command old)) _ lists;
          allowed = none;
          standing = standing;
          left = refused_leaves (stance_of old.session) (next_command old) command refusals.NoSnapshot ∙ sym (ap levels.stance_of c.levels);
        });
        stage = stands_still command refusals.NoSnapshot old.session.stage u.session.stage refl c.stage;
        held = held_standing (start_of hall) (view u.pass).seen command refusals.NoSnapshot u.session.stage refl;
        still = λ q is. ap (λ z. (view z).seen) c.pass;
        making = kept_making command reply (has_more_multis old.number (view old.pass).seen (view u.pass).seen) old.session.making u.session.making refl c.making;
        count = (ap (λ z. z.commands) c.levels, c.number);
      }

  module _ (standing : refused_by (commands.SeeMulti name m) (stance_of u.session) (pending_in u.session.stage) ≡ None) where
    -- no memory, before anything was pinned
    pub ran_short : Ran hall (next_command old) (commands.SeeMulti name m) (replies.Refused refusals.Memory) old u
    ran_short =
        let k = may_counted hall old u c may in
        ran_seen hall old u u name m (replies.Refused refusals.Memory) [] c may (own_counted hall old u c may.step.own) k.ready (multi_quiet u.number (view u.pass).seen (view u.pass).seen (went_nowhere u.number (view u.pass).seen)) refl refl tt
        (adds_nothing (by_at u.number u.session.levels.commands) _ (view u.pass).seen) standing
        (record { allowed = refl; free = refl; fitting = inl refl; held = λ new. tt })

    -- nothing was read of what the number means
    pub ran_unread : (new : Caller L P l p) (r : Refusal) (slots : List Slot) → IsOf hall new.pass → IsReady (start_of hall) (view new.pass) new.number new.session → new.session ≡ u.session → new.number ≡ u.number
        → Adds (by_at u.number u.session.levels.commands) (MayMeet r) (view u.pass).seen (view new.pass).seen
        → ReadsMulti (start_of hall) (IsTrue p.tells) u.number u.session m.number (view u.pass).seen (view new.pass).seen slots (Err r)
        → Ran hall (next_command old) (commands.SeeMulti name m) (replies.Refused r) old new
    ran_unread new r slots own ready same number adds reads =
        let v = (view u.pass).seen in
        let w = (view new.pass).seen in
        let wide = adds_wider (by_at u.number u.session.levels.commands) (MayMeet r) _ v w (met_leaves (commands.SeeMulti name m) (stance_of u.session) u.session.stage (open_ids u.number (history v)) r) adds in
        ⊎_elim
        (λ q. ran_seen hall old u new name m (replies.Refused r) [] c may own ready q.0 same number tt wide standing
        (unpinned_answer p.tells (start_of hall) u.number u.session name m v w q.0.grows ready.at.kept r q.1))
        (λ q. ran_seen hall old u new name m (replies.Refused r) (multis.Hold (by_at u.number u.session.levels.commands) q.0 ∷ multis.Unhold (by_at u.number u.session.levels.commands) q.0 ∷ []) c may own ready q.1.went same number (refl, (refl, tt)) wide standing
        (unseen_answer p.tells (start_of hall) u.number u.session name m v w q.1.went.grows ready.at.kept r q.0 q.1 q.2))
        reads

    -- ---- its members were read

    module _ (mid new : Caller L P l p) (slots : List Slot) (own : IsOf hall new.pass) (ready : IsReady (start_of hall) (view new.pass) new.number new.session) (same : new.session ≡ u.session) (number : new.number ≡ u.number)
        (reads : ReadsMulti (start_of hall) (IsTrue p.tells) u.number u.session m.number (view u.pass).seen (view mid.pass).seen slots (Ok (tt {0}))) (went : WentMulti u.number [] (view mid.pass).seen (view new.pass).seen) where
      -- and a volume failed while they were judged
      pub ran_unjudged : (r : Refusal) → Adds (by_at u.number u.session.levels.commands) (MayMeet r) (view u.pass).seen (view new.pass).seen → IsBankFault (view new.pass).seen (by_at u.number u.session.levels.commands) r → Ran hall (next_command old) (commands.SeeMulti name m) (replies.Refused r) old new
      ran_unjudged r adds fault =
          let v = (view u.pass).seen in
          let w = (view new.pass).seen in
          let once = once_later (start_of hall) u.number u.session m.number v (view mid.pass).seen w reads.0 reads.1 went in
          let wide = adds_wider (by_at u.number u.session.levels.commands) (MayMeet r) _ v w (met_leaves (commands.SeeMulti name m) (stance_of u.session) u.session.stage (open_ids u.number (history v)) r) adds in
          ran_seen hall old u new name m (replies.Refused r) (multis.Hold (by_at u.number u.session.levels.commands) reads.0 ∷ multis.Unhold (by_at u.number u.session.levels.commands) reads.0 ∷ []) c may own ready once.went same number (refl, (refl, tt)) wide standing
          (unjudged_answer p.tells (start_of hall) u.number u.session name m v w once.went.grows ready.at.kept r reads.0 once fault)

      -- and each one was judged
      pub ran_judged : (read : RegisteredSnapshot) (vs : List MemberVerdict) → Adds (by_at u.number u.session.levels.commands) IsPlain (view u.pass).seen (view new.pass).seen → IsRegistered (start_of hall).base (history (view new.pass).seen) u.number read → snap_of name (stance_of u.session) ≡ Some read.command
          → (IsTrue p.tells → AreFewIds (view new.pass).seen → length (filter_map pair_in slots) ≤ 64 → AreJudged (start_of hall) (view new.pass).seen read (filter_map pair_in slots) vs) → AllByRecursion IsOfId vs → Ran hall (next_command old) (commands.SeeMulti name m) (replies.Verdicts vs) old new
      ran_judged read vs adds r snap judged ranges =
          let v = (view u.pass).seen in
          let w = (view new.pass).seen in
          let once = once_later (start_of hall) u.number u.session m.number v (view mid.pass).seen w reads.0 reads.1 went in
          let wide = adds_wider (by_at u.number u.session.levels.commands) IsPlain _ v w (plain_leaves (commands.SeeMulti name m) (stance_of u.session) u.session.stage (open_ids u.number (history v)) (replies.Verdicts vs)) adds in
          ran_seen hall old u new name m (replies.Verdicts vs) (multis.Hold (by_at u.number u.session.levels.commands) reads.0 ∷ multis.Unhold (by_at u.number u.session.levels.commands) reads.0 ∷ []) c may own ready once.went same number (refl, (refl, tt)) wide standing
          (seen_answer p.tells (start_of hall) u.number u.session name m v w once.went.grows ready.at.kept reads.0 read slots vs once r snap
          (λ yes few. its_later (start_of hall) (view mid.pass).seen w reads.0 slots went.grows (reads.2 yes (few_multis_before (view mid.pass).seen w went.grows few))) judged ranges)
