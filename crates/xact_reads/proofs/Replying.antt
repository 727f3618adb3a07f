-- The replies of a look at a snapshot are lawful.
use Rattle.std.proofs.Common.{◌≡◌, ℕ, zero, suc, ◌+◌, ◌-◌, ◌<◌, ◌≤◌, ◌==◌, ◌||◌, ◌++◌, List, [], Option, None, Some, IfSome, IsTrue, Bool, true, false, not, nat_eq, nat_lt, cond, is_none, length, length-append, take, take_all, Contains, refl, sym, ap, subst, ◌∙◌, arith, le-leb, ⊎_elim}
use Rattle.std.proofs.lemmas.Bool.{false_from_ne_true}
use Rattle.std.proofs.lemmas.Bool.Decides.{nat_tests}
use Rattle.std.specs.Bool.{then_some}
use Rattle.std.specs.List.{list_any, find}
use Rattle.notes.specs.Lists.{at}
use Rattle.tx_events.specs.declared.order.Xid.{Xid}
use Rattle.tx_events.specs.Nearest.{near_id}
use Rattle.tx_events.specs.declared.event.By.{By}
use Rattle.tx_events.specs.declared.event.Event.{Event}
use Rattle.tx_events.specs.declared.event.Event.TheVariants as events
use Rattle.tx_events.specs.declared.record.Counters.{Counters}
use Rattle.tx_events.specs.declared.refusal.Lock.TheVariants as locks
use Rattle.tx_events.specs.declared.refusal.Refusal.{Refusal}
use Rattle.tx_events.specs.declared.refusal.Refusal.TheVariants as refusals
use Rattle.tx_events.specs.declared.snapshot.SnapData.{SnapData}
use Rattle.tx_events.specs.Base.{IsBase}
use Rattle.tx_events.specs.Events.{same_name}
use Rattle.tx_events.specs.History.{IsLegal}
use Rattle.tx_events.specs.Horizon.{oldest_id, oldest_xmin}
use Rattle.tx_events.specs.Snapshots.{snapshot_xmax}
use Rattle.tx_events.specs.Visible.{is_visible}
use Rattle.tx_events.proofs.GivenIds.{legal_take}
use Rattle.tx_events.proofs.Membership.{has_contains}
use Rattle.tx_events.proofs.Names.{same_name_equal}
use Rattle.tx_events.proofs.PlaceLemmas.{take-grows}
use Rattle.tx_events.proofs.SnapshotBounds.{given_from}
use Rattle.tx_events.proofs.Visibility.{among_has, lives, never_given}
use Rattle.tx_model.specs.declared.command.Command.TheVariants as commands
use Rattle.tx_model.specs.declared.reply.Reply.TheVariants as replies
use Rattle.tx_model.specs.Replies.{IsHorizon, MayFindOldest, MayReply, alone}
use Rattle.tx_model.specs.Stance.{snap_of}
use Rattle.tx_model.proofs.Growth.{may_reply_grows}
use Rattle.tx_core.specs.declared.entry.Entry.{Entry}
use Rattle.tx_core.specs.declared.entry.Start.{Start}
use Rattle.tx_core.specs.EngineInvariant.{EngineInvariant}
use Rattle.tx_core.specs.Entries.{history}
use Rattle.tx_core.proofs.Posting.{oldest_rises}
use Rattle.proc_table.proofs.Bounds.{full_from}
use Rattle.session_levels.specs.declared.session.RegisteredSnapshot.{RegisteredSnapshot}
use Rattle.session_levels.specs.declared.session.Session as plain
use Rattle.session_levels.specs.Acts.{IsInTurn}
use Rattle.session_levels.specs.Stands.{IsRegistered}
use Rattle.session_levels.specs.Stands as levels
use Rattle.session_levels.proofs.ActsLemmas.{reads_last, registered_at, snap_found, snap_missing}
use Rattle.engine_parts.specs.declared.session.Session.{Session}
use Rattle.engine_parts.specs.declared.session.Stage.{Stage}
use Rattle.engine_parts.specs.Answers.{MayAnswer}
use Rattle.engine_parts.specs.Holds.{Knowledge}
use Rattle.engine_parts.specs.Sessions.{IsAt, by_at, stance_of}
use Rattle.life_law.specs.Refused.{by_standing, refused_by}
use Rattle.engine_parts.specs.Steps.{WentOn}
use Rattle.xact_reads.specs.declared.glances.Glance.{Glance}
use Rattle.xact_reads.specs.Glances.{IsNamed, Shows}
use Rattle.bank_sections.specs.Faults.{IsSubtransFault}
use Rattle.xact_reads.specs.Readings.{IsShown, IsStateUnread, IsUnread}
use Rattle.engine_parts.specs.Stages.{pending_in}
use Rattle.engine_parts.proofs.Unmoved.{went_longer}
use Rattle.tx_core.specs.Consequences.{IsShownBehind}
use Rattle.xact_reads.proofs.Going.{others_went}
use Rattle.xact_reads.proofs.WordReading.{finds_word, word_from}

-- a session's snapshot of this name is registered in what it has seen
pub named_at : (start : Start) (v : Knowledge) (n : ℕ) (s : Session) (name : List ℕ) (k : RegisteredSnapshot) → IsAt start v n s → IsNamed s.levels name k → IsRegistered start.base (history v.seen) n k × (same_name k.name name ≡ true)
named_at start v n s name k a named = registered_at start.base (history v.seen) n (λ x. same_name x.name name) s.levels.registered.items k a.stands.snaps named

-- a command finds the announced oldest id at the end of what it has seen
pub finds_oldest : (base : Counters) (by : By) (h h' : List Event) → length h ≤ length h' → IsInTurn by h' → MayFindOldest base h' (alone h h') by (oldest_id base.oldest h')
finds_oldest base by h h' longer turn = record {
  place = length h';
  read = reads_last by h h' longer turn;
  lag = 0;
  short = omega arith;
  oldest_is = ap (oldest_id base.oldest) (sym (take_all (length h' - 0) h' (omega arith)));
}

-- it is never before the one with which the life began
pub oldest_from : (start : Start) (lists : List (List Entry)) → EngineInvariant start lists → start.base.oldest ≤ oldest_id start.base.oldest (history lists)
oldest_from start lists k = oldest_rises start [] lists k (record { begins = λ q. (at lists q, refl) })

below_special : (x : ℕ) → x < 3 → nat_lt x 3 ≡ true
below_special x l = grind (arith, nat_tests)

above_special : (x : ℕ) → 3 ≤ x → nat_lt x 3 ≡ false
above_special x l = grind (arith, nat_tests)

-- ids 0 to 2 have fixed answers
special : (base : Counters) (committed : List ℕ) (g : List Event) (x : ℕ) → IsBase base → IsLegal base g → (Contains committed 0 → ⊥) → x < 3 → not (nat_eq x 0) ≡ is_visible committed g x
special base committed g zero b legal none l =
    sym
    (ap (λ b. b || lives g 0) (false_from_ne_true (list_any (λ y. y == 0) committed) (λ e. none (has_contains committed 0 (among_has 0 committed e))))
    ∙ never_given base g 0 legal (λ k. let f = given_from base g legal 0 k in let n = full_from base.next b.full in omega arith))
special base committed g (suc zero) b legal none l = refl
special base committed g (suc (suc zero)) b legal none l = refl
special base committed g (suc (suc (suc x))) b legal none l = absurd (omega arith)

module _ (start : Start) (v w : Knowledge) (n : ℕ) (s : Session) (name : List ℕ) (x : Xid) (k : RegisteredSnapshot) (a : IsAt start w n s) (went : WentOn n [] v.seen w.seen) (named : IsNamed s.levels name k) where
  abbrev by : By
  by = by_at n s.levels.commands

  abbrev h : List Event
  h = history w.seen

  -- a special id
  pub special_answer : (tells : Bool) → x.number < 3 → MayAnswer tells start w.seen (alone (history v.seen) h) by (stance_of s) s.stage (commands.See name x) (replies.Seen (not (nat_eq x.number 0)))
  special_answer tells small told few =
      let r = named_at start w n s name k a named in (
        k.command,
        snap_found name (stance_of s).levels s.levels.registered.items k named,
        record {
          place = k.place;
          taken = r.0.taken ∙ ap (λ m. Some (events.Snap m (record { session = n; command = k.command }))) (same_name_equal k.name name r.1);
          id = x.number;
          near = ap (λ c. cond c (Some x.number) (near_id (snapshot_xmax start.base.next (take k.place h)) x.number)) (below_special x.number small);
          young = λ normal. absurd (omega arith);
          exact = special start.base start.committed (take k.place h) x.number a.base (legal_take start.base h k.place a.kept.events.legal) (λ c. let z = (a.before 0 c).0 in omega arith) small;
        },
      )

  -- the oldest id at the end
  finds_last : (oldest : ℕ) → oldest ≡ oldest_id start.base.oldest h → MayFindOldest start.base h (alone (history v.seen) h) by oldest
  finds_last oldest is = subst (MayFindOldest start.base h (alone (history v.seen) h) by) (sym is) (finds_oldest start.base by (history v.seen) h (went_longer n v.seen w.seen went) a.stands.turn)

  -- an id before one that the command may find to be the oldest, or none
  pub old_answer : (tells : Bool) (o : Option ℕ) (oldest : ℕ) → 3 ≤ x.number → near_id k.snapshot.xmax x.number ≡ o → IfSome o (λ id. id < oldest) → MayFindOldest start.base h (alone (history v.seen) h) by oldest
      → MayAnswer tells start w.seen (alone (history v.seen) h) by (stance_of s) s.stage (commands.See name x) (replies.Refused (refusals.TooOld oldest))
  old_answer tells o oldest normal near older found =
      let r = named_at start w n s name k a named in (
        k.command,
        snap_found name (stance_of s).levels s.levels.registered.items k named,
        record {
          place = k.place;
          taken = r.0.taken ∙ ap (λ m. Some (events.Snap m (record { session = n; command = k.command }))) (same_name_equal k.name name r.1);
          normal = normal;
          older = subst (λ p. IfSome p (λ id. id < oldest)) (sym near ∙ ap (λ (d : SnapData). near_id d.xmax x.number) r.0.holds) older;
          found = found;
        },
      )

  -- nothing was read of it
  pub unread_answer : (tells : Bool) (g : Glance) (r : Refusal) → 3 ≤ x.number → Shows k.snapshot x.number g → IsUnread start w.seen by g.id r
      → MayAnswer tells start w.seen (alone (history v.seen) h) by (stance_of s) s.stage (commands.See name x) (replies.Refused r) × (by_standing (replies.Refused r) ≡ None)
  unread_answer tells g r normal shows u = ⊎_elim (state_unread r) (parent_unread r) u
    where
      state_unread : (r : Refusal) → IsStateUnread start w.seen by g.id r → MayAnswer tells start w.seen (alone (history v.seen) h) by (stance_of s) s.stage (commands.See name x) (replies.Refused r) × (by_standing (replies.Refused r) ≡ None)
      state_unread (refusals.DiskFault (locks.Xact bank)) u = ((le-leb 3 x.number normal, u), refl)
      state_unread (refusals.TooOld oldest) u = (old_answer tells (Some g.id) oldest normal shows.near u.1 (finds_last oldest u.0), refl)
      state_unread r u = absurd u

      parent_unread : (r : Refusal) → IsSubtransFault w.seen by r → MayAnswer tells start w.seen (alone (history v.seen) h) by (stance_of s) s.stage (commands.See name x) (replies.Refused r) × (by_standing (replies.Refused r) ≡ None)
      parent_unread (refusals.DiskFault (locks.Subtrans bank)) u = ((le-leb 3 x.number normal, u), refl)
      parent_unread r u = absurd u

-- what is shown of an id that wasn't too old when the oldest one was read
pub seen_answer : (tells : Bool) (start : Start) (v u w : Knowledge) (n : ℕ) (s : Session) (name : List ℕ) (x : Xid) (k : RegisteredSnapshot) (g : Glance) (oldest : ℕ) (shown : Bool) → IsAt start u n s → WentOn n [] v.seen u.seen → WentOn n [] u.seen w.seen → IsNamed s.levels name k
    → 3 ≤ x.number → Shows k.snapshot x.number g → IsShownBehind start v.seen u.seen oldest → oldest ≤ g.id → (IsTrue tells → IsShown start w.seen s.levels name g.id shown)
    → MayAnswer tells start w.seen (alone (history v.seen) (history w.seen)) (by_at n s.levels.commands) (stance_of s) s.stage (commands.See name x) (replies.Seen shown)
seen_answer tells start v u w n s name x k g oldest shown a first second named normal shows is young each told few =
    let by : By = by_at n s.levels.commands in
    let h : List Event = history u.seen in
    let others = others_went by u.seen w.seen second in
    let r = named_at start u n s name k a named in
    let from = word_from start v.seen u.seen oldest a.kept is in
    let exact = each told few (omega arith) k named in
    let longer = went_longer n v.seen u.seen first in
    subst (λ (t : List Event). MayReply start.base start.committed t (alone (history v.seen) t) by (stance_of s) (commands.See name x) (replies.Seen shown)) others.split
    (may_reply_grows start.base start.committed h others.rest (alone (history v.seen) h) (alone (history v.seen) (h ++ others.rest)) by (stance_of s) (commands.See name x) (replies.Seen shown) (omega arith) (omega (arith, length-append h others.rest)) (omega arith) others.later (
      k.command,
      snap_found name (stance_of s).levels s.levels.registered.items k named,
      record {
        place = k.place;
        taken = r.0.taken ∙ ap (λ m. Some (events.Snap m (record { session = n; command = k.command }))) (same_name_equal k.name name r.1);
        id = g.id;
        near = ap (λ c. cond c (Some x.number) (near_id (snapshot_xmax start.base.next (take k.place h)) x.number)) (above_special x.number normal) ∙ (ap (λ (d : SnapData). near_id d.xmax x.number) (sym r.0.holds) ∙ shows.near);
        young = λ _. record { oldest = oldest; found = finds_word start v u n s oldest a first is; young = young };
        exact = exact ∙ ap (λ (t : List Event). is_visible start.committed t g.id) (ap (take k.place) (sym others.split) ∙ take-grows h others.rest _ k.place r.0.taken);
      },
    ))

-- a command reads the oldest xmin at the end of what it has seen
pub xmin_answer : (start : Start) (v w : Knowledge) (n : ℕ) (s : Session) (xmin : ℕ) → IsAt start w n s → WentOn n [] v.seen w.seen → xmin ≡ oldest_xmin start.base.next (history w.seen) → IsHorizon start.base (history w.seen) (alone (history v.seen) (history w.seen)) (by_at n s.levels.commands) xmin
xmin_answer start v w n s xmin a went is =
    let h : List Event = history w.seen in
    let longer = went_longer n v.seen w.seen went in record {
      place = length h;
      read = reads_last (by_at n s.levels.commands) (history v.seen) h longer a.stands.turn;
      xmin_is = is ∙ ap (oldest_xmin start.base.next) (sym (take_all (length h) h (omega arith)));
    }

-- where the session has a snapshot of this name, it isn't refused by how it stands
pub not_refused : (s : Session) (name : List ℕ) (x : Xid) (k : RegisteredSnapshot) → IsNamed s.levels name k → refused_by (commands.See name x) (stance_of s) (pending_in s.stage) ≡ None
not_refused s name x k named = ap (λ (o : Option ℕ). then_some (is_none o) refusals.NoSnapshot) (snap_found name (stance_of s).levels s.levels.registered.items k named)

-- and where it had none before its command was counted, it is
pub refused_before : (s t : plain.Session) (stage : Stage) (name : List ℕ) (x : Xid) → t ≡ record s { commands = s.commands + 1 } → find (λ k. same_name k.name name) t.registered.items ≡ None
    → (snap_of name (levels.stance_of s) ≡ None) × (by_standing (replies.Refused refusals.NoSnapshot) ≡ refused_by (commands.See name x) (levels.stance_of s) (pending_in stage))
refused_before s t stage name x counted missing =
    let none : snap_of name (levels.stance_of s) ≡ None = sym (ap (λ z. snap_of name (levels.stance_of z)) counted) ∙ snap_missing name (levels.stance_of t).levels t.registered.items missing in
    (none, sym (ap (λ (o : Option ℕ). then_some (is_none o) refusals.NoSnapshot) none))
