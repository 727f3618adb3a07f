-- What taking and dropping a snapshot leaves.
use Rattle.std.proofs.Common.{◌≡◌, ◌≢◌, ℕ, ◌<◌, nat_le, is_some, is_none, List, [], ◌∷◌, ◌++◌, refl, sym, ap, subst, ◌∙◌, false, true, not, Bool, length, arith, take, Option, Some, None, inl, cond, ◌||◌}
use Rattle.std.proofs.lemmas.Bool.{lt-leb}
use Rattle.std.proofs.lemmas.List.{length-map}
use Rattle.std.proofs.Math.Seq.{take-append_seam}
use Rattle.std.specs.Bool.{then_some}
use Rattle.std.specs.List.{filter, find, list_any}
use Rattle.notes.specs.Lists.{at}
use Rattle.tx_events.specs.declared.event.By.{By}
use Rattle.tx_events.specs.declared.event.Event.{Event}
use Rattle.tx_events.specs.declared.event.Event.TheVariants as events
use Rattle.tx_events.specs.declared.snapshot.SnapData.{SnapData}
use Rattle.tx_events.specs.declared.refusal.Refusal.TheVariants as refusals
use Rattle.tx_events.specs.Events.{same_name}
use Rattle.tx_events.specs.Horizon.{is_live}
use Rattle.tx_events.specs.Running.{open_ids}
use Rattle.tx_events.specs.Snapshots.{snapshot_data}
use Rattle.tx_events.proofs.PlaceLemmas.{last_at}
use Rattle.tx_model.specs.declared.command.Command.TheVariants as commands
use Rattle.tx_model.specs.declared.reply.Reply.TheVariants as replies
use Rattle.tx_model.specs.CommandEvents.{innermost}
use Rattle.tx_model.specs.Stance.{Stance, snap_of, without_snap}
use Rattle.tx_core.specs.declared.entry.Entry.{Entry}
use Rattle.tx_core.specs.declared.entry.Kind.TheVariants as kinds
use Rattle.tx_core.specs.declared.entry.Start.{Start}
use Rattle.tx_core.specs.Entries.{appended, asks_in, event_of, history}
use Rattle.tx_core.specs.Locks.{proc_lock}
use Rattle.tx_core.specs.PostsFollow.{IsShown}
use Rattle.tx_core.specs.ProgramOrder.{IsInTurn}
use Rattle.tx_core.proofs.EventLaws.{snap_drop_law, snap_event_law}
use Rattle.session_levels.specs.declared.session.RegisteredSnapshot.{RegisteredSnapshot}
use Rattle.session_levels.specs.declared.session.Session as plain
use Rattle.session_levels.specs.Stands.{Stands, levels_of, told_of}
use Rattle.session_levels.proofs.ActsLemmas.{snap_missing, none_found, not_live, some_found}
use Rattle.session_levels.proofs.RegisteredLemmas.{stood_dropped, stood_snapped}
use Rattle.session_levels.proofs.StandsLemmas.{Stood, stood, stands}
use Rattle.engine_parts.specs.declared.session.Session.{Session}
use Rattle.engine_parts.specs.declared.session.Unlinked.{Unlinked}
use Rattle.engine_parts.specs.Answers.{Acted}
use Rattle.engine_parts.specs.Holds.{EntersProc, Knowledge, Leaves}
use Rattle.engine_parts.specs.Law.{MayKeep}
use Rattle.engine_parts.specs.Sessions.{IsAt, IsFiled, IsReady, MayCall, by_at, stance_of}
use Rattle.engine_parts.specs.Stages.{may_be_recorded, AreUnaborted, may_be_aborted, pending_in}
use Rattle.life_law.specs.Refused.{refused_by}
use Rattle.engine_parts.proofs.Acting.{acted_event}
use Rattle.engine_parts.proofs.Refusing.{first_fails}
use Rattle.engine_parts.proofs.Leaving.{at_left, clear_same, filed_left, history_event, no_abort, no_multi, unaborted_same}
use Rattle.engine_parts.proofs.Made.{makes_left}
use Rattle.tx_core.specs.MultiEntries.{multi_of}
use Rattle.engine_parts.specs.Makings.{Makes}
use Rattle.xact_engine.proofs.Levelling.{call_levels}

abbrev pub snap_entry : By → List ℕ → Entry
snap_entry by name = record { by = by; kind = kinds.Event (events.Snap name by) }

abbrev pub drop_entry : By → List ℕ → Entry
drop_entry by name = record { by = by; kind = kinds.Event (events.SnapDrop name by) }

pub may_snap : (start : Start) (seen : List (List Entry)) (by : By) (name : List ℕ) (e : Entry) → e ≡ snap_entry by name → IsShown start seen → is_live start.base.next by.session name (history seen) ≡ false → IsInTurn start (at seen proc_lock) by → MayKeep start seen proc_lock e
may_snap start seen by name e is shown free turn = subst (MayKeep start seen proc_lock) (sym is) (λ lists k knows inside whole. snap_event_law start seen by name shown free lists k knows inside whole turn)

pub may_drop : (start : Start) (seen : List (List Entry)) (by : By) (name : List ℕ) (e : Entry) → e ≡ drop_entry by name → IsShown start seen → is_live start.base.next by.session name (history seen) ≡ true → IsInTurn start (at seen proc_lock) by → MayKeep start seen proc_lock e
may_drop start seen by name e is shown live turn = subst (MayKeep start seen proc_lock) (sym is) (λ lists k knows inside whole. snap_drop_law start seen by name shown live lists k knows inside whole turn)

-- The session stands with the snapshots that it has after an event that closes no id.
ready_event : (start : Start) (v w : Knowledge) (n n' : ℕ) (s s' : Session) (e : Entry) (event : Event) → IsAt start v n s → e ≡ record { by = by_at n s.levels.commands; kind = kinds.Event event }
    → s'.levels.commands ≡ s.levels.commands → s'.levels.level_ids.items ≡ s.levels.level_ids.items → s'.levels.unnamed ≡ s.levels.unnamed → s'.levels.open_ids.items ≡ s.levels.open_ids.items → s'.stage ≡ s.stage → s'.unlinked ≡ s.unlinked → s'.making ≡ s.making → n' ≡ n
    → Stood start.base (history v.seen ++ event ∷ []) n s.levels.commands s.levels.open_ids.items s.levels.level_ids.items s.levels.unnamed s'.levels.registered.items → Leaves start proc_lock e v w → IsReady start w n' s'
ready_event start v w n n' s s' e event a is count named unnamed opened stage unlinked making number st l =
    let wide = a.wide in
    let h : List Event = history v.seen in
    let grown : history w.seen ≡ h ++ event ∷ [] = history_event start v w e event (ap event_of is) (omega arith) l in
    subst (λ z. IsReady start w z s') (sym number)
    (at_left start v w n proc_lock s s' e a (omega arith) (ap (λ (z : Entry). z.by) is) count l
    (subst (λ (z : List Event × ℕ). Stands start.base z.0 n z.1 s'.levels) (λ j. (sym grown j, sym count j)) (stands start.base (h ++ event ∷ []) n s.levels.commands s'.levels (rw (opened, named, unnamed) st)))
    (λ q. clear_same start v w n proc_lock s e a (omega arith) (ap appended is) (ap (open_ids n) grown ∙ (st.opened_are ∙ sym a.stands.opened)) l (ap may_be_recorded (sym stage) ∙ q))
    (λ q. subst (λ (t : List ℕ). AreUnaborted w.seen n t) (sym opened) (unaborted_same start v w n proc_lock s e a (omega arith) (no_abort e (ap appended is)) l (ap may_be_aborted (sym stage) ∙ q)))
    (subst (λ (z : List ℕ × Option Unlinked). IsFiled start w.seen n z.0 z.1) (λ j. (sym opened j, sym unlinked j)) (filed_left start v w n proc_lock s e a (omega arith) l))
    (subst (Makes start w.seen n) (sym making) (makes_left start v w n proc_lock s.making e l.kept (omega arith) (ap multi_of is) (no_multi e (ap appended is)) l a.makes)))

-- with one that it took
pub ready_snapped : (start : Start) (v w : Knowledge) (n n' : ℕ) (s s' : Session) (k : RegisteredSnapshot) (e : Entry) → IsAt start v n s → e ≡ snap_entry (by_at n s.levels.commands) k.name
    → k.command ≡ s.levels.commands → k.place ≡ length (history v.seen) → k.snapshot ≡ snapshot_data start.base.next (history v.seen)
    → s'.levels.commands ≡ s.levels.commands → s'.levels.level_ids.items ≡ s.levels.level_ids.items → s'.levels.unnamed ≡ s.levels.unnamed → s'.levels.open_ids.items ≡ s.levels.open_ids.items → s'.levels.registered.items ≡ s.levels.registered.items ++ k ∷ []
    → s'.stage ≡ s.stage → s'.unlinked ≡ s.unlinked → s'.making ≡ s.making → n' ≡ n → Leaves start proc_lock e v w → IsReady start w n' s'
ready_snapped start v w n n' s s' k e a is command place holds count named unnamed opened registered stage unlinked making number l =
    let by = by_at n s.levels.commands in
    ready_event start v w n n' s s' e (events.Snap k.name by) a is count named unnamed opened stage unlinked making number
    (rw registered (stood_snapped start.base (history v.seen) by s.levels.open_ids.items s.levels.level_ids.items s.levels.unnamed s.levels.registered.items k command place holds (stood start.base (history v.seen) n s.levels.commands s.levels a.stands))) l

-- without one that it dropped
pub ready_dropped : (start : Start) (v w : Knowledge) (n n' : ℕ) (s s' : Session) (name : List ℕ) (e : Entry) → IsAt start v n s → e ≡ drop_entry (by_at n s.levels.commands) name
    → s'.levels.commands ≡ s.levels.commands → s'.levels.level_ids.items ≡ s.levels.level_ids.items → s'.levels.unnamed ≡ s.levels.unnamed → s'.levels.open_ids.items ≡ s.levels.open_ids.items
    → s'.levels.registered.items ≡ filter (λ k. not (same_name k.name name)) s.levels.registered.items → s'.stage ≡ s.stage → s'.unlinked ≡ s.unlinked → s'.making ≡ s.making → n' ≡ n → Leaves start proc_lock e v w → IsReady start w n' s'
ready_dropped start v w n n' s s' name e a is count named unnamed opened registered stage unlinked making number l =
    let by = by_at n s.levels.commands in
    ready_event start v w n n' s s' e (events.SnapDrop name by) a is count named unnamed opened stage unlinked making number
    (rw registered (stood_dropped start.base (history v.seen) by name s.levels.open_ids.items s.levels.level_ids.items s.levels.unnamed s.levels.registered.items (stood start.base (history v.seen) n s.levels.commands s.levels a.stands))) l

-- a name that isn't taken isn't refused, below the limit
pub not_refused : (s : Session) (name : List ℕ) → find (λ k. same_name k.name name) s.levels.registered.items ≡ None → length s.levels.registered.items < 64 → refused_by (commands.Snap name) (stance_of s) (pending_in s.stage) ≡ None
not_refused s name free room =
    let missing = snap_missing name (stance_of s).levels s.levels.registered.items free in
    first_fails (is_some (snap_of name (stance_of s))) refusals.NameTaken _ (ap is_some missing)
    ∙ first_fails (nat_le 64 (length (stance_of s).snaps)) refusals.SnapLimit None (lt-leb 64 (length (stance_of s).snaps) (omega (arith, length-map s.levels.registered.items told_of)))

-- what a call did that took one
pub acted_snapped : {tells : Bool} (start : Start) (v u w : Knowledge) (n : ℕ) (s : Session) (s' : Stance) (name : List ℕ) (lists : SnapData) (e : Entry) → IsAt start v n s → EntersProc start (by_at n s.levels.commands) v u → e ≡ snap_entry (by_at n s.levels.commands) name → Leaves start proc_lock e u w
    → find (λ k. same_name k.name name) s.levels.registered.items ≡ None → length s.levels.registered.items < 64 → lists ≡ snapshot_data start.base.next (history u.seen)
    → s' ≡ record (stance_of s) { snaps = (stance_of s).snaps ++ (name, s.levels.commands) ∷ [] }
    → Acted tells start (by_at n s.levels.commands) (stance_of s) s' s.stage (commands.Snap name) (replies.Snapped lists) v.seen w.seen
acted_snapped start v u w n s s' name lists e a entered is l free room held stance =
    let event : Event = events.Snap name (by_at n s.levels.commands) in
    let wide = a.wide in let long = entered.long in
    let grown : history w.seen ≡ history u.seen ++ event ∷ [] = history_event start u w e event (ap event_of is) (omega arith) l in
    acted_event start v u w n s s' (commands.Snap name) (replies.Snapped lists) e event a entered (ap event_of is) refl (ap asks_in is) (ap (λ (z : Entry). z.by) is) l refl refl (
      snap_missing name (stance_of s).levels s.levels.registered.items free,
      omega (arith, length-map s.levels.registered.items told_of),
      length (history u.seen),
      rw grown (last_at (history u.seen) event),
      held ∙ ap (snapshot_data start.base.next) (sym (ap (λ (t : List Event). take (length (history u.seen)) t) grown ∙ take-append_seam (history u.seen) (event ∷ []))),
    )
    (sym (not_refused s name free room)) (sym stance)

some_is : (o : Option ℕ) → o ≢ None → is_none o ≡ false
some_is None some = absurd (some refl)
some_is (Some x) some = refl

-- and one that dropped one
pub acted_dropped : {tells : Bool} (start : Start) (v u w : Knowledge) (n : ℕ) (s : Session) (s' : Stance) (name : List ℕ) (e : Entry) → IsAt start v n s → EntersProc start (by_at n s.levels.commands) v u → e ≡ drop_entry (by_at n s.levels.commands) name → Leaves start proc_lock e u w
    → list_any (λ k. same_name k.name name) s.levels.registered.items ≡ true → s' ≡ record (stance_of s) { snaps = without_snap name (stance_of s).snaps }
    → Acted tells start (by_at n s.levels.commands) (stance_of s) s' s.stage (commands.DropSnap name) replies.Done v.seen w.seen
acted_dropped start v u w n s s' name e a entered is l registered stance =
    let some = some_found name (stance_of s).levels s.levels.registered.items registered in
    acted_event start v u w n s s' (commands.DropSnap name) replies.Done e (events.SnapDrop name (by_at n s.levels.commands)) a entered (ap event_of is) refl (ap asks_in is) (ap (λ (z : Entry). z.by) is) l refl refl
    some (sym (ap (λ (b : Bool). then_some b refusals.NoSnapshot) (some_is (snap_of name (stance_of s)) some))) (sym stance)

-- a name is live in the history where the session has it
pub live_here : (start : Start) (v : Knowledge) (n n' : ℕ) (s : Session) (registered : List RegisteredSnapshot) (name : List ℕ) → IsAt start v n' s → n' ≡ n → s.levels.registered.items ≡ registered → is_live start.base.next n name (history v.seen) ≡ list_any (λ k. same_name k.name name) registered
live_here start v n n' s registered name a number same =
    subst (λ z. is_live start.base.next z name (history v.seen) ≡ list_any (λ k. same_name k.name name) registered) number
    (a.stands.live name ∙ ap (list_any (λ (k : RegisteredSnapshot). same_name k.name name)) same)

-- so a name that is free is live nowhere
pub free_here : (start : Start) (v : Knowledge) (n n' : ℕ) (s : Session) (registered : List RegisteredSnapshot) (name : List ℕ) → IsAt start v n' s → n' ≡ n → s.levels.registered.items ≡ registered → find (λ k. same_name k.name name) registered ≡ None → is_live start.base.next n name (history v.seen) ≡ false
free_here start v n n' s registered name a number same free = live_here start v n n' s registered name a number same ∙ not_live name registered free

-- a snapshot that was found
pub any_found : (name : List ℕ) (registered : List RegisteredSnapshot) (k : RegisteredSnapshot) → find (λ x. same_name x.name name) registered ≡ Some k → list_any (λ x. same_name x.name name) registered ≡ true
any_found name registered k found = either (list_any (λ x. same_name x.name name) registered) refl
  where
    either : (b : Bool) → list_any (λ x. same_name x.name name) registered ≡ b → b ≡ true
    either true q = refl
    either false q = let none = none_found name registered q in absurd cc

-- a session whose list of snapshots holds the same in more room
pub call_reserved : (start : Start) (v : Knowledge) (n : ℕ) (s : Session) (new : plain.Session) → new ≡ record s.levels { registered = new.registered } → new.registered.items ≡ s.levels.registered.items → MayCall start v n s → MayCall start v n (record s { levels = new })
call_reserved start v n s new same items m =
    call_levels start v n s (record s { levels = new }) new refl (ap (λ z. z.commands) same)
    (λ st. stands start.base (history v.seen) n s.levels.commands new (rw (ap (λ z. z.open_ids.items) same, ap (λ z. z.level_ids.items) same, ap (λ z. z.unnamed) same, items) (stood start.base (history v.seen) n s.levels.commands s.levels st))) (λ q. inl (ap (λ (z : plain.Session). innermost (levels_of z.level_ids.items z.unnamed)) same)) m

-- Of one item, at which the test gives true, nothing stays.
pub forgets_only : {X : Type 0} (test : X → Bool) (xs : List X) → length xs ≡ 1 → list_any test xs ≡ true → [] ≡ filter (λ x. not (test x)) xs
forgets_only test [] e is = refl
forgets_only test (x ∷ []) e is = elim (test x) as (λ b. (b || false) ≡ true → [] ≡ cond (not b) (x ∷ []) []) [ true ↦ λ _. refl | false ↦ λ h. cc ] is
forgets_only test (x ∷ y ∷ ys) e is = absurd (omega arith)
