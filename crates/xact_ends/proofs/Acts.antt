-- What a call did that ends a transaction.
use Rattle.std.proofs.Common.{Bool, Contains, Err, IsTrue, List, None, Ok, Option, Result, Some, [], ap, append-nil, arith, drop, false, inl, inr, is_some, length, map, ne_eqb, refl, subst, suc, sym, true, zero, ℕ, ⊎_elim, ◌+◌, ◌==◌, ◌∙◌, ◌∷◌, ◌≡◌, ◌≢◌, ◌≤◌}
use Rattle.std.proofs.lemmas.Bool.{false≢true}
use Rattle.std.specs.Bool.{then_some}
use Rattle.std.specs.List.{slice_index_or}
use Rattle.disk_core.specs.declared.log_disk.LogDisk as logs
use Rattle.disk_core.specs.declared.page_disk.PageDisk as disks
use Rattle.hall.specs.declared.hall.Hall.{Hall}
use Rattle.hall.specs.Calls.{IsOf, start_of, view}
use Rattle.tx_events.specs.declared.event.By.{By}
use Rattle.tx_events.specs.declared.event.Event.{Event}
use Rattle.tx_events.proofs.Membership.{contains_has}
use Rattle.tx_events.specs.declared.refusal.Lock.TheVariants as locks
use Rattle.tx_events.specs.declared.refusal.Refusal.{Refusal}
use Rattle.tx_events.specs.declared.refusal.Refusal.TheVariants as refusals
use Rattle.tx_events.specs.declared.xact_end.XactEnd.{XactEnd}
use Rattle.tx_events.specs.declared.xact_end.XactEnd.TheVariants as ends
use Rattle.tx_events.specs.Running.{open_ids}
use Rattle.tx_events.specs.XactEnds.{end_event}
use Rattle.tx_model.specs.declared.command.Command.{Command}
use Rattle.tx_model.specs.declared.command.Command.TheVariants as commands
use Rattle.tx_model.specs.declared.reply.Reply.TheVariants as replies
use Rattle.tx_model.specs.CommandEvents.{HasEvents, abort_event, commit_event}
use Rattle.tx_model.specs.Replies.{RoundSpan, alone}
use Rattle.tx_model.specs.Stance.{Stance, after, top_level}
use Rattle.tx_core.specs.declared.entry.Entry.{Entry}
use Rattle.tx_core.specs.declared.entry.Kind.{Kind}
use Rattle.tx_core.specs.declared.entry.Start.{Start}
use Rattle.tx_core.specs.CommitRecordsExact.{HasNoRecord}
use Rattle.tx_core.specs.Entries.{history}
use Rattle.session_levels.specs.Acts.{end_command}
use Rattle.session_levels.specs.declared.session.Session as plain
use Rattle.session_levels.specs.Stands.{Nest, Stands, levels_of, told_of}
use Rattle.session_levels.specs.Stands as levels
use Rattle.session_levels.proofs.HeadLemmas.{first_level, head_tail}
use Rattle.session_levels.proofs.LevelLemmas.{levels_length, top_of_nameless}
use Rattle.tx_core.specs.OwnMultis.{own_multis}
use Rattle.engine_parts.proofs.Touching.{any_answer, no_multis}
use Rattle.engine_parts.specs.declared.part.Part.{Part}
use Rattle.engine_parts.specs.declared.session.Caller.{Caller}
use Rattle.engine_parts.specs.declared.session.Session.{Session}
use Rattle.engine_parts.specs.declared.session.Stage.{Stage}
use Rattle.engine_parts.specs.declared.session.Stage.TheVariants as stages
use Rattle.engine_parts.specs.Adding.{Adds, IsOfCommit, IsRecordBy, IsToldBy, MayAdd, MayLeave}
use Rattle.engine_parts.specs.Answers.{Acted, MayAnswer, reply_of, touches_multis}
use Rattle.engine_parts.specs.Calls.{Ran, IsHeldBehind}
use Rattle.engine_parts.specs.Holds.{Knowledge}
use Rattle.engine_parts.specs.Sessions.{IsAt, MayCall, by_at, stance_of}
use Rattle.engine_parts.specs.Stages.{may_be_recorded, pending_in}
use Rattle.life_law.specs.Refused.{held_by, is_by_standing, refused_by, by_standing}
use Rattle.engine_parts.specs.Standing.{IsLoggedFrom, LeavesStage, asks_volume, flushes, is_unflushed, is_unrecorded}
use Rattle.engine_parts.specs.Steps.{GoesOn}
use Rattle.engine_parts.proofs.Acting.{acted_nothing}
use Rattle.engine_parts.proofs.Adding.{may_wider}
use Rattle.engine_parts.proofs.KeptMaking.{kept_making, plain_making}
use Rattle.engine_parts.specs.Makings.{has_more_multis}
use Rattle.engine_parts.proofs.Refusing.{first_fails, not_held, refused_leaves}
use Rattle.bank_sections.specs.Faults.{IsXactFault}
use Rattle.proc_sections.proofs.Closing.{end_by}
use Rattle.xact_ends.specs.Aborts.{Aborts}
use Rattle.xact_ends.specs.Ends.{Commits, HasFinished, IsClosed}
use Rattle.xact_ends.specs.Stops.{IsUnflushed, Stops}
use Rattle.engine_parts.proofs.Beholding.{not_standing}
use Rattle.xact_ends.proofs.Added.{told_reply}

-- ---- levels

some_list : {A : Type 0} (xs : List A) → xs ≢ [] → 1 ≤ length xs
some_list [] some = absurd (some refl)
some_list (x ∷ xs) some = omega arith

has_top : (ls : List (Option ℕ)) (top : ℕ) → top_level ls ≡ Some top → ls ≢ []
has_top ls top is none = none_some top (sym (ap top_level none) ∙ is)
  where
    none_some : (top : ℕ) → None ≡ Some top → ⊥
    none_some top e = cc

-- a command that ends the transaction isn't refused where no other end holds it
pub not_refused : (how : XactEnd) (s : Stance) (stage : Stage) → 1 ≤ length s.levels → held_by (end_command how) (pending_in stage) ≡ None → refused_by (end_command how) s (pending_in stage) ≡ None
not_refused how s stage some free = of how free
  where
    apart : (length s.levels == 0) ≡ false
    apart = ne_eqb (length s.levels) 0 (λ e. absurd (omega arith))

    of : (how : XactEnd) → held_by (end_command how) (pending_in stage) ≡ None → refused_by (end_command how) s (pending_in stage) ≡ None
    of ends.Commit free = first_fails (length s.levels == 0) refusals.NoTransaction _ apart ∙ not_held (held_by commands.Commit (pending_in stage)) None free
    of ends.Abort free = first_fails (length s.levels == 0) refusals.NoTransaction _ apart ∙ not_held (held_by commands.Abort (pending_in stage)) None free

-- ---- the transaction ended

fitting_done : (how : XactEnd) (by : By) (s : Stance) (top : ℕ) → top_level s.levels ≡ Some top → HasEvents by s (end_command how) replies.Done (end_event how by top ∷ [])
fitting_done ends.Commit by s top is = sym (ap (commit_event by) is)
fitting_done ends.Abort by s top is = sym (ap (abort_event by) is)

fitting_none : (how : XactEnd) (by : By) (s : Stance) → top_level s.levels ≡ None → HasEvents by s (end_command how) replies.Done []
fitting_none ends.Commit by s is = sym (ap (commit_event by) is)
fitting_none ends.Abort by s is = sym (ap (abort_event by) is)

allowed_done : (tells : Bool) (start : Start) (lists : List (List Entry)) (span : RoundSpan) (by : By) (s : Stance) (stage : Stage) (how : XactEnd) → s.levels ≢ [] → MayAnswer tells start lists span by s stage (end_command how) replies.Done
allowed_done tells start lists span by s stage ends.Commit some = some
allowed_done tells start lists span by s stage ends.Abort some = some

-- an end touches no multixact
untouched : (how : XactEnd) → touches_multis (end_command how) ≡ false
untouched ends.Commit = refl
untouched ends.Abort = refl

left_done : (how : XactEnd) (s : Stance) (number : ℕ) (ids : List ℕ) → after s number (end_command how) replies.Done ids ≡ record s { levels = [] }
left_done ends.Commit s number ids = refl
left_done ends.Abort s number ids = refl

pub acted_finished : {tells : Bool} (start : Start) (n : ℕ) (how : XactEnd) (h : List Event) (s s' : Session) (stage : Stage) (lists more : List (List Entry)) → Nest h s.levels.open_ids.items s.levels.level_ids.items → 1 ≤ length s.levels.open_ids.items → held_by (end_command how) (pending_in stage) ≡ None → HasFinished n how s s' lists more
    → Adds (by_at n s.levels.commands) (MayLeave (end_command how) (stance_of s) stage (open_ids n (history lists)) replies.Done) lists more
    → Acted tells start (by_at n s.levels.commands) (stance_of s) (stance_of s') stage (end_command how) replies.Done lists more
acted_finished {tells = tells} start n how h s s' stage lists more nest some free f adds =
    let opened = s.levels.open_ids.items in
    let top : ℕ = slice_index_or opened 0 0 in
    let by = by_at n s.levels.commands in
    let split : opened ≡ top ∷ drop 1 opened = head_tail opened 0 some in
    let level = first_level h opened s.levels.level_ids.items s.levels.unnamed top (drop 1 opened) nest split in
    let levelled = has_top (stance_of s).levels top level in
    let g : GoesOn n (end_event how by top ∷ []) lists more = f.goes top (drop 1 opened) split in
    record {
      grows = g.grows;
      added = end_event how by top ∷ [];
      own = g.own;
      each = (end_by how by top, tt);
      fitting = fitting_done how by (stance_of s) top level;
      multis = [];
      own_multi = g.multis ∙ sym (append-nil (own_multis n lists));
      each_multi = tt;
      fitting_multi = no_multis start lists more by (end_command how) replies.Done (untouched how);
      adds = adds;
      allowed = any_answer tells start lists more by (stance_of s) stage (end_command how) replies.Done (untouched how) (allowed_done tells start more (alone (history lists) (history more)) by (stance_of s) stage how levelled);
      standing = sym (not_refused how (stance_of s) stage (some_list (stance_of s).levels levelled) free);
      left = left_done how (stance_of s) s.levels.commands _ ∙ (λ j. record { levels = levels_of (sym f.named j) (sym f.unnamed j); snaps = map told_of ((sym f.registered j).items) });
    }

-- ---- a commit stopped

-- the log is asked where the record isn't on disk
unflushed : (s : Stance) (top : ℕ) (old : Stage) → top_level s.levels ≡ Some top → IsUnflushed old → IsTrue (is_unflushed s old)
unflushed s top stages.Clear level u = subst (λ (o : Option ℕ). IsTrue (is_some o)) (sym level) refl
unflushed s top (stages.Logged number) level u = refl
unflushed s top (stages.Settling steps) level u = absurd u
unflushed s top stages.Aborting level u = absurd u
unflushed s top stages.Undoing level u = absurd u

logged_from : (old new : Stage) → IsLoggedFrom old new → IsUnflushed old
logged_from (stages.Logged number) new q = tt
logged_from stages.Clear new q = tt
logged_from (stages.Settling steps) new q = absurd (let e : stages.Settling steps ≡ stages.Clear = q.0 in cc)
logged_from stages.Aborting new q = absurd (let e : stages.Aborting ≡ stages.Clear = q.0 in cc)
logged_from stages.Undoing new q = absurd (let e : stages.Undoing ≡ stages.Clear = q.0 in cc)

unrecorded : (s : Stance) (top : ℕ) (old : Stage) → top_level s.levels ≡ Some top → old ≡ stages.Clear → IsTrue (is_unrecorded s old)
unrecorded s top old level is = subst (λ (z : Stage). IsTrue (is_unrecorded s z)) (sym is) (subst (λ (o : Option ℕ). IsTrue (is_some o)) (sym level) refl)

-- the transaction has an id
some_top : (s : Stance) (top : ℕ) → top_level s.levels ≡ Some top → IsTrue (is_some (top_level s.levels))
some_top s top level = subst (λ (o : Option ℕ). IsTrue (is_some o)) (sym level) refl

stops_answer : (tells : Bool) (start : Start) (lists : List (List Entry)) (span : RoundSpan) (by : By) (s : Stance) (top : ℕ) (old new : Stage) (r : Refusal) → top_level s.levels ≡ Some top → Stops start lists by old new r → MayAnswer tells start lists span by s old commands.Commit (replies.Refused r)
stops_answer tells start lists span by s top old new (refusals.DiskFault (locks.Xact bank)) level c = (some_top s top level, c.0)
stops_answer tells start lists span by s top old new (refusals.DiskFault (locks.Subtrans bank)) level c = (subst (λ (z : Stage). IsTrue (asks_volume commands.Commit s z (locks.Subtrans bank))) (sym c.1) (some_top s top level), c.0)
stops_answer tells start lists span by s top old new refusals.LogFault level c = (unflushed s top old level (logged_from old new c.1), c.0)
stops_answer tells start lists span by s top old new (refusals.LogDown down) level c = (unflushed s top old level c.2, c.0, c.1)
stops_answer tells start lists span by s top old new refusals.Full level c = unrecorded s top old level c.0
stops_answer tells start lists span by s top old new refusals.Memory level c = unrecorded s top old level c.0
stops_answer tells start lists span by s top old new _ level c = absurd c

stops_else : (start : Start) (lists : List (List Entry)) (by : By) (old new : Stage) (r : Refusal) → Stops start lists by old new r → is_by_standing r ≡ false
stops_else start lists by old new (refusals.DiskFault (locks.Xact bank)) c = refl
stops_else start lists by old new (refusals.DiskFault (locks.Subtrans bank)) c = refl
stops_else start lists by old new refusals.LogFault c = refl
stops_else start lists by old new (refusals.LogDown down) c = refl
stops_else start lists by old new refusals.Full c = refl
stops_else start lists by old new refusals.Memory c = refl
stops_else start lists by old new _ c = absurd c

stops_stage : (start : Start) (lists : List (List Entry)) (by : By) (old new : Stage) (r : Refusal) → Stops start lists by old new r → LeavesStage commands.Commit (replies.Refused r) old new
stops_stage start lists by old new (refusals.DiskFault (locks.Xact bank)) c = (c.1, c.2, c.3)
stops_stage start lists by old new (refusals.DiskFault (locks.Subtrans bank)) c = c.2
stops_stage start lists by old new refusals.LogFault c = c.1
stops_stage start lists by old new (refusals.LogDown down) c = c.3
stops_stage start lists by old new refusals.Full c = c.1
stops_stage start lists by old new refusals.Memory c = c.1
stops_stage start lists by old new _ c = absurd c

stops_held : (start : Start) (lists : List (List Entry)) (by : By) (old new : Stage) (r : Refusal) → Stops start lists by old new r → IsHeldBehind start lists commands.Commit (replies.Refused r) new
stops_held start lists by old new refusals.LogFault c = c.2
stops_held start lists by old new (refusals.LogDown down) c = c.4
stops_held start lists by old new _ c = tt

-- a refusal that isn't by how the session stands
pub else_none : (r : Refusal) → is_by_standing r ≡ false → by_standing (replies.Refused r) ≡ None
else_none r apart = ap (λ (b : Bool). then_some b r) apart

-- the lists went on, and the command was refused by none of how its session stands
pub acted_stopped : {tells : Bool} (start : Start) (n : ℕ) (s s' : Session) (stage : Stage) (command : Command) (r : Refusal) (lists more : List (List Entry)) → GoesOn n [] lists more → s'.levels ≡ s.levels → is_by_standing r ≡ false → refused_by command (stance_of s) (pending_in stage) ≡ None → touches_multis command ≡ false → HasEvents (by_at n s.levels.commands) (stance_of s) command (replies.Refused r) []
    → Adds (by_at n s.levels.commands) (MayLeave command (stance_of s) stage (open_ids n (history lists)) (replies.Refused r)) lists more
    → MayAnswer tells start more (alone (history lists) (history more)) (by_at n s.levels.commands) (stance_of s) stage command (replies.Refused r) → Acted tells start (by_at n s.levels.commands) (stance_of s) (stance_of s') stage command (replies.Refused r) lists more
acted_stopped {tells = tells} start n s s' stage command r lists more goes same apart free alone_ends fitting adds allowed =
    let by = by_at n s.levels.commands in record {
      grows = goes.grows;
      added = [];
      own = goes.own;
      each = tt;
      fitting = fitting;
      multis = [];
      own_multi = goes.multis ∙ sym (append-nil (own_multis n lists));
      each_multi = tt;
      fitting_multi = no_multis start lists more by command (replies.Refused r) alone_ends;
      adds = adds;
      allowed = any_answer tells start lists more by (stance_of s) stage command (replies.Refused r) alone_ends allowed;
      standing = ap (λ (b : Bool). then_some b r) apart ∙ sym free;
      left = refused_leaves (stance_of s) s.levels.commands command r ∙ sym (ap levels.stance_of same);
    }

-- ---- an abort

-- it goes on behind an abort and an undo that were begun
pub abort_free : (stage : Stage) → may_be_recorded stage ≡ false → held_by commands.Abort (pending_in stage) ≡ None
abort_free stages.Clear q = refl
abort_free (stages.Logged number) q = absurd (false≢true (sym q))
abort_free (stages.Settling steps) q = absurd (false≢true (sym q))
abort_free stages.Aborting q = refl
abort_free stages.Undoing q = refl

-- and not behind a commit
pub abort_held : (stage : Stage) → may_be_recorded stage ≡ true → (pending_in stage ≡ Some refusals.CommitPending) × (held_by commands.Abort (pending_in stage) ≡ Some refusals.CommitPending)
abort_held stages.Clear q = absurd (false≢true q)
abort_held (stages.Logged number) q = (refl, refl)
abort_held (stages.Settling steps) q = (refl, refl)
abort_held stages.Aborting q = absurd (false≢true q)
abort_held stages.Undoing q = absurd (false≢true q)

fault_answer : (tells : Bool) (start : Start) (lists : List (List Entry)) (span : RoundSpan) (by : By) (s : Stance) (stage : Stage) (r : Refusal) → IsTrue (is_some (top_level s.levels)) → IsXactFault lists by r → MayAnswer tells start lists span by s stage commands.Abort (replies.Refused r)
fault_answer tells start lists span by s stage (refusals.DiskFault (locks.Xact bank)) some c = (some, c)
fault_answer tells start lists span by s stage _ some c = absurd c

fault_else : (lists : List (List Entry)) (by : By) (r : Refusal) → IsXactFault lists by r → is_by_standing r ≡ false
fault_else lists by (refusals.DiskFault (locks.Xact bank)) c = refl
fault_else lists by _ c = absurd c

pub fault_held : (start : Start) (lists : List (List Entry)) (by : By) (command : Command) (new : Stage) (r : Refusal) → IsXactFault lists by r → IsHeldBehind start lists command (replies.Refused r) new
fault_held start lists by command new (refusals.DiskFault (locks.Xact bank)) c = tt
fault_held start lists by command new _ c = absurd c

fault_stage : (lists : List (List Entry)) (by : By) (old new : Stage) (r : Refusal) → new ≡ stages.Aborting → IsXactFault lists by r → LeavesStage commands.Abort (replies.Refused r) old new
fault_stage lists by old new (refusals.DiskFault (locks.Xact bank)) is c = is
fault_stage lists by old new _ is c = absurd c

-- ---- the calls

-- a session with an open id has a level, and its top
abbrev top_open : Session → ℕ
top_open s = slice_index_or s.levels.open_ids.items 0 0

levelled : (h : List Event) (s : Session) → Nest h s.levels.open_ids.items s.levels.level_ids.items → 1 ≤ length s.levels.open_ids.items → top_level (stance_of s).levels ≡ Some (top_open s)
levelled h s nest some =
    let opened = s.levels.open_ids.items in
    let top : ℕ = slice_index_or opened 0 0 in
    first_level h opened s.levels.level_ids.items s.levels.unnamed top (drop 1 opened) nest (head_tail opened 0 some)

-- a transaction without an id has no level with one
no_names : (h : List Event) (opened named : List ℕ) → Nest h opened named → opened ≡ [] → named ≡ []
no_names h opened [] nest none = refl
no_names h opened (t ∷ named) nest none = absurd (let l : length opened ≡ 0 = ap length none in let m : length opened ≡ suc (length nest.0) = ap length nest.1 in omega arith)

-- what it adds from each stage, by what the whole command may
module _ (start : Start) (v : Knowledge) (n : ℕ) (s : Session) (a : IsAt start v n s) {T : Type 0} (r : Result T Refusal) where
  abbrev opened_now : List ℕ
  opened_now = open_ids n (history v.seen)

  -- a commit of which no end was begun
  pub commit_leaves : 1 ≤ length s.levels.open_ids.items → s.stage ≡ stages.Clear → (lock : ℕ) (kind : Kind) → MayAdd (IsOfCommit s.levels.open_ids.items) (Unit {0}) (IsToldBy r) lock kind
      → MayLeave commands.Commit (stance_of s) s.stage opened_now (reply_of (λ x. replies.Done) r) lock kind
  commit_leaves some clear =
      let level = levelled (history v.seen) s a.stands.nest some in
      may_wider (IsOfCommit s.levels.open_ids.items) (IsRecordBy commands.Commit (stance_of s) s.stage opened_now) (Unit {0}) (IsTrue (flushes commands.Commit (stance_of s) s.stage)) (IsToldBy r) (λ q. reply_of (λ x. replies.Done) r ≡ replies.Refused q)
      (λ rec of. (unrecorded (stance_of s) (top_open s) s.stage level clear, subst (λ (l : List ℕ). IsOfCommit l rec) (sym a.stands.opened) of))
      (λ u. unflushed (stance_of s) (top_open s) s.stage level (subst (λ (z : Stage). IsUnflushed z) (sym clear) tt)) (told_reply r)

  -- one whose record stands
  pub logged_leaves : (number : ℕ) → s.stage ≡ stages.Logged number → (lock : ℕ) (kind : Kind) → MayAdd (λ rec. ⊥) (Unit {0}) (IsToldBy r) lock kind → MayLeave commands.Commit (stance_of s) s.stage opened_now (reply_of (λ x. replies.Done) r) lock kind
  logged_leaves number is =
      may_wider (λ rec. ⊥) (IsRecordBy commands.Commit (stance_of s) s.stage opened_now) (Unit {0}) (IsTrue (flushes commands.Commit (stance_of s) s.stage)) (IsToldBy r) (λ q. reply_of (λ x. replies.Done) r ≡ replies.Refused q)
      (λ rec m. absurd m) (λ u. subst (λ (z : Stage). IsTrue (is_unflushed (stance_of s) z)) (sym is) refl) (told_reply r)

  -- an abort
  pub abort_leaves : (lock : ℕ) (kind : Kind) → MayAdd (IsRecordBy commands.Abort (stance_of s) s.stage s.levels.open_ids.items) ⊥ (IsToldBy r) lock kind → MayLeave commands.Abort (stance_of s) s.stage opened_now (reply_of (λ x. replies.Done) r) lock kind
  abort_leaves =
      may_wider (IsRecordBy commands.Abort (stance_of s) s.stage s.levels.open_ids.items) (IsRecordBy commands.Abort (stance_of s) s.stage opened_now) ⊥ (IsTrue (flushes commands.Abort (stance_of s) s.stage)) (IsToldBy r) (λ q. reply_of (λ x. replies.Done) r ≡ replies.Refused q)
      (λ rec m. subst (λ (l : List ℕ). IsRecordBy commands.Abort (stance_of s) s.stage l rec) (sym a.stands.opened) m) (λ m. absurd m) (told_reply r)

module _ {H L P : Type 0} {l : logs.Ghosts L} {p : disks.Ghosts P} (hall : Hall H (Part L P l p) Entry Start) where
  -- a commit that is over, or that stopped
  pub ran_commit : (u new : Caller L P l p) (r : Result (Unit {0}) Refusal) → IsOf hall new.pass → MayCall (start_of hall) (view u.pass) u.number u.session → MayCall (start_of hall) (view new.pass) new.number new.session → new.number ≡ u.number → 1 ≤ length u.session.levels.open_ids.items → held_by commands.Commit (pending_in u.session.stage) ≡ None
      → Adds (by_at u.number u.session.levels.commands) (MayLeave commands.Commit (stance_of u.session) u.session.stage (open_ids u.number (history (view u.pass).seen)) (reply_of (λ x. replies.Done) r)) (view u.pass).seen (view new.pass).seen
      → Commits (start_of hall) u.number u.session new.session (view u.pass).seen (view new.pass).seen r → Ran hall u.session.levels.commands commands.Commit (reply_of (λ x. replies.Done) r) u new
  ran_commit u new (Ok x) own was may number some free adds f = record {
    own = own;
    may = may;
    acted = acted_finished (start_of hall) u.number ends.Commit (history (view u.pass).seen) u.session new.session u.session.stage (view u.pass).seen (view new.pass).seen was.ready.at.stands.nest some free f adds;
    stage = f.stage;
    held = tt;
    still = λ q is. not_standing None q refl is;
    making = kept_making commands.Commit replies.Done (has_more_multis u.number (view u.pass).seen (view new.pass).seen) u.session.making new.session.making refl f.making;
    count = (f.count, number);
  }
  ran_commit u new (Err r) own was may number some free adds c =
      let by = by_at u.number u.session.levels.commands in
      let h : List Event = history (view u.pass).seen in
      record {
        own = own;
        may = may;
        acted = acted_stopped (start_of hall) u.number u.session new.session u.session.stage commands.Commit r (view u.pass).seen (view new.pass).seen c.0 c.1 (stops_else (start_of hall) (view new.pass).seen by u.session.stage new.session.stage r c.2)
            (not_refused ends.Commit (stance_of u.session) u.session.stage (some_list (stance_of u.session).levels (has_top (stance_of u.session).levels (top_open u.session) (levelled h u.session was.ready.at.stands.nest some))) free) refl refl adds
            (stops_answer p.tells (start_of hall) (view new.pass).seen (alone h (history (view new.pass).seen)) by (stance_of u.session) (top_open u.session) u.session.stage new.session.stage r (levelled h u.session was.ready.at.stands.nest some) c.2);
        stage = stops_stage (start_of hall) (view new.pass).seen by u.session.stage new.session.stage r c.2;
        held = stops_held (start_of hall) (view new.pass).seen by u.session.stage new.session.stage r c.2;
        still = λ q is. not_standing (by_standing (replies.Refused r)) q (else_none r (stops_else (start_of hall) (view new.pass).seen by u.session.stage new.session.stage r c.2)) is;
        making = kept_making commands.Commit (replies.Refused r) (has_more_multis u.number (view u.pass).seen (view new.pass).seen) u.session.making new.session.making refl c.3;
        count = (ap (λ (z : plain.Session). z.commands) c.1, number);
      }

  -- an abort that is over, or that a fault stopped
  pub ran_abort : (u new : Caller L P l p) (r : Result (Unit {0}) Refusal) → IsOf hall new.pass → MayCall (start_of hall) (view u.pass) u.number u.session → MayCall (start_of hall) (view new.pass) new.number new.session → new.number ≡ u.number → 1 ≤ length u.session.levels.open_ids.items → may_be_recorded u.session.stage ≡ false
      → Adds (by_at u.number u.session.levels.commands) (MayLeave commands.Abort (stance_of u.session) u.session.stage (open_ids u.number (history (view u.pass).seen)) (reply_of (λ x. replies.Done) r)) (view u.pass).seen (view new.pass).seen
      → Aborts u.number u.session new.session (view u.pass).seen (view new.pass).seen r → Ran hall u.session.levels.commands commands.Abort (reply_of (λ x. replies.Done) r) u new
  ran_abort u new (Ok x) own was may number some clear adds f = record {
    own = own;
    may = may;
    acted = acted_finished (start_of hall) u.number ends.Abort (history (view u.pass).seen) u.session new.session u.session.stage (view u.pass).seen (view new.pass).seen was.ready.at.stands.nest some (abort_free u.session.stage clear) f adds;
    stage = f.stage;
    held = tt;
    still = λ q is. not_standing None q refl is;
    making = kept_making commands.Abort replies.Done (has_more_multis u.number (view u.pass).seen (view new.pass).seen) u.session.making new.session.making refl f.making;
    count = (f.count, number);
  }
  ran_abort u new (Err r) own was may number some clear adds c =
      let by = by_at u.number u.session.levels.commands in
      let h : List Event = history (view u.pass).seen in
      record {
        own = own;
        may = may;
        acted = acted_stopped (start_of hall) u.number u.session new.session u.session.stage commands.Abort r (view u.pass).seen (view new.pass).seen c.0 c.1 (fault_else (view new.pass).seen by r c.3)
            (not_refused ends.Abort (stance_of u.session) u.session.stage (some_list (stance_of u.session).levels (has_top (stance_of u.session).levels (top_open u.session) (levelled h u.session was.ready.at.stands.nest some))) (abort_free u.session.stage clear)) refl refl adds
            (fault_answer p.tells (start_of hall) (view new.pass).seen (alone h (history (view new.pass).seen)) by (stance_of u.session) u.session.stage r (some_top (stance_of u.session) (top_open u.session) (levelled h u.session was.ready.at.stands.nest some)) c.3);
        stage = fault_stage (view new.pass).seen by u.session.stage new.session.stage r c.2 c.3;
        held = fault_held (start_of hall) (view new.pass).seen by commands.Abort new.session.stage r c.3;
        still = λ q is. not_standing (by_standing (replies.Refused r)) q (else_none r (fault_else (view new.pass).seen by r c.3)) is;
        making = kept_making commands.Abort (replies.Refused r) (has_more_multis u.number (view u.pass).seen (view new.pass).seen) u.session.making new.session.making refl c.4;
        count = (ap (λ (z : plain.Session). z.commands) c.1, number);
      }

  -- a transaction without an id
  pub ran_idless : (how : XactEnd) (u new : Caller L P l p) → IsOf hall u.pass → MayCall (start_of hall) (view u.pass) u.number u.session → u.session.levels.open_ids.items ≡ [] → 1 ≤ length (stance_of u.session).levels → held_by (end_command how) (pending_in u.session.stage) ≡ None → IsClosed u new
      → Ran hall u.session.levels.commands (end_command how) replies.Done u new
  ran_idless how u new own was none some free c = record {
    own = subst (λ z. IsOf hall z) (sym c.pass) own;
    may = subst (λ (z : (Knowledge × ℕ) × Session). MayCall (start_of hall) z.0.0 z.0.1 z.1) (λ j. ((view (sym c.pass j), sym c.number j), sym is j)) closed_may;
    acted = acted_nothing (start_of hall) lists (view new.pass).seen u.number u.session.levels.commands (stance_of u.session) (stance_of new.session) u.session.stage (end_command how) replies.Done (ap (λ z. (view z).seen) c.pass)
        (fitting_none how by (stance_of u.session) (ap top_level (ap (λ (t : List ℕ). levels_of t u.session.levels.unnamed) named) ∙ top_of_nameless u.session.levels.unnamed))
        (untouched how)
        (allowed_done p.tells (start_of hall) lists (alone h h) by (stance_of u.session) u.session.stage how levelled)
        (sym (not_refused how (stance_of u.session) u.session.stage some free))
        (left_done how (stance_of u.session) u.session.levels.commands [] ∙ stance);
    stage = left_clear how;
    held = tt;
    still = λ q is. not_standing None q refl is;
    making = plain_making (end_command how) replies.Done (has_more_multis u.number (view u.pass).seen (view new.pass).seen) u.session.making new.session.making (untouched how) c.making;
    count = (ap (λ (z : plain.Session). z.commands) c.levels, c.number);
  }
    where
      lists : List (List Entry)
      lists = (view u.pass).seen

      h : List Event
      h = history lists

      by : By
      by = by_at u.number u.session.levels.commands

      t : Session
      t = record { levels = record u.session.levels { unnamed = 0 }; stage = stages.Clear; unlinked = u.session.unlinked; making = u.session.making }

      is : new.session ≡ t
      is = λ j. record { levels = c.levels j; stage = c.stage j; unlinked = c.unlinked j; making = c.making j }

      named : u.session.levels.level_ids.items ≡ []
      named = no_names h u.session.levels.open_ids.items u.session.levels.level_ids.items was.ready.at.stands.nest none

      levelled : (stance_of u.session).levels ≢ []
      levelled e = absurd (let a : length (stance_of u.session).levels ≡ 0 = ap length e in omega arith)

      stance : record (stance_of u.session) { levels = [] } ≡ stance_of new.session
      stance = (λ j. record { levels = levels_of (sym named j) 0; snaps = map told_of u.session.levels.registered.items }) ∙ sym (ap stance_of is)

      left_clear : (how : XactEnd) → LeavesStage (end_command how) replies.Done u.session.stage new.session.stage
      left_clear ends.Commit = c.stage
      left_clear ends.Abort = c.stage

      no_top : (top : ℕ) (subs : List ℕ) → [] ≡ top ∷ subs → ⊥
      no_top top subs e = cc

      contains_none : (id : ℕ) → Contains [] id → ⊥
      contains_none id k = contains_has [] id k

      closed_may : MayCall (start_of hall) (view u.pass) u.number t
      closed_may = let a = was.ready.at in record {
        ready = record {
          free = was.ready.free;
          at = record {
            base = a.base;
            before = a.before;
            kept = a.kept;
            name = a.name;
            known = a.known;
            wide = a.wide;
            turns = a.turns;
            stands = record {
              opened = a.stands.opened;
              ascend = a.stands.ascend;
              nest = a.stands.nest;
              depth = (let d = a.stands.depth in omega arith);
              turn = a.stands.turn;
              live = a.stands.live;
              snaps = a.stands.snaps;
            };
            clear = λ q top subs appended opened. no_top top subs (sym none ∙ (sym a.stands.opened ∙ opened));
            unaborted = λ q id k. absurd (contains_none id (subst (λ (o : List ℕ). Contains o id) none k));
            filed = a.filed;
            makes = a.makes;
          };
        };
        stage = λ id state k asked. contains_none id (subst (λ (o : List ℕ). Contains o id) none k);
      }
