-- A trim, step by step.
use Rattle.std.proofs.lemmas.Option.{slice_get_within}
use Rattle.std.proofs.Common.{Contains, ◌≡◌, ⊎_elim, inl, inr, ℕ, Bool, None, IsTrue, append-nil, ◌+◌, ◌-◌, ◌<◌, ◌≤◌, true, List, [], Result, Ok, Err, IfOk, IfErr, MatchResult, length, take_all, refl, sym, ap, subst, ◌∙◌, arith}
use Rattle.disk_core.specs.declared.log_disk.LogDisk as logs
use Rattle.disk_core.specs.declared.page_disk.PageDisk as disks
use Rattle.hall.specs.declared.hall.Hall.{Hall}
use Rattle.hall.specs.Calls.{start_of, view}
use Rattle.notes.specs.Lists.{Grows, at}
use Rattle.tx_events.proofs.Horizons.{xmin_at}
use Rattle.tx_events.proofs.IdOrder.{next_full}
use Rattle.proc_table.proofs.Bounds.{full_from}
use Rattle.tx_events.specs.Base.{IsBase}
use Rattle.tx_events.specs.History.{IsLegal}
use Rattle.tx_events.specs.Horizon.{oldest_id, oldest_xmin}
use Rattle.tx_events.specs.Running.{open_ids}
use Rattle.tx_events.specs.Snapshots.{latest, snapshot_xmax}
use Rattle.tx_events.specs.declared.event.Event.{Event}
use Rattle.tx_events.specs.declared.event.Event.TheVariants as events
use Rattle.tx_events.specs.declared.record.Counters.{Counters}
use Rattle.tx_events.specs.declared.event.By.{By}
use Rattle.tx_events.specs.declared.record.Rec.{Rec}
use Rattle.tx_events.specs.declared.record.Rec.TheVariants as records
use Rattle.tx_events.specs.declared.refusal.Lock.{Lock}
use Rattle.tx_events.specs.declared.refusal.Lock.TheVariants as locks
use Rattle.tx_events.specs.declared.refusal.Refusal.{Refusal}
use Rattle.tx_events.specs.declared.refusal.Refusal.TheVariants as refusals
use Rattle.tx_model.specs.declared.command.Command.TheVariants as commands
use Rattle.tx_model.specs.declared.reply.Reply.{Reply}
use Rattle.tx_model.specs.declared.reply.Reply.TheVariants as replies
use Rattle.tx_model.specs.Stance.{Stance}
use Rattle.tx_core.specs.declared.entry.Entry.{Entry}
use Rattle.tx_core.specs.declared.entry.Kind.{Kind}
use Rattle.tx_core.specs.declared.entry.Kind.TheVariants as kinds
use Rattle.tx_core.specs.declared.entry.Start.{Start}
use Rattle.tx_core.specs.Entries.{appended, history, records_of}
use Rattle.tx_core.specs.Locks.{IsPageLock, log_lock, members_lock}
use Rattle.tx_core.specs.CutsFollow.{IsTruncated}
use Rattle.tx_core.proofs.Lasting.{history_grows, stands_grows}
use Rattle.tx_core.specs.RecordsFollow.{IsMultiAnnounced, IsOldestAnnounced}
use Rattle.tx_core.proofs.Growing.{begins_filter_map, contains_begins, slice_get_begins}
use Rattle.tx_core.proofs.StopLimits.{found_announced}
use Rattle.engine_parts.specs.declared.part.Part.{Part}
use Rattle.engine_parts.specs.declared.session.Caller.{Caller}
use Rattle.engine_parts.specs.declared.session.Session.{Session}
use Rattle.engine_parts.specs.declared.session.Stage.{Stage}
use Rattle.engine_parts.specs.Adding.{Adds, IsPlain, IsToldBy, IsTruncation, MayLeave}
use Rattle.engine_parts.specs.Answers.{MayAnswerAny, reply_of}
use Rattle.engine_parts.specs.Standing.{asks_volume}
use Rattle.life_law.specs.Refused.{by_standing}
use Rattle.engine_parts.specs.Calls.{IsCounted, IsHeldBehind, MayStep, Ran, next_command}
use Rattle.engine_parts.specs.Faults.{flush_fault_by, look_of}
use Rattle.engine_parts.specs.Holds.{Knowledge, Section}
use Rattle.engine_parts.specs.Sessions.{IsAt, by_at, stance_of}
use Rattle.engine_parts.proofs.Adding.{adds_nothing, may_cut, plain_wider}
use Rattle.engine_parts.proofs.Sectioning.{shared_adds}
use Rattle.log_sections.specs.LogSections.{FlushSection, IsAppendRefused, IsFlushRefused, IsFlushedPast, IsTruncationOf, StandsUnder, TruncationSection}
use Rattle.multi_banks.proofs.Later.{grows_same}
use Rattle.xact_freezes.specs.Trims.{HasFlushed, IsCutMet, IsOfBank, IsTrimMet, MayTrim, WasOldestXmin}
use Rattle.xact_freezes.specs.Visits.{Visited}
use Rattle.xact_freezes.proofs.Going.{visited_then, visited_wider}
use Rattle.xact_freezes.proofs.Ranning.{ran_multi}

-- ---- what a step adds

pub trim_wider : {T U : Type 0} (first : Result T Refusal) (result : Result U Refusal) → ((r : Refusal) → IsToldBy first r → IsToldBy result r) → (lock : ℕ) (kind : Kind) → MayTrim first lock kind → MayTrim result lock kind
trim_wider first result f lock (kinds.Append rec) m = m
trim_wider first result f lock (kinds.Flush to) m = m
trim_wider first result f lock (kinds.Forget number) m = absurd m
trim_wider first result f lock (kinds.LogFault asked count) m = (m.0, f _ m.1)
trim_wider first result f lock (kinds.Fault callers changes cut count) m = (m.0, m.1, f _ m.2, m.3)
trim_wider first result f lock (kinds.Cut page) m = m
trim_wider first result f lock _ m = tt

pub plain_trims : {T : Type 0} (result : Result T Refusal) (lock : ℕ) (kind : Kind) → IsPlain lock kind → MayTrim result lock kind
plain_trims result lock kind m = may_cut true IsTruncation (Unit {0}) (IsToldBy result) lock kind (plain_wider IsTruncation (Unit {0}) (IsToldBy result) lock kind m)

-- the reply tells what the result does
told_reply : {T : Type 0} (result : Result T Refusal) (r : Refusal) → IsToldBy result r → reply_of (λ x. replies.Done) result ≡ replies.Refused r
told_reply (Ok x) r told = absurd told
told_reply (Err e) r told = ap replies.Refused told

pub trim_leaves : (s : Stance) (stage : Stage) (opened : List ℕ) {T : Type 0} (result : Result T Refusal) (lock : ℕ) (kind : Kind) → MayTrim result lock kind → MayLeave commands.Trim s stage opened (reply_of (λ x. replies.Done) result) lock kind
trim_leaves s stage opened result lock (kinds.Append rec) m = m
trim_leaves s stage opened result lock (kinds.Flush to) m = refl
trim_leaves s stage opened result lock (kinds.Forget number) m = absurd m
trim_leaves s stage opened result lock (kinds.LogFault asked count) m = (m.0, told_reply result _ m.1)
trim_leaves s stage opened result lock (kinds.Fault callers changes cut count) m = (m.0, m.1, told_reply result _ m.2, m.3)
trim_leaves s stage opened result lock (kinds.Cut page) m = m
trim_leaves s stage opened result lock _ m = tt

-- a record, or none
pub append_trims : (start : Start) (v w : Knowledge) (by : By) (s : Session) (rec : Rec) (result : Result ℕ Refusal) → IsTruncation rec → IsAt start v by.session s → TruncationSection start by rec v w result → {T : Type 0} (out : Result T Refusal) → Adds by (MayTrim out) v.seen w.seen
append_trims start v w by s rec (Ok number) t a section out = shared_adds start v w log_lock (record { by = by; kind = kinds.Append rec }) by s (MayTrim out) (omega arith) a section refl t
append_trims start v w by s rec (Err r) t a section out = shared_adds start v w log_lock (look_of by) by s (MayTrim out) (omega arith) a section refl tt

-- a flush, a fault that is told, or a look
pub flush_trims : {T : Type 0} (start : Start) (v w : Knowledge) (by : By) (s : Session) (number : ℕ) (result : Result T Refusal) → IsAt start v by.session s → FlushSection start by number v w result → Adds by (MayTrim result) v.seen w.seen
flush_trims {T} start v w by s number (Ok x) a section =
    ⊎_elim
    (λ (f : (to : ℕ) × (number < to) × Section start log_lock (record { by = by; kind = kinds.Flush to }) v w). shared_adds start v w log_lock (record { by = by; kind = kinds.Flush f.0 }) by s (MayTrim {T = T} (Ok x)) (omega arith) a f.2 refl tt)
    (λ (looked : Section start log_lock (look_of by) v w). shared_adds start v w log_lock (look_of by) by s (MayTrim {T = T} (Ok x)) (omega arith) a looked refl tt)
    section
flush_trims {T} start v w by s number (Err refusals.LogFault) a section =
    shared_adds start v w log_lock (flush_fault_by by section.0) by s (MayTrim {T = T} (Err refusals.LogFault)) (omega arith) a section.1 refl (refl, refl)
flush_trims {T} start v w by s number (Err r) a section = shared_adds start v w log_lock (look_of by) by s (MayTrim {T = T} (Err r)) (omega arith) a section refl tt

pub is_members_lock : (start : Start) (bank : ℕ) → bank < start.banks → IsPageLock start (members_lock bank)
is_members_lock start bank inside = record { from = omega arith; to = omega arith }

-- ---- steps

module _ {H L P : Type 0} {l : logs.Ghosts L} {p : disks.Ghosts P} (hall : Hall H (Part L P l p) Entry Start) (banks : ℕ) where
  -- one behind another that was done
  pub trim_then : {T U : Type 0} (x : T) (result : Result U Refusal) (old mid new : Caller L P l p) → Visited hall banks (MayTrim {T = T} (Ok x)) [] old mid → Visited hall banks (MayTrim result) [] mid new → Visited hall banks (MayTrim result) [] old new
  trim_then {T} {U} x result old mid new a b =
      visited_then hall banks (MayTrim {T = T} (Ok x)) (MayTrim result) (MayTrim result) [] [] old mid new (λ lock kind m. trim_wider {T = T} (Ok x) result (λ r told. absurd told) lock kind m) (λ lock kind m. m) a b

  -- one behind a look
  pub look_then : {U : Type 0} (result : Result U Refusal) (old mid new : Caller L P l p) → Visited hall banks IsPlain [] old mid → Visited hall banks (MayTrim result) [] mid new → Visited hall banks (MayTrim result) [] old new
  look_then result old mid new a b = visited_then hall banks IsPlain (MayTrim result) (MayTrim result) [] [] old mid new (plain_trims result) (λ lock kind m. m) a b

  -- none
  pub visited_still : (May : ℕ → Kind → Type 0) (old : Caller L P l p) → MayStep hall banks old → Visited hall banks May [] old old
  visited_still May old m = record {
    step = m;
    went = record {
      grows = grows_same (view old.pass).seen;
      own = refl;
      multis = sym (append-nil _);
      asks = λ id state asked. asked;
    };
    adds = adds_nothing (by_at old.number old.session.levels.commands) May (view old.pass).seen;
    session = refl;
    number = refl;
  }

-- ---- the record

-- it is among those of the log
pub stands_below : (start : Start) (lists : List (List Entry)) (by : By) (rec : Rec) (number : ℕ) → StandsUnder start lists by rec number → (start.from ≤ number) × (number < start.from + length (records_of lists))
stands_below start lists by rec number i =
    let is = i.numbered in
    let inside = slice_get_within (records_of lists) i.place (by, rec) i.stands in
    (omega (arith, is), omega (arith, is, inside))

-- and on disk behind a flush past its number
pub flushed_so : (start : Start) (lists more : List (List Entry)) (by : By) (rec : Rec) (number : ℕ) → StandsUnder start lists by rec number → Grows lists more → IsFlushedPast more number → HasFlushed start more by rec
flushed_so start lists more by rec number i g past = record {
  place = i.place;
  to = past.0;
  stands = slice_get_begins (records_of lists) (records_of more) i.place (by, rec) (begins_filter_map appended (at lists log_lock) (at more log_lock) (g.begins log_lock)) i.stands;
  past = let is = i.numbered in let far = past.1 in omega (arith, is, far);
  flushed = past.2;
}

-- ---- results

pub ok_maps : {T E : Type 0} (result : Result T E) (A B : Type 0) → (A → B) → IfOk result (λ x. A) → IfOk result (λ x. B)
ok_maps (Ok x) A B f m = f m
ok_maps (Err e) A B f m = tt

pub flush_has : {T : Type 0} (result : Result T Refusal) (A B : Type 0) (R : Refusal → Type 0) → (A → B) → MatchResult result (λ x. A) R → IfOk result (λ x. B)
flush_has (Ok x) A B R f m = f m
flush_has (Err r) A B R f m = tt

pub flush_met : {T : Type 0} (start : Start) (lists : List (List Entry)) (by : By) (number : ℕ) (A : T → Type 0) (result : Result T Refusal) → MatchResult result A (IsFlushRefused start lists by number) → IfErr result (IsTrimMet start lists by)
flush_met start lists by number A (Ok x) m = tt
flush_met start lists by number A (Err refusals.LogFault) m = (m.0, (m.1.0, m.1.1))
flush_met start lists by number A (Err (refusals.LogDown down)) m = m.0
flush_met start lists by number A (Err r) m = absurd m

pub append_met : (start : Start) (lists : List (List Entry)) (by : By) (r : Refusal) → IsAppendRefused start lists r → IsTrimMet start lists by r
append_met start lists by (refusals.LogDown down) m = m
append_met start lists by refusals.Full m = tt
append_met start lists by refusals.Memory m = tt
append_met start lists by r m = absurd m

-- a cut that was refused stops the trim
pub cut_met : {T : Type 0} (start : Start) (lists : List (List Entry)) (by : By) (result : Result T Refusal) → IfErr result (IsCutMet lists by) → IfErr result (IsTrimMet start lists by)
cut_met start lists by (Ok x) met = tt
cut_met start lists by (Err (refusals.DiskFault lock)) met = met
cut_met start lists by (Err _) met = absurd met

-- ---- what is announced

pub trim_record : (start : Start) (lists more : List (List Entry)) (oldest multi offset : ℕ) → Grows lists more → oldest ≡ oldest_id start.base.oldest (history lists) → IsMultiAnnounced start more multi offset → IsTruncationOf start more (records.Truncate oldest multi offset)
trim_record start lists more oldest multi offset g is first = record {
  oldest = oldest;
  multi = multi;
  offset = offset;
  is = refl;
  id = later (subst (IsOldestAnnounced start lists) (sym is) (found_announced start.base.oldest (history lists)));
  first = first;
}
  where
    later : IsOldestAnnounced start lists oldest → IsOldestAnnounced start more oldest
    later a = ⊎_elim inl (λ (z : (by : By) × Contains (history lists) (events.Oldest by oldest)). inr (z.0, contains_begins (history lists) (history more) _ (history_grows lists more g) z.1)) a

-- ---- the answer

is_trimmable : (s : Stance) (stage : Stage) (lock : Lock) → IsOfBank lock → IsTrue (asks_volume commands.Trim s stage lock)
is_trimmable s stage (locks.Xact bank) i = refl
is_trimmable s stage (locks.Subtrans bank) i = refl
is_trimmable s stage (locks.Offsets bank) i = refl
is_trimmable s stage (locks.Members bank) i = refl
is_trimmable s stage lock i = absurd i

-- what a reply of a trim needs
pub record IsTrimFit (tells : Bool) (start : Start) (begun lists : List (List Entry)) (by : By) (s : Stance) (stage now : Stage) (reply : Reply) : Type 0 where
  pub answer : MayAnswerAny tells start begun lists by s stage commands.Trim reply
  pub held : IsHeldBehind start lists commands.Trim reply now
  pub free : by_standing reply ≡ None

pub trim_refused : (tells : Bool) (start : Start) (begun lists : List (List Entry)) (by : By) (s : Stance) (stage now : Stage) (r : Refusal) → IsTrimMet start lists by r → IsTrimFit tells start begun lists by s stage now (replies.Refused r)
trim_refused tells start begun lists by s stage now refusals.Memory m = record { answer = refl; held = tt; free = refl }
trim_refused tells start begun lists by s stage now refusals.Full m = record { answer = refl; held = tt; free = refl }
trim_refused tells start begun lists by s stage now refusals.LogFault m = record { answer = (refl, m.0); held = (m.1.0, m.1.1, tt); free = refl }
trim_refused tells start begun lists by s stage now (refusals.LogDown down) m = record { answer = (refl, m); held = tt; free = refl }
trim_refused tells start begun lists by s stage now (refusals.DiskFault lock) m = record { answer = (is_trimmable s stage lock m.0, m.1); held = tt; free = refl }
trim_refused tells start begun lists by s stage now r m = absurd m

module _ {H L P : Type 0} {l : logs.Ghosts L} {p : disks.Ghosts P} (hall : Hall H (Part L P l p) Entry Start) where
  pub trim_ran : {banks : ℕ} (result : Result (Unit {0}) Refusal) (old u new : Caller L P l p) → IsCounted old u → Visited hall banks (MayTrim result) [] u new → IfErr result (IsTrimMet (start_of hall) (view new.pass).seen (by_at u.number u.session.levels.commands)) → Ran hall (next_command old) commands.Trim (reply_of (λ x. replies.Done) result) old new
  trim_ran {banks} (Ok x) old u new c v m =
      let opened = open_ids u.number (history (view u.pass).seen) in
      ran_multi hall [] old u new commands.Trim replies.Done c
      (visited_wider hall banks (MayTrim {T = Unit {0}} (Ok x)) (MayLeave commands.Trim (stance_of u.session) u.session.stage opened replies.Done) [] u new (trim_leaves (stance_of u.session) u.session.stage opened {T = Unit {0}} (Ok x)) v)
      tt refl refl tt refl refl refl refl tt refl
  trim_ran {banks} (Err r) old u new c v m =
      let opened = open_ids u.number (history (view u.pass).seen) in
      let fit = trim_refused p.tells (start_of hall) (view u.pass).seen (view new.pass).seen (by_at u.number u.session.levels.commands) (stance_of u.session) u.session.stage new.session.stage r m in
      ran_multi hall [] old u new commands.Trim (replies.Refused r) c
      (visited_wider hall banks (MayTrim {T = Unit {0}} (Err r)) (MayLeave commands.Trim (stance_of u.session) u.session.stage opened (replies.Refused r)) [] u new (trim_leaves (stance_of u.session) u.session.stage opened {T = Unit {0}} (Err r)) v)
      tt refl refl fit.answer fit.free refl refl refl fit.held fit.free

-- ---- what stays

pub has_flushed_later : (start : Start) (lists more : List (List Entry)) (by : By) (rec : Rec) → Grows lists more → HasFlushed start lists by rec → HasFlushed start more by rec
has_flushed_later start lists more by rec g f = record {
  place = f.place;
  to = f.to;
  stands = slice_get_begins (records_of lists) (records_of more) f.place (by, rec) (begins_filter_map appended (at lists log_lock) (at more log_lock) (g.begins log_lock)) f.stands;
  past = f.past;
  flushed = stands_grows lists more log_lock (kinds.Flush f.to) g f.flushed;
}

pub is_truncated : (start : Start) (lists : List (List Entry)) (by : By) (oldest multi offset : ℕ) → HasFlushed start lists by (records.Truncate oldest multi offset) → IsTruncated start lists oldest multi offset
is_truncated start lists by oldest multi offset f = record { session = by.session; flushed = (f.place, f.to, by, refl, f.stands, f.past, f.flushed) }

-- no horizon is a special id
pub horizon_from : (base : Counters) (h : List Event) → IsBase base → IsLegal base h → 1 ≤ oldest_xmin base.next h
horizon_from base h b legal =
    let first = full_from base.next b.full in
    let low : 3 ≤ oldest_xmin base.next [] = full_from (snapshot_xmax base.next []) (next_full (latest base.next [])) in
    let up : oldest_xmin base.next [] ≤ oldest_xmin base.next h = xmin_at base [] h legal b.full (omega arith) in
    omega arith

-- the oldest xmin as it is
pub xmin_now : (start : Start) (lists : List (List Entry)) (xmin : ℕ) → xmin ≡ oldest_xmin start.base.next (history lists) → WasOldestXmin start lists xmin
xmin_now start lists xmin is = (length (history lists), omega arith, is ∙ ap (oldest_xmin start.base.next) (sym (take_all (length (history lists)) (history lists) (omega arith))))
