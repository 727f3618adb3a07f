-- What the critical sections of the log need, and leave.
use Rattle.std.proofs.Common.{Contains, Err, Result, IsNone, IsTrue, None, Some, Option, inl, inr, ⊎_elim, ◌⊎◌, ◌≡◌, ℕ, ◌+◌, ◌<◌, ◌≤◌, List, [], ◌∷◌, ◌++◌, drop, refl, sym, ap, subst, ◌∙◌, length, arith, false}
use Rattle.std.specs.List.{slice_get}
use Rattle.std.proofs.lemmas.Bool.{false≢true}
use Rattle.std.proofs.lemmas.List.{length-append, length-map}
use Rattle.std.proofs.lemmas.List.Elements.{filter_map-append}
use Rattle.notes.specs.Lists.{Grows, Knows, at}
use Rattle.notes.proofs.Growing.{at_here}
use Rattle.tx_events.specs.declared.event.By.{By}
use Rattle.tx_events.specs.declared.record.Counters.{Counters}
use Rattle.tx_events.specs.declared.record.Rec.{Rec}
use Rattle.tx_events.specs.declared.refusal.Refusal.{Refusal}
use Rattle.tx_events.specs.After.{after_record, after_records}
use Rattle.tx_events.specs.Base.{IsBase}
use Rattle.tx_events.proofs.PlaceLemmas.{last_at}
use Rattle.tx_core.specs.declared.entry.Entry.{Entry}
use Rattle.tx_core.specs.declared.entry.Kind.TheVariants as kinds
use Rattle.tx_core.specs.declared.entry.Start.{Start}
use Rattle.tx_core.specs.declared.entry.State.TheVariants as states
use Rattle.tx_core.specs.Entries.{IsLinked, appended, history, records_in, records_of, recs_in, session_of, flushed_to}
use Rattle.tx_core.specs.Laws.{StaysBase}
use Rattle.tx_core.specs.Locks.{log_lock}
use Rattle.tx_core.proofs.EventLaws.{commit_record_law}
use Rattle.tx_core.proofs.Growing.{begins_filter_map}
use Rattle.tx_core.proofs.Stepping.{own_asks}
use Rattle.tx_core.specs.RecordsFollow.{counters_after}
use Rattle.disk_core.specs.declared.log_disk.LogDisk as logs
use Rattle.wal_records.specs.Spelling.{IsLawful}
use Rattle.wal_core.specs.declared.refusal.LogRefusal.{LogRefusal}
use Rattle.wal_core.specs.declared.refusal.LogRefusal.TheVariants as refused
use Rattle.wal_core.specs.declared.wal_log.WalLog.{WalLog}
use Rattle.wal_core.specs.Log.{MayAppend, counters_or_none}
use Rattle.wal_core.specs.LogViews.{log_counters, log_next}
use Rattle.wal_core.specs.Opening.{number_fits}
use Rattle.engine_parts.specs.declared.session.Session.{Session}
use Rattle.engine_parts.specs.declared.session.Stage.TheVariants as stages
use Rattle.engine_parts.specs.Holds.{Knowledge, Learns, Leaves, Section}
use Rattle.engine_parts.specs.Faults.{look_of, flush_fault_by}
use Rattle.engine_parts.specs.Law.{MayKeep}
use Rattle.engine_parts.specs.Parts.{IsLogOf}
use Rattle.engine_parts.specs.Sessions.{IsAt, IsReady, IsThe, MayCall, by_at, inner_id}
use Rattle.engine_parts.specs.Stages.{AreUnasked, IsAppendedAt, IsInStage, may_be_aborted, may_be_recorded}
use Rattle.engine_parts.specs.Stand.{IsDownAt}
use Rattle.session_levels.proofs.HeadLemmas.{first_top}
use Rattle.engine_parts.proofs.Leaving.{asks_nothing}
use Rattle.engine_parts.proofs.Logging.{failed_more, recs_same, up_more, failed_here}
use Rattle.tx_core.specs.StaysDown.{IsUp, is_put_down}
use Rattle.tx_core.specs.declared.entry.LogCall.TheVariants as calls
use Rattle.log_sections.specs.LogSections.{FlushRefused, IsAppendRefused, IsCommitOf, IsFlushRefused, IsRefusalOf, StandsUnder}

abbrev pub append_entry : By → Rec → Entry
append_entry by rec = record { by = by; kind = kinds.Append rec }

abbrev pub flush_entry : By → ℕ → Entry
flush_entry by to = record { by = by; kind = kinds.Flush to }

-- the session asked for no state of these ids, as others go on
pub unasked_on : (n : ℕ) (seen lists : List (List Entry)) (ids : List ℕ) → Knows session_of n seen lists → AreUnasked seen n ids → AreUnasked lists n ids
unasked_on n seen lists ids knows a id state c asked = a id state c (own_asks n id state seen lists knows asked)

-- the commit record of what the session has open may be appended
pub may_append_commit : (start : Start) (v : Knowledge) (n : ℕ) (s : Session) (rec : Rec) (e : Entry) → IsAt start v n s → s.stage ≡ stages.Clear → s.unlinked ≡ None → IsCommitOf s.levels.open_ids.items rec → AreUnasked v.seen n s.levels.open_ids.items → StaysBase start v.seen rec → IsUp (at v.seen log_lock) → e ≡ record { by = by_at n s.levels.commands; kind = kinds.Append rec }
    → MayKeep start v.seen log_lock e
may_append_commit start v n s rec e a clear none r unasked base up is =
    let links : (id : ℕ) → Contains r.subs id → (parent : ℕ) × IsLinked start v.seen id parent = λ id k.
    ⊎_elim (λ p. p) (λ t. absurd (subst (λ o. IsThe o id) none t)) (a.filed.linked id (subst (λ (l : List ℕ). Contains (drop 1 l) id) (sym r.ids) k)) in
    subst (MayKeep start v.seen log_lock) (sym (is ∙ ap (λ (z : Rec). record { by = by_at n s.levels.commands; kind = kinds.Append z }) r.is)) (λ lists k knows inside whole.
    commit_record_law start v.seen (by_at n s.levels.commands) r.top r.subs (a.stands.opened ∙ r.ids) (first_top (history v.seen) s.levels.open_ids.items s.levels.level_ids.items r.top r.subs a.stands.nest r.ids) links
    (λ id k asked. unasked id states.Aborted (subst (λ (l : List ℕ). Contains l id) (sym r.ids) k) asked)
    (a.clear (ap may_be_recorded clear)) (λ id k. a.unaborted (ap may_be_aborted clear) id (subst (λ (l : List ℕ). Contains l id) (sym r.ids) k)) (subst (StaysBase start v.seen) r.is base) up lists k knows inside whole (a.turns log_lock))

-- an appended record stands under its number
pub stands_under : (start : Start) (u w : Knowledge) (number : ℕ) (by : By) (rec : Rec) → log_lock < length u.seen → number ≡ start.from + length (recs_in (at u.seen log_lock)) → Leaves start log_lock (append_entry by rec) u w → StandsUnder start w.seen by rec number
stands_under start u w number by rec inside is l =
    let e : Entry = append_entry by rec in
    let es = at u.seen log_lock in
    let grown : at w.seen log_lock ≡ es ++ e ∷ [] = ap (λ (z : List (List Entry)). at z log_lock) l.seen ∙ at_here u.seen log_lock e inside in
    record {
      place = length (records_in es);
      stands = ap (λ (t : List Entry). slice_get (records_in t) (length (records_in es))) grown ∙ (ap (λ (t : List (By × Rec)). slice_get t (length (records_in es))) (filter_map-append appended es (e ∷ [])) ∙ last_at (records_in es) (by, rec));
      numbered = is ∙ ap (λ (k : ℕ). start.from + k) (length-map (records_in es) (λ (r : By × Rec). r.1));
    }

pub numbered : (start : Start) (u w : Knowledge) (n number : ℕ) (by : By) (rec : Rec) → by.session ≡ n → log_lock < length u.seen → number ≡ start.from + length (recs_in (at u.seen log_lock)) → Leaves start log_lock (append_entry by rec) u w → IsAppendedAt start w.seen n rec number
numbered start u w n number by rec own inside is l =
    let i = stands_under start u w number by rec inside is l in
    record { place = i.place; by = by; own = own; stands = i.stands; numbered = i.numbered }

-- the session's commit is pending under the record's number
pub call_recorded : (start : Start) (v u w : Knowledge) (n n' number : ℕ) (s s' : Session) (rec : Rec) → MayCall start v n s → s.stage ≡ stages.Clear → IsCommitOf s.levels.open_ids.items rec → Learns v u → log_lock < length v.seen
    → Leaves start log_lock (record { by = by_at n s.levels.commands; kind = kinds.Append rec }) u w → number ≡ start.from + length (recs_in (at u.seen log_lock)) → s' ≡ record s { stage = stages.Logged number } → n' ≡ n → IsReady start w n' s' → MayCall start w n' s'
call_recorded start v u w n n' number s s' rec m clear r learns inside l is same name ready =
    let long = learns.long in
    let e : Entry = record { by = by_at n s.levels.commands; kind = kinds.Append rec } in
    let asks = asks_nothing start v u w n log_lock e m.ready.at.name learns inside l refl in
    let free : AreUnasked v.seen n s.levels.open_ids.items = subst (IsInStage start v.seen n (inner_id s) s.levels.open_ids.items) clear m.stage in
    record {
      ready = ready;
      stage = subst (λ (z : Session × ℕ). IsInStage start w.seen z.1 (inner_id z.0) z.0.levels.open_ids.items z.0.stage) (λ j. (sym same j, sym name j)) (record {
        top = r.top;
        subs = r.subs;
        ids = r.ids;
        appended = subst (λ (z : Rec). IsAppendedAt start w.seen n z number) r.is (numbered start u w n number (by_at n s.levels.commands) rec refl (omega arith) is l);
        unasked = λ id state c asked. free id state c (asks id state asked);
      });
    }

-- the log was down before, and so it is behind an entry more
pub down_left : (start : Start) (u w : Knowledge) (e : Entry) (down : ℕ) → log_lock < length u.seen → Leaves start log_lock e u w → IsDownAt start (at u.seen log_lock) down → IsDownAt start (at w.seen log_lock) down
down_left start u w e down inside l d = subst (λ (t : List Entry). IsDownAt start t down) (sym (ap (λ (z : List (List Entry)). at z log_lock) l.seen ∙ at_here u.seen log_lock e inside)) (failed_more start (at u.seen log_lock) e down d)

-- the log is down behind a flush that failed, at what was flushed then
pub fault_left : (start : Start) (u w : Knowledge) (by : By) (count : ℕ) → log_lock < length u.seen → Leaves start log_lock (flush_fault_by by count) u w → IsDownAt start (at w.seen log_lock) (flushed_to start (at u.seen log_lock))
fault_left start u w by count inside l =
    subst (λ (t : List Entry). IsDownAt start t (flushed_to start (at u.seen log_lock))) (sym (ap (λ (z : List (List Entry)). at z log_lock) l.seen ∙ at_here u.seen log_lock (flush_fault_by by count) inside))
    (failed_here start (at u.seen log_lock) by calls.Flush count (flushed_to start (at u.seen log_lock)) refl refl)

-- the log wasn't down, and so it isn't behind an entry more that doesn't put it down
pub up_left : (start : Start) (u w : Knowledge) (e : Entry) → log_lock < length u.seen → Leaves start log_lock e u w → is_put_down e.kind ≡ false → IsUp (at u.seen log_lock) → IsUp (at w.seen log_lock)
up_left start u w e inside l other up = subst (λ (t : List Entry). IsUp t) (sym (ap (λ (z : List (List Entry)). at z log_lock) l.seen ∙ at_here u.seen log_lock e inside)) (up_more (at u.seen log_lock) e other up)

-- what isn't down by a number isn't down
pub not_down : (down : Option ℕ) → ((n : ℕ) → down ≡ Some n → ⊥) → down ≡ None
not_down None other = refl
not_down (Some n) other = absurd (other n refl)

-- what is full or lacks memory isn't refused as down
pub log_refused : (why : LogRefusal) (n : ℕ) → why ≡ refused.LogDown n → (why ≡ refused.Full) ⊎ (why ≡ refused.Memory) → ⊥
log_refused why n down other = ⊎_elim (λ (q : why ≡ refused.Full). cc) (λ (q : why ≡ refused.Memory). cc) other

-- the log's counters are the list's
pub base_of_log : {D : Type 0} {g : logs.Ghosts D} (start : Start) (log : WalLog D g) (es : List Entry) (rec : Rec) → IsLogOf start log es → IsBase (after_record (counters_or_none (log_counters log)) rec) → IsBase (after_record (counters_after start es) rec)
base_of_log start log es rec s base = subst (λ (o : Option Counters). IsBase (after_record (counters_or_none o) rec)) s.counters_are base

-- a lawful record with which the counters are a base may come next, where its number fits
pub may_follow : {D : Type 0} {g : logs.Ghosts D} (start : Start) (log : WalLog D g) (u w : Knowledge) (rec : Rec) (e : Entry) → IsLogOf start log (at u.seen log_lock) → IsTrue (number_fits (log_next log) rec) → log_lock < length u.seen → appended e ≡ None → Leaves start log_lock e u w → IsLawful rec → StaysBase start w.seen rec
    → MayAppend (log_counters log) (log_next log) rec
may_follow start log u w rec e s fits inside none l lawful base =
    let es = at u.seen log_lock in
    let same : counters_after start (at w.seen log_lock) ≡ counters_after start es = ap (λ (z : List (List Entry)). counters_after start (at z log_lock)) l.seen ∙ (ap (λ (t : List Entry). counters_after start t) (at_here u.seen log_lock e inside) ∙ ap (after_records start.base) (recs_same es e none)) in
    let before : IsBase (after_record (counters_after start es) rec) = subst (λ (c : Counters). IsBase (after_record c rec)) same base in
    record {
      lawful = lawful;
      first = λ missing. absurd (false≢true (sym (subst IsNone s.counters_are missing)));
      fits = fits;
      base = subst (λ (o : Option Counters). IsBase (after_record (counters_or_none o) rec)) (sym s.counters_are) before;
    }

-- so a commit record
pub may_come : {D : Type 0} {g : logs.Ghosts D} (start : Start) (log : WalLog D g) (u w : Knowledge) (opened : List ℕ) (rec : Rec) (e : Entry) → IsLogOf start log (at u.seen log_lock) → IsCommitOf opened rec → log_lock < length u.seen → appended e ≡ None → Leaves start log_lock e u w → IsLawful rec → StaysBase start w.seen rec
    → MayAppend (log_counters log) (log_next log) rec
may_come start log u w opened rec e s r inside none l lawful base = may_follow start log u w rec e s (subst (λ (z : Rec). IsTrue (number_fits (log_next log) z)) (sym r.is) refl) inside none l lawful base

-- what the log refused an append for
pub append_refused : (start : Start) (lists : List (List Entry)) (why : LogRefusal) (r : Refusal) → IsRefusalOf why r → (why ≡ refused.LogFault → ⊥) → ((down : ℕ) → why ≡ refused.LogDown down → IsDownAt start (at lists log_lock) down) → ((why ≡ refused.Full) ⊎ (why ≡ refused.Memory) → IsUp (at lists log_lock)) → IsAppendRefused start lists r
append_refused start lists refused.LogFault r is fault down up = absurd (fault refl)
append_refused start lists (refused.Damaged place) r is fault down up = absurd is
append_refused start lists (refused.LogDown at) r is fault down up = subst (IsAppendRefused start lists) (sym is) (down at refl)
append_refused start lists refused.Full r is fault down up = subst (IsAppendRefused start lists) (sym is) (up (inl refl))
append_refused start lists refused.Memory r is fault down up = subst (IsAppendRefused start lists) (sym is) (up (inr refl))

-- and a flush, where its volume didn't fail
pub flush_refused : (start : Start) (lists : List (List Entry)) (by : By) (number : ℕ) (why : LogRefusal) (r : Refusal) → IsRefusalOf why r → (why ≡ refused.LogFault → ⊥) → (why ≡ refused.Full → ⊥) → (why ≡ refused.Memory → ⊥) → ((down : ℕ) → why ≡ refused.LogDown down → IsDownAt start (at lists log_lock) down × (down ≤ number)) → IsFlushRefused start lists by number r
flush_refused start lists by number refused.LogFault r is fault full memory down = absurd (fault refl)
flush_refused start lists by number (refused.Damaged place) r is fault full memory down = absurd is
flush_refused start lists by number (refused.LogDown at) r is fault full memory down = subst (IsFlushRefused start lists by number) (sym is) (down at refl)
flush_refused start lists by number refused.Full r is fault full memory down = absurd (full refl)
flush_refused start lists by number refused.Memory r is fault full memory down = absurd (memory refl)

-- the critical section of a flush that a log refused whose volume didn't fail
pub flush_looked : (start : Start) (by : By) (v w : Knowledge) (why : LogRefusal) (r : Refusal) → IsRefusalOf why r → (why ≡ refused.LogFault → ⊥) → Section start log_lock (look_of by) v w → FlushRefused start by v w r
flush_looked start by v w refused.LogFault r is fault s = absurd (fault refl)
flush_looked start by v w (refused.Damaged place) r is fault s = absurd is
flush_looked start by v w (refused.LogDown at) r is fault s = subst (λ (z : Refusal). FlushRefused start by v w z) (sym is) s
flush_looked start by v w refused.Full r is fault s = subst (λ (z : Refusal). FlushRefused start by v w z) (sym is) s
flush_looked start by v w refused.Memory r is fault s = subst (λ (z : Refusal). FlushRefused start by v w z) (sym is) s

-- a record that was seen has a number below the next one
pub seen_below : (start : Start) (seen lists : List (List Entry)) (number : ℕ) → Grows seen lists → number < start.from + length (records_of seen) → number < start.from + length (recs_in (at lists log_lock))
seen_below start seen lists number g below =
    let b = begins_filter_map appended (at seen log_lock) (at lists log_lock) (g.begins log_lock) in
    let long : length (records_of lists) ≡ length (records_of seen) + length b.0 = ap length (sym b.1) ∙ length-append (records_of seen) b.0 in
    let same = length-map (records_of lists) (λ (r : By × Rec). r.1) in
    omega arith

abbrev same_result : {T : Type 0} → Result T LogRefusal → Result T LogRefusal → Type 0
same_result x y = x ≡ y

pub same_err : {T : Type 0} {a b : LogRefusal} → same_result {T = T} (Err a) (Err b) → a ≡ b
same_err q = cc
