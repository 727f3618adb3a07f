-- A log that has no room for a record is found so by the look that its section leaves.
use Rattle.std.proofs.Common.{◌≡◌, ◌<◌, ◌++◌, ◌∷◌, [], List, Result, Ok, Err, Some, IfErr, MatchResult, ℕ, length, take, ap, inl, inr, ⊎_elim, sym, refl, subst, ◌∙◌, arith}
use Rattle.std.specs.List.{slice_get}
use Rattle.std.proofs.Math.Seq.{take-append_seam}
use Rattle.disk_core.specs.declared.log_disk.LogDisk as logs
use Rattle.disk_core.specs.declared.page_disk.PageDisk as disks
use Rattle.notes.specs.Lists.{Grows, at}
use Rattle.notes.proofs.Growing.{at_here}
use Rattle.tx_events.specs.declared.event.By.{By}
use Rattle.tx_events.specs.declared.record.Counters.{Counters}
use Rattle.tx_events.specs.declared.record.Rec.{Rec}
use Rattle.tx_events.specs.declared.refusal.Refusal.{Refusal}
use Rattle.tx_events.specs.declared.refusal.Refusal.TheVariants as refusals
use Rattle.tx_events.specs.After.{after_record, after_records}
use Rattle.tx_events.specs.Base.{IsBase}
use Rattle.tx_events.proofs.PlaceLemmas.{last_at, take-grows}
use Rattle.tx_core.specs.declared.entry.Entry.{Entry}
use Rattle.tx_core.specs.declared.entry.Start.{Start}
use Rattle.tx_core.specs.Laws.{StaysBase}
use Rattle.tx_core.specs.Locks.{log_lock}
use Rattle.tx_core.specs.RecordsFollow.{counters_after}
use Rattle.tx_core.specs.StaysDown.{IsUp}
use Rattle.tx_core.proofs.Growing.{slice_get_begins}
use Rattle.wal_records.specs.Spelling.{IsLawful}
use Rattle.wal_core.specs.declared.refusal.LogRefusal.{LogRefusal}
use Rattle.wal_core.specs.declared.refusal.LogRefusal.TheVariants as refused
use Rattle.wal_core.specs.declared.wal_log.WalLog.{WalLog}
use Rattle.wal_core.specs.Log.{MayAppend}
use Rattle.wal_core.specs.LogViews.{log_counters, log_down, log_next}
use Rattle.engine_parts.specs.declared.session.Caller.{Caller}
use Rattle.engine_parts.specs.declared.session.Session.{Session}
use Rattle.engine_parts.specs.Adding.{IsTruncation}
use Rattle.engine_parts.specs.Calls.{IsCounted, next_command}
use Rattle.engine_parts.specs.Faults.{look_of}
use Rattle.engine_parts.specs.Holds.{Enters, Knowledge, Leaves, Section}
use Rattle.engine_parts.specs.LogTail.{LacksRoom, LogTail, log_tail, tail_of}
use Rattle.engine_parts.specs.Parts.{IsLogOf}
use Rattle.engine_parts.specs.Sessions.{IsAt, by_at, look_by}
use Rattle.engine_parts.proofs.Logging.{recs_same}
use Rattle.engine_parts.proofs.Sectioning.{same_command, section_list}
use Rattle.log_sections.specs.declared.appending.Appended.{Appended}
use Rattle.log_sections.specs.declared.appending.Appended.TheVariants as came
use Rattle.log_sections.specs.LogSections.{AppendSection, IsFlushRefused, IsRefusalOf}
use Rattle.log_sections.specs.Rooms.{FoundFull, FoundNoBase, IsOneOrBefore, MetFull, MetFullFor}
use Rattle.log_sections.proofs.Sections.{log_refused, not_down}

-- only a log that is full is answered for by `Full`
full_of : (why : LogRefusal) (r : Refusal) → IsRefusalOf why r → r ≡ refusals.Full → why ≡ refused.Full
full_of refused.LogFault r is full = let two : refusals.LogFault ≡ refusals.Full = sym is ∙ full in absurd cc
full_of (refused.Damaged place) r is full = absurd is
full_of (refused.LogDown down) r is full = let two : refusals.LogDown down ≡ refusals.Full = sym is ∙ full in absurd cc
full_of refused.Full r is full = refl
full_of refused.Memory r is full = let two : refusals.Memory ≡ refusals.Full = sym is ∙ full in absurd cc

-- a section that a log answered with a refusal leaves a look, and where that is `Full`, the look found the log so
pub full_answer : {L : Type 0} (l : logs.Ghosts L) (start : Start) (v u w : Knowledge) (n n' : ℕ) (s s' : Session) (log held : WalLog L l) (rec : Rec) (why : LogRefusal) (r : Refusal) → IsAt start v n s → Enters start log_lock v u → (s' ≡ s) × (n' ≡ n)
    → log ≡ held → IsLogOf start held (at u.seen log_lock) → MayAppend (log_counters log) (log_next log) rec
    → ((down : ℕ) → log_down log ≡ Some down → why ≡ refused.LogDown down) → (why ≡ refused.Full → LacksRoom (log_tail log) rec) → IsRefusalOf why r → Leaves start log_lock (look_by n' s') u w
    → MetFull start w.seen (by_at n s.levels.commands) (λ z. z ≡ rec) r
full_answer {L = L} l start v u w n n' s s' log held rec why r a entered same value stands may down lacks of left is =
    let es = at u.seen log_lock in
    let e : Entry = look_by n' s' in
    let long = entered.learns.long in
    let wide = a.wide in
    let grown : at w.seen log_lock ≡ es ++ e ∷ [] = ap (λ (z : List (List Entry)). at z log_lock) left.seen ∙ at_here u.seen log_lock e (omega arith) in
    let before : take (length es) (at w.seen log_lock) ≡ es = ap (λ (t : List Entry). take (length es) t) grown ∙ take-append_seam es (e ∷ []) in
    let full : why ≡ refused.Full = full_of why r of is in (
      rec,
      refl,
      subst (λ (b : By). FoundFull start w.seen b rec) (same_command n n' s s' same.1 same.0) (record {
        place = length es;
        look = ap (λ (t : List Entry). slice_get t (length es)) grown ∙ last_at es e;
        up = subst (λ (t : List Entry). IsUp t) (sym before) (stands.up (ap (λ (z : WalLog L l). log_down z) (sym value) ∙ not_down (log_down log) (λ n is. log_refused why n (down n is) (inl full))));
        lawful = may.lawful;
        full = subst (λ (t : LogTail). LacksRoom t rec) (ap (λ (z : WalLog L l). log_tail z) value ∙ (stands.tail_is ∙ ap (λ (t : List Entry). tail_of start t) (sym before))) (lacks full);
      }),
    )

-- so of another name of the command, and of more records
pub met_then : {T : Type 0} (start : Start) (lists : List (List Entry)) (by own : By) (IsOne Is : Rec → Type 0) (r : Result T Refusal) → by ≡ own → ((z : Rec) → IsOne z → Is z) → IfErr r (MetFull start lists by IsOne) → IfErr r (MetFull start lists own Is)
met_then start lists by own IsOne Is (Ok x) same wider met = tt
met_then start lists by own IsOne Is (Err e) same wider met =
    λ is. let m = met is in (m.0, wider m.0 m.1, subst (λ (b : By). FoundFull start lists b m.0) same m.2)

-- so of a record that the command appends by itself
pub met_for : {T : Type 0} (start : Start) (lists : List (List Entry)) (by own : By) (IsOne Is : Rec → Type 0) (r : Result T Refusal) → by ≡ own → ((z : Rec) → IsOne z → Is z) → IfErr r (MetFull start lists by IsOne) → IfErr r (MetFullFor start lists own Is)
met_for start lists by own IsOne Is r same wider = met_then start lists by own IsOne (IsOneOrBefore start lists own Is) r same (λ z is. inl (wider z is))

-- and of a truncation's that has to come before it
pub met_before : {T : Type 0} (start : Start) (lists : List (List Entry)) (by : By) (Is : Rec → Type 0) (r : Result T Refusal) (rec : Rec) → Is rec → FoundNoBase start lists by rec → IfErr r (MetFull start lists by IsTruncation) → IfErr r (MetFullFor start lists by Is)
met_before start lists by Is r rec is found = met_then start lists by by IsTruncation (IsOneOrBefore start lists by Is) r refl (λ z t. inr (t, rec, is, found))

-- and so of either
pub met_for_then : {T : Type 0} (start : Start) (lists : List (List Entry)) (by own : By) (IsOne Is : Rec → Type 0) (r : Result T Refusal) → by ≡ own → ((z : Rec) → IsOne z → Is z) → IfErr r (MetFullFor start lists by IsOne) → IfErr r (MetFullFor start lists own Is)
met_for_then start lists by own IsOne Is r same wider =
    met_then start lists by own (IsOneOrBefore start lists by IsOne) (IsOneOrBefore start lists own Is) r same (λ z. ⊎_elim
    (λ (is : IsOne z). inl (wider z is))
    (λ t. inr (t.0, t.1, wider t.1 t.2, subst (λ (b : By). FoundNoBase start lists b t.1) same t.3)))

-- the look of a section that answered so found no base for the record
pub found_no_base : (start : Start) (v w : Knowledge) (by own : By) (rec : Rec) (appended : Appended) → by ≡ own → appended ≡ came.NoBase → log_lock < length v.seen → AppendSection start by rec v w (Ok appended) → (IsLawful rec → StaysBase start w.seen rec → ⊥) → FoundNoBase start w.seen own rec
found_no_base start v w by own rec appended same is inside section none =
    let s : Section start log_lock (look_of by) v w = subst (λ (a : Appended). AppendSection start by rec v w (Ok a)) is section in
    let es = at s.within.seen log_lock in
    let e : Entry = look_of by in
    let grown : at w.seen log_lock ≡ es ++ e ∷ [] = section_list start v w log_lock e s inside in
    let before : take (length es) (at w.seen log_lock) ≡ es = ap (λ (t : List Entry). take (length es) t) grown ∙ take-append_seam es (e ∷ []) in
    let still : counters_after start (at w.seen log_lock) ≡ counters_after start es = ap (λ (t : List Entry). counters_after start t) grown ∙ ap (after_records start.base) (recs_same es e refl) in
    subst (λ (b : By). FoundNoBase start w.seen b rec) same (record {
      place = length es;
      look = ap (λ (t : List Entry). slice_get t (length es)) grown ∙ last_at es e;
      no_base = λ lawful base. none lawful (subst (λ (c : Counters). IsBase (after_record c rec)) (ap (λ (t : List Entry). counters_after start t) before ∙ sym still) base);
    })

-- and so it did as the lists go on
pub no_base_stays : (start : Start) (lists more : List (List Entry)) (by : By) (rec : Rec) → Grows lists more → FoundNoBase start lists by rec → FoundNoBase start more by rec
no_base_stays start lists more by rec grows found =
    let es = at lists log_lock in
    let on = grows.begins log_lock in
    let same : take found.place (at more log_lock) ≡ take found.place es = ap (λ (t : List Entry). take found.place t) (sym on.1) ∙ take-grows es on.0 (look_of by) found.place found.look in
    record {
      place = found.place;
      look = slice_get_begins es (at more log_lock) found.place (look_of by) on found.look;
      no_base = λ lawful base. found.no_base lawful (subst (λ (t : List Entry). IsBase (after_record (counters_after start t) rec)) same base);
    }

-- nothing is to be shown of what is never refused so
pub met_never : {T : Type 0} (start : Start) (lists : List (List Entry)) (by : By) (Is : Rec → Type 0) (Why : Refusal → Type 0) (r : Result T Refusal) → IfErr r Why → (Why refusals.Full → ⊥) → IfErr r (MetFull start lists by Is)
met_never start lists by Is Why (Ok x) why never = tt
met_never start lists by Is Why (Err e) why never = λ is. absurd (never (subst Why is why))

-- a flush isn't
pub met_flush : {T : Type 0} (start : Start) (lists : List (List Entry)) (by own : By) (number : ℕ) (Is : Rec → Type 0) (Done : T → Type 0) (r : Result T Refusal) → MatchResult r Done (IsFlushRefused start lists own number) → IfErr r (MetFull start lists by Is)
met_flush start lists by own number Is Done (Ok x) flushes = tt
met_flush start lists by own number Is Done (Err e) flushes = λ is. absurd (subst (IsFlushRefused start lists own number) is flushes)

-- the command that a call counts is its next one
pub counted_by : {L P : Type 0} {l : logs.Ghosts L} {p : disks.Ghosts P} (old u : Caller L P l p) → IsCounted old u → by_at u.number u.session.levels.commands ≡ by_at old.number (next_command old)
counted_by old u c = let counted : u.session.levels.commands ≡ next_command old = ap (λ k. k.commands) c.levels in λ j. by_at (c.number j) (counted j)
