-- The engine invariant gives that a bank of pg_xact fits.
use Rattle.std.proofs.Common.{length-append, ◌≡◌, ℕ, ◌+◌, ◌-◌, ◌/◌, ◌%◌, ◌^◌, ◌<◌, ◌≤◌, ◌⊎◌, inl, inr, ⊎_elim, true, List, ◌∷◌, ◌++◌, length, take, drop, Option, Some, None, Contains, refl, sym, ap, subst, arith, ◌∙◌}
use Rattle.std.specs.List.{flat_map, slice_get}
use Rattle.tx_events.specs.Ids.{low_half}
use Rattle.tx_events.specs.PageOrder.{Ids, is_cut}
use Rattle.store_pages.specs.Layouts.{state_in, xact_page_of}
use Rattle.disk_core.specs.Pages.{Pages, page_bytes}
use Rattle.std.proofs.lemmas.List.{take-append-drop}
use Rattle.std.proofs.Math.Seq.{take-length}
use Rattle.tx_core.proofs.RecordNext.{next_given_all}
use Rattle.tx_core.proofs.Room.{has_room}
use Rattle.tx_events.proofs.GivenIds.{given_below, given_to_given, legal_take}
use Rattle.tx_events.proofs.ListSteps.{not_both}
use Rattle.tx_events.proofs.IdOrder.{nth_from}
use Rattle.tx_events.proofs.Membership.{Has, contains_has, has_contains, has_cases, has_left, has_right, has_take, has_flat_map, has_place, place_has, has_filter_map}
use Rattle.tx_events.proofs.SnapshotBounds.{given_from}
use Rattle.tx_events.proofs.PlaceLemmas.{by_place}
use Rattle.tx_events.proofs.HorizonSteps.{oldest_push}
use Rattle.tx_events.specs.declared.event.Event.{Event}
use Rattle.tx_events.specs.declared.event.Event.TheVariants as events
use Rattle.tx_events.specs.declared.record.Counters.{Counters}
use Rattle.tx_events.specs.Horizon.{oldest_id, announced_after}
use Rattle.tx_events.specs.Places.{EachPlace}
use Rattle.tx_core.specs.RecordsFollow.{AppendOf, IsOldestAnnounced, NeedsCounters}
use Rattle.tx_events.specs.declared.event.By.{By}
use Rattle.tx_events.specs.declared.record.Rec.{Rec}
use Rattle.tx_events.specs.declared.record.Rec.TheVariants as records
use Rattle.tx_events.specs.Events.{given}
use Rattle.tx_events.specs.History.{IsLegal, MayCome, next_given}
use Rattle.tx_core.specs.declared.entry.Entry.{Entry}
use Rattle.tx_core.specs.declared.entry.Kind.{Kind}
use Rattle.tx_core.specs.declared.entry.Kind.TheVariants as kinds
use Rattle.tx_core.specs.declared.entry.LogCall.TheVariants as calls
use Rattle.tx_core.specs.declared.entry.Start.{Start}
use Rattle.tx_core.specs.declared.entry.State.{State}
use Rattle.tx_core.specs.declared.entry.State.TheVariants as states
use Rattle.tx_core.proofs.Asking.{if_some, logged_of, upheld_has}
use Rattle.tx_core.proofs.Exactness.{exact_given}
use Rattle.tx_core.proofs.Growing.{begins_filter_map}
use Rattle.tx_core.proofs.Reading.{appended_by, appended_is, flushed_appended, state_from}
use Rattle.tx_core.specs.CleanStart.{CleanStart, IsNear, first_near}
use Rattle.tx_core.specs.EngineInvariant.{EngineInvariant}
use Rattle.tx_core.specs.Entries.{IsAppended, Mark, Stands, appended, cut_in, history, marks, marks_in, records_in, records_of}
use Rattle.notes.specs.Lists.{Begins, at}
use Rattle.tx_core.specs.Locks.{log_lock, xact_page, xact_lock, xact_lock_of}
use Rattle.tx_core.specs.LogBeforeStatus.{IsDurable, NeedsRecords, RecordOf}
use Rattle.tx_core.specs.Pages.{xact_store}
use Rattle.tx_core.specs.Verdict.{state_for}
use Rattle.tx_core.specs.CutsFollow.{CutBy, IsTruncated, NeedsCut}
use Rattle.tx_core.proofs.Holding.{xact_cut_kept}
use Rattle.recoverable.specs.Fit.{IsCommitCode, KeptLog, base_at, log_end}
use Rattle.recoverable.specs.Laws.{LogFollows, XactFitsLaw, life_base}
use Rattle.tx_events.specs.LifeBase.{LifeBase, base_after, committed_by, committed_in}
use Rattle.tx_core.specs.SyncsBeforeForgets.{AreStatesSynced, IsNamedBelow, MayForget}
use Rattle.recoverable.specs.Images.{MayBeGone}
use Rattle.recoverable.specs.XactImages.{Follows, ShowsSince, code_after, code_at, code_of, xact_ring}
use Rattle.recoverable.proofs.LogBases.{base_from, life_recs, oldest_grows, oldest_past}
use Rattle.tx_events.specs.PageWindow.{id_is_kept}
use Rattle.recoverable.proofs.Places.{shows_after, shows_committed, shows_from, shows_start}
use Rattle.recoverable.proofs.Stretches.{flat_map_has, get_in_beginning, get_map, has_longer, has_taken, has_within, map_get, taken_place}

-- each place has an id of the window
nearest : (start : Start) (x : ℕ) → (y : ℕ) × IsNear start y × (low_half y ≡ low_half x)
nearest start x =
    let f : ℕ = first_near start in
    ⊎_elim
    (λ (h : low_half (first_near start) ≤ low_half x). (f + (low_half x - low_half f), record { from = omega arith; to = omega arith }, omega arith))
    (λ (h : low_half x < low_half (first_near start)). (f + (2 ^ 32 + low_half x - low_half f), record { from = omega arith; to = omega arith }, omega arith))
    (way (low_half (first_near start)) (low_half x))
  where
    way : (m n : ℕ) → (m ≤ n) ⊎ (n < m)
    way m n = grind arith

same_place : (c : Pages) (x y : ℕ) → low_half y ≡ low_half x → code_at c y ≡ code_at c x
same_place c x y e = ap (λ l. state_in (page_bytes (c (l / 32768))) (l % 32768)) e

on_bank : (start : Start) (bank x : ℕ) → xact_page_of x % start.banks ≡ bank → xact_lock_of start x ≡ xact_lock bank
on_bank start bank x e = ap xact_lock e

-- a code that says committed or sub-committed is that of such a state
commits : (o : Option State) → IsCommitCode (code_of o) → (o ≡ Some states.Committed) ⊎ (o ≡ Some states.SubCommitted)
commits None h = ⊎_elim (λ (e : 0 ≡ 1). absurd (omega arith)) (λ (e : 0 ≡ 3). absurd (omega arith)) h
commits (Some states.Committed) h = inl refl
commits (Some states.SubCommitted) h = inr refl
commits (Some states.Aborted) h = ⊎_elim (λ (e : 2 ≡ 1). absurd (omega arith)) (λ (e : 2 ≡ 3). absurd (omega arith)) h

not_none : (code : ℕ) → code ≡ 0 → IsCommitCode code → ⊥
not_none code none h = ⊎_elim (λ (e : code ≡ 1). omega arith) (λ (e : code ≡ 3). omega arith) h

-- an id of a commit record that is on disk is committed in the base at the flushed number
durable_committed : (start : Start) (lists : List (List Entry)) (log : KeptLog) (session x : ℕ) → LogFollows start lists log → IsDurable start lists session x → Contains (base_at log log.flushed).committed x
durable_committed start lists log session x f d =
    let top : ℕ = d.0 in let subs : List ℕ = d.1 in let flushed = d.2 in
    let n : ℕ = flushed.0 in let to : ℕ = flushed.1 in
    let below : start.from + n < to = flushed.5 in
    let upto : to ≤ log.flushed = f.flushed to flushed.6 in
    let m : ℕ = log.flushed - start.from in
    let stands : slice_get (life_recs lists) n ≡ Some (records.Commit top subs) = get_map (λ (r : By × Rec). r.1) (records_of lists) n (flushed.2, records.Commit top subs) flushed.4 in
    let among : Has (take m (life_recs lists)) (records.Commit top subs) = has_taken n m (life_recs lists) (records.Commit top subs) (omega arith) stands in
    let named : Has (committed_in (take m (life_recs lists))) x = flat_map_has committed_by (take m (life_recs lists)) (records.Commit top subs) x among (contains_has (top ∷ subs) x d.3) in
    subst (λ (b : LifeBase). Contains b.committed x) (sym (base_from start lists log log.flushed f f.begun))
    (has_contains (start.committed ++ committed_in (take m (life_recs lists))) x (has_right start.committed (committed_in (take m (life_recs lists))) x named))

start_committed : (start : Start) (lists : List (List Entry)) (log : KeptLog) (x : ℕ) → LogFollows start lists log → Contains start.committed x → Contains (base_at log log.flushed).committed x
start_committed start lists log x f c =
    let m : ℕ = log.flushed - start.from in
    subst (λ (b : LifeBase). Contains b.committed x) (sym (base_from start lists log log.flushed f f.begun))
    (has_contains (start.committed ++ committed_in (take m (life_recs lists))) x (has_left start.committed (committed_in (take m (life_recs lists))) x (contains_has start.committed x c)))

oldest_from : (start : Start) (lists : List (List Entry)) (log : KeptLog) → LogFollows start lists log → start.base.oldest ≤ (base_at log log.flushed).counters.oldest
oldest_from start lists log f =
    subst (λ (b : LifeBase). start.base.oldest ≤ b.counters.oldest) (sym (base_from start lists log log.flushed f f.begun)) (oldest_grows start.base (take (log.flushed - start.from) (life_recs lists)))

-- the oldest id of a truncation that is on disk isn't past that of the base at the flushed number
truncated_oldest : (start : Start) (lists : List (List Entry)) (log : KeptLog) (oldest multi offset : ℕ) → LogFollows start lists log → IsTruncated start lists oldest multi offset → oldest ≤ (base_at log log.flushed).counters.oldest
truncated_oldest start lists log oldest multi offset f t =
    let flushed = t.flushed in
    let n : ℕ = flushed.0 in let to : ℕ = flushed.1 in
    let below : start.from + n < to = flushed.5 in
    let upto : to ≤ log.flushed = f.flushed to flushed.6 in
    let m : ℕ = log.flushed - start.from in
    let rec : Rec = records.Truncate oldest multi offset in
    let stands : slice_get (life_recs lists) n ≡ Some (records.Truncate oldest multi offset) = get_map (λ (r : By × Rec). r.1) (records_of lists) n (flushed.2, records.Truncate oldest multi offset) flushed.4 in
    let among : Has (take m (life_recs lists)) (records.Truncate oldest multi offset) = has_taken n m (life_recs lists) (records.Truncate oldest multi offset) (omega arith) stands in
    subst (λ (b : LifeBase). oldest ≤ b.counters.oldest) (sym (base_from start lists log log.flushed f f.begun)) (oldest_past start.base (take m (life_recs lists)) oldest multi offset among)

-- a record stands in the log's list
pub logged_at : (start : Start) (lists : List (List Entry)) (j : ℕ) (by : By) (rec : Rec) → slice_get (records_of lists) j ≡ Some (by, rec) → Has (at lists log_lock) (record { by = by; kind = kinds.Append rec })
logged_at start lists j by rec g =
    let r = has_filter_map appended (at lists log_lock) (by, rec) (place_has (records_of lists) j (by, rec) g) in
    let same : r.0 ≡ record { by = by; kind = kinds.Append rec } = λ i. record { by = appended_by r.0.by r.0.kind (by, rec) r.2 i; kind = appended_is r.0.by r.0.kind (by, rec) r.2 i } in
    subst (λ (e : Entry). Has (at lists log_lock) e) same r.1

-- an id of an appended commit record was given
pub named_given : (start : Start) (lists : List (List Entry)) (j : ℕ) (by : By) (top : ℕ) (subs : List ℕ) (x : ℕ) → EngineInvariant start lists → slice_get (records_of lists) j ≡ Some (by, records.Commit top subs) → Contains (top ∷ subs) x → Has (given (history lists)) x
named_given start lists j by top subs x k g c =
    let a : IsAppended lists by.session (records.Commit top subs) = (by, refl, has_contains (at lists log_lock) (record { by = by; kind = kinds.Append (records.Commit top subs) }) (logged_at start lists j by (records.Commit top subs) g)) in
    given_to_given by.session (history lists) x (exact_given (history lists) by.session top subs x (k.records.exact by.session top subs a) c)

-- what there is room for in a life of few ids
record HasRoom (start : Start) (lists : List (List Entry)) (log : KeptLog) : Type 0 where
  window : next_given start.base.next (history lists) + 2 ^ 15 < start.base.oldest + 2 ^ 31
  near : next_given start.base.next (history lists) ≤ start.base.next + 2 ^ 30
  given : (base_at log (log_end log)).counters.next ≤ next_given start.base.next (history lists)

room_of : (start : Start) (lists : List (List Entry)) (shown : ℕ → Option State) (log : KeptLog) → EngineInvariant start lists → CleanStart start shown → LogFollows start lists log → length (given (history lists)) < 2900000 → HasRoom start lists log
room_of start lists shown log k is f few =
    let room = has_room start.base (history lists) is.base few in
    let recs : List Rec = life_recs lists in
    let long : length log.recs ≡ length f.before + length recs = ap (λ (t : List Rec). length t) f.recs ∙ length-append f.before recs in
    let from = f.from in
    let rest : log_end log - start.from ≡ length recs = omega arith in
    let all : take (log_end log - start.from) recs ≡ recs = ap (λ m. take m recs) rest ∙ take-length recs in
    let same : base_at log (log_end log) ≡ base_after (life_base start) recs = base_from start lists log (log_end log) f (omega arith) ∙ ap (λ (t : List Rec). base_after (life_base start) t) all in
    record { window = room.0; near = room.1; given = subst (λ (b : LifeBase). b.counters.next ≤ next_given start.base.next (history lists)) (sym same) (next_given_all start lists k is.base) }

announced_up : (base : Counters) (h : List Event) (e : Event) → base.oldest ≤ oldest_id base.oldest h → MayCome base h e → base.oldest ≤ announced_after (oldest_id base.oldest h) e
announced_up base h (events.Oldest by oldest) le rule = let r : oldest_id base.oldest h ≤ oldest = rule.0 in omega arith
announced_up base h _ le rule = le

announced_rises : (base : Counters) (h : List Event) → EachPlace h (MayCome base) → base.oldest ≤ oldest_id base.oldest h
announced_rises base = by_place (MayCome base) (λ h. base.oldest ≤ oldest_id base.oldest h) (omega arith) (λ h e le rule. subst (λ z. base.oldest ≤ z) (sym (oldest_push base.oldest h e)) (announced_up base h e le rule))

-- an announced oldest id isn't before the base's
announced_from : (base : Counters) (h : List Event) (by : By) (oldest : ℕ) → IsLegal base h → Contains h (events.Oldest by oldest) → base.oldest ≤ oldest
announced_from base h by oldest legal c =
    let p = has_place h (events.Oldest by oldest) (contains_has h (events.Oldest by oldest) c) in
    let rule : MayCome base (take p.0 h) (events.Oldest by oldest) = legal.rules p.0 (events.Oldest by oldest) p.1 in
    let before : base.oldest ≤ oldest_id base.oldest (take p.0 h) = announced_rises base (take p.0 h) (legal_take base h p.0 legal).rules in
    let r : oldest_id base.oldest (take p.0 h) ≤ oldest = rule.0 in
    omega arith

truncate_of : (start : Start) (lists : List (List Entry)) (before : List Entry) (kind : Kind) (oldest multi offset : ℕ) → AppendOf start lists before kind → kind ≡ kinds.Append (records.Truncate oldest multi offset) → IsOldestAnnounced start lists oldest
truncate_of start lists before kind oldest multi offset need e = let n : AppendOf start lists before (kinds.Append (records.Truncate oldest multi offset)) = subst (AppendOf start lists before) e need in n.1.0

truncated_from : (start : Start) (lists : List (List Entry)) (oldest multi offset : ℕ) → EngineInvariant start lists → IsTruncated start lists oldest multi offset → start.base.oldest ≤ oldest
truncated_from start lists oldest multi offset k t =
    let a = flushed_appended start lists t.session (records.Truncate oldest multi offset) t.flushed in
    let e : Entry = record { by = a.0; kind = kinds.Append (records.Truncate oldest multi offset) } in
    let need = upheld_has (NeedsCounters start) lists log_lock e k.log.counters (contains_has (at lists log_lock) e a.2) in
    ⊎_elim
    (λ (q : oldest ≡ start.base.oldest). omega arith)
    (λ (h : (by : By) × Contains (history lists) (events.Oldest by oldest)). announced_from start.base (history lists) h.0 oldest k.events.legal h.1)
    (truncate_of start lists need.0 e.kind oldest multi offset need.1 refl)

-- the page of an id from the oldest one on isn't gone
not_gone : (start : Start) (lists : List (List Entry)) (log : KeptLog) (bank x : ℕ) → EngineInvariant start lists → LogFollows start lists log → HasRoom start lists log
    → (base_at log log.flushed).counters.oldest ≤ x → x < next_given start.base.next (history lists) → MayBeGone (xact_ring start) (at lists (xact_lock bank)) (xact_page_of x) → ⊥
not_gone start lists log bank x k f room from below gone =
    let page : ℕ = gone.0 in
    let up = oldest_from start lists log f in
    let window = room.window in
    ⊎_elim
    (λ (q : gone.0 ≡ xact_page start.base.oldest).
    kept start.base.oldest x gone.0 q (omega arith) (omega arith) gone.2)
    (λ (h : (e : Entry) × Contains (at lists (xact_lock bank)) e × (cut_in e.kind ≡ Some gone.0)).
    let need = upheld_has (NeedsCut start) lists (xact_lock bank) h.0 k.cuts.each (contains_has (at lists (xact_lock bank)) h.0 h.1) in
    let cut : CutBy start lists (xact_lock bank) gone.0 = if_some (cut_in h.0.kind) (CutBy start lists (xact_lock bank)) gone.0 need.1 h.2 in
    let t = cut.xact bank refl in
    let low : t.0 ≤ (base_at log log.flushed).counters.oldest = truncated_oldest start lists log t.0 t.1 t.2 f t.3 in
    let high : start.base.oldest ≤ t.0 = truncated_from start lists t.0 t.1 t.2 k t.3 in
    not_both (is_cut Ids 32768 (gone.0 % 131072) (xact_page_of x)) gone.2 (xact_cut_kept start.base.oldest t.0 gone.0 x t.4 high (omega arith) (omega arith)))
    gone.1
  where
    kept : (o x page : ℕ) → page ≡ xact_page o → o ≤ x → x + 2 ^ 15 < o + 2 ^ 31 → is_cut Ids 32768 (page % 131072) (xact_page_of x) ≡ true → ⊥
    kept o x page q from near e =
        let same : page % 131072 ≡ low_half o / 32768 = omega arith in
        not_both (is_cut Ids 32768 (page % 131072) (xact_page_of x)) e (ap (λ z. is_cut Ids 32768 z (xact_page_of x)) same ∙ id_is_kept o x from near)

-- an id from the oldest one to below the next given one is near, and up to 2^30 past the base's next one
near_id : (start : Start) (lists : List (List Entry)) (log : KeptLog) (x : ℕ) → LogFollows start lists log → HasRoom start lists log
    → (base_at log log.flushed).counters.oldest ≤ x → x < next_given start.base.next (history lists) → IsNear start x × (x < start.base.next + 2 ^ 30)
near_id start lists log x f room from below =
    let up = oldest_from start lists log f in let window = room.window in let near = room.near in
    let next : start.base.next ≤ next_given start.base.next (history lists) = nth_from start.base.next (length (given (history lists))) in
    (record { from = omega arith; to = omega arith }, omega arith)

-- an image shows committed what each entry list from the last sync on shows committed
shows_one : (start : Start) (lists : List (List Entry)) (log : KeptLog) (shown : ℕ → Option State) (bank x : ℕ) (c : Pages)
    → EngineInvariant start lists → LogFollows start lists log → HasRoom start lists log
    → (base_at log log.flushed).counters.oldest ≤ x → x < next_given start.base.next (history lists) → xact_page_of x % start.banks ≡ bank → Follows start bank shown (at lists (xact_lock bank)) c
    → ((n : ℕ) → ((s : ℕ) (by : By) → slice_get (at lists (xact_lock bank)) s ≡ Some (record { by = by; kind = kinds.Sync }) → s < n) → shows_after start shown (at lists (xact_lock bank)) n x ≡ Some states.Committed)
    → code_at c x ≡ 1
shows_one start lists log shown bank x c k f room from below on follows each =
    let near = near_id start lists log x f room from below in
    let since : ShowsSince start shown (at lists (xact_lock bank)) c x = follows x near.0 (on_bank start bank x on) in
    ⊎_elim
    (λ (e : code_at c x ≡ code_after start shown (at lists (xact_lock bank)) since.count x). e ∙ ap code_of (each since.count since.synced))
    (λ (g : (code_at c x ≡ 0) × MayBeGone (xact_ring start) (at lists (xact_lock bank)) (xact_page_of x)). absurd (not_gone start lists log bank x k f room from below g.1))
    since.shows

-- the ids that are committed in the life's base
shows_base : (start : Start) (lists : List (List Entry)) (log : KeptLog) (shown : ℕ → Option State) (bank x : ℕ) (c : Pages)
    → EngineInvariant start lists → CleanStart start shown → LogFollows start lists log → HasRoom start lists log
    → Contains start.committed x → (base_at log log.flushed).counters.oldest ≤ x → xact_page_of x % start.banks ≡ bank → Follows start bank shown (at lists (xact_lock bank)) c → code_at c x ≡ 1
shows_base start lists log shown bank x c k is f room among from on follows =
    let clean = is in
    let old : x < start.base.next = clean.before x among in
    let next : start.base.next ≤ next_given start.base.next (history lists) = nth_from start.base.next (length (given (history lists))) in
    let up = oldest_from start lists log f in
    let never : Has (given (history lists)) x → ⊥ = λ h. let a = given_from start.base (history lists) k.events.legal x h in absurd (omega arith) in
    shows_one start lists log shown bank x c k f room from (omega arith) on follows (λ n synced.
    shows_start start lists shown (xact_lock bank) n x k clean (omega arith) never ∙ clean.committed x (omega arith) among)

-- the ids of commit records before a checkpoint before which the log was to be forgotten
shows_synced : (start : Start) (lists : List (List Entry)) (log : KeptLog) (shown : ℕ → Option State) (bank number x : ℕ) (before : List Entry) (c : Pages)
    → EngineInvariant start lists → CleanStart start shown → LogFollows start lists log → HasRoom start lists log
    → bank < start.banks → Begins before (at lists log_lock) → MayForget start lists before number
    → Has (committed_in (take (number - start.from) (life_recs lists))) x → (base_at log log.flushed).counters.oldest ≤ x → xact_page_of x % start.banks ≡ bank → Follows start bank shown (at lists (xact_lock bank)) c → code_at c x ≡ 1
shows_synced start lists log shown bank number x before c k is f room inside begins may among from on follows =
    let r = has_flat_map committed_by (take (number - start.from) (life_recs lists)) x among in
    let p = taken_place (number - start.from) (life_recs lists) r.0 r.1 in
    let g = map_get (λ (t : By × Rec). t.1) (records_of lists) p.0 r.0 p.2 in
    let step : (rec : Rec) → g.0.1 ≡ rec → Has (committed_by rec) x → code_at c x ≡ 1 = elim [
      | records.Commit top subs ↦ λ q h.
          let stands : slice_get (records_of lists) p.0 ≡ Some (g.0.0, records.Commit top subs) = g.1 ∙ ap (λ z. Some (g.0.0, z)) q in
          let low : p.0 < number - start.from = p.1 in
          let first : slice_get (records_in before) p.0 ≡ Some (g.0.0, records.Commit top subs)
          = get_in_beginning (records_in before) (records_of lists) (number - start.from) p.0 (may.by, records.Checkpoint number may.counters) (g.0.0, records.Commit top subs) (begins_filter_map appended before (at lists log_lock) begins) may.checkpoint low stands in
          let named : IsNamedBelow start before number x = (top, subs, record { place = p.0; by = g.0.0; stands = first; below = omega arith }, has_contains (top ∷ subs) x h) in
          let given_x : Has (given (history lists)) x = named_given start lists p.0 g.0.0 top subs x k stands (has_contains (top ∷ subs) x h) in
          let below : x < next_given start.base.next (history lists) = given_below start.base (history lists) k.events.legal x given_x in
          let synced : AreStatesSynced start (at lists (xact_lock bank)) bank (IsNamedBelow start before number) = may.states bank inside in
          let sync = synced.synced in
          let near = near_id start lists log x f room from below in
          let m = synced.each x named (on_bank start bank x on) in
          let mark : Mark = record { caller = m.0; id = x; state = states.Committed } in
          shows_one start lists log shown bank x c k f room from below on follows (λ n since.
          let later : sync.place < n = since sync.place sync.by sync.sync in
          let e = has_flat_map marks_in synced.before mark (contains_has (marks synced.before) mark m.1) in
          let stood : Has (take sync.place (at lists (xact_lock bank))) e.0 = subst (λ (t : List Entry). Has t e.0) (sym sync.front) e.1 in
          let longer : Has (marks (take n (at lists (xact_lock bank)))) mark = flat_map_has marks_in (take n (at lists (xact_lock bank))) e.0 mark (has_longer sync.place n (at lists (xact_lock bank)) e.0 (omega arith) stood) e.2 in
          shows_committed start lists shown (xact_lock bank) n x m.0 k is near.1 longer)
      | _ ↦ λ q h. absurd h
    ] in
    step g.0.1 refl (subst (λ z. Has (committed_by z) x) (sym g.2) r.2)

-- ids committed before the life are committed in its base
earlier_committed : (start : Start) (lists : List (List Entry)) (log : KeptLog) (n x : ℕ) → LogFollows start lists log → n ≤ start.from → Contains (base_at log n).committed x → Contains start.committed x
earlier_committed start lists log n x f le c =
    let from : start.from ≡ log.first + length f.before = f.from in
    let m : ℕ = n - log.first in
    let all : log.base.committed ++ committed_in f.before ≡ start.committed = ap (λ (b : LifeBase). b.committed) f.base in
    subst (λ (t : List ℕ). Contains t x) all
    (has_contains (log.base.committed ++ committed_in f.before) x
    (⊎_elim
    (λ h. has_left log.base.committed (committed_in f.before) x h)
    (λ (h : Has (committed_in (take (n - log.first) log.recs)) x).
    let r = has_flat_map committed_by (take (n - log.first) log.recs) x h in
    let within : Has f.before r.0 = has_within f.before (life_recs lists) (n - log.first) r.0 (omega arith) (subst (λ (t : List Rec). Has (take (n - log.first) t) r.0) f.recs r.1) in
    has_right log.base.committed (committed_in f.before) x (flat_map_has committed_by f.before r.0 x within r.2))
    (has_cases log.base.committed (committed_in (take (n - log.first) log.recs)) x (contains_has (base_at log n).committed x c))))

pub may_forget : (start : Start) (lists : List (List Entry)) (n : ℕ) → EngineInvariant start lists
    → Stands lists log_lock (kinds.Forget n) ⊎ ((count : ℕ) × Stands lists log_lock (kinds.LogFault (calls.Forget n) count)) → (before : List Entry) × Begins before (at lists log_lock) × MayForget start lists before n
may_forget start lists n k h =
    ⊎_elim
    (λ (s : Stands lists log_lock (kinds.Forget n)).
    let e : Entry = record { by = s.0; kind = kinds.Forget n } in
    let p = has_place (at lists log_lock) e (contains_has (at lists log_lock) e s.1) in
    (take p.0 (at lists log_lock), (drop p.0 (at lists log_lock), take-append-drop p.0 (at lists log_lock)), k.syncs.each.each log_lock p.0 e p.1))
    (λ (s : (count : ℕ) × Stands lists log_lock (kinds.LogFault (calls.Forget n) count)).
    let e : Entry = record { by = s.1.0; kind = kinds.LogFault (calls.Forget n) s.0 } in
    let p = has_place (at lists log_lock) e (contains_has (at lists log_lock) e s.1.1) in
    (take p.0 (at lists log_lock), (drop p.0 (at lists log_lock), take-append-drop p.0 (at lists log_lock)), k.syncs.each.each log_lock p.0 e p.1))
    h

-- a state of an image that is committed or sub-committed has its source
commit_source : (start : Start) (lists : List (List Entry)) (shown : ℕ → Option State) (bank x : ℕ) (c : Pages)
    → EngineInvariant start lists → IsNear start x → xact_lock_of start x ≡ xact_lock bank → Follows start bank shown (at lists (xact_lock bank)) c → IsCommitCode (code_at c x)
    → ((shown x ≡ Some states.Committed) ⊎ (shown x ≡ Some states.SubCommitted)) ⊎ ((session : ℕ) × IsDurable start lists session x)
commit_source start lists shown bank x c k near on follows code =
    let lock : ℕ = xact_lock bank in
    let since : ShowsSince start shown (at lists (xact_lock bank)) c x = follows x near on in
    let durable : (s : State) → (s ≡ states.Committed) ⊎ (s ≡ states.SubCommitted) → (i : Mark) × Has (flat_map marks_in (take since.count (at lists (xact_lock bank)))) i × (state_for x i ≡ Some s) → (session : ℕ) × IsDurable start lists session x = λ s two h.
    let t = state_from x h.0 s h.2 in
    let found = has_flat_map marks_in (take since.count (at lists (xact_lock bank))) h.0 h.1 in
    let need = upheld_has (NeedsRecords start) lists (xact_lock bank) found.0 k.status.logged (has_take since.count (at lists (xact_lock bank)) found.0 found.1) in
    let d : RecordOf start lists h.0.caller.session x s = subst (λ z. RecordOf start lists h.0.caller.session z s) t.0 (subst (λ z. RecordOf start lists h.0.caller.session h.0.id z) t.1 (logged_of start lists (xact_lock bank) need.0 found.0 h.0 need.1 found.2)) in (
      h.0.caller.session,
      ⊎_elim (λ (q : s ≡ states.Committed). subst (λ z. RecordOf start lists h.0.caller.session x z) q d) (λ (q : s ≡ states.SubCommitted). subst (λ z. RecordOf start lists h.0.caller.session x z) q d) two,
    ) in
    ⊎_elim
    (λ (e : code_at c x ≡ code_after start shown (at lists (xact_lock bank)) since.count x).
    ⊎_elim
    (λ (q : shows_after start shown (at lists (xact_lock bank)) since.count x ≡ Some states.Committed).
    ⊎_elim (λ a. inl (inl a)) (λ a. inr (durable states.Committed (inl refl) a)) (shows_from xact_store start.base.next shown x states.Committed (take since.count (at lists (xact_lock bank))) q))
    (λ (q : shows_after start shown (at lists (xact_lock bank)) since.count x ≡ Some states.SubCommitted).
    ⊎_elim (λ a. inl (inr a)) (λ a. inr (durable states.SubCommitted (inr refl) a)) (shows_from xact_store start.base.next shown x states.SubCommitted (take since.count (at lists (xact_lock bank))) q))
    (commits (shows_after start shown (at lists (xact_lock bank)) since.count x) (subst IsCommitCode e code)))
    (λ (g : (code_at c x ≡ 0) × MayBeGone (xact_ring start) (at lists (xact_lock bank)) (xact_page_of x)). absurd (not_none (code_at c x) g.0 code))
    since.shows

pub fits_xact : XactFitsLaw
fits_xact start lists shown log bank n c k is f beginning few inside follows =
    let room = room_of start lists shown log k is f few in record {
      committed = λ x among from on.
          ⊎_elim
          (λ (lt : n < start.from). shows_base start lists log shown bank x c k is f room (earlier_committed start lists log n x f (omega arith) among) from on follows)
          (λ h.
          let may = may_forget start lists n k h in
          let up : start.from ≤ n = may.2.from in
          let split : Contains (start.committed ++ committed_in (take (n - start.from) (life_recs lists))) x = subst (λ (b : LifeBase). Contains b.committed x) (base_from start lists log n f up) among in
          ⊎_elim
          (λ a. shows_base start lists log shown bank x c k is f room (has_contains start.committed x a) from on follows)
          (λ a. shows_synced start lists log shown bank n x may.0 c k is f room inside may.1 may.2 a from on follows)
          (has_cases start.committed (committed_in (take (n - start.from) (life_recs lists))) x (contains_has (start.committed ++ committed_in (take (n - start.from) (life_recs lists))) x split)))
          beginning;
      no_other = record {
        place = λ x on code.
            let y = nearest start x in
            let same : code_at c y.0 ≡ code_at c x = same_place c x y.0 y.2 in
            let there : xact_page_of y.0 % start.banks ≡ bank = ap (λ l. l / 32768 % start.banks) y.2 ∙ on in
            ⊎_elim
            (λ s. let z = is.place y.0 y.1 s in (z.0, start_committed start lists log z.0 f z.1, z.2 ∙ y.2))
            (λ (d : (session : ℕ) × IsDurable start lists session y.0). (y.0, durable_committed start lists log d.0 y.0 f d.1, y.2))
            (commit_source start lists shown bank y.0 c k y.1 (on_bank start bank y.0 there) follows (subst IsCommitCode (sym same) code));
        here = λ x on from to code.
            let given_next = room.given in
            let near = near_id start lists log x f room from (omega arith) in
            let up = oldest_from start lists log f in
            ⊎_elim
            (λ (s : (shown x ≡ Some states.Committed) ⊎ (shown x ≡ Some states.SubCommitted)).
            start_committed start lists log x f
            (⊎_elim
            (λ (old : x < start.base.next). is.only x (omega arith) old s)
            (λ (new : start.base.next ≤ x).
            let none : shown x ≡ None = is.clean x new near.1 in
            ⊎_elim (λ (q : shown x ≡ Some states.Committed). let z : None ≡ Some states.Committed = sym none ∙ q in absurd cc) (λ (q : shown x ≡ Some states.SubCommitted). let z : None ≡ Some states.SubCommitted = sym none ∙ q in absurd cc) s)
            (way x start.base.next)))
            (λ (d : (session : ℕ) × IsDurable start lists session x). durable_committed start lists log d.0 x f d.1)
            (commit_source start lists shown bank x c k near.0 (on_bank start bank x on) follows code);
      };
    }
  where
    way : (m n : ℕ) → (m < n) ⊎ (n ≤ m)
    way m n = grind arith
