-- Each image of a bank of offsets has the offsets of recorded multixacts.
use Rattle.std.proofs.Common.{Contains, List, Option, Some, [], ap, arith, inr, length, length-append, refl, subst, sym, take, true, ℕ, ⊎_elim, ◌++◌, ◌+◌, ◌-◌, ◌/◌, ◌%◌, ◌<◌, ◌^◌, ◌∙◌, ◌≡◌, ◌≤◌, ◌⊎◌}
use Rattle.std.specs.List.{filter, filter_map, flat_map, slice_get}
use Rattle.tx_events.specs.After.{ids_of}
use Rattle.tx_events.specs.Ids.{IsFullId, low_half}
use Rattle.store_pages.specs.Layouts.{multi_before, word_page_of}
use Rattle.tx_events.specs.PageOrder.{Multis, is_cut}
use Rattle.tx_events.specs.PageWindow.{multi_is_kept}
use Rattle.disk_core.specs.Pages.{Pages}
use Rattle.tx_events.specs.declared.event.By.{By}
use Rattle.tx_events.specs.declared.multi.Member.{Member}
use Rattle.tx_events.specs.declared.multi.MultiEvent.TheVariants as multis
use Rattle.tx_events.specs.declared.record.Rec.{Rec}
use Rattle.tx_events.specs.declared.record.Rec.TheVariants as records
use Rattle.tx_events.proofs.ListSteps.{not_both}
use Rattle.tx_events.proofs.Membership.{Has, all_at, contains_has, filter_has, has_cases, has_contains, has_filter, has_filter_map, has_flat_map, has_left, has_right, has_take}
use Rattle.tx_events.specs.Base.{IsBase}
use Rattle.tx_events.specs.Multis.{made, next_made}
use Rattle.tx_core.specs.declared.entry.Entry.{Entry}
use Rattle.tx_core.specs.declared.entry.Kind.TheVariants as kinds
use Rattle.tx_core.specs.declared.entry.Start.{Start}
use Rattle.tx_core.proofs.Asking.{upheld_has}
use Rattle.tx_core.proofs.Cutting.{cut_says}
use Rattle.tx_core.proofs.Growing.{begins_filter_map}
use Rattle.tx_core.proofs.Nearness.{multis_are_legal}
use Rattle.tx_core.proofs.Rising.{made_more}
use Rattle.tx_events.specs.Limits.{multi_stop_limit}
use Rattle.tx_core.proofs.Reading.{flushed_appended}
use Rattle.tx_core.specs.CutsFollow.{IsOffsetGone, IsTruncated}
use Rattle.tx_core.specs.EngineInvariant.{EngineInvariant}
use Rattle.tx_core.specs.Entries.{appended, cut_in, records_in, records_of}
use Rattle.notes.specs.Lists.{Begins, at}
use Rattle.tx_core.specs.Locks.{log_lock, offset_page, offsets_lock}
use Rattle.tx_core.specs.MembersBeforeOffset.{NeedsOffsets, OffsetOf}
use Rattle.tx_core.specs.MultiEntries.{SetOffset, multi_history, offsets_in}
use Rattle.tx_core.specs.RecordsFollow.{IsGenOf, IsMultiAnnounced, NeedsCounters, NeedsNamed}
use Rattle.tx_core.specs.SyncsBeforeForgets.{AreOffsetsSynced, IsMultiBelow, MayForget}
use Rattle.recoverable.specs.Fit.{KeptLog, base_at, log_end}
use Rattle.recoverable.specs.Bytes.{StoredBytes, byte_held, byte_of, offset_byte}
use Rattle.recoverable.specs.Laws.{LogFollows, OffsetsShownLaw}
use Rattle.tx_events.specs.LifeBase.{LifeBase, is_multi}
use Rattle.recoverable.specs.Images.{MayBeGone, shows_of}
use Rattle.recoverable.specs.OffsetImages.{ByteSince, CleanOffsets, OffsetsFollow, offset_reading, offset_ring}
use Rattle.recoverable.specs.Stored.{offset_bytes_for}
use Rattle.recoverable.proofs.FitsXact.{logged_at, may_forget}
use Rattle.recoverable.proofs.LogBases.{base_from, life_recs, oldest_multi_grows, oldest_multi_past, recorded_split}
use Rattle.tx_core.proofs.MultiGiven.{gen_below, one_offset, raised_from}
use Rattle.tx_core.proofs.Room.{multis_have_room}
use Rattle.recoverable.proofs.BytesShow.{last_none, last_some, offset_at, offset_bytes_show, offset_to}
use Rattle.recoverable.proofs.Offsets.{given_from}
use Rattle.recoverable.proofs.Stretches.{filter_map_has, flat_map_has, get_in_beginning, get_map, has_longer, has_taken, has_within, map_get, taken_place}

-- an offset that was set is that of a multixact of the life
set_given : (start : Start) (lists : List (List Entry)) (bank n : ℕ) (set : SetOffset) → EngineInvariant start lists → Has (flat_map offsets_in (take n (at lists (offsets_lock bank)))) set → OffsetOf start lists set
set_given start lists bank n set k h =
    let found = has_flat_map offsets_in (take n (at lists (offsets_lock bank))) set h in
    let need = upheld_has (NeedsOffsets start) lists (offsets_lock bank) found.0 k.members.offsets (has_take n (at lists (offsets_lock bank)) found.0 found.1) in
    all_at (OffsetOf start lists) (offsets_in found.0) set need.1 found.2

-- what a truncation on disk names was announced
pub announced_multi : (start : Start) (lists : List (List Entry)) (oldest multi offset : ℕ) → EngineInvariant start lists → IsTruncated start lists oldest multi offset → IsMultiAnnounced start lists multi offset
announced_multi start lists oldest multi offset k t =
    let a = flushed_appended start lists t.session (records.Truncate oldest multi offset) t.flushed in
    let e : Entry = record { by = a.0; kind = kinds.Append (records.Truncate oldest multi offset) } in
    (upheld_has (NeedsCounters start) lists log_lock e k.log.counters (contains_has (at lists log_lock) e a.2)).1.1.1

-- the oldest multixact of a truncation that is on disk, from below and from above
pub truncated_multi : (start : Start) (lists : List (List Entry)) (log : KeptLog) (oldest multi offset : ℕ) → EngineInvariant start lists → LogFollows start lists log → IsTruncated start lists oldest multi offset
    → (start.base.oldest_multi ≤ multi) × (multi ≤ (base_at log log.flushed).counters.oldest_multi)
truncated_multi start lists log oldest multi offset k f t =
    let flushed = t.flushed in
    let n : ℕ = flushed.0 in let to : ℕ = flushed.1 in
    let below : start.from + n < to = flushed.5 in
    let upto : to ≤ log.flushed = f.flushed to flushed.6 in
    let m : ℕ = log.flushed - start.from in
    let rec : Rec = records.Truncate oldest multi offset in
    let stands : slice_get (life_recs lists) n ≡ Some (records.Truncate oldest multi offset) = get_map (λ (r : By × Rec). r.1) (records_of lists) n (flushed.2, records.Truncate oldest multi offset) flushed.4 in
    let among : Has (take m (life_recs lists)) (records.Truncate oldest multi offset) = has_taken n m (life_recs lists) (records.Truncate oldest multi offset) (omega arith) stands in
    let announced : IsMultiAnnounced start lists multi offset = announced_multi start lists oldest multi offset k t in (
      ⊎_elim
          (λ (q : (multi ≡ start.base.oldest_multi) × (offset ≡ start.base.oldest_offset)). let z = q.0 in omega arith)
          (λ (q : (by : By) × Contains (multi_history lists) (multis.Raise by multi offset)). raised_from start.base (multi_history lists) q.0 multi offset (multis_are_legal start lists k) q.1)
          announced,
      subst (λ (b : LifeBase). multi ≤ b.counters.oldest_multi) (sym (base_from start lists log log.flushed f f.begun)) (oldest_multi_past start.base (take m (life_recs lists)) oldest multi offset among),
    )

pub oldest_multi_from : (start : Start) (lists : List (List Entry)) (log : KeptLog) → LogFollows start lists log → start.base.oldest_multi ≤ (base_at log log.flushed).counters.oldest_multi
oldest_multi_from start lists log f =
    subst (λ (b : LifeBase). start.base.oldest_multi ≤ b.counters.oldest_multi) (sym (base_from start lists log log.flushed f f.begun)) (oldest_multi_grows start.base (take (log.flushed - start.from) (life_recs lists)))

-- the page of a multixact from the oldest one on isn't gone
not_gone : (start : Start) (lists : List (List Entry)) (log : KeptLog) (bank multi : ℕ) → EngineInvariant start lists → IsBase start.base → LogFollows start lists log → length (made (multi_history lists)) < 2900000
    → (base_at log log.flushed).counters.oldest_multi ≤ multi → multi < next_made start.base.multi (multi_history lists) → MayBeGone (offset_ring start) (at lists (offsets_lock bank)) (word_page_of multi) → ⊥
not_gone start lists log bank multi k is f few from below gone =
    let up = oldest_multi_from start lists log f in
    let room = multis_have_room start.base (multi_history lists) is few in
    let window = room.0 in
    ⊎_elim
    (λ (q : gone.0 ≡ offset_page (multi_before start.base.oldest_multi)).
    kept start.base.oldest_multi multi gone.0 q (omega arith) (omega arith) gone.2)
    (λ (h : (e : Entry) × Contains (at lists (offsets_lock bank)) e × (cut_in e.kind ≡ Some gone.0)).
    let cut = (cut_says start lists (offsets_lock bank) gone.0 h.0 k h.1 h.2).offsets bank refl in
    let t = truncated_multi start lists log cut.0 cut.1 cut.2 k f cut.3 in
    let low = t.0 in let high = t.1 in
    kept cut.1 multi gone.0 cut.4 (omega arith) (omega arith) gone.2)
    gone.1
  where
    back : (n : ℕ) → (multi_before n ≤ n) × (n ≤ multi_before n + 2)
    back n = grind arith

    kept : (o x page : ℕ) → page ≡ offset_page (multi_before o) → o ≤ x → x + 2 ^ 15 + 2 < o + 2 ^ 31 → is_cut Multis 2048 (page % 2097152) (word_page_of x) ≡ true → ⊥
    kept o x page q from near e =
        let b = back o in let b0 = b.0 in let b1 = b.1 in
        let same : page % 2097152 ≡ low_half (multi_before o) / 2048 = ap (λ z. z % 2097152) q ∙ (let w : multi_before o / 2048 % 2097152 ≡ low_half (multi_before o) / 2048 = omega arith in w) in
        not_both (is_cut Multis 2048 (page % 2097152) (word_page_of x)) e
        (ap (λ z. is_cut Multis 2048 z (low_half x / 2048)) same ∙ multi_is_kept (multi_before o) x (omega arith) (omega arith))

-- the window of places reaches back to the oldest multixact
pub wide : (start : Start) (multi : ℕ) → start.base.multi ≤ multi_stop_limit start.base.oldest_multi → start.base.oldest_multi ≤ multi → start.base.multi + 2 ^ 30 ≤ multi + 2 ^ 32
wide start multi stop le = let b : multi_stop_limit start.base.oldest_multi ≤ start.base.oldest_multi + 2 ^ 31 - 2999000 = grind arith in omega arith

-- an image shows what each entry list from the last sync on shows
shows_offset : (start : Start) (lists : List (List Entry)) (log : KeptLog) (shown : ℕ → Option StoredBytes) (bank multi offset : ℕ) (c : Pages) → EngineInvariant start lists → IsBase start.base → LogFollows start lists log → length (made (multi_history lists)) < 2900000
    → (base_at log log.flushed).counters.oldest_multi ≤ multi → multi < next_made start.base.multi (multi_history lists) → word_page_of multi % start.banks ≡ bank → OffsetsFollow start bank shown (at lists (offsets_lock bank)) c
    → ((n : ℕ) → ((s : ℕ) (by : By) → slice_get (at lists (offsets_lock bank)) s ≡ Some (record { by = by; kind = kinds.Sync }) → s < n) → (i : ℕ) → i < 4 → byte_held (shows_of (offset_reading start shown) (take n (at lists (offsets_lock bank))) multi) i ≡ byte_of offset i)
    → (i : ℕ) → i < 4 → offset_byte c multi i ≡ byte_of offset i
shows_offset start lists log shown bank multi offset c k is f few from below on follows each i lt =
    let up = oldest_multi_from start lists log f in
    let room = multis_have_room start.base (multi_history lists) is few in let window = room.0 in let near = room.1 in
    let low = is.oldest_multi in let stop = is.multi in
    let since : ByteSince start shown (at lists (offsets_lock bank)) c multi i = follows multi i (record { from = wide start multi stop (omega arith); to = omega arith }) (ap offsets_lock on) lt in
    ⊎_elim
    (λ (q : offset_byte c multi i ≡ byte_held (shows_of (offset_reading start shown) (take since.count (at lists (offsets_lock bank))) multi) i). q ∙ each since.count since.synced i lt)
    (λ (q : (offset_byte c multi i ≡ 0) × MayBeGone (offset_ring start) (at lists (offsets_lock bank)) (word_page_of multi)). absurd (not_gone start lists log bank multi k is f few from below q.1))
    since.shows

-- a multixact that the life began with
shows_base : (start : Start) (lists : List (List Entry)) (log : KeptLog) (shown : ℕ → Option StoredBytes) (bank multi offset : ℕ) (members : List Member) (c : Pages) → EngineInvariant start lists → IsBase start.base → CleanOffsets start shown → LogFollows start lists log → length (made (multi_history lists)) < 2900000
    → Contains start.recorded (records.Multi multi offset members) → (base_at log log.flushed).counters.oldest_multi ≤ multi → word_page_of multi % start.banks ≡ bank → OffsetsFollow start bank shown (at lists (offsets_lock bank)) c → (i : ℕ) → i < 4 → offset_byte c multi i ≡ byte_of offset i
shows_base start lists log shown bank multi offset members c k is clean f few among from on follows =
    let up = oldest_multi_from start lists log f in
    let old : multi < start.base.multi = clean.before multi offset members among in
    let next : start.base.multi ≤ next_made start.base.multi (multi_history lists) = made_more start.base.multi [] (multi_history lists) (multi_history lists, refl) in
    let es : List Entry = at lists (offsets_lock bank) in
    shows_offset start lists log shown bank multi offset c k is f few from (omega arith) on follows (λ n synced i lt.
    ap (λ (o : Option StoredBytes). byte_held o i)
    (offset_bytes_show start lists shown (offsets_lock bank) n multi k clean.clean (omega arith)
    ∙ last_none (shown multi) (filter_map (offset_bytes_for multi) (flat_map offsets_in (take n es))) (λ y j.
    let r = has_filter_map (offset_bytes_for multi) (flat_map offsets_in (take n es)) y j in
    let o = set_given start lists bank n r.0 k r.1 in
    let same = (offset_at multi y r.0 r.2).0 in
    let low = given_from start lists o.recorded.by r.0.multi r.0.offset o.members k o.recorded.given in
    omega arith))
    ∙ clean.recorded multi offset members among (omega arith) i lt)

-- the records of the base at a number from the life's start on
pub recorded_cases : (start : Start) (lists : List (List Entry)) (log : KeptLog) (n : ℕ) (rec : Rec) → LogFollows start lists log → start.from ≤ n → Contains (base_at log n).recorded rec → Has start.recorded rec ⊎ Has (take (n - start.from) (life_recs lists)) rec
recorded_cases start lists log n rec f up c = recorded_split start (take (n - start.from) (life_recs lists)) rec (subst (λ (b : LifeBase). Contains b.recorded rec) (base_from start lists log n f up) c)

-- a record of a multixact was appended for one that was given
pub appended_gen : (start : Start) (lists : List (List Entry)) (place : ℕ) (by : By) (multi offset : ℕ) (members : List Member) → EngineInvariant start lists → slice_get (records_of lists) place ≡ Some (by, records.Multi multi offset members)
    → (b : By) × Has (multi_history lists) (multis.Gen b multi offset members)
appended_gen start lists place by multi offset members k stands =
    let logged = logged_at start lists place by (records.Multi multi offset members) stands in
    let need = upheld_has (NeedsNamed start) lists log_lock (record { by = by; kind = kinds.Append (records.Multi multi offset members) }) k.log.named logged in
    let gen : IsGenOf lists by.session multi offset members = need.1.0 in
    (gen.0, contains_has (multi_history lists) (multis.Gen gen.0 multi offset members) gen.2)

-- and its members are full ids
pub appended_full : (start : Start) (lists : List (List Entry)) (place : ℕ) (by : By) (multi offset : ℕ) (members : List Member) → EngineInvariant start lists → slice_get (records_of lists) place ≡ Some (by, records.Multi multi offset members)
    → (id : ℕ) → Contains (ids_of members) id → IsFullId id
appended_full start lists place by multi offset members k stands =
    let logged = logged_at start lists place by (records.Multi multi offset members) stands in
    let need = upheld_has (NeedsNamed start) lists log_lock (record { by = by; kind = kinds.Append (records.Multi multi offset members) }) k.log.named logged in
    need.1.2

-- the log ends behind the records from before the life
pub life_end : (start : Start) (lists : List (List Entry)) (log : KeptLog) → LogFollows start lists log → start.from ≤ log_end log
life_end start lists log f =
    let from = f.from in
    let long : length log.recs ≡ length f.before + length (life_recs lists) = ap (λ (t : List Rec). length t) f.recs ∙ length-append f.before (life_recs lists) in
    omega arith

-- one that stands before a checkpoint before which the log was to be forgotten
pub recorded_below : (start : Start) (lists : List (List Entry)) (before : List Entry) (number multi offset : ℕ) (members : List Member) → EngineInvariant start lists → Begins before (at lists log_lock) → MayForget start lists before number
    → Has (take (number - start.from) (life_recs lists)) (records.Multi multi offset members) → IsMultiBelow start before number multi offset members × ((b : By) × Has (multi_history lists) (multis.Gen b multi offset members))
recorded_below start lists before number multi offset members k begins may among =
    let rec : Rec = records.Multi multi offset members in
    let p = taken_place (number - start.from) (life_recs lists) rec among in
    let g = map_get (λ (t : By × Rec). t.1) (records_of lists) p.0 rec p.2 in
    let low : p.0 < number - start.from = p.1 in
    let stands : slice_get (records_of lists) p.0 ≡ Some (g.0.0, records.Multi multi offset members) = g.1 ∙ ap (λ (z : Rec). Some (g.0.0, z)) g.2 in
    let first : slice_get (records_in before) p.0 ≡ Some (g.0.0, records.Multi multi offset members)
    = get_in_beginning (records_in before) (records_of lists) (number - start.from) p.0 (may.by, records.Checkpoint number may.counters) (g.0.0, records.Multi multi offset members) (begins_filter_map appended before (at lists log_lock) begins) may.checkpoint low stands in
    let named : IsMultiBelow start before number multi offset members = record { place = p.0; by = g.0.0; stands = first; below = omega arith } in
    (named, appended_gen start lists p.0 g.0.0 multi offset members k stands)

-- one that was recorded before a checkpoint before which the log was to be forgotten
shows_synced : (start : Start) (lists : List (List Entry)) (log : KeptLog) (shown : ℕ → Option StoredBytes) (bank number multi offset : ℕ) (members : List Member) (before : List Entry) (c : Pages) → EngineInvariant start lists → IsBase start.base → CleanOffsets start shown → LogFollows start lists log → length (made (multi_history lists)) < 2900000
    → bank < start.banks → Begins before (at lists log_lock) → MayForget start lists before number → Has (take (number - start.from) (life_recs lists)) (records.Multi multi offset members)
    → (base_at log log.flushed).counters.oldest_multi ≤ multi → word_page_of multi % start.banks ≡ bank → OffsetsFollow start bank shown (at lists (offsets_lock bank)) c → (i : ℕ) → i < 4 → offset_byte c multi i ≡ byte_of offset i
shows_synced start lists log shown bank number multi offset members before c k is clean f few inside begins may among from on follows =
    let es : List Entry = at lists (offsets_lock bank) in
    let r = recorded_below start lists before number multi offset members k begins may among in
    let named = r.0 in let gen = r.1 in
    let legal = multis_are_legal start lists k in
    let made_gen : Has (multi_history lists) (multis.Gen gen.0 multi offset members) = gen.1 in
    let below : multi < next_made start.base.multi (multi_history lists) = gen_below start.base gen.0 multi offset members (multi_history lists) legal made_gen in
    let near = (multis_have_room start.base (multi_history lists) is few).1 in
    let synced : AreOffsetsSynced start (at lists (offsets_lock bank)) bank (IsMultiBelow start before number) = may.offsets bank inside in
    let sync = synced.synced in
    ⊎_elim
    (λ (set : (caller : By) × Contains (flat_map offsets_in synced.before) (record { caller = caller; multi = multi; offset = offset })).
    let item : SetOffset = record { caller = set.0; multi = multi; offset = offset } in
    let bytes_for : ℕ → StoredBytes = λ z i. byte_of z i in
    let bytes : StoredBytes = λ i. byte_of offset i in
    shows_offset start lists log shown bank multi offset c k is f few from below on follows (λ n since i lt.
    let later : sync.place < n = since sync.place sync.by sync.sync in
    let e = has_flat_map offsets_in synced.before item (contains_has (flat_map offsets_in synced.before) item set.1) in
    let stood : Has (take sync.place es) e.0 = subst (λ (t : List Entry). Has t e.0) (sym sync.front) e.1 in
    let longer : Has (flat_map offsets_in (take n es)) item = flat_map_has offsets_in (take n es) e.0 item (has_longer sync.place n es e.0 (omega arith) stood) e.2 in
    let own : offset_bytes_for multi item ≡ Some bytes = offset_to multi item refl in
    ap (λ (o : Option StoredBytes). byte_held o i)
    (offset_bytes_show start lists shown (offsets_lock bank) n multi k clean.clean (omega arith)
    ∙ last_some (shown multi) (filter_map (offset_bytes_for multi) (flat_map offsets_in (take n es))) bytes (filter_map_has (offset_bytes_for multi) (flat_map offsets_in (take n es)) item bytes longer own) (λ y j.
    let r = has_filter_map (offset_bytes_for multi) (flat_map offsets_in (take n es)) y j in
    let o = set_given start lists bank n r.0 k r.1 in
    let read = offset_at multi y r.0 r.2 in
    let other : Has (multi_history lists) (multis.Gen o.recorded.by multi r.0.offset o.members) = subst (λ z. Has (multi_history lists) (multis.Gen o.recorded.by z r.0.offset o.members)) read.0 (contains_has (multi_history lists) (multis.Gen o.recorded.by r.0.multi r.0.offset o.members) o.recorded.given) in
    let one : r.0.offset ≡ offset = one_offset start.base o.recorded.by gen.0 multi r.0.offset offset o.members members (multi_history lists) legal other made_gen in
    sym read.1 ∙ ap bytes_for one))))
    (λ (gone : IsOffsetGone synced.before multi).
    let entry : Has es gone.0 = has_take sync.place es gone.0 (subst (λ (t : List Entry). Has t gone.0) (sym sync.front) (contains_has synced.before gone.0 gone.2)) in
    absurd (not_gone start lists log bank multi k is f few from below (gone.1, inr (gone.0, has_contains es gone.0 entry, gone.3), gone.4)))
    (synced.each multi offset members named (ap offsets_lock on))

-- what was recorded before the life is recorded in its base
pub earlier_recorded : (start : Start) (lists : List (List Entry)) (log : KeptLog) (n : ℕ) (rec : Rec) → LogFollows start lists log → n ≤ start.from → Contains (base_at log n).recorded rec → Contains start.recorded rec
earlier_recorded start lists log n rec f le c =
    let from : start.from ≡ log.first + length f.before = f.from in
    let all : log.base.recorded ++ filter is_multi f.before ≡ start.recorded = ap (λ (b : LifeBase). b.recorded) f.base in
    subst (λ (t : List Rec). Contains t rec) all
    (has_contains (log.base.recorded ++ filter is_multi f.before) rec
    (⊎_elim
    (λ h. has_left log.base.recorded (filter is_multi f.before) rec h)
    (λ (h : Has (filter is_multi (take (n - log.first) log.recs)) rec).
    let r = has_filter is_multi (take (n - log.first) log.recs) rec h in
    let within : Has f.before rec = has_within f.before (life_recs lists) (n - log.first) rec (omega arith) (subst (λ (t : List Rec). Has (take (n - log.first) t) rec) f.recs r.0) in
    has_right log.base.recorded (filter is_multi f.before) rec (filter_has is_multi f.before rec within r.1))
    (has_cases log.base.recorded (filter is_multi (take (n - log.first) log.recs)) rec (contains_has (base_at log n).recorded rec c))))

pub offsets_shown : OffsetsShownLaw
offsets_shown start lists shown log bank n c k is clean f beginning few inside follows multi offset members among from on =
    ⊎_elim
    (λ (lt : n < start.from). shows_base start lists log shown bank multi offset members c k is clean f few (earlier_recorded start lists log n (records.Multi multi offset members) f (omega arith) among) from on follows)
    (λ h.
    let may = may_forget start lists n k h in
    let up : start.from ≤ n = may.2.from in
    ⊎_elim
    (λ a. shows_base start lists log shown bank multi offset members c k is clean f few (has_contains start.recorded (records.Multi multi offset members) a) from on follows)
    (λ a. shows_synced start lists log shown bank n multi offset members may.0 c k is clean f few inside may.1 may.2 a from on follows)
    (recorded_cases start lists log n (records.Multi multi offset members) f up among))
    beginning
