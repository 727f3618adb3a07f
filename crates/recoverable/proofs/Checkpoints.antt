-- Where a log may be forgotten up to stands a checkpoint, on disk, with counters that are the log's behind it.
use Rattle.std.proofs.Common.{⊎_elim, List, None, Option, Some, [], ap, arith, length, map, max, refl, subst, suc, sym, take, zero, ℕ, Contains, ◌++◌, ◌+◌, ◌-◌, ◌<◌, ◌∙◌, ◌∷◌, ◌≡◌, ◌≤◌}
use Rattle.std.proofs.lemmas.List.Sums.{fold_push}
use Rattle.std.specs.List.{cons_option, filter_map, slice_get}
use Rattle.tx_events.specs.declared.event.By.{By}
use Rattle.tx_events.specs.declared.record.Counters.{Counters}
use Rattle.tx_events.specs.declared.record.Rec.{Rec}
use Rattle.tx_events.specs.declared.record.Rec.TheVariants as records
use Rattle.tx_events.proofs.Membership.{contains_has, has_contains, has_left}
use Rattle.tx_events.proofs.PlaceLemmas.{slice_get-grows}
use Rattle.tx_events.specs.After.{after_record, after_records}
use Rattle.tx_core.specs.declared.entry.Entry.{Entry}
use Rattle.tx_core.specs.declared.entry.Kind.TheVariants as kinds
use Rattle.tx_core.specs.declared.entry.Start.{Start}
use Rattle.tx_core.proofs.Growing.{begins_filter_map}
use Rattle.tx_core.proofs.Reading.{appended_is}
use Rattle.tx_core.specs.EngineInvariant.{EngineInvariant}
use Rattle.tx_core.specs.Entries.{appended, records_in, records_of, recs_in}
use Rattle.notes.specs.Lists.{Begins, at}
use Rattle.tx_core.specs.Locks.{log_lock}
use Rattle.tx_core.specs.RecordsFollow.{AppendOf, AreNotBelow}
use Rattle.tx_core.specs.SyncsBeforeForgets.{MayForget}
use Rattle.recoverable.specs.Fit.{KeptLog, MayBegin, base_at}
use Rattle.recoverable.specs.Laws.{LogFollows, MayBeginLaw}
use Rattle.tx_events.specs.LifeBase.{LifeBase}
use Rattle.recoverable.specs.Volumes.{IsWholeAt}
use Rattle.tx_events.proofs.ListSteps.{le_or_over}
use Rattle.recoverable.proofs.FitsXact.{may_forget}
use Rattle.recoverable.proofs.LogBases.{base_from, life_recs}
use Rattle.recoverable.proofs.Stretches.{get_map, map_get}

-- where an item of a filtered list comes from
module _ {A B : Type 0} where
  record Found (f : A → Option B) (xs : List A) (j : ℕ) (y : B) : Type 0 where
    place : ℕ
    item : A
    stands : slice_get xs place ≡ Some item
    is : f item ≡ Some y
    front : filter_map f (take place xs) ≡ take j (filter_map f xs)

  find_step : (f : A → Option B) (x : A) (xs : List A) (y : B) → ((j : ℕ) → slice_get (filter_map f xs) j ≡ Some y → Found f xs j y) → (o : Option B) → f x ≡ o → (j : ℕ) → slice_get (cons_option o (filter_map f xs)) j ≡ Some y → Found f (x ∷ xs) j y
  find_step f x xs y rest None g j e =
      let r = rest j e in
      let whole : filter_map f (x ∷ xs) ≡ filter_map f xs = ap (λ (o : Option B). cons_option o (filter_map f xs)) g in
      record {
        place = suc r.place;
        item = r.item;
        stands = r.stands;
        is = r.is;
        front = ap (λ (o : Option B). cons_option o (filter_map f (take r.place xs))) g ∙ r.front ∙ ap (λ (t : List B). take j t) (sym whole);
      }
  find_step f x xs y rest (Some z) g zero e = record { place = 0; item = x; stands = refl; is = g ∙ e; front = refl }
  find_step f x xs y rest (Some z) g (suc j) e =
      let r = rest j e in
      let whole : filter_map f (x ∷ xs) ≡ z ∷ filter_map f xs = ap (λ (o : Option B). cons_option o (filter_map f xs)) g in
      record {
        place = suc r.place;
        item = r.item;
        stands = r.stands;
        is = r.is;
        front = ap (λ (o : Option B). cons_option o (filter_map f (take r.place xs))) g ∙ ap (λ (t : List B). z ∷ t) r.front ∙ ap (λ (t : List B). take (suc j) t) (sym whole);
      }

  find : (f : A → Option B) (xs : List A) (j : ℕ) (y : B) → slice_get (filter_map f xs) j ≡ Some y → Found f xs j y
  find f [] j y e = absurd cc
  find f (x ∷ xs) j y e = find_step f x xs y (λ i at. find f xs i y at) (f x) refl j e

  map_take : (f : A → B) (j : ℕ) (xs : List A) → map f (take j xs) ≡ take j (map f xs)
  map_take f zero xs = refl
  map_take f (suc j) [] = refl
  map_take f (suc j) (x ∷ xs) = ap (λ (t : List B). f x ∷ t) (map_take f j xs)

module _ {A : Type 0} where
  -- what stands behind another list
  pub get_past : (xs ys : List A) (j : ℕ) → slice_get (xs ++ ys) (length xs + j) ≡ slice_get ys j
  get_past [] ys j = let e : 0 + j ≡ j = omega arith in ap (λ n. slice_get ys n) e
  get_past (x ∷ xs) ys j = let e : suc (length xs) + j ≡ suc (length xs + j) = omega arith in ap (λ n. slice_get (x ∷ (xs ++ ys)) n) e ∙ get_past xs ys j

  -- one item more
  pub take_next : (xs : List A) (j : ℕ) (x : A) → slice_get xs j ≡ Some x → take (suc j) xs ≡ take j xs ++ x ∷ []
  take_next [] j x e = absurd cc
  take_next (y ∷ ys) zero x e = let q : y ≡ x = cc in ap (λ (z : A). z ∷ []) q
  take_next (y ∷ ys) (suc j) x e = ap (λ (t : List A). y ∷ t) (take_next ys j x e)

-- the record of the checkpoint, among all that were appended
stands_at : (start : Start) (lists : List (List Entry)) (n : ℕ) (before : List Entry) → Begins before (at lists log_lock) → (may : MayForget start lists before n) → slice_get (records_of lists) (n - start.from) ≡ Some (may.by, records.Checkpoint n may.counters)
stands_at start lists n before begins may =
    let b : Begins (records_in before) (records_of lists) = begins_filter_map appended before (at lists log_lock) begins in
    subst (λ (t : List (By × Rec)). slice_get t (n - start.from) ≡ Some (may.by, records.Checkpoint n may.counters)) b.1 (slice_get-grows (records_in before) b.0 (may.by, records.Checkpoint n may.counters) (n - start.from) may.checkpoint)

-- counters that are not below others are theirs behind them
pub raised_to : (low high : Counters) (n : ℕ) → AreNotBelow low high → after_record low (records.Checkpoint n high) ≡ high
raised_to low high n below =
    let next : max low.next high.next ≡ high.next = top low.next high.next below.next in
    let oldest : max low.oldest high.oldest ≡ high.oldest = top low.oldest high.oldest below.oldest in
    let multi : max low.multi high.multi ≡ high.multi = top low.multi high.multi below.multi in
    let offset : max low.offset high.offset ≡ high.offset = top low.offset high.offset below.offset in
    let oldest_multi : max low.oldest_multi high.oldest_multi ≡ high.oldest_multi = top low.oldest_multi high.oldest_multi below.oldest_multi in
    let oldest_offset : max low.oldest_offset high.oldest_offset ≡ high.oldest_offset = top low.oldest_offset high.oldest_offset below.oldest_offset in
    λ i. record { next = next i; oldest = oldest i; multi = multi i; offset = offset i; oldest_multi = oldest_multi i; oldest_offset = oldest_offset i }
  where
    top : (a b : ℕ) → a ≤ b → max a b ≡ b
    top a b le = grind arith

-- a record's entry was added behind the records before it, and met what its kind needs
pub append_at : (start : Start) (lists : List (List Entry)) (j : ℕ) (by : By) (rec : Rec) → EngineInvariant start lists → slice_get (records_of lists) j ≡ Some (by, rec)
    → (before : List Entry) × (recs_in before ≡ take j (life_recs lists)) × AppendOf start lists before (kinds.Append rec)
append_at start lists j by rec k stands =
    let found : Found appended (at lists log_lock) j (by, rec) = find appended (at lists log_lock) j (by, rec) stands in
    let kind : found.item.kind ≡ kinds.Append rec = appended_is found.item.by found.item.kind (by, rec) found.is in (
      take found.place (at lists log_lock),
      ap (λ (t : List (By × Rec)). map (λ r. r.1) t) found.front ∙ map_take (λ (r : By × Rec). r.1) j (records_of lists),
      subst (AppendOf start lists (take found.place (at lists log_lock))) kind (k.log.counters.each log_lock found.place found.item found.stands),
    )

-- behind a checkpoint of the life the counters are its own
pub whole_at : (start : Start) (lists : List (List Entry)) (log : KeptLog) (n : ℕ) (by : By) (counters : Counters) → EngineInvariant start lists → LogFollows start lists log → start.from ≤ n
    → slice_get (records_of lists) (n - start.from) ≡ Some (by, records.Checkpoint n counters) → (base_at log (n + 1)).counters ≡ counters
whole_at start lists log n by counters k f from stands =
    let added = append_at start lists (n - start.from) by (records.Checkpoint n counters) k stands in
    let below : AreNotBelow (after_records start.base (take (n - start.from) (life_recs lists))) counters = subst (λ (t : List Rec). AreNotBelow (after_records start.base t) counters) added.1 added.2.1.not_below in
    let here : slice_get (life_recs lists) (n - start.from) ≡ Some (records.Checkpoint n counters) = get_map (λ (r : By × Rec). r.1) (records_of lists) (n - start.from) (by, records.Checkpoint n counters) stands in
    let next : n + 1 - start.from ≡ suc (n - start.from) = omega arith in
    let behind : take (n + 1 - start.from) (life_recs lists) ≡ take (n - start.from) (life_recs lists) ++ records.Checkpoint n counters ∷ []
    = ap (λ z. take z (life_recs lists)) next ∙ take_next (life_recs lists) (n - start.from) (records.Checkpoint n counters) here in
    ap (λ (b : LifeBase). b.counters) (base_from start lists log (n + 1) f (omega arith))
    ∙ ap (λ (t : List Rec). after_records start.base t) behind
    ∙ fold_push after_record start.base (take (n - start.from) (life_recs lists)) (records.Checkpoint n counters)
    ∙ raised_to (after_records start.base (take (n - start.from) (life_recs lists))) counters n below

pub counters_at : (start : Start) (lists : List (List Entry)) (log : KeptLog) (n : ℕ) (before : List Entry) → EngineInvariant start lists → LogFollows start lists log → Begins before (at lists log_lock) → (may : MayForget start lists before n)
    → (base_at log (n + 1)).counters ≡ may.counters
counters_at start lists log n before k f begins may = whole_at start lists log n may.by may.counters k f may.from (stands_at start lists n before begins may)

-- it is on disk
pub checkpoint_flushed : (start : Start) (lists : List (List Entry)) (log : KeptLog) (n : ℕ) (before : List Entry) → LogFollows start lists log → Begins before (at lists log_lock) → MayForget start lists before n → n < log.flushed
checkpoint_flushed start lists log n before f begins may =
    let e : Entry = record { by = may.flush; kind = kinds.Flush may.to } in
    let flush : Contains (at lists log_lock) (record { by = may.flush; kind = kinds.Flush may.to }) =
    subst (λ (t : List Entry). Contains t (record { by = may.flush; kind = kinds.Flush may.to })) begins.1
    (has_contains (before ++ begins.0) (record { by = may.flush; kind = kinds.Flush may.to }) (has_left before begins.0 (record { by = may.flush; kind = kinds.Flush may.to }) (contains_has before (record { by = may.flush; kind = kinds.Flush may.to }) may.flushed))) in
    let upto : may.to ≤ log.flushed = f.flushed may.to (may.flush, flush) in
    let past = may.past in omega arith

-- what stands in a log from the life's start on was appended by an entry
pub appended_at : (start : Start) (lists : List (List Entry)) (log : KeptLog) (n : ℕ) (rec : Rec) → LogFollows start lists log → start.from ≤ n → slice_get log.recs (n - log.first) ≡ Some rec
    → (by : By) × (slice_get (records_of lists) (n - start.from) ≡ Some (by, rec))
appended_at start lists log n rec f le stands =
    let from = f.from in
    let place : n - log.first ≡ length f.before + (n - start.from) = omega arith in
    let here : slice_get (life_recs lists) (n - start.from) ≡ Some rec
    = sym (get_past f.before (life_recs lists) (n - start.from)) ∙ ap (λ j. slice_get (f.before ++ life_recs lists) j) (sym place) ∙ ap (λ (t : List Rec). slice_get t (n - log.first)) (sym f.recs) ∙ stands in
    let g = map_get (λ (t : By × Rec). t.1) (records_of lists) (n - start.from) rec here in
    (g.0.0, g.1 ∙ ap (λ (z : Rec). Some (g.0.0, z)) g.2)

-- so each checkpoint of the log is whole
pub whole_in : (start : Start) (lists : List (List Entry)) (log : KeptLog) (n : ℕ) → EngineInvariant start lists → LogFollows start lists log → log.first ≤ n → IsWholeAt log n
whole_in start lists log n k f first counters stands =
    ⊎_elim
    (λ (le : start.from ≤ n). let a = appended_at start lists log n (records.Checkpoint n counters) f le stands in whole_at start lists log n a.0 counters k f le a.1)
    (λ (lt : n < start.from). f.whole n first lt counters stands)
    (le_or_over start.from n)

-- and the log may begin at a checkpoint of the life that is on disk
pub begins_at : (start : Start) (lists : List (List Entry)) (log : KeptLog) (n : ℕ) (by : By) (counters : Counters) → EngineInvariant start lists → LogFollows start lists log → start.from ≤ n
    → slice_get (records_of lists) (n - start.from) ≡ Some (by, records.Checkpoint n counters) → n < log.flushed → MayBegin log n
begins_at start lists log n by counters k f from stands flushed =
    let first = f.from in
    let place : n - log.first ≡ length f.before + (n - start.from) = omega arith in
    record {
      from = omega arith;
      flushed = flushed;
      counters = counters;
      checkpoint = ap (λ (t : List Rec). slice_get t (n - log.first)) f.recs ∙ ap (λ j. slice_get (f.before ++ life_recs lists) j) place ∙ get_past f.before (life_recs lists) (n - start.from)
          ∙ get_map (λ (r : By × Rec). r.1) (records_of lists) (n - start.from) (by, records.Checkpoint n counters) stands;
      whole = whole_at start lists log n by counters k f from stands;
    }

pub may_begin : MayBeginLaw
may_begin start lists log n k f forgotten =
    let m = may_forget start lists n k forgotten in
    let may = m.2 in
    begins_at start lists log n may.by may.counters k f may.from (stands_at start lists n m.0 m.1 may) (checkpoint_flushed start lists log n m.0 f m.1 may)
