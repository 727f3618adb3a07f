-- The log stands for its list after each call.
use Rattle.std.proofs.Common.{Contains, drop, inl, inr, ⊎_elim, ◌⊎◌, ◌≡◌, ◌≢◌, ℕ, ◌+◌, ◌-◌, ◌≤◌, ◌<◌, List, [], ◌∷◌, ◌++◌, refl, sym, ap, subst, ◌∙◌, append-nil, append_assoc, length, map, arith, Bool, IsTrue, Option, Some, None, ◌||◌, false, true}
use Rattle.std.proofs.Math.Seq.{drop-append_seam}
use Rattle.std.proofs.lemmas.Bool.{false≢true}
use Rattle.std.proofs.lemmas.List.{map_push, length-append}
use Rattle.std.proofs.lemmas.List.Elements.{Contains-append_left, Contains-push, filter_map-append}
use Rattle.std.specs.List.{cons_option, filter_map, list_any}
use Rattle.std.proofs.lemmas.List.Sums.{fold_push}
use Rattle.disk_core.specs.Volume.{Volume}
use Rattle.tx_events.specs.declared.event.By.{By}
use Rattle.tx_events.specs.declared.record.Counters.{Counters}
use Rattle.tx_events.specs.declared.record.Rec.{Rec}
use Rattle.tx_events.proofs.Membership.{by_end}
use Rattle.tx_events.specs.After.{after_record, after_records}
use Rattle.tx_core.specs.declared.entry.Entry.{Entry}
use Rattle.tx_core.specs.declared.entry.Kind.{Kind}
use Rattle.tx_core.specs.declared.entry.Kind.TheVariants as kinds
use Rattle.tx_core.specs.declared.entry.LogCall.{LogCall}
use Rattle.tx_core.specs.declared.entry.LogCall.TheVariants as calls
use Rattle.tx_core.specs.declared.entry.Start.{Start}
use Rattle.tx_core.specs.Entries.{appended, flushed_in, flushed_to, last_from}
use Rattle.disk_core.specs.declared.log_disk.LogDisk as logs
use Rattle.wal_core.specs.declared.wal_log.WalLog.{WalLog}
use Rattle.wal_core.specs.Kept.{BeginWith, KeepsRecords, first_on, other_behind}
use Rattle.wal_core.specs.LogViews.{log_checkpoint, log_counters, log_disk, log_down, log_end, log_first, log_flushed, log_next, log_pending, log_recs}
use Rattle.tx_core.specs.RecordsFollow.{counters_after}
use Rattle.tx_core.specs.Entries.{recs_in}
use Rattle.engine_parts.specs.Parts.{IsLogOf}
use Rattle.std.proofs.lemmas.List.Folds.{list_any-append}
use Rattle.tx_core.specs.FaultsRise.{count_in, faults_at, faults_told}
use Rattle.tx_core.specs.Locks.{log_lock}
use Rattle.tx_core.specs.StaysDown.{IsUp, is_put_down, puts_down}
use Rattle.tx_core.proofs.LastNumbers.{number_push, number_same}
use Rattle.wal_core.specs.Checkpoint.{IsLastCheckpoint}
use Rattle.wal_core.specs.declared.checkpoint.LastCheckpoint.{LastCheckpoint}
use Rattle.tx_events.specs.declared.record.Rec.TheVariants as records
use Rattle.engine_parts.specs.LogTail.{LacksRoom, LogTail, log_tail, tail_after, tail_of}
use Rattle.engine_parts.proofs.Tails.{no_room_needed, room_push, tail_push}
use Rattle.engine_parts.specs.Stand.{EndsInCheckpoint, IsDownAt, IsFirstKept, LogStands, MayForgetThere, begin_asked, begin_asked_in, begin_other, forgotten_in, other_from}

-- one entry more
recs_push : (es : List Entry) (e : Entry) (rec : Rec) → appended e ≡ Some (e.by, rec) → recs_in (es ++ e ∷ []) ≡ recs_in es ++ rec ∷ []
recs_push es e rec is = ap (map (λ (a : By × Rec). a.1)) (filter_map-append appended es (e ∷ []) ∙ ap (λ o. filter_map appended es ++ cons_option o []) is) ∙ map_push (λ (a : By × Rec). a.1) (filter_map appended es) (e.by, rec)

pub recs_same : (es : List Entry) (e : Entry) → appended e ≡ None → recs_in (es ++ e ∷ []) ≡ recs_in es
recs_same es e is = ap (map (λ (a : By × Rec). a.1)) (filter_map-append appended es (e ∷ []) ∙ (ap (λ o. filter_map appended es ++ cons_option o []) is ∙ append-nil (filter_map appended es)))

pub failed_more : (start : Start) (es : List Entry) (e : Entry) (n : ℕ) → IsDownAt start es n → IsDownAt start (es ++ e ∷ []) n
failed_more start es e n d =
    let x : Entry = record { by = d.by; kind = kinds.LogFault d.asked d.count } in record {
      before = d.before;
      rest = d.rest ++ e ∷ [];
      by = d.by;
      asked = d.asked;
      count = d.count;
      down = d.down;
      split = ap (λ (t : List Entry). t ++ e ∷ []) d.split ∙ append_assoc d.before (x ∷ d.rest) (e ∷ []);
      flushed_is = d.flushed_is;
    }

pub failed_here : (start : Start) (es : List Entry) (by : By) (asked : LogCall) (count n : ℕ) → puts_down asked ≡ true → n ≡ flushed_to start es → IsDownAt start (es ++ record { by = by; kind = kinds.LogFault asked count } ∷ []) n
failed_here start es by asked count n down is = record { before = es; rest = []; by = by; asked = asked; count = count; down = down; split = refl; flushed_is = is }

-- a log that isn't down, and an entry more that doesn't put it down
pub up_more : (es : List Entry) (e : Entry) → is_put_down e.kind ≡ false → IsUp es → IsUp (es ++ e ∷ [])
up_more es e none up = list_any-append (λ (d : Entry). is_put_down d.kind) es (e ∷ []) ∙ (λ j. up j || (none j || false))

front_false : (a b : Bool) → (a || b) ≡ false → a ≡ false
front_false true b e = e
front_false false b e = refl

-- a log that isn't down wasn't before its last entry
up_before : (es : List Entry) (e : Entry) → IsUp (es ++ e ∷ []) → IsUp es
up_before es e up = front_false (list_any (λ (d : Entry). is_put_down d.kind) es) (list_any (λ (d : Entry). is_put_down d.kind) (e ∷ [])) (sym (list_any-append (λ (d : Entry). is_put_down d.kind) es (e ∷ [])) ∙ up)

-- an entry that was to forget nothing forgot nothing
none_forgotten : (k : Kind) → begin_asked_in k ≡ None → forgotten_in k ≡ None
none_forgotten (kinds.Forget number) none = absurd cc
none_forgotten (kinds.Append rec) none = refl
none_forgotten (kinds.Flush to) none = refl
none_forgotten (kinds.LogFault asked count) none = refl
none_forgotten (kinds.Event event) none = refl
none_forgotten (kinds.Made id) none = refl
none_forgotten (kinds.Multi event) none = refl
none_forgotten (kinds.Post number) none = refl
none_forgotten (kinds.Set changes) none = refl
none_forgotten (kinds.Zero page) none = refl
none_forgotten (kinds.Cut page) none = refl
none_forgotten kinds.Sync none = refl
none_forgotten (kinds.Fault callers changes cut count) none = refl
none_forgotten (kinds.Request changes) none = refl
none_forgotten kinds.Look none = refl

-- what may be kept first may be so with an entry more, that was to forget nothing
pub first_more : (start : Start) (es : List Entry) (e : Entry) (n : ℕ) → begin_asked_in e.kind ≡ None → IsFirstKept start es n → IsFirstKept start (es ++ e ∷ []) n
first_more start es e n none kept = record {
  exact = kept.exact ∙ sym (number_same begin_asked_in (start.from - 1) es e none);
  one = ⊎_elim
      (λ (low : n < start.from). inl low)
      (⊎_elim
      (λ (k : (by : By) × Contains es (record { by = by; kind = kinds.Forget n })). inr (inl (k.0, Contains-append_left es (e ∷ []) (record { by = k.0; kind = kinds.Forget n }) k.1)))
      (λ (k : (count : ℕ) × (by : By) × Contains es (record { by = by; kind = kinds.LogFault (calls.Forget n) count })). inr (inr (k.0, k.1, Contains-append_left es (e ∷ []) (record { by = k.1; kind = kinds.LogFault (calls.Forget n) k.0 }) k.2))))
      kept.one;
  behind = λ up. subst (λ z. z ≤ n) (sym (number_same forgotten_in 0 es e (none_forgotten e.kind none))) (kept.behind (up_before es e up));
}

pub first_same : (start : Start) (es : List Entry) (e : Entry) (n m : ℕ) → m ≡ n → begin_asked_in e.kind ≡ None → IsFirstKept start es n → IsFirstKept start (es ++ e ∷ []) m
first_same start es e n m same none k = first_more start es e m none (subst (λ z. IsFirstKept start es z) (sym same) k)

-- ---- with which other record its images may begin

other_push : (kept other : ℕ) (numbers : List ℕ) (number : ℕ) → other_from kept other (numbers ++ number ∷ []) ≡ other_behind number (last_from kept numbers) (other_from kept other numbers)
other_push kept other [] number = refl
other_push kept other (n ∷ numbers) number = other_push n (other_behind n kept other) numbers number

other_same : (before : ℕ) (start : Start) (es : List Entry) (e : Entry) → begin_asked_in e.kind ≡ None → begin_other before start (es ++ e ∷ []) ≡ begin_other before start es
other_same before start es e none =
    ap (other_from (start.from - 1) before) (filter_map-append (λ (d : Entry). begin_asked_in d.kind) es (e ∷ [])
    ∙ (ap (λ o. filter_map (λ (d : Entry). begin_asked_in d.kind) es ++ cons_option o []) none ∙ append-nil (filter_map (λ (d : Entry). begin_asked_in d.kind) es)))

-- with an entry more, that was to forget before a checkpoint
pub other_asked : (before : ℕ) (start : Start) (es : List Entry) (e : Entry) (number : ℕ) → begin_asked_in e.kind ≡ Some number → begin_other before start (es ++ e ∷ []) ≡ other_behind number (begin_asked start es) (begin_other before start es)
other_asked before start es e number is =
    ap (other_from (start.from - 1) before) (filter_map-append (λ (d : Entry). begin_asked_in d.kind) es (e ∷ []) ∙ ap (λ o. filter_map (λ (d : Entry). begin_asked_in d.kind) es ++ cons_option o []) is)
    ∙ other_push (start.from - 1) before (filter_map (λ (d : Entry). begin_asked_in d.kind) es) number

-- and with one that was to forget nothing, where each image begins as one of before
pub others_same : (start : Start) (es : List Entry) (e : Entry) (tells : Bool) (images images' : Volume → Type 0) (first first' : ℕ) → begin_asked_in e.kind ≡ None → (IsTrue tells → (before : ℕ) × BeginWith first (begin_other before start es) images)
    → (IsTrue tells → (other : ℕ) → BeginWith first other images → BeginWith first' other images') → IsTrue tells → (before : ℕ) × BeginWith first' (begin_other before start (es ++ e ∷ [])) images'
others_same start es e tells images images' first first' none old same told =
    let o = old told in (o.0, subst (λ (n : ℕ). BeginWith first' n images') (sym (other_same o.0 start es e none)) (same told (begin_other o.0 start es) o.1))

-- as where its volume is as it was
pub begins_untouched : {D : Type 0} {g : logs.Ghosts D} (old new : WalLog D g) → log_disk new ≡ log_disk old → log_first new ≡ log_first old
    → IsTrue g.tells → (other : ℕ) → BeginWith (log_first old) other (g.images (log_disk old)) → BeginWith (log_first new) other (g.images (log_disk new))
begins_untouched {g = g} old new disk first told other begins c image =
    subst (λ (n : ℕ). (first_on c ≡ n) ⊎ (first_on c ≡ other)) (sym first) (begins c (subst (λ d. g.images d c) disk image))

-- a log that its last entry put down is down
or_true : (a : Bool) → (a || true) ≡ true
or_true true = refl
or_true false = refl

pub not_up : (es : List Entry) (e : Entry) → is_put_down e.kind ≡ true → IsUp (es ++ e ∷ []) → ⊥
not_up es e down up =
    let any : list_any (λ (d : Entry). is_put_down d.kind) (es ++ e ∷ []) ≡ true = list_any-append (λ (d : Entry). is_put_down d.kind) es (e ∷ []) ∙ (ap (λ b. list_any (λ (d : Entry). is_put_down d.kind) es || (b || false)) down ∙ or_true (list_any (λ (d : Entry). is_put_down d.kind) es)) in
    false≢true (sym up ∙ any)

-- lists that end alike
same_end : (xs ys : List Entry) (x y : Entry) → xs ++ x ∷ [] ≡ ys ++ y ∷ [] → (xs ≡ ys) × (x ≡ y)
same_end [] [] x y e = (refl, cc)
same_end [] (z ∷ ys) x y e = let long : length (x ∷ []) ≡ length ((z ∷ ys) ++ y ∷ []) = ap (λ (l : List Entry). length l) e in let more = length-append ys (y ∷ []) in absurd (omega (arith, long, more))
same_end (z ∷ xs) [] x y e = let long : length ((z ∷ xs) ++ x ∷ []) ≡ length (y ∷ []) = ap (λ (l : List Entry). length l) e in let more = length-append xs (x ∷ []) in absurd (omega (arith, long, more))
same_end (z ∷ xs) (w ∷ ys) x y e =
    let head : z ≡ w = cc in
    let tail : xs ++ x ∷ [] ≡ ys ++ y ∷ [] = cc in
    let rest = same_end xs ys x y tail in
    ((λ j. head j ∷ rest.0 j), rest.1)

-- before the last entry, and the last entry, of a list that ends in a checkpoint
ends_flushed : (start : Start) (es : List Entry) (e : Entry) (number : ℕ) (k : EndsInCheckpoint start (es ++ e ∷ []) number)
    → (es ≡ k.before ++ record { by = k.appender; kind = kinds.Append (records.Checkpoint number k.counters) } ∷ []) × (e ≡ record { by = k.flusher; kind = kinds.Flush (number + 1) })
ends_flushed start es e number k =
    let a : Entry = record { by = k.appender; kind = kinds.Append (records.Checkpoint number k.counters) } in
    let f : Entry = record { by = k.flusher; kind = kinds.Flush (number + 1) } in
    same_end es (k.before ++ a ∷ []) e f (k.split ∙ sym (append_assoc k.before (a ∷ []) (f ∷ [])))

-- an entry that flushes nothing is none at whose end the log may be forgotten
pub unflushed : (start : Start) (es : List Entry) (e : Entry) (checkpoint : Option LastCheckpoint) → flushed_in e.kind ≡ None → MayForgetThere start (es ++ e ∷ []) checkpoint
unflushed start es e checkpoint none number k =
    let z : None ≡ Some (number + 1) = sym none ∙ ap (λ (f : Entry). flushed_in f.kind) (ends_flushed start es e number k).1 in absurd cc

module _ (start : Start) (tells : Bool) (faults faults' : ℕ) (images images' : Volume → Type 0) (recs recs' : List Rec) (next next' first first' flushed flushed' : ℕ) (counters counters' : Option Counters) (down down' : Option ℕ) (checkpoint checkpoint' : Option LastCheckpoint) (tail tail' : LogTail) (es : List Entry) (by : By) (s : LogStands start tells faults images recs next first flushed counters down checkpoint tail es) where
  -- an append
  pub appends : (rec : Rec) → tail' ≡ tail_after tail (kinds.Append rec) → (LacksRoom tail rec → ⊥) → recs' ≡ recs ++ rec ∷ [] → next' ≡ next + 1 → flushed' ≡ flushed → counters' ≡ Some (after_record (counters_after start es) rec) → down' ≡ down → faults' ≡ faults → first' ≡ first
      → (IsTrue tells → (number : ℕ) (all : List Rec) → KeepsRecords number all recs next first flushed images → KeepsRecords number (all ++ rec ∷ []) recs' next' first' flushed' images')
      → (IsTrue tells → (other : ℕ) → BeginWith first other images → BeginWith first' other images')
      → LogStands start tells faults' images' recs' next' first' flushed' counters' down' checkpoint' tail' (es ++ record { by = by; kind = kinds.Append rec } ∷ [])
  appends rec t fits r n f c d u low k begin =
      let e : Entry = record { by = by; kind = kinds.Append rec } in
      let more : recs_in (es ++ e ∷ []) ≡ recs_in es ++ rec ∷ [] = recs_push es e rec refl in record {
        recs_are = r ∙ (ap (λ (l : List Rec). l ++ rec ∷ []) s.recs_are ∙ (append_assoc start.logged (recs_in es) (rec ∷ []) ∙ ap (λ (l : List Rec). start.logged ++ l) (sym more)));
        next_is = let long : length (recs_in (es ++ e ∷ [])) ≡ length (recs_in es) + 1 = ap length more ∙ length-append (recs_in es) (rec ∷ []) in let old = s.next_is in omega arith;
        flushed_is = f ∙ (s.flushed_is ∙ sym (number_same flushed_in start.from es e refl));
        counters_are = c ∙ ap (λ (l : Counters). Some l) (sym (ap (after_records start.base) more ∙ fold_push after_record start.base (recs_in es) rec));
        failed = λ m is. let before = s.failed m (sym d ∙ is) in (failed_more start es e m before.0, (let le = before.1 in omega arith));
        up = λ none. up_more es e refl (s.up (sym d ∙ none));
        count = let a : faults_told start log_lock (es ++ e ∷ []) ≡ faults_told start log_lock es = number_same count_in (faults_at start log_lock) es e refl in let b = s.count in omega arith;
        kept = λ told.
            let old = s.kept told in
            (old.0, old.1, subst (λ (l : List Rec). KeepsRecords old.0 l recs' next' first' flushed' images') (append_assoc old.1 (recs_in es) (rec ∷ []) ∙ ap (λ (l : List Rec). old.1 ++ l) (sym more)) (k told old.0 (old.1 ++ recs_in es) old.2), old.3);
        first_is = first_same start es e first first' low refl s.first_is;
        others = others_same start es e tells images images' first first' refl s.others begin;
        alone = unflushed start es e checkpoint' refl;
        tail_is = t ∙ (ap (λ z. tail_after z (kinds.Append rec)) s.tail_is ∙ sym (tail_push start es e));
        room = room_push start es e s.room (subst (λ z. LacksRoom z rec → ⊥) s.tail_is fits);
      }

  -- a call that appended nothing: what it says of flushes, faults and first records comes with the entry
  pub goes_with : (kind : Kind) → appended (record { by = by; kind = kind }) ≡ None → tail' ≡ tail_after tail kind → recs' ≡ recs → next' ≡ next → counters' ≡ counters → flushed' ≡ flushed_to start (es ++ record { by = by; kind = kind } ∷ [])
      → faults_told start log_lock (es ++ record { by = by; kind = kind } ∷ []) ≤ faults' → ((m : ℕ) → down' ≡ Some m → IsDownAt start (es ++ record { by = by; kind = kind } ∷ []) m × (m ≤ flushed')) → (down' ≡ None → IsUp (es ++ record { by = by; kind = kind } ∷ []))
      → IsFirstKept start (es ++ record { by = by; kind = kind } ∷ []) first' → MayForgetThere start (es ++ record { by = by; kind = kind } ∷ []) checkpoint'
      → (IsTrue tells → (number : ℕ) (all : List Rec) → KeepsRecords number all recs next first flushed images → KeepsRecords number all recs' next' first' flushed' images')
      → (IsTrue tells → (before : ℕ) × BeginWith first' (begin_other before start (es ++ record { by = by; kind = kind } ∷ [])) images')
      → LogStands start tells faults' images' recs' next' first' flushed' counters' down' checkpoint' tail' (es ++ record { by = by; kind = kind } ∷ [])
  goes_with kind none t r n c f u d up low alone k begin =
      let e : Entry = record { by = by; kind = kind } in
      let same : recs_in (es ++ e ∷ []) ≡ recs_in es = recs_same es e none in record {
        recs_are = r ∙ (s.recs_are ∙ ap (λ (l : List Rec). start.logged ++ l) (sym same));
        next_is = n ∙ (s.next_is ∙ ap (λ (l : List Rec). start.from + length l) (sym same));
        flushed_is = f;
        counters_are = c ∙ (s.counters_are ∙ ap (λ (l : List Rec). Some (after_records start.base l)) (sym same));
        failed = d;
        up = up;
        count = u;
        kept = λ told.
            let old = s.kept told in
            (old.0, old.1, subst (λ (l : List Rec). KeepsRecords old.0 (old.1 ++ l) recs' next' first' flushed' images') (sym same) (k told old.0 (old.1 ++ recs_in es) old.2), old.3);
        first_is = low;
        others = begin;
        alone = alone;
        tail_is = t ∙ (ap (λ z. tail_after z kind) s.tail_is ∙ sym (tail_push start es e));
        room = room_push start es e s.room (no_room_needed (tail_of start es) by kind none);
      }

  -- and that was to forget nothing
  pub goes_on : (kind : Kind) → appended (record { by = by; kind = kind }) ≡ None → tail' ≡ tail_after tail kind → recs' ≡ recs → next' ≡ next → counters' ≡ counters → flushed' ≡ flushed_to start (es ++ record { by = by; kind = kind } ∷ [])
      → faults_told start log_lock (es ++ record { by = by; kind = kind } ∷ []) ≤ faults' → ((m : ℕ) → down' ≡ Some m → IsDownAt start (es ++ record { by = by; kind = kind } ∷ []) m × (m ≤ flushed')) → (down' ≡ None → IsUp (es ++ record { by = by; kind = kind } ∷ []))
      → IsFirstKept start (es ++ record { by = by; kind = kind } ∷ []) first' → MayForgetThere start (es ++ record { by = by; kind = kind } ∷ []) checkpoint'
      → (IsTrue tells → (number : ℕ) (all : List Rec) → KeepsRecords number all recs next first flushed images → KeepsRecords number all recs' next' first' flushed' images')
      → begin_asked_in kind ≡ None → (IsTrue tells → (other : ℕ) → BeginWith first other images → BeginWith first' other images')
      → LogStands start tells faults' images' recs' next' first' flushed' counters' down' checkpoint' tail' (es ++ record { by = by; kind = kind } ∷ [])
  goes_on kind none t r n c f u d up low alone k none_asked same =
      goes_with kind none t r n c f u d up low alone k (others_same start es (record { by = by; kind = kind }) tells images images' first first' none_asked s.others same)

-- a log of which nothing changed stands for the list with the look too
pub log_looks : {D : Type 0} {g : logs.Ghosts D} (start : Start) (log : WalLog D g) (es : List Entry) (by : By) → IsLogOf start log es → IsLogOf start log (es ++ record { by = by; kind = kinds.Look } ∷ [])
log_looks {g = g} start log es by s =
    let e : Entry = record { by = by; kind = kinds.Look } in
    goes_on start g.tells (g.faults (log_disk log)) (g.faults (log_disk log)) (g.images (log_disk log)) (g.images (log_disk log)) (log_recs log) (log_recs log) (log_next log) (log_next log) (log_first log) (log_first log) (log_flushed log) (log_flushed log) (log_counters log) (log_counters log) (log_down log) (log_down log) (log_checkpoint log) (log_checkpoint log) (log_tail log) (log_tail log) es by s kinds.Look refl refl refl refl refl
    (s.flushed_is ∙ sym (number_same flushed_in start.from es e refl))
    (let same : faults_told start log_lock (es ++ e ∷ []) ≡ faults_told start log_lock es = number_same count_in (faults_at start log_lock) es e refl in let before = s.count in omega arith)
    (λ m is. let before = s.failed m is in (failed_more start es e m before.0, before.1)) (λ none. up_more es e refl (s.up none)) (first_more start es e (log_first log) refl s.first_is) (unflushed start es e (log_checkpoint log) refl) (λ told number all k. k) refl (λ told other begins. begins)

-- the flushed number is that of a flush, where it is past the start's
pub flush_stands : (start : Start) (es : List Entry) (number : ℕ) → start.from ≤ number → number < flushed_to start es → (to : ℕ) × (number < to) × (by : By) × Contains es (record { by = by; kind = kinds.Flush to })
flush_stands start es number from past = by_end (λ es. number < flushed_to start es → (to : ℕ) × (number < to) × (by : By) × Contains es (record { by = by; kind = kinds.Flush to }))
    (λ p. absurd (omega arith))
    (λ es e before p. step es e e.kind refl before p) es past
  where
    older : (es : List Entry) (e : Entry) → flushed_in e.kind ≡ None → (number < flushed_to start es → (to : ℕ) × (number < to) × (by : By) × Contains es (record { by = by; kind = kinds.Flush to })) → number < flushed_to start (es ++ e ∷ [])
        → (to : ℕ) × (number < to) × (by : By) × Contains (es ++ e ∷ []) (record { by = by; kind = kinds.Flush to })
    older es e none before p =
        let f = before (subst (λ z. number < z) (number_same flushed_in start.from es e none) p) in
        (f.0, f.1, f.2, Contains-append_left es (e ∷ []) (record { by = f.2; kind = kinds.Flush f.0 }) f.3)

    step : (es : List Entry) (e : Entry) (kind : Kind) → e.kind ≡ kind → (number < flushed_to start es → (to : ℕ) × (number < to) × (by : By) × Contains es (record { by = by; kind = kinds.Flush to })) → number < flushed_to start (es ++ e ∷ [])
        → (to : ℕ) × (number < to) × (by : By) × Contains (es ++ e ∷ []) (record { by = by; kind = kinds.Flush to })
    step es e (kinds.Flush to) is before p =
        let same : e ≡ record { by = e.by; kind = kinds.Flush to } = ap (λ (k : Kind). record { by = e.by; kind = k }) is in
        (to, subst (λ z. number < z) (number_push flushed_in start.from es e to (ap flushed_in is)) p, e.by, subst (λ (d : Entry). Contains (es ++ e ∷ []) d) same (Contains-push es e))
    step es e _ is before p = older es e (ap flushed_in is) before p

-- ---- the checkpoint before which the log may be forgotten

-- a checkpoint alone was put on disk
here_alone : (gate number : ℕ) (counters : Counters) (checkpoint : Option LastCheckpoint) → IsLastCheckpoint gate (records.Checkpoint number counters ∷ []) (Some counters) checkpoint → (k : LastCheckpoint) × (checkpoint ≡ Some k) × (k.number ≡ number)
here_alone gate number counters None last = absurd (last number counters refl refl)
here_alone gate number counters (Some k) last = (k, refl, (let same = last.1.0 in cc))

module _ {D : Type 0} {g : logs.Ghosts D} (start : Start) (old new : WalLog D g) (es : List Entry) (by : By) (s : IsLogOf start old es) where
  -- by a flush
  pub flush_alone : (to : ℕ) → (log_pending old ≢ [] → IsLastCheckpoint (log_end old) (log_pending old) (log_counters old) (log_checkpoint new)) → MayForgetThere start (es ++ record { by = by; kind = kinds.Flush to } ∷ []) (log_checkpoint new)
  flush_alone to last number k =
      let rec : Rec = records.Checkpoint number k.counters in
      let a : Entry = record { by = k.appender; kind = kinds.Append rec } in
      let here : es ≡ k.before ++ a ∷ [] = (ends_flushed start es (record { by = by; kind = kinds.Flush to }) number k).0 in
      let front : List Rec = start.logged ++ recs_in k.before in
      let recs : log_recs old ≡ front ++ rec ∷ [] = s.recs_are ∙ (ap (λ (l : List Entry). start.logged ++ recs_in l) here ∙ (ap (λ (l : List Rec). start.logged ++ l) (recs_push k.before a rec refl) ∙ sym (append_assoc start.logged (recs_in k.before) (rec ∷ [])))) in
      let long : length (log_recs old) ≡ length front + 1 = ap (λ (l : List Rec). length l) recs ∙ length-append front (rec ∷ []) in
      let more : length (recs_in es) ≡ length (recs_in k.before) + 1 = ap (λ (l : List Entry). length (recs_in l)) here ∙ (ap (λ (l : List Rec). length l) (recs_push k.before a rec refl) ∙ length-append (recs_in k.before) (rec ∷ [])) in
      let flushed : log_flushed old ≡ number = s.flushed_is ∙ (ap (λ (l : List Entry). flushed_to start l) here ∙ (number_same flushed_in start.from k.before a refl ∙ k.flushed)) in
      let next = s.next_is in
      let place = k.place in
      let count : old.flushed ≡ length front = omega (arith, long, more, flushed, next, place) in
      let pending : log_pending old ≡ rec ∷ [] = (λ j. drop (count j) (recs j)) ∙ drop-append_seam front (rec ∷ []) in
      let counters : log_counters old ≡ Some k.counters = s.counters_are ∙ ap (λ (c : Counters). Some c) (ap (λ (l : List Entry). counters_after start l) here ∙ k.whole) in
      let some : log_pending old ≢ [] = λ none. let z : rec ∷ [] ≡ [] = sym pending ∙ none in absurd cc in
      here_alone (log_end old) number k.counters (log_checkpoint new) (subst (λ (z : List Rec × Option Counters). IsLastCheckpoint (log_end old) z.0 z.1 (log_checkpoint new)) (λ j. (pending j, counters j)) (last some))
