-- The logs on the way through a recovery: cut at the last record that was found, and then with the checkpoint.
use Rattle.std.proofs.Common.{Contains, List, Option, None, Some, Ok, Err, Result, [], ap, append-nil, append_assoc, arith, drop, length, length-append, max, refl, subst, suc, sym, take, zero, ℕ, ⊎_elim, ◌++◌, ◌+◌, ◌-◌, ◌<◌, ◌∙◌, ◌∷◌, ◌^◌, ◌≡◌, ◌≤◌}
use Rattle.std.proofs.Math.Seq.{take-length}
use Rattle.std.proofs.lemmas.List.{length-take-le, take-append-drop}
use Rattle.std.specs.List.{filter, slice_get}
use Rattle.disk_core.specs.Volume.{Volume}
use Rattle.tx_events.proofs.Membership.{contains_has, has_cases, has_contains, has_filter}
use Rattle.tx_events.specs.declared.multi.Member.{Member}
use Rattle.tx_events.proofs.PlaceLemmas.{slice_get-push}
use Rattle.tx_events.specs.After.{after_records}
use Rattle.tx_events.specs.Base.{IsBase}
use Rattle.tx_events.specs.declared.record.Counters.{Counters}
use Rattle.tx_events.specs.declared.record.Rec.{Rec}
use Rattle.tx_events.specs.declared.record.Rec.TheVariants as records
use Rattle.tx_events.specs.Limits.{member_stop, multi_stop_limit, stop_limit}
use Rattle.wal_core.specs.Kept.{HasFlushed, IsStretch, OpensToRecords}
use Rattle.wal_core.specs.Log.{history_in}
use Rattle.wal_core.specs.LogContents.{ComesTo}
use Rattle.wal_core.specs.Opening.{History, Opened, next_number, no_counters, opened}
use Rattle.recoverable.specs.Fit.{KeptLog, MayBegin, base_at, log_end, recs_below}
use Rattle.tx_events.specs.LifeBase.{AreBelowNext, IsLifeBase, LifeBase, base_after, committed_in, is_multi}
use Rattle.recoverable.specs.Volumes.{KeepsUpTo, ListFits, LogFits, checkpoint_of}
use Rattle.recoverable.proofs.LogBases.{committed_below, multi_below, multi_grows, offset_grows}
use Rattle.tx_events.proofs.BaseSteps.{base_then}
use Rattle.recoverable.proofs.Opened.{first_is, first_stands, history_comes, log_opens}
use Rattle.recoverable.proofs.Stretches.{get_inside}
use Rattle.replay_core.specs.Redo.{AreNear}
use Rattle.replay_core.specs.Restore.{IsWindow}
use Rattle.replay_core.specs.Laws.{IsWholeFrom, end_base, up_to, with_checkpoint}
use Rattle.replay_core.proofs.Phases.{checkpoint_before, checkpoint_end, checkpoint_same, cut_base, cut_end, cut_end_base}
use Rattle.replay_core.specs.LawsMultis.{IsWholeOfMultis, first_multi, first_offset}
use Rattle.replay_core.specs.Spans.{AreMultisInReach, begun_counters, member_span, offset_span}
use Rattle.replay_core.proofs.LaterMultis.{IsLater, is_later_at}

-- ---- a base's window

pub base_window : (c : Counters) → IsBase c → IsWindow c.oldest c.next
base_window c is =
    let low : c.oldest ≤ c.next = is.oldest in
    let high : c.next ≤ stop_limit c.oldest = is.next in
    let stop : stop_limit c.oldest ≤ c.oldest + 2 ^ 31 - 2999000 = stop_below c.oldest in
    (low, omega arith)
  where
    stop_below : (oldest : ℕ) → stop_limit oldest ≤ oldest + 2 ^ 31 - 2999000
    stop_below oldest = grind arith

-- the ids of the records that give these counters aren't far from the oldest one
pub ids_near : (first : ℕ) (recs : List Rec) (base : Counters) → ComesTo first recs (Some base) → AreNear base.oldest (committed_in recs)
ids_near first recs base comes y among =
    let counters : base ≡ after_records no_counters recs = comes.1.0 in
    let below : y < base.next = subst (λ (c : Counters). y < c.next) (sym counters) (committed_below no_counters recs y (contains_has (committed_in recs) y among)) in
    let window = (base_window base comes.1.1).1 in
    omega arith

-- nor are the multixacts that they name far from the oldest one, and their members from the oldest offset
pub multis_in_reach : (first : ℕ) (recs : List Rec) (base : Counters) → ComesTo first recs (Some base) → AreMultisInReach recs base
multis_in_reach first recs base comes =
    let counters : base ≡ after_records no_counters recs = comes.1.0 in
    let is : IsBase base = comes.1.1 in
    let high = is.multi in let top = is.offset in
    let stop = multi_stop_below base.oldest_multi in let end = member_stop_below base.oldest_offset in let end0 = end.0 in let end1 = end.1 in
    let below : (m x : ℕ) (ms : List Member) → Contains recs (records.Multi m x ms) → (m < base.multi) × (x + length ms ≤ base.offset) = λ m x ms c.
    subst (λ (d : Counters). (m < d.multi) × (x + length ms ≤ d.offset)) (sym counters) (multi_below no_counters recs m x ms (contains_has recs (records.Multi m x ms) c)) in
    record {
      near = λ m x ms c. let b = (below m x ms c).0 in omega arith;
      below = λ m x ms c. (below m x ms c).1;
      window = omega arith;
      small = omega arith;
    }
  where
    multi_stop_below : (oldest : ℕ) → multi_stop_limit oldest ≤ oldest + 2 ^ 31 - 2999000
    multi_stop_below oldest = grind arith

    member_stop_below : (oldest : ℕ) → (member_stop oldest ≤ oldest + 2 ^ 30) × (member_stop oldest < 2 ^ 63)
    member_stop_below oldest = (grind arith, grind arith)

-- what a base and the records behind it name lies below the counters that they give
pub below_after : (base : LifeBase) (recs : List Rec) → AreBelowNext base → AreBelowNext (base_after base recs)
below_after base recs below m x ms c = ⊎_elim
    (λ old. let b = below m x ms (has_contains base.recorded (records.Multi m x ms) old) in let b0 = b.0 in let b1 = b.1 in
    let up = multi_grows base.counters recs in let rise = offset_grows base.counters recs in (omega arith, omega arith))
    (λ new. multi_below base.counters recs m x ms (has_filter is_multi recs (records.Multi m x ms) new).0)
    (has_cases base.recorded (filter is_multi recs) (records.Multi m x ms) (contains_has (base.recorded ++ filter is_multi recs) (records.Multi m x ms) c))

-- ---- what was found

-- the log opens to these records of the list, from one at which it may begin on
pub record FoundIn (log : KeptLog) (first : ℕ) (recs : List Rec) (base : Counters) : Type 0 where
  pub list : ListFits log
  pub may_begin : MayBegin log first
  pub some : 1 ≤ length recs
  pub flushed : log.flushed ≤ first + length recs
  pub upto : first + length recs ≤ log_end log
  pub recs_are : recs ≡ drop (first - log.first) (recs_below log (first + length recs))
  pub counters : base ≡ (base_at log (first + length recs)).counters
  pub begun : begun_counters recs base ≡ (base_at log (first + 1)).counters

some_same : {A : Type 0} (x y : A) → Some x ≡ Some y → x ≡ y
some_same {A} x y e = ap (λ (z : Option A). elim z [ None ↦ x | Some v ↦ v ]) e

some_first : (recs : List Rec) (n : ℕ) → Rattle.wal_core.specs.Opening.first_number recs ≡ Some n → 1 ≤ length recs
some_first recs n e = let f = first_is recs n e in let g : length recs ≡ length (records.Checkpoint n f.0 ∷ f.1) = ap length f.2 in omega arith

pub found_in : (log : KeptLog) (n first gate : ℕ) (recs : List Rec) (base : Counters) (v : Volume) → ListFits log → MayBegin log n → LogFits log n v
    → opened v ≡ Ok (record { history = Some (record { first = first; recs = recs; counters = base }); gate = gate }) → (n ≡ first) × FoundIn log first recs base
found_in log n first gate recs base v list may fits opens =
    let h : History = record { first = first; recs = recs; counters = base } in
    let same : fits.history ≡ h = some_same fits.history h (ap history_in (sym fits.opens ∙ opens)) in
    let at : n ≡ first = sym fits.first ∙ ap (λ (z : History). z.first) same in
    let comes = history_comes v h gate opens in
    let check = first_is recs first comes.0 in
    let begins = subst (MayBegin log) at may in
    let own : recs ≡ drop (first - log.first) (recs_below log (first + length recs))
    = subst (λ (z : History). z.recs ≡ drop (first - log.first) (recs_below log (next_number z))) same (subst (λ z. fits.history.recs ≡ drop (z - log.first) (recs_below log (next_number fits.history))) at fits.recs) in
    let stands : slice_get log.recs (first - log.first) ≡ Some (records.Checkpoint first check.0)
    = taken_at (first + length recs - log.first) log.recs (first - log.first) (records.Checkpoint first check.0) (head_of (first - log.first) (recs_below log (first + length recs)) (records.Checkpoint first check.0) check.1 (sym own ∙ check.2)) in (
      at,
      record {
        list = list;
        may_begin = subst (MayBegin log) at may;
        some = some_first recs first comes.0;
        flushed = subst (λ (z : History). log.flushed ≤ next_number z) same fits.flushed;
        upto = subst (λ (z : History). next_number z ≤ log_end log) same fits.upto;
        recs_are = own;
        counters = subst (λ (z : History). z.counters ≡ (base_at log (next_number z)).counters) same fits.counters;
        begun = ap (λ (t : List Rec). begun_counters t base) check.2 ∙ sym (list.whole first begins.from check.0 stands);
      },
    )
  where
    head_of : {A : Type 0} (k : ℕ) (xs : List A) (y : A) (ys : List A) → drop k xs ≡ y ∷ ys → slice_get xs k ≡ Some y
    head_of zero [] y ys e = absurd cc
    head_of zero (x ∷ xs) y ys e = cc
    head_of (suc k) [] y ys e = absurd cc
    head_of (suc k) (x ∷ xs) y ys e = head_of k xs y ys e

    taken_at : {A : Type 0} (m : ℕ) (xs : List A) (n : ℕ) (x : A) → slice_get (take m xs) n ≡ Some x → slice_get xs n ≡ Some x
    taken_at zero xs n x e = absurd cc
    taken_at (suc m) [] n x e = absurd cc
    taken_at (suc m) (y ∷ ys) zero x e = e
    taken_at (suc m) (y ∷ ys) (suc n) x e = taken_at m ys n x e

-- ---- from the log to later ones

base_first : (log : KeptLog) → log.base ≡ base_at log log.first
base_first log =
    let none : log.first - log.first ≡ 0 = omega arith in
    sym (ap (λ z. base_after log.base (take z log.recs)) none ∙ (λ i. record { counters = log.base.counters; committed = append-nil log.base.committed i; recorded = append-nil log.base.recorded i }))

drop_none : (log : KeptLog) (xs : List Rec) → drop (log.first - log.first) xs ≡ xs
drop_none log xs = let none : log.first - log.first ≡ 0 = omega arith in ap (λ z. drop z xs) none

-- nothing was lost, and nothing more is known
pub keeps_itself : (log : KeptLog) → ListFits log → KeepsUpTo log log (log_end log) []
keeps_itself log list =
    let from = list.from in
    let long : log_end log - log.first ≡ length log.recs = omega arith in
    record {
      flushed_before = list.upto;
      upto = omega arith;
      from = omega arith;
      within = omega arith;
      base = base_first log;
      recs = sym (append-nil (drop (log.first - log.first) (recs_below log (log_end log))) ∙ drop_none log (recs_below log (log_end log)) ∙ ap (λ z. take z log.recs) long ∙ take-length log.recs);
      flushed = omega arith;
    }

module _ (log : KeptLog) (first : ℕ) (recs : List Rec) (base : Counters) (f : FoundIn log first recs base) where
  -- the number past what was found, and the log cut there
  abbrev end : ℕ
  end = first + length recs

  abbrev cut : KeptLog
  cut = up_to log end

  pub low : log.first ≤ first + length recs
  low = let a = f.may_begin.from in omega arith

  pub cut_end_is : log_end (up_to log (first + length recs)) ≡ first + length recs
  cut_end_is = cut_end log (first + length recs) low f.upto

  pub cut_base_is : end_base (up_to log (first + length recs)) ≡ base_at log (first + length recs)
  cut_base_is = cut_end_base log (first + length recs) low f.upto

  pub counters_are : (end_base (up_to log (first + length recs))).counters ≡ base
  counters_are = ap (λ (b : LifeBase). b.counters) cut_base_is ∙ sym f.counters

  -- the records of the cut log: those before the first one found, and those found
  pub front : List Rec
  front = take (first - log.first) (recs_below log (first + length recs))

  pub cut_split : (up_to log (first + length recs)).recs ≡ front ++ recs
  unfolding front
  cut_split = sym (take-append-drop (first - log.first) (recs_below log (first + length recs))) ∙ ap (λ (t : List Rec). take (first - log.first) (recs_below log (first + length recs)) ++ t) (sym f.recs_are)

  pub front_place : log.first + length front ≡ first
  unfolding front
  front_place =
      let a = f.may_begin.from in let b = f.upto in
      let below : length (recs_below log (first + length recs)) ≡ first + length recs - log.first = length-take-le (first + length recs - log.first) log.recs (omega arith) in
      let c : length (take (first - log.first) (recs_below log (first + length recs))) ≡ first - log.first = length-take-le (first - log.first) (recs_below log (first + length recs)) (omega arith) in
      omega arith

  -- its base is that at the first one found, and these records behind it
  both : end_base (up_to log (first + length recs)) ≡ base_after (base_at (up_to log (first + length recs)) first) recs
  unfolding front
  both = cut_base_is ∙ ap (base_after log.base) cut_split ∙ base_then log.base (take (first - log.first) (recs_below log (first + length recs))) recs

  pub whole_from : IsWholeFrom (up_to log (first + length recs)) first recs
  whole_from =
      let life : IsLifeBase (base_at log (first + length recs)) = f.list.bases (first + length recs) f.flushed f.upto in
      record {
        flushed = sym cut_end_is;
        rest = ap (λ (b : LifeBase). b.committed) both;
        window = subst (λ (b : LifeBase). IsWindow b.counters.oldest b.counters.next) (sym cut_base_is) (base_window (base_at log (first + length recs)).counters life.counters);
        below = λ x among. subst (λ (b : LifeBase). x < b.counters.next) (sym cut_base_is) (life.committed x (subst (λ (b : LifeBase). Contains b.committed x) cut_base_is among)).1;
      }

  pub whole_multis : IsWholeOfMultis (up_to log (first + length recs)) first recs
  whole_multis =
      let some = f.some in
      let before = is_later_at (up_to log (first + length recs)) first (first + 1) (omega arith) in
      let last : base_at (up_to log (first + length recs)) (first + length recs) ≡ end_base (up_to log (first + length recs)) = ap (base_at (up_to log (first + length recs))) (sym cut_end_is) in
      let behind = subst (IsLater (base_at (up_to log (first + length recs)) (first + 1))) last (is_later_at (up_to log (first + length recs)) (first + 1) (first + length recs) (omega arith)) in
      record {
        flushed = sym cut_end_is;
        base = subst IsLifeBase (sym cut_base_is) (f.list.bases (first + length recs) f.flushed f.upto);
        rest = ap (λ (b : LifeBase). b.recorded) both;
        before = below_after log.base (recs_below (up_to log (first + length recs)) first) f.list.below;
        begun = before.multi;
        begun_offset = before.offset;
        upto = behind.multi;
        upto_offset = behind.offset;
      }

  -- what is redone and cleared is what the cut log says
  begun_is : begun_counters recs base ≡ (base_at (up_to log (first + length recs)) (first + 1)).counters
  begun_is = let some = f.some in f.begun ∙ ap (λ (b : LifeBase). b.counters) (sym (cut_base log (first + 1) (first + length recs) (omega arith)))

  pub offset_span_is : offset_span recs base ≡ record { oldest = (end_base (up_to log (first + length recs))).counters.oldest_multi; from = first_multi (up_to log (first + length recs)) first; next = (end_base (up_to log (first + length recs))).counters.multi }
  offset_span_is = λ i. record { oldest = (sym counters_are i).oldest_multi; from = max (begun_is i).multi (sym counters_are i).oldest_multi; next = (sym counters_are i).multi }

  pub member_span_is : member_span recs base
      ≡ record { oldest = (end_base (up_to log (first + length recs))).counters.oldest_multi; oldest_offset = (end_base (up_to log (first + length recs))).counters.oldest_offset; from = first_offset (up_to log (first + length recs)) first; next = (end_base (up_to log (first + length recs))).counters.offset }
  member_span_is = λ i. record { oldest = (sym counters_are i).oldest_multi; oldest_offset = (sym counters_are i).oldest_offset; from = max (begun_is i).offset (sym counters_are i).oldest_offset; next = (sym counters_are i).offset }

  -- ---- their lists fit

  same_place : (j : ℕ) → first + length recs ≤ j → j ≤ log_end (up_to log (first + length recs)) → j ≡ first + length recs
  same_place j from to = let e = cut_end_is in omega arith

  take_get : {A : Type 0} (m : ℕ) (xs : List A) (n : ℕ) (x : A) → slice_get (take m xs) n ≡ Some x → slice_get xs n ≡ Some x
  take_get zero xs n x e = absurd cc
  take_get (suc m) [] n x e = absurd cc
  take_get (suc m) (y ∷ ys) zero x e = e
  take_get (suc m) (y ∷ ys) (suc n) x e = take_get m ys n x e

  pub cut_list_fits : ListFits (up_to log (first + length recs))
  cut_list_fits = record {
    below = f.list.below;
    from = low;
    upto = let e = cut_end_is in omega arith;
    bases = λ j from to. subst IsLifeBase (sym (ap (base_at (up_to log (first + length recs))) (same_place j from to) ∙ cut_base log (first + length recs) (first + length recs) (omega arith))) (f.list.bases (first + length recs) f.flushed f.upto);
    whole = λ n from counters at.
        let place : n - log.first < length (recs_below log (first + length recs)) = get_inside (recs_below log (first + length recs)) (n - log.first) (records.Checkpoint n counters) at in
        let long : length (recs_below log (first + length recs)) ≡ first + length recs - log.first = let b = f.upto in let c = low in length-take-le (first + length recs - log.first) log.recs (omega arith) in
        ap (λ (b : LifeBase). b.counters) (cut_base log (n + 1) (first + length recs) (omega arith))
        ∙ f.list.whole n from counters (take_get (first + length recs - log.first) log.recs (n - log.first) (records.Checkpoint n counters) at);
  }

  checkpoint_list_fits : (flushed : ℕ) → first + length recs ≤ flushed → flushed ≤ first + length recs + 1 → ListFits (with_checkpoint (up_to log (first + length recs)) flushed)
  checkpoint_list_fits flushed at_least at_most = record {
    below = f.list.below;
    from = let a = low in omega arith;
    upto = let e = checkpoint_end (up_to log (first + length recs)) flushed in let g = cut_end_is in omega arith;
    bases = λ j from to. let g = cut_end_is in subst IsLifeBase (sym (checkpoint_same (up_to log (first + length recs)) flushed j (omega arith) ∙ cut_base_is)) (f.list.bases (first + length recs) f.flushed f.upto);
    whole = λ n from counters at. ⊎_elim
        (λ (h : (n - log.first < length (recs_below log (first + length recs))) × (slice_get (recs_below log (first + length recs)) (n - log.first) ≡ Some (records.Checkpoint n counters))).
        ap (λ (b : LifeBase). b.counters) (checkpoint_before (up_to log (first + length recs)) flushed (n + 1) (omega (arith, h.0))) ∙ cut_list_fits.whole n from counters h.1)
        (λ (h : (n - log.first ≡ length (recs_below log (first + length recs))) × (records.Checkpoint (log_end (up_to log (first + length recs))) (end_base (up_to log (first + length recs))).counters ≡ records.Checkpoint n counters)).
        ap (λ (b : LifeBase). b.counters) (checkpoint_same (up_to log (first + length recs)) flushed (n + 1) (omega (arith, h.0))) ∙ same_counters h.1)
        (slice_get-push (recs_below log (first + length recs)) (records.Checkpoint (log_end (up_to log (first + length recs))) (end_base (up_to log (first + length recs))).counters) (records.Checkpoint n counters) (n - log.first) at);
  }
    where
      same_counters : {m n : ℕ} {a b : Counters} → records.Checkpoint m a ≡ records.Checkpoint n b → a ≡ b
      same_counters e = cc

  pub pending_fits : ListFits (with_checkpoint (up_to log (first + length recs)) (first + length recs))
  pending_fits = checkpoint_list_fits (first + length recs) (omega arith) (omega arith)

  pub settled_fits : ListFits (with_checkpoint (up_to log (first + length recs)) (first + length recs + 1))
  settled_fits = checkpoint_list_fits (first + length recs + 1) (omega arith) (omega arith)

  -- ---- they keep the log up to there

  pub cut_keeps : KeepsUpTo log (up_to log (first + length recs)) (first + length recs) []
  cut_keeps = record {
    flushed_before = f.flushed;
    upto = f.upto;
    from = omega arith;
    within = low;
    base = base_first log;
    recs = sym (append-nil (drop (log.first - log.first) (recs_below log (first + length recs))) ∙ drop_none log (recs_below log (first + length recs)));
    flushed = f.flushed;
  }

  pub checkpoint_keeps : (flushed : ℕ) → first + length recs ≤ flushed → KeepsUpTo log (with_checkpoint (up_to log (first + length recs)) flushed) (first + length recs) (checkpoint_of (first + length recs) (base_at log (first + length recs)))
  checkpoint_keeps flushed at_least = record {
    flushed_before = f.flushed;
    upto = f.upto;
    from = omega arith;
    within = low;
    base = base_first log;
    recs = (λ i. recs_below log (first + length recs) ++ checkpoint_of (cut_end_is i) (cut_base_is i)) ∙ ap (λ (t : List Rec). t ++ checkpoint_of (first + length recs) (base_at log (first + length recs))) (sym (drop_none log (recs_below log (first + length recs))));
    flushed = let a = f.flushed in omega arith;
  }

-- ---- what an image opens to

pub record BeginsIn (log : KeptLog) (first kept : ℕ) (v : Volume) : Type 0 where
  pub number : ℕ
  pub from : first ≤ number
  pub upto : number ≤ kept
  pub may_begin : MayBegin log number
  pub fits : LogFits log number v

pub begins_in : (log : KeptLog) (before small : List Rec) (first kept : ℕ) (v : Volume) → ListFits log → log.recs ≡ before ++ small → log.first + length before ≡ first → first < log.flushed → kept < log.flushed
    → HasFlushed first small kept log.flushed v → BeginsIn log first kept v
begins_in log before small first kept v list split place begun under has = of (opened v) refl has.opens
  where
    stretch_in : (h : History) → IsStretch first small h.first h.recs → IsStretch log.first log.recs h.first h.recs
    stretch_in h s =
        let p = s.place in
        let long : length (before ++ s.before) ≡ length before + length s.before = length-append before s.before in
        record {
          before = before ++ s.before;
          after = s.after;
          split = split ∙ ap (λ (t : List Rec). before ++ t) s.split ∙ sym (append_assoc before s.before (h.recs ++ s.after));
          place = omega arith;
        }

    with_history : (h : History) (gate : ℕ) → opened v ≡ Ok (record { history = Some h; gate = gate }) → IsStretch first small h.first h.recs → h.first ≤ kept → log.flushed ≤ next_number h → BeginsIn log first kept v
    with_history h gate opens s upto flushed =
        let whole = stretch_in h s in
        let p = s.place in
        let check = first_is h.recs h.first (history_comes v h gate opens).0 in
        let stands = first_stands log h whole check.0 check.1 check.2 in
        let may : MayBegin log h.first = record {
          from = omega arith;
          flushed = omega arith;
          counters = check.0;
          checkpoint = stands;
          whole = list.whole h.first (omega arith) check.0 stands;
        } in
        record {
          number = h.first;
          from = omega arith;
          upto = upto;
          may_begin = may;
          fits = log_opens log h whole gate v opens has.ends flushed may;
        }

    past : (o : Opened) (h : Option History) → o.history ≡ h → opened v ≡ Ok o → OpensToRecords first small kept log.flushed (Ok (record { history = h; gate = o.gate })) → BeginsIn log first kept v
    past o None q e r = absurd (omega (arith, r.0))
    past o (Some h) q e r = with_history h o.gate (e ∙ (λ i. Ok (record { history = q i; gate = o.gate }))) r.0 r.1.0 r.1.1

    of : (r : Result Opened ℕ) → opened v ≡ r → OpensToRecords first small kept log.flushed r → BeginsIn log first kept v
    of (Err at) e r = absurd r
    of (Ok o) e r = past o o.history refl e r
