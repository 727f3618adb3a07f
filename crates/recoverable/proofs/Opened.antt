-- What a volume that opens to records of a list says of the list.
use Rattle.std.proofs.Common.{Bool, IfOk, IsSome, List, None, Option, Result, Ok, Err, Some, [], ap, append_assoc, arith, cond, drop, false, length, length-append, refl, subst, suc, sym, take, true, ℕ, ◌++◌, ◌+◌, ◌-◌, ◌<◌, ◌∙◌, ◌∷◌, ◌≡◌, ◌≤◌}
use Rattle.std.proofs.Math.Seq.{drop-append_seam, take-append_seam}
use Rattle.std.proofs.lemmas.List.Sums.{fold-append, fold_push}
use Rattle.std.specs.List.{slice_get}
use Rattle.disk_core.specs.Volume.{Volume}
use Rattle.tx_events.specs.After.{after_record, after_records}
use Rattle.tx_events.specs.declared.record.Counters.{Counters}
use Rattle.tx_events.specs.declared.record.Rec.{Rec}
use Rattle.tx_events.specs.declared.record.Rec.TheVariants as records
use Rattle.wal_core.proofs.Comings.{opened_comes}
use Rattle.wal_core.specs.Kept.{IsStretch}
use Rattle.wal_core.specs.Log.{EndsWithin}
use Rattle.wal_core.specs.LogContents.{ComesTo}
use Rattle.wal_core.specs.Opening.{History, Opened, first_number, is_new, next_number, no_counters, opened, opened_bytes}
use Rattle.recoverable.specs.Fit.{KeptLog, MayBegin, base_at, recs_below}
use Rattle.recoverable.specs.Volumes.{LogFits}
use Rattle.recoverable.proofs.Checkpoints.{get_past, raised_to, take_next}

abbrev opened_as_history : History → ℕ → Result Opened ℕ
opened_as_history h gate = Ok (record { history = Some h; gate = gate })

not_new : (t : Bool) (r : Result Opened ℕ) (h : History) (gate : ℕ) → cond t (Ok (record { history = None; gate = 0 })) r ≡ opened_as_history h gate → r ≡ opened_as_history h gate
not_new true r h gate e = absurd (none (ap history_of e))
  where
    history_of : Result Opened ℕ → Option History
    history_of (Ok o) = o.history
    history_of (Err at) = None

    none : None ≡ Some h → ⊥
    none e = cc
not_new false r h gate e = e

-- the first record is a checkpoint, and the counters are those that the records give
pub history_comes : (v : Volume) (h : History) (gate : ℕ) → opened v ≡ opened_as_history h gate → ComesTo h.first h.recs (Some h.counters)
unfolding opened
history_comes v h gate e = opened_comes v.start (drop v.start v.bytes) h gate (not_new (is_new v) (opened_bytes v.start (drop v.start v.bytes)) h gate e)

pub first_is : (recs : List Rec) (n : ℕ) → first_number recs ≡ Some n → (c : Counters) × (rest : List Rec) × (recs ≡ records.Checkpoint n c ∷ rest)
first_is [] n e = absurd cc
first_is (records.Checkpoint number c ∷ rest) n e = let q : number ≡ n = cc in (c, rest, ap (λ z. records.Checkpoint z c ∷ rest) q)
first_is (records.Commit top subs ∷ rest) n e = absurd cc
first_is (records.Abort top subs ∷ rest) n e = absurd cc
first_is (records.Multi multi offset members ∷ rest) n e = absurd cc
first_is (records.Truncate oldest multi offset ∷ rest) n e = absurd cc

module _ (log : KeptLog) (h : History) (stretch : IsStretch log.first log.recs h.first h.recs) where
  place_is : h.first - log.first ≡ length stretch.before
  place_is = let p = stretch.place in omega arith

  -- the records behind the first one of the volume
  behind : slice_get log.recs (h.first - log.first) ≡ slice_get (h.recs ++ stretch.after) 0
  behind =
      let zero_more : length stretch.before ≡ length stretch.before + 0 = omega arith in
      ap (λ (t : List Rec). slice_get t (h.first - log.first)) stretch.split
      ∙ ap (λ j. slice_get (stretch.before ++ (h.recs ++ stretch.after)) j) (place_is ∙ zero_more)
      ∙ get_past stretch.before (h.recs ++ stretch.after) 0

  -- its records among those below the number past the last one
  upto : recs_below log (next_number h) ≡ stretch.before ++ h.recs
  upto =
      let p = stretch.place in
      let long : length (stretch.before ++ h.recs) ≡ length stretch.before + length h.recs = length-append stretch.before h.recs in
      let count : next_number h - log.first ≡ length (stretch.before ++ h.recs) = omega arith in
      ap (λ j. take j log.recs) count
      ∙ ap (λ (t : List Rec). take (length (stretch.before ++ h.recs)) t) (stretch.split ∙ sym (append_assoc stretch.before h.recs stretch.after))
      ∙ take-append_seam (stretch.before ++ h.recs) stretch.after

  pub first_stands : (c : Counters) (rest : List Rec) → h.recs ≡ records.Checkpoint h.first c ∷ rest → slice_get log.recs (h.first - log.first) ≡ Some (records.Checkpoint h.first c)
  first_stands c rest is = behind ∙ ap (λ (t : List Rec). slice_get (t ++ stretch.after) 0) is

  -- behind a checkpoint at which the log may begin the counters are its own
  counters_are : (c : Counters) (rest : List Rec) → h.recs ≡ records.Checkpoint h.first c ∷ rest → MayBegin log h.first → h.counters ≡ after_records no_counters h.recs
      → h.counters ≡ (base_at log (next_number h)).counters
  counters_are c rest is may come =
      let check : Rec = records.Checkpoint h.first c in
      let p = stretch.place in
      let stands : slice_get log.recs (h.first - log.first) ≡ Some check = first_stands c rest is in
      let own : may.counters ≡ c = counters_of (sym may.checkpoint ∙ stands) in
      let next : h.first + 1 - log.first ≡ suc (h.first - log.first) = omega arith in
      let front : take (h.first - log.first) log.recs ≡ stretch.before
      = ap (λ j. take j log.recs) place_is ∙ ap (λ (t : List Rec). take (length stretch.before) t) stretch.split ∙ take-append_seam stretch.before (h.recs ++ stretch.after) in
      let one : recs_below log (h.first + 1) ≡ stretch.before ++ check ∷ []
      = ap (λ j. take j log.recs) next ∙ take_next log.recs (h.first - log.first) check stands ∙ ap (λ (t : List Rec). t ++ check ∷ []) front in
      let here : after_record (after_records log.base.counters stretch.before) check ≡ c
      = sym (fold_push after_record log.base.counters stretch.before check) ∙ ap (after_records log.base.counters) (sym one) ∙ may.whole ∙ own in
      let zeros : after_record no_counters check ≡ c = raised_to no_counters c h.first (record { next = omega arith; oldest = omega arith; multi = omega arith; offset = omega arith; oldest_multi = omega arith; oldest_offset = omega arith }) in
      let all : after_records log.base.counters (stretch.before ++ h.recs) ≡ after_records c rest
      = fold-append after_record log.base.counters stretch.before h.recs ∙ ap (after_records (after_records log.base.counters stretch.before)) is ∙ ap (λ (b : Counters). after_records b rest) here in
      come ∙ ap (after_records no_counters) is ∙ ap (λ (b : Counters). after_records b rest) zeros ∙ sym all ∙ sym (ap (after_records log.base.counters) upto)
    where
      counters_of : {n : ℕ} {a b : Counters} → Some (records.Checkpoint n a) ≡ Some (records.Checkpoint n b) → a ≡ b
      counters_of e = cc

  pub log_opens : (gate : ℕ) (v : Volume) → opened v ≡ opened_as_history h gate → EndsWithin v → log.flushed ≤ next_number h → MayBegin log h.first → LogFits log h.first v
  log_opens gate v opens ends flushed may =
      let p = stretch.place in
      let come = history_comes v h gate opens in
      let first = first_is h.recs h.first come.0 in
      let long : length log.recs ≡ length (stretch.before ++ h.recs) + length stretch.after
      = ap (λ (t : List Rec). length t) (stretch.split ∙ sym (append_assoc stretch.before h.recs stretch.after)) ∙ length-append (stretch.before ++ h.recs) stretch.after in
      let front : length (stretch.before ++ h.recs) ≡ length stretch.before + length h.recs = length-append stretch.before h.recs in
      record {
        history = h;
        gate = gate;
        opens = opens;
        within = within (opened v) opens ends;
        first = refl;
        from = omega arith;
        recs = sym (ap (λ j. drop j (recs_below log (next_number h))) place_is ∙ ap (λ (t : List Rec). drop (length stretch.before) t) upto ∙ drop-append_seam stretch.before h.recs);
        counters = counters_are first.0 first.1 first.2 may come.1.0;
        flushed = flushed;
        upto = omega arith;
      }
    where
      within : (r : Result Opened ℕ) → r ≡ opened_as_history h gate → IfOk r (λ o. IsSome o.history → o.gate < length v.bytes) → gate < length v.bytes
      within r e ends = subst (λ (r : Result Opened ℕ). IfOk r (λ o. IsSome o.history → o.gate < length v.bytes)) e ends refl
