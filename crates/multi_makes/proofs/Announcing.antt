-- A truncation names what was announced.
use Rattle.std.proofs.Common.{◌≡◌, ◌⊎◌, ⊎_elim, inl, inr, ℕ, List, [], ◌∷◌, ◌++◌, Contains, Option, None, Some, Result, Ok, Err, refl, sym, subst, ◌∙◌, arith}
use Rattle.std.proofs.lemmas.List.Elements.{Contains-append_left, Contains-push}
use Rattle.std.proofs.lemmas.List.Sums.{fold_push}
use Rattle.notes.specs.Lists.{Grows}
use Rattle.tx_events.proofs.Membership.{by_end}
use Rattle.tx_events.specs.declared.event.By.{By}
use Rattle.tx_events.specs.declared.event.Event.TheVariants as events
use Rattle.tx_events.specs.declared.multi.MultiEvent.{MultiEvent}
use Rattle.tx_events.specs.declared.multi.MultiEvent.TheVariants as multis
use Rattle.tx_events.specs.declared.record.Counters.{Counters}
use Rattle.tx_events.specs.declared.record.Rec.{Rec}
use Rattle.tx_events.specs.declared.record.Rec.TheVariants as records
use Rattle.tx_events.specs.Horizon.{oldest_id}
use Rattle.tx_events.specs.Multis.{multi_counters, oldest_multi, oldest_multi_after, oldest_offset, oldest_offset_after}
use Rattle.tx_core.specs.declared.entry.Entry.{Entry}
use Rattle.tx_core.specs.declared.entry.Start.{Start}
use Rattle.tx_core.specs.Entries.{history}
use Rattle.tx_core.specs.MultiEntries.{multi_history}
use Rattle.tx_core.specs.RecordsFollow.{IsMultiAnnounced, IsOldestAnnounced}
use Rattle.tx_core.proofs.Growing.{contains_begins}
use Rattle.tx_core.proofs.Lasting.{history_grows}
use Rattle.tx_core.proofs.StopLimits.{found_announced}
use Rattle.tx_events.specs.declared.refusal.Refusal.{Refusal}
use Rattle.tx_core.specs.declared.entry.Kind.{Kind}
use Rattle.tx_core.specs.Locks.{multi_lock}
use Rattle.engine_parts.specs.declared.session.Making.{Making}
use Rattle.engine_parts.specs.declared.session.Session.{Session}
use Rattle.engine_parts.specs.Adding.{Adds, IsOfMulti, IsPlain, IsToldBy, IsTruncation, MayAdd, MayFault}
use Rattle.engine_parts.specs.Holds.{Knowledge, Section}
use Rattle.engine_parts.specs.Sessions.{IsAt, by_at, look_by}
use Rattle.engine_parts.proofs.Adding.{may_wider, plain_wider}
use Rattle.engine_parts.proofs.Sectioning.{shared_adds}
use Rattle.log_sections.specs.declared.appending.Appended.{Appended}
use Rattle.log_sections.specs.declared.appending.Appended.TheVariants as came
use Rattle.log_sections.specs.LogSections.{IsTruncationOf}
use Rattle.log_sections.specs.MultiRecords.{IsMakingRecord, TakesMulti}
use Rattle.multi_makes.specs.Pending.{IsPending}

-- the oldest multixact and its offset are those with which the life began, or were announced together
abbrev IsPair : Counters → List MultiEvent → Type 0
IsPair base h =
    ((oldest_multi base.oldest_multi h ≡ base.oldest_multi) × (oldest_offset base.oldest_offset h ≡ base.oldest_offset))
    ⊎ ((by : By) × Contains h (multis.Raise by (oldest_multi base.oldest_multi h) (oldest_offset base.oldest_offset h)))

pair_announced : (base : Counters) (h : List MultiEvent) → IsPair base h
pair_announced base = by_end (IsPair base) (inl (refl, refl)) (λ h e before. step h e before)
  where
    kept : (h : List MultiEvent) (e : MultiEvent) → oldest_multi base.oldest_multi (h ++ e ∷ []) ≡ oldest_multi base.oldest_multi h → oldest_offset base.oldest_offset (h ++ e ∷ []) ≡ oldest_offset base.oldest_offset h → IsPair base h → IsPair base (h ++ e ∷ [])
    kept h e same same' before = ⊎_elim
        (λ (q : (oldest_multi base.oldest_multi h ≡ base.oldest_multi) × (oldest_offset base.oldest_offset h ≡ base.oldest_offset)). inl (same ∙ q.0, same' ∙ q.1))
        (λ (z : (by : By) × Contains h (multis.Raise by (oldest_multi base.oldest_multi h) (oldest_offset base.oldest_offset h))).
        inr (z.0, subst (λ (o : ℕ × ℕ). Contains (h ++ e ∷ []) (multis.Raise z.0 o.0 o.1)) (λ j. (sym same j, sym same' j)) (Contains-append_left h (e ∷ []) (multis.Raise z.0 (oldest_multi base.oldest_multi h) (oldest_offset base.oldest_offset h)) z.1)))
        before

    step : (h : List MultiEvent) (e : MultiEvent) → IsPair base h → IsPair base (h ++ e ∷ [])
    step h (multis.Raise by multi offset) before =
        let m : oldest_multi base.oldest_multi (h ++ multis.Raise by multi offset ∷ []) ≡ multi = fold_push oldest_multi_after base.oldest_multi h (multis.Raise by multi offset) in
        let o : oldest_offset base.oldest_offset (h ++ multis.Raise by multi offset ∷ []) ≡ offset = fold_push oldest_offset_after base.oldest_offset h (multis.Raise by multi offset) in
        inr (by, subst (λ (z : ℕ × ℕ). Contains (h ++ multis.Raise by multi offset ∷ []) (multis.Raise by z.0 z.1)) (λ j. (sym m j, sym o j)) (Contains-push h (multis.Raise by multi offset)))
    step h (multis.Gen by multi offset members) before = let e : MultiEvent = multis.Gen by multi offset members in kept h e (fold_push oldest_multi_after base.oldest_multi h e) (fold_push oldest_offset_after base.oldest_offset h e) before
    step h (multis.Hold by multi) before = let e : MultiEvent = multis.Hold by multi in kept h e (fold_push oldest_multi_after base.oldest_multi h e) (fold_push oldest_offset_after base.oldest_offset h e) before
    step h (multis.Unhold by multi) before = let e : MultiEvent = multis.Unhold by multi in kept h e (fold_push oldest_multi_after base.oldest_multi h e) (fold_push oldest_offset_after base.oldest_offset h e) before

id_later : (start : Start) (lists more : List (List Entry)) (oldest : ℕ) → Grows lists more → IsOldestAnnounced start lists oldest → IsOldestAnnounced start more oldest
id_later start lists more oldest g a = ⊎_elim inl (λ (z : (by : By) × Contains (history lists) (events.Oldest by oldest)). inr (z.0, contains_begins (history lists) (history more) _ (history_grows lists more g) z.1)) a

-- so is what two looks found, one behind the other
pub truncation_found : (start : Start) (first second : List (List Entry)) (oldest : ℕ) (found : Counters) (rec : Rec) → Grows first second → oldest ≡ oldest_id start.base.oldest (history first) → found ≡ multi_counters start.base (multi_history second) → rec ≡ records.Truncate oldest found.oldest_multi found.oldest_offset → IsTruncationOf start second rec
truncation_found start first second oldest found rec g is same of =
    let h : List MultiEvent = multi_history second in
    record {
      oldest = oldest;
      multi = found.oldest_multi;
      offset = found.oldest_offset;
      is = of;
      id = id_later start first second oldest g (subst (IsOldestAnnounced start first) (sym is) (found_announced start.base.oldest (history first)));
      first = subst (λ (z : Counters). IsMultiAnnounced start second z.oldest_multi z.oldest_offset) (sym same) (pair_announced start.base h);
    }

pub is_truncation : (rec : Rec) (oldest multi offset : ℕ) → rec ≡ records.Truncate oldest multi offset → IsTruncation rec
is_truncation rec oldest multi offset is = subst IsTruncation (sym is) tt

of_truncation : (rec : Rec) → IsTruncation rec → IsOfMulti rec
of_truncation (records.Truncate oldest multi offset) t = tt
of_truncation _ t = absurd t

-- ---- what it adds

pub truncation_wider : (lock : ℕ) (kind : Kind) → MayAdd IsTruncation ⊥ (λ r. ⊥) lock kind → MayAdd IsOfMulti ⊥ (λ r. ⊥) lock kind
truncation_wider = may_wider IsTruncation IsOfMulti ⊥ ⊥ (λ r. ⊥) (λ r. ⊥) of_truncation (λ m. m) (λ r m. m)

-- the record that isn't logged yet is the pending one
pub making_pending : (o : Option Making) (rec : Rec) → IsMakingRecord o rec → IsPending o rec
making_pending None rec p = absurd p
making_pending (Some m) rec p = p.0

making_of_multi : (o : Option Making) (rec : Rec) → IsMakingRecord o rec → IsOfMulti rec
making_of_multi None rec p = absurd p
making_of_multi (Some m) rec p = subst IsOfMulti (sym p.0) tt

pub record_wider : (o : Option Making) (rec : Rec) → IsMakingRecord o rec → (lock : ℕ) (kind : Kind) → MayAdd (λ z. z ≡ rec) ⊥ (λ r. ⊥) lock kind → MayAdd IsOfMulti ⊥ (λ r. ⊥) lock kind
record_wider o rec p = may_wider (λ z. z ≡ rec) IsOfMulti ⊥ ⊥ (λ r. ⊥) (λ r. ⊥) (λ z is. subst IsOfMulti (sym is) (making_of_multi o rec p)) (λ m. m) (λ r m. m)

-- what a command tells it may tell
pub told_wider : {T : Type 0} (result : Result T Refusal) (lock : ℕ) (kind : Kind) → MayAdd IsOfMulti ⊥ (λ r. ⊥) lock kind → MayAdd IsOfMulti ⊥ (IsToldBy result) lock kind
told_wider result = may_wider IsOfMulti IsOfMulti ⊥ ⊥ (λ r. ⊥) (IsToldBy result) (λ z m. m) (λ m. m) (λ r m. absurd m)

-- a step that only met a fault
pub fault_wider : {T : Type 0} (result : Result T Refusal) (lock : ℕ) (kind : Kind) → MayFault result lock kind → MayAdd IsOfMulti ⊥ (IsToldBy result) lock kind
fault_wider (Ok x) lock kind m = plain_wider IsOfMulti ⊥ (λ r. ⊥) lock kind m
fault_wider (Err told) lock kind m = may_wider (λ rec. ⊥) IsOfMulti ⊥ ⊥ (λ r. told ≡ r) (λ r. told ≡ r) (λ rec m. absurd m) (λ m. absurd m) (λ r is. is) lock kind m

-- where the log couldn't take the record, the session stands as before
pub unlogged_same : (start : Start) (lists : List (List Entry)) (rec : Rec) (s s' : Session) (appended : Appended) → appended ≡ came.NoBase → TakesMulti start lists rec s s' (Ok appended) → s' ≡ s
unlogged_same start lists rec s s' appended is a = (subst (λ (z : Appended). TakesMulti start lists rec s s' (Ok z)) is a).0

-- a look at the generator
pub multi_look_adds : (start : Start) (v w : Knowledge) (n : ℕ) (s : Session) → IsAt start v n s → Section start multi_lock (look_by n s) v w → Adds (by_at n s.levels.commands) IsPlain v.seen w.seen
multi_look_adds start v w n s a section = shared_adds start v w multi_lock (look_by n s) (by_at n s.levels.commands) s IsPlain (omega arith) a section refl tt
