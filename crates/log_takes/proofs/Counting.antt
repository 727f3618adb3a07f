-- The counters of the log behind each of its records.
use Rattle.std.proofs.Common.{List, None, Option, Some, [], append-nil, ap, arith, inl, inr, length, map, max, refl, subst, sym, ℕ, ⊎_elim, ◌++◌, ◌+◌, ◌∙◌, ◌∷◌, ◌<◌, ◌≡◌, ◌≤◌, ◌⊎◌}
use Rattle.std.proofs.lemmas.List.{map-append, map_push}
use Rattle.std.proofs.lemmas.List.Elements.{filter_map-append}
use Rattle.std.proofs.lemmas.List.Sums.{fold-append, fold_push}
use Rattle.std.specs.List.{cons_option}
use Rattle.notes.specs.Lists.{Grows, at}
use Rattle.tx_events.specs.Ids.{IsFullId, next_id, next_multi}
use Rattle.tx_events.specs.declared.event.By.{By}
use Rattle.tx_events.specs.declared.record.Counters.{Counters}
use Rattle.tx_events.specs.declared.record.Rec.{Rec}
use Rattle.tx_events.specs.declared.record.Rec.TheVariants as records
use Rattle.tx_events.specs.After.{after_record, after_records, ids_of, past_ids}
use Rattle.tx_events.specs.Base.{IsBase}
use Rattle.tx_events.proofs.IdOrder.{next_full}
use Rattle.tx_events.proofs.ListSteps.{le_or_over}
use Rattle.tx_events.proofs.Membership.{Has}
use Rattle.tx_events.proofs.PlaceLemmas.{by_place}
use Rattle.tx_core.specs.declared.entry.Entry.{Entry}
use Rattle.tx_core.specs.declared.entry.Kind.TheVariants as kinds
use Rattle.tx_core.specs.declared.entry.Start.{Start}
use Rattle.tx_core.specs.EngineInvariant.{EngineInvariant}
use Rattle.tx_core.specs.Entries.{appended, records_in, recs_in}
use Rattle.tx_core.specs.Locks.{log_lock}
use Rattle.tx_core.specs.RecordsFollow.{AppendOf, AreNotBelow, NamedOf, NeedsCounters, NeedsNamed, counters_after}
use Rattle.tx_core.proofs.Reading.{appended_is}

-- ---- numbers

pub max_one : (P : ℕ → Type 0) (a b : ℕ) → P a → P b → P (max a b)
max_one P a b p q = ⊎_elim (λ (l : a ≤ b). let e : b ≡ max a b = omega arith in subst P e q) (λ (l : b < a). let e : a ≡ max a b = omega arith in subst P e p) (le_or_over a b)

pub at_least : (a b : ℕ) → (a ≤ max a b) × (b ≤ max a b)
at_least a b = (omega arith, omega arith)

-- ---- the log's counters

pub counters_push : (start : Start) (es : List Entry) (by : By) (rec : Rec) → counters_after start (es ++ record { by = by; kind = kinds.Append rec } ∷ []) ≡ after_record (counters_after start es) rec
counters_push start es by rec =
    ap (λ (t : List (By × Rec)). after_records start.base (map (λ (r : By × Rec). r.1) t)) (filter_map-append appended es (record { by = by; kind = kinds.Append rec } ∷ []))
    ∙ (ap (after_records start.base) (map_push (λ (r : By × Rec). r.1) (records_in es) (by, rec)) ∙ fold_push after_record start.base (recs_in es) rec)

-- what holds at the start, and behind each record where it held before, holds of them
module _ (start : Start) (lists : List (List Entry)) (k : EngineInvariant start lists) where
  -- what an entry of the log needs
  record Needs (before : List Entry) (e : Entry) : Type 0 where
    counters : NeedsCounters start lists log_lock before e
    named : NeedsNamed start lists log_lock before e

  pub by_records : (Q : Counters → Type 0) → Q start.base
      → ((before : List Entry) (by : By) (rec : Rec) → Q (counters_after start before) → AppendOf start lists before (kinds.Append rec) → NamedOf start lists by (kinds.Append rec) → Q (after_record (counters_after start before) rec))
      → Q (counters_after start (at lists log_lock))
  by_records Q first step =
      by_place Needs (λ es. Q (counters_after start es)) first (λ es e before n. push es e (appended e) refl before n) (at lists log_lock)
      (λ p e g. record { counters = k.log.counters.each log_lock p e g; named = k.log.named.each log_lock p e g })
    where
      push : (es : List Entry) (e : Entry) (o : Option (By × Rec)) → appended e ≡ o → Q (counters_after start es) → Needs es e → Q (counters_after start (es ++ e ∷ []))
      push es e None q before n = subst Q (sym (ap (λ t. after_records start.base (map (λ (r : By × Rec). r.1) t)) (filter_map-append appended es (e ∷ []) ∙ (ap (λ o. records_in es ++ cons_option o []) q ∙ append-nil (records_in es))))) before
      push es e (Some r) q before n =
          let kind = appended_is e.by e.kind r q in
          subst Q (sym (ap (λ k. counters_after start (es ++ record { by = e.by; kind = k } ∷ [])) kind ∙ counters_push start es e.by r.1))
          (step es e.by r.1 before (subst (AppendOf start lists es) kind n.counters) (subst (NamedOf start lists e.by) kind n.named))

-- so they are a base
pub log_base : (start : Start) (lists : List (List Entry)) → EngineInvariant start lists → IsBase start.base → IsBase (counters_after start (at lists log_lock))
log_base start lists k is = by_records start lists k IsBase is (λ before by rec b n m. n.0)

-- each record only raises them
past_next : (c : Counters) (next : ℕ) → c.next ≤ next → AreNotBelow c (record c { next = next })
past_next c next up = record { next = up; oldest = omega arith; multi = omega arith; offset = omega arith; oldest_multi = omega arith; oldest_offset = omega arith }

raised_by : (c : Counters) (next oldest multi offset oldest_multi oldest_offset : ℕ) → c.next ≤ next → AreNotBelow c (record { next = next; oldest = max c.oldest oldest; multi = max c.multi multi; offset = max c.offset offset; oldest_multi = max c.oldest_multi oldest_multi; oldest_offset = max c.oldest_offset oldest_offset })
raised_by c next oldest multi offset oldest_multi oldest_offset up = record {
  next = up;
  oldest = (at_least c.oldest oldest).0;
  multi = (at_least c.multi multi).0;
  offset = (at_least c.offset offset).0;
  oldest_multi = (at_least c.oldest_multi oldest_multi).0;
  oldest_offset = (at_least c.oldest_offset oldest_offset).0;
}

pub past_above : (next : ℕ) (ids : List ℕ) → next ≤ past_ids next ids
past_above next [] = omega arith
past_above next (id ∷ ids) = omega (arith, past_above (max next (next_id id)) ids)

pub past_upto : (next bound : ℕ) (ids : List ℕ) → next ≤ bound → ((id : ℕ) → Has ids id → next_id id ≤ bound) → past_ids next ids ≤ bound
past_upto next bound [] le each = le
past_upto next bound (id ∷ ids) le each = past_upto (max next (next_id id)) bound ids (max_one (λ z. z ≤ bound) next (next_id id) le (each id (inl refl))) (λ x here. each x (inr here))

pub past_full : (next : ℕ) (ids : List ℕ) → IsFullId next → IsFullId (past_ids next ids)
past_full next [] full = full
past_full next (id ∷ ids) full = past_full (max next (next_id id)) ids (max_one IsFullId next (next_id id) full (next_full id))

record_raises : (c : Counters) (rec : Rec) → AreNotBelow c (after_record c rec)
record_raises c (records.Commit top subs) = past_next c (past_ids c.next (top ∷ subs)) (past_above c.next (top ∷ subs))
record_raises c (records.Abort top subs) = past_next c (past_ids c.next (top ∷ subs)) (past_above c.next (top ∷ subs))
record_raises c (records.Multi multi offset members) = record {
  next = past_above c.next (ids_of members);
  oldest = omega arith;
  multi = (at_least c.multi (next_multi multi)).0;
  offset = (at_least c.offset (offset + length members)).0;
  oldest_multi = omega arith;
  oldest_offset = omega arith;
}
record_raises c (records.Checkpoint number n) = raised_by c (max c.next n.next) n.oldest n.multi n.offset n.oldest_multi n.oldest_offset (at_least c.next n.next).0
record_raises c (records.Truncate oldest multi offset) = raised_by c (max c.next oldest) oldest multi offset multi offset (at_least c.next oldest).0

pub records_raise : (c : Counters) (recs : List Rec) → AreNotBelow c (after_records c recs)
records_raise c [] = past_next c c.next (omega arith)
records_raise c (rec ∷ recs) =
    let a = record_raises c rec in
    let b = records_raise (after_record c rec) recs in
    let next = a.next in let next_then = b.next in
    let oldest = a.oldest in let oldest_then = b.oldest in
    let multi = a.multi in let multi_then = b.multi in
    let offset = a.offset in let offset_then = b.offset in
    let oldest_multi = a.oldest_multi in let oldest_multi_then = b.oldest_multi in
    let oldest_offset = a.oldest_offset in let oldest_offset_then = b.oldest_offset in
    record { next = omega arith; oldest = omega arith; multi = omega arith; offset = omega arith; oldest_multi = omega arith; oldest_offset = omega arith }

-- so as the lists grow
pub counters_rise : (start : Start) (lists more : List (List Entry)) → Grows lists more → AreNotBelow (counters_after start (at lists log_lock)) (counters_after start (at more log_lock))
counters_rise start lists more grows =
    let b = grows.begins log_lock in
    let split : counters_after start (at more log_lock) ≡ after_records (counters_after start (at lists log_lock)) (recs_in b.0) =
    ap (λ (es : List Entry). counters_after start es) (sym b.1)
    ∙ (ap (after_records start.base) (recs_both (at lists log_lock) b.0) ∙ fold-append after_record start.base (recs_in (at lists log_lock)) (recs_in b.0)) in
    subst (AreNotBelow (counters_after start (at lists log_lock))) (sym split) (records_raise (counters_after start (at lists log_lock)) (recs_in b.0))
  where
    recs_both : (xs ys : List Entry) → recs_in (xs ++ ys) ≡ recs_in xs ++ recs_in ys
    recs_both xs ys = ap (map (λ (r : By × Rec). r.1)) (filter_map-append appended xs ys) ∙ map-append (λ (r : By × Rec). r.1) (records_in xs) (records_in ys)
