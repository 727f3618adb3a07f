-- The log's counters are not past those of the ProcArray and the multixacts.
use Rattle.std.proofs.Common.{Contains, List, None, Option, Some, [], append-nil, append_assoc, ap, arith, drop, length, max, map, refl, subst, sym, take, take-append-drop, ℕ, ⊎_elim, ◌++◌, ◌+◌, ◌∙◌, ◌∷◌, ◌≡◌, ◌≤◌}
use Rattle.std.proofs.lemmas.List.Elements.{filter_map-append}
use Rattle.std.proofs.lemmas.List.Sums.{fold_push}
use Rattle.std.proofs.lemmas.List.{map_push}
use Rattle.std.specs.List.{cons_option}
use Rattle.tx_events.specs.Ids.{next_multi}
use Rattle.tx_events.specs.declared.event.By.{By}
use Rattle.tx_events.specs.declared.multi.MultiEvent.{MultiEvent}
use Rattle.tx_events.specs.declared.multi.MultiEvent.TheVariants as multis
use Rattle.tx_events.specs.declared.record.Counters.{Counters}
use Rattle.tx_events.specs.declared.record.Rec.{Rec}
use Rattle.tx_events.specs.declared.record.Rec.TheVariants as records
use Rattle.tx_events.proofs.Membership.{by_end, contains_has, has_place}
use Rattle.tx_events.proofs.PlaceLemmas.{by_place, each_place_last, each_place_start}
use Rattle.tx_events.specs.After.{after_record, after_records}
use Rattle.tx_events.specs.Base.{IsBase}
use Rattle.tx_events.specs.Places.{EachPlace}
use Rattle.tx_events.specs.Horizon.{oldest_id}
use Rattle.tx_events.specs.Multis.{AreLegalMultis, InBase, IsRaised, MultiMayCome, first_member, free_after, free_offset, next_made, oldest_multi, oldest_offset}
use Rattle.tx_core.specs.declared.entry.Entry.{Entry}
use Rattle.tx_core.specs.declared.entry.Kind.TheVariants as kinds
use Rattle.tx_core.specs.declared.entry.Start.{Start}
use Rattle.tx_core.proofs.Cutting.{oldest_upto}
use Rattle.tx_core.proofs.MultiGiven.{gen_next, oldest_from}
use Rattle.tx_core.proofs.MultiOrder.{ordered}
use Rattle.tx_core.proofs.MultiRaised.{first_past, last_raised, raise_within}
use Rattle.tx_core.proofs.Nearness.{multis_are_legal}
use Rattle.tx_core.proofs.Posting.{oldest_by_places}
use Rattle.tx_core.proofs.Reading.{appended_is}
use Rattle.tx_core.proofs.RecordNext.{next_given_all}
use Rattle.tx_core.proofs.Rising.{made_more}
use Rattle.tx_core.specs.EngineInvariant.{EngineInvariant}
use Rattle.tx_core.specs.Entries.{appended, history, records_in, recs_in}
use Rattle.tx_core.specs.Consequences.{CheckpointsTell, LogIsBehind}
use Rattle.tx_core.specs.Locks.{log_lock}
use Rattle.tx_core.specs.MultiEntries.{multi_history}
use Rattle.tx_core.specs.RecordsFollow.{AppendOf, AreNotBelow, IsMultiAnnounced, IsMultiAt, NamedOf, NeedsCounters, NeedsNamed, counters_after}
use Rattle.notes.specs.Lists.{at}

free_step : (base : Counters) (h : List MultiEvent) (e : MultiEvent) → MultiMayCome base (InBase base) h e → free_offset base.offset h ≤ free_after (free_offset base.offset h) e
free_step base h (multis.Gen by multi offset members) rule = let at : offset ≡ first_member (free_offset base.offset h) = rule.first in let up = first_past (free_offset base.offset h) in omega arith
free_step base h _ rule = omega arith

-- the free offset never falls
free_more : (base : Counters) (h rest : List MultiEvent) → AreLegalMultis base (InBase base) (h ++ rest) → free_offset base.offset h ≤ free_offset base.offset (h ++ rest)
free_more base h = by_end (λ rest. AreLegalMultis base (InBase base) (h ++ rest) → free_offset base.offset h ≤ free_offset base.offset (h ++ rest))
    (λ legal. subst (λ t. free_offset base.offset h ≤ free_offset base.offset t) (sym (append-nil h)) (omega arith))
    (λ rest e before legal.
    let split : h ++ (rest ++ e ∷ []) ≡ (h ++ rest) ++ e ∷ [] = sym (append_assoc h rest (e ∷ [])) in
    let all : AreLegalMultis base (InBase base) ((h ++ rest) ++ e ∷ []) = subst (AreLegalMultis base (InBase base)) split legal in
    let low = before (each_place_start (MultiMayCome base (InBase base)) (h ++ rest) (e ∷ []) all) in
    let step = free_step base (h ++ rest) e (each_place_last (MultiMayCome base (InBase base)) (h ++ rest) e all) in
    let now : free_offset base.offset ((h ++ rest) ++ e ∷ []) ≡ free_after (free_offset base.offset (h ++ rest)) e = fold_push free_after base.offset (h ++ rest) e in
    subst (λ t. free_offset base.offset h ≤ free_offset base.offset t) (sym split) (omega arith))

most : (a b n : ℕ) → a ≤ n → b ≤ n → max a b ≤ n
most a b n le up = grind arith

module _ (start : Start) (lists : List (List Entry)) (k : EngineInvariant start lists) (is : IsBase start.base) where
  legal : AreLegalMultis start.base (InBase start.base) (multi_history lists)
  legal = multis_are_legal start lists k

  -- the counters but the next id, of which a law says it
  record IsBehind (c : Counters) : Type 0 where
    oldest : c.oldest ≤ oldest_id start.base.oldest (history lists)
    multi : c.multi ≤ next_made start.base.multi (multi_history lists)
    offset : c.offset ≤ free_offset start.base.offset (multi_history lists)
    oldest_multi : c.oldest_multi ≤ oldest_multi start.base.oldest_multi (multi_history lists)
    oldest_offset : c.oldest_offset ≤ oldest_offset start.base.oldest_offset (multi_history lists)

  begins : IsBehind start.base
  begins =
      let h = multi_history lists in
      let o = ordered start.base is h legal in record {
        oldest = oldest_by_places start.base (history lists) k.events.legal 0;
        multi = made_more start.base.multi [] h (h, refl);
        offset = o.from;
        oldest_multi = oldest_from start.base h legal;
        oldest_offset = o.oldest;
      }

  -- what a raise names is within what was given, and not past what is announced now
  record IsWithin (multi offset : ℕ) : Type 0 where
    given : multi ≤ next_made start.base.multi (multi_history lists)
    free : offset ≤ free_offset start.base.offset (multi_history lists)
    multi_upto : multi ≤ oldest_multi start.base.oldest_multi (multi_history lists)
    offset_upto : offset ≤ oldest_offset start.base.oldest_offset (multi_history lists)

  announced_within : (multi offset : ℕ) → IsMultiAnnounced start lists multi offset → IsWithin multi offset
  announced_within multi offset a =
      let h = multi_history lists in
      let b = begins in
      let is_multi = is.oldest_multi in
      let is_offset = is.oldest_offset in
      let b_multi = b.multi in
      let b_offset = b.offset in
      let b_oldest = b.oldest_multi in
      let b_at = b.oldest_offset in
      ⊎_elim
      (λ (q : (multi ≡ start.base.oldest_multi) × (offset ≡ start.base.oldest_offset)). let q0 = q.0 in let q1 = q.1 in record { given = omega arith; free = omega arith; multi_upto = omega arith; offset_upto = omega arith })
      (λ (q : (by : By) × Contains h (multis.Raise by multi offset)).
      let raise = contains_has h (multis.Raise q.0 multi offset) q.1 in
      let last = (last_raised start.base is h legal).upto q.0 multi offset raise in
      let p = has_place h (multis.Raise q.0 multi offset) raise in
      let front = take p.0 h in
      let rule : IsRaised start.base (InBase start.base) front multi offset = legal p.0 (multis.Raise q.0 multi offset) p.1 in
      let inside = raise_within start.base front multi offset rule in
      let more = made_more start.base.multi front h (drop p.0 h, take-append-drop p.0 h) in
      record { given = omega arith; free = ((ordered start.base is h legal).raised q.0 multi offset raise).1; multi_upto = last.0; offset_upto = last.1 })
      a

  -- one record more
  behind_step : (before : List Entry) (by : By) (rec : Rec) → IsBehind (counters_after start before) → AppendOf start lists before (kinds.Append rec) → NamedOf start lists by (kinds.Append rec) → IsBehind (after_record (counters_after start before) rec)
  behind_step before by (records.Commit top subs) c counters named = record { oldest = c.oldest; multi = c.multi; offset = c.offset; oldest_multi = c.oldest_multi; oldest_offset = c.oldest_offset }
  behind_step before by (records.Abort top subs) c counters named = record { oldest = c.oldest; multi = c.multi; offset = c.offset; oldest_multi = c.oldest_multi; oldest_offset = c.oldest_offset }
  behind_step before by (records.Multi multi offset members) c counters named =
      let h = multi_history lists in
      let gen = named.0 in
      let here = contains_has h (multis.Gen gen.0 multi offset members) gen.2 in
      let next = gen_next start.base gen.0 multi offset members h legal here in
      let free = ((ordered start.base is h legal).given gen.0 multi offset members here).1 in
      record {
        oldest = c.oldest;
        multi = most (counters_after start before).multi (next_multi multi) (next_made start.base.multi h) c.multi next;
        offset = most (counters_after start before).offset (offset + length members) (free_offset start.base.offset h) c.offset free;
        oldest_multi = c.oldest_multi;
        oldest_offset = c.oldest_offset;
      }
  behind_step before by (records.Checkpoint number other) c counters named =
      let h = multi_history lists in
      let now = counters_after start before in
      let need = counters.1 in
      let within = announced_within other.oldest_multi other.oldest_offset need.oldest_multi in
      let old_multi = c.multi in
      let old_offset = c.offset in
      let both : (other.multi ≤ next_made start.base.multi h) × (other.offset ≤ free_offset start.base.offset h) = ⊎_elim
      (λ (q : (other.multi ≡ now.multi) × (other.offset ≡ now.offset)). let q0 = q.0 in let q1 = q.1 in (omega arith, omega arith))
      (λ (q : IsMultiAt start lists other.multi other.offset).
      let split = take-append-drop q.0 h in
      let multi = made_more start.base.multi (take q.0 h) h (drop q.0 h, split) in
      let free : free_offset start.base.offset (take q.0 h) ≤ free_offset start.base.offset h
      = subst (λ t. free_offset start.base.offset (take q.0 h) ≤ free_offset start.base.offset t) split (free_more start.base (take q.0 h) (drop q.0 h) (subst (AreLegalMultis start.base (InBase start.base)) (sym split) legal)) in
      let is_multi = q.2 in
      let is_offset = q.3 in (omega arith, omega arith))
      need.multi in
      record {
        oldest = most now.oldest other.oldest (oldest_id start.base.oldest (history lists)) c.oldest (oldest_upto start lists other.oldest k need.oldest);
        multi = most now.multi other.multi (next_made start.base.multi h) c.multi both.0;
        offset = most now.offset other.offset (free_offset start.base.offset h) c.offset both.1;
        oldest_multi = most now.oldest_multi other.oldest_multi (oldest_multi start.base.oldest_multi h) c.oldest_multi within.multi_upto;
        oldest_offset = most now.oldest_offset other.oldest_offset (oldest_offset start.base.oldest_offset h) c.oldest_offset within.offset_upto;
      }
  behind_step before by (records.Truncate oldest multi offset) c counters named =
      let h = multi_history lists in
      let now = counters_after start before in
      let within = announced_within multi offset counters.1.1 in
      record {
        oldest = most now.oldest oldest (oldest_id start.base.oldest (history lists)) c.oldest (oldest_upto start lists oldest k counters.1.0);
        multi = most now.multi multi (next_made start.base.multi h) c.multi within.given;
        offset = most now.offset offset (free_offset start.base.offset h) c.offset within.free;
        oldest_multi = most now.oldest_multi multi (oldest_multi start.base.oldest_multi h) c.oldest_multi within.multi_upto;
        oldest_offset = most now.oldest_offset offset (oldest_offset start.base.oldest_offset h) c.oldest_offset within.offset_upto;
      }

  -- what an entry of the log needs
  record Needs (before : List Entry) (e : Entry) : Type 0 where
    counters : NeedsCounters start lists log_lock before e
    named : NeedsNamed start lists log_lock before e

  counters_push : (es : List Entry) (e : Entry) (o : Option (By × Rec)) → appended e ≡ o → IsBehind (counters_after start es) → Needs es e → IsBehind (counters_after start (es ++ e ∷ []))
  counters_push es e None q c n = subst IsBehind (sym (ap (λ t. after_records start.base (map (λ (r : By × Rec). r.1) t)) (filter_map-append appended es (e ∷ []) ∙ (ap (λ o. records_in es ++ cons_option o []) q ∙ append-nil (records_in es))))) c
  counters_push es e (Some r) q c n =
      let kind = appended_is e.by e.kind r q in
      let push : recs_in (es ++ e ∷ []) ≡ recs_in es ++ r.1 ∷ [] = ap (map (λ (a : By × Rec). a.1)) (filter_map-append appended es (e ∷ []) ∙ ap (λ o. records_in es ++ cons_option o []) q) ∙ map_push (λ (a : By × Rec). a.1) (records_in es) r in
      let now : counters_after start (es ++ e ∷ []) ≡ after_record (counters_after start es) r.1 = ap (after_records start.base) push ∙ fold_push after_record start.base (recs_in es) r.1 in
      subst IsBehind (sym now) (behind_step es e.by r.1 c (subst (AppendOf start lists es) kind n.counters) (subst (NamedOf start lists e.by) kind n.named))

  all_behind : IsBehind (counters_after start (at lists log_lock))
  all_behind = by_place Needs (λ es. IsBehind (counters_after start es)) begins (λ es e c n. counters_push es e (appended e) refl c n) (at lists log_lock)
      (λ p e g. record { counters = k.log.counters.each log_lock p e g; named = k.log.named.each log_lock p e g })

pub log_is_behind : LogIsBehind
log_is_behind start lists k is =
    let b = all_behind start lists k is in record {
      next = next_given_all start lists k is;
      oldest = b.oldest;
      multi = b.multi;
      offset = b.offset;
      oldest_multi = b.oldest_multi;
      oldest_offset = b.oldest_offset;
    }

-- the counters behind a checkpoint

pub same_counters : (low high : Counters) (number : ℕ) → AreNotBelow low high → after_record low (records.Checkpoint number high) ≡ high
same_counters low high number n i = record {
  next = greater low.next high.next n.next i;
  oldest = greater low.oldest high.oldest n.oldest i;
  multi = greater low.multi high.multi n.multi i;
  offset = greater low.offset high.offset n.offset i;
  oldest_multi = greater low.oldest_multi high.oldest_multi n.oldest_multi i;
  oldest_offset = greater low.oldest_offset high.oldest_offset n.oldest_offset i;
}
  where
    greater : (a b : ℕ) → a ≤ b → max a b ≡ b
    greater a b le = grind arith

pub checkpoints_tell : CheckpointsTell
checkpoints_tell start lists before rest by number counters k split =
    let e : Entry = record { by = by; kind = kinds.Append (records.Checkpoint number counters) } in
    let Rule : List Entry → Entry → Type 0 = λ es f. NeedsCounters start lists log_lock es f in
    let whole : (before ++ e ∷ []) ++ rest ≡ at lists log_lock = append_assoc before (e ∷ []) rest ∙ sym split in
    let need : NeedsCounters start lists log_lock before e = each_place_last Rule before e (each_place_start Rule (before ++ e ∷ []) rest (subst (λ (t : List Entry). EachPlace t Rule) (sym whole) (k.log.counters.each log_lock))) in
    let push : recs_in (before ++ e ∷ []) ≡ recs_in before ++ records.Checkpoint number counters ∷ [] = ap (map (λ (a : By × Rec). a.1)) (filter_map-append appended before (e ∷ [])) ∙ map_push (λ (a : By × Rec). a.1) (records_in before) (by, records.Checkpoint number counters) in
    ap (after_records start.base) push ∙ fold_push after_record start.base (recs_in before) (records.Checkpoint number counters) ∙ same_counters (counters_after start before) counters number need.1.not_below
