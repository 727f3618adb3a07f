-- The counters as they stand are those of a base, and a checkpoint of them may come next in the log.
use Rattle.std.proofs.Common.{◌≡◌, ℕ, ◌+◌, ◌-◌, ◌<◌, ◌≤◌, ◌^◌, ◌++◌, ◌∷◌, ◌⊎◌, ⊎_elim, List, [], length, take, inl, inr, refl, sym, ap, subst, arith}
use Rattle.std.proofs.lemmas.List.{length-map}
use Rattle.notes.specs.Lists.{at}
use Rattle.tx_events.specs.Ids.{IsFullId}
use Rattle.tx_events.specs.Base.{IsBase}
use Rattle.tx_events.specs.Events.{given}
use Rattle.tx_events.specs.Multis.{free_offset, multi_counters, next_made, oldest_multi, oldest_multi_after, oldest_offset, oldest_offset_after}
use Rattle.tx_events.specs.Limits.{member_stop, multi_stop_limit, stop_limit}
use Rattle.tx_events.specs.declared.event.By.{By}
use Rattle.tx_events.specs.declared.multi.MultiEvent.{MultiEvent}
use Rattle.tx_events.specs.declared.multi.MultiEvent.TheVariants as multis
use Rattle.tx_events.proofs.Membership.{Has, by_end, has_contains, has_left, has_right}
use Rattle.std.proofs.lemmas.List.Sums.{fold_push}
use Rattle.tx_events.specs.declared.record.Counters.{Counters}
use Rattle.tx_events.specs.declared.record.Rec.{Rec}
use Rattle.tx_events.specs.declared.record.Rec.TheVariants as records
use Rattle.tx_events.proofs.IdOrder.{nth_full}
use Rattle.life_law.specs.LifeLog.{counters_behind}
use Rattle.tx_core.specs.declared.entry.Entry.{Entry}
use Rattle.tx_core.specs.declared.entry.Start.{Start}
use Rattle.multi_store.proofs.LegalSound.{legal_base}
use Rattle.tx_core.proofs.Nearness.{multis_are_legal}
use Rattle.tx_core.specs.EngineInvariant.{EngineInvariant}
use Rattle.tx_core.specs.Entries.{history, records_in}
use Rattle.tx_core.specs.Laws.{StaysBase}
use Rattle.tx_core.specs.Locks.{log_lock}
use Rattle.tx_core.specs.MultiEntries.{multi_history}
use Rattle.tx_core.specs.RecordsFollow.{AreNotBelow, CheckpointOf, IsMultiAnnounced, counters_after}
use Rattle.tx_core.proofs.LogBehind.{log_is_behind, same_counters}
use Rattle.tx_core.proofs.Posting.{oldest_by_places}
use Rattle.tx_core.proofs.RecordNext.{announced_given}
use Rattle.tx_core.proofs.StopLimits.{found_announced, next_within, stop_upto}
use Rattle.wal_records.specs.Spelling.{AreCounters}
use Rattle.host_sections.specs.HostEntries.{HaveForms, next_number}

least : (n : ℕ) → IsFullId n → 3 ≤ n
least n full = omega arith

multi_upto : (oldest : ℕ) → multi_stop_limit oldest ≤ 2 ^ 63 - 1
multi_upto oldest = omega arith

offset_upto : (oldest : ℕ) → member_stop oldest ≤ 2 ^ 63 - 1
offset_upto oldest = omega arith

-- ---- the announced oldest multixact and its offset are those of one announcement

announced_in : (o x : ℕ) (h : List MultiEvent) → ((oldest_multi o h ≡ o) × (oldest_offset x h ≡ x)) ⊎ ((by : By) × Has h (multis.Raise by (oldest_multi o h) (oldest_offset x h)))
announced_in o x = by_end (λ h. ((oldest_multi o h ≡ o) × (oldest_offset x h ≡ x)) ⊎ ((by : By) × Has h (multis.Raise by (oldest_multi o h) (oldest_offset x h)))) (inl (refl, refl)) (λ h e before.
    subst (λ (z : ℕ × ℕ). ((z.0 ≡ o) × (z.1 ≡ x)) ⊎ ((by : By) × Has (h ++ e ∷ []) (multis.Raise by z.0 z.1))) (λ j. (sym (fold_push oldest_multi_after o h e) j, sym (fold_push oldest_offset_after x h e) j)) (step h e before))
  where
    kept : (h : List MultiEvent) (e : MultiEvent) (a b : ℕ) → ((a ≡ o) × (b ≡ x)) ⊎ ((by : By) × Has h (multis.Raise by a b)) → ((a ≡ o) × (b ≡ x)) ⊎ ((by : By) × Has (h ++ e ∷ []) (multis.Raise by a b))
    kept h e a b = ⊎_elim inl (λ r. inr (r.0, has_left h (e ∷ []) (multis.Raise r.0 a b) r.1))

    step : (h : List MultiEvent) (e : MultiEvent) → ((oldest_multi o h ≡ o) × (oldest_offset x h ≡ x)) ⊎ ((by : By) × Has h (multis.Raise by (oldest_multi o h) (oldest_offset x h)))
        → ((oldest_multi_after (oldest_multi o h) e ≡ o) × (oldest_offset_after (oldest_offset x h) e ≡ x)) ⊎ ((by : By) × Has (h ++ e ∷ []) (multis.Raise by (oldest_multi_after (oldest_multi o h) e) (oldest_offset_after (oldest_offset x h) e)))
    step h (multis.Raise by m y) before = inr (by, has_right h (multis.Raise by m y ∷ []) (multis.Raise by m y) (inl refl))
    step h (multis.Gen by m y members) before = kept h (multis.Gen by m y members) (oldest_multi o h) (oldest_offset x h) before
    step h (multis.Hold by m) before = kept h (multis.Hold by m) (oldest_multi o h) (oldest_offset x h) before
    step h (multis.Unhold by m) before = kept h (multis.Unhold by m) (oldest_multi o h) (oldest_offset x h) before

announced_now : (start : Start) (lists : List (List Entry)) → IsMultiAnnounced start lists (oldest_multi start.base.oldest_multi (multi_history lists)) (oldest_offset start.base.oldest_offset (multi_history lists))
announced_now start lists = ⊎_elim inl
    (λ r. inr (r.0, has_contains (multi_history lists) (multis.Raise r.0 (oldest_multi start.base.oldest_multi (multi_history lists)) (oldest_offset start.base.oldest_offset (multi_history lists))) r.1))
    (announced_in start.base.oldest_multi start.base.oldest_offset (multi_history lists))

take_whole : {X : Type 0} (xs : List X) → take (length xs) xs ≡ xs
take_whole [] = refl
take_whole (x ∷ xs) = ap (λ ys. x ∷ ys) (take_whole xs)

-- ---- the counters

module _ (start : Start) (lists : List (List Entry)) (k : EngineInvariant start lists) (is : IsBase start.base) where
  abbrev h : List MultiEvent
  h = multi_history lists

  abbrev now : Counters
  now = counters_behind start.base (history lists) h

  multi_base : IsBase (multi_counters start.base h)
  multi_base = legal_base start.base h is (multis_are_legal start lists k)

  upto : now.oldest ≤ now.next
  upto = announced_given start lists now.oldest k is (found_announced start.base.oldest (history lists))

  within : now.next ≤ stop_limit now.oldest
  within = next_within start.base is (history lists) k.events.legal

  full : IsFullId now.next
  full = nth_full start.base.next (length (given (history lists))) is.full

  full_oldest : HaveForms now → IsFullId now.oldest
  full_oldest forms =
      let first = least start.base.oldest is.full_oldest in
      let up : start.base.oldest ≤ now.oldest = oldest_by_places start.base (history lists) k.events.legal 0 in
      ⊎_elim (λ (low : now.oldest < 3). absurd (omega (arith, low, first, up))) (λ f. f) forms.oldest

  pub now_base : HaveForms now → IsBase now
  now_base forms = record {
    full = full;
    full_oldest = full_oldest forms;
    oldest = upto;
    next = within;
    oldest_multi = multi_base.oldest_multi;
    multi = multi_base.multi;
    oldest_offset = multi_base.oldest_offset;
    offset = multi_base.offset;
    none = multi_base.none;
  }

  pub now_lawful : HaveForms now → AreCounters now
  now_lawful forms =
      let limit = stop_upto now.oldest in
      let m_limit = multi_upto now.oldest_multi in
      let o_limit = offset_upto now.oldest_offset in
      let m : now.multi ≤ multi_stop_limit now.oldest_multi = multi_base.multi in
      let m_first : now.oldest_multi ≤ now.multi = multi_base.oldest_multi in
      let o : now.offset ≤ member_stop now.oldest_offset = multi_base.offset in
      let o_first : now.oldest_offset ≤ now.offset = multi_base.oldest_offset in record {
        next = (full, omega (arith, within, limit));
        oldest = (full_oldest forms, omega (arith, upto, within, limit));
        multi = (forms.multi, omega (arith, m, m_limit));
        offset = omega (arith, o, o_limit);
        oldest_multi = (forms.oldest_multi, omega (arith, m, m_limit, m_first));
        oldest_offset = omega (arith, o, o_limit, o_first);
      }

  not_below : AreNotBelow (counters_after start (at lists log_lock)) now
  not_below = log_is_behind start lists k is

  pub now_follows : CheckpointOf start lists (at lists log_lock) (next_number start lists) now
  now_follows = record {
    place = ap (λ n. start.from + n) (length-map (records_in (at lists log_lock)) (λ (r : By × Rec). r.1));
    not_below = not_below;
    next = omega arith;
    multi = inr (length h, omega arith, ap (next_made start.base.multi) (sym (take_whole h)), ap (free_offset start.base.offset) (sym (take_whole h)));
    oldest = found_announced start.base.oldest (history lists);
    oldest_multi = announced_now start lists;
  }

  pub now_stays : (number : ℕ) → HaveForms now → StaysBase start lists (records.Checkpoint number now)
  now_stays number forms = subst IsBase (sym (same_counters (counters_after start (at lists log_lock)) now number not_below)) (now_base forms)
