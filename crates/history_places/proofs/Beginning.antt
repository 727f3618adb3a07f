-- What may come where the multixacts of the base begin so, and where only the range of their offsets is known.
use Rattle.std.proofs.Common.{ℕ, ◌<◌, ◌≤◌, List, [], ◌∷◌, sym, subst, arith}
use Rattle.std.specs.List.{Contains}
use Rattle.tx_events.specs.declared.multi.MultiEvent.{MultiEvent}
use Rattle.tx_events.specs.declared.multi.MultiEvent.TheVariants as events
use Rattle.tx_events.specs.declared.record.Counters.{Counters}
use Rattle.tx_events.specs.Multis.{AreLegalMultis, InBase, MultiMayCome, oldest_multi, oldest_offset, oldest_multi_after, oldest_offset_after}
use Rattle.tx_events.proofs.Membership.{by_end}
use Rattle.tx_events.proofs.PlaceLemmas.{each_place_last, each_place_start}
use Rattle.multi_store.proofs.MadeSteps.{oldest_offset_push, oldest_push}
use Rattle.history_places.specs.declared.start.Start.{Start}
use Rattle.history_places.specs.Starts.{BeginsAs, FitsBase, IsAmiss, IsWellBegun, start_of}

module _ (base : Counters) (starts : List Start) where
  -- an event that isn't amiss
  pub as_begun : (h : List MultiEvent) (e : MultiEvent) → IsWellBegun base.multi starts e → MultiMayCome base (InBase base) h e → MultiMayCome base (BeginsAs starts) h e
  as_begun h (events.Gen by multi offset members) well m = m
  as_begun h (events.Hold by multi) well m = m
  as_begun h (events.Unhold by multi) well m = m
  as_begun h (events.Raise by multi offset) well m = record {
    not_back = m.not_back;
    not_pinned = m.not_pinned;
    begins = record { of_base = well; of_life = m.begins.of_life; of_next = m.begins.of_next };
  }

  pub amiss_never : (h : List MultiEvent) (e : MultiEvent) → IsAmiss base.multi starts e → MultiMayCome base (BeginsAs starts) h e → ⊥
  amiss_never h (events.Gen by multi offset members) a m = a
  amiss_never h (events.Hold by multi) a m = a
  amiss_never h (events.Unhold by multi) a m = a
  amiss_never h (events.Raise by multi offset) a m = a.1 (m.begins.of_base a.0)

  module _ (fits : FitsBase base starts) where
    -- a multixact from the oldest one on begins no earlier
    upto_step : (h : List MultiEvent) (e : MultiEvent) (multi offset : ℕ) → MultiMayCome base (BeginsAs starts) h e → multi < base.multi → Contains starts (start_of multi offset)
        → (oldest_multi base.oldest_multi h ≤ multi → oldest_offset base.oldest_offset h ≤ offset)
        → oldest_multi_after (oldest_multi base.oldest_multi h) e ≤ multi → oldest_offset_after (oldest_offset base.oldest_offset h) e ≤ offset
    upto_step h (events.Gen by m o members) multi offset may below k before l = before l
    upto_step h (events.Hold by m) multi offset may below k before l = before l
    upto_step h (events.Unhold by m) multi offset may below k before l = before l
    upto_step h (events.Raise by m o) multi offset may below k before l = fits.rising (start_of m o) (start_of multi offset) (may.begins.of_base (omega arith)) k l

    oldest_upto : (multi offset : ℕ) → multi < base.multi → Contains starts (start_of multi offset) → (h : List MultiEvent) → AreLegalMultis base (BeginsAs starts) h
        → oldest_multi base.oldest_multi h ≤ multi → oldest_offset base.oldest_offset h ≤ offset
    oldest_upto multi offset below k h =
        by_end (λ (h : List MultiEvent). AreLegalMultis base (BeginsAs starts) h → oldest_multi base.oldest_multi h ≤ multi → oldest_offset base.oldest_offset h ≤ offset)
        (λ legal l. fits.least (start_of multi offset) k l)
        (λ h e before legal l.
        let may = each_place_last (MultiMayCome base (BeginsAs starts)) h e legal in
        let earlier = before (each_place_start (MultiMayCome base (BeginsAs starts)) h (e ∷ []) legal) in
        subst (λ n. n ≤ offset) (sym (oldest_offset_push base.oldest_offset h e)) (upto_step h e multi offset may below k earlier (subst (λ n. n ≤ multi) (oldest_push base.oldest_multi h e) l)))
        h

    -- what may come begins in the range
    pub in_base : (h : List MultiEvent) (e : MultiEvent) → AreLegalMultis base (BeginsAs starts) h → MultiMayCome base (BeginsAs starts) h e → MultiMayCome base (InBase base) h e
    in_base h (events.Gen by multi offset members) legal m = m
    in_base h (events.Hold by multi) legal m = m
    in_base h (events.Unhold by multi) legal m = m
    in_base h (events.Raise by multi offset) legal m = record {
      not_back = m.not_back;
      not_pinned = m.not_pinned;
      begins = record {
        of_base = λ l. let k = m.begins.of_base l in (oldest_upto multi offset l k h legal m.not_back, fits.most (start_of multi offset) k);
        of_life = m.begins.of_life;
        of_next = m.begins.of_next;
      };
    }
