-- Every legal history of multixacts is sound.
use Rattle.tx_events.proofs.ListSteps.{le_or_over}
use Rattle.tx_events.proofs.PlaceLemmas.{by_place, each_place_start, each_place_last}
use Rattle.std.proofs.Common.{◌≡◌, ℕ, ◌+◌, ◌<◌, ◌≤◌, List, [], ◌∷◌, ◌++◌, length, sym, ◌∙◌, ⊎_elim, subst, arith}
use Rattle.std.specs.List.{slice_get}
use Rattle.std.proofs.lemmas.Option.{slice_get_past}
use Rattle.tx_events.specs.Ids.{next_multi}
use Rattle.tx_events.specs.declared.multi.MultiEvent.{MultiEvent}
use Rattle.tx_events.specs.declared.multi.MultiEvent.TheVariants as events
use Rattle.tx_events.specs.declared.record.Counters.{Counters}
use Rattle.tx_events.specs.Base.{IsBase}
use Rattle.tx_events.specs.Multis.{made, made_at, next_made, nth_multi, free_offset, first_member, oldest_multi, oldest_offset, multi_counters, InBase, AreLegalMultis, MultiMayCome}
use Rattle.multi_store.specs.Generator.{CountersRise}
use Rattle.multi_store.specs.State.{made_offsets}
use Rattle.multi_store.proofs.Numbers.{next_above, first_from, nth_order}
use Rattle.multi_store.proofs.MadeSteps.{IsQuiet, next_quiet, next_gen, free_push, oldest_push, oldest_offset_push}
use Rattle.multi_store.proofs.Soundness.{IsSound, base_same, sound_nothing, sound_quiet}
use Rattle.multi_store.proofs.GenSound.{sound_gen}
use Rattle.multi_store.proofs.RaiseSound.{sound_raise, by_begin, limit_to}

-- an event that changes no counter
sound_same : (base : Counters) (h : List MultiEvent) (e : MultiEvent) → IsQuiet e → free_offset base.offset (h ++ e ∷ []) ≡ free_offset base.offset h →
    oldest_multi base.oldest_multi (h ++ e ∷ []) ≡ oldest_multi base.oldest_multi h → oldest_offset base.oldest_offset (h ++ e ∷ []) ≡ oldest_offset base.oldest_offset h → IsSound base h → IsSound base (h ++ e ∷ [])
sound_same base h e q free oldest oldest_at s =
    sound_quiet base h e s q free
    (base_same base _ (next_made base.multi h) _ (free_offset base.offset h) _ (oldest_multi base.oldest_multi h) _ (oldest_offset base.oldest_offset h) (next_quiet base.multi h e q) free oldest oldest_at s.counters)
    (λ m x l g. subst (λ z. z ≤ x) (sym oldest_at) (s.kept m x (subst (λ z. z ≤ m) oldest l) g))

pub sound_push : (base : Counters) (h : List MultiEvent) (e : MultiEvent) → IsSound base h → MultiMayCome base (InBase base) h e → IsSound base (h ++ e ∷ [])
sound_push base h (events.Gen by multi offset members) s m = sound_gen base h by multi offset members s m
sound_push base h (events.Hold by multi) s m = let e : MultiEvent = events.Hold by multi in sound_same base h e tt (free_push base.offset h e) (oldest_push base.oldest_multi h e) (oldest_offset_push base.oldest_offset h e) s
sound_push base h (events.Unhold by multi) s m = let e : MultiEvent = events.Unhold by multi in sound_same base h e tt (free_push base.offset h e) (oldest_push base.oldest_multi h e) (oldest_offset_push base.oldest_offset h e) s
sound_push base h (events.Raise by multi offset) s m = sound_raise base h by multi offset s m

pub legal_sound : (base : Counters) (h : List MultiEvent) → IsBase base → AreLegalMultis base (InBase base) h → IsSound base h
legal_sound base h b l = by_place (MultiMayCome base (InBase base)) (IsSound base) (sound_nothing base b) (λ h e s m. sound_push base h e s m) h l

pub legal_base : (base : Counters) (h : List MultiEvent) → IsBase base → AreLegalMultis base (InBase base) h → IsBase (multi_counters base h)
legal_base base h b l = (legal_sound base h b l).counters

-- no counter falls
rises_same : (base : Counters) (h : List MultiEvent) (e : MultiEvent) → IsQuiet e → free_offset base.offset (h ++ e ∷ []) ≡ free_offset base.offset h →
    oldest_multi base.oldest_multi h ≤ oldest_multi base.oldest_multi (h ++ e ∷ []) → oldest_offset base.oldest_offset h ≤ oldest_offset base.oldest_offset (h ++ e ∷ []) → CountersRise (multi_counters base h) (multi_counters base (h ++ e ∷ []))
rises_same base h e q free oldest oldest_at = let n : next_made base.multi (h ++ e ∷ []) ≡ next_made base.multi h = next_quiet base.multi h e q in record { multi = omega arith; offset = omega arith; oldest_multi = oldest; oldest_offset = oldest_at }

rises_push : (base : Counters) (h : List MultiEvent) (e : MultiEvent) → IsSound base h → MultiMayCome base (InBase base) h e → CountersRise (multi_counters base h) (multi_counters base (h ++ e ∷ []))
rises_push base h (events.Gen by multi offset members) s m =
    let e : MultiEvent = events.Gen by multi offset members in
    let n : next_made base.multi (h ++ e ∷ []) ≡ next_multi (next_made base.multi h) = next_gen base.multi h by multi offset members in
    let up : next_made base.multi h < next_multi (next_made base.multi h) = next_above (next_made base.multi h) in
    let f : free_offset base.offset (h ++ e ∷ []) ≡ offset + length members = free_push base.offset h e in
    let start : offset ≡ first_member (free_offset base.offset h) = m.first in
    let from : free_offset base.offset h ≤ first_member (free_offset base.offset h) = first_from (free_offset base.offset h) in
    let o : oldest_multi base.oldest_multi (h ++ e ∷ []) ≡ oldest_multi base.oldest_multi h = oldest_push base.oldest_multi h e in
    let p : oldest_offset base.oldest_offset (h ++ e ∷ []) ≡ oldest_offset base.oldest_offset h = oldest_offset_push base.oldest_offset h e in
    record { multi = omega arith; offset = omega arith; oldest_multi = omega arith; oldest_offset = omega arith }
rises_push base h (events.Hold by multi) s m =
    let e : MultiEvent = events.Hold by multi in
    let o : oldest_multi base.oldest_multi (h ++ e ∷ []) ≡ oldest_multi base.oldest_multi h = oldest_push base.oldest_multi h e in
    let p : oldest_offset base.oldest_offset (h ++ e ∷ []) ≡ oldest_offset base.oldest_offset h = oldest_offset_push base.oldest_offset h e in
    rises_same base h e tt (free_push base.offset h e) (omega arith) (omega arith)
rises_push base h (events.Unhold by multi) s m =
    let e : MultiEvent = events.Unhold by multi in
    let o : oldest_multi base.oldest_multi (h ++ e ∷ []) ≡ oldest_multi base.oldest_multi h = oldest_push base.oldest_multi h e in
    let p : oldest_offset base.oldest_offset (h ++ e ∷ []) ≡ oldest_offset base.oldest_offset h = oldest_offset_push base.oldest_offset h e in
    rises_same base h e tt (free_push base.offset h e) (omega arith) (omega arith)
rises_push base h (events.Raise by multi offset) s m =
    let e : MultiEvent = events.Raise by multi offset in
    let o : oldest_multi base.oldest_multi (h ++ e ∷ []) ≡ multi = oldest_push base.oldest_multi h e in
    let p : oldest_offset base.oldest_offset (h ++ e ∷ []) ≡ offset = oldest_offset_push base.oldest_offset h e in
    let back : oldest_multi base.oldest_multi h ≤ multi = m.not_back in
    let b : oldest_offset base.oldest_offset h ≤ free_offset base.offset h = s.counters.oldest_offset in
    let limit = limit_to base.multi h in
    let low = m.not_pinned in
    let at : oldest_offset base.oldest_offset h ≤ offset =
    by_begin (oldest_offset base.oldest_offset h ≤ offset) base h multi offset m.begins (omega arith)
    (λ l x y. x) (λ from l x. s.kept multi offset back x) (λ q x. omega (arith, x)) in
    rises_same base h e tt (free_push base.offset h e) (omega arith) (omega arith)

pub legal_rises : (base : Counters) (h : List MultiEvent) (e : MultiEvent) → IsBase base → AreLegalMultis base (InBase base) (h ++ e ∷ []) → CountersRise (multi_counters base h) (multi_counters base (h ++ e ∷ []))
legal_rises base h e b l =
    rises_push base h e (legal_sound base h b (each_place_start (MultiMayCome base (InBase base)) h (e ∷ []) l)) (each_place_last (MultiMayCome base (InBase base)) h e l)

-- the offset at each place, where there is one
pub made_at_place : (base : Counters) (h : List MultiEvent) (n : ℕ) → IsSound base h → made_at (nth_multi base.multi n) h ≡ slice_get (made_offsets h) n
made_at_place base h n s =
    ⊎_elim
    (λ (l : length (made h) ≤ n). s.newer (nth_multi base.multi n) (nth_order base.multi (length (made h)) n l) ∙ sym (slice_get_past (made_offsets h) n (let e : length (made_offsets h) ≡ length (made h) = s.as_many in omega arith)))
    (λ (l : n < length (made h)). s.each n l)
    (le_or_over (length (made h)) n)
