-- A history in which the oldest multixact is raised.
use Rattle.tx_events.proofs.ListSteps.{le_or_over}
use Rattle.std.proofs.Common.{◌≡◌, ℕ, ◌<◌, ◌≤◌, List, [], ◌∷◌, ◌++◌, Some, None, map, sym, ⊎_elim, subst, arith}
use Rattle.tx_events.specs.declared.event.By.{By}
use Rattle.tx_events.specs.declared.multi.MultiEvent.{MultiEvent}
use Rattle.tx_events.specs.declared.record.Counters.{Counters}
use Rattle.tx_events.specs.Base.{IsBase}
use Rattle.tx_events.specs.Limits.{multi_stop_limit, member_stop}
use Rattle.tx_events.specs.Multis.{made_at, next_made, free_offset, oldest_multi, oldest_offset, pin_limit, pins, Pin, InBase, BeginsAt, IsRaised}
use Rattle.tx_events.proofs.Extremes.{fold_min_start}
use Rattle.multi_store.proofs.Numbers.{stop_rises, member_stop_rises, le_cases}
use Rattle.multi_store.proofs.MadeSteps.{next_quiet, free_push, oldest_push, oldest_offset_push}
use Rattle.multi_store.proofs.Soundness.{IsSound, with_counters, base_same, sound_quiet}
use Rattle.tx_events.specs.declared.multi.MultiEvent.TheVariants as events

-- the limit isn't past the next multixact
pub limit_to : (first : ℕ) (h : List MultiEvent) → pin_limit first h ≤ next_made first h
limit_to first h = fold_min_start (next_made first h) (map (λ (p : Pin). p.1) (pins h))

-- three ways in which a multixact may begin
pub by_begin : (P : Type 0) (base : Counters) (h : List MultiEvent) (multi offset : ℕ) → BeginsAt base (InBase base) h multi offset → multi ≤ next_made base.multi h →
    (multi < base.multi → oldest_offset base.oldest_offset h ≤ offset → offset ≤ base.offset → P) → (base.multi ≤ multi → multi < next_made base.multi h → made_at multi h ≡ Some offset → P) → (multi ≡ next_made base.multi h → offset ≡ free_offset base.offset h → P) → P
by_begin P base h multi offset b to old life next =
    ⊎_elim
    (λ (from : base.multi ≤ multi).
    ⊎_elim (λ (l : multi < next_made base.multi h). life from l (b.of_life from l)) (λ (e : multi ≡ next_made base.multi h). next e (b.of_next e)) (le_cases multi (next_made base.multi h) to))
    (λ (l : multi < base.multi). let k = b.of_base l in old l k.0 k.1)
    (le_or_over base.multi multi)

pub sound_raise : (base : Counters) (h : List MultiEvent) (by : By) (multi offset : ℕ) → IsSound base h → IsRaised base (InBase base) h multi offset → IsSound base (h ++ events.Raise by multi offset ∷ [])
sound_raise base h by multi offset s m =
    let e : MultiEvent = events.Raise by multi offset in
    let n : ℕ = next_made base.multi h in
    let f : ℕ = free_offset base.offset h in
    let o : ℕ = oldest_multi base.oldest_multi h in
    let p : ℕ = oldest_offset base.oldest_offset h in
    let next : next_made base.multi (h ++ e ∷ []) ≡ n = next_quiet base.multi h e tt in
    let free : free_offset base.offset (h ++ e ∷ []) ≡ f = free_push base.offset h e in
    let oldest : oldest_multi base.oldest_multi (h ++ e ∷ []) ≡ multi = oldest_push base.oldest_multi h e in
    let oldest_at : oldest_offset base.oldest_offset (h ++ e ∷ []) ≡ offset = oldest_offset_push base.oldest_offset h e in
    let b : IsBase (with_counters base n f o p) = s.counters in
    let b1 : n ≤ multi_stop_limit o = b.multi in
    let b2 : p ≤ f = b.oldest_offset in
    let b3 : f ≤ member_stop p = b.offset in
    let s2 : base.offset ≤ f = s.free in
    let back : o ≤ multi = m.not_back in
    let limit : pin_limit base.multi h ≤ n = limit_to base.multi h in
    let low : multi ≤ pin_limit base.multi h = m.not_pinned in
    let to : multi ≤ n = omega arith in
    let between : (p ≤ offset) × (offset ≤ f) =
    by_begin ((p ≤ offset) × (offset ≤ f)) base h multi offset m.begins to
    (λ l x y. (x, omega (arith, y)))
    (λ from l x. (s.kept multi offset back x, (s.within multi offset x).1))
    (λ q x. (omega (arith, x), omega (arith, x))) in
    let rises : multi_stop_limit o ≤ multi_stop_limit multi = stop_rises o multi back in
    let member_rises : member_stop p ≤ member_stop offset = member_stop_rises p offset between.0 in
    sound_quiet base h e s tt free
    (base_same base _ n _ f _ multi _ offset next free oldest oldest_at (record {
      full = b.full;
      full_oldest = b.full_oldest;
      oldest = b.oldest;
      next = b.next;
      oldest_multi = to;
      multi = omega arith;
      oldest_offset = between.1;
      offset = omega arith;
      none = λ (q : multi ≡ n). m.begins.of_next q;
    }))
    (λ k x l g.
    let l2 : multi ≤ k = subst (λ z. z ≤ k) oldest l in
    subst (λ z. z ≤ x) (sym oldest_at)
    (by_begin (offset ≤ x) base h multi offset m.begins to
    (λ r y z. let w = s.within k x g in omega (arith, z, w.0))
    (λ from r y. s.rise multi k offset x l2 y g)
    (λ q y. let z : made_at k h ≡ None = s.newer k (omega arith) in absurd cc)))
