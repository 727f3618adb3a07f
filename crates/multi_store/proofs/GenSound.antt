-- A history with one more multixact.
use Rattle.std.proofs.Common.{◌≡◌, ℕ, suc, get_or, ◌+◌, ◌<◌, ◌≤◌, List, [], ◌∷◌, ◌++◌, length, Some, None, sym, ap, ◌∙◌, ⊎_elim, subst, arith}
use Rattle.std.specs.List.{slice_get}
use Rattle.tx_events.specs.Ids.{next_multi}
use Rattle.tx_events.specs.declared.event.By.{By}
use Rattle.tx_events.specs.declared.multi.Member.{Member}
use Rattle.tx_events.specs.declared.multi.MultiEvent.{MultiEvent}
use Rattle.tx_events.specs.declared.multi.MultiEvent.TheVariants as events
use Rattle.tx_events.specs.declared.record.Counters.{Counters}
use Rattle.tx_events.specs.Base.{IsBase}
use Rattle.tx_events.specs.Limits.{multi_stop_limit, member_stop}
use Rattle.tx_events.specs.Multis.{made, made_at, next_made, nth_multi, free_offset, first_member, oldest_multi, oldest_offset, IsNextMade}
use Rattle.tx_events.proofs.ListSteps.{length_push, below_not, above_not}
use Rattle.tx_events.proofs.PlaceLemmas.{slice_get-grows, last_at}
use Rattle.std.proofs.lemmas.Option.{slice_get-get_or}
use Rattle.multi_store.specs.State.{made_offsets}
use Rattle.multi_store.proofs.Numbers.{next_above, next_to_stop, first_from, le_cases}
use Rattle.multi_store.proofs.MadeSteps.{made_gen, offsets_gen, next_gen, free_push, oldest_push, oldest_offset_push, at_old, at_new, at_other, at_cases}
use Rattle.multi_store.proofs.Soundness.{IsSound, with_counters, base_same}

pub sound_gen : (base : Counters) (h : List MultiEvent) (by : By) (multi offset : ℕ) (members : List Member) → IsSound base h → IsNextMade base h multi offset members → IsSound base (h ++ events.Gen by multi offset members ∷ [])
sound_gen base h by multi offset members s m =
    let e : MultiEvent = events.Gen by multi offset members in
    let n : ℕ = next_made base.multi h in
    let f : ℕ = free_offset base.offset h in
    let o : ℕ = oldest_multi base.oldest_multi h in
    let p : ℕ = oldest_offset base.oldest_offset h in
    let is : multi ≡ n = m.next in
    let start : offset ≡ first_member f = m.first in
    let from : f ≤ first_member f = first_from f in
    let up : n < next_multi n = next_above n in
    let next : next_made base.multi (h ++ e ∷ []) ≡ next_multi n = next_gen base.multi h by multi offset members in
    let free : free_offset base.offset (h ++ e ∷ []) ≡ offset + length members = free_push base.offset h e in
    let oldest : oldest_multi base.oldest_multi (h ++ e ∷ []) ≡ o = oldest_push base.oldest_multi h e in
    let oldest_at : oldest_offset base.oldest_offset (h ++ e ∷ []) ≡ p = oldest_offset_push base.oldest_offset h e in
    let b : IsBase (with_counters base n f o p) = s.counters in
    let b1 : o ≤ n = b.oldest_multi in
    let b2 : p ≤ f = b.oldest_offset in
    let stop : n < multi_stop_limit o = subst (λ k. k < multi_stop_limit o) is m.below_stop in
    let below : offset + length members < member_stop p = m.below_member_stop in
    let none : made_at multi h ≡ None = s.newer multi (omega arith) in
    let more : length (made (h ++ e ∷ [])) ≡ suc (length (made h)) = ap length (made_gen h by multi offset members) ∙ length_push (made h) multi in
    let offsets : made_offsets (h ++ e ∷ []) ≡ made_offsets h ++ offset ∷ [] = offsets_gen h by multi offset members in
    let s1 : base.multi ≤ n = s.next in
    let s2 : base.offset ≤ f = s.free in
    let long : length (made_offsets h) ≡ length (made h) = s.as_many in
    record {
      counters = base_same base _ (next_multi n) _ (offset + length members) _ o _ p next free oldest oldest_at (record {
        full = b.full;
        full_oldest = b.full_oldest;
        oldest = b.oldest;
        next = b.next;
        oldest_multi = omega arith;
        multi = next_to_stop n o stop;
        oldest_offset = omega arith;
        offset = omega arith;
        none = λ (q : o ≡ next_multi n). absurd (omega arith);
      });
      next = subst (λ k. base.multi ≤ k) (sym next) (omega arith);
      free = subst (λ k. base.offset ≤ k) (sym free) (omega arith);
      older = λ k l. at_other h by multi offset members k (s.older k l) (above_not k multi (omega arith));
      newer = λ k l.
          let l2 : next_multi n ≤ k = subst (λ z. z ≤ k) next l in
          at_other h by multi offset members k (s.newer k (omega arith)) (below_not multi k (omega arith));
      each = λ k l.
          let l2 : k < suc (length (made h)) = subst (λ z. k < z) more l in
          ⊎_elim
          (λ (l3 : k < length (made h)).
          let x : ℕ = get_or (made_offsets h) k 0 in
          let g : slice_get (made_offsets h) k ≡ Some x = slice_get-get_or (made_offsets h) k 0 (omega arith) in
          at_old h by multi offset members (nth_multi base.multi k) x (s.each k l3 ∙ g) ∙ sym (ap (λ os. slice_get os k) offsets ∙ slice_get-grows (made_offsets h) (offset ∷ []) x k g))
          (λ (q : k ≡ length (made h)).
          let here : nth_multi base.multi k ≡ multi = ap (nth_multi base.multi) q ∙ sym is in
          ap (λ z. made_at z (h ++ e ∷ [])) here ∙ at_new h by multi offset members none ∙ sym (ap (λ os. slice_get os k) offsets ∙ ap (slice_get (made_offsets h ++ offset ∷ [])) (q ∙ sym long) ∙ last_at (made_offsets h) offset))
          (le_cases k (length (made h)) (omega arith));
      as_many = ap length offsets ∙ length_push (made_offsets h) offset ∙ ap (λ z. suc z) long ∙ sym more;
      within = λ k x g.
          subst (λ z. (base.offset ≤ x) × (x ≤ z)) (sym free)
          (⊎_elim
          (λ (old : made_at k h ≡ Some x). let w = s.within k x old in (omega (arith, w.0), omega (arith, w.1)))
          (λ new. let q : offset ≡ x = new.1 in (omega arith, omega arith))
          (at_cases h by multi offset members k x g));
      rise = λ k l x y up g i.
          ⊎_elim
          (λ (old : made_at k h ≡ Some x).
          ⊎_elim
          (λ (old2 : made_at l h ≡ Some y). s.rise k l x y up old old2)
          (λ new. let w = s.within k x old in let q : offset ≡ y = new.1 in omega (arith, w.1))
          (at_cases h by multi offset members l y i))
          (λ new.
          let q : offset ≡ x = new.1 in
          ⊎_elim
          (λ (old2 : made_at l h ≡ Some y). let t : multi ≡ k = new.0 in let z : made_at l h ≡ None = s.newer l (omega arith) in absurd cc)
          (λ new2. let r : offset ≡ y = new2.1 in omega arith)
          (at_cases h by multi offset members l y i))
          (at_cases h by multi offset members k x g);
      kept = λ k x l g.
          let l2 : o ≤ k = subst (λ z. z ≤ k) oldest l in
          subst (λ z. z ≤ x) (sym oldest_at)
          (⊎_elim
          (λ (old : made_at k h ≡ Some x). s.kept k x l2 old)
          (λ new. let q : offset ≡ x = new.1 in omega arith)
          (at_cases h by multi offset members k x g));
    }
