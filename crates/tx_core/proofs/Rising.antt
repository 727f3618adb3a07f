-- Numbers of histories, which rise while these grow.
use Rattle.std.proofs.Common.{List, [], ap, append-nil, append_assoc, arith, cond, false, length, length-append, refl, subst, suc, sym, take, true, zero, ℕ, ◌++◌, ◌+◌, ◌<◌, ◌∙◌, ◌∷◌, ◌≡◌, ◌≤◌}
use Rattle.std.specs.Prelude.{nat_lt}
use Rattle.tx_events.specs.Ids.{low_half, next_multi}
use Rattle.tx_events.specs.declared.event.Event.{Event}
use Rattle.tx_events.specs.declared.multi.MultiEvent.{MultiEvent}
use Rattle.tx_events.specs.declared.record.Counters.{Counters}
use Rattle.tx_events.proofs.GivenIds.{next_rises}
use Rattle.tx_events.proofs.Membership.{by_end}
use Rattle.tx_events.specs.History.{next_given}
use Rattle.tx_events.specs.Multis.{made, made_by, next_made, nth_multi}
use Rattle.tx_core.specs.declared.entry.Entry.{Entry}
use Rattle.tx_core.proofs.Growing.{begins_filter_map}
use Rattle.tx_core.specs.MultiEntries.{multi_history, multi_of}
use Rattle.notes.specs.Lists.{Begins, Grows, at}
use Rattle.tx_core.specs.Locks.{multi_lock}

-- a place of a list is a place of each list that goes on from it
pub taken_begins : {A : Type 0} (xs ys : List A) (p : ℕ) → Begins xs ys → p ≤ length xs → (p ≤ length ys) × (take p ys ≡ take p xs)
taken_begins {A} xs ys p b le =
    let long : length xs + length b.0 ≡ length ys = sym (length-append xs b.0) ∙ ap (λ (t : List A). length t) b.1 in
    (omega arith, ap (λ (t : List A). take p t) (sym b.1) ∙ front xs b.0 p le)
  where
    front : {A : Type 0} (xs rest : List A) (p : ℕ) → p ≤ length xs → take p (xs ++ rest) ≡ take p xs
    front xs rest zero le = refl
    front [] rest (suc p) le = absurd (omega arith)
    front {A} (x ∷ xs) rest (suc p) le = ap (λ (t : List A). x ∷ t) (front xs rest p (omega arith))

given_rest : (base : Counters) (h rest : List Event) → next_given base.next h ≤ next_given base.next (h ++ rest)
given_rest base h = by_end (λ rest. next_given base.next h ≤ next_given base.next (h ++ rest))
    (subst (λ (t : List Event). next_given base.next h ≤ next_given base.next t) (sym (append-nil h)) (omega arith))
    (λ rest e le. subst (λ (t : List Event). next_given base.next h ≤ next_given base.next t) (append_assoc h rest (e ∷ [])) (let a = next_rises base (h ++ rest) e in omega arith))

-- the next id
pub given_more : (base : Counters) (h more : List Event) → Begins h more → next_given base.next h ≤ next_given base.next more
given_more base h more b = subst (λ (t : List Event). next_given base.next h ≤ next_given base.next t) b.1 (given_rest base h b.0)

pub multi_above : (n : ℕ) → n < next_multi n
multi_above n = elim (nat_lt (low_half (n + 1)) 1) as (λ b. n < cond b (n + 2) (n + 1)) [ true ↦ omega arith | false ↦ omega arith ]

made_rest : (first n k : ℕ) → nth_multi first n ≤ nth_multi first (n + k)
made_rest first n zero = let same : n ≡ n + 0 = omega arith in subst (λ m. nth_multi first n ≤ nth_multi first m) same (omega arith)
made_rest first n (suc k) =
    let same : suc (n + k) ≡ n + suc k = omega arith in
    subst (λ m. nth_multi first n ≤ nth_multi first m) same (let a = made_rest first n k in let b = multi_above (nth_multi first (n + k)) in omega arith)

-- the next multixact
pub made_more : (first : ℕ) (h more : List MultiEvent) → Begins h more → next_made first h ≤ next_made first more
made_more first h more b =
    let c : Begins (made h) (made more) = begins_filter_map made_by h more b in
    let k : ℕ = length c.0 in
    let long : length (made h) + k ≡ length (made more) = sym (length-append (made h) c.0) ∙ ap (λ (t : List ℕ). length t) c.1 in
    subst (λ n. next_made first h ≤ nth_multi first n) long (made_rest first (length (made h)) k)

-- and the multixacts' history itself
pub multis_grow : (lists more : List (List Entry)) → Grows lists more → Begins (multi_history lists) (multi_history more)
multis_grow lists more g = begins_filter_map multi_of (at lists multi_lock) (at more multi_lock) (g.begins multi_lock)
