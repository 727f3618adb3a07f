-- The counters of multixacts, event by event.
use Rattle.std.proofs.Common.{◌≡◌, ℕ, zero, suc, ◌+◌, ◌-◌, ◌<◌, ◌≤◌, ◌^◌, List, [], ◌∷◌, ◌++◌, Some, length, get_or, take, min, refl, ap, sym, ◌∙◌, ⊎_elim, arith}
use Rattle.std.proofs.lemmas.Bool.{cases_lt}
use Rattle.std.proofs.lemmas.List.{take_more}
use Rattle.std.proofs.lemmas.Option.{slice_get-get_or}
use Rattle.std.specs.List.{HoldsAt}
use Rattle.tx_events.specs.Ids.{next_multi}
use Rattle.tx_events.specs.declared.multi.MultiEvent.{MultiEvent}
use Rattle.tx_events.specs.declared.multi.MultiEvent.TheVariants as multis
use Rattle.tx_events.specs.declared.record.Counters.{Counters}
use Rattle.tx_events.specs.Multis.{AreLegalMultis, BaseOffset, MultiMayCome, free_offset, free_after, multi_counters, next_made, oldest_multi, oldest_multi_after, oldest_offset, oldest_offset_after}
use Rattle.multi_store.proofs.MadeSteps.{IsQuiet, free_push, next_gen, next_quiet, oldest_offset_push, oldest_push}
use Rattle.checkpoint_rules.specs.Behind.{IsSmall, counters_with}

below_least : (k a b : ℕ) → k < min a b → k < b
below_least k a b l = omega arith

below_last : (k : ℕ) → k < 2 ^ 63 - 1 → k < 2 ^ 63
below_last k l = omega arith

-- an event that may come has small numbers
pub small_next : (base : Counters) (known : BaseOffset) (h : List MultiEvent) (e : MultiEvent) → MultiMayCome base known h e → IsSmall e
small_next base known h (multis.Gen by multi offset members) may = (below_last multi (below_least multi _ (2 ^ 63 - 1) may.below_stop), below_last (offset + length members) (below_least (offset + length members) _ (2 ^ 63 - 1) may.below_member_stop))
small_next base known h (multis.Hold by multi) may = tt
small_next base known h (multis.Unhold by multi) may = tt
small_next base known h (multis.Raise by multi offset) may = tt

pub may_at : (base : Counters) (known : BaseOffset) (h : List MultiEvent) (i : ℕ) (e : MultiEvent) → AreLegalMultis base known h → i < length h → e ≡ get_or h i e → MultiMayCome base known (take i h) e
may_at base known h i e legal l is = legal i e (slice_get-get_or h i e l ∙ ap Some (sym is))

pub further : (h : List MultiEvent) (i : ℕ) (e : MultiEvent) → i < length h → e ≡ get_or h i e → take i h ++ e ∷ [] ≡ take (i + 1) h
further h i e l is = ap (λ (y : MultiEvent). take i h ++ y ∷ []) is ∙ sym (take_more h i e l)

abbrev build : Counters → ℕ → ℕ → ℕ → ℕ → Counters
build base multi offset oldest start = record base { multi = multi; offset = offset; oldest_multi = oldest; oldest_offset = start }

-- one that gives no multixact leaves the next one
quiet_push : (base : Counters) (h : List MultiEvent) (e : MultiEvent) → IsQuiet e → multi_counters base (h ++ e ∷ []) ≡ build base (next_made base.multi h) (free_after (free_offset base.offset h) e) (oldest_multi_after (oldest_multi base.oldest_multi h) e) (oldest_offset_after (oldest_offset base.oldest_offset h) e)
quiet_push base h e q =
    ap (λ n. build base n (free_offset base.offset (h ++ e ∷ [])) (oldest_multi base.oldest_multi (h ++ e ∷ [])) (oldest_offset base.oldest_offset (h ++ e ∷ []))) (next_quiet base.multi h e q)
    ∙ ap (λ n. build base (next_made base.multi h) n (oldest_multi base.oldest_multi (h ++ e ∷ [])) (oldest_offset base.oldest_offset (h ++ e ∷ []))) (free_push base.offset h e)
    ∙ ap (λ n. build base (next_made base.multi h) (free_after (free_offset base.offset h) e) n (oldest_offset base.oldest_offset (h ++ e ∷ []))) (oldest_push base.oldest_multi h e)
    ∙ ap (build base (next_made base.multi h) (free_after (free_offset base.offset h) e) (oldest_multi_after (oldest_multi base.oldest_multi h) e)) (oldest_offset_push base.oldest_offset h e)

-- the counters behind one event more
pub counters_push : (base : Counters) (known : BaseOffset) (h : List MultiEvent) (e : MultiEvent) → MultiMayCome base known h e → multi_counters base (h ++ e ∷ []) ≡ counters_with (multi_counters base h) e
counters_push base known h (multis.Gen by multi offset members) may =
    let e = multis.Gen by multi offset members in
    let next : next_made base.multi (h ++ e ∷ []) ≡ next_multi multi = next_gen base.multi h by multi offset members ∙ ap next_multi (sym may.next) in
    ap (λ n. build base n (free_offset base.offset (h ++ e ∷ [])) (oldest_multi base.oldest_multi (h ++ e ∷ [])) (oldest_offset base.oldest_offset (h ++ e ∷ []))) next
    ∙ ap (λ n. build base (next_multi multi) n (oldest_multi base.oldest_multi (h ++ e ∷ [])) (oldest_offset base.oldest_offset (h ++ e ∷ []))) (free_push base.offset h e)
    ∙ ap (λ n. build base (next_multi multi) (offset + length members) n (oldest_offset base.oldest_offset (h ++ e ∷ []))) (oldest_push base.oldest_multi h e)
    ∙ ap (build base (next_multi multi) (offset + length members) (oldest_multi base.oldest_multi h)) (oldest_offset_push base.oldest_offset h e)
counters_push base known h (multis.Hold by multi) may = quiet_push base h (multis.Hold by multi) tt
counters_push base known h (multis.Unhold by multi) may = quiet_push base h (multis.Unhold by multi) tt
counters_push base known h (multis.Raise by multi offset) may = quiet_push base h (multis.Raise by multi offset) tt

-- ---- the column

get_or-left : (xs ys : List Counters) (p : ℕ) (d : Counters) → p < length xs → get_or (xs ++ ys) p d ≡ get_or xs p d
get_or-left [] ys p d l = absurd (omega arith)
get_or-left (x ∷ xs) ys zero d l = refl
get_or-left (x ∷ xs) ys (suc p) d l = get_or-left xs ys p d (omega arith)

get_or-last : (xs : List Counters) (x d : Counters) → get_or (xs ++ x ∷ []) (length xs) d ≡ x
get_or-last [] x d = refl
get_or-last (y ∷ xs) x d = get_or-last xs x d

-- the column goes on with the counters of the next place
pub column_more : (base : Counters) (h : List MultiEvent) (column : List Counters) (c : Counters) (i : ℕ) → length column ≡ i → ((p : ℕ) → p < i → HoldsAt (λ (x : Counters). x ≡ multi_counters base (take p h)) column p) → c ≡ multi_counters base (take i h)
    → (p : ℕ) → p < i + 1 → HoldsAt (λ (x : Counters). x ≡ multi_counters base (take p h)) (column ++ c ∷ []) p
column_more base h column c i size each is p l d =
    ⊎_elim
    (λ (m : p < i).
    let under : p < length column = omega arith in get_or-left column (c ∷ []) p d under ∙ each p m d)
    (λ (m : i ≤ p).
    let last : p ≡ length column = omega arith in
    let here : p ≡ i = omega arith in
    ap (λ k. get_or (column ++ c ∷ []) k d) last ∙ get_or-last column c d ∙ is ∙ ap (λ k. multi_counters base (take k h)) (sym here))
    (cases_lt p i)
