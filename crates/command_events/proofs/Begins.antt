-- A command's events begin as told, place by place.
use Rattle.std.proofs.Common.{◌≡◌, ℕ, zero, suc, ◌+◌, ◌<◌, ◌≤◌, List, [], ◌∷◌, length, drop, get_or, Some, None, ◌↔◌, add-one, sym, subst, arith}
use Rattle.std.specs.Prelude.{slice_get}
use Rattle.tx_events.specs.declared.event.Event.{Event}
use Rattle.report_law.specs.Kinds.{BeginAsTold, IsOfKind}

next : (told own : List Event) (i : ℕ) (t e : Event) → i < length told → t ≡ get_or told i t → slice_get own i ≡ Some e → IsOfKind t e
    → BeginAsTold (drop i told) (drop i own) ↔ BeginAsTold (drop (suc i) told) (drop (suc i) own)
next [] own i t e l is at k = absurd (omega arith)
next (x ∷ told) [] i t e l is at k = absurd cc
next (x ∷ told) (y ∷ own) zero t e l is at k =
    let same : y ≡ e = cc in
    let first : IsOfKind x y = subst (λ (a : Event). IsOfKind a y) is (subst (λ (b : Event). IsOfKind t b) (sym same) k) in
    (λ b. b.1, λ b. (first, b))
next (x ∷ told) (y ∷ own) (suc i) t e l is at k = next told own i t e (omega arith) is at k

pub begin_next : (told own : List Event) (i : ℕ) (t e : Event) → i < length told → t ≡ get_or told i t → slice_get own i ≡ Some e → IsOfKind t e
    → BeginAsTold (drop i told) (drop i own) ↔ BeginAsTold (drop (i + 1) told) (drop (i + 1) own)
begin_next told own i t e l is at k = rw (add-one) (next told own i t e l is at k)

pub begin_other : (told own : List Event) (i : ℕ) (t e : Event) → i < length told → t ≡ get_or told i t → slice_get own i ≡ Some e → (IsOfKind t e → ⊥)
    → BeginAsTold (drop i told) (drop i own) → ⊥
begin_other [] own i t e l is at k b = absurd (omega arith)
begin_other (x ∷ told) [] i t e l is at k b = absurd cc
begin_other (x ∷ told) (y ∷ own) zero t e l is at k b =
    let same : y ≡ e = cc in
    k (subst (λ (a : Event). IsOfKind a e) (sym is) (subst (λ (b : Event). IsOfKind x b) same b.0))
begin_other (x ∷ told) (y ∷ own) (suc i) t e l is at k b = begin_other told own i t e (omega arith) is at k b

pub begin_short : (told own : List Event) (i : ℕ) → i < length told → slice_get own i ≡ None → BeginAsTold (drop i told) (drop i own) → ⊥
begin_short [] own i l none b = absurd (omega arith)
begin_short (x ∷ told) [] zero l none b = b
begin_short (x ∷ told) [] (suc i) l none b = short told i (omega arith) b
  where
    short : (told : List Event) (i : ℕ) → i < length told → BeginAsTold (drop i told) [] → ⊥
    short [] i l b = absurd (omega arith)
    short (x ∷ told) zero l b = b
    short (x ∷ told) (suc i) l b = short told i (omega arith) b
begin_short (x ∷ told) (y ∷ own) zero l none b = absurd cc
begin_short (x ∷ told) (y ∷ own) (suc i) l none b = begin_short told own i (omega arith) none b

pub begin_end : (told own : List Event) (i : ℕ) → length told ≤ i → BeginAsTold (drop i told) (drop i own)
begin_end [] own zero l = tt
begin_end [] own (suc i) l = tt
begin_end (x ∷ told) own zero l = absurd (omega arith)
begin_end (x ∷ told) [] (suc i) l = begin_end_none told i (omega arith)
  where
    begin_end_none : (told : List Event) (i : ℕ) → length told ≤ i → BeginAsTold (drop i told) []
    begin_end_none [] zero l = tt
    begin_end_none [] (suc i) l = tt
    begin_end_none (x ∷ told) zero l = absurd (omega arith)
    begin_end_none (x ∷ told) (suc i) l = begin_end_none told i (omega arith)
begin_end (x ∷ told) (y ∷ own) (suc i) l = begin_end told own i (omega arith)
