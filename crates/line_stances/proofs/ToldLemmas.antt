-- Snapshots with their names, and as a stance has them.
use Rattle.std.proofs.Common.{◌≡◌, ℕ, zero, suc, ◌≤◌, Bool, true, false, cond, not, List, [], ◌∷◌, length, map, take, Some, None, refl, ap, subst, arith}
use Rattle.std.specs.List.{filter, find}
use Rattle.tx_events.specs.Events.{same_name}
use Rattle.tx_model.specs.Stance.{second_of, without_snap}
use Rattle.line_stances.specs.declared.snaps.Taken.{Taken}
use Rattle.line_stances.specs.Snapshots.{told_of}

found_step : (name : List ℕ) (x t : Taken) (items : List Taken) (b : Bool) → cond b (Some x) (find (λ (y : Taken). same_name y.name name) items) ≡ Some t
    → (find (λ (y : Taken). same_name y.name name) items ≡ Some t → second_of (find (λ p. same_name p.0 name) (map told_of items)) ≡ Some t.command)
    → second_of (cond b (Some (told_of x)) (find (λ p. same_name p.0 name) (map told_of items))) ≡ Some t.command
found_step name x t items true e r = let same : x ≡ t = cc in ap (λ (y : Taken). Some y.command) same
found_step name x t items false e r = r e

pub told_found : (name : List ℕ) (items : List Taken) (t : Taken) → find (λ (y : Taken). same_name y.name name) items ≡ Some t → second_of (find (λ p. same_name p.0 name) (map told_of items)) ≡ Some t.command
told_found name [] t e = absurd cc
told_found name (x ∷ items) t e = found_step name x t items (same_name x.name name) e (told_found name items t)

missing_step : (name : List ℕ) (x : Taken) (items : List Taken) (b : Bool) → cond b (Some x) (find (λ (y : Taken). same_name y.name name) items) ≡ None
    → (find (λ (y : Taken). same_name y.name name) items ≡ None → second_of (find (λ p. same_name p.0 name) (map told_of items)) ≡ None)
    → second_of (cond b (Some (told_of x)) (find (λ p. same_name p.0 name) (map told_of items))) ≡ None
missing_step name x items true e r = absurd cc
missing_step name x items false e r = r e

pub told_missing : (name : List ℕ) (items : List Taken) → find (λ (y : Taken). same_name y.name name) items ≡ None → second_of (find (λ p. same_name p.0 name) (map told_of items)) ≡ None
told_missing name [] e = refl
told_missing name (x ∷ items) e = missing_step name x items (same_name x.name name) e (told_missing name items)

all_taken : (n : ℕ) (items : List Taken) → length items ≤ n → take n items ≡ items
all_taken zero [] l = refl
all_taken (suc n) [] l = refl
all_taken zero (x ∷ items) l = absurd (omega arith)
all_taken (suc n) (x ∷ items) l = ap (λ (t : List Taken). x ∷ t) (all_taken n items (omega arith))

pub none_in_all : (name : List ℕ) (items : List Taken) (n : ℕ) → length items ≤ n → find (λ (y : Taken). same_name y.name name) (take n items) ≡ None → find (λ (y : Taken). same_name y.name name) items ≡ None
none_in_all name items n l e = subst (λ (t : List Taken). find (λ (y : Taken). same_name y.name name) t ≡ None) (all_taken n items l) e

dropped_step : (name : List ℕ) (t : Taken) (items : List Taken) (b : Bool) → without_snap name (map told_of items) ≡ map told_of (filter (λ (y : Taken). not (same_name y.name name)) items)
    → cond (not b) (told_of t ∷ without_snap name (map told_of items)) (without_snap name (map told_of items)) ≡ map told_of (cond (not b) (t ∷ filter (λ (y : Taken). not (same_name y.name name)) items) (filter (λ (y : Taken). not (same_name y.name name)) items))
dropped_step name t items true e = e
dropped_step name t items false e = ap (λ u. told_of t ∷ u) e

pub told_dropped : (name : List ℕ) (items : List Taken) → without_snap name (map told_of items) ≡ map told_of (filter (λ (y : Taken). not (same_name y.name name)) items)
told_dropped name [] = refl
told_dropped name (t ∷ items) = dropped_step name t items (same_name t.name name) (told_dropped name items)
