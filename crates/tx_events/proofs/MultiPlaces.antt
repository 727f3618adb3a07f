-- Multixact events at places of a history.
use Rattle.std.proofs.Common.{◌≡◌, ℕ, zero, suc, ◌<◌, Some, List, [], ◌∷◌, length, map, get_or, ap, sym, arith}
use Rattle.std.specs.List.{slice_get}
use Rattle.tx_events.specs.declared.event.By.{By}
use Rattle.tx_events.specs.declared.multi.MultiEvent.{MultiEvent}
use Rattle.tx_events.specs.Multis.{multi_by}

pub bound_of : (all : List MultiEvent) (p : ℕ) (by : By) → slice_get (map multi_by all) p ≡ Some by → p < length all
bound_of [] p by e = absurd cc
bound_of (x ∷ all) zero by e = omega arith
bound_of (x ∷ all) (suc p) by e = let l = bound_of all p by e in omega arith

pub its_by : (all : List MultiEvent) (p : ℕ) (e : MultiEvent) → slice_get all p ≡ Some e → slice_get (map multi_by all) p ≡ Some (multi_by e)
its_by [] p e s = absurd cc
its_by (x ∷ all) zero e s = let same : x ≡ e = cc in ap (λ (x : MultiEvent). Some (multi_by x)) same
its_by (x ∷ all) (suc p) e s = its_by all p e s

pub stands_at : (all : List MultiEvent) (p : ℕ) (e : MultiEvent) → p < length all → e ≡ get_or all p e → slice_get all p ≡ Some e
stands_at [] p e l i = absurd (omega arith)
stands_at (x ∷ all) zero e l i = ap (λ (x : MultiEvent). Some x) (sym i)
stands_at (x ∷ all) (suc p) e l i = stands_at all p e (omega arith) i
