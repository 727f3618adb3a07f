-- A choice by whether two numbers are equal.
use Rattle.std.proofs.Common.{◌≡◌, ◌≢◌, ℕ, ◌==◌, Bool, if◌then◌else◌, refl, sym, subst, eq-eqb, ne_eqb}
use mathlib.Core.Logic.{dite}
use native.Mathlib.Decide.{ℕ_discrete}

pub if_case : {A : Type 0} (P : A → Type 0) (k i : ℕ) (a b : A) → (k ≡ i → P a) → (k ≢ i → P b) → P (if k == i then a else b)
if_case P k i a b hit miss = dite (ℕ_discrete k i) (λ e. subst (λ (z : Bool). P (if z then a else b)) (sym (eq-eqb k i e)) (hit e)) (λ ne. subst (λ (z : Bool). P (if z then a else b)) (sym (ne_eqb k i ne)) (miss ne))

pub if_else : {A : Type 0} (k i : ℕ) (a b : A) → k ≢ i → (if k == i then a else b) ≡ b
if_else k i a b ne = if_case (λ z. z ≡ b) k i a b (λ e. absurd (ne e)) (λ _. refl)

pub if_same : {A : Type 0} (k : ℕ) (a b : A) → (if k == k then a else b) ≡ a
if_same k a b = if_case (λ z. z ≡ a) k k a b (λ _. refl) (λ ne. absurd (ne refl))
