-- What one more event does to what is open.
use Rattle.std.proofs.Common.{◌≡◌, ℕ, List, [], ◌∷◌, ◌++◌, refl, ap, ◌∙◌, Bool, true, false, not, ◌&&◌, ◌==◌, ◌||◌, cond, arith}
use Rattle.std.specs.List.{list_any}
use Rattle.std.proofs.lemmas.Grind.{common_steps}
use Rattle.std.proofs.Math.Bool.{or-false}
use Rattle.tx_events.proofs.ListSteps.{below_not, eqb-refl, list_any-push}
use Rattle.tx_events.proofs.NameBounds.{AreBelow, fresh_enclosing, fresh_top}
use Rattle.tx_events.specs.Events.{is_end_of, is_undo_of}
use Rattle.tx_events.specs.Families.{top, enclosing}
use Rattle.tx_events.specs.Running.{is_undone, is_ended, is_open}
use Rattle.tx_events.specs.Savepoints.{is_inside}
use Rattle.tx_events.specs.declared.event.By.{By}
use Rattle.tx_events.specs.declared.event.Event.{Event}
use Rattle.tx_events.proofs.Membership.{Has, list_any_agree_on, list_any_none_on}
use Rattle.tx_events.proofs.Lineages.{IsNoSub, KeepsFamily, enclosing_kept, enclosing_sub, family_kept, top_kept, top_sub}
use Rattle.tx_events.specs.declared.event.Event.TheVariants as events

-- one more event, that leaves the family of x
pub undone_push : (h : List Event) (e : Event) (x : ℕ) → KeepsFamily h e x →
    is_undone (h ++ e ∷ []) x ≡ (is_undone h x || list_any (λ y. is_undo_of y e) (enclosing h x))
undone_push h e x k =
    ap (list_any (λ y. list_any (is_undo_of y) (h ++ e ∷ []))) (enclosing_kept h e x k) ∙ each (enclosing h x)
  where
    or_swap : (a b c d : Bool) → ((a || b) || (c || d)) ≡ ((a || c) || (b || d))
    or_swap a b c d = grind (arith, common_steps)

    each : (xs : List ℕ) → list_any (λ y. list_any (is_undo_of y) (h ++ e ∷ [])) xs ≡ (list_any (λ y. list_any (is_undo_of y) h) xs || list_any (λ y. is_undo_of y e) xs)
    each [] = refl
    each (y ∷ ys) =
        ap (λ b. b || list_any (λ y. list_any (is_undo_of y) (h ++ e ∷ [])) ys) (list_any-push (is_undo_of y) h e)
        ∙ ap (λ b. (list_any (is_undo_of y) h || is_undo_of y e) || b) (each ys)
        ∙ or_swap (list_any (is_undo_of y) h) (is_undo_of y e) (list_any (λ y. list_any (is_undo_of y) h) ys) (list_any (λ y. is_undo_of y e) ys)

pub ended_push : (h : List Event) (e : Event) (x : ℕ) → KeepsFamily h e x →
    is_ended (h ++ e ∷ []) x ≡ (is_ended h x || is_end_of (top h x) e)
ended_push h e x k =
    ap (λ t. list_any (is_end_of t) (h ++ e ∷ [])) (top_kept h e x k)
    ∙ list_any-push (is_end_of (top h x)) h e

pub undone_kept : (h : List Event) (e : Event) (x : ℕ) → KeepsFamily h e x → ((y : ℕ) → Has (enclosing h x) y → is_undo_of y e ≡ false) →
    is_undone (h ++ e ∷ []) x ≡ is_undone h x
undone_kept h e x k f =
    undone_push h e x k ∙ ap (λ b. is_undone h x || b) (list_any_none_on (λ y. is_undo_of y e) (enclosing h x) f) ∙ or-false (is_undone h x)

pub still_open : (h : List Event) (e : Event) (x : ℕ) → KeepsFamily h e x → is_end_of (top h x) e ≡ false → ((y : ℕ) → Has (enclosing h x) y → is_undo_of y e ≡ false) →
    is_open (h ++ e ∷ []) x ≡ is_open h x
still_open h e x k end undo =
    ap (λ b. not b && not (is_undone (h ++ e ∷ []) x)) (ended_push h e x k ∙ ap (λ b. is_ended h x || b) end ∙ or-false (is_ended h x))
    ∙ ap (λ b. not (is_ended h x) && not b) (undone_kept h e x k undo)

-- an event that closes nothing
abbrev pub ClosesNothing : Event → Type 0
ClosesNothing (events.Undo by id) = ⊥
ClosesNothing (events.Commit by top) = ⊥
ClosesNothing (events.Abort by top) = ⊥
ClosesNothing e = Unit {0}

no_end : (e : Event) (t : ℕ) → ClosesNothing e → is_end_of t e ≡ false
no_end (events.Undo by id) t f = absurd f
no_end (events.Commit by top) t f = absurd f
no_end (events.Abort by top) t f = absurd f
no_end e t f = refl

no_undo : (e : Event) (y : ℕ) → ClosesNothing e → is_undo_of y e ≡ false
no_undo (events.Undo by id) t f = absurd f
no_undo (events.Commit by top) t f = absurd f
no_undo (events.Abort by top) t f = absurd f
no_undo e t f = refl

pub open_kept : (h : List Event) (e : Event) (x : ℕ) → KeepsFamily h e x → ClosesNothing e →
    is_open (h ++ e ∷ []) x ≡ is_open h x
open_kept h e x k f = still_open h e x k (no_end e (top h x) f) (λ y _. no_undo e y f)

not_or : (a b c : Bool) → (not a && not (b || c)) ≡ ((not a && not b) && not c)
not_or true b c = refl
not_or false true c = refl
not_or false false c = refl

not_or_first : (a b c : Bool) → (not (a || c) && not b) ≡ ((not a && not b) && not c)
not_or_first true b c = refl
not_or_first false true true = refl
not_or_first false false true = refl
not_or_first false true false = refl
not_or_first false false false = refl

pub open_undone : (h : List Event) (by : By) (id x : ℕ) →
    is_open (h ++ events.Undo by id ∷ []) x ≡ (is_open h x && not (is_inside h id x))
open_undone h by id x =
    let l = family_kept h (events.Undo by id) x tt in
    ap (λ b. not b && not (is_undone (h ++ events.Undo by id ∷ []) x)) (ended_push h (events.Undo by id) x l ∙ or-false (is_ended h x))
    ∙ ap (λ b. not (is_ended h x) && not b) (undone_push h (events.Undo by id) x l)
    ∙ not_or (is_ended h x) (is_undone h x) (is_inside h id x)

open_after_end : (h : List Event) (e : Event) (t x : ℕ) → IsNoSub e → is_end_of (top h x) e ≡ (t == top h x) → ((y : ℕ) → is_undo_of y e ≡ false) →
    is_open (h ++ e ∷ []) x ≡ (is_open h x && not (t == top h x))
open_after_end h e t x n f u =
    let k = family_kept h e x n in
    ap (λ b. not b && not (is_undone (h ++ e ∷ []) x)) (ended_push h e x k ∙ ap (λ b. is_ended h x || b) f)
    ∙ ap (λ b. not (is_ended h x || (t == top h x)) && not b) (undone_kept h e x k (λ y _. u y))
    ∙ not_or_first (is_ended h x) (is_undone h x) (t == top h x)

pub open_committed : (h : List Event) (by : By) (t x : ℕ) →
    is_open (h ++ events.Commit by t ∷ []) x ≡ (is_open h x && not (t == top h x))
open_committed h by t x = open_after_end h (events.Commit by t) t x tt refl (λ y. refl)

pub open_aborted : (h : List Event) (by : By) (t x : ℕ) →
    is_open (h ++ events.Abort by t ∷ []) x ≡ (is_open h x && not (t == top h x))
open_aborted h by t x = open_after_end h (events.Abort by t) t x tt refl (λ y. refl)

fresh_no_end : (n : ℕ) (h : List Event) → AreBelow n h → list_any (is_end_of n) h ≡ false
fresh_no_end n [] f = refl
fresh_no_end n (events.Commit by top ∷ h) f = rw (below_not top n f.0) (fresh_no_end n h f.1)
fresh_no_end n (events.Abort by top ∷ h) f = rw (below_not top n f.0) (fresh_no_end n h f.1)
fresh_no_end n (e ∷ h) f = fresh_no_end n h f.1

fresh_no_undo : (n : ℕ) (h : List Event) → AreBelow n h → list_any (is_undo_of n) h ≡ false
fresh_no_undo n [] f = refl
fresh_no_undo n (events.Undo by id ∷ h) f = rw (below_not id n f.0) (fresh_no_undo n h f.1)
fresh_no_undo n (e ∷ h) f = fresh_no_undo n h f.1

pub fresh_open : (n : ℕ) (h : List Event) → AreBelow n h → is_open h n ≡ true
fresh_open n h f =
    ap (λ b. not b && not (is_undone h n)) (ap (λ t. list_any (is_end_of t) h) (fresh_top n h f) ∙ fresh_no_end n h f)
    ∙ ap (λ l. not (list_any (λ y. list_any (is_undo_of y) h) l)) (fresh_enclosing n h f)

pub open_sub : (h : List Event) (by : By) (parent n : ℕ) → AreBelow n h → is_open (h ++ events.Sub by parent n ∷ []) n ≡ is_open h parent
open_sub h by parent n f =
    ap (λ b. not b && not (is_undone (h ++ events.Sub by parent n ∷ []) n))
    (ap (λ t. list_any (is_end_of t) (h ++ events.Sub by parent n ∷ [])) (top_sub h by parent n n ∙ ap (λ b. cond b (top h parent) (top h n)) (eqb-refl n))
    ∙ list_any-push (is_end_of (top h parent)) h (events.Sub by parent n)
    ∙ or-false (is_ended h parent))
    ∙ ap (λ b. not (is_ended h parent) && not b)
    (ap (list_any (λ y. list_any (is_undo_of y) (h ++ events.Sub by parent n ∷ [])))
    (enclosing_sub h by parent n n ∙ ap (λ b. cond b (n ∷ enclosing h parent) (enclosing h n)) (eqb-refl n))
    ∙ list_any_agree_on (λ y. list_any (is_undo_of y) (h ++ events.Sub by parent n ∷ [])) (λ y. list_any (is_undo_of y) h) (n ∷ enclosing h parent)
    (λ y _. list_any-push (is_undo_of y) h (events.Sub by parent n) ∙ or-false (list_any (is_undo_of y) h))
    ∙ ap (λ b. b || is_undone h parent) (fresh_no_undo n h f))
