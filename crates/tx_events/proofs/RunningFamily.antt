-- The running ids of one top.
use Rattle.std.proofs.Common.{◌≡◌, ℕ, ◌<◌, List, [], ◌∷◌, length, reverse, refl, ap, sym, ◌∙◌, true, false, not, ◌&&◌, ◌==◌, ◌||◌, nat_lt, eqb-true}
use Rattle.std.proofs.lemmas.List.Elements.{filter_agree}
use Rattle.std.specs.List.{filter, AllByRecursion}
use Rattle.std.proofs.lemmas.Bool.{and_parts}
use Rattle.std.proofs.Math.Bool.{not-not}
use Rattle.tx_events.proofs.IdListSteps.{has-filter, has_true}
use Rattle.tx_events.proofs.ListSteps.{below_not, filter_none, all_reverse_aux, equal_swap}
use Rattle.tx_events.proofs.NameBounds.{NamesBelow, AreBelow, running_below, top_below}
use Rattle.tx_events.proofs.OverflowSteps.{overflow_up, overflowed_is}
use Rattle.tx_events.specs.Families.{top, is_top}
use Rattle.tx_events.specs.IdLists.{has}
use Rattle.tx_events.specs.Running.{running}
use Rattle.tx_events.specs.Savepoints.{family}
use Rattle.tx_events.specs.Snapshots.{running_subs, has_overflowed}
use Rattle.tx_events.specs.declared.event.Event.{Event}
use Rattle.tx_events.proofs.Membership.{all_from, has_filter}

pub fresh_family : (n : ℕ) (h : List Event) → AreBelow n h → family h n ≡ []
fresh_family n h b = filter_none (λ x. x < n) (λ x. top h x == n) (running h) (λ x l. below_not (top h x) n (top_below n h x b l)) (running_below n h b)

pub fresh_subs : (n : ℕ) (h : List Event) → AreBelow n h → running_subs h n ≡ []
fresh_subs n h b = filter_none (λ x. x < n) (λ x. (top h x == n) && not (is_top h x)) (running h) (λ x l. ap (λ c. c && not (is_top h x)) (below_not (top h x) n (top_below n h x b l))) (running_below n h b)

fresh_overflow_up : (n : ℕ) (r : List Event) → AreBelow n r → overflow_up r n ≡ false
fresh_overflow_up n [] b = refl
fresh_overflow_up n (e ∷ r) b =
    ap (λ c. c || nat_lt 64 (length (running_subs (reverse (e ∷ r)) n))) (fresh_overflow_up n r b.1)
    ∙ ap (λ l. nat_lt 64 (length l)) (fresh_subs n (reverse (e ∷ r)) (all_reverse_aux (NamesBelow n) (e ∷ r) [] b tt))

pub fresh_overflow : (n : ℕ) (h : List Event) → AreBelow n h → has_overflowed h n ≡ false
fresh_overflow n h b = overflowed_is h n ∙ fresh_overflow_up n (reverse h) (all_reverse_aux (NamesBelow n) h [] b tt)

pub family_member : (h : List Event) (t x : ℕ) → has (family h t) x ≡ true → (has (running h) x ≡ true) × (top h x ≡ t)
family_member h t x f = let b = and_parts (has (running h) x) (top h x == t) (sym (has-filter (λ y. top h y == t) (running h) x) ∙ f) in (b.0, eqb-true (top h x) t b.1)

pub family_ended : (h : List Event) (t : ℕ) → filter (λ x. not (not (t == top h x))) (running h) ≡ family h t
family_ended h t = filter_agree (λ x. not (not (t == top h x))) (λ x. top h x == t) (λ x. not-not (t == top h x) ∙ equal_swap t (top h x)) (running h)

-- whatever P says of all running ids of a top
pub all_subs : (P : ℕ → Type 0) (h : List Event) (t : ℕ) → ((x : ℕ) → has (running h) x ≡ true → top h x ≡ t → P x) → AllByRecursion P (running_subs h t)
all_subs P h t f = all_from P (running_subs h t) (λ x k.
    let r = has_filter (λ y. (top h y == t) && not (is_top h y)) (running h) x k in
    f x (has_true (running h) x r.0) (eqb-true (top h x) t (and_parts (top h x == t) (not (is_top h x)) r.1).0))
