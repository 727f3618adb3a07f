-- Lists of events, of one history or the other, by the commands that they are of.
use Rattle.std.proofs.Common.{◌≡◌, ℕ, zero, suc, ◌<◌, ◌≤◌, ◌==◌, ◌&&◌, Bool, true, false, List, [], ◌∷◌, ◌++◌, ap, append-nil, eqb-true, refl, sym, subst, ◌∙◌, arith, drop, length}
use Rattle.std.proofs.lemmas.Bool.{false≢true}
use Rattle.std.proofs.lemmas.List.{drop-append-le}
use Rattle.std.proofs.lemmas.List.Elements.{filter-append}
use Rattle.std.specs.List.{AllByRecursion, filter}
use Rattle.tx_events.specs.declared.event.By.{By}
use Rattle.tx_events.specs.Events.{same_by}
use Rattle.tx_events.proofs.ListSteps.{both_all, filter_none}
use Rattle.session_promise.specs.MultiGrowth.{IsLaterThan}

pub and_both : (a b : Bool) → (a && b) ≡ true → (a ≡ true) × (b ≡ true)
and_both true b e = (refl, e)
and_both false b e = absurd (false≢true e)

pub same_is : (a b : By) → same_by a b ≡ true → a ≡ b
same_is a b e = let k = and_both (a.session == b.session) (a.command == b.command) e in λ j. record { session = eqb-true a.session b.session k.0 j; command = eqb-true a.command b.command k.1 j }

-- what holds behind a place holds behind a later one
all_drop : {X : Type 0} (P : X → Type 0) (xs : List X) (n m : ℕ) → n ≤ m → AllByRecursion P (drop n xs) → AllByRecursion P (drop m xs)
all_drop P [] zero zero l a = tt
all_drop P [] zero (suc m) l a = tt
all_drop P [] (suc n) zero l a = tt
all_drop P [] (suc n) (suc m) l a = tt
all_drop P (x ∷ xs) zero zero l a = a
all_drop P (x ∷ xs) zero (suc m) l a = all_drop P xs zero m (omega arith) a.1
all_drop P (x ∷ xs) (suc n) zero l a = absurd (omega arith)
all_drop P (x ∷ xs) (suc n) (suc m) l a = all_drop P xs n m (omega arith) a

pub behind_more : {X : Type 0} (P : X → Type 0) (h rest : List X) (to later : ℕ) → to ≤ length h → to ≤ later → AllByRecursion P (drop to h) → AllByRecursion P rest → AllByRecursion P (drop later (h ++ rest))
behind_more P h rest to later within up a b = all_drop P (h ++ rest) to later up (subst (AllByRecursion P) (sym (drop-append-le to h rest within)) (both_all P (drop to h) rest a b))

later_apart : (by other : By) → IsLaterThan by other → same_by other by ≡ false
later_apart by other later = step (same_by other by) refl
  where
    step : (b : Bool) → same_by other by ≡ b → b ≡ false
    step true q =
        let same = same_is other by q in
        let past : by.command < other.command = later (ap (λ (x : By). x.session) same) in
        let number : other.command ≡ by.command = ap (λ (x : By). x.command) same in
        absurd (omega (arith, past, number))
    step false q = refl

-- what is more of later commands and other sessions is none of the command's
pub own_same : {X : Type 0} (whose : X → By) (by : By) (h rest : List X) → AllByRecursion (λ e. IsLaterThan by (whose e)) rest → filter (λ e. same_by (whose e) by) (h ++ rest) ≡ filter (λ e. same_by (whose e) by) h
own_same {X} whose by h rest later =
    filter-append (λ (e : X). same_by (whose e) by) h rest
    ∙ (ap (λ (t : List X). filter (λ e. same_by (whose e) by) h ++ t) (filter_none (λ (e : X). IsLaterThan by (whose e)) (λ e. same_by (whose e) by) rest (λ e l. later_apart by (whose e) l) later)
    ∙ append-nil (filter (λ (e : X). same_by (whose e) by) h))
