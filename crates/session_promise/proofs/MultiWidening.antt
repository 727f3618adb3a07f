-- Where a command may read, once more was added.
use Rattle.std.proofs.Common.{◌≡◌, ℕ, suc, zero, ◌-◌, ◌<◌, ◌≤◌, List, [], ◌∷◌, ◌++◌, length, take, drop, refl, ap, sym, subst, ◌∙◌, arith, Some}
use Rattle.std.proofs.lemmas.List.{drop-append-le, take-append-drop, take-append-le}
use Rattle.std.specs.List.{AllByRecursion, slice_get}
use Rattle.tx_events.specs.declared.event.By.{By}
use Rattle.tx_events.specs.declared.event.Event.{Event}
use Rattle.tx_events.specs.declared.multi.MultiEvent.{MultiEvent}
use Rattle.tx_events.specs.Events.{by_of}
use Rattle.tx_events.specs.Multis.{multi_by}
use Rattle.tx_events.proofs.ListSteps.{all_weaker, both_all}
use Rattle.tx_model.specs.Replies.{RoundSpan}
use Rattle.life_law.specs.MultiPlaces.{MayReadIn, MayReadMultis}
use Rattle.session_promise.specs.MultiGrowth.{IsLaterThan, Widens}

take_twice : {X : Type 0} (h : List X) (p n : ℕ) → p ≤ n → take p (take n h) ≡ take p h
take_twice h zero n l = refl
take_twice h (suc p) zero l = absurd (omega arith)
take_twice [] (suc p) (suc n) l = refl
take_twice {X} (e ∷ h) (suc p) (suc n) l = ap (λ (t : List X). e ∷ t) (take_twice h p n (omega arith))

length_front : {X : Type 0} (h : List X) (n : ℕ) → n ≤ length h → length (take n h) ≡ n
length_front h zero l = refl
length_front [] (suc n) l = absurd (omega arith)
length_front (e ∷ h) (suc n) l = ap suc (length_front h n (omega arith))

-- what holds behind a place, up to another and of an item there
pub all_front : {X : Type 0} (P : X → Type 0) (h : List X) (n m : ℕ) → AllByRecursion P (drop n h) → AllByRecursion P (drop n (take m h))
all_front {X} P h n zero a = none_left P n
  where
    none_left : {X : Type 0} (P : X → Type 0) (n : ℕ) → AllByRecursion P (drop n [])
    none_left P zero = tt
    none_left P (suc n) = tt
all_front {X} P [] zero (suc m) a = tt
all_front {X} P [] (suc n) (suc m) a = tt
all_front {X} P (e ∷ h) zero (suc m) a = (a.0, all_front P h zero m a.1)
all_front {X} P (e ∷ h) (suc n) (suc m) a = all_front P h n m a

pub all_behind : {X : Type 0} (P : X → Type 0) (h : List X) (n p : ℕ) (e : X) → AllByRecursion P (drop n h) → n ≤ p → slice_get h p ≡ Some e → P e
all_behind {X} P [] n p e a l at = absurd cc
all_behind {X} P (x ∷ h) zero zero e a l at = let same : x ≡ e = cc in subst P same a.0
all_behind {X} P (x ∷ h) zero (suc p) e a l at = all_behind P h zero p e a.1 (omega arith) at
all_behind {X} P (x ∷ h) (suc n) zero e a l at = absurd (omega arith)
all_behind {X} P (x ∷ h) (suc n) (suc p) e a l at = all_behind P h n p e a (omega arith) at

pub front_item : {X : Type 0} (h rest : List X) (p : ℕ) → p < length h → slice_get (h ++ rest) p ≡ slice_get h p
front_item [] rest p l = absurd (omega arith)
front_item (x ∷ h) rest zero l = refl
front_item (x ∷ h) rest (suc p) l = front_item h rest p (omega arith)

-- what holds from a place to a span's end, and behind it
read_more : {X : Type 0} (P : X → Type 0) (h rest : List X) (p to later : ℕ) → p ≤ to → to ≤ later → to ≤ length h → AllByRecursion P (drop p (take to h)) → AllByRecursion P (drop to (take later (h ++ rest))) → AllByRecursion P (drop p (take later (h ++ rest)))
read_more {X} P h rest p to later low up within a b =
    let front : take to (take later (h ++ rest)) ≡ take to h = take_twice (h ++ rest) to later up ∙ take-append-le to h rest within in
    let whole : take later (h ++ rest) ≡ take to h ++ drop to (take later (h ++ rest)) = sym (take-append-drop to (take later (h ++ rest))) ∙ ap (λ (t : List X). t ++ drop to (take later (h ++ rest))) front in
    let size = length_front h to within in
    let parts : drop p (take later (h ++ rest)) ≡ drop p (take to h) ++ drop to (take later (h ++ rest)) = ap (drop p) whole ∙ drop-append-le p (take to h) (drop to (take later (h ++ rest))) (omega arith) in
    subst (AllByRecursion P) (sym parts) (both_all P (drop p (take to h)) (drop to (take later (h ++ rest))) a b)

module _ (by : By) (h rest : List Event) (span wider : RoundSpan) (w : Widens by_of by h (h ++ rest) span wider) where
  pub reads_in : (p : ℕ) → MayReadIn h span by p → MayReadIn (h ++ rest) wider by p
  reads_in p m =
      let a = w.from in let b = w.to in let c = m.not_before in let d = m.not_past in
      record { not_before = omega arith; not_past = omega arith; behind = read_more (λ e. IsLaterThan by (by_of e)) h rest p span.to wider.to d b w.within m.behind (all_front (λ e. IsLaterThan by (by_of e)) (h ++ rest) span.to wider.to w.later) }

  pub front_of : (p : ℕ) → p ≤ span.to → take p h ≡ take p (h ++ rest)
  front_of p l = let s = w.within in sym (take-append-le p h rest (omega arith))

module _ (by : By) (h rest : List MultiEvent) (span wider : RoundSpan) (w : Widens multi_by by h (h ++ rest) span wider) where
  pub reads_multis : (p : ℕ) → MayReadMultis h span by p → MayReadMultis (h ++ rest) wider by p
  reads_multis p m =
      let a = w.from in let b = w.to in let c = m.not_before in let d = m.not_past in
      record { not_before = omega arith; not_past = omega arith; behind = read_more (λ e. IsLaterThan by (multi_by e)) h rest p span.to wider.to d b w.within m.behind (all_front (λ e. IsLaterThan by (multi_by e)) (h ++ rest) span.to wider.to w.later) }

  -- of the command before, by the same events
  pub reads_before : (p : ℕ) → MayReadMultis h span (record by { command = by.command - 1 }) p → MayReadMultis (h ++ rest) wider (record by { command = by.command - 1 }) p
  reads_before p m =
      let a = w.from in let b = w.to in let c = m.not_before in let d = m.not_past in
      let before : By = record by { command = by.command - 1 } in
      let later : AllByRecursion (λ e. IsLaterThan before (multi_by e)) (drop span.to (take wider.to (h ++ rest))) =
      all_weaker (λ e. IsLaterThan by (multi_by e)) (λ e. IsLaterThan before (multi_by e)) (λ e f same. let l = f same in omega arith) (drop span.to (take wider.to (h ++ rest))) (all_front (λ e. IsLaterThan by (multi_by e)) (h ++ rest) span.to wider.to w.later) in
      record { not_before = omega arith; not_past = omega arith; behind = read_more (λ e. IsLaterThan before (multi_by e)) h rest p span.to wider.to d b w.within m.behind later }

  pub multis_front : (p : ℕ) → p ≤ span.to → take p h ≡ take p (h ++ rest)
  multis_front p l = let s = w.within in sym (take-append-le p h rest (omega arith))
