-- The next id isn't past the stop limit of the announced oldest one, which was announced or is the first.
use Rattle.std.proofs.Common.{Contains, List, None, Option, Some, [], ap, arith, cond, inl, inr, ⊎_elim, ◌⊎◌, false, length, min, nat_lt, refl, subst, suc, sym, true, Bool, ℕ, ◌++◌, ◌+◌, ◌-◌, ◌%◌, ◌^◌, ◌<◌, ◌∙◌, ◌∷◌, ◌≡◌, ◌≤◌}
use Rattle.std.proofs.lemmas.Bool.Decides.{nat_tests}
use Rattle.std.proofs.lemmas.List.Elements.{Contains-append_left, Contains-push}
use Rattle.std.specs.List.{cons_option}
use Rattle.tx_events.specs.Ids.{IsFullId, low_half, next_id}
use Rattle.tx_events.specs.declared.event.By.{By}
use Rattle.tx_events.specs.declared.event.Event.{Event}
use Rattle.tx_events.specs.declared.event.Event.TheVariants as events
use Rattle.tx_events.specs.declared.record.Counters.{Counters}
use Rattle.tx_events.specs.Base.{IsBase}
use Rattle.tx_events.specs.Events.{given, given_by}
use Rattle.tx_events.specs.History.{IsLegal, MayCome, next_given, nth_id}
use Rattle.tx_events.specs.Horizon.{announced_after, oldest_id}
use Rattle.tx_events.specs.Limits.{down_to_normal, stop_limit, up_to_normal, wrap_limit}
use Rattle.tx_events.proofs.GivenGrowth.{given_none, given_push}
use Rattle.tx_events.proofs.GivenIds.{may_give}
use Rattle.tx_events.proofs.HorizonSteps.{oldest_push}
use Rattle.tx_events.proofs.IdOrder.{next_least}
use Rattle.tx_events.proofs.Membership.{by_end}
use Rattle.tx_events.proofs.Soundness.{legal_induction}
use Rattle.tx_core.proofs.Posting.{announced_rises}

-- limits on ids
up_above : (n : ℕ) → n ≤ up_to_normal n
up_above n = elim (nat_lt (low_half n) 3) as (λ b. n ≤ cond b (n + (3 - low_half n)) n) [ true ↦ omega arith | false ↦ omega arith ]

up_rises : (a b : ℕ) → a ≤ b → up_to_normal a ≤ up_to_normal b
up_rises a b h = grind (arith, nat_tests)

down_rises : (a b : ℕ) → a ≤ b → down_to_normal a ≤ down_to_normal b
down_rises a b h = grind (arith, nat_tests)

pub stop_rises : (a b : ℕ) → a ≤ b → stop_limit a ≤ stop_limit b
stop_rises a b h =
    let u : wrap_limit a ≤ wrap_limit b = up_rises (a + 2147483647) (b + 2147483647) (omega arith) in
    let d : down_to_normal (wrap_limit a - 3000000) ≤ down_to_normal (wrap_limit b - 3000000) = down_rises (wrap_limit a - 3000000) (wrap_limit b - 3000000) (omega arith) in
    omega arith

pub stop_upto : (oldest : ℕ) → stop_limit oldest ≤ 2 ^ 63 - 1
stop_upto oldest = omega arith

pub stop_below : (oldest : ℕ) → stop_limit oldest ≤ oldest + 2 ^ 31
stop_below oldest = grind arith

pub stop_from : (oldest : ℕ) → oldest < 2 ^ 63 → oldest ≤ stop_limit oldest
stop_from oldest low = grind (arith, nat_tests)

down_full : (n : ℕ) → 3 ≤ n → IsFullId (down_to_normal n)
down_full n some =
    let step : (b : Bool) → nat_lt (low_half n) 3 ≡ b → 3 ≤ low_half (cond b (n - low_half n - 1) n) = elim [
      | true ↦ λ q. let r : n % 2 ^ 32 < 3 = grind (arith, nat_tests) in omega arith
      | false ↦ λ q. let r : 3 ≤ n % 2 ^ 32 = grind (arith, nat_tests) in omega arith
    ] in
    step (nat_lt (low_half n) 3) refl

last_full : IsFullId (2 ^ 63 - 1)
last_full = omega arith

-- an id below the stop limit leaves the next one at most there
next_to_stop : (n oldest : ℕ) → n < stop_limit oldest → next_id n ≤ stop_limit oldest
next_to_stop n oldest below =
    let w : oldest + 2147483647 ≤ wrap_limit oldest = up_above (oldest + 2147483647) in
    let d : ℕ = down_to_normal (wrap_limit oldest - 3000000) in
    let full : IsFullId d = down_full (wrap_limit oldest - 3000000) (omega arith) in
    let b : n < min d (2 ^ 63 - 1) = below in
    let x : next_id n ≤ d = next_least n d full (omega arith) in
    let y : next_id n ≤ 2 ^ 63 - 1 = next_least n (2 ^ 63 - 1) last_full (omega arith) in
    omega arith

-- ---- the history

announced_same : (oldest : ℕ) (e : Event) (x : ℕ) → given_by e ≡ Some x → announced_after oldest e ≡ oldest
announced_same oldest (events.Oldest by new) x g = absurd cc
announced_same oldest e x g = refl

gives_below : (base : Counters) (h : List Event) (e : Event) (x : ℕ) → MayCome base h e → given_by e ≡ Some x → x < stop_limit (oldest_id base.oldest h)
gives_below base h (events.Id by id) x may g = let q : id ≡ x = cc in subst (λ z. z < stop_limit (oldest_id base.oldest h)) q may.0.below_stop
gives_below base h (events.Sub by parent id) x may g = let q : id ≡ x = cc in subst (λ z. z < stop_limit (oldest_id base.oldest h)) q may.0.below_stop
gives_below base h e x may g = absurd cc

-- the next id isn't past the stop limit of the announced oldest one
pub next_within : (base : Counters) → IsBase base → (h : List Event) → IsLegal base h → next_given base.next h ≤ stop_limit (oldest_id base.oldest h)
next_within base is = legal_induction base (λ h. next_given base.next h ≤ stop_limit (oldest_id base.oldest h)) is.next (λ h e before may. step h e (given_by e) refl before may)
  where
    step : (h : List Event) (e : Event) (o : Option ℕ) → given_by e ≡ o → next_given base.next h ≤ stop_limit (oldest_id base.oldest h) → MayCome base h e → next_given base.next (h ++ e ∷ []) ≤ stop_limit (oldest_id base.oldest (h ++ e ∷ []))
    step h e None g before may =
        let same : next_given base.next (h ++ e ∷ []) ≡ next_given base.next h = ap (λ (t : List ℕ). nth_id base.next (length t)) (given_none h e (ap (λ o. cons_option o []) g)) in
        let up : oldest_id base.oldest h ≤ oldest_id base.oldest (h ++ e ∷ []) = subst (λ z. oldest_id base.oldest h ≤ z) (sym (oldest_push base.oldest h e)) (announced_rises base h e may) in
        let limit = stop_rises (oldest_id base.oldest h) (oldest_id base.oldest (h ++ e ∷ [])) up in
        omega arith
    step h e (Some x) g before may =
        let is_next : x ≡ next_given base.next h = may_give base h e x may g in
        let below = gives_below base h e x may g in
        let long : length (given (h ++ e ∷ [])) ≡ suc (length (given h)) = ap length (given_push h e ∙ ap (λ o. given h ++ cons_option o []) g) ∙ one_more (given h) x in
        let now : next_given base.next (h ++ e ∷ []) ≡ next_id (next_given base.next h) = ap (nth_id base.next) long in
        let past = next_to_stop x (oldest_id base.oldest h) below in
        let past_next : next_id (next_given base.next h) ≤ stop_limit (oldest_id base.oldest h) = subst (λ z. next_id z ≤ stop_limit (oldest_id base.oldest h)) is_next past in
        subst (λ (z : ℕ × ℕ). z.0 ≤ stop_limit z.1) (λ j. (sym now j, sym (oldest_push base.oldest h e ∙ announced_same (oldest_id base.oldest h) e x g) j)) past_next
      where
        one_more : (xs : List ℕ) (x : ℕ) → length (xs ++ x ∷ []) ≡ suc (length xs)
        one_more [] x = refl
        one_more (y ∷ xs) x = ap suc (one_more xs x)

-- the oldest id is the one with which the life began, or one that it announced
abbrev pub IsFound : ℕ → List Event → Type 0
IsFound first h = (oldest_id first h ≡ first) ⊎ ((by : By) × Contains h (events.Oldest by (oldest_id first h)))

pub found_announced : (first : ℕ) (h : List Event) → IsFound first h
found_announced first = by_end (IsFound first) (inl refl) (λ h e before. step h e before)
  where
    older : (h : List Event) (e : Event) → oldest_id first (h ++ e ∷ []) ≡ oldest_id first h → IsFound first h → IsFound first (h ++ e ∷ [])
    older h e same before = ⊎_elim
        (λ (q : oldest_id first h ≡ first). inl (same ∙ q))
        (λ (z : (by : By) × Contains h (events.Oldest by (oldest_id first h))).
        inr (z.0, subst (λ (o : ℕ). Contains (h ++ e ∷ []) (events.Oldest z.0 o)) (sym same) (Contains-append_left h (e ∷ []) (events.Oldest z.0 (oldest_id first h)) z.1)))
        before

    step : (h : List Event) (e : Event) → IsFound first h → IsFound first (h ++ e ∷ [])
    step h (events.Oldest by new) before =
        inr (by, subst (λ (o : ℕ). Contains (h ++ events.Oldest by new ∷ []) (events.Oldest by o)) (sym (oldest_push first h (events.Oldest by new))) (Contains-push h (events.Oldest by new)))
    step h e before = older h e (oldest_push first h e) before
