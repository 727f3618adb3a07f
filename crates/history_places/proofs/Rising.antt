-- The next id, the oldest id and the oldest xmin never fall.
use Rattle.std.proofs.Common.{◌≡◌, ℕ, ◌+◌, ◌-◌, ◌<◌, ◌≤◌, List, [], ◌∷◌, ◌++◌, length, take, drop, ap, sym, subst, ◌∙◌, arith, append_assoc, append-nil, take-append-drop}
use Rattle.tx_events.specs.declared.event.Event.{Event}
use Rattle.tx_events.specs.declared.event.Event.TheVariants as events
use Rattle.tx_events.specs.declared.record.Counters.{Counters}
use Rattle.tx_events.specs.Base.{IsBase}
use Rattle.tx_events.specs.History.{ComesInTurn, IsLegal, MayCome}
use Rattle.tx_events.specs.Horizon.{announced_after, oldest_id}
use Rattle.tx_events.specs.Limits.{LimitsRise}
use Rattle.tx_events.proofs.GivenIds.{legal_front, legal_last, next_rises}
use Rattle.tx_events.proofs.HorizonSteps.{oldest_push}
use Rattle.tx_events.proofs.Horizons.{xmin_at}
use Rattle.tx_events.proofs.Membership.{by_end}
use Rattle.tx_events.proofs.PlaceLemmas.{each_place_start}
use Rattle.proc_table.proofs.Bounds.{full_from}
use Rattle.place_columns.proofs.ColumnSteps.{parts}
use Rattle.history_places.specs.Told.{next_in, oldest_in, stop_in, xmin_in}

legal_start : (base : Counters) (xs ys : List Event) → IsLegal base (xs ++ ys) → IsLegal base xs
legal_start base xs ys l = record { rules = each_place_start (MayCome base) xs ys l.rules; turns = each_place_start ComesInTurn xs ys l.turns }

legal_take : (base : Counters) (h : List Event) (q : ℕ) → IsLegal base h → IsLegal base (take q h)
legal_take base h q l = legal_start base (take q h) (drop q h) (subst (IsLegal base) (sym (take-append-drop q h)) l)

-- what holds of one event more holds of more
by_steps : (base : Counters) (f : List Event → ℕ) → ((h : List Event) (e : Event) → IsLegal base (h ++ e ∷ []) → f h ≤ f (h ++ e ∷ [])) → (h es : List Event) → IsLegal base (h ++ es) → f h ≤ f (h ++ es)
by_steps base f step h es legal =
    by_end (λ (es : List Event). IsLegal base (h ++ es) → f h ≤ f (h ++ es))
    (λ l. subst (λ (t : List Event). f h ≤ f t) (sym (append-nil h)) (omega arith))
    (λ es e before l.
    let split : h ++ (es ++ e ∷ []) ≡ (h ++ es) ++ e ∷ [] = sym (append_assoc h es (e ∷ [])) in
    let m : IsLegal base ((h ++ es) ++ e ∷ []) = subst (IsLegal base) split l in
    let a = before (legal_front base (h ++ es) e m) in
    let s = step (h ++ es) e m in
    subst (λ (t : List Event). f h ≤ f t) (sym split) (omega arith))
    es legal

oldest_may : (base : Counters) (h : List Event) (e : Event) → MayCome base h e → oldest_id base.oldest h ≤ announced_after (oldest_id base.oldest h) e
oldest_may base h (events.Oldest by oldest) may = may.0
oldest_may base h _ may = omega arith

oldest_step : (base : Counters) (h : List Event) (e : Event) → IsLegal base (h ++ e ∷ []) → oldest_in base h ≤ oldest_in base (h ++ e ∷ [])
oldest_step base h e legal = subst (λ n. oldest_id base.oldest h ≤ n) (sym (oldest_push base.oldest h e)) (oldest_may base h e (legal_last base h e legal))

-- ---- from place to place

rises : (base : Counters) (f : List Event → ℕ) → ((h es : List Event) → IsLegal base (h ++ es) → f h ≤ f (h ++ es)) → (h : List Event) → IsLegal base h → (p q : ℕ) → p ≤ q → f (take p h) ≤ f (take q h)
rises base f grows h legal p q l =
    let split = parts p q h l in
    subst (λ (t : List Event). f (take p h) ≤ f t) (sym split) (grows (take p h) (take (q - p) (drop p h)) (subst (IsLegal base) split (legal_take base h q legal)))

pub nexts_rise : (base : Counters) (h : List Event) → IsLegal base h → (p q : ℕ) → p ≤ q → next_in base (take p h) ≤ next_in base (take q h)
nexts_rise base h legal = rises base (next_in base) (by_steps base (next_in base) (λ h e l. next_rises base h e)) h legal

pub oldests_rise : (base : Counters) (h : List Event) → IsLegal base h → (p q : ℕ) → p ≤ q → oldest_in base (take p h) ≤ oldest_in base (take q h)
oldests_rise base h legal = rises base (oldest_in base) (by_steps base (oldest_in base) (oldest_step base)) h legal

pub xmins_rise : (base : Counters) (h : List Event) → IsBase base → IsLegal base h → (p q : ℕ) → p ≤ q → xmin_in base (take p h) ≤ xmin_in base (take q h)
xmins_rise base h b legal = let from = full_from base.next b.full in rises base (xmin_in base) (λ h es l. xmin_at base h es l b.full (omega arith)) h legal

pub stops_rise : (base : Counters) (h : List Event) → ((a b : ℕ) → a ≤ b → LimitsRise a b) → IsLegal base h → (p q : ℕ) → p ≤ q → stop_in base (take p h) ≤ stop_in base (take q h)
stops_rise base h rise legal p q l = (rise (oldest_in base (take p h)) (oldest_in base (take q h)) (oldests_rise base h legal p q l)).stop
