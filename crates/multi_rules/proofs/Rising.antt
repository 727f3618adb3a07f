-- The xmax of snapshots never falls along a history.
use Rattle.std.proofs.Common.{◌≡◌, ℕ, ◌-◌, ◌≤◌, List, [], ◌∷◌, ◌++◌, length, take, drop, not, ap, sym, subst, arith, append_assoc, append-nil, true, false, ⊎_elim}
use Rattle.std.proofs.lemmas.Bool.{cases_Bool}
use Rattle.std.proofs.lemmas.Option.{slice_get_within}
use Rattle.tx_events.specs.declared.event.By.{By}
use Rattle.tx_events.specs.declared.event.Event.{Event}
use Rattle.tx_events.specs.declared.event.Event.TheVariants as events
use Rattle.tx_events.specs.declared.record.Counters.{Counters}
use Rattle.tx_events.specs.Events.{given}
use Rattle.tx_events.specs.History.{IsLegal}
use Rattle.tx_events.specs.Ids.{id_before}
use Rattle.tx_events.specs.Running.{closed, is_open}
use Rattle.tx_events.specs.Snapshots.{latest, snapshot_xmax}
use Rattle.tx_events.proofs.Closing.{open_back}
use Rattle.tx_events.proofs.Extremes.{fold_max_has, fold_max_start, fold_max_upto}
use Rattle.tx_events.proofs.GivenIds.{given_stays, legal_front, legal_take}
use Rattle.tx_events.proofs.IdOrder.{next_monotone}
use Rattle.tx_events.proofs.ListSteps.{not_both}
use Rattle.tx_events.proofs.Membership.{by_end, filter_has, has_filter}
use Rattle.place_columns.proofs.ColumnSteps.{parts}
use Rattle.multi_rules.specs.declared.taken.Taken.{Taken}
use Rattle.multi_rules.specs.Snapped.{AreInHistory, AreTaken, NeverFall}

latest_step : (base : Counters) (h : List Event) (e : Event) → IsLegal base (h ++ e ∷ []) → latest base.next h ≤ latest base.next (h ++ e ∷ [])
latest_step base h e legal =
    let all = h ++ e ∷ [] in
    fold_max_upto (id_before base.next) (latest base.next all) (closed h) (fold_max_start (id_before base.next) (closed all))
    (λ x k.
    let c = has_filter (λ y. not (is_open h y)) (given h) x k in
    let shut : is_open all x ≡ false = ⊎_elim (λ (o : is_open all x ≡ true). absurd (not_both (not (is_open h x)) c.1 (ap not (open_back base h e x legal c.0 o)))) (λ f. f) (cases_Bool (is_open all x)) in
    fold_max_has (id_before base.next) (closed all) x (filter_has (λ y. not (is_open all y)) (given all) x (given_stays h e x c.0) (ap not shut)))

xmax_step : (base : Counters) (h : List Event) (e : Event) → IsLegal base (h ++ e ∷ []) → snapshot_xmax base.next h ≤ snapshot_xmax base.next (h ++ e ∷ [])
xmax_step base h e legal = next_monotone (latest base.next h) (latest base.next (h ++ e ∷ [])) (latest_step base h e legal)

xmax_more : (base : Counters) (h es : List Event) → IsLegal base (h ++ es) → snapshot_xmax base.next h ≤ snapshot_xmax base.next (h ++ es)
xmax_more base h es legal =
    by_end (λ (es : List Event). IsLegal base (h ++ es) → snapshot_xmax base.next h ≤ snapshot_xmax base.next (h ++ es))
    (λ l. subst (λ (t : List Event). snapshot_xmax base.next h ≤ snapshot_xmax base.next t) (sym (append-nil h)) (omega arith))
    (λ es e before l.
    let split : h ++ (es ++ e ∷ []) ≡ (h ++ es) ++ e ∷ [] = sym (append_assoc h es (e ∷ [])) in
    let m : IsLegal base ((h ++ es) ++ e ∷ []) = subst (IsLegal base) split l in
    let a = before (legal_front base (h ++ es) e m) in
    let s = xmax_step base (h ++ es) e m in
    subst (λ (t : List Event). snapshot_xmax base.next h ≤ snapshot_xmax base.next t) (sym split) (omega arith))
    es legal

pub xmaxes_rise : (base : Counters) (h : List Event) → IsLegal base h → (p q : ℕ) → p ≤ q → snapshot_xmax base.next (take p h) ≤ snapshot_xmax base.next (take q h)
xmaxes_rise base h legal p q l =
    let split = parts p q h l in
    subst (λ (t : List Event). snapshot_xmax base.next (take p h) ≤ snapshot_xmax base.next t) (sym split) (xmax_more base (take p h) (take (q - p) (drop p h)) (subst (IsLegal base) split (legal_take base h q legal)))

-- so those of a command's snapshots don't
pub never_fall : (base : Counters) (h : List Event) (by : By) (taken : List Taken) → IsLegal base h → AreTaken base.next h by taken → NeverFall taken
never_fall base h by taken legal a i j s t l e f =
    let x = (a.each i s e).1 in
    let y = (a.each j t f).1 in
    let r = xmaxes_rise base h legal s.place t.place (a.rising i j s t l e f) in
    omega arith

pub in_history : (first : ℕ) (h : List Event) (by : By) (taken : List Taken) → AreTaken first h by taken → AreInHistory (length h) taken
in_history first h by taken a = record {
  within = λ i t e.
      let s = (a.each i t e).0 in
      let l = slice_get_within h t.place (events.Snap s.0 by) s.1 in
      omega arith;
  rising = a.rising;
}
