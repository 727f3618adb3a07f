-- How far the multixact events are legal, by their longest legal front.
use Rattle.std.proofs.Common.{◌≡◌, ◌↔◌, ℕ, ◌+◌, ◌<◌, ◌≤◌, List, [], ◌∷◌, ◌++◌, Some, length, take, drop, get_or, refl, sym, ap, subst, ◌∙◌, arith, ⊎_elim}
use Rattle.std.specs.List.{slice_get}
use Rattle.std.proofs.lemmas.Bool.{cases_lt}
use Rattle.std.proofs.lemmas.List.{length-take, length-take-le}
use Rattle.std.proofs.lemmas.Option.{slice_get-get_or, slice_get_within}
use Rattle.tx_events.specs.declared.multi.MultiEvent.{MultiEvent}
use Rattle.tx_events.specs.declared.record.Counters.{Counters}
use Rattle.tx_events.specs.Multis.{AreLegalMultis, MultiMayCome}
use Rattle.tx_events.proofs.PlaceLemmas.{each_place_push}
use Rattle.history_places.specs.declared.start.Start.{Start}
use Rattle.history_places.specs.MultiTold.{MultiReplayed}
use Rattle.history_places.specs.Starts.{BeginsAs}
use Rattle.event_rules.specs.Fronts.{IsMultiFront}
use Rattle.event_rules.proofs.Fronting.{all_taken, got, one_got, one_more, taken}

module _ (base : Counters) (starts : List Start) (h : List MultiEvent) (r : MultiReplayed) (f : IsMultiFront base starts h r) (legal : AreLegalMultis r.base (BeginsAs r.starts) r.events) where
  abbrev May : List MultiEvent → MultiEvent → Type 0
  May es e = MultiMayCome base (BeginsAs starts) es e

  of_replay : (es : List MultiEvent) (e : MultiEvent) → MultiMayCome r.base (BeginsAs r.starts) es e → May es e
  of_replay es e m = subst (λ (b : Counters). MultiMayCome b (BeginsAs starts) es e) f.base_is (subst (λ (s : List Start). MultiMayCome r.base (BeginsAs s) es e) f.starts_are m)

  to_replay : (es : List MultiEvent) (e : MultiEvent) → May es e → MultiMayCome r.base (BeginsAs r.starts) es e
  to_replay es e m = subst (λ (b : Counters). MultiMayCome b (BeginsAs r.starts) es e) (sym f.base_is) (subst (λ (s : List Start). MultiMayCome base (BeginsAs s) es e) (sym f.starts_are) m)

  legal_front : AreLegalMultis base (BeginsAs starts) (take (length r.events) h)
  legal_front = subst (λ (es : List MultiEvent). AreLegalMultis base (BeginsAs starts) es) f.events_are (λ p e at. of_replay (take p r.events) e (legal p e at))

  longest : (to : ℕ) → to ≤ length h → AreLegalMultis base (BeginsAs starts) (take to h) → to ≤ length r.events
  longest to l whole =
      ⊎_elim
      (λ (past : length r.events < to).
      let n = length r.events in
      let within : n < length h = omega arith in
      let one = one_got h n within in
      let at : slice_get (take to h) n ≡ Some one.0 = got n to h past ∙ one.1 in
      let cut : take n (take to h) ≡ r.events = taken n to h (omega arith) ∙ sym f.events_are in
      absurd (f.ends one.0 one.1 (to_replay r.events one.0 (subst (λ (es : List MultiEvent). May es one.0) cut (whole n one.0 at)))))
      (λ (u : to ≤ length r.events). u)
      (cases_lt (length r.events) to)

  legal_start : (es : List MultiEvent) (p : ℕ) → AreLegalMultis base (BeginsAs starts) es → AreLegalMultis base (BeginsAs starts) (take p es)
  legal_start es p all q e at =
      let l : q < length (take p es) = slice_get_within (take p es) q e at in
      let size = length-take p es in
      let m : q < p = omega arith in
      subst (λ (t : List MultiEvent). May t e) (sym (taken q p es (omega arith))) (all q e (sym (got q p es m) ∙ at))

  pub multis_legal_to : (to : ℕ) → to ≤ length h → (to ≤ length r.events) ↔ AreLegalMultis base (BeginsAs starts) (take to h)
  multis_legal_to to l = (
    λ m. subst (λ (es : List MultiEvent). AreLegalMultis base (BeginsAs starts) es) (taken to (length r.events) h m) (legal_start (take (length r.events) h) to legal_front),
    λ whole. longest to l whole,
  )

  pub multi_comes_at : (p : ℕ) (e : MultiEvent) → AreLegalMultis base (BeginsAs starts) (take p h) → slice_get h p ≡ Some e → (p < length r.events) ↔ MultiMayCome base (BeginsAs starts) (take p h) e
  multi_comes_at p e before at =
      let within : p < length h = slice_get_within h p e at in (
        λ m.
            let cut : take p (take (length r.events) h) ≡ take p h = taken p (length r.events) h (omega arith) in
            let there : slice_get (take (length r.events) h) p ≡ Some e = got p (length r.events) h m ∙ at in
            subst (λ (es : List MultiEvent). May es e) cut (legal_front p e there),
        λ may.
            let more : AreLegalMultis base (BeginsAs starts) (take p h ++ e ∷ []) = each_place_push (MultiMayCome base (BeginsAs starts)) (take p h) e before may in
            let whole : AreLegalMultis base (BeginsAs starts) (take (p + 1) h) = subst (λ (es : List MultiEvent). AreLegalMultis base (BeginsAs starts) es) (sym (one_more p h e at)) more in
            let m : p + 1 ≤ length r.events = longest (p + 1) (omega arith) whole in omega arith,
      )

-- ---- a loop over the events

pub multi_front_here : (base : Counters) (starts : List Start) (h : List MultiEvent) (r : MultiReplayed) (n : ℕ) (e : MultiEvent) → r.base ≡ base → r.starts ≡ starts → n < length h → r.events ≡ take n h → e ≡ get_or h n e
    → (MultiMayCome r.base (BeginsAs r.starts) r.events e → ⊥) → IsMultiFront base starts h r
multi_front_here base starts h r n e base_is starts_are l so is never =
    let size : length r.events ≡ n = ap length so ∙ length-take-le n h (omega arith) in
    record {
      base_is = base_is;
      starts_are = starts_are;
      within = omega arith;
      events_are = so ∙ ap (λ k. take k h) (sym size);
      ends = λ x at lawful.
          let here : slice_get h n ≡ Some e = slice_get-get_or h n e l ∙ ap (λ (y : MultiEvent). Some y) (sym is) in
          let there : slice_get h n ≡ Some x = ap (λ k. slice_get h k) (sym size) ∙ at in
          let same : x ≡ e = cc in never (subst (λ (y : MultiEvent). MultiMayCome r.base (BeginsAs r.starts) r.events y) same lawful);
    }

pub multi_front_whole : (base : Counters) (starts : List Start) (h : List MultiEvent) (r : MultiReplayed) (n : ℕ) → r.base ≡ base → r.starts ≡ starts → length h ≤ n → r.events ≡ take n h → IsMultiFront base starts h r
multi_front_whole base starts h r n base_is starts_are l so =
    let all : r.events ≡ h = so ∙ all_taken n h l in
    let size : length r.events ≡ length h = ap length all in
    record {
      base_is = base_is;
      starts_are = starts_are;
      within = omega arith;
      events_are = all ∙ sym (all_taken (length r.events) h (omega arith));
      ends = λ x at lawful. let m = slice_get_within h (length r.events) x at in absurd (omega arith);
    }
