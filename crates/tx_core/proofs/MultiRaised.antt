-- The announced oldest multixact and its offset never fall, and stay within what was given.
use Rattle.std.proofs.Common.{List, [], ap, arith, refl, ℕ, ⊎_elim, ◌++◌, ◌<◌, ◌∙◌, ◌∷◌, ◌≡◌, ◌≤◌, map}
use Rattle.std.proofs.lemmas.List.Sums.{fold_push}
use Rattle.tx_events.specs.declared.event.By.{By}
use Rattle.tx_events.specs.declared.multi.Member.{Member}
use Rattle.tx_events.specs.declared.multi.MultiEvent.{MultiEvent}
use Rattle.tx_events.specs.declared.multi.MultiEvent.TheVariants as multis
use Rattle.tx_events.specs.declared.record.Counters.{Counters}
use Rattle.tx_events.proofs.Extremes.{fold_min_start}
use Rattle.tx_events.proofs.ListSteps.{le_or_over}
use Rattle.tx_events.proofs.Membership.{Has, by_end}
use Rattle.tx_events.proofs.PlaceLemmas.{each_place_last, each_place_start}
use Rattle.tx_events.specs.Base.{IsBase}
use Rattle.tx_events.specs.Multis.{AreLegalMultis, InBase, IsRaised, MultiMayCome, Pin, first_member, free_after, free_offset, next_made, oldest_multi, oldest_multi_after, oldest_offset, oldest_offset_after, pin_limit, pins}
use Rattle.tx_core.proofs.MultiOrder.{Ordered, last_cases, made_at_has, offset_in, ordered, raise_from, raised_at, raised_to}

pub record LastRaised (base : Counters) (h : List MultiEvent) : Type 0 where
  pub under : oldest_offset base.oldest_offset h ≤ free_offset base.offset h
  -- members of those from the announced one on lie from its offset on
  pub past : (by : By) (n y : ℕ) (ns : List Member) → Has h (multis.Gen by n y ns) → oldest_multi base.oldest_multi h ≤ n → oldest_offset base.oldest_offset h ≤ y
  -- what was announced before is not past it
  pub upto : (by : By) (m x : ℕ) → Has h (multis.Raise by m x) → (m ≤ oldest_multi base.oldest_multi h) × (x ≤ oldest_offset base.oldest_offset h)

-- what the last event leaves announced
record Leaves (base : Counters) (h : List MultiEvent) (e : MultiEvent) : Type 0 where
  multi : ℕ
  multi_is : oldest_multi_after (oldest_multi base.oldest_multi h) e ≡ multi
  multi_up : oldest_multi base.oldest_multi h ≤ multi
  offset : ℕ
  offset_is : oldest_offset_after (oldest_offset base.oldest_offset h) e ≡ offset
  offset_up : oldest_offset base.oldest_offset h ≤ offset
  under : offset ≤ free_after (free_offset base.offset h) e
  past : (by : By) (n y : ℕ) (ns : List Member) → Has h (multis.Gen by n y ns) → multi ≤ n → offset ≤ y
  given : (by : By) (n y : ℕ) (ns : List Member) → e ≡ multis.Gen by n y ns → offset ≤ y
  upto : (by : By) (m x : ℕ) → e ≡ multis.Raise by m x → (m ≤ multi) × (x ≤ offset)

pushed : (base : Counters) (h : List MultiEvent) (e : MultiEvent) → LastRaised base h → Leaves base h e → LastRaised base (h ++ e ∷ [])
pushed base h e before l =
    let all : List MultiEvent = h ++ e ∷ [] in
    let multi : oldest_multi base.oldest_multi all ≡ l.multi = fold_push oldest_multi_after base.oldest_multi h e ∙ l.multi_is in
    let offset : oldest_offset base.oldest_offset all ≡ l.offset = fold_push oldest_offset_after base.oldest_offset h e ∙ l.offset_is in
    let free : free_offset base.offset all ≡ free_after (free_offset base.offset h) e = fold_push free_after base.offset h e in
    let under = l.under in let multi_up = l.multi_up in let offset_up = l.offset_up in
    record {
      under = omega arith;
      past = λ by n y ns k le. ⊎_elim
          (λ old. let a = l.past by n y ns old (omega arith) in omega arith)
          (λ new. let a = l.given by n y ns new in omega arith)
          (last_cases h e (multis.Gen by n y ns) k);
      upto = λ by m x k. ⊎_elim
          (λ old. let a = before.upto by m x old in let a0 = a.0 in let a1 = a.1 in (omega arith, omega arith))
          (λ new. let a = l.upto by m x new in let a0 = a.0 in let a1 = a.1 in (omega arith, omega arith))
          (last_cases h e (multis.Raise by m x) k);
    }

pub first_past : (free : ℕ) → free ≤ first_member free
first_past free = grind arith

-- a raise leaves the announced offset no lower
raise_up : (base : Counters) (h : List MultiEvent) (m x : ℕ) → LastRaised base h → Ordered base h → IsRaised base (InBase base) h m x → m ≤ next_made base.multi h → oldest_offset base.oldest_offset h ≤ x
raise_up base h m x before o r upto =
    ⊎_elim
    (λ (from : base.multi ≤ m).
    ⊎_elim
    (λ (past : next_made base.multi h ≤ m). let at = r.begins.of_next (omega arith) in let under = before.under in omega arith)
    (λ (inside : m < next_made base.multi h). let g = made_at_has m x h (r.begins.of_life from inside) in before.past g.0 m x g.1 g.2 r.not_back)
    (le_or_over (next_made base.multi h) m))
    (λ (old : m < base.multi). (r.begins.of_base old).0)
    (le_or_over base.multi m)

pub raise_within : (base : Counters) (h : List MultiEvent) (m x : ℕ) → IsRaised base (InBase base) h m x → m ≤ next_made base.multi h
raise_within base h m x r =
    let limit : pin_limit base.multi h ≤ next_made base.multi h = fold_min_start (next_made base.multi h) (map (λ (p : Pin). p.1) (pins h)) in
    let to : m ≤ pin_limit base.multi h = r.not_pinned in omega arith

raised_step : (base : Counters) (h : List MultiEvent) (e : MultiEvent) → IsBase base → AreLegalMultis base (InBase base) h → LastRaised base h → MultiMayCome base (InBase base) h e → Leaves base h e
raised_step base h (multis.Gen by multi offset members) is legal before rule =
    let at : offset ≡ first_member (free_offset base.offset h) = rule.first in
    let up = first_past (free_offset base.offset h) in
    let under = before.under in
    record {
      multi = oldest_multi base.oldest_multi h;
      multi_is = refl;
      multi_up = omega arith;
      offset = oldest_offset base.oldest_offset h;
      offset_is = refl;
      offset_up = omega arith;
      under = omega arith;
      past = before.past;
      given = λ b n y ns q. let same : offset ≡ y = ap offset_in q in omega arith;
      upto = λ b m x q. absurd cc;
    }
raised_step base h (multis.Raise by multi offset) is legal before rule =
    let o = ordered base is h legal in
    let r = raise_from base h multi offset is legal o rule in
    let r1 = r.1 in
    record {
      multi = multi;
      multi_is = refl;
      multi_up = rule.not_back;
      offset = offset;
      offset_is = refl;
      offset_up = raise_up base h multi offset before o rule (raise_within base h multi offset rule);
      under = omega arith;
      past = r.2;
      given = λ b n y ns q. absurd cc;
      upto = λ b m x q. let same : multi ≡ m = ap raised_to q in let at : offset ≡ x = ap raised_at q in (omega arith, omega arith);
    }
raised_step base h (multis.Hold by multi) is legal before rule = record {
  multi = oldest_multi base.oldest_multi h;
  multi_is = refl;
  multi_up = omega arith;
  offset = oldest_offset base.oldest_offset h;
  offset_is = refl;
  offset_up = omega arith;
  under = before.under;
  past = before.past;
  given = λ b n y ns q. absurd cc;
  upto = λ b m x q. absurd cc;
}
raised_step base h (multis.Unhold by multi) is legal before rule = record {
  multi = oldest_multi base.oldest_multi h;
  multi_is = refl;
  multi_up = omega arith;
  offset = oldest_offset base.oldest_offset h;
  offset_is = refl;
  offset_up = omega arith;
  under = before.under;
  past = before.past;
  given = λ b n y ns q. absurd cc;
  upto = λ b m x q. absurd cc;
}

pub last_raised : (base : Counters) → IsBase base → (h : List MultiEvent) → AreLegalMultis base (InBase base) h → LastRaised base h
last_raised base is = by_end (λ h. AreLegalMultis base (InBase base) h → LastRaised base h)
    (λ legal. record { under = is.oldest_offset; past = λ by n y ns k le. absurd k; upto = λ by m x k. absurd k })
    (λ h e before legal.
    let front : AreLegalMultis base (InBase base) h = each_place_start (MultiMayCome base (InBase base)) h (e ∷ []) legal in
    pushed base h e (before front) (raised_step base h e is front (before front) (each_place_last (MultiMayCome base (InBase base)) h e legal)))
