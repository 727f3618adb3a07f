-- Multixacts of a legal history lie one behind another, in the order of their numbers.
use Rattle.std.proofs.Common.{List, Some, Bool, true, false, [], cond, ap, arith, inl, inr, length, refl, subst, sym, ℕ, ⊎_elim, ◌++◌, ◌+◌, ◌==◌, ◌<◌, ◌∙◌, ◌∷◌, ◌≡◌, ◌≤◌, ◌⊎◌, map}
use Rattle.std.proofs.lemmas.Bool.{eqb-true}
use Rattle.std.proofs.lemmas.List.Sums.{fold_push}
use Rattle.tx_events.specs.Ids.{low_half}
use Rattle.tx_events.specs.declared.event.By.{By}
use Rattle.tx_events.specs.declared.multi.Member.{Member}
use Rattle.tx_events.specs.declared.multi.MultiEvent.{MultiEvent}
use Rattle.tx_events.specs.declared.multi.MultiEvent.TheVariants as multis
use Rattle.tx_events.specs.declared.record.Counters.{Counters}
use Rattle.tx_events.proofs.Extremes.{fold_min_start}
use Rattle.tx_events.proofs.ListSteps.{le_or_over}
use Rattle.tx_events.proofs.Membership.{Has, by_end, has_cases}
use Rattle.tx_events.proofs.PlaceLemmas.{each_place_last, each_place_start}
use Rattle.tx_events.specs.Base.{IsBase}
use Rattle.tx_events.specs.Multis.{AreLegalMultis, InBase, IsNextMade, IsRaised, MultiMayCome, Pin, first_member, free_after, free_offset, made_at, next_made, oldest_offset, oldest_offset_after, pin_limit, pins}
use Rattle.tx_core.proofs.MultiGiven.{gen_below}

pub record Ordered (base : Counters) (h : List MultiEvent) : Type 0 where
  pub from : base.offset ≤ free_offset base.offset h
  pub oldest : base.oldest_offset ≤ oldest_offset base.oldest_offset h
  pub given : (by : By) (multi offset : ℕ) (members : List Member) → Has h (multis.Gen by multi offset members)
      → (base.offset ≤ offset) × (offset + length members ≤ free_offset base.offset h) × (1 ≤ low_half offset)
  -- two are one, or lie apart
  pub apart : (a b : By) (m n x y : ℕ) (ms ns : List Member) → Has h (multis.Gen a m x ms) → Has h (multis.Gen b n y ns)
      → ((m < n) × (x + length ms ≤ y)) ⊎ (((n < m) × (y + length ns ≤ x)) ⊎ ((m ≡ n) × (x ≡ y) × (ms ≡ ns)))
  pub raised : (by : By) (m x : ℕ) → Has h (multis.Raise by m x) → (base.oldest_offset ≤ x) × (x ≤ free_offset base.offset h)
  -- those from an announced one on lie from its offset on
  pub past : (a b : By) (m n x y : ℕ) (ns : List Member) → Has h (multis.Raise a m x) → Has h (multis.Gen b n y ns) → m ≤ n → x ≤ y

-- what the last event has to be
record Joins (base : Counters) (h : List MultiEvent) (e : MultiEvent) (free : ℕ) : Type 0 where
  rises : free_offset base.offset h ≤ free
  given : (by : By) (multi offset : ℕ) (members : List Member) → e ≡ multis.Gen by multi offset members
      → (free_offset base.offset h ≤ offset) × (offset + length members ≤ free) × (1 ≤ low_half offset) × (multi ≡ next_made base.multi h)
  raised : (by : By) (m x : ℕ) → e ≡ multis.Raise by m x → (base.oldest_offset ≤ x) × (x ≤ free)
  past : (a b : By) (m n x y : ℕ) (ns : List Member) → e ≡ multis.Raise a m x → Has h (multis.Gen b n y ns) → m ≤ n → x ≤ y

pub last_cases : (h : List MultiEvent) (e f : MultiEvent) → Has (h ++ e ∷ []) f → Has h f ⊎ (e ≡ f)
last_cases h e f k = ⊎_elim inl (λ t. ⊎_elim inr (λ z. absurd z) t) (has_cases h (e ∷ []) f k)

abbrev pub multi_in : MultiEvent → ℕ
multi_in (multis.Gen by multi offset members) = multi
multi_in _ = 0

abbrev pub offset_in : MultiEvent → ℕ
offset_in (multis.Gen by multi offset members) = offset
offset_in _ = 0

abbrev pub members_in : MultiEvent → List Member
members_in (multis.Gen by multi offset members) = members
members_in _ = []

joined : (base : Counters) (h : List MultiEvent) (e : MultiEvent) (free : ℕ) → AreLegalMultis base (InBase base) h → Ordered base h → free_offset base.offset (h ++ e ∷ []) ≡ free
    → base.oldest_offset ≤ oldest_offset base.oldest_offset (h ++ e ∷ []) → Joins base h e free → Ordered base (h ++ e ∷ [])
joined base h e free legal o same oldest j =
    let all : List MultiEvent = h ++ e ∷ [] in
    let low = o.from in let up = j.rises in
    record {
      from = omega arith;
      oldest = oldest;
      given = λ by multi offset members k. ⊎_elim
          (λ old. let g = o.given by multi offset members old in let b = g.1 in (g.0, omega arith, g.2))
          (λ new. let g = j.given by multi offset members new in let a = g.0 in let b = g.1 in (omega arith, omega arith, g.2))
          (last_cases h e (multis.Gen by multi offset members) k);
      apart = λ a b m n x y ms ns k l. ⊎_elim
          (λ old. ⊎_elim
          (λ older. o.apart a b m n x y ms ns old older)
          (λ new. let g = j.given b n y ns new in let f = o.given a m x ms old in let low = gen_below base a m x ms h legal old in let p = g.0 in let q = f.1 in let r = g.3 in inl (omega arith, omega arith))
          (last_cases h e (multis.Gen b n y ns) l))
          (λ new. ⊎_elim
          (λ older. let g = j.given a m x ms new in let f = o.given b n y ns older in let low = gen_below base b n y ns h legal older in let p = g.0 in let q = f.1 in let r = g.3 in inr (inl (omega arith, omega arith)))
          (λ newer. let z : multis.Gen a m x ms ≡ multis.Gen b n y ns = sym new ∙ newer in inr (inr (ap multi_in z, ap offset_in z, ap members_in z)))
          (last_cases h e (multis.Gen b n y ns) l))
          (last_cases h e (multis.Gen a m x ms) k);
      raised = λ by m x k. ⊎_elim
          (λ old. let r = o.raised by m x old in let b = r.1 in (r.0, omega arith))
          (λ new. let r = j.raised by m x new in let b = r.1 in (r.0, omega arith))
          (last_cases h e (multis.Raise by m x) k);
      past = λ a b m n x y ns k l le. ⊎_elim
          (λ old. ⊎_elim
          (λ older. o.past a b m n x y ns old older le)
          (λ new. let r = o.raised a m x old in let g = j.given b n y ns new in let p = r.1 in let q = g.0 in omega arith)
          (last_cases h e (multis.Gen b n y ns) l))
          (λ new. ⊎_elim
          (λ older. j.past a b m n x y ns new older le)
          (λ newer. let z : multis.Raise a m x ≡ multis.Gen b n y ns = sym new ∙ newer in absurd cc)
          (last_cases h e (multis.Gen b n y ns) l))
          (last_cases h e (multis.Raise a m x) k);
    }

-- an offset that is told of a multixact of the life is that of its event
pub made_at_has : (multi x : ℕ) (h : List MultiEvent) → made_at multi h ≡ Some x → (by : By) × (members : List Member) × Has h (multis.Gen by multi x members)
made_at_has multi x [] e = absurd cc
made_at_has multi x (multis.Gen by n offset members ∷ h) e =
    let event : MultiEvent = multis.Gen by n offset members in
    let step : (b : Bool) → (n == multi) ≡ b → cond b (Some offset) (made_at multi h) ≡ Some x → (b : By) × (ms : List Member) × ((event ≡ multis.Gen b multi x ms) ⊎ Has h (multis.Gen b multi x ms)) = elim [
      | true ↦ λ q g. let m : n ≡ multi = eqb-true n multi q in let z : offset ≡ x = cc in (by, members, inl (λ i. multis.Gen by (m i) (z i) members))
      | false ↦ λ q g. let r = made_at_has multi x h g in (r.0, r.1, inr r.2)
    ] in
    step (n == multi) refl e
made_at_has multi x (multis.Hold by m ∷ h) e = let r = made_at_has multi x h e in (r.0, r.1, inr r.2)
made_at_has multi x (multis.Unhold by m ∷ h) e = let r = made_at_has multi x h e in (r.0, r.1, inr r.2)
made_at_has multi x (multis.Raise by m o ∷ h) e = let r = made_at_has multi x h e in (r.0, r.1, inr r.2)

first_of : (free : ℕ) → (free ≤ first_member free) × (first_member free ≤ free + 1) × (1 ≤ low_half (first_member free))
first_of free = grind arith

pub raise_from : (base : Counters) (h : List MultiEvent) (m x : ℕ) → IsBase base → AreLegalMultis base (InBase base) h → Ordered base h → IsRaised base (InBase base) h m x
    → (base.oldest_offset ≤ x) × (x ≤ free_offset base.offset h) × ((b : By) (n y : ℕ) (ns : List Member) → Has h (multis.Gen b n y ns) → m ≤ n → x ≤ y)
raise_from base h m x is legal o r =
    let low = o.from in let oldest = o.oldest in let below = is.oldest_offset in
    ⊎_elim
    (λ (from : base.multi ≤ m).
    ⊎_elim
    (λ (past : next_made base.multi h ≤ m).
    let limit : pin_limit base.multi h ≤ next_made base.multi h = fold_min_start (next_made base.multi h) (map (λ (p : Pin). p.1) (pins h)) in
    let to : m ≤ pin_limit base.multi h = r.not_pinned in
    let same : m ≡ next_made base.multi h = omega arith in
    let at = r.begins.of_next same in
    (omega arith, omega arith, λ b n y ns k le. let under = gen_below base b n y ns h legal k in absurd (omega arith)))
    (λ (under : m < next_made base.multi h).
    let g = made_at_has m x h (r.begins.of_life from under) in
    let w = o.given g.0 m x g.1 g.2 in
    let w0 = w.0 in let w1 = w.1 in (
      omega arith,
      omega arith,
      λ b n y ns k le. ⊎_elim
          (λ (q : (m < n) × (x + length g.1 ≤ y)). let z = q.1 in omega arith)
          (λ q. ⊎_elim (λ (z : (n < m) × (y + length ns ≤ x)). let w = z.0 in absurd (omega arith)) (λ (z : (m ≡ n) × (x ≡ y) × (g.1 ≡ ns)). let w = z.1 in omega arith) q)
          (o.apart g.0 b m n x y g.1 ns g.2 k),
    ))
    (le_or_over (next_made base.multi h) m))
    (λ (old : m < base.multi).
    let z = r.begins.of_base old in let z0 = z.0 in let z1 = z.1 in
    (omega arith, omega arith, λ b n y ns k le. let w = o.given b n y ns k in let w0 = w.0 in omega arith))
    (le_or_over base.multi m)

-- an event that neither gives nor announces
quiet : (base : Counters) (h : List MultiEvent) (e : MultiEvent) → AreLegalMultis base (InBase base) h → Ordered base h
    → free_after (free_offset base.offset h) e ≡ free_offset base.offset h → oldest_offset_after (oldest_offset base.oldest_offset h) e ≡ oldest_offset base.oldest_offset h
    → ((by : By) (n y : ℕ) (ns : List Member) → e ≡ multis.Gen by n y ns → ⊥) → ((by : By) (m x : ℕ) → e ≡ multis.Raise by m x → ⊥) → Ordered base (h ++ e ∷ [])
quiet base h e legal o free_same oldest_same no_gen no_raise =
    joined base h e (free_offset base.offset h) legal o (fold_push free_after base.offset h e ∙ free_same)
    (subst (λ z. base.oldest_offset ≤ z) (sym (fold_push oldest_offset_after base.oldest_offset h e ∙ oldest_same)) o.oldest)
    (record {
      rises = omega arith;
      given = λ b n y ns q. absurd (no_gen b n y ns q);
      raised = λ b m x q. absurd (no_raise b m x q);
      past = λ a b m n x y ns q k le. absurd (no_raise a m x q);
    })

abbrev pub raised_at : MultiEvent → ℕ
raised_at (multis.Raise by multi offset) = offset
raised_at _ = 0

abbrev pub raised_to : MultiEvent → ℕ
raised_to (multis.Raise by multi offset) = multi
raised_to _ = 0

ordered_step : (base : Counters) (h : List MultiEvent) (e : MultiEvent) → IsBase base → AreLegalMultis base (InBase base) h → Ordered base h → MultiMayCome base (InBase base) h e → Ordered base (h ++ e ∷ [])
ordered_step base h (multis.Gen by multi offset members) is legal o rule =
    let next : IsNextMade base h multi offset members = rule in
    let f = first_of (free_offset base.offset h) in let f0 = f.0 in let f1 = f.1 in
    let at = next.first in let oldest = o.oldest in
    joined base h (multis.Gen by multi offset members) (offset + length members) legal o (fold_push free_after base.offset h (multis.Gen by multi offset members))
    (subst (λ z. base.oldest_offset ≤ z) (sym (fold_push oldest_offset_after base.oldest_offset h (multis.Gen by multi offset members))) oldest)
    (record {
      rises = omega arith;
      given = λ b n y ns q. let sn : multi ≡ n = ap multi_in q in let sy : offset ≡ y = ap offset_in q in let sm : members ≡ ns = ap members_in q in
          let long : length members ≡ length ns = ap (λ (t : List Member). length t) sm in let low = f.2 in let eq = next.next in
          (omega arith, omega arith, subst (λ z. 1 ≤ low_half z) (sym at ∙ sy) low, omega arith);
      raised = λ b m x q. absurd cc;
      past = λ a b m n x y ns q k le. absurd cc;
    })
ordered_step base h (multis.Raise by multi offset) is legal o rule =
    let r = raise_from base h multi offset is legal o rule in let r0 = r.0 in let r1 = r.1 in
    joined base h (multis.Raise by multi offset) (free_offset base.offset h) legal o (fold_push free_after base.offset h (multis.Raise by multi offset))
    (subst (λ z. base.oldest_offset ≤ z) (sym (fold_push oldest_offset_after base.oldest_offset h (multis.Raise by multi offset))) r0)
    (record {
      rises = omega arith;
      given = λ b n y ns q. absurd cc;
      raised = λ b m x q. let s : offset ≡ x = ap raised_at q in (omega arith, omega arith);
      past = λ a b m n x y ns q k le. let sm : multi ≡ m = ap raised_to q in let sx : offset ≡ x = ap raised_at q in let z = r.2 b n y ns k (omega arith) in omega arith;
    })
ordered_step base h (multis.Hold by multi) is legal o rule = quiet base h (multis.Hold by multi) legal o refl refl (λ b n y ns q. absurd cc) (λ b m x q. absurd cc)
ordered_step base h (multis.Unhold by multi) is legal o rule = quiet base h (multis.Unhold by multi) legal o refl refl (λ b n y ns q. absurd cc) (λ b m x q. absurd cc)

pub ordered : (base : Counters) → IsBase base → (h : List MultiEvent) → AreLegalMultis base (InBase base) h → Ordered base h
ordered base is = by_end (λ h. AreLegalMultis base (InBase base) h → Ordered base h)
    (λ legal. record {
      from = omega arith;
      oldest = omega arith;
      given = λ by multi offset members k. absurd k;
      apart = λ a b m n x y ms ns k l. absurd k;
      raised = λ by m x k. absurd k;
      past = λ a b m n x y ns k l le. absurd k;
    })
    (λ h e before legal.
    let front : AreLegalMultis base (InBase base) h = each_place_start (MultiMayCome base (InBase base)) h (e ∷ []) legal in
    ordered_step base h e is front (before front) (each_place_last (MultiMayCome base (InBase base)) h e legal))
