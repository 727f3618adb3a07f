-- Multixacts of a legal history lie right behind each other, the last up to the next free offset.
use Rattle.std.proofs.Common.{List, [], ap, arith, length, length-append, append_assoc, refl, subst, suc, sym, ℕ, ⊎_elim, ◌++◌, ◌+◌, ◌<◌, ◌∙◌, ◌∷◌, ◌≡◌, ◌≤◌}
use Rattle.std.proofs.lemmas.List.{append-nil}
use Rattle.std.proofs.lemmas.List.Elements.{filter_map-append}
use Rattle.std.proofs.lemmas.List.Sums.{fold_push}
use Rattle.tx_events.specs.Ids.{IsFullMulti, low_half, next_multi}
use Rattle.tx_events.specs.declared.event.By.{By}
use Rattle.tx_events.specs.declared.multi.Member.{Member}
use Rattle.tx_events.specs.declared.multi.MultiEvent.{MultiEvent}
use Rattle.tx_events.specs.declared.multi.MultiEvent.TheVariants as multis
use Rattle.tx_events.specs.declared.record.Counters.{Counters}
use Rattle.tx_events.proofs.Membership.{Has, by_end, has_cases}
use Rattle.tx_events.proofs.PlaceLemmas.{by_place, each_place_last, each_place_start}
use Rattle.tx_events.specs.Multis.{AreLegalMultis, InBase, IsNextMade, MultiMayCome, first_member, free_after, free_offset, made, made_by, next_made, nth_multi}
use Rattle.tx_core.proofs.Rising.{made_more, multi_above}
use Rattle.tx_core.proofs.MultiOrder.{last_cases, members_in, multi_in, offset_in}

next_full : (n : ℕ) → IsFullMulti (next_multi n)
next_full n = grind arith

-- members begin at no offset of low half 0
first_stored : (free : ℕ) → 1 ≤ low_half (first_member free)
first_stored free = grind arith

-- a full multixact above another isn't before its next one, and has a later next one
pub next_upto : (m n : ℕ) → m < n → IsFullMulti n → next_multi m ≤ n
next_upto m n lt full = grind arith

pub next_later : (m n : ℕ) → m < n → IsFullMulti n → next_multi m < next_multi n
next_later m n lt full = let a = next_upto m n lt full in let b = multi_above n in omega arith

pub record Chained (base : Counters) (h : List MultiEvent) : Type 0 where
  pub full : IsFullMulti (next_made base.multi h)
  pub none : next_made base.multi h ≡ base.multi → free_offset base.offset h ≡ base.offset
  pub given : (by : By) (m x : ℕ) (ms : List Member) → Has h (multis.Gen by m x ms) → IsFullMulti m × (base.multi ≤ m) × (m < next_made base.multi h)
  pub first : (by : By) (m x : ℕ) (ms : List Member) → Has h (multis.Gen by m x ms) → m ≡ base.multi → x ≡ first_member base.offset
  pub stored : (by : By) (m x : ℕ) (ms : List Member) → Has h (multis.Gen by m x ms) → 1 ≤ low_half x
  pub last : (by : By) (m x : ℕ) (ms : List Member) → Has h (multis.Gen by m x ms) → next_multi m ≡ next_made base.multi h → x + length ms ≡ free_offset base.offset h
  pub behind : (a b : By) (m n x y : ℕ) (ms ns : List Member) → Has h (multis.Gen a m x ms) → Has h (multis.Gen b n y ns) → n ≡ next_multi m → y ≡ first_member (x + length ms)

-- an event that gives none
same_chain : (base : Counters) (h : List MultiEvent) (e : MultiEvent) → Chained base h → free_after (free_offset base.offset h) e ≡ free_offset base.offset h → made (h ++ e ∷ []) ≡ made h ++ []
    → ((by : By) (m x : ℕ) (ms : List Member) → e ≡ multis.Gen by m x ms → ⊥) → Chained base (h ++ e ∷ [])
same_chain base h e c same none no_gen =
    let next : next_made base.multi (h ++ e ∷ []) ≡ next_made base.multi h = ap (λ (t : List ℕ). nth_multi base.multi (length t)) (none ∙ append-nil (made h)) in
    let free : free_offset base.offset (h ++ e ∷ []) ≡ free_offset base.offset h = fold_push free_after base.offset h e ∙ same in
    let old : (by : By) (m x : ℕ) (ms : List Member) → Has (h ++ e ∷ []) (multis.Gen by m x ms) → Has h (multis.Gen by m x ms)
    = λ by m x ms k. ⊎_elim (λ o. o) (λ q. absurd (no_gen by m x ms q)) (last_cases h e (multis.Gen by m x ms) k) in
    record {
      full = subst IsFullMulti (sym next) c.full;
      none = λ q. free ∙ c.none (sym next ∙ q);
      given = λ by m x ms k. let g = c.given by m x ms (old by m x ms k) in let g2 = g.2 in (g.0, g.1, omega arith);
      first = λ by m x ms k q. c.first by m x ms (old by m x ms k) q;
      stored = λ by m x ms k. c.stored by m x ms (old by m x ms k);
      last = λ by m x ms k q. c.last by m x ms (old by m x ms k) (q ∙ next) ∙ sym free;
      behind = λ a b m n x y ms ns k l q. c.behind a b m n x y ms ns (old a m x ms k) (old b n y ns l) q;
    }

chain_step : (base : Counters) (h : List MultiEvent) (e : MultiEvent) → Chained base h → MultiMayCome base (InBase base) h e → Chained base (h ++ e ∷ [])
chain_step base h (multis.Gen by multi offset members) c rule =
    let e : MultiEvent = multis.Gen by multi offset members in
    let is : IsNextMade base h multi offset members = rule in
    let more : length (made (h ++ multis.Gen by multi offset members ∷ [])) ≡ suc (length (made h))
    = ap (λ (t : List ℕ). length t) (filter_map-append made_by h (multis.Gen by multi offset members ∷ [])) ∙ length-append (made h) (multi ∷ []) ∙ (let z : length (made h) + 1 ≡ suc (length (made h)) = omega arith in z) in
    let next : next_made base.multi (h ++ multis.Gen by multi offset members ∷ []) ≡ next_multi (next_made base.multi h) = ap (λ n. nth_multi base.multi n) more in
    let free : free_offset base.offset (h ++ multis.Gen by multi offset members ∷ []) ≡ offset + length members = fold_push free_after base.offset h (multis.Gen by multi offset members) in
    let up = multi_above (next_made base.multi h) in
    let from : base.multi ≤ next_made base.multi h = made_more base.multi [] h (h, refl) in
    let at = is.next in let full = c.full in
    record {
      full = subst IsFullMulti (sym next) (next_full (next_made base.multi h));
      none = λ q. absurd (omega arith);
      given = λ b m x ms k. ⊎_elim
          (λ old. let g = c.given b m x ms old in let g2 = g.2 in (g.0, g.1, omega arith))
          (λ new. let z : multi ≡ m = ap multi_in new in (subst IsFullMulti (sym at ∙ z) full, omega arith, omega arith))
          (last_cases h e (multis.Gen b m x ms) k);
      first = λ b m x ms k q. ⊎_elim
          (λ old. c.first b m x ms old q)
          (λ new. let z : multi ≡ m = ap multi_in new in
          sym (ap offset_in new) ∙ is.first ∙ ap first_member (c.none (sym at ∙ z ∙ q)))
          (last_cases h e (multis.Gen b m x ms) k);
      stored = λ b m x ms k. ⊎_elim
          (λ old. c.stored b m x ms old)
          (λ new. subst (λ (t : ℕ). 1 ≤ low_half t) (sym is.first ∙ ap offset_in new) (first_stored (free_offset base.offset h)))
          (last_cases h e (multis.Gen b m x ms) k);
      last = λ b m x ms k q. ⊎_elim
          (λ old. let g = c.given b m x ms old in let rise = next_later m (next_made base.multi h) g.2 full in absurd (omega arith))
          (λ new. let y : offset ≡ x = ap offset_in new in let z : length members ≡ length ms = ap (λ (t : MultiEvent). length (members_in t)) new in omega arith)
          (last_cases h e (multis.Gen b m x ms) k);
      behind = λ a b m n x y ms ns k l q. ⊎_elim
          (λ old. ⊎_elim
          (λ older. c.behind a b m n x y ms ns old older q)
          (λ new. let z : multi ≡ n = ap multi_in new in
          sym (ap offset_in new) ∙ is.first ∙ ap first_member (sym (c.last a m x ms old (sym q ∙ sym z ∙ at))))
          (last_cases h e (multis.Gen b n y ns) l))
          (λ new. let z : multi ≡ m = ap multi_in new in let above = multi_above m in ⊎_elim
          (λ older. let g = c.given b n y ns older in let g2 = g.2 in absurd (omega arith))
          (λ newer. let w : multi ≡ n = ap multi_in newer in absurd (omega arith))
          (last_cases h e (multis.Gen b n y ns) l))
          (last_cases h e (multis.Gen a m x ms) k);
    }
chain_step base h (multis.Raise by multi offset) c rule = same_chain base h (multis.Raise by multi offset) c refl (filter_map-append made_by h (multis.Raise by multi offset ∷ [])) (λ b m x ms q. absurd cc)
chain_step base h (multis.Hold by multi) c rule = same_chain base h (multis.Hold by multi) c refl (filter_map-append made_by h (multis.Hold by multi ∷ [])) (λ b m x ms q. absurd cc)
chain_step base h (multis.Unhold by multi) c rule = same_chain base h (multis.Unhold by multi) c refl (filter_map-append made_by h (multis.Unhold by multi ∷ [])) (λ b m x ms q. absurd cc)

pub chained : (base : Counters) → IsFullMulti base.multi → (h : List MultiEvent) → AreLegalMultis base (InBase base) h → Chained base h
chained base full = by_place (MultiMayCome base (InBase base)) (Chained base)
    (record {
      full = full;
      none = λ q. refl;
      given = λ by m x ms k. absurd k;
      first = λ by m x ms k q. absurd k;
      stored = λ by m x ms k. absurd k;
      last = λ by m x ms k q. absurd k;
      behind = λ a b m n x y ms ns k l q. absurd k;
    })
    (λ h e c rule. chain_step base h e c rule)

-- the free offset is only raised, and each multixact begins at it or past it
record Rises (base : Counters) (h rest : List MultiEvent) : Type 0 where
  free : free_offset base.offset h ≤ free_offset base.offset (h ++ rest)
  given : (by : By) (m x : ℕ) (ms : List Member) → Has rest (multis.Gen by m x ms) → free_offset base.offset h ≤ x

first_from : (free : ℕ) → free ≤ first_member free
first_from free = grind arith

rises_by : (base : Counters) (h : List MultiEvent) (e : MultiEvent) → MultiMayCome base (InBase base) h e
    → (free_offset base.offset h ≤ free_after (free_offset base.offset h) e) × ((by : By) (m x : ℕ) (ms : List Member) → e ≡ multis.Gen by m x ms → free_offset base.offset h ≤ x)
rises_by base h (multis.Gen by multi offset members) rule =
    let is : IsNextMade base h multi offset members = rule in
    let at = is.first in let up = first_from (free_offset base.offset h) in
    (omega arith, λ b m x ms q. let z : offset ≡ x = ap offset_in q in omega arith)
rises_by base h (multis.Raise by multi offset) rule = (omega arith, λ b m x ms q. absurd cc)
rises_by base h (multis.Hold by multi) rule = (omega arith, λ b m x ms q. absurd cc)
rises_by base h (multis.Unhold by multi) rule = (omega arith, λ b m x ms q. absurd cc)

rises : (base : Counters) (h rest : List MultiEvent) → AreLegalMultis base (InBase base) (h ++ rest) → Rises base h rest
rises base h = by_end (λ rest. AreLegalMultis base (InBase base) (h ++ rest) → Rises base h rest)
    (λ legal. record {
      free = subst (λ (t : List MultiEvent). free_offset base.offset h ≤ free_offset base.offset t) (sym (append-nil h)) (omega arith);
      given = λ by m x ms k. absurd k;
    })
    (λ rest e before legal.
    let all : (h ++ rest) ++ e ∷ [] ≡ h ++ (rest ++ e ∷ []) = append_assoc h rest (e ∷ []) in
    let whole : AreLegalMultis base (InBase base) ((h ++ rest) ++ e ∷ []) = subst (AreLegalMultis base (InBase base)) (sym all) legal in
    let r = before (each_place_start (MultiMayCome base (InBase base)) (h ++ rest) (e ∷ []) whole) in
    let up = rises_by base (h ++ rest) e (each_place_last (MultiMayCome base (InBase base)) (h ++ rest) e whole) in
    let old = r.free in let here = up.0 in
    record {
      free = subst (λ (t : List MultiEvent). free_offset base.offset h ≤ free_offset base.offset t) all
          (subst (λ z. free_offset base.offset h ≤ z) (sym (fold_push free_after base.offset (h ++ rest) e)) (omega arith));
      given = λ by m x ms k. ⊎_elim
          (λ older. r.given by m x ms older)
          (λ new. let z = up.1 by m x ms new in omega arith)
          (last_cases rest e (multis.Gen by m x ms) k);
    })

-- where the next multixact of an earlier place isn't past the one behind a given one, nor is the free offset
pub free_upto : (base : Counters) (h rest : List MultiEvent) (by : By) (m x : ℕ) (ms : List Member) → IsFullMulti base.multi → AreLegalMultis base (InBase base) (h ++ rest) → Has (h ++ rest) (multis.Gen by m x ms)
    → next_made base.multi h ≤ next_multi m → free_offset base.offset h ≤ x + length ms
free_upto base h rest by m x ms full legal k le =
    let c = chained base full h (each_place_start (MultiMayCome base (InBase base)) h rest legal) in
    ⊎_elim
    (λ old. let g = c.given by m x ms old in let up = next_upto m (next_made base.multi h) g.2 c.full in
    let e = c.last by m x ms old (let z : next_multi m ≡ next_made base.multi h = omega arith in z) in omega arith)
    (λ new. let z = (rises base h rest legal).given by m x ms new in omega arith)
    (has_cases h rest (multis.Gen by m x ms) k)
