-- Multixacts of a legal history lie right behind each other, the last up to the next free offset.
use Rattle.std.proofs.Common.{List, [], ap, append-nil, arith, inl, length, refl, sym, ⊎_elim, ℕ, ◌++◌, ◌+◌, ◌∙◌, ◌∷◌, ◌≡◌}
use Rattle.std.proofs.lemmas.List.Elements.{filter_map-append}
use Rattle.std.proofs.lemmas.List.Sums.{fold_push}
use Rattle.tx_events.specs.Ids.{next_multi}
use Rattle.tx_events.specs.declared.event.By.{By}
use Rattle.tx_events.specs.declared.multi.Member.{Member}
use Rattle.tx_events.specs.declared.multi.MultiEvent.{MultiEvent}
use Rattle.tx_events.specs.declared.multi.MultiEvent.TheVariants as multis
use Rattle.tx_events.specs.declared.record.Counters.{Counters}
use Rattle.tx_events.proofs.Membership.{Has, by_end, has_right}
use Rattle.tx_events.proofs.PlaceLemmas.{each_place_last, each_place_start}
use Rattle.tx_events.specs.Multis.{AreLegalMultis, InBase, IsNextMade, MultiMayCome, first_member, free_after, free_offset, made, made_by, next_made, nth_multi}
use Rattle.tx_core.proofs.MultiGiven.{gen_below, gen_next}
use Rattle.tx_core.proofs.MultiOrder.{last_cases, members_in, multi_in, offset_in}
use Rattle.tx_core.proofs.Rising.{multi_above}

pub record AreInRow (base : Counters) (h : List MultiEvent) : Type 0 where
  pub last : (by : By) (m x : ℕ) (ms : List Member) → Has h (multis.Gen by m x ms) → next_multi m ≡ next_made base.multi h → x + length ms ≡ free_offset base.offset h
  pub behind : (a b : By) (m n x y : ℕ) (ms ns : List Member) → Has h (multis.Gen a m x ms) → Has h (multis.Gen b n y ns) → n ≡ next_multi m → y ≡ first_member (x + length ms)

-- an event that gives none
same_row : (base : Counters) (h : List MultiEvent) (e : MultiEvent) → AreInRow base h → free_after (free_offset base.offset h) e ≡ free_offset base.offset h → made (h ++ e ∷ []) ≡ made h ++ []
    → ((by : By) (m x : ℕ) (ms : List Member) → e ≡ multis.Gen by m x ms → ⊥) → AreInRow base (h ++ e ∷ [])
same_row base h e r same none no_gen =
    let next : next_made base.multi (h ++ e ∷ []) ≡ next_made base.multi h = ap (λ (t : List ℕ). nth_multi base.multi (length t)) (none ∙ append-nil (made h)) in
    let free : free_offset base.offset (h ++ e ∷ []) ≡ free_offset base.offset h = fold_push free_after base.offset h e ∙ same in
    let old : (by : By) (m x : ℕ) (ms : List Member) → Has (h ++ e ∷ []) (multis.Gen by m x ms) → Has h (multis.Gen by m x ms)
    = λ by m x ms k. ⊎_elim (λ o. o) (λ q. absurd (no_gen by m x ms q)) (last_cases h e (multis.Gen by m x ms) k) in
    record {
      last = λ by m x ms k q. r.last by m x ms (old by m x ms k) (q ∙ next) ∙ sym free;
      behind = λ a b m n x y ms ns k l q. r.behind a b m n x y ms ns (old a m x ms k) (old b n y ns l) q;
    }

row_step : (base : Counters) (h : List MultiEvent) (e : MultiEvent) → AreLegalMultis base (InBase base) h → AreLegalMultis base (InBase base) (h ++ e ∷ []) → AreInRow base h → MultiMayCome base (InBase base) h e → AreInRow base (h ++ e ∷ [])
row_step base h (multis.Gen by multi offset members) before legal r rule =
    let e : MultiEvent = multis.Gen by multi offset members in
    let is : IsNextMade base h multi offset members = rule in
    let at = is.next in
    let free : free_offset base.offset (h ++ e ∷ []) ≡ offset + length members = fold_push free_after base.offset h e in
    record {
      last = λ b m x ms k q. ⊎_elim
          (λ old.
          let low = gen_next base b m x ms h before old in
          let above = multi_above multi in
          let upto = gen_next base by multi offset members (h ++ e ∷ []) legal (here h e) in
          absurd (omega (arith, low, above, upto, q, at)))
          (λ new. let y : offset ≡ x = ap offset_in new in let z : length members ≡ length ms = ap (λ (t : MultiEvent). length (members_in t)) new in omega (arith, y, z, free))
          (last_cases h e (multis.Gen b m x ms) k);
      behind = λ a b m n x y ms ns k l q. ⊎_elim
          (λ old. ⊎_elim
          (λ older. r.behind a b m n x y ms ns old older q)
          (λ new. let z : multi ≡ n = ap multi_in new in
          sym (ap offset_in new) ∙ is.first ∙ ap first_member (sym (r.last a m x ms old (sym q ∙ sym z ∙ at))))
          (last_cases h e (multis.Gen b n y ns) l))
          (λ new. let z : multi ≡ m = ap multi_in new in let above = multi_above m in ⊎_elim
          (λ older. let low = gen_below base b n y ns h before older in absurd (omega (arith, low, above, z, at, q)))
          (λ newer. let w : multi ≡ n = ap multi_in newer in absurd (omega (arith, w, z, q, above)))
          (last_cases h e (multis.Gen b n y ns) l))
          (last_cases h e (multis.Gen a m x ms) k);
    }
  where
    here : (xs : List MultiEvent) (e : MultiEvent) → Has (xs ++ e ∷ []) e
    here xs e = has_right xs (e ∷ []) e (inl refl)
row_step base h (multis.Raise by multi offset) before legal r rule = same_row base h (multis.Raise by multi offset) r refl (filter_map-append made_by h (multis.Raise by multi offset ∷ [])) (λ b m x ms q. absurd cc)
row_step base h (multis.Hold by multi) before legal r rule = same_row base h (multis.Hold by multi) r refl (filter_map-append made_by h (multis.Hold by multi ∷ [])) (λ b m x ms q. absurd cc)
row_step base h (multis.Unhold by multi) before legal r rule = same_row base h (multis.Unhold by multi) r refl (filter_map-append made_by h (multis.Unhold by multi ∷ [])) (λ b m x ms q. absurd cc)

pub in_row : (base : Counters) (h : List MultiEvent) → AreLegalMultis base (InBase base) h → AreInRow base h
in_row base = by_end (λ h. AreLegalMultis base (InBase base) h → AreInRow base h)
    (λ legal. record { last = λ by m x ms k q. absurd k; behind = λ a b m n x y ms ns k l q. absurd k })
    (λ h e before legal.
    let front : AreLegalMultis base (InBase base) h = each_place_start (MultiMayCome base (InBase base)) h (e ∷ []) legal in
    row_step base h e front legal (before front) (each_place_last (MultiMayCome base (InBase base)) h e legal))
