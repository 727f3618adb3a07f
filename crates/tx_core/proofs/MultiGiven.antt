-- Each multixact of a legal history is given once.
use Rattle.std.proofs.Common.{Contains, List, [], ap, arith, drop, length, length-append, refl, subst, suc, sym, take, take-append-drop, ℕ, ⊎_elim, ◌++◌, ◌+◌, ◌<◌, ◌∙◌, ◌∷◌, ◌≡◌, ◌≤◌}
use Rattle.std.proofs.lemmas.List.Elements.{filter_map-append}
use Rattle.std.proofs.lemmas.List.Sums.{fold_push}
use Rattle.tx_events.specs.Ids.{next_multi}
use Rattle.tx_events.specs.declared.event.By.{By}
use Rattle.tx_events.specs.declared.multi.Member.{Member}
use Rattle.tx_events.specs.declared.multi.MultiEvent.{MultiEvent}
use Rattle.tx_events.specs.declared.multi.MultiEvent.TheVariants as multis
use Rattle.tx_events.specs.declared.record.Counters.{Counters}
use Rattle.tx_events.proofs.Membership.{Has, by_end, contains_has, has_cases, has_place}
use Rattle.tx_events.proofs.PlaceLemmas.{by_place, each_place_last, each_place_start}
use Rattle.tx_events.specs.Multis.{AreLegalMultis, InBase, IsNextMade, IsRaised, MultiMayCome, made, made_by, next_made, nth_multi, oldest_multi, oldest_multi_after}
use Rattle.tx_core.proofs.Rising.{made_more, multi_above}

gen_rises : (first : ℕ) (h : List MultiEvent) (by : By) (multi offset : ℕ) (members : List Member) → next_made first (h ++ multis.Gen by multi offset members ∷ []) ≡ next_multi (next_made first h)
gen_rises first h by multi offset members =
    let split : length (made (h ++ multis.Gen by multi offset members ∷ [])) ≡ length (made h) + 1
    = ap (λ (t : List ℕ). length t) (filter_map-append made_by h (multis.Gen by multi offset members ∷ [])) ∙ length-append (made h) (multi ∷ []) in
    let long : length (made (h ++ multis.Gen by multi offset members ∷ [])) ≡ suc (length (made h)) = omega arith in
    ap (λ n. nth_multi first n) long

-- the number behind a given multixact is not past the next one
pub gen_next : (base : Counters) (by : By) (multi offset : ℕ) (members : List Member) (h : List MultiEvent) → AreLegalMultis base (InBase base) h → Has h (multis.Gen by multi offset members) → next_multi multi ≤ next_made base.multi h
gen_next base by multi offset members = by_end (λ h. AreLegalMultis base (InBase base) h → Has h (multis.Gen by multi offset members) → next_multi multi ≤ next_made base.multi h)
    (λ legal k. absurd k)
    (λ h e before legal k.
    let last : MultiMayCome base (InBase base) h e = each_place_last (MultiMayCome base (InBase base)) h e legal in
    let more : next_made base.multi h ≤ next_made base.multi (h ++ e ∷ []) = made_more base.multi h (h ++ e ∷ []) (e ∷ [], refl) in
    ⊎_elim
    (λ old. let a = before (each_place_start (MultiMayCome base (InBase base)) h (e ∷ []) legal) old in omega arith)
    (λ new. ⊎_elim
    (λ (q : e ≡ multis.Gen by multi offset members).
    let rule : IsNextMade base h multi offset members = subst (MultiMayCome base (InBase base) h) q last in
    let now : next_made base.multi (h ++ e ∷ []) ≡ next_multi multi
    = ap (λ (z : MultiEvent). next_made base.multi (h ++ z ∷ [])) q ∙ gen_rises base.multi h by multi offset members ∙ ap (λ n. next_multi n) (sym rule.next) in
    omega arith)
    (λ z. absurd z) new)
    (has_cases h (e ∷ []) (multis.Gen by multi offset members) k))

pub gen_below : (base : Counters) (by : By) (multi offset : ℕ) (members : List Member) (h : List MultiEvent) → AreLegalMultis base (InBase base) h → Has h (multis.Gen by multi offset members) → multi < next_made base.multi h
gen_below base by multi offset members h legal k = let a = gen_next base by multi offset members h legal k in let b = multi_above multi in omega arith

-- so it has one event
pub one_gen : (base : Counters) (a b : By) (multi x y : ℕ) (ms ns : List Member) (h : List MultiEvent) → AreLegalMultis base (InBase base) h → Has h (multis.Gen a multi x ms) → Has h (multis.Gen b multi y ns) → multis.Gen a multi x ms ≡ multis.Gen b multi y ns
one_gen base a b multi x y ms ns = by_end (λ h. AreLegalMultis base (InBase base) h → Has h (multis.Gen a multi x ms) → Has h (multis.Gen b multi y ns) → multis.Gen a multi x ms ≡ multis.Gen b multi y ns)
    (λ legal k j. absurd k)
    (λ h e before legal k j.
    let front : AreLegalMultis base (InBase base) h = each_place_start (MultiMayCome base (InBase base)) h (e ∷ []) legal in
    let last : MultiMayCome base (InBase base) h e = each_place_last (MultiMayCome base (InBase base)) h e legal in
    ⊎_elim
    (λ old. ⊎_elim
    (λ older. before front old older)
    (λ new. ⊎_elim
    (λ (q : e ≡ multis.Gen b multi y ns).
    let rule : IsNextMade base h multi y ns = subst (MultiMayCome base (InBase base) h) q last in
    let next = rule.next in let low = gen_below base a multi x ms h front old in absurd (omega arith))
    (λ z. absurd z) new)
    (has_cases h (e ∷ []) (multis.Gen b multi y ns) j))
    (λ new. ⊎_elim
    (λ (q : e ≡ multis.Gen a multi x ms).
    let rule : IsNextMade base h multi x ms = subst (MultiMayCome base (InBase base) h) q last in
    let next = rule.next in
    ⊎_elim
    (λ older. let low = gen_below base b multi y ns h front older in absurd (omega arith))
    (λ newer. ⊎_elim (λ (r : e ≡ multis.Gen b multi y ns). sym q ∙ r) (λ z. absurd z) newer)
    (has_cases h (e ∷ []) (multis.Gen b multi y ns) j))
    (λ z. absurd z) new)
    (has_cases h (e ∷ []) (multis.Gen a multi x ms) k))

abbrev offset_in : MultiEvent → ℕ
offset_in (multis.Gen by multi offset members) = offset
offset_in _ = 0

-- a multixact has one offset
pub one_offset : (base : Counters) (a b : By) (multi x y : ℕ) (ms ns : List Member) (h : List MultiEvent) → AreLegalMultis base (InBase base) h → Has h (multis.Gen a multi x ms) → Has h (multis.Gen b multi y ns) → x ≡ y
one_offset base a b multi x y ms ns h legal k j = ap offset_in (one_gen base a b multi x y ms ns h legal k j)

raised_up : (base : Counters) (h : List MultiEvent) (e : MultiEvent) → base.oldest_multi ≤ oldest_multi base.oldest_multi h → MultiMayCome base (InBase base) h e → base.oldest_multi ≤ oldest_multi_after (oldest_multi base.oldest_multi h) e
raised_up base h (multis.Raise by multi offset) le rule = let r : oldest_multi base.oldest_multi h ≤ multi = rule.not_back in omega arith
raised_up base h _ le rule = le

pub oldest_from : (base : Counters) (h : List MultiEvent) → AreLegalMultis base (InBase base) h → base.oldest_multi ≤ oldest_multi base.oldest_multi h
oldest_from base = by_place (MultiMayCome base (InBase base)) (λ h. base.oldest_multi ≤ oldest_multi base.oldest_multi h) (omega arith)
    (λ h e le rule. subst (λ z. base.oldest_multi ≤ z) (sym (fold_push oldest_multi_after base.oldest_multi h e)) (raised_up base h e le rule))

-- an announced oldest multixact isn't before the base's
pub raised_from : (base : Counters) (h : List MultiEvent) (by : By) (multi offset : ℕ) → AreLegalMultis base (InBase base) h → Contains h (multis.Raise by multi offset) → base.oldest_multi ≤ multi
raised_from base h by multi offset legal c =
    let p = has_place h (multis.Raise by multi offset) (contains_has h (multis.Raise by multi offset) c) in
    let rule : IsRaised base (InBase base) (take p.0 h) multi offset = legal p.0 (multis.Raise by multi offset) p.1 in
    let front : AreLegalMultis base (InBase base) (take p.0 h) = each_place_start (MultiMayCome base (InBase base)) (take p.0 h) (drop p.0 h) (subst (AreLegalMultis base (InBase base)) (sym (take-append-drop p.0 h)) legal) in
    let le = oldest_from base (take p.0 h) front in let up = rule.not_back in omega arith
