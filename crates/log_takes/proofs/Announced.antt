-- What comes before an announced multixact lies before its offset.
use Rattle.std.proofs.Common.{Contains, List, [], append-nil, append_assoc, ap, arith, drop, inl, inr, length, refl, subst, sym, take, take-append-drop, ℕ, ⊎_elim, ◌++◌, ◌+◌, ◌∙◌, ◌∷◌, ◌<◌, ◌≡◌, ◌≤◌, ◌⊎◌}
use Rattle.std.proofs.lemmas.List.Sums.{fold_push}
use Rattle.notes.specs.Lists.{Grows}
use Rattle.tx_events.specs.declared.event.By.{By}
use Rattle.tx_events.specs.declared.multi.Member.{Member}
use Rattle.tx_events.specs.declared.multi.MultiEvent.{MultiEvent}
use Rattle.tx_events.specs.declared.multi.MultiEvent.TheVariants as multis
use Rattle.tx_events.specs.declared.record.Counters.{Counters}
use Rattle.tx_events.specs.Base.{IsBase}
use Rattle.tx_events.specs.Multis.{AreLegalMultis, InBase, IsNextMade, IsRaised, MultiMayCome, free_after, free_offset, next_made, oldest_multi, oldest_offset, oldest_offset_after}
use Rattle.tx_events.proofs.ListSteps.{le_or_over}
use Rattle.tx_events.proofs.Membership.{Has, by_end, contains_has, has_cases, has_left, has_right, has_take}
use Rattle.tx_events.proofs.PlaceLemmas.{each_place_last, each_place_start}
use Rattle.multi_store.proofs.LegalSound.{legal_base, legal_rises}
use Rattle.tx_core.specs.declared.entry.Entry.{Entry}
use Rattle.tx_core.specs.declared.entry.Start.{Start}
use Rattle.tx_core.specs.EngineInvariant.{EngineInvariant}
use Rattle.tx_core.specs.MultiEntries.{multi_history}
use Rattle.tx_core.specs.RecordsFollow.{IsMultiAnnounced}
use Rattle.tx_core.proofs.MultiGiven.{gen_below, raised_from}
use Rattle.tx_core.proofs.MultiOrder.{made_at_has, ordered}
use Rattle.tx_core.proofs.MultiRaised.{last_raised, raise_within}
use Rattle.tx_core.proofs.Nearness.{multis_are_legal}
use Rattle.tx_core.proofs.Rising.{made_more, multis_grow}

-- ---- of a legal history

pub has_split : {A : Type 0} (xs : List A) (x : A) → Has xs x → (front rest : List A) × (xs ≡ front ++ x ∷ rest)
has_split [] x k = absurd k
has_split {A} (y ∷ ys) x k =
    ⊎_elim
    (λ (q : y ≡ x). ([], ys, ap (λ (z : A). z ∷ ys) q))
    (λ (here : Has ys x). let s = has_split ys x here in (y ∷ s.0, s.1, ap (λ (t : List A). y ∷ t) s.2))
    k

-- neither the announced oldest multixact nor its offset is lower
abbrev pub IsNoLower : Counters → List MultiEvent → List MultiEvent → Type 0
IsNoLower base h more = (oldest_multi base.oldest_multi h ≤ oldest_multi base.oldest_multi more) × (oldest_offset base.oldest_offset h ≤ oldest_offset base.oldest_offset more)

pub multis_rest : (base : Counters) (h es : List MultiEvent) → IsBase base → AreLegalMultis base (InBase base) (h ++ es) → IsNoLower base h (h ++ es)
multis_rest base h es is legal =
    by_end (λ (es : List MultiEvent). AreLegalMultis base (InBase base) (h ++ es) → IsNoLower base h (h ++ es))
    (λ l. subst (IsNoLower base h) (sym (append-nil h)) (omega arith, omega arith))
    (λ es e before l.
    let split : h ++ (es ++ e ∷ []) ≡ (h ++ es) ++ e ∷ [] = sym (append_assoc h es (e ∷ [])) in
    let m : AreLegalMultis base (InBase base) ((h ++ es) ++ e ∷ []) = subst (AreLegalMultis base (InBase base)) split l in
    let a = before (each_place_start (MultiMayCome base (InBase base)) (h ++ es) (e ∷ []) m) in
    let up = legal_rises base (h ++ es) e is m in
    let first : oldest_multi base.oldest_multi (h ++ es) ≤ oldest_multi base.oldest_multi ((h ++ es) ++ e ∷ []) = up.oldest_multi in
    let begin : oldest_offset base.oldest_offset (h ++ es) ≤ oldest_offset base.oldest_offset ((h ++ es) ++ e ∷ []) = up.oldest_offset in
    let x = a.0 in
    let y = a.1 in
    subst (IsNoLower base h) (sym split) (omega (arith, x, first), omega (arith, y, begin)))
    es legal

-- so they never fall
pub multis_rise : (start : Start) (lists more : List (List Entry)) → IsBase start.base → EngineInvariant start more → Grows lists more → IsNoLower start.base (multi_history lists) (multi_history more)
multis_rise start lists more is k g =
    let b = multis_grow lists more g in
    subst (IsNoLower start.base (multi_history lists)) b.1 (multis_rest start.base (multi_history lists) b.0 is (subst (AreLegalMultis start.base (InBase start.base)) (sym b.1) (multis_are_legal start more k)))

-- what is given behind some events is not before the next one by then
gen_from : (base : Counters) (h rest : List MultiEvent) (by : By) (n y : ℕ) (ns : List Member) → AreLegalMultis base (InBase base) (h ++ rest) → Has rest (multis.Gen by n y ns) → next_made base.multi h ≤ n
gen_from base h rest by n y ns legal here =
    by_end (λ (es : List MultiEvent). AreLegalMultis base (InBase base) (h ++ es) → Has es (multis.Gen by n y ns) → next_made base.multi h ≤ n)
    (λ l k. absurd k)
    (λ es e before l k.
    let split : h ++ (es ++ e ∷ []) ≡ (h ++ es) ++ e ∷ [] = sym (append_assoc h es (e ∷ [])) in
    let m : AreLegalMultis base (InBase base) ((h ++ es) ++ e ∷ []) = subst (AreLegalMultis base (InBase base)) split l in
    ⊎_elim
    (λ (old : Has es (multis.Gen by n y ns)). before (each_place_start (MultiMayCome base (InBase base)) (h ++ es) (e ∷ []) m) old)
    (λ new. ⊎_elim
    (λ (q : e ≡ multis.Gen by n y ns).
    let rule : IsNextMade base (h ++ es) n y ns = subst (MultiMayCome base (InBase base) (h ++ es)) q (each_place_last (MultiMayCome base (InBase base)) (h ++ es) e m) in
    let at = rule.next in
    let more = made_more base.multi h (h ++ es) (es, refl) in
    omega arith)
    (λ z. absurd z) new)
    (has_cases es (e ∷ []) (multis.Gen by n y ns) k))
    rest legal here

-- the free offset is the base's, or the end of the members of one that was given
abbrev IsEnd : Counters → List MultiEvent → Type 0
IsEnd base h = (free_offset base.offset h ≡ base.offset) ⊎ ((by : By) × (n : ℕ) × (y : ℕ) × (ns : List Member) × Has h (multis.Gen by n y ns) × (free_offset base.offset h ≡ y + length ns))

free_is : (base : Counters) (h : List MultiEvent) → IsEnd base h
free_is base = by_end (IsEnd base) (inl refl) (λ h e before. step h e before)
  where
    kept : (h : List MultiEvent) (e : MultiEvent) → free_offset base.offset (h ++ e ∷ []) ≡ free_offset base.offset h → IsEnd base h → IsEnd base (h ++ e ∷ [])
    kept h e same before = ⊎_elim
        (λ (q : free_offset base.offset h ≡ base.offset). inl (same ∙ q))
        (λ (g : (by : By) × (n : ℕ) × (y : ℕ) × (ns : List Member) × Has h (multis.Gen by n y ns) × (free_offset base.offset h ≡ y + length ns)).
        inr (g.0, g.1, g.2, g.3, has_left h (e ∷ []) (multis.Gen g.0 g.1 g.2 g.3) g.4, same ∙ g.5))
        before

    step : (h : List MultiEvent) (e : MultiEvent) → IsEnd base h → IsEnd base (h ++ e ∷ [])
    step h (multis.Gen by n y ns) before = inr (by, n, y, ns, has_right h (multis.Gen by n y ns ∷ []) (multis.Gen by n y ns) (inl refl), fold_push free_after base.offset h (multis.Gen by n y ns))
    step h (multis.Hold by n) before = kept h (multis.Hold by n) (fold_push free_after base.offset h (multis.Hold by n)) before
    step h (multis.Unhold by n) before = kept h (multis.Unhold by n) (fold_push free_after base.offset h (multis.Unhold by n)) before
    step h (multis.Raise by n y) before = kept h (multis.Raise by n y) (fold_push free_after base.offset h (multis.Raise by n y)) before

-- ---- an announced one

module _ (start : Start) (lists : List (List Entry)) (k : EngineInvariant start lists) (is : IsBase start.base) where
  abbrev base_now : Counters
  base_now = start.base

  abbrev all_now : List MultiEvent
  all_now = multi_history lists

  abbrev Legal : List MultiEvent → Type 0
  Legal h = AreLegalMultis base_now (InBase base_now) h

  pub legal : Legal all_now
  legal = multis_are_legal start lists k

  -- what was given is of the life
  gen_of_life : (by : By) (n y : ℕ) (ns : List Member) → Has all_now (multis.Gen by n y ns) → base_now.multi ≤ n
  gen_of_life by n y ns here = gen_from base_now [] all_now by n y ns legal here

  -- Those given before it end before its offset, an earlier one was announced with one that isn't past it, and while
  -- none from it on was given the free offset isn't past it.
  pub record Divides (multi offset : ℕ) : Type 0 where
    pub ends : (by : By) (n y : ℕ) (ns : List Member) → Has all_now (multis.Gen by n y ns) → n < multi → y + length ns ≤ offset
    pub raised : (n y : ℕ) → IsMultiAnnounced start lists n y → n < multi → y ≤ offset
    pub first : base_now.multi ≤ multi → base_now.offset ≤ offset
    pub upto : (multi ≤ next_made base_now.multi all_now) × (offset ≤ free_offset base_now.offset all_now)

  -- the one with which the life began
  of_base : Divides base_now.oldest_multi base_now.oldest_offset
  of_base =
      let low = is.oldest_multi in
      let b = legal_base base_now all_now is legal in
      let o = ordered base_now is all_now legal in
      let under = o.from in
      let begins = is.oldest_offset in
      let more = made_more base_now.multi [] all_now (all_now, refl) in
      record {
        ends = λ by n y ns here less. let from = gen_of_life by n y ns here in absurd (omega arith);
        raised = λ n y a less. ⊎_elim
            (λ (q : (n ≡ base_now.oldest_multi) × (y ≡ base_now.oldest_offset)). let z = q.0 in absurd (omega arith))
            (λ (q : (by : By) × Contains all_now (multis.Raise by n y)). let z = raised_from base_now all_now q.0 n y legal q.1 in absurd (omega arith))
            a;
        first = λ from. let same = is.none (omega arith) in omega arith;
        upto = (omega arith, omega arith);
      }

  -- one that the life announced, between these events
  module _ (by : By) (multi offset : ℕ) (front rest : List MultiEvent) (split : all_now ≡ front ++ multis.Raise by multi offset ∷ rest) where
    abbrev event : MultiEvent
    event = multis.Raise by multi offset

    whole : (front ++ event ∷ []) ++ rest ≡ all_now
    whole = append_assoc front (event ∷ []) rest ∙ sym split

    legal_whole : Legal ((front ++ event ∷ []) ++ rest)
    legal_whole = subst Legal (sym whole) legal

    legal_to : Legal (front ++ event ∷ [])
    legal_to = each_place_start (MultiMayCome base_now (InBase base_now)) (front ++ event ∷ []) rest legal_whole

    legal_front : Legal front
    legal_front = each_place_start (MultiMayCome base_now (InBase base_now)) front (event ∷ []) legal_to

    rule : IsRaised base_now (InBase base_now) front multi offset
    rule = each_place_last (MultiMayCome base_now (InBase base_now)) front event legal_to

    within : multi ≤ next_made base_now.multi front
    within = raise_within base_now front multi offset rule

    -- it is the next one by then, or one that was given
    begins : base_now.multi ≤ multi → ((multi ≡ next_made base_now.multi front) × (offset ≡ free_offset base_now.offset front)) ⊎ ((b : By) × (ms : List Member) × Has front (multis.Gen b multi offset ms))
    begins from = ⊎_elim
        (λ (past : next_made base_now.multi front ≤ multi). let same : multi ≡ next_made base_now.multi front = (let w = within in omega arith) in inl (same, rule.begins.of_next same))
        (λ (inside : multi < next_made base_now.multi front). inr (made_at_has multi offset front (rule.begins.of_life from inside)))
        (le_or_over (next_made base_now.multi front) multi)

    front_ends : (b : By) (n y : ℕ) (ns : List Member) → Has front (multis.Gen b n y ns) → n < multi → y + length ns ≤ offset
    front_ends b n y ns here less =
        let o = ordered base_now is front legal_front in
        let from : base_now.multi ≤ n = gen_from base_now [] front b n y ns legal_front here in
        ⊎_elim
        (λ (q : (multi ≡ next_made base_now.multi front) × (offset ≡ free_offset base_now.offset front)). let end = (o.given b n y ns here).1 in let at = q.1 in omega arith)
        (λ (g : (a : By) × (ms : List Member) × Has front (multis.Gen a multi offset ms)).
        ⊎_elim
        (λ (z : (n < multi) × (y + length ns ≤ offset)). z.1)
        (λ z. ⊎_elim
        (λ (w : (multi < n) × (offset + length g.1 ≤ y)). let over = w.0 in absurd (omega arith))
        (λ (w : (n ≡ multi) × (y ≡ offset) × (ns ≡ g.1)). let same = w.0 in absurd (omega arith))
        z)
        (o.apart b g.0 n multi y offset ns g.1 here g.2))
        (begins (omega arith))

    all_ends : (b : By) (n y : ℕ) (ns : List Member) → Has all_now (multis.Gen b n y ns) → n < multi → y + length ns ≤ offset
    all_ends b n y ns here less =
        let gen : MultiEvent = multis.Gen b n y ns in
        ⊎_elim
        (λ (k : Has front gen). front_ends b n y ns k less)
        (λ (k : Has (event ∷ rest) gen).
        let low = gen_from base_now front (event ∷ rest) b n y ns (subst Legal split legal) k in
        let w = within in absurd (omega arith))
        (has_cases front (event ∷ rest) gen (subst (λ (t : List MultiEvent). Has t gen) split here))

    -- what is announced later isn't before it
    later : (b : By) (n y : ℕ) → Has rest (multis.Raise b n y) → multi ≤ n
    later b n y here =
        let s = has_split rest (multis.Raise b n y) here in
        let next : MultiEvent = multis.Raise b n y in
        let to : List MultiEvent = (front ++ event ∷ []) ++ s.0 in
        let all : Legal ((to ++ next ∷ []) ++ s.1) =
        subst Legal
        (ap (λ (t : List MultiEvent). (front ++ event ∷ []) ++ t) s.2 ∙ (sym (append_assoc (front ++ event ∷ []) s.0 (next ∷ s.1)) ∙ sym (append_assoc to (next ∷ []) s.1)))
        legal_whole in
        let upto : Legal (to ++ next ∷ []) = each_place_start (MultiMayCome base_now (InBase base_now)) (to ++ next ∷ []) s.1 all in
        let then : IsRaised base_now (InBase base_now) to n y = each_place_last (MultiMayCome base_now (InBase base_now)) to next upto in
        let before : Legal to = each_place_start (MultiMayCome base_now (InBase base_now)) to (next ∷ []) upto in
        let up = ((last_raised base_now is to before).upto by multi offset (has_left (front ++ event ∷ []) s.0 event (has_right front (event ∷ []) event (inl refl)))).0 in
        let back = then.not_back in
        omega arith

    all_raised : (n y : ℕ) → IsMultiAnnounced start lists n y → n < multi → y ≤ offset
    all_raised n y a less =
        let now : oldest_offset base_now.oldest_offset (front ++ event ∷ []) ≡ offset = fold_push oldest_offset_after base_now.oldest_offset front event in
        let last = last_raised base_now is (front ++ event ∷ []) legal_to in
        ⊎_elim
        (λ (q : (n ≡ base_now.oldest_multi) × (y ≡ base_now.oldest_offset)). let low = (ordered base_now is (front ++ event ∷ []) legal_to).oldest in let same = q.1 in omega arith)
        (λ (q : (b : By) × Contains all_now (multis.Raise b n y)).
        ⊎_elim
        (λ (old : Has (front ++ event ∷ []) (multis.Raise q.0 n y)). let up = (last.upto q.0 n y old).1 in omega arith)
        (λ (new : Has rest (multis.Raise q.0 n y)). let over = later q.0 n y new in absurd (omega arith))
        (has_cases (front ++ event ∷ []) rest (multis.Raise q.0 n y) (subst (λ (t : List MultiEvent). Has t (multis.Raise q.0 n y)) (sym whole) (contains_has all_now (multis.Raise q.0 n y) q.1))))
        a

    of_life : Divides multi offset
    of_life =
        let o = ordered base_now is all_now legal in
        let more = made_more base_now.multi front all_now (event ∷ rest, sym split) in
        let w = within in
        let here : Has all_now event = subst (λ (t : List MultiEvent). Has t event) (sym split) (has_right front (event ∷ rest) event (inl refl)) in
        record {
          ends = all_ends;
          raised = all_raised;
          first = λ from. ⊎_elim
              (λ (q : (multi ≡ next_made base_now.multi front) × (offset ≡ free_offset base_now.offset front)). let low = (ordered base_now is front legal_front).from in let at = q.1 in omega arith)
              (λ (g : (b : By) × (ms : List Member) × Has front (multis.Gen b multi offset ms)). ((ordered base_now is front legal_front).given g.0 multi offset g.1 g.2).0)
              (begins from);
          upto = (omega arith, (o.raised by multi offset here).1);
        }

  pub divides : (multi offset : ℕ) → IsMultiAnnounced start lists multi offset → Divides multi offset
  divides multi offset a =
      ⊎_elim
      (λ (q : (multi ≡ base_now.oldest_multi) × (offset ≡ base_now.oldest_offset)). subst (λ (z : ℕ × ℕ). Divides z.0 z.1) (λ j. (sym q.0 j, sym q.1 j)) of_base)
      (λ (q : (by : By) × Contains all_now (multis.Raise by multi offset)).
      let s = has_split all_now (multis.Raise q.0 multi offset) (contains_has all_now (multis.Raise q.0 multi offset) q.1) in
      of_life q.0 multi offset s.0 s.1 s.2)
      a

  -- where none from it on was given yet, the free offset isn't past its offset
  pub free_under : (multi offset : ℕ) → Divides multi offset → (p : ℕ) → next_made base_now.multi (take p all_now) ≤ multi → free_offset base_now.offset (take p all_now) ≤ offset
  free_under multi offset d p under =
      let part : List MultiEvent = take p all_now in
      let legal_part : Legal part = each_place_start (MultiMayCome base_now (InBase base_now)) part (drop p all_now) (subst Legal (sym (take-append-drop p all_now)) legal) in
      let low = made_more base_now.multi [] part (part, refl) in
      ⊎_elim
      (λ (q : free_offset base_now.offset part ≡ base_now.offset). let f = d.first (omega arith) in omega arith)
      (λ (g : (by : By) × (n : ℕ) × (y : ℕ) × (ns : List Member) × Has part (multis.Gen by n y ns) × (free_offset base_now.offset part ≡ y + length ns)).
      let less = gen_below base_now g.0 g.1 g.2 g.3 part legal_part g.4 in
      let end = d.ends g.0 g.1 g.2 g.3 (has_take p all_now (multis.Gen g.0 g.1 g.2 g.3) g.4) (omega arith) in
      let at = g.5 in omega arith)
      (free_is base_now part)
