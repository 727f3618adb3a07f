-- The multixacts that a legal history gives, where those of the base begin as is told.
use Rattle.std.proofs.Common.{◌≡◌, ℕ, ◌-◌, ◌<◌, ◌≤◌, ◌⊎◌, inl, inr, List, [], ◌∷◌, ◌++◌, Some, None, take, drop, sym, ap, subst, ◌∙◌, arith, ⊎_elim, append_assoc, append-nil, take-append-drop}
use Rattle.std.specs.List.{Contains}
use Rattle.std.proofs.lemmas.Bool.{cases_lt}
use Rattle.tx_events.specs.declared.event.By.{By}
use Rattle.tx_events.specs.declared.multi.Member.{Member}
use Rattle.tx_events.specs.declared.multi.MultiEvent.{MultiEvent}
use Rattle.tx_events.specs.declared.multi.MultiEvent.TheVariants as events
use Rattle.tx_events.specs.declared.record.Counters.{Counters}
use Rattle.tx_events.specs.Base.{IsBase}
use Rattle.tx_events.specs.Multis.{AreLegalMultis, BaseOffset, InBase, MultiMayCome, free_offset, made_at, multi_counters, next_made, oldest_multi, oldest_multi_after, oldest_offset, oldest_offset_after}
use Rattle.tx_events.proofs.Membership.{Has, by_end, has_cases}
use Rattle.tx_events.proofs.PlaceLemmas.{each_place_last, each_place_start}
use Rattle.place_columns.proofs.ColumnSteps.{parts}
use Rattle.multi_store.specs.Generator.{CountersRise}
use Rattle.multi_store.proofs.LegalSound.{legal_rises, legal_sound}
use Rattle.multi_store.proofs.MadeSteps.{at_cases, at_new, at_old, made_at_quiet, oldest_offset_push, oldest_push}
use Rattle.multi_store.proofs.Numbers.{first_from}
use Rattle.multi_store.proofs.Soundness.{IsSound}
use Rattle.history_places.specs.declared.start.Start.{Start}
use Rattle.history_places.specs.Starts.{BeginsAs, FitsBase, start_of}
use Rattle.history_places.proofs.Beginning.{in_base}

-- ---- one rule for another

may_agree : (base : Counters) (known other : BaseOffset) → ((h : List MultiEvent) (multi offset : ℕ) → known h multi offset → other h multi offset) → (h : List MultiEvent) (e : MultiEvent) → MultiMayCome base known h e → MultiMayCome base other h e
may_agree base known other f h (events.Gen by multi offset members) m = m
may_agree base known other f h (events.Hold by multi) m = m
may_agree base known other f h (events.Unhold by multi) m = m
may_agree base known other f h (events.Raise by multi offset) m = record {
  not_back = m.not_back;
  not_pinned = m.not_pinned;
  begins = record { of_base = λ l. f h multi offset (m.begins.of_base l); of_life = m.begins.of_life; of_next = m.begins.of_next };
}

pub multi_may_agree : (base : Counters) (known other : BaseOffset) → ((h : List MultiEvent) (multi offset : ℕ) → known h multi offset → other h multi offset) → (h : List MultiEvent) (e : MultiEvent) → MultiMayCome base known h e → MultiMayCome base other h e
multi_may_agree base known other f h e m = may_agree base known other f h e m

pub legal_agree : (base : Counters) (known other : BaseOffset) → ((h : List MultiEvent) (multi offset : ℕ) → known h multi offset → other h multi offset) → (h : List MultiEvent) → AreLegalMultis base known h → AreLegalMultis base other h
legal_agree base known other f h legal p e at = may_agree base known other f (take p h) e (legal p e at)

-- ---- a given multixact begins where its event says

-- the multixact began before, or the event gives it
made_cases : (h : List MultiEvent) (e : MultiEvent) (m x : ℕ) → made_at m (h ++ e ∷ []) ≡ Some x → (made_at m h ≡ Some x) ⊎ ((by : By) × (members : List Member) × (e ≡ events.Gen by m x members))
made_cases h (events.Gen by multi offset members) m x t =
    ⊎_elim
    (λ (u : made_at m h ≡ Some x). inl u)
    (λ (u : (multi ≡ m) × (offset ≡ x)). let a = u.0 in let b = u.1 in inr (by, members, ap (λ k. events.Gen by k offset members) a ∙ ap (λ k. events.Gen by m k members) b))
    (at_cases h by multi offset members m x t)
made_cases h (events.Hold by multi) m x t = inl (sym (made_at_quiet m h (events.Hold by multi) tt) ∙ t)
made_cases h (events.Unhold by multi) m x t = inl (sym (made_at_quiet m h (events.Unhold by multi) tt) ∙ t)
made_cases h (events.Raise by multi offset) m x t = inl (sym (made_at_quiet m h (events.Raise by multi offset) tt) ∙ t)

made_stays : (h : List MultiEvent) (e : MultiEvent) (m x : ℕ) → made_at m h ≡ Some x → made_at m (h ++ e ∷ []) ≡ Some x
made_stays h (events.Gen by multi offset members) m x t = at_old h by multi offset members m x t
made_stays h (events.Hold by multi) m x t = made_at_quiet m h (events.Hold by multi) tt ∙ t
made_stays h (events.Unhold by multi) m x t = made_at_quiet m h (events.Unhold by multi) tt ∙ t
made_stays h (events.Raise by multi offset) m x t = made_at_quiet m h (events.Raise by multi offset) tt ∙ t

module _ (base : Counters) (starts : List Start) (fits : FitsBase base starts) (b : IsBase base) where
  abbrev pub Legal : List MultiEvent → Type 0
  Legal h = AreLegalMultis base (BeginsAs starts) h

  legal_start : (xs ys : List MultiEvent) → Legal (xs ++ ys) → Legal xs
  legal_start xs ys l = each_place_start (MultiMayCome base (BeginsAs starts)) xs ys l

  pub legal_take : (h : List MultiEvent) (q : ℕ) → Legal h → Legal (take q h)
  legal_take h q l = legal_start (take q h) (drop q h) (subst Legal (sym (take-append-drop q h)) l)

  within_base : (h : List MultiEvent) → Legal h → AreLegalMultis base (InBase base) h
  within_base h legal p e at = in_base base starts fits (take p h) e (legal_take h p legal) (legal p e at)

  pub sound : (h : List MultiEvent) → Legal h → IsSound base h
  sound h legal = legal_sound base h b (within_base h legal)

  rises : (h : List MultiEvent) (e : MultiEvent) → Legal (h ++ e ∷ []) → CountersRise (multi_counters base h) (multi_counters base (h ++ e ∷ []))
  rises h e legal = legal_rises base h e b (within_base (h ++ e ∷ []) legal)

  same_rise : (c : Counters) → CountersRise c c
  same_rise c = record { multi = omega arith; offset = omega arith; oldest_multi = omega arith; oldest_offset = omega arith }

  over : (x y z : Counters) → CountersRise x y → CountersRise y z → CountersRise x z
  over x y z p q = record { multi = omega arith; offset = omega arith; oldest_multi = omega arith; oldest_offset = omega arith }

  rise_to : (h es : List MultiEvent) → Legal (h ++ es) → CountersRise (multi_counters base h) (multi_counters base (h ++ es))
  rise_to h es =
      by_end (λ (es : List MultiEvent). Legal (h ++ es) → CountersRise (multi_counters base h) (multi_counters base (h ++ es)))
      (λ l. subst (λ (t : List MultiEvent). CountersRise (multi_counters base h) (multi_counters base t)) (sym (append-nil h)) (same_rise (multi_counters base h)))
      (λ es e before l.
      let split : h ++ (es ++ e ∷ []) ≡ (h ++ es) ++ e ∷ [] = sym (append_assoc h es (e ∷ [])) in
      let m : Legal ((h ++ es) ++ e ∷ []) = subst Legal split l in
      let a = before (legal_start (h ++ es) (e ∷ []) m) in
      let s = rises (h ++ es) e m in
      subst (λ (t : List MultiEvent). CountersRise (multi_counters base h) (multi_counters base t)) (sym split) (over (multi_counters base h) (multi_counters base (h ++ es)) (multi_counters base ((h ++ es) ++ e ∷ [])) a s))
      es

  -- no counter falls from place to place
  pub takes_rise : (h : List MultiEvent) (p q : ℕ) → Legal h → p ≤ q → CountersRise (multi_counters base (take p h)) (multi_counters base (take q h))
  takes_rise h p q legal l =
      let split : take q h ≡ take p h ++ take (q - p) (drop p h) = parts p q h l in
      subst (λ (t : List MultiEvent). CountersRise (multi_counters base (take p h)) (multi_counters base t)) (sym split) (rise_to (take p h) (take (q - p) (drop p h)) (subst Legal split (legal_take h q legal)))

  -- ---- what the history gave

  new_made : (h : List MultiEvent) (e : MultiEvent) (by : By) (m x : ℕ) (members : List Member) → Legal (h ++ e ∷ []) → e ≡ events.Gen by m x members → made_at m (h ++ e ∷ []) ≡ Some x
  new_made h e by m x members legal is =
      let there : Legal (h ++ events.Gen by m x members ∷ []) = subst (λ (z : MultiEvent). Legal (h ++ z ∷ [])) is legal in
      let may = each_place_last (MultiMayCome base (BeginsAs starts)) h (events.Gen by m x members) there in
      let s = sound h (legal_start h (e ∷ []) legal) in
      let none : made_at m h ≡ None = s.newer m (let z = may.next in omega arith) in
      subst (λ (z : MultiEvent). made_at m (h ++ z ∷ []) ≡ Some x) (sym is) (at_new h by m x members none)

  pub gen_made : (h : List MultiEvent) (by : By) (m x : ℕ) (members : List Member) → Legal h → Has h (events.Gen by m x members) → made_at m h ≡ Some x
  gen_made h by m x members =
      by_end (λ (h : List MultiEvent). Legal h → Has h (events.Gen by m x members) → made_at m h ≡ Some x)
      (λ l k. absurd k)
      (λ h e before l k. ⊎_elim
      (λ (u : Has h (events.Gen by m x members)). made_stays h e m x (before (legal_start h (e ∷ []) l) u))
      (λ (u : Has (e ∷ []) (events.Gen by m x members)). ⊎_elim (λ (v : e ≡ events.Gen by m x members). new_made h e by m x members l v) (λ v. absurd v) u)
      (has_cases h (e ∷ []) (events.Gen by m x members) k))
      h

  -- no other event gives it
  new_alone : (h : List MultiEvent) (by its : By) (m o x : ℕ) (ms ns : List Member) → Legal (h ++ events.Gen by m o ms ∷ []) → Has h (events.Gen its m x ns) → ⊥
  new_alone h by its m o x ms ns legal k =
      let front = legal_start h (events.Gen by m o ms ∷ []) legal in
      let may = each_place_last (MultiMayCome base (BeginsAs starts)) h (events.Gen by m o ms) legal in
      let none : made_at m h ≡ None = (sound h front).newer m (let z = may.next in omega arith) in
      let some : made_at m h ≡ Some x = gen_made h its m x ns front k in
      absurd cc

  as_last : (h : List MultiEvent) (e f : MultiEvent) → Legal (h ++ e ∷ []) → e ≡ f → Legal (h ++ f ∷ [])
  as_last h e f legal is = subst (λ (z : MultiEvent). Legal (h ++ z ∷ [])) is legal

  pub one_giving : (h : List MultiEvent) (by its : By) (m o x : ℕ) (ms ns : List Member) → Legal h → Has h (events.Gen by m o ms) → Has h (events.Gen its m x ns) → (o ≡ x) × (ms ≡ ns)
  one_giving h by its m o x ms ns =
      by_end (λ (h : List MultiEvent). Legal h → Has h (events.Gen by m o ms) → Has h (events.Gen its m x ns) → (o ≡ x) × (ms ≡ ns))
      (λ l j k. absurd j)
      (λ h e before l j k.
      ⊎_elim
      (λ (u : Has h (events.Gen by m o ms)). ⊎_elim
      (λ (v : Has h (events.Gen its m x ns)). before (legal_start h (e ∷ []) l) u v)
      (λ (v : Has (e ∷ []) (events.Gen its m x ns)). ⊎_elim (λ (w : e ≡ events.Gen its m x ns). absurd (new_alone h its by m x o ns ms (as_last h e (events.Gen its m x ns) l w) u)) (λ w. absurd w) v)
      (has_cases h (e ∷ []) (events.Gen its m x ns) k))
      (λ (u : Has (e ∷ []) (events.Gen by m o ms)). ⊎_elim
      (λ (is : e ≡ events.Gen by m o ms). ⊎_elim
      (λ (v : Has h (events.Gen its m x ns)). absurd (new_alone h by its m o x ms ns (as_last h e (events.Gen by m o ms) l is) v))
      (λ (v : Has (e ∷ []) (events.Gen its m x ns)). ⊎_elim (λ (w : e ≡ events.Gen its m x ns). (cc, cc)) (λ w. absurd w) v)
      (has_cases h (e ∷ []) (events.Gen its m x ns) k))
      (λ w. absurd w) u)
      (has_cases h (e ∷ []) (events.Gen by m o ms) j))
      h

  -- it is none of the base's, and begins behind these
  pub gen_from : (h : List MultiEvent) (m x : ℕ) → Legal h → made_at m h ≡ Some x → (base.multi ≤ m) × (m < next_made base.multi h) × (base.offset ≤ x)
  gen_from h m x legal t =
      let s = sound h legal in
      let from : base.multi ≤ m = ⊎_elim (λ (u : m < base.multi). let none = s.older m u in absurd cc) (λ (u : base.multi ≤ m). u) (cases_lt m base.multi) in
      let upto : m < next_made base.multi h = ⊎_elim (λ (u : m < next_made base.multi h). u) (λ (u : next_made base.multi h ≤ m). let none = s.newer m u in absurd cc) (cases_lt m (next_made base.multi h)) in
      (from, upto, (s.within m x t).0)

  -- a multixact of a front, or one that begins behind that
  later_made : (h es : List MultiEvent) (m x : ℕ) → Legal (h ++ es) → made_at m (h ++ es) ≡ Some x → (made_at m h ≡ Some x) ⊎ (free_offset base.offset h ≤ x)
  later_made h es m x =
      by_end (λ (es : List MultiEvent). Legal (h ++ es) → made_at m (h ++ es) ≡ Some x → (made_at m h ≡ Some x) ⊎ (free_offset base.offset h ≤ x))
      (λ l t. inl (subst (λ (g : List MultiEvent). made_at m g ≡ Some x) (append-nil h) t))
      (λ es e before l t.
      let split : h ++ (es ++ e ∷ []) ≡ (h ++ es) ++ e ∷ [] = sym (append_assoc h es (e ∷ [])) in
      let legal : Legal ((h ++ es) ++ e ∷ []) = subst Legal split l in
      let there : made_at m ((h ++ es) ++ e ∷ []) ≡ Some x = subst (λ (g : List MultiEvent). made_at m g ≡ Some x) split t in
      let front : Legal (h ++ es) = legal_start (h ++ es) (e ∷ []) legal in
      ⊎_elim
      (λ (u : made_at m (h ++ es) ≡ Some x). before front u)
      (λ (u : (by : By) × (members : List Member) × (e ≡ events.Gen by m x members)).
      let its : Legal ((h ++ es) ++ events.Gen u.0 m x u.1 ∷ []) = subst (λ (z : MultiEvent). Legal ((h ++ es) ++ z ∷ [])) u.2 legal in
      let may = each_place_last (MultiMayCome base (BeginsAs starts)) (h ++ es) (events.Gen u.0 m x u.1) its in
      let start = may.first in
      let from = first_from (free_offset base.offset (h ++ es)) in
      let up = (rise_to h es front).offset in
      inr (omega arith))
      (made_cases (h ++ es) e m x there))
      es

  -- ---- the oldest multixact at some place, and its offset

  -- one of this life from it on begins no earlier
  pub gen_upto : (h : List MultiEvent) (k m x : ℕ) → Legal h → made_at m h ≡ Some x → oldest_multi base.oldest_multi (take k h) ≤ m → oldest_offset base.oldest_offset (take k h) ≤ x
  gen_upto h k m x legal t l =
      let whole : h ≡ take k h ++ drop k h = sym (take-append-drop k h) in
      let front = legal_take h k legal in
      let s = sound (take k h) front in
      ⊎_elim
      (λ (u : made_at m (take k h) ≡ Some x). s.kept m x l u)
      (λ (u : free_offset base.offset (take k h) ≤ x). let c = s.counters.oldest_offset in omega arith)
      (later_made (take k h) (drop k h) m x (subst Legal whole legal) (subst (λ (g : List MultiEvent). made_at m g ≡ Some x) whole t))

  -- and one of the base
  upto_step : (h : List MultiEvent) (e : MultiEvent) (multi offset : ℕ) → MultiMayCome base (BeginsAs starts) h e → multi < base.multi → Contains starts (start_of multi offset)
      → (oldest_multi base.oldest_multi h ≤ multi → oldest_offset base.oldest_offset h ≤ offset)
      → oldest_multi_after (oldest_multi base.oldest_multi h) e ≤ multi → oldest_offset_after (oldest_offset base.oldest_offset h) e ≤ offset
  upto_step h (events.Gen by m o members) multi offset may below k before l = before l
  upto_step h (events.Hold by m) multi offset may below k before l = before l
  upto_step h (events.Unhold by m) multi offset may below k before l = before l
  upto_step h (events.Raise by m o) multi offset may below k before l = fits.rising (start_of m o) (start_of multi offset) (may.begins.of_base (omega arith)) k l

  pub base_upto : (multi offset : ℕ) → multi < base.multi → Contains starts (start_of multi offset) → (h : List MultiEvent) → Legal h → oldest_multi base.oldest_multi h ≤ multi → oldest_offset base.oldest_offset h ≤ offset
  base_upto multi offset below k h =
      by_end (λ (h : List MultiEvent). Legal h → oldest_multi base.oldest_multi h ≤ multi → oldest_offset base.oldest_offset h ≤ offset)
      (λ legal l. fits.least (start_of multi offset) k l)
      (λ h e before legal l.
      let may = each_place_last (MultiMayCome base (BeginsAs starts)) h e legal in
      let earlier = before (legal_start h (e ∷ []) legal) in
      subst (λ n. n ≤ offset) (sym (oldest_offset_push base.oldest_offset h e)) (upto_step h e multi offset may below k earlier (subst (λ n. n ≤ multi) (oldest_push base.oldest_multi h e) l)))
      h
