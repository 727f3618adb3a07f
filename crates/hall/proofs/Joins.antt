-- A pass takes in another.
use Rattle.std.proofs.Common.{◌≡◌, ℕ, ◌<◌, ◌≤◌, ◌≢◌, ◌⊎◌, ◌||◌, true, false, List, [], ◌∷◌, length, get_or, set, refl, sym, ◌∙◌, ap, subst, inl, inr, ⊎_elim, arith}
use mathlib.Core.Option.{some, some-injective}
use mathlib.Core.Logic.{dite}
use native.Mathlib.Decide.{ℕ_discrete}
use lib.ListN.{get_elem?}
use Rattle.atomic_table.specs.Table.{State, Joins}
use Rattle.atomic_table.proofs.Lists.{set_here, set_else}
use Rattle.notes.specs.Lists.{at, Begins, Grows}
use Rattle.hall.specs.Lists.{OwnSeen}
use Rattle.hall.specs.declared.writer.Writer.{Writer}
use Rattle.hall.specs.declared.view.Stage.{Stage}
use Rattle.hall.specs.declared.view.Stage.TheVariants.{Free, Inside}
use Rattle.hall.specs.declared.view.View.{View}
use Rattle.hall.specs.declared.view.Held.{Held}
use Rattle.hall.specs.Rule.{Holds, IsIn, Unique, Stands, Out, Told, Kept}
use Rattle.hall.specs.Told.{joined, spent}
use Rattle.notes.proofs.Growing.{begins_same, begins_length, begins_whole, begins_shorter, own_between}
use Rattle.hall.proofs.Pieces.{each_set, unique_set, inside}
use Rattle.hall.proofs.Moves.{free_not_in}
use Rattle.hall.proofs.Merging.{set_swap, longer_cases, longer_at, either_at, not_nil, one_of, or_true}

module _ {S V E : Type 0} (start : S) (passes places : ℕ) (session : E → ℕ) (writer : S → ℕ → Writer) (stands : S → ℕ → V → List E → Type 0) (number : S → ℕ → List E → ℕ) (kept : S → List (List E) → Type 0) where
  abbrev Rule : State (Held V E) (View S E) → Type 0
  Rule = Kept start passes places session writer stands number kept

  -- the pass takes in another
  module _ (s : State (Held V E) (View S E)) (r : Rule s) (me you : ℕ) (v w : View S E) (is : get_elem? s.views me ≡ some v) (apart : you ≢ me) (your : get_elem? s.views you ≡ some w) (free : w.stage ≡ Free) where
    abbrev b : View S E
    b = joined v w

    abbrev p : View S E
    p = spent

    abbrev us : List (View S E)
    us = set s.views you p

    me_there : get_elem? us me ≡ some v
    me_there = set_else s.views you me p (λ e. apart (sym e)) ∙ is

    both_holds : (m : ℕ) → Holds b m → Holds v m ⊎ Holds w m
    both_holds m h = let e : (get_or v.holds m false || get_or w.holds m false) ≡ true = sym (either_at v.holds w.holds m) ∙ h in one_of (get_or v.holds m false) (get_or w.holds m false) e

    holds_left : (m : ℕ) → Holds v m → Holds b m
    holds_left m h = either_at v.holds w.holds m ∙ ap (λ z. z || get_or w.holds m false) h

    holds_right : (m : ℕ) → Holds w m → Holds b m
    holds_right m h = either_at v.holds w.holds m ∙ (ap (λ z. get_or v.holds m false || z) h ∙ or_true (get_or v.holds m false))

    both_seen : (c : ℕ) → ((length (at v.seen c) < length (at w.seen c)) × (at b.seen c ≡ at w.seen c)) ⊎ ((length (at w.seen c) ≤ length (at v.seen c)) × (at b.seen c ≡ at v.seen c))
    both_seen c = ⊎_elim (λ h. inl (h.0, longer_at v.seen w.seen c ∙ h.1)) (λ h. inr (h.0, longer_at v.seen w.seen c ∙ h.1)) (longer_cases (at v.seen c) (at w.seen c))

    -- the longer beginning begins the list, and begins with both
    grown : (c : ℕ) → Begins (at b.seen c) (at r.lists c) × Begins (at v.seen c) (at b.seen c) × Begins (at w.seen c) (at b.seen c)
    grown c = let bv = (r.knows me v is).0.begins c in let bw = (r.knows you w your).0.begins c in let P : List E → Type 0 = λ z. Begins z (at r.lists c) × Begins (at v.seen c) z × Begins (at w.seen c) z in
        ⊎_elim (λ h. let l = h.0 in subst P (sym h.1) (bw, begins_shorter (at v.seen c) (at w.seen c) (at r.lists c) bv bw (omega arith), begins_same (at w.seen c)))
        (λ h. subst P (sym h.1) (bv, begins_same (at v.seen c), begins_shorter (at w.seen c) (at v.seen c) (at r.lists c) bw bv h.0)) (both_seen c)

    -- who has seen a list whole has the longer one
    whole_left : (c : ℕ) → at v.seen c ≡ at r.lists c → at b.seen c ≡ at r.lists c
    whole_left c e = let g = grown c in begins_whole (at b.seen c) (at r.lists c) g.0 (let k = begins_length (at v.seen c) (at b.seen c) g.1 in let q : length (at v.seen c) ≡ length (at r.lists c) = ap length e in omega arith)

    whole_right : (c : ℕ) → at w.seen c ≡ at r.lists c → at b.seen c ≡ at r.lists c
    whole_right c e = let g = grown c in begins_whole (at b.seen c) (at r.lists c) g.0 (let k = begins_length (at w.seen c) (at b.seen c) g.2 in let q : length (at w.seen c) ≡ length (at r.lists c) = ap length e in omega arith)

    each_two : (P : ℕ → View S E → Type 0) → P me b → P you p → ((j : ℕ) (d : View S E) → j ≢ me → j ≢ you → get_elem? s.views j ≡ some d → P j d) → (j : ℕ) (d : View S E) → get_elem? (set us me b) j ≡ some d → P j d
    each_two P x y z = each_set P us me b x (λ j d ne o. each_set (λ i q. i ≢ me → P i q) s.views you p (λ _. y) (λ i q other at k. z i q k other at) j d o ne)

    unique_two : {K : Type 0} (R : View S E → K → Type 0) → Unique s.views R → ((k : K) → R p k → ⊥) → ((k : K) → R b k → R v k ⊎ R w k) → Unique (set us me b) R
    unique_two R old nil back = unique_set R us me b (unique_set R s.views you p old (λ k h. absurd (nil k h)))
        (λ k mine j d ne o hd. each_set (λ i q. i ≢ me → R q k → ⊥) s.views you p (λ _ h. nil k h)
        (λ i q other at k_ne hq. ⊎_elim (λ hv. k_ne (old i me q v k at is hq hv)) (λ hw. other (old i you q w k at your hq hw)) (back k mine)) j d o ne hd)

    still_stands : (st : Stage) → Stands (writer start) r.n s.words r.lists v.seen st → Stands (writer start) r.n s.words r.lists b.seen st
    still_stands Free h = tt
    still_stands (Inside c) h = (h.0, h.1, record { whole = λ q own. whole_left q (h.2.whole q own) })

    you_out : (c : ℕ) (o : Out s.views c) → o.0 ≢ you
    you_out c o e = let d_is : o.1 ≡ w = some-injective _ _ (sym o.2 ∙ (ap (get_elem? s.views) e ∙ your)) in free_not_in c (sym free ∙ (ap (λ (z : View S E). z.stage) (sym d_is) ∙ o.3))

    still_out : (c : ℕ) → Out s.views c → Out (set us me b) c
    still_out c o = dite (ℕ_discrete o.0 me)
        (λ (q : o.0 ≡ me). let d_is : o.1 ≡ v = some-injective _ _ (sym o.2 ∙ (ap (get_elem? s.views) q ∙ is)) in (me, b, set_here us me b (inside us me v me_there), ap (λ (z : View S E). z.stage) (sym d_is) ∙ o.3))
        (λ ne. (o.0, o.1, set_else us me o.0 b ne ∙ (set_else s.views you o.0 p (you_out c o) ∙ o.2), o.3))

    pub joins : Rule record { words = s.words; homes = s.homes; views = set us me b }
    joins = record {
      n = r.n;
      p = r.p;
      total = r.total;
      locks = r.locks;
      posted = r.posted;
      lists = r.lists;
      many = r.many;
      deep = r.deep;
      wide = r.wide;
      law = r.law;
      starts = λ j d a at e. each_two (λ _ z. (c : S) → z.start ≡ c ∷ [] → c ≡ start) (λ c q. r.starts me v c is q) (λ c q. absurd (not_nil c q)) (λ i z _ _ o c q. r.starts i z c o q) j d at a e;
      home = λ c lt. ⊎_elim (λ h. inl h) (λ k. inr (k.0, still_out c k.1)) (r.home c lt);
      stages = each_two (λ _ z. Stands (writer start) r.n s.words r.lists z.seen z.stage)
          (still_stands v.stage (r.stages me v is)) tt (λ j d _ _ o. r.stages j d o);
      apart = unique_two IsIn r.apart (λ k h. free_not_in k h) (λ k h. inl h);
      knows = each_two (λ _ z. Grows z.seen r.lists × ((m : ℕ) → Holds z m → OwnSeen session (writer start) m z.seen r.lists)) (
        record { begins = λ c. (grown c).0 },
        (λ m h. ⊎_elim (λ hv. let k = (r.knows me v is).1 m hv in record { entries = λ c. own_between session m (at v.seen c) (at b.seen c) (at r.lists c) (grown c).1 (grown c).0 (k.entries c); words = record { whole = λ q own. whole_left q (k.words.whole q own) } })
            (λ hw. let k = (r.knows you w your).1 m hw in record { entries = λ c. own_between session m (at w.seen c) (at b.seen c) (at r.lists c) (grown c).2 (grown c).0 (k.entries c); words = record { whole = λ q own. whole_right q (k.words.whole q own) } }) (both_holds m h)),
      )
          (record { begins = λ c. (at r.lists c, refl) }, (λ m h. absurd (let f : false ≡ true = h in cc))) (λ j d _ _ o. r.knows j d o);
      alone = unique_two Holds r.alone (λ m h. let f : false ≡ true = h in cc) both_holds;
      told = each_two (λ _ z. Told session (writer start) z.merged) (
        (record { begins = λ c. (grown c).1 }, (λ m h. let k = (r.knows me v is).1 m h in record { entries = λ c. sym (own_between session m (at v.seen c) (at b.seen c) (at r.lists c) (grown c).1 (grown c).0 (k.entries c)) ∙ k.entries c; words = record { whole = λ q own. k.words.whole q own ∙ sym (whole_left q (k.words.whole q own)) } })),
        (record { begins = λ c. (grown c).2 }, (λ m h. let k = (r.knows you w your).1 m h in record { entries = λ c. sym (own_between session m (at w.seen c) (at b.seen c) (at r.lists c) (grown c).2 (grown c).0 (k.entries c)) ∙ k.entries c; words = record { whole = λ q own. k.words.whole q own ∙ sym (whole_right q (k.words.whole q own)) } })),
      ) tt (λ j d _ _ o. r.told j d o);
      named = λ j d m at hm. each_two (λ _ z. Holds z m → m < passes) (λ h. ⊎_elim (r.named me v m is) (r.named you w m your) (both_holds m h)) (λ h. absurd (let f : false ≡ true = h in cc)) (λ i z _ _ o k. r.named i z m o k) j d at hm;
      owner = λ j d c at h. each_two (λ _ z. IsIn z c → Holds z z.name) (λ k. holds_left v.name (r.owner me v c is k)) (λ k. absurd (free_not_in c k)) (λ i z _ _ o k. r.owner i z c o k) j d at h;
      whole = λ c lt. let o = r.whole c lt in dite (ℕ_discrete o.0 me)
          (λ (q : o.0 ≡ me). let d_is : o.1 ≡ v = some-injective _ _ (sym o.3 ∙ (ap (get_elem? s.views) q ∙ is)) in
          (me, b, o.2, set_here us me b (inside us me v me_there), holds_left o.2 (subst (λ (z : View S E). Holds z o.2) d_is o.4), whole_left c (subst (λ (z : View S E). at z.seen c ≡ at r.lists c) d_is o.5)))
          (λ ne. dite (ℕ_discrete o.0 you)
          (λ (q : o.0 ≡ you). let d_is : o.1 ≡ w = some-injective _ _ (sym o.3 ∙ (ap (get_elem? s.views) q ∙ your)) in
          (me, b, o.2, set_here us me b (inside us me v me_there), holds_right o.2 (subst (λ (z : View S E). Holds z o.2) d_is o.4), whole_right c (subst (λ (z : View S E). at z.seen c ≡ at r.lists c) d_is o.5)))
          (λ other. (o.0, o.1, o.2, set_else us me o.0 b ne ∙ (set_else s.views you o.0 p other ∙ o.3), o.4, o.5)));
    }

  pub joins_in : (id : ℕ) (v : View S E) (other : ℕ) (w : View S E) → w.stage ≡ Free → Joins Rule id v other w (joined v w) spent
  joins_in id v other w free s r is ne your =
      let back : get_elem? s.views other ≡ some w = sym (set_else s.views id other (joined v w) ne) ∙ your in
      subst (λ (z : List (View S E)). Rule record { words = s.words; homes = s.homes; views = z }) (set_swap s.views other id spent (joined v w) ne) (joins s r id other v w is ne back free)
