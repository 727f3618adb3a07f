-- A name is asked for, and a pass is cut in two.
use Rattle.std.proofs.Common.{◌≡◌, ℕ, ◌<◌, ◌≢◌, true, false, List, [], ◌∷◌, ◌++◌, length, get_or, set, replicate, refl, sym, ◌∙◌, ap, subst, inl, inr, ⊎_elim, get_or-set_same, get_or-set_other, eqb, arith}
use mathlib.Core.Option.{some, none, some-injective}
use mathlib.Core.Logic.{dite}
use native.Mathlib.Decide.{ℕ_discrete}
use lib.ListN.{get_elem?, length-replicate}
use prog.Atomic.{either}
use Rattle.atomic_table.specs.Table.{State, Me, step, keeps, Allows, Splits}
use Rattle.atomic_table.proofs.Lists.{set_here, set_else, at_longer, at_last, exchanged}
use Rattle.notes.specs.Lists.{at, Grows}
use Rattle.hall.specs.Lists.{OwnSeen}
use Rattle.hall.specs.declared.writer.Writer.{Writer}
use Rattle.hall.specs.declared.view.View.{View}
use Rattle.hall.specs.declared.view.Held.{Held}
use Rattle.hall.specs.Rule.{Holds, IsIn, Unique, Stands, Told, Kept}
use Rattle.hall.specs.Told.{asking, giving, given, asks}
use Rattle.hall.proofs.Pieces.{each_set, unique_set, no_other, inside}
use Rattle.notes.proofs.Names.{at_end, blank, true_inside}
use Rattle.hall.proofs.Moves.{same_words, home_stays, loaded, free_not_in}

module _ {S V E : Type 0} (start : S) (passes places : ℕ) (session : E → ℕ) (writer : S → ℕ → Writer) (stands : S → ℕ → V → List E → Type 0) (number : S → ℕ → List E → ℕ) (kept : S → List (List E) → Type 0) where
  abbrev Rule : State (Held V E) (View S E) → Type 0
  Rule = Kept start passes places session writer stands number kept

  pub asks_name : (slots me i n : ℕ) (m : Me (Held V E) (View S E)) → Allows Rule slots me m i (λ x. either (eqb x n) n x) (asks (step slots i n n none) m)
  asks_name slots me i n m s r deep is small =
      let w = asking n m.0 in let same : either (eqb (get_or s.words i 0) n) n (get_or s.words i 0) ≡ get_or s.words i 0 = exchanged (get_or s.words i 0) n n (λ z. z ≡ get_or s.words i 0) (λ e. sym e) (λ _. refl) in (
        w,
        keeps,
        tt,
        subst (λ (z : ℕ). Rule record { words = set s.words i z; homes = s.homes; views = set s.views me w }) (sym same)
            (loaded start passes places session writer stands number kept s i me m.1 w s.homes
            (same_words start passes places session writer stands number kept s r me m.0 w is (λ a e. e) refl (r.stages me m.0 is) (r.knows me m.0 is) refl refl (λ c e. e) (r.told me m.0 is))),
        (refl, refl),
      )

  -- the pass gives the name that it asked for
  module _ (s : State (Held V E) (View S E)) (r : Rule s) (me : ℕ) (v : View S E) (is : get_elem? s.views me ≡ some v) (has : Holds v v.asked) (other : v.asked ≢ v.name) where
    abbrev l : View S E
    l = giving v

    abbrev g : View S E
    g = given v

    abbrev vs : List (View S E)
    vs = set s.views me l

    -- what is left with the pass
    left_holds : (m : ℕ) → Holds l m → Holds v m × (m ≢ v.asked)
    left_holds m h = dite (ℕ_discrete m v.asked)
        (λ (e : m ≡ v.asked). absurd (let P : ℕ → Type 0 = λ z. get_or (set v.holds v.asked false) z false ≡ true in let q = subst P e h in let f = get_or-set_same v.holds v.asked false false (true_inside v.holds v.asked has) in let b : false ≡ true = sym f ∙ q in cc))
        (λ ne. (sym (get_or-set_other v.holds v.asked m false false ne) ∙ h, ne))

    left_still : (m : ℕ) → Holds v m → m ≢ v.asked → Holds l m
    left_still m h ne = get_or-set_other v.holds v.asked m false false ne ∙ h

    -- what is given
    given_holds : (m : ℕ) → Holds g m → m ≡ v.asked
    given_holds m h = dite (ℕ_discrete m v.asked) (λ e. e) (λ ne. absurd (
        let f = get_or-set_other (replicate (length v.holds) false) v.asked m true false ne in let b : false ≡ true = sym (blank (length v.holds) m) ∙ (sym f ∙ h) in cc))

    given_still : Holds g v.asked
    given_still = get_or-set_same (replicate (length v.holds) false) v.asked true false (let t = true_inside v.holds v.asked has in let e = length-replicate (length v.holds) false in omega arith)

    each : (P : ℕ → View S E → Type 0) → P me l → ((j : ℕ) → P j g) → ((j : ℕ) (d : View S E) → j ≢ me → get_elem? s.views j ≡ some d → P j d) → (j : ℕ) (d : View S E) → get_elem? (vs ++ g ∷ []) j ≡ some d → P j d
    each P a b c j d e = ⊎_elim (λ h. each_set P s.views me l a c j d h) (λ (h : (j ≡ length vs) × (g ≡ d)). subst (P j) h.1 (b j)) (at_end vs g d j e)

    unique : {K : Type 0} (R : View S E → K → Type 0) → Unique vs R → ((k : K) → R g k → (j : ℕ) (d : View S E) → get_elem? vs j ≡ some d → R d k → ⊥) → Unique (vs ++ g ∷ []) R
    unique {K} R old fresh i j d e k di ej rd re =
        ⊎_elim (λ a. ⊎_elim (λ b. old i j d e k a b rd re) (λ (b : (j ≡ length vs) × (g ≡ e)). absurd (fresh k (subst (λ (z : View S E). R z k) (sym b.1) re) i d a rd)) (at_end vs g e j ej))
        (λ (a : (i ≡ length vs) × (g ≡ d)). ⊎_elim (λ b. absurd (fresh k (subst (λ (z : View S E). R z k) (sym a.1) rd) j e b re)) (λ (b : (j ≡ length vs) × (g ≡ e)). a.0 ∙ sym b.0) (at_end vs g e j ej)) (at_end vs g d i di)

    pub splits : Rule record { words = s.words; homes = s.homes; views = vs ++ g ∷ [] }
    splits = record {
      n = r.n;
      p = r.p;
      total = r.total;
      locks = r.locks;
      posted = r.posted;
      lists = r.lists;
      many = r.many;
      deep = r.deep;
      wide = r.wide;
      law = r.law;
      starts = λ j d a at e. each (λ _ z. (b : S) → z.start ≡ b ∷ [] → b ≡ start) (λ b q. r.starts me v b is q) (λ _ b q. r.starts me v b is q) (λ i z _ o b q. r.starts i z b o q) j d at a e;
      home = λ c lt. ⊎_elim (λ h. inl h) (λ o. inr (o.0, (o.1.0, o.1.1, at_longer vs (g ∷ []) o.1.0 o.1.1 o.1.2, o.1.3))) (home_stays start passes places session writer stands number kept s r me v l is (λ a e. e) c lt);
      stages = each (λ _ z. Stands (writer start) r.n s.words r.lists z.seen z.stage) (r.stages me v is) (λ _. tt) (λ j d _ o. r.stages j d o);
      apart = unique IsIn (unique_set IsIn s.views me l r.apart (no_other IsIn s.views me v l is r.apart (λ k h. h))) (λ k h. absurd (free_not_in k h));
      knows = each (λ _ z. Grows z.seen r.lists × ((m : ℕ) → Holds z m → OwnSeen session (writer start) m z.seen r.lists)) ((r.knows me v is).0, (λ m h. (r.knows me v is).1 m (left_holds m h).0))
          (λ _. ((r.knows me v is).0, (λ m h. (r.knows me v is).1 m (subst (Holds v) (sym (given_holds m h)) has)))) (λ j d _ o. r.knows j d o);
      alone = unique Holds (unique_set Holds s.views me l r.alone (no_other Holds s.views me v l is r.alone (λ m h. (left_holds m h).0)))
          (λ m h j d o hd. each_set (λ i z. Holds z m → ⊥) s.views me l (λ q. (left_holds m q).1 (given_holds m h)) (λ i z ne at q. ne (r.alone i me z v m at is q (subst (Holds v) (sym (given_holds m h)) has))) j d o hd);
      told = each (λ _ z. Told session (writer start) z.merged) (r.told me v is) (λ _. tt) (λ j d _ o. r.told j d o);
      named = λ j d m at hm. each (λ _ z. Holds z m → m < passes) (λ k. r.named me v m is (left_holds m k).0) (λ _ k. r.named me v m is (subst (Holds v) (sym (given_holds m k)) has)) (λ i z _ o k. r.named i z m o k) j d at hm;
      owner = λ j d c at h. each (λ _ z. IsIn z c → Holds z z.name) (λ k. left_still v.name (r.owner me v c is k) (λ e. other (sym e))) (λ _ k. absurd (free_not_in c k)) (λ i z _ o k. r.owner i z c o k) j d at h;
      whole = λ c lt. let o = r.whole c lt in dite (ℕ_discrete o.0 me)
          (λ (q : o.0 ≡ me). let d_is : o.1 ≡ v = some-injective _ _ (sym o.3 ∙ (ap (get_elem? s.views) q ∙ is)) in let hv = subst (λ (z : View S E). Holds z o.2) d_is o.4 in let sv = subst (λ (z : View S E). at z.seen c ≡ at r.lists c) d_is o.5 in
          dite (ℕ_discrete o.2 v.asked) (λ e. (length vs, g, v.asked, at_last vs g (length vs) refl, given_still, sv))
          (λ ne. (me, l, o.2, at_longer vs (g ∷ []) me l (set_here s.views me l (inside s.views me v is)), left_still o.2 hv ne, sv)))
          (λ ne. (o.0, o.1, o.2, at_longer vs (g ∷ []) o.0 o.1 (set_else s.views me o.0 l ne ∙ o.3), o.4, o.5));
    }

  pub splits_off : (id : ℕ) (v : View S E) → Holds v v.asked → v.asked ≢ v.name → Splits Rule id v (giving v) (given v)
  splits_off id v has other s r is = splits s r id v is has other
