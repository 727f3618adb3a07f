-- Publishing a word keeps the rule.
use Rattle.std.proofs.Common.{◌≡◌, ℕ, ◌+◌, ◌<◌, ◌≢◌, List, [], ◌∷◌, ◌++◌, length, get_or, set, refl, sym, ◌∙◌, ap, subst, inl, inr, ⊎_elim, eqb, get_or-set_same, get_or-set_other, length-set, arith, Option, Some, None}
use mathlib.Core.Option.{some, none, some-injective}
use mathlib.Core.Option as maybe
use mathlib.Core.Logic.{dite}
use native.Mathlib.Decide.{ℕ_discrete}
use lib.ListN.{get_elem?}
use prog.Atomic.{either}
use Rattle.atomic_table.specs.Table.{State, Me, step, keeps, Allows}
use Rattle.atomic_table.proofs.Lists.{set_here, set_else, exchanged}
use Rattle.hall.specs.Layout.{line_of}
use Rattle.notes.specs.Lists.{at, Begins, own, Grows, Knows}
use Rattle.hall.specs.Lists.{OwnSeen, Whole}
use Rattle.hall.specs.declared.writer.Writer.{Writer}
use Rattle.hall.specs.declared.writer.Writer.TheVariants.{Session, Lock}
use Rattle.hall.specs.declared.view.Stage.{Stage}
use Rattle.hall.specs.declared.view.Stage.TheVariants.{Free, Inside}
use Rattle.hall.specs.declared.view.View.{View}
use Rattle.hall.specs.declared.view.Held.{Held}
use Rattle.notes.specs.declared.note.Note.{Note}
use Rattle.hall.specs.Rule.{Holds, IsIn, Stands, Writes, Told, Kept}
use Rattle.hall.specs.Told.{published, publishes}
use Rattle.notes.proofs.Growing.{begins_same, begins_more, own_other, at_here, at_else}
use Rattle.hall.proofs.Pieces.{each_set, unique_set, no_other, inside}
use Rattle.hall.proofs.Moves.{out_stays, writes_whole, word_shows}

module _ {S V E : Type 0} (start : S) (passes places : ℕ) (session : E → ℕ) (writer : S → ℕ → Writer) (stands : S → ℕ → V → List E → Type 0) (number : S → ℕ → List E → ℕ) (kept : S → List (List E) → Type 0) where
  abbrev St : Type 0
  St = State (Held V E) (View S E)

  abbrev M : Type 0
  M = Me (Held V E) (View S E)

  abbrev Rule : St → Type 0
  Rule = Kept start passes places session writer stands number kept

  -- the word w becomes the number x, and the history at its place has one entry more
  module _ (s : St) (r : Rule s) (me w x : ℕ) (v : View S E) (e : E) (is : get_elem? s.views me ≡ some v) (word : w < r.p) (seen_wide : r.n + w < length v.seen) (mine : Holds v v.name) (by : session e ≡ v.name)
      (writes : Writes (writer start (r.n + w)) v) (shows : number start (r.n + w) (at v.seen (r.n + w) ++ e ∷ []) ≡ x)
      (lawful : (lists : List (List E)) → kept start lists → Knows session (session e) v.seen lists → Whole (writer start) (Session (session e)) v.seen lists → r.n + w < length lists → Whole (writer start) (writer start (r.n + w)) v.seen lists → kept start (set lists (r.n + w) (at lists (r.n + w) ++ e ∷ []))) where
    abbrev place : ℕ
    place = r.n + w

    abbrev xs : List E
    xs = at r.lists place ++ e ∷ []

    abbrev ls : List (List E)
    ls = set r.lists place xs

    abbrev word_at : ℕ
    word_at = line_of place

    abbrev wl : List ℕ
    wl = set s.words word_at x

    abbrev u : View S E
    u = published place e v

    all_whole : Whole (writer start) (writer start place) v.seen r.lists
    all_whole = writes_whole start passes places session writer stands number kept s r me v is (writer start place) writes

    list_here : at ls place ≡ xs
    list_here = at_here r.lists place e (let m = r.many in omega arith)

    list_else : (k : ℕ) → k ≢ place → at ls k ≡ at r.lists k
    list_else k ne = at_else r.lists place k e ne

    seen_else : (k : ℕ) → k ≢ place → at u.seen k ≡ at v.seen k
    seen_else k ne = at_else v.seen place k e ne

    own_here : OwnSeen session (writer start) (session e) v.seen r.lists
    own_here = subst (λ (z : ℕ). OwnSeen session (writer start) z v.seen r.lists) (sym by) ((r.knows me v is).1 v.name mine)

    seen_u : at u.seen place ≡ at ls place
    seen_u = at_here v.seen place e seen_wide ∙ (ap (λ (z : List E). z ++ e ∷ []) (all_whole.whole place refl) ∙ sym list_here)

    -- what the pass had seen whole it sees whole
    my_whole : (k : ℕ) → at v.seen k ≡ at r.lists k → at u.seen k ≡ at ls k
    my_whole k e = dite (ℕ_discrete k place)
        (λ (q : k ≡ place). let P : ℕ → Type 0 = λ z. at u.seen z ≡ at ls z in subst P (sym q) seen_u)
        (λ ne. seen_else k ne ∙ (e ∙ sym (list_else k ne)))

    word_else : (k : ℕ) → k ≢ word_at → get_or wl k 0 ≡ get_or s.words k 0
    word_else k ne = get_or-set_other s.words word_at k x 0 ne

    -- another pass may not write here
    not_session : (j : ℕ) (d : View S E) (m k : ℕ) → j ≢ me → get_elem? s.views j ≡ some d → Holds d m → writer start k ≡ Session m → k ≢ place
    not_session j d m k ne o hd is_own q =
        let own : writer start place ≡ Session m = let P : ℕ → Type 0 = λ z. writer start z ≡ Session m in subst P q is_own in
        ne (r.alone j me d v m o is hd (subst (λ (z : Writer). Writes z v) own writes))

    not_lock : (j : ℕ) (d : View S E) (c k : ℕ) → j ≢ me → get_elem? s.views j ≡ some d → IsIn d c → writer start k ≡ Lock c → k ≢ place
    not_lock j d c k ne o has is_own q =
        let own : writer start place ≡ Lock c = let P : ℕ → Type 0 = λ z. writer start z ≡ Lock c in subst P q is_own in
        ne (r.apart j me d v c o is has (subst (λ (z : Writer). Writes z v) own writes))

    my_stands : (st : Stage) → Stands (writer start) r.n s.words r.lists v.seen st → Stands (writer start) r.n wl ls u.seen st
    my_stands Free h = tt
    my_stands (Inside c) h = let k = h.0 in (h.0, word_else (line_of c) (λ q. omega arith) ∙ h.1, record { whole = λ k own. my_whole k (h.2.whole k own) })

    their_stands : (j : ℕ) (d : View S E) → j ≢ me → get_elem? s.views j ≡ some d → (st : Stage) → d.stage ≡ st → Stands (writer start) r.n s.words r.lists d.seen st → Stands (writer start) r.n wl ls d.seen st
    their_stands j d ne o Free has h = tt
    their_stands j d ne o (Inside c) has h = let k = h.0 in (h.0, word_else (line_of c) (λ q. omega arith) ∙ h.1, record { whole = λ k own. h.2.whole k own ∙ sym (list_else k (not_lock j d c k ne o has own)) })

    my_seen : (k : ℕ) → Begins (at u.seen k) (at ls k) × ((m : ℕ) → Holds v m → own session m (at ls k) ≡ own session m (at u.seen k))
    my_seen k = dite (ℕ_discrete k place)
        (λ (q : k ≡ place). let P : ℕ → Type 0 = λ z. Begins (at u.seen z) (at ls z) × ((m : ℕ) → Holds v m → own session m (at ls z) ≡ own session m (at u.seen z)) in subst P (sym q)
        (subst (λ (z : List E). Begins z (at ls place)) (sym seen_u) (begins_same (at ls place)), (λ m _. ap (own session m) (sym seen_u))))
        (λ ne. (
          let a = (r.knows me v is).0.begins k in subst (λ (z : List E × List E). Begins z.0 z.1) (λ i. (sym (seen_else k ne) i, sym (list_else k ne) i)) a,
          (λ m hm. ap (own session m) (list_else k ne) ∙ (((r.knows me v is).1 m hm).entries k ∙ ap (own session m) (sym (seen_else k ne)))),
        ))

    their_seen : (j : ℕ) (d : View S E) → j ≢ me → get_elem? s.views j ≡ some d → (k : ℕ) → Begins (at d.seen k) (at ls k) × ((m : ℕ) → Holds d m → own session m (at ls k) ≡ own session m (at d.seen k))
    their_seen j d ne o k = dite (ℕ_discrete k place)
        (λ (q : k ≡ place). let P : ℕ → Type 0 = λ z. Begins (at d.seen z) (at ls z) × ((m : ℕ) → Holds d m → own session m (at ls z) ≡ own session m (at d.seen z)) in subst P (sym q) (
          subst (λ (z : List E). Begins (at d.seen place) z) (sym list_here) (begins_more (at d.seen place) (at r.lists place) (e ∷ []) ((r.knows j d o).0.begins place)),
          (λ m hm. let not_mine : session e ≢ m = λ z. ne (r.alone j me d v m o is hm (subst (Holds v) (sym by ∙ z) mine)) in
              ap (own session m) list_here ∙ (own_other session m (at r.lists place) e not_mine ∙ ((r.knows j d o).1 m hm).entries place)),
        ))
        (λ other. (
          subst (λ (z : List E). Begins (at d.seen k) z) (sym (list_else k other)) ((r.knows j d o).0.begins k),
          (λ m hm. ap (own session m) (list_else k other) ∙ ((r.knows j d o).1 m hm).entries k),
        ))

    pub publishes_one : Rule record { words = wl; homes = s.homes; views = set s.views me u }
    publishes_one = record {
      n = r.n;
      p = r.p;
      lists = ls;
      many = length-set r.lists place xs ∙ r.many;
      deep = r.deep;
      wide = length-set s.words word_at x ∙ r.wide;
      law = lawful r.lists r.law record { grows = (r.knows me v is).0; own = own_here.entries } own_here.words (let m = r.many in omega arith) all_whole;
      total = r.total;
      locks = r.locks;
      starts = λ j d a at q. each_set (λ _ z. (c : S) → z.start ≡ c ∷ [] → c ≡ start) s.views me u (λ c z. r.starts me v c is z) (λ i z _ o c y. r.starts i z c o y) j d at a q;
      home = λ c lt. let ne : c ≢ place = λ q. omega arith in let same : get_or wl (line_of c) 0 ≡ get_or s.words (line_of c) 0 = word_else (line_of c) (λ q. omega arith) in
          ⊎_elim (λ a. inl (same ∙ a.0, (a.1.0, a.1.1, a.1.2, a.1.3, subst (stands start c a.1.1) (sym (list_else c ne)) a.1.4)))
          (λ o. inr (same ∙ o.0, out_stays start passes places session writer stands number kept s r me v u is c (λ q. q) o.1)) (r.home c lt);
      stages = each_set (λ _ z. Stands (writer start) r.n wl ls z.seen z.stage) s.views me u (my_stands v.stage (r.stages me v is)) (λ j d ne o. their_stands j d ne o d.stage refl (r.stages j d o));
      apart = unique_set IsIn s.views me u r.apart (no_other IsIn s.views me v u is r.apart (λ k h. h));
      knows = each_set (λ _ z. Grows z.seen ls × ((m : ℕ) → Holds z m → OwnSeen session (writer start) m z.seen ls)) s.views me u (record { begins = λ k. (my_seen k).0 }, (λ m hm. record { entries = λ k. (my_seen k).1 m hm; words = record { whole = λ k own. my_whole k (((r.knows me v is).1 m hm).words.whole k own) } }))
          (λ j d ne o. (record { begins = λ k. (their_seen j d ne o k).0 }, (λ m hm. record { entries = λ k. (their_seen j d ne o k).1 m hm; words = record { whole = λ k own. ((r.knows j d o).1 m hm).words.whole k own ∙ sym (list_else k (not_session j d m k ne o hm own)) } })));
      alone = unique_set Holds s.views me u r.alone (no_other Holds s.views me v u is r.alone (λ m z. z));
      told = each_set (λ _ z. Told session (writer start) z.merged) s.views me u (r.told me v is) (λ j d _ o. r.told j d o);
      named = λ j d m at hm. each_set (λ _ z. Holds z m → m < passes) s.views me u (λ k. r.named me v m is k) (λ i z _ o k. r.named i z m o k) j d at hm;
      owner = λ j d a at has. each_set (λ _ z. IsIn z a → Holds z z.name) s.views me u (λ h. r.owner me v a is h) (λ i z _ o k. r.owner i z a o k) j d at has;
      posted = λ a lt. dite (ℕ_discrete a w)
          (λ (q : a ≡ w). let P : ℕ → Type 0 = λ z. get_or wl (line_of (r.n + z)) 0 ≡ number start (r.n + z) (at ls (r.n + z)) in subst P (sym q) (let l = r.wide in get_or-set_same s.words word_at x 0 (omega arith) ∙ (sym shows ∙ ap (number start place) (ap (λ (z : List E). z ++ e ∷ []) (all_whole.whole place refl) ∙ sym list_here))))
          (λ ne. word_else (line_of (r.n + a)) (λ q. ne (omega arith)) ∙ (r.posted a lt ∙ ap (number start (r.n + a)) (sym (list_else (r.n + a) (λ q. ne (omega arith))))));
      whole = λ k lt. dite (ℕ_discrete k place)
          (λ (q : k ≡ place). let P : ℕ → Type 0 = λ z. at u.seen z ≡ at ls z in (me, u, v.name, set_here s.views me u (inside s.views me v is), mine, subst P (sym q) seen_u))
          (λ ne. let o = r.whole k lt in dite (ℕ_discrete o.0 me)
          (λ (q : o.0 ≡ me). let d_is : o.1 ≡ v = some-injective _ _ (sym o.3 ∙ (ap (get_elem? s.views) q ∙ is)) in
          (me, u, o.2, set_here s.views me u (inside s.views me v is), subst (λ (z : View S E). Holds z o.2) d_is o.4, seen_else k ne ∙ (subst (λ (z : View S E). at z.seen k ≡ at r.lists k) d_is o.5 ∙ sym (list_else k ne))))
          (λ other. (o.0, o.1, o.2, set_else s.views me o.0 u other ∙ o.3, o.4, o.5 ∙ sym (list_else k ne))));
    }

  noted_or : Note E → Option (Note E) → Note E
  noted_or d None = d
  noted_or d (Some e) = e

  said_or : Held V E → maybe.Option (Held V E) → Held V E
  said_or d none = d
  said_or d (some h) = h

  -- the exchange finds the number that the history shows
  pub posts : (slots me i w q old new : ℕ) (m : M) (h : Held V E) (e : Note E) → q ≡ slots + w → i ≡ line_of q → length m.0.seen ≡ places → q < places → h.note ≡ Some e → Holds m.0 m.0.name → session e.value ≡ m.0.name
      → Writes (writer start q) m.0 → number start q (at m.0.seen q) ≡ old → number start q (at m.0.seen q ++ e.value ∷ []) ≡ new
      → ((lists : List (List E)) → kept start lists → Knows session (session e.value) m.0.seen lists → Whole (writer start) (Session (session e.value)) m.0.seen lists → q < length lists → Whole (writer start) (writer start q) m.0.seen lists → kept start (set lists q (at lists q ++ e.value ∷ [])))
      → Allows Rule slots me m i (λ x. either (eqb x old) new x) (publishes (step slots i old new (some h)) m)
  unfolding noted_or said_or
  posts slots me i w q old new m h e q_is at_i wide inside_p noted mine by writes was shows lawful s r deep is small =
      let n_is : slots ≡ r.n = sym deep ∙ r.deep in let total = r.total in
      let here : i ≡ line_of (r.n + w) = omega arith in let place : slots + w ≡ q = omega arith in let there : r.n + w ≡ q = omega arith in
      let whole : at m.0.seen q ≡ at r.lists q = (writes_whole start passes places session writer stands number kept s r me m.0 is (writer start q) writes).whole q refl in
      let found : get_or s.words i 0 ≡ old = sym (word_shows start passes places session writer stands number kept s r slots i w deep (omega arith) (omega arith)) ∙ (ap (λ (z : ℕ). number start z (at r.lists z)) place ∙ (ap (number start q) (sym whole) ∙ was)) in
      let u : View S E = published q e.value m.0 in
      let P : ℕ → Type 0 = λ z. z < length m.0.seen → Writes (writer start z) m.0 → number start z (at m.0.seen z ++ e.value ∷ []) ≡ new
      → ((lists : List (List E)) → kept start lists → Knows session (session e.value) m.0.seen lists → Whole (writer start) (Session (session e.value)) m.0.seen lists → z < length lists → Whole (writer start) (writer start z) m.0.seen lists → kept start (set lists z (at lists z ++ e.value ∷ [])))
      → Rule record { words = set s.words (line_of (r.n + w)) new; homes = s.homes; views = set s.views me (published z e.value m.0) } in
      let one : P (r.n + w) = λ lt a b l. publishes_one s r me w new m.0 e.value is (omega arith) lt mine by a b l in
      let done : Rule record { words = set s.words (line_of (r.n + w)) new; homes = s.homes; views = set s.views me u } = subst P there one (omega arith) writes shows lawful in (
        u,
        keeps,
        tt,
        exchanged (get_or s.words i 0) old new (λ z. Rule record { words = set s.words i z; homes = s.homes; views = set s.views me u })
            (λ _. subst (λ (z : ℕ). Rule record { words = set s.words z new; homes = s.homes; views = set s.views me u }) (sym here) done)
            (λ other. absurd (other found)),
        (λ k h' e' at_k said note.
            let same : q ≡ k = omega arith in
            let held : h ≡ h' = ap (said_or h) said in
            let notes : Some e ≡ Some e' = sym noted ∙ (ap (λ (z : Held V E). z.note) held ∙ note) in
            let e_is : e ≡ e' = ap (noted_or e) notes in
            λ j. (published (same j) (e_is j).value m.0, m.1)),
      )

  -- the same behind a load that found what the history shows
  pub posts_here : (slots me i w q old new : ℕ) (m m' : M) (h : Held V E) (e : Note E) → m' ≡ m → q ≡ slots + w → i ≡ line_of q → length m.0.seen ≡ places → q < places → h.note ≡ Some e → Holds m.0 m.0.name → session e.value ≡ m.0.name
      → Writes (writer start q) m.0 → (Writes (writer start q) m.0 → number start q (at m.0.seen q) ≡ old) → number start q (at m.0.seen q ++ e.value ∷ []) ≡ new
      → ((lists : List (List E)) → kept start lists → Knows session (session e.value) m.0.seen lists → Whole (writer start) (Session (session e.value)) m.0.seen lists → q < length lists → Whole (writer start) (writer start q) m.0.seen lists → kept start (set lists q (at lists q ++ e.value ∷ [])))
      → Allows Rule slots me m' i (λ x. either (eqb x old) new x) (publishes (step slots i old new (some h)) m')
  posts_here slots me i w q old new m m' h e same q_is at_i wide inside_p noted mine by writes checked shows lawful =
      subst (λ (z : M). Allows Rule slots me z i (λ x. either (eqb x old) new x) (publishes (step slots i old new (some h)) z)) (sym same)
      (posts slots me i w q old new m h e q_is at_i wide inside_p noted mine by writes (checked writes) shows lawful)

module _ {S V E : Type 0} where
  -- the view behind a publication
  pub post_tells : (i q : ℕ) (m m' m'' : Me (Held V E) (View S E)) (h : Held V E) (e : Note E) → m' ≡ m → i ≡ line_of q → h.note ≡ Some e → publishes (step 0 i 0 0 (some h)) m' 0 m'' → m'' ≡ (published q e.value m.0, m.1)
  post_tells i q m m' m'' h e same at_i noted told = told q h e at_i refl noted ∙ (λ j. (published q e.value (same j).0, (same j).1))
