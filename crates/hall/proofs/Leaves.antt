-- Releasing a lock keeps the rule.
use Rattle.std.proofs.Common.{◌≡◌, ℕ, ◌+◌, ◌<◌, ◌≢◌, List, [], ◌∷◌, ◌++◌, length, get_or, set, sym, ◌∙◌, ap, subst, inl, inr, ⊎_elim, get_or-set_same, get_or-set_other, length-set, arith, Option, Some, None}
use mathlib.Core.Option.{some, none, some-injective}
use mathlib.Core.Logic.{dite}
use native.Mathlib.Decide.{ℕ_discrete}
use lib.ListN.{get_elem?}
use Rattle.atomic_table.specs.Table.{State, Me, step, keeps, gives, Allows}
use Rattle.atomic_table.proofs.Lists.{set_here, set_else}
use Rattle.hall.specs.Layout.{line_of}
use Rattle.notes.specs.Lists.{at, Begins, own, Grows, Knows}
use Rattle.hall.specs.Lists.{OwnSeen, Whole}
use Rattle.hall.specs.declared.writer.Writer.{Writer}
use Rattle.hall.specs.declared.writer.Writer.TheVariants.{Session, Lock}
use Rattle.hall.specs.declared.view.Stage.{Stage}
use Rattle.hall.specs.declared.view.Stage.TheVariants.{Free, Inside}
use Rattle.hall.specs.declared.view.View.{View}
use Rattle.hall.specs.declared.view.Held.{Held}
use Rattle.notes.specs.declared.note.Note.{Note}
use Rattle.hall.specs.Rule.{Holds, IsIn, Stands, AtHome, Told, Kept}
use Rattle.hall.specs.Told.{left, went}
use Rattle.notes.proofs.Growing.{begins_same, begins_more, own_other, at_here, at_else}
use Rattle.hall.proofs.Pieces.{each_set, unique_set, no_other, inside}
use Rattle.hall.proofs.Moves.{out_stays, stage_same, free_not_in, lock_same, session_not_lock}

module _ {S V E : Type 0} (start : S) (passes places : ℕ) (session : E → ℕ) (writer : S → ℕ → Writer) (stands : S → ℕ → V → List E → Type 0) (number : S → ℕ → List E → ℕ) (kept : S → List (List E) → Type 0) where
  abbrev St : Type 0
  St = State (Held V E) (View S E)

  abbrev M : Type 0
  M = Me (Held V E) (View S E)

  abbrev Rule : St → Type 0
  Rule = Kept start passes places session writer stands number kept

  -- a leave
  module _ (s : St) (r : Rule s) (me c : ℕ) (v : View S E) (h : Held V E) (y : V) (e : E) (is : get_elem? s.views me ≡ some v) (stays : v.stage ≡ Inside c) (seen_wide : c < length v.seen)
      (mine : Holds v v.name) (by : session e ≡ v.name) (filled : h.value ≡ Some y) (stood : stands start c y (at v.seen c ++ e ∷ []))
      (lawful : (lists : List (List E)) → kept start lists → Knows session (session e) v.seen lists → Whole (writer start) (Session (session e)) v.seen lists → c < length lists → Whole (writer start) (writer start c) v.seen lists → kept start (set lists c (at lists c ++ e ∷ []))) where
    abbrev xs : List E
    xs = at r.lists c ++ e ∷ []

    abbrev ls : List (List E)
    ls = set r.lists c xs

    abbrev wl : List ℕ
    wl = set s.words (line_of c) 0

    abbrev u : View S E
    u = left c e v

    stood_here : Stands (writer start) r.n s.words r.lists v.seen (Inside c)
    stood_here = subst (Stands (writer start) r.n s.words r.lists v.seen) stays (r.stages me v is)

    cell_ok : c < r.n
    cell_ok = stood_here.0

    whole_here : at v.seen c ≡ at r.lists c
    whole_here = stood_here.2.whole c (r.locks c cell_ok)

    whole_all : Whole (writer start) (writer start c) v.seen r.lists
    whole_all = subst (λ (z : Writer). Whole (writer start) z v.seen r.lists) (sym (r.locks c cell_ok)) stood_here.2

    -- the lock's history is no other lock's, and no session's
    not_lock : (a k : ℕ) → a ≢ c → writer start k ≡ Lock a → k ≢ c
    not_lock a k ne e q = ne (lock_same a c (sym (let P : ℕ → Type 0 = λ z. writer start z ≡ Lock a in sym (r.locks c cell_ok) ∙ subst P q e)))

    not_session : (m k : ℕ) → writer start k ≡ Session m → k ≢ c
    not_session m k e q = session_not_lock m c (sym (let P : ℕ → Type 0 = λ z. writer start z ≡ Session m in subst P q e) ∙ r.locks c cell_ok)

    own_here : OwnSeen session (writer start) (session e) v.seen r.lists
    own_here = subst (λ (z : ℕ). OwnSeen session (writer start) z v.seen r.lists) (sym by) ((r.knows me v is).1 v.name mine)

    seen_u : at u.seen c ≡ at ls c
    seen_u = at_here v.seen c e seen_wide ∙ (ap (λ (z : List E). z ++ e ∷ []) whole_here ∙ sym (at_here r.lists c e (let m = r.many in let k = cell_ok in omega arith)))

    list_here : at ls c ≡ xs
    list_here = at_here r.lists c e (let m = r.many in let k = cell_ok in omega arith)

    list_else : (k : ℕ) → k ≢ c → at ls k ≡ at r.lists k
    list_else k ne = at_else r.lists c k e ne

    seen_else : (k : ℕ) → k ≢ c → at u.seen k ≡ at v.seen k
    seen_else k ne = at_else v.seen c k e ne

    free_now : get_or wl (line_of c) 0 ≡ 0
    free_now = let wide = r.wide in let k = cell_ok in get_or-set_same s.words (line_of c) 0 0 (omega arith)

    word_else : (k : ℕ) → k ≢ c → get_or wl (line_of k) 0 ≡ get_or s.words (line_of k) 0
    word_else k ne = get_or-set_other s.words (line_of c) (line_of k) 0 0 (λ q. ne (omega arith))

    -- nobody else was inside
    not_in : (j : ℕ) (d : View S E) → j ≢ me → get_elem? s.views j ≡ some d → IsIn d c → ⊥
    not_in j d ne o has = ne (r.apart j me d v c o is has stays)

    still : (seen : List (List E)) (st : Stage) → (st ≡ Inside c → ⊥) → Stands (writer start) r.n s.words r.lists seen st → Stands (writer start) r.n wl ls seen st
    still seen Free out w = tt
    still seen (Inside a) out w = let other : a ≢ c = λ q. out (ap Inside q) in (w.0, word_else a other ∙ w.1, record { whole = λ k own. w.2.whole k own ∙ sym (list_else k (not_lock a k other own)) })

    my_seen : (k : ℕ) → Begins (at u.seen k) (at ls k) × ((m : ℕ) → Holds v m → own session m (at ls k) ≡ own session m (at u.seen k))
    my_seen k = dite (ℕ_discrete k c)
        (λ (q : k ≡ c). let P : ℕ → Type 0 = λ z. Begins (at u.seen z) (at ls z) × ((m : ℕ) → Holds v m → own session m (at ls z) ≡ own session m (at u.seen z)) in subst P (sym q)
        (subst (λ (z : List E). Begins z (at ls c)) (sym seen_u) (begins_same (at ls c)), (λ m _. ap (own session m) (sym seen_u))))
        (λ ne. (
          let a = (r.knows me v is).0.begins k in subst (λ (z : List E × List E). Begins z.0 z.1) (λ i. (sym (seen_else k ne) i, sym (list_else k ne) i)) a,
          (λ m hm. ap (own session m) (list_else k ne) ∙ (((r.knows me v is).1 m hm).entries k ∙ ap (own session m) (sym (seen_else k ne)))),
        ))

    -- a pass of other names has seen all of their entries
    their_seen : (j : ℕ) (d : View S E) → j ≢ me → get_elem? s.views j ≡ some d → (k : ℕ) → Begins (at d.seen k) (at ls k) × ((m : ℕ) → Holds d m → own session m (at ls k) ≡ own session m (at d.seen k))
    their_seen j d ne o k = dite (ℕ_discrete k c)
        (λ (q : k ≡ c). let P : ℕ → Type 0 = λ z. Begins (at d.seen z) (at ls z) × ((m : ℕ) → Holds d m → own session m (at ls z) ≡ own session m (at d.seen z)) in subst P (sym q) (
          subst (λ (z : List E). Begins (at d.seen c) z) (sym list_here) (begins_more (at d.seen c) (at r.lists c) (e ∷ []) ((r.knows j d o).0.begins c)),
          (λ m hm. let not_mine : session e ≢ m = λ b. ne (r.alone j me d v m o is hm (subst (Holds v) (sym by ∙ b) mine)) in
              ap (own session m) list_here ∙ (own_other session m (at r.lists c) e not_mine ∙ ((r.knows j d o).1 m hm).entries c)),
        ))
        (λ other. (
          subst (λ (z : List E). Begins (at d.seen k) z) (sym (list_else k other)) ((r.knows j d o).0.begins k),
          (λ m hm. ap (own session m) (list_else k other) ∙ ((r.knows j d o).1 m hm).entries k),
        ))

    pub leaves_one : Rule record { words = wl; homes = set s.homes c (some h); views = set s.views me u }
    leaves_one = record {
      n = r.n;
      p = r.p;
      total = r.total;
      locks = r.locks;
      posted = λ b lt. let k = cell_ok in get_or-set_other s.words (line_of c) (line_of (r.n + b)) 0 0 (λ e. omega arith) ∙ (r.posted b lt ∙ ap (number start (r.n + b)) (sym (list_else (r.n + b) (λ e. omega arith))));
      lists = ls;
      many = length-set r.lists c xs ∙ r.many;
      deep = length-set s.homes c (some h) ∙ r.deep;
      wide = length-set s.words (line_of c) 0 ∙ r.wide;
      law = lawful r.lists r.law record { grows = (r.knows me v is).0; own = own_here.entries } own_here.words (let m = r.many in let k = cell_ok in omega arith) whole_all;
      starts = λ j d a at e. each_set (λ _ z. (b : S) → z.start ≡ b ∷ [] → b ≡ start) s.views me u (λ b q. r.starts me v b is q) (λ i z _ o b q. r.starts i z b o q) j d at a e;
      home = λ k lt. dite (ℕ_discrete k c)
          (λ (q : k ≡ c). let P : ℕ → Type 0 = λ z. (get_or wl (line_of z) 0 ≡ 0) × AtHome start stands (set s.homes c (some h)) z (at ls z) in inl (subst P (sym q)
          (free_now, (h, y, set_here s.homes c (some h) (let d = r.deep in let l = cell_ok in omega arith), filled, subst (stands start c y) (ap (λ (z : List E). z ++ e ∷ []) whole_here ∙ sym list_here) stood))))
          (λ ne. ⊎_elim (λ a. inl (word_else k ne ∙ a.0, (a.1.0, a.1.1, set_else s.homes c k (some h) ne ∙ a.1.2, a.1.3, subst (stands start k a.1.1) (sym (list_else k ne)) a.1.4)))
          (λ o. inr (word_else k ne ∙ o.0, out_stays start passes places session writer stands number kept s r me v u is k (λ q. absurd (ne (stage_same k c (sym q ∙ stays)))) o.1)) (r.home k lt));
      stages = each_set (λ _ z. Stands (writer start) r.n wl ls z.seen z.stage) s.views me u tt (λ j d ne o. still d.seen d.stage (not_in j d ne o) (r.stages j d o));
      apart = unique_set IsIn s.views me u r.apart (λ k none. absurd (free_not_in k none));
      knows = each_set (λ _ z. Grows z.seen ls × ((m : ℕ) → Holds z m → OwnSeen session (writer start) m z.seen ls)) s.views me u (record { begins = λ k. (my_seen k).0 }, (λ m hm. record { entries = λ k. (my_seen k).1 m hm; words = record { whole = λ k own. seen_else k (not_session m k own) ∙ (((r.knows me v is).1 m hm).words.whole k own ∙ sym (list_else k (not_session m k own))) } }))
          (λ j d ne o. (record { begins = λ k. (their_seen j d ne o k).0 }, (λ m hm. record { entries = λ k. (their_seen j d ne o k).1 m hm; words = record { whole = λ k own. ((r.knows j d o).1 m hm).words.whole k own ∙ sym (list_else k (not_session m k own)) } })));
      alone = unique_set Holds s.views me u r.alone (no_other Holds s.views me v u is r.alone (λ m z. z));
      told = each_set (λ _ z. Told session (writer start) z.merged) s.views me u (r.told me v is) (λ j d _ o. r.told j d o);
      named = λ j d m at hm. each_set (λ _ z. Holds z m → m < passes) s.views me u (λ k. r.named me v m is k) (λ i z _ o k. r.named i z m o k) j d at hm;
      owner = λ j d a at has. each_set (λ _ z. IsIn z a → Holds z z.name) s.views me u (λ none. absurd (free_not_in a none)) (λ i z _ o k. r.owner i z a o k) j d at has;
      whole = λ k lt. dite (ℕ_discrete k c)
          (λ (q : k ≡ c). let P : ℕ → Type 0 = λ z. at u.seen z ≡ at ls z in (me, u, v.name, set_here s.views me u (inside s.views me v is), mine, subst P (sym q) seen_u))
          (λ ne. let o = r.whole k lt in dite (ℕ_discrete o.0 me)
          (λ (q : o.0 ≡ me). let d_is : o.1 ≡ v = some-injective _ _ (sym o.3 ∙ (ap (get_elem? s.views) q ∙ is)) in
          (me, u, o.2, set_here s.views me u (inside s.views me v is), subst (λ (z : View S E). Holds z o.2) d_is o.4, seen_else k ne ∙ (subst (λ (z : View S E). at z.seen k ≡ at r.lists k) d_is o.5 ∙ sym (list_else k ne))))
          (λ other. (o.0, o.1, o.2, set_else s.views me o.0 u other ∙ o.3, o.4, o.5 ∙ sym (list_else k ne))));
    }

  note_of : (c : ℕ) (h : Held V E) → List (ℕ × Held V E) → Held V E
  note_of c h l = (get_or l 0 (c, h)).1

  noted_or : Note E → Option (Note E) → Note E
  noted_or d None = d
  noted_or d (Some e) = e

  pub leaves : (slots me i c : ℕ) (m : M) (h : Held V E) (y : V) (e : Note E) → i ≡ line_of c → m.0.stage ≡ Inside c → m.1 ≡ (c, h) ∷ [] → h.note ≡ Some e → c < length m.0.seen
      → Holds m.0 m.0.name → session e.value ≡ m.0.name → h.value ≡ Some y → stands start c y (at m.0.seen c ++ e.value ∷ [])
      → ((lists : List (List E)) → kept start lists → Knows session (session e.value) m.0.seen lists → Whole (writer start) (Session (session e.value)) m.0.seen lists → c < length lists → Whole (writer start) (writer start c) m.0.seen lists → kept start (set lists c (at lists c ++ e.value ∷ [])))
      → Allows Rule slots me m i (λ _. 0) (λ _. went (step slots i 0 0 none) m 0)
  unfolding note_of noted_or
  leaves slots me i c m h y e at_i stays one noted seen_wide mine by filled stood lawful s r deep is small =
      let done = leaves_one s r me c m.0 h y e.value is stays seen_wide mine by filled stood lawful in (
        left c e.value m.0,
        gives,
        tt,
        (let P : ℕ × List (ℕ × Held V E) → Type 0 = λ z. Rule record { words = set s.words z.0 0; homes = Rattle.atomic_table.specs.Table.put_back s.homes z.1; views = set s.views me (left c e.value m.0) } in
            subst P (λ j. (sym at_i j, sym one j)) done),
        (λ c' h' e' stage held note.
            let same = stage_same c c' (sym stays ∙ stage) in
            let two : (c, h) ∷ [] ≡ (c', h') ∷ [] = sym one ∙ held in
            let held_is : h ≡ h' = ap (note_of c h) two in
            let notes : Some e ≡ Some e' = sym noted ∙ (ap (λ (z : Held V E). z.note) held_is ∙ note) in
            let e_is : e ≡ e' = ap (noted_or e) notes in
            ((λ j. left (same j) (e_is j).value m.0), ap Rattle.atomic_table.specs.Table.rest one)),
      )
