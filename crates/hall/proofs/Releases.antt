-- Releasing a lock without an entry keeps the rule.
use Rattle.std.proofs.Common.{◌≡◌, ℕ, ◌+◌, ◌<◌, ◌≢◌, List, [], ◌∷◌, get_or, set, refl, sym, ◌∙◌, ap, subst, inl, inr, ⊎_elim, get_or-set_same, get_or-set_other, length-set, arith, Some}
use mathlib.Core.Option.{some, none}
use mathlib.Core.Logic.{dite}
use native.Mathlib.Decide.{ℕ_discrete}
use lib.ListN.{get_elem?}
use Rattle.atomic_table.specs.Table.{State, Me, step, gives, put_back, rest, Allows}
use Rattle.atomic_table.proofs.Lists.{set_here, set_else}
use Rattle.hall.specs.Layout.{line_of}
use Rattle.notes.specs.Lists.{at}
use Rattle.hall.specs.declared.writer.Writer.{Writer}
use Rattle.hall.specs.declared.view.Stage.{Stage}
use Rattle.hall.specs.declared.view.Stage.TheVariants.{Free, Inside}
use Rattle.hall.specs.declared.view.View.{View}
use Rattle.hall.specs.declared.view.Held.{Held}
use Rattle.hall.specs.Rule.{IsIn, Stands, AtHome, Kept}
use Rattle.hall.specs.Told.{released, freed}
use Rattle.hall.proofs.Moves.{out_stays, same_lists, stage_same, free_not_in}

module _ {S V E : Type 0} (start : S) (passes places : ℕ) (session : E → ℕ) (writer : S → ℕ → Writer) (stands : S → ℕ → V → List E → Type 0) (number : S → ℕ → List E → ℕ) (kept : S → List (List E) → Type 0) where
  abbrev St : Type 0
  St = State (Held V E) (View S E)

  abbrev M : Type 0
  M = Me (Held V E) (View S E)

  abbrev Rule : St → Type 0
  Rule = Kept start passes places session writer stands number kept

  -- a release
  module _ (s : St) (r : Rule s) (me c : ℕ) (v : View S E) (h : Held V E) (y : V) (is : get_elem? s.views me ≡ some v) (stays : v.stage ≡ Inside c) (filled : h.value ≡ Some y) (stood : stands start c y (at v.seen c)) where
    abbrev wl : List ℕ
    wl = set s.words (line_of c) 0

    abbrev u : View S E
    u = released v

    stood_here : Stands (writer start) r.n s.words r.lists v.seen (Inside c)
    stood_here = subst (Stands (writer start) r.n s.words r.lists v.seen) stays (r.stages me v is)

    cell_ok : c < r.n
    cell_ok = stood_here.0

    whole_here : at v.seen c ≡ at r.lists c
    whole_here = stood_here.2.whole c (r.locks c cell_ok)

    free_now : get_or wl (line_of c) 0 ≡ 0
    free_now = let wide = r.wide in let k = cell_ok in get_or-set_same s.words (line_of c) 0 0 (omega arith)

    word_else : (k : ℕ) → k ≢ c → get_or wl (line_of k) 0 ≡ get_or s.words (line_of k) 0
    word_else k ne = get_or-set_other s.words (line_of c) (line_of k) 0 0 (λ q. ne (omega arith))

    -- nobody else was inside
    not_in : (j : ℕ) (d : View S E) → j ≢ me → get_elem? s.views j ≡ some d → IsIn d c → ⊥
    not_in j d ne o has = ne (r.apart j me d v c o is has stays)

    still : (seen : List (List E)) (st : Stage) → (st ≡ Inside c → ⊥) → Stands (writer start) r.n s.words r.lists seen st → Stands (writer start) r.n wl r.lists seen st
    still seen Free out w = tt
    still seen (Inside a) out w = (w.0, word_else a (λ q. out (ap Inside q)) ∙ w.1, w.2)

    pub releases_one : Rule record { words = wl; homes = set s.homes c (some h); views = set s.views me u }
    releases_one = same_lists start passes places session writer stands number kept s r me v u is wl (set s.homes c (some h))
        (length-set s.words (line_of c) 0)
        (length-set s.homes c (some h) ∙ r.deep)
        (λ a q. q)
        (λ k lt. dite (ℕ_discrete k c)
        (λ (q : k ≡ c). let P : ℕ → Type 0 = λ z. (get_or wl (line_of z) 0 ≡ 0) × AtHome start stands (set s.homes c (some h)) z (at r.lists z) in inl (subst P (sym q)
        (free_now, (h, y, set_here s.homes c (some h) (let d = r.deep in let l = cell_ok in omega arith), filled, subst (stands start c y) whole_here stood))))
        (λ ne. ⊎_elim (λ a. inl (word_else k ne ∙ a.0, (a.1.0, a.1.1, set_else s.homes c k (some h) ne ∙ a.1.2, a.1.3, a.1.4)))
        (λ o. inr (word_else k ne ∙ o.0, out_stays start passes places session writer stands number kept s r me v u is k (λ q. absurd (ne (stage_same k c (sym q ∙ stays)))) o.1)) (r.home k lt)))
        (λ b lt. let k = cell_ok in get_or-set_other s.words (line_of c) (line_of (r.n + b)) 0 0 (λ e. omega arith))
        tt
        (λ j d ne o. still d.seen d.stage (not_in j d ne o) (r.stages j d o))
        (λ k none. absurd (free_not_in k none))
        (λ k none. absurd (free_not_in k none))
        (r.knows me v is)
        (λ m z. z)
        (λ k lt m hm e. (hm, e))
        (r.told me v is)

  pub releases : (slots me i c : ℕ) (m : M) (h : Held V E) (y : V) → i ≡ line_of c → m.0.stage ≡ Inside c → m.1 ≡ (c, h) ∷ [] → h.value ≡ Some y → stands start c y (at m.0.seen c)
      → Allows Rule slots me m i (λ _. 0) (λ _. freed (step slots i 0 0 none) m 0)
  releases slots me i c m h y at_i stays one filled stood s r deep is small =
      let done = releases_one s r me c m.0 h y is stays filled stood in (
        released m.0,
        gives,
        tt,
        (let P : ℕ × List (ℕ × Held V E) → Type 0 = λ z. Rule record { words = set s.words z.0 0; homes = put_back s.homes z.1; views = set s.views me (released m.0) } in
            subst P (λ j. (sym at_i j, sym one j)) done),
        (λ c' h' held. (refl, ap rest one)),
      )
