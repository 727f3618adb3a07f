-- The fields of a pass fit its view after each step, and what a look tells.
use Rattle.std.proofs.Common.{◌≡◌, ℕ, ◌+◌, ◌<◌, ◌≤◌, ◌≢◌, ◌⊎◌, ⊎_elim, Bool, false, List, [], ◌∷◌, ◌++◌, map, length, get_or, set, is_some, refl, sym, ◌∙◌, ap, subst, length-set, arith, Option, Some, None, MatchOption}
use mathlib.Core.Option.{none}
use Rattle.atomic_table.specs.Table.{Me, Step, step, rest, Allows}
use Rattle.hall.specs.Layout.{line_of}
use Rattle.notes.specs.Lists.{at, Knows}
use Rattle.hall.specs.Lists.{Whole}
use Rattle.hall.specs.declared.writer.Writer.{Writer}
use Rattle.hall.specs.declared.writer.Writer.TheVariants.{Session}
use Rattle.hall.specs.declared.view.Stage.TheVariants.{Free, Inside}
use Rattle.hall.specs.declared.view.View.{View}
use Rattle.hall.specs.declared.view.Held.{Held}
use Rattle.hall.specs.declared.names.Names.{Names}
use Rattle.notes.specs.declared.note.Note.{Note}
use Rattle.hall.specs.Rule.{Kept}
use Rattle.hall.specs.Told.{entered, missed, left, released, published, learned, Got, Learnt, went, freed}
use Rattle.hall.specs.Fits.{Fits, carried_at}
use Rattle.hall.specs.Calls.{Entered, Loaded}
use Rattle.hall.proofs.Moves.{stage_same, free_not_in}
use Rattle.hall.proofs.Leaves.{leaves}
use Rattle.hall.proofs.Releases.{releases}

module _ {V E : Type 0} where
  abbrev pub shown : ℕ × Held V E → ℕ × Bool
  shown x = (x.0, is_some x.1.value)

  pub none_carried : (l : List (ℕ × Held V E)) → map shown l ≡ [] → l ≡ []
  none_carried [] e = refl
  none_carried (x ∷ xs) e = absurd (let P : List (ℕ × Bool) → Type 0 = λ z. elim z [ [] ↦ ⊥ | ◌∷◌ _ _ ↦ Unit {0} ] in subst P e tt)

  one_slot : (l : List (ℕ × Held V E)) (c : ℕ) (k : Bool) → map shown l ≡ (c, k) ∷ [] → (h : Held V E) × (l ≡ (c, h) ∷ rest l) × (rest l ≡ [])
  one_slot [] c k e = absurd (let P : List (ℕ × Bool) → Type 0 = λ z. elim z [ [] ↦ Unit {0} | ◌∷◌ _ _ ↦ ⊥ ] in subst P e tt)
  one_slot (x ∷ xs) c k e =
      let head : List (ℕ × Bool) → ℕ = λ z. (get_or z 0 (c, k)).0 in let tail : List (ℕ × Bool) → List (ℕ × Bool) = λ l. elim l [ [] ↦ [] | ◌∷◌ _ t ↦ t ] in
      (x.1, (λ i. (ap head e i, x.1) ∷ xs), none_carried xs (ap tail e))

module _ {S V E : Type 0} (cells words cell : ℕ) (names : Names) (m : Me (Held V E) (View S E)) (f : Fits cells words cell names m) where
  -- the pass has seen a history for each place of its table
  pub sees_places : (locks posts places : ℕ) → words ≡ line_of (locks + posts) → places ≡ locks + posts → length m.0.seen ≡ places
  sees_places locks posts places b c = let w = f.wide in omega arith

  pub fits_entered : (slots ws c : ℕ) (ls : List (List E)) (m' : Me (Held V E) (View S E)) → slots ≡ cells → ws ≡ words → c < cells → length ls ≡ length m.0.seen → m'.0 ≡ entered c ls m.0 → map shown m'.1 ≡ (c, false) ∷ [] → Fits slots ws c names m'
  fits_entered slots ws c ls m' same same' lt long is out = subst (λ (z : (ℕ × ℕ) × View S E). Fits z.0.0 z.0.1 c names (z.1, m'.1)) (λ i. ((sym same i, sym same' i), sym is i)) record {
    named = f.named;
    wide = (let w = f.wide in omega arith);
    inside = λ a e. let p = stage_same c a e in (sym p, (let q = p in omega arith));
    carried = out;
    own = f.own;
    held = f.held;
  }

  -- the last of a look's steps
  pub look_tells : (session : E → ℕ) (writer : S → ℕ → Writer) (stands : S → ℕ → V → List E → Type 0) (kept : S → List (List E) → Type 0) (start : S) (c : ℕ) (m' : Me (Held V E) (View S E)) (h : Held V E) (o : Option V) (w : View S E) (A : Type 0) → Got session writer stands kept start c m m' → m'.1 ≡ (c, h) ∷ rest m'.1 → o ≡ h.value → w ≡ m'.0
      → MatchOption o A (λ x. Entered session writer stands kept start c m.0 x w)
  look_tells session writer stands kept start c m' h o w A got is out same =
      let e : (c, h) ∷ rest m'.1 ≡ (c, got.held) ∷ m.1 = sym is ∙ got.slots_are in
      let h_is : h ≡ got.held = ap (λ (l : List (ℕ × Held V E)). (get_or l 0 (c, h)).1) e in
      let v : o ≡ Some got.value = out ∙ (ap (λ (z : Held V E). z.value) h_is ∙ got.filled) in
      subst (λ (z : Option V). MatchOption z A (λ x. Entered session writer stands kept start c m.0 x w)) (sym v) record { lists = got.lists; moment = got.moment; stood = got.stood; view_is = same ∙ got.view_is }

  pub slots_out : (m' : Me (Held V E) (View S E)) (session : E → ℕ) (writer : S → ℕ → Writer) (stands : S → ℕ → V → List E → Type 0) (kept : S → List (List E) → Type 0) (start : S) (c : ℕ) (h : Held V E) → Got session writer stands kept start c m m' → m.0.stage ≡ Free → h.value ≡ None → map shown ((c, h) ∷ rest m'.1) ≡ (c, false) ∷ []
  slots_out m' session writer stands kept start c h got free empty =
      let nil : m.1 ≡ [] = none_carried m.1 (f.carried ∙ ap carried_at free) in
      let r : rest m'.1 ≡ [] = ap rest got.slots_are ∙ nil in
      λ i. (c, is_some (empty i)) ∷ map shown (r i)

  pub fits_missed : (slots ws c : ℕ) (m' : Me (Held V E) (View S E)) → slots ≡ cells → ws ≡ words → m.0.stage ≡ Free → m'.0 ≡ missed m.0 → m'.1 ≡ m.1 → Fits slots ws c names m'
  fits_missed slots ws c m' same same' free is out = subst (λ (z : (ℕ × ℕ) × View S E × List (ℕ × Held V E)). Fits z.0.0 z.0.1 c names (z.1, z.2)) (λ i. ((sym same i, sym same' i), sym is i, sym out i)) record {
    named = f.named;
    wide = f.wide;
    inside = λ a e. absurd (free_not_in a (sym free ∙ e));
    carried = f.carried;
    own = f.own;
    held = f.held;
  }

  pub slot_with : (session : E → ℕ) (writer : S → ℕ → Writer) (stands : S → ℕ → V → List E → Type 0) (kept : S → List (List E) → Type 0) (start : S) (c : ℕ) (m' : Me (Held V E) (View S E)) → Got session writer stands kept start c m m' → (h : Held V E) × (m'.1 ≡ (c, h) ∷ rest m'.1)
  slot_with session writer stands kept start c m' got = (got.held, got.slots_are ∙ ap (λ (z : List (ℕ × Held V E)). (c, got.held) ∷ z) (sym (ap rest got.slots_are)))

  pub fits_learned : (slots ws : ℕ) (ls : List (List E)) (m' : Me (Held V E) (View S E)) → slots ≡ cells → ws ≡ words → length ls ≡ length m.0.seen → m'.0 ≡ learned ls m.0 → m'.1 ≡ m.1 → Fits slots ws cell names m'
  fits_learned slots ws ls m' same same' long is out = subst (λ (z : (ℕ × ℕ) × View S E × List (ℕ × Held V E)). Fits z.0.0 z.0.1 cell names (z.1, z.2)) (λ i. ((sym same i, sym same' i), sym is i, sym out i)) record {
    named = f.named;
    wide = (let w = f.wide in omega arith);
    inside = f.inside;
    carried = f.carried;
    own = f.own;
    held = f.held;
  }

  pub fits_published : (slots ws q : ℕ) (e : E) (m' : Me (Held V E) (View S E)) → slots ≡ cells → ws ≡ words → m' ≡ (published q e m.0, m.1) → Fits slots ws cell names m'
  fits_published slots ws q e m' same same' is = subst (λ (z : (ℕ × ℕ) × Me (Held V E) (View S E)). Fits z.0.0 z.0.1 cell names z.1) (λ i. ((sym same i, sym same' i), sym is i)) record {
    named = f.named;
    wide = (let l = length-set m.0.seen q (at m.0.seen q ++ e ∷ []) in let w = f.wide in omega arith);
    inside = f.inside;
    carried = f.carried;
    own = f.own;
    held = f.held;
  }

  -- the one slot that a pass inside has
  pub slot_inside : m.0.stage ≡ Inside cell → (h : Held V E) × (m.1 ≡ (cell, h) ∷ rest m.1)
  slot_inside stays = let o = one_slot m.1 cell false (f.carried ∙ ap carried_at stays) in (o.0, o.1)

  slot_alone : m.0.stage ≡ Inside cell → rest m.1 ≡ []
  slot_alone stays = (one_slot m.1 cell false (f.carried ∙ ap carried_at stays)).2

  pub fits_left : (slots ws : ℕ) (e : E) (m' : Me (Held V E) (View S E)) → slots ≡ cells → ws ≡ words → m'.0 ≡ left cell e m.0 → m'.1 ≡ [] → Fits slots ws cell names m'
  fits_left slots ws e m' same same' is out = subst (λ (z : (ℕ × ℕ) × View S E × List (ℕ × Held V E)). Fits z.0.0 z.0.1 cell names (z.1, z.2)) (λ i. ((sym same i, sym same' i), sym is i, sym out i)) record {
    named = f.named;
    wide = (let l = length-set m.0.seen cell (at m.0.seen cell ++ e ∷ []) in let w = f.wide in omega arith);
    inside = λ c e. absurd (free_not_in c e);
    carried = refl;
    own = f.own;
    held = f.held;
  }

  pub fits_released : (slots ws : ℕ) (m' : Me (Held V E) (View S E)) → slots ≡ cells → ws ≡ words → m'.0 ≡ released m.0 → m'.1 ≡ [] → Fits slots ws cell names m'
  fits_released slots ws m' same same' is out = subst (λ (z : (ℕ × ℕ) × View S E × List (ℕ × Held V E)). Fits z.0.0 z.0.1 cell names (z.1, z.2)) (λ i. ((sym same i, sym same' i), sym is i, sym out i)) record {
    named = f.named;
    wide = f.wide;
    inside = λ c e. absurd (free_not_in c e);
    carried = refl;
    own = f.own;
    held = f.held;
  }

  module _ (start : S) (passes places : ℕ) (session : E → ℕ) (writer : S → ℕ → Writer) (stands : S → ℕ → V → List E → Type 0) (number : S → ℕ → List E → ℕ) (kept : S → List (List E) → Type 0) where
    pub leave_allowed : (slots me i : ℕ) (m' : Me (Held V E) (View S E)) (h : Held V E) (y : V) (e : Note E) → slots ≡ cells → length m.0.seen ≡ places → slots ≤ places → i ≡ line_of cell → m.0.stage ≡ Inside cell → m' ≡ (m.0, (cell, h) ∷ rest m.1)
        → h.note ≡ Some e → h.value ≡ Some y → session e.value ≡ m.0.name → stands start cell y (at m.0.seen cell ++ e.value ∷ [])
        → ((lists : List (List E)) → kept start lists → Knows session (session e.value) m.0.seen lists → Whole (writer start) (Session (session e.value)) m.0.seen lists → cell < length lists → Whole (writer start) (writer start cell) m.0.seen lists → kept start (set lists cell (at lists cell ++ e.value ∷ [])))
        → Allows (Kept start passes places session writer stands number kept) slots me m' i (λ _. 0) (λ _. went (step slots i 0 0 none) m' 0)
    leave_allowed slots me i m' h y e same wide under at_i stays is noted filled by stood lawful =
        let lt = (f.inside cell stays).1 in
        let is' : m' ≡ (m.0, (cell, h) ∷ []) = is ∙ ap (λ (z : List (ℕ × Held V E)). (m.0, (cell, h) ∷ z)) (slot_alone stays) in
        subst (λ (z : Me (Held V E) (View S E)). Allows (Kept start passes places session writer stands number kept) slots me z i (λ _. 0) (λ _. went (step slots i 0 0 none) z 0)) (sym is')
        (leaves start passes places session writer stands number kept slots me i cell (m.0, (cell, h) ∷ []) h y e at_i stays refl noted (omega arith) f.named by filled stood lawful)

    pub release_allowed : (slots me i : ℕ) (m' : Me (Held V E) (View S E)) (h : Held V E) (y : V) → i ≡ line_of cell → m.0.stage ≡ Inside cell → m' ≡ (m.0, (cell, h) ∷ rest m.1) → h.value ≡ Some y → stands start cell y (at m.0.seen cell)
        → Allows (Kept start passes places session writer stands number kept) slots me m' i (λ _. 0) (λ _. freed (step slots i 0 0 none) m' 0)
    release_allowed slots me i m' h y at_i stays is filled stood =
        let is' : m' ≡ (m.0, (cell, h) ∷ []) = is ∙ ap (λ (z : List (ℕ × Held V E)). (m.0, (cell, h) ∷ z)) (slot_alone stays) in
        subst (λ (z : Me (Held V E) (View S E)). Allows (Kept start passes places session writer stands number kept) slots me z i (λ _. 0) (λ _. freed (step slots i 0 0 none) z 0)) (sym is')
        (releases start passes places session writer stands number kept slots me i cell (m.0, (cell, h) ∷ []) h y at_i stays refl filled stood)

  pub release_tells : (m' m'' : Me (Held V E) (View S E)) (st : Step (Held V E)) (n : ℕ) (h : Held V E) → m.0.stage ≡ Inside cell → m' ≡ (m.0, (cell, h) ∷ rest m.1) → freed st m' n m'' → (m''.0 ≡ released m.0) × (m''.1 ≡ [])
  release_tells m' m'' st n h stays is w =
      let is' : m' ≡ (m.0, (cell, h) ∷ []) = is ∙ ap (λ (z : List (ℕ × Held V E)). (m.0, (cell, h) ∷ z)) (slot_alone stays) in
      (subst (λ (z : Me (Held V E) (View S E)). freed st z n m'') is' w) cell h refl

  pub leave_tells : (m' m'' : Me (Held V E) (View S E)) (st : Step (Held V E)) (n : ℕ) (h : Held V E) (e : Note E) → m.0.stage ≡ Inside cell → m' ≡ (m.0, (cell, h) ∷ rest m.1) → h.note ≡ Some e → went st m' n m'' → (m''.0 ≡ left cell e.value m.0) × (m''.1 ≡ [])
  leave_tells m' m'' st n h e stays is noted w =
      let is' : m' ≡ (m.0, (cell, h) ∷ []) = is ∙ ap (λ (z : List (ℕ × Held V E)). (m.0, (cell, h) ∷ z)) (slot_alone stays) in
      (subst (λ (z : Me (Held V E) (View S E)). went st z n m'') is' w) cell h e stays refl noted

module _ {S V E : Type 0} where
  -- a look that found no free lock
  pub look_missed : {A : Type 0} (r : ℕ) (m m' : Me (Held V E) (View S E)) → ((r ≡ 0) × A) ⊎ ((r ≡ 1) × (m'.0 ≡ missed m.0) × (m'.1 ≡ m.1)) → r ≢ 0 → (m'.0 ≡ missed m.0) × (m'.1 ≡ m.1)
  look_missed r m m' told other = ⊎_elim (λ h. absurd (other h.0)) (λ h. (h.1, h.2)) told

  -- the last of a load's steps
  pub read_tells : (session : E → ℕ) (writer : S → ℕ → Writer) (number : S → ℕ → List E → ℕ) (kept : S → List (List E) → Type 0) (start : S) (q r : ℕ) (m m' : Me (Held V E) (View S E)) → Learnt session writer number kept start q r m m' → Loaded session writer number kept start q m.0 r m'.0
  read_tells session writer number kept start q r m m' t = record {
    lists = t.lists;
    moment = t.moment;
    shown = t.shown;
    view_is = t.view_is;
  }
