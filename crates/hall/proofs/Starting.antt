-- The table and the first pass of a new hall.
use Rattle.std.proofs.Common.{◌≡◌, ℕ, zero, suc, ◌+◌, ◌-◌, ◌<◌, true, false, List, [], ◌∷◌, map, length, get_or, replicate, refl, sym, ◌∙◌, ap, subst, arith, Option, Some, None, slice_get}
use Rattle.std.proofs.lemmas.List.{length-map}
use mathlib.Core.Option.{some, some-injective, some-ne-none}
use lib.ListN.{get_elem?, get_or-replicate}
use Rattle.atomic_table.specs.Table.{Me, opening}
use Rattle.hall.specs.declared.view.View.{View}
use Rattle.hall.specs.declared.view.Held.{Held}
use Rattle.hall.specs.declared.view.Opening.{Opening}
use Rattle.hall.specs.Rule.{Kept, first_view}
use Rattle.hall.specs.Layout.{Starts, line_of}
use Rattle.notes.specs.Lists.{at}
use Rattle.hall.specs.Calls.{StandFor, ShownBy}
use Rattle.hall.specs.declared.writer.Writer.{Writer}
use Rattle.hall.specs.declared.writer.Writer.TheVariants.{Lock}
use Rattle.hall.specs.declared.names.Names.{Names}
use Rattle.hall.specs.Names.{AreHeld}
use Rattle.hall.specs.Fits.{Fits}
use Rattle.hall.proofs.Opens.{opens}
use Rattle.hall.proofs.Moves.{free_not_in}

rest_of : {A : Type 0} → List A → List A
rest_of [] = []
rest_of (x ∷ xs) = xs

-- a slot that was filled from the values
filled_from : {V E : Type 0} (hs : List (Held V E)) (xs : List V) (c : ℕ) (h : Held V E) → map (λ z. z.value) hs ≡ map Some xs → get_elem? hs c ≡ some h → (x : V) × (h.value ≡ Some x) × (slice_get xs c ≡ Some x)
unfolding rest_of
filled_from [] xs c h e is = absurd (some-ne-none h (sym is))
filled_from {V} (k ∷ hs) [] c h e is = absurd (let P : List (Option V) → Type 0 = λ z. elim z [ [] ↦ ⊥ | ◌∷◌ _ _ ↦ Unit {0} ] in subst P e tt)
filled_from {V} {E} (k ∷ hs) (x ∷ xs) zero h e is = (x, ap (λ (z : Held V E). z.value) (sym (some-injective k h is)) ∙ ap (λ (z : List (Option V)). get_or z 0 None) e, refl)
filled_from (k ∷ hs) (x ∷ xs) (suc c) h e is = filled_from hs xs c h (ap rest_of e) is

module _ {S V E : Type 0} (session : E → ℕ) (writer : S → ℕ → Writer) (stands : S → ℕ → V → List E → Type 0) (number : S → ℕ → List E → ℕ) (kept : S → List (List E) → Type 0) where
  pub opens_from : (o : Opening S E) (passes n : ℕ) (posts words : List ℕ) (hs : List (Held V E)) (xs : List V) → 0 < passes → o.passes ≡ passes → n ≡ length xs → Starts n posts words → map (λ h. h.value) hs ≡ map Some xs
      → length o.lists ≡ length xs + length posts → ((c : ℕ) → c < length xs → writer o.start c ≡ Lock c) → kept o.start o.lists → StandFor stands o.start xs o.lists → ShownBy number o.start (length xs) posts o.lists
      → Kept o.start o.passes (length o.lists) session writer stands number kept (opening words hs (first_view o))
  opens_from o passes n posts words hs xs pos same count first wrapped many locks law stand shown =
      let long : length hs ≡ n = sym (length-map hs (λ (h : Held V E). h.value)) ∙ (ap length wrapped ∙ (length-map xs Some ∙ sym count)) in
      opens o.start o.passes (length o.lists) session writer stands number kept o n posts words hs first long (omega arith) refl (λ c lt. locks c (omega arith)) (omega arith) refl refl law
      (λ c h is. let f = filled_from hs xs c h wrapped is in (f.0, f.1, stand c f.0 f.2))
      (λ w x is. let P : ℕ → Type 0 = λ z. number o.start (z + w) (at o.lists (z + w)) ≡ x in subst P (sym count) (shown w x is))

module _ {S V E : Type 0} where
  pub fits_first : (o : Opening S E) (passes slots words : ℕ) (names : Names) (m : Me (Held V E) (View S E)) → 0 < passes → o.passes ≡ passes → line_of (length o.lists) ≡ words → names.own ≡ passes - 1 → AreHeld (replicate passes true) names → m ≡ (first_view o, []) → Fits slots words 0 names m
  fits_first o passes slots words names m pos same wide own held is = subst (λ (z : Me (Held V E) (View S E)). Fits slots words 0 names z) (sym is) record {
    named = get_or-replicate o.passes (o.passes - 1) true false (omega arith);
    wide = wide;
    inside = λ c e. absurd (free_not_in c e);
    carried = refl;
    own = ap (λ (z : ℕ). z - 1) same ∙ sym own;
    held = λ k. ap (λ (z : ℕ). get_or (replicate z true) k false) same ∙ held k;
  }

pub wrapped_length : {V E : Type 0} (hs : List (Held V E)) (xs : List V) → map (λ h. h.value) hs ≡ map Some xs → length hs ≡ length xs
wrapped_length {V} {E} hs xs e = sym (length-map hs (λ (h : Held V E). h.value)) ∙ (ap length e ∙ length-map xs Some)
