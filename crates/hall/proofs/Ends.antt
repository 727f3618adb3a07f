-- The table at the end, where one pass has all names.
use Rattle.std.proofs.Common.{◌≡◌, ℕ, ◌<◌, ◌≤◌, List, length, sym, ◌∙◌, ap, subst, ⊎_elim, arith}
use mathlib.Core.Option.{some, none, some-injective, some-ne-none}
use mathlib.Core.Option as maybe
use lib.ListN.{get_elem?}
use Rattle.atomic_table.specs.Table.{State, Seen as Viewed}
use Rattle.notes.specs.Lists.{at}
use Rattle.hall.specs.declared.writer.Writer.{Writer}
use Rattle.hall.specs.declared.view.Stage.TheVariants.{Free}
use Rattle.hall.specs.declared.view.View.{View}
use Rattle.hall.specs.declared.view.Held.{Held}
use Rattle.hall.specs.Rule.{Holds, AtHome, Kept}
use Rattle.hall.proofs.Moves.{free_not_in}

module _ {S V E : Type 0} (start : S) (passes places : ℕ) (session : E → ℕ) (writer : S → ℕ → Writer) (stands : S → ℕ → V → List E → Type 0) (number : S → ℕ → List E → ℕ) (kept : S → List (List E) → Type 0) where
  abbrev Rule : State (Held V E) (View S E) → Type 0
  Rule = Kept start passes places session writer stands number kept

  -- the table at the end, where one pass has all names
  abbrev pub Ended : View S E → List (maybe.Option (Held V E)) → Type 0
  Ended v homes = (lists : List (List E)) × kept start lists × (length lists ≡ places) × (length homes ≤ places) × ((c : ℕ) → c < places → at v.seen c ≡ at lists c) × ((c : ℕ) → c < length homes → AtHome start stands homes c (at lists c))

  pub closes : (id : ℕ) (v : View S E) (s : State (Held V E) (View S E)) → Viewed Rule id v s → v.stage ≡ Free → ((m : ℕ) → m < passes → Holds v m) → Ended v s.homes
  closes id v s w free all =
      let r = w.0 in let is = w.1 in (
        r.lists,
        r.law,
        r.many ∙ r.total,
        (let q = r.deep in let t = r.total in omega arith),
        (λ c lt. let t = r.total in let o = r.whole c (omega arith) in let same : o.0 ≡ id = r.alone o.0 id o.1 v o.2 o.3 is o.4 (all o.2 (r.named o.0 o.1 o.2 o.3 o.4)) in
            let d_is : o.1 ≡ v = some-injective _ _ (sym o.3 ∙ (ap (get_elem? s.views) same ∙ is)) in
            subst (λ (z : View S E). at z.seen c ≡ at r.lists c) d_is o.5),
        (λ c lt. let inside_n : c < r.n = let q = r.deep in omega arith in
            ⊎_elim (λ h. h.1) (λ k. let o = k.1 in
            let has = r.owner o.0 o.1 c o.2 o.3 in
            let same : o.0 ≡ id = r.alone o.0 id o.1 v o.1.name o.2 is has (all o.1.name (r.named o.0 o.1 o.1.name o.2 has)) in
            let d_is : o.1 ≡ v = some-injective _ _ (sym o.2 ∙ (ap (get_elem? s.views) same ∙ is)) in
            absurd (free_not_in c (sym free ∙ (ap (λ (z : View S E). z.stage) (sym d_is) ∙ o.3)))) (r.home c inside_n)),
      )
