-- The table at the start meets the rule.
use Rattle.std.proofs.Common.{◌≡◌, ℕ, zero, suc, ◌+◌, ◌-◌, ◌<◌, true, false, List, [], ◌∷◌, length, get_or, replicate, refl, sym, ◌∙◌, ap, subst, inl, arith, Some, slice_get}
use Rattle.std.proofs.lemmas.List.{length-map}
use Rattle.std.proofs.lemmas.Option.{slice_get-get_or}
use mathlib.Core.Option.{some, some-injective, some-ne-none}
use mathlib.Core.Logic.{dite}
use native.Mathlib.Decide.{dec_le}
use lib.ListN.{get_elem?, length-replicate, get_or-replicate}
use Rattle.atomic_table.specs.Table.{State, opening}
use Rattle.atomic_table.proofs.Lists.{at_map}
use Rattle.hall.specs.Layout.{Starts}
use Rattle.notes.specs.Lists.{at, Grows}
use Rattle.hall.specs.Lists.{OwnSeen}
use Rattle.hall.specs.declared.writer.Writer.{Writer}
use Rattle.hall.specs.declared.writer.Writer.TheVariants.{Lock}
use Rattle.hall.specs.declared.view.View.{View}
use Rattle.hall.specs.declared.view.Held.{Held}
use Rattle.hall.specs.declared.view.Opening.{Opening}
use Rattle.hall.specs.Rule.{Holds, IsIn, Stands, Told, Kept, first_view}
use Rattle.notes.proofs.Growing.{begins_same}
use Rattle.notes.proofs.Names.{past}
use Rattle.hall.proofs.Moves.{free_not_in}

module _ {S V E : Type 0} (start : S) (passes places : ℕ) (session : E → ℕ) (writer : S → ℕ → Writer) (stands : S → ℕ → V → List E → Type 0) (number : S → ℕ → List E → ℕ) (kept : S → List (List E) → Type 0) where
  abbrev Rule : State (Held V E) (View S E) → Type 0
  Rule = Kept start passes places session writer stands number kept

  -- the table at the start
  module _ (o : Opening S E) (n : ℕ) (posts words : List ℕ) (slots : List (Held V E)) (first : Starts n posts words) (count : length slots ≡ n) (many : length o.lists ≡ n + length posts) (size : places ≡ length o.lists) (each_lock : (c : ℕ) → c < n → writer start c ≡ Lock c) (some_pass : 0 < o.passes) (at_start : start ≡ o.start) (all : passes ≡ o.passes) (law : kept start o.lists)
      (full : (c : ℕ) (h : Held V E) → get_elem? slots c ≡ some h → (x : V) × (h.value ≡ Some x) × stands start c x (at o.lists c))
      (shown : (w x : ℕ) → slice_get posts w ≡ Some x → number start (n + w) (at o.lists (n + w)) ≡ x) where
    here : (l : List (Held V E)) (c : ℕ) → c < length l → (h : Held V E) × (get_elem? l c ≡ some h)
    here [] c h = absurd (omega arith)
    here (x ∷ _) zero h = (x, refl)
    here (_ ∷ l) (suc c) h = here l c (omega arith)

    only : (j : ℕ) (d : View S E) → get_elem? (first_view o ∷ []) j ≡ some d → (j ≡ 0) × (first_view o ≡ d)
    only zero d e = (refl, some-injective (first_view o) d e)
    only (suc j) d e = absurd (some-ne-none d (sym e))

    of_first : (P : View S E → Type 0) → P (first_view o) → (j : ℕ) (d : View S E) → get_elem? (first_view o ∷ []) j ≡ some d → P d
    of_first P x j d e = subst P (only j d e).1 x

    holds_below : (m : ℕ) → Holds (first_view o) m → m < o.passes
    holds_below m h = dite (dec_le o.passes m) (λ le. absurd (let f = past (replicate o.passes true) m false (let e = length-replicate o.passes true in omega arith) in let q : false ≡ true = sym f ∙ h in cc)) (λ lt. omega arith)

    pub opens : Rule (opening words slots (first_view o))
    opens = record {
      n = n;
      p = length posts;
      total = sym many ∙ sym size;
      locks = each_lock;
      posted = λ w lt. first.posted w lt ∙ sym (shown w (get_or posts w 0) (slice_get-get_or posts w 0 lt));
      lists = o.lists;
      many = many;
      deep = length-map slots some ∙ count;
      wide = first.long;
      law = law;
      starts = λ j d a at e. of_first (λ z. (b : S) → z.start ≡ b ∷ [] → b ≡ start) (λ b q. sym (ap (λ (z : List S). get_or z 0 b) q) ∙ sym at_start) j d at a e;
      home = λ c lt. let h = here slots c (omega arith) in let f = full c h.0 h.1 in inl (first.unlocked c lt, (h.0, f.0, at_map some slots c h.0 h.1, f.1, f.2));
      stages = of_first (λ z. Stands (writer start) n words o.lists z.seen z.stage) tt;
      apart = λ i j d e k di ej rd re. (only i d di).0 ∙ sym (only j e ej).0;
      knows = of_first (λ z. Grows z.seen o.lists × ((m : ℕ) → Holds z m → OwnSeen session (writer start) m z.seen o.lists)) (record { begins = λ c. begins_same (at o.lists c) }, (λ m hm. record { entries = λ k. refl; words = record { whole = λ q e. refl } }));
      alone = λ i j d e k di ej rd re. (only i d di).0 ∙ sym (only j e ej).0;
      told = of_first (λ z. Told session (writer start) z.merged) tt;
      named = λ j d m at h. of_first (λ z. Holds z m → m < passes) (λ k. let l = holds_below m k in let q = all in omega arith) j d at h;
      owner = λ j d c at h. of_first (λ z. IsIn z c → Holds z z.name) (λ k. absurd (free_not_in c k)) j d at h;
      whole = λ c lt. (0, first_view o, o.passes - 1, refl, get_or-replicate o.passes (o.passes - 1) true false (omega arith), refl);
    }
