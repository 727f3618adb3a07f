-- Stored pages compare as the pages in full do, where these are of numbers near each other.
use Rattle.std.proofs.Common.{Bool, List, None, Option, Some, [], ap, arith, cond, false, nat_lt, refl, subst, sym, true, ℕ, ⊎_elim, ◌&&◌, ◌*◌, ◌+◌, ◌++◌, ◌-◌, ◌/◌, ◌%◌, ◌<◌, ◌==◌, ◌^◌, ◌∙◌, ◌∷◌, ◌≡◌, ◌≤◌}
use Rattle.std.specs.Prelude.{MatchBool}
use Rattle.tx_events.specs.PageOrder.{Ids, Multis, Offsets, page_precedes}
use Rattle.tx_events.specs.Pages.{member_page_in_full}
use Rattle.disk_core.specs.Pages.{zero_page}
use Rattle.slru_bank.specs.Bank.{PutsPage}
use Rattle.slru_bank.specs.Crash.{SameMap}
use Rattle.tx_core.specs.declared.entry.Entry.{Entry}
use Rattle.tx_core.specs.declared.entry.Kind.TheVariants as kinds
use Rattle.tx_core.specs.Pages.{Pages, pages_after, set_by, zeroed, zeroed_in}
use Rattle.tx_core.proofs.PageRing as ring
use Rattle.bank_follows.specs.Cells.{Cells, last_made, stored}
use Rattle.bank_follows.specs.Making.{IsGivenPage, MakesStored, StoredPagesMade, stored_before}
use Rattle.bank_follows.specs.Stores.{member_cells, offset_cells, parent_cells, xact_cells}
use Rattle.bank_follows.proofs.Steps.{pages_push}

-- ---- the four stores

xact_order : (next x y p q : ℕ) → next ≤ x → x ≤ next + 2 ^ 29 → p ≡ x / 32768 → next ≤ y → y ≤ next + 2 ^ 29 → q ≡ y / 32768 → page_precedes Ids 32768 (p % 131072) (q % 131072) ≡ nat_lt p q
xact_order next x y p q x_from x_to p_is y_from y_to q_is = ring.xact_order p q (omega arith) (omega arith)

parent_order : (next x y p q : ℕ) → next ≤ x → x ≤ next + 2 ^ 29 → p ≡ x / 2048 → next ≤ y → y ≤ next + 2 ^ 29 → q ≡ y / 2048 → page_precedes Ids 2048 (p % 2097152) (q % 2097152) ≡ nat_lt p q
parent_order next x y p q x_from x_to p_is y_from y_to q_is = ring.parent_order p q (omega arith) (omega arith)

offset_order : (next x y p q : ℕ) → next ≤ x → x ≤ next + 2 ^ 29 → p ≡ x / 2048 → next ≤ y → y ≤ next + 2 ^ 29 → q ≡ y / 2048 → page_precedes Multis 2048 (p % 2097152) (q % 2097152) ≡ nat_lt p q
offset_order next x y p q x_from x_to p_is y_from y_to q_is = ring.offset_order p q (omega arith) (omega arith)

member_order : (next x y p q : ℕ) → next ≤ x → x ≤ next + 2 ^ 29 → p ≡ member_page_in_full x → next ≤ y → y ≤ next + 2 ^ 29 → q ≡ member_page_in_full y → page_precedes Offsets 1636 (p % 2625286) (q % 2625286) ≡ nat_lt p q
member_order next x y p q x_from x_to p_is y_from y_to q_is =
    let x_on = ring.member_on x p p_is in
    let y_on = ring.member_on y q q_is in
    let x_low = x_on.0 in let x_high = x_on.1 in let y_low = y_on.0 in let y_high = y_on.1 in
    ring.member_order p q (omega arith) (omega arith)

module _ {I V : Type 0} (s : Cells I V) (order : (p q : ℕ) → IsGivenPage s p → IsGivenPage s q → stored_before s (stored s p) (stored s q) ≡ nat_lt p q) where
  by_order : (es : List Entry) (page last : ℕ) → IsGivenPage s (last_made s es) → IsGivenPage s page → last ≡ stored s (last_made s es) → stored_before s last (stored s page) ≡ nat_lt (last_made s es) page
  by_order es page last before given is = ap (λ z. stored_before s z (stored s page)) is ∙ order (last_made s es) page before given

  last_behind : (es : List Entry) (e : Entry) (o : Option ℕ) → zeroed_in e.kind ≡ o → last_made s (es ++ e ∷ []) ≡ (zeroed s.reading.store o (set_by s.reading.store (s.reading.store.items_of e) (pages_after s.reading.store s.reading.first s.reading.shown es))).last
  last_behind es e o is =
      ap (λ (p : Pages V). p.last) (pages_push s.reading es e)
      ∙ ap (λ (z : Option ℕ). (zeroed s.reading.store z (set_by s.reading.store (s.reading.store.items_of e) (pages_after s.reading.store s.reading.first s.reading.shown es))).last) is

  last_of_made : (es : List Entry) (e : Entry) (page : ℕ) → e.kind ≡ kinds.Zero page → last_made s (es ++ e ∷ []) ≡ cond (nat_lt (last_made s es) page) page (last_made s es)
  last_of_made es e page kind =
      let pages : Pages V = set_by s.reading.store (s.reading.store.items_of e) (pages_after s.reading.store s.reading.first s.reading.shown es) in
      let step : (b : Bool) → (cond b (record { last = page; shows = λ id. cond (s.reading.store.page_of id == page) None (pages.shows id) }) pages).last ≡ cond b page (last_made s es) = elim [ true ↦ refl | false ↦ refl ] in
      last_behind es e (Some page) (ap zeroed_in kind) ∙ step (nat_lt (last_made s es) page)

  makes_stored : s.reading.store.page_of s.reading.first ≡ last_made s [] → MakesStored s
  makes_stored begins = record {
    makes = λ es page last old new before given is puts. subst (λ b. MatchBool b (PutsPage (stored s page) zero_page old new) (SameMap old new)) (by_order es page last before given is) puts;
    last = λ es e page last kind before given is.
        let pick : (b : Bool) → cond b (stored s page) last ≡ stored s (cond b page (last_made s es)) = elim [ true ↦ refl | false ↦ is ] in
        ap (λ b. cond b (stored s page) last) (by_order es page last before given is) ∙ pick (nat_lt (last_made s es) page) ∙ ap (stored s) (sym (last_of_made es e page kind));
    given = λ es e page kind before given.
        subst (IsGivenPage s) (sym (last_of_made es e page kind)) (elim (nat_lt (last_made s es) page) as (λ b. IsGivenPage s (cond b page (last_made s es))) [ true ↦ given | false ↦ before ]);
    first = (s.reading.first, omega arith, omega arith, sym begins);
    stays = λ es e none. last_behind es e None none;
  }

pub stored_pages_made : StoredPagesMade
stored_pages_made start = record {
  xact = λ shown. makes_stored (xact_cells start shown) (λ p q a b. xact_order start.base.next a.0 b.0 p q a.1 a.2 a.3 b.1 b.2 b.3) refl;
  parents = makes_stored (parent_cells start) (λ p q a b. parent_order start.base.next a.0 b.0 p q a.1 a.2 a.3 b.1 b.2 b.3) refl;
  offsets = λ shown. makes_stored (offset_cells start shown) (λ p q a b. offset_order start.base.multi a.0 b.0 p q a.1 a.2 a.3 b.1 b.2 b.3) refl;
  members = λ shown. makes_stored (member_cells start shown) (λ p q a b. member_order start.base.offset a.0 b.0 p q a.1 a.2 a.3 b.1 b.2 b.3) refl;
}
