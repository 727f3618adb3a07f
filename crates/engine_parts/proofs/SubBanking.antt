-- A bank of pg_subtrans stands for its list after one entry more.
use Rattle.std.proofs.Common.{◌≡◌, ◌≢◌, ◌⊎◌, ℕ, ◌+◌, ◌*◌, ◌%◌, ◌^◌, ◌≤◌, ◌<◌, ◌==◌, nat_lt, cond, List, [], ◌∷◌, ◌++◌, Bool, true, false, IsTrue, Option, Some, None, MatchBool, refl, sym, ap, subst, ◌∙◌, ⊎_elim, arith, eqb-true}
use Rattle.std.proofs.lemmas.Bool.Decides.{nat_tests}
use Rattle.std.proofs.lemmas.List.Sums.{fold_push}
use Rattle.std.specs.List.{cons_option, filter_map, last_or}
use Rattle.std.proofs.lemmas.Bool.{false≢true}
use Rattle.disk_core.specs.Pages.{zero_page}
use Rattle.slru_bank.specs.Bank.{PutsPage}
use Rattle.slru_bank.specs.ByteRange.{SetsEntry}
use Rattle.slru_bank.specs.Crash.{SameMap}
use Rattle.slru_bank.proofs.ZeroBytes.{zero_byte}
use Rattle.tx_events.specs.declared.event.By.{By}
use Rattle.tx_events.proofs.Membership.{Has, by_end, contains_has, has_cases}
use Rattle.std.proofs.Common.{Contains}
use Rattle.tx_events.specs.Ids.{IsFullId}
use Rattle.tx_events.proofs.ListSteps.{eqb-refl}
use Rattle.tx_core.specs.declared.entry.Change.TheVariants as changes
use Rattle.tx_core.specs.declared.entry.Entry.{Entry}
use Rattle.tx_core.specs.declared.entry.Kind.TheVariants as kinds
use Rattle.tx_core.specs.declared.entry.Start.{Start}
use Rattle.tx_core.specs.Entries.{Link, links_in}
use Rattle.tx_core.specs.Locks.{subtrans_page, subtrans_lock}
use Rattle.tx_core.specs.Pages.{Pages, after_entry, parent_for, set_by, subtrans_store, zeroed, zeroed_in}
use Rattle.store_pages.specs.Layouts.{number_in, word_page_of, word_place_of}
use Rattle.engine_parts.specs.Stand.{HasPlace, IsInUse, ShowsParents, SubtransStands, number_of_parent, subtrans_pages, first_subtrans_page}
use Rattle.tx_events.specs.Ids.{low_half}
use Rattle.engine_parts.proofs.Cutoffs.{cutoff_more}
use Rattle.tx_core.specs.FaultsRise.{faults_told}
use Rattle.tx_core.proofs.PageRing.{parent_order}
use Rattle.tx_events.specs.PageOrder.{Ids, page_precedes}

-- ---- one entry more

pub links_push : (start : Start) (es : List Entry) (e : Entry) → subtrans_pages start (es ++ e ∷ []) ≡ after_entry subtrans_store (subtrans_pages start es) e
links_push start es e = fold_push (after_entry subtrans_store) (record { last = subtrans_page start.base.next; shows = λ x. None }) es e

last_from_first : (start : Start) (es : List Entry) → subtrans_page start.base.next ≤ (subtrans_pages start es).last
last_from_first start = by_end (λ es. subtrans_page start.base.next ≤ (subtrans_pages start es).last) (omega arith) (λ es e before.
    subst (λ (p : Pages ℕ). subtrans_page start.base.next ≤ p.last) (sym (links_push start es e)) (step (zeroed_in e.kind) (links_in e) (subtrans_pages start es) before))
  where
    step : (o : Option ℕ) (ms : List Link) (p : Pages ℕ) → subtrans_page start.base.next ≤ p.last → subtrans_page start.base.next ≤ (zeroed subtrans_store o (set_by subtrans_store ms p)).last
    step None ms p h = h
    step (Some page) ms p h = one (nat_lt p.last page) refl
      where
        one : (x : Bool) → nat_lt p.last page ≡ x → subtrans_page start.base.next ≤ (cond x (record { last = page; shows = λ id. cond (subtrans_page id == page) None (last_or (p.shows id) (filter_map (parent_for id) ms)) }) (set_by subtrans_store ms p)).last
        one true e = let lt : p.last < page = grind (arith, nat_tests) in omega arith
        one false e = h

last_rises : (start : Start) (es : List Entry) (e : Entry) → (subtrans_pages start es).last ≤ (subtrans_pages start (es ++ e ∷ [])).last
last_rises start es e = subst (λ (p : Pages ℕ). (subtrans_pages start es).last ≤ p.last) (sym (links_push start es e)) (step (zeroed_in e.kind) (links_in e) (subtrans_pages start es))
  where
    step : (o : Option ℕ) (ms : List Link) (p : Pages ℕ) → p.last ≤ (zeroed subtrans_store o (set_by subtrans_store ms p)).last
    step None ms p = omega arith
    step (Some page) ms p = one (nat_lt p.last page) refl
      where
        one : (x : Bool) → nat_lt p.last page ≡ x → p.last ≤ (cond x (record { last = page; shows = λ id. cond (subtrans_page id == page) None (last_or (p.shows id) (filter_map (parent_for id) ms)) }) (set_by subtrans_store ms p)).last
        one true e = let lt : p.last < page = grind (arith, nat_tests) in omega arith
        one false e = omega arith

zero_reaches : (start : Start) (es : List Entry) (by : By) (page : ℕ) → page ≤ (subtrans_pages start (es ++ record { by = by; kind = kinds.Zero page } ∷ [])).last
zero_reaches start es by page = subst (λ (p : Pages ℕ). page ≤ p.last) (sym (links_push start es (record { by = by; kind = kinds.Zero page }))) (one (nat_lt (subtrans_pages start es).last page) refl)
  where
    one : (x : Bool) → nat_lt (subtrans_pages start es).last page ≡ x → page ≤ (cond x (record { last = page; shows = λ id. cond (subtrans_page id == page) None ((subtrans_pages start es).shows id) }) (subtrans_pages start es)).last
    one true e = omega arith
    one false e = let ge : page ≤ (subtrans_pages start es).last = grind (arith, nat_tests) in ge

-- a page that was made isn't past the last one
pub page_reached : (start : Start) (es : List Entry) (page : ℕ) → (page ≡ subtrans_page start.base.next) ⊎ ((by : By) × Contains es (record { by = by; kind = kinds.Zero page })) → page ≤ (subtrans_pages start es).last
page_reached start es page made = ⊎_elim (λ (q : page ≡ subtrans_page start.base.next). let l = last_from_first start es in omega arith) (λ m. reached es m.0 (contains_has es (record { by = m.0; kind = kinds.Zero page }) m.1)) made
  where
    reached : (es : List Entry) (by : By) → Has es (record { by = by; kind = kinds.Zero page }) → page ≤ (subtrans_pages start es).last
    reached es by = by_end (λ es. Has es (record { by = by; kind = kinds.Zero page }) → page ≤ (subtrans_pages start es).last) (λ k. absurd k) (λ es e before k.
        ⊎_elim
        (λ o. let b = before o in let r = last_rises start es e in omega arith)
        (λ z. ⊎_elim (λ (q : e ≡ record { by = by; kind = kinds.Zero page }). subst (λ (x : Entry). page ≤ (subtrans_pages start (es ++ x ∷ [])).last) (sym q) (zero_reaches start es by page)) (λ y. absurd y) z)
        (has_cases es (e ∷ []) (record { by = by; kind = kinds.Zero page }) k)) es

-- an entry that makes no page and sets no parent
pub sub_quiet : (start : Start) (bank faults faults' last cutoff : ℕ) (tells : Bool) (bytes bytes' : ℕ → List ℕ) (led led' : List Entry → Type 0) (es : List Entry) (e : Entry) → SubtransStands start bank tells faults last cutoff bytes led es → links_in e ≡ [] → zeroed_in e.kind ≡ None → faults_told start (subtrans_lock bank) (es ++ e ∷ []) ≤ faults' → (IsTrue tells → (q : ℕ) → bytes' q ≡ bytes q)
    → (IsTrue tells → led es → led' (es ++ e ∷ []))
    → SubtransStands start bank tells faults' last cutoff bytes' led' (es ++ e ∷ [])
sub_quiet start bank faults faults' last cutoff tells bytes bytes' led led' es e s sets zeros count same leads =
    let still : subtrans_pages start (es ++ e ∷ []) ≡ subtrans_pages start es = links_push start es e ∙ (λ j. zeroed subtrans_store (zeros j) (set_by subtrans_store (sets j) (subtrans_pages start es))) in
    let l : (subtrans_pages start (es ++ e ∷ [])).last ≡ (subtrans_pages start es).last = ap (λ (p : Pages ℕ). p.last) still in record {
      inside = s.inside;
      count = count;
      last_is = λ made. s.last_is (omega arith) ∙ sym (ap (λ z. z % 2 ^ 21) l);
      cutoff_is = cutoff_more (first_subtrans_page start) (2 ^ 21) es e cutoff s.cutoff_is;
      near = s.near;
      shown = λ told made.
          let old = s.shown told (omega arith) in
          record { each = λ x used here uncut. ap (λ (b : List ℕ). number_in b (word_place_of x)) (same told (word_page_of x)) ∙ (old.each x used here uncut ∙ sym (ap (λ (p : Pages ℕ). number_of_parent (p.shows x)) still)) };
      course = λ told. leads told (s.course told);
    }

-- a call that read alone
pub sub_read : (start : Start) (bank faults faults' last last' cutoff cutoff' : ℕ) (tells : Bool) (bytes bytes' : ℕ → List ℕ) (led led' : List Entry → Type 0) (es : List Entry) (e : Entry) → SubtransStands start bank tells faults last cutoff bytes led es → last' ≡ last → cutoff' ≡ cutoff → links_in e ≡ [] → zeroed_in e.kind ≡ None → faults_told start (subtrans_lock bank) (es ++ e ∷ []) ≤ faults' → (IsTrue tells → (q : ℕ) → bytes' q ≡ bytes q)
    → (IsTrue tells → led es → led' (es ++ e ∷ []))
    → SubtransStands start bank tells faults' last' cutoff' bytes' led' (es ++ e ∷ [])
sub_read start bank faults faults' last last' cutoff cutoff' tells bytes bytes' led led' es e s l c sets zeros count same leads =
    subst (λ (z : ℕ × ℕ). SubtransStands start bank tells faults' z.0 z.1 bytes' led' (es ++ e ∷ [])) (λ j. (sym l j, sym c j)) (sub_quiet start bank faults faults' last cutoff tells bytes bytes' led led' es e s sets zeros count same leads)

-- ---- a page is made

zero_number : (n : ℕ) → number_in zero_page n ≡ 0
zero_number n = rw (zero_byte n, zero_byte (n + 1), zero_byte (n + 2), zero_byte (n + 3)) refl

-- of two pages in use with one place one is the other
pages_apart : (next oldest p x : ℕ) → next ≤ oldest + 2 ^ 31 → subtrans_page next ≤ p → p * 2048 < next + 2 ^ 29 → oldest ≤ x → x < next + 2 ^ 30 → word_page_of x ≡ p % 2 ^ 21 → subtrans_page x ≡ p
pages_apart next oldest p x near from to old used same = omega arith

module _ (start : Start) (bank faults last cutoff : ℕ) (tells : Bool) (bytes : ℕ → List ℕ) (led : List Entry → Type 0) (es : List Entry) (by : By) (page : ℕ) (s : SubtransStands start bank tells faults last cutoff bytes led es) (window : start.base.next ≤ start.base.oldest + 2 ^ 31) (from : subtrans_page start.base.next ≤ page) where
  abbrev made_entry : Entry
  made_entry = record { by = by; kind = kinds.Zero page }

  abbrev old_last : ℕ
  old_last = (subtrans_pages start es).last

  abbrev with_page : Bool → Pages ℕ
  with_page b = cond b (record { last = page; shows = λ id. cond (subtrans_page id == page) None ((subtrans_pages start es).shows id) }) (subtrans_pages start es)

  after_made : (b : Bool) → nat_lt old_last page ≡ b → subtrans_pages start (es ++ made_entry ∷ []) ≡ with_page b
  after_made b is = links_push start es made_entry ∙ ap (λ c. with_page c) is

  order_true : nat_lt old_last page ≡ true → page * 2048 < start.base.next + 2 ^ 29 → page_precedes Ids 2048 last (page % 2 ^ 21) ≡ true
  order_true is made =
      let lt : old_last < page = grind (arith, nat_tests) in
      let low = last_from_first start es in
      let at : last ≡ old_last % 2 ^ 21 = s.last_is (omega arith) in
      ap (λ z. page_precedes Ids 2048 z (page % 2 ^ 21)) at ∙ (parent_order old_last page (omega arith) (omega arith) ∙ is)

  order_false : nat_lt old_last page ≡ false → old_last * 2048 < start.base.next + 2 ^ 29 → page_precedes Ids 2048 last (page % 2 ^ 21) ≡ false
  order_false is made =
      let ge : page ≤ old_last = grind (arith, nat_tests) in
      let low = last_from_first start es in
      let at : last ≡ old_last % 2 ^ 21 = s.last_is made in
      ap (λ z. page_precedes Ids 2048 z (page % 2 ^ 21)) at ∙ (parent_order old_last page (omega arith) (omega arith) ∙ is)

  module _ (faults' last' : ℕ) (bytes' : ℕ → List ℕ) (led' : List Entry → Type 0) (ends : last' ≡ cond (page_precedes Ids 2048 last (page % 2 ^ 21)) (page % 2 ^ 21) last) (puts : IsTrue tells → MatchBool (page_precedes Ids 2048 last (page % 2 ^ 21)) (PutsPage (page % 2 ^ 21) zero_page bytes bytes') (SameMap bytes bytes')) where
    lasts : (b : Bool) → nat_lt old_last page ≡ b → (subtrans_pages start (es ++ made_entry ∷ [])).last * 2048 < start.base.next + 2 ^ 29 → last' ≡ (subtrans_pages start (es ++ made_entry ∷ [])).last % 2 ^ 21
    lasts true is made =
        let l : (subtrans_pages start (es ++ made_entry ∷ [])).last ≡ page = ap (λ (p : Pages ℕ). p.last) (after_made true is) in
        ends ∙ (ap (λ b. cond b (page % 2 ^ 21) last) (order_true is (omega arith)) ∙ sym (ap (λ z. z % 2 ^ 21) l))
    lasts false is made =
        let l : (subtrans_pages start (es ++ made_entry ∷ [])).last ≡ old_last = ap (λ (p : Pages ℕ). p.last) (after_made false is) in
        ends ∙ (ap (λ b. cond b (page % 2 ^ 21) last) (order_false is (omega arith)) ∙ (s.last_is (omega arith) ∙ sym (ap (λ z. z % 2 ^ 21) l)))

    shows : (b : Bool) → nat_lt old_last page ≡ b → IsTrue tells → (subtrans_pages start (es ++ made_entry ∷ [])).last * 2048 < start.base.next + 2 ^ 29 → ShowsParents start bank cutoff bytes' (subtrans_pages start (es ++ made_entry ∷ [])).shows
    shows true is told made =
        let l : (subtrans_pages start (es ++ made_entry ∷ [])).last ≡ page = ap (λ (p : Pages ℕ). p.last) (after_made true is) in
        let lt : old_last < page = grind (arith, nat_tests) in
        let old = s.shown told (omega arith) in
        let put : PutsPage (page % 2 ^ 21) zero_page bytes bytes' = subst (λ b. MatchBool b (PutsPage (page % 2 ^ 21) zero_page bytes bytes') (SameMap bytes bytes')) (order_true is (omega arith)) (puts told) in
        record {
          each = λ x used here uncut.
              let step : (c : Bool) → (subtrans_page x == page) ≡ c → number_in (bytes' (word_page_of x)) (word_place_of x) ≡ number_of_parent (cond c None ((subtrans_pages start es).shows x)) = elim [
                | true ↦ λ q.
                    let same : subtrans_page x ≡ page = eqb-true (subtrans_page x) page q in
                    let stored : word_page_of x ≡ page % 2 ^ 21 = omega arith in
                    ap (λ z. number_in (bytes' z) (word_place_of x)) stored ∙ (ap (λ (b : List ℕ). number_in b (word_place_of x)) put.here ∙ zero_number (word_place_of x))
                | false ↦ λ q.
                    let other : subtrans_page x ≢ page = λ (h : subtrans_page x ≡ page). false≢true (sym q ∙ (ap (λ z. z == page) h ∙ eqb-refl page)) in
                    ap (λ (b : List ℕ). number_in b (word_place_of x)) (put.others (word_page_of x) (λ h. other (pages_apart start.base.next start.base.oldest page x window from (omega arith) used.1 (let u = used.2 in omega arith) h))) ∙ old.each x used here uncut
              ] in
              step (subtrans_page x == page) refl ∙ sym (ap (λ (p : Pages ℕ). number_of_parent (p.shows x)) (after_made true is));
        }
    shows false is told made =
        let l : (subtrans_pages start (es ++ made_entry ∷ [])).last ≡ old_last = ap (λ (p : Pages ℕ). p.last) (after_made false is) in
        let old = s.shown told (omega arith) in
        let same : SameMap bytes bytes' = subst (λ b. MatchBool b (PutsPage (page % 2 ^ 21) zero_page bytes bytes') (SameMap bytes bytes')) (order_false is (omega arith)) (puts told) in
        record {
          each = λ x used here uncut. ap (λ (b : List ℕ). number_in b (word_place_of x)) (same (word_page_of x)) ∙ (old.each x used here uncut ∙ sym (ap (λ (p : Pages ℕ). number_of_parent (p.shows x)) (after_made false is)));
        }

    -- a page is made, or it was made before
    pub sub_made : faults_told start (subtrans_lock bank) (es ++ made_entry ∷ []) ≤ faults' → (IsTrue tells → led es → led' (es ++ made_entry ∷ [])) → SubtransStands start bank tells faults' last' cutoff bytes' led' (es ++ made_entry ∷ [])
    sub_made count leads = record { inside = s.inside; count = count; last_is = lasts (nat_lt old_last page) refl; cutoff_is = cutoff_more (first_subtrans_page start) (2 ^ 21) es made_entry cutoff s.cutoff_is; near = s.near; shown = shows (nat_lt old_last page) refl; course = λ told. leads told (s.course told) }

-- ---- a parent is set

-- two ids in use with one stored page and place are one
apart : (next oldest a b : ℕ) → next ≤ oldest + 2 ^ 31 → oldest ≤ a → a < next + 2 ^ 30 → oldest ≤ b → b < next + 2 ^ 30 → word_page_of a ≡ word_page_of b → low_half a % 2048 ≡ low_half b % 2048 → a ≡ b
apart next oldest a b near ao an bo bn p q = omega arith

module _ (start : Start) (bank faults last cutoff : ℕ) (tells : Bool) (bytes : ℕ → List ℕ) (led : List Entry → Type 0) (es : List Entry) (by : By) (id parent : ℕ) (s : SubtransStands start bank tells faults last cutoff bytes led es) (window : start.base.next ≤ start.base.oldest + 2 ^ 31) (full : IsFullId id) (old_id : start.base.oldest ≤ id) (reaches : subtrans_page id ≤ (subtrans_pages start es).last) where
  abbrev set_entry : Entry
  set_entry = record { by = by; kind = kinds.Set (changes.Parent by id parent ∷ []) }

  after_set : subtrans_pages start (es ++ set_entry ∷ []) ≡ record { last = (subtrans_pages start es).last; shows = λ x. cond (id == x) (Some parent) ((subtrans_pages start es).shows x) }
  after_set = links_push start es set_entry ∙ (λ j. record { last = (subtrans_pages start es).last; shows = λ x. turned x (id == x) j })
    where
      turned : (x : ℕ) (b : Bool) → last_or ((subtrans_pages start es).shows x) (cons_option (cond b (Some parent) None) []) ≡ cond b (Some parent) ((subtrans_pages start es).shows x)
      turned x true = refl
      turned x false = refl

  pub sub_set : (faults' last' cutoff' : ℕ) (bytes' : ℕ → List ℕ) (led' : List Entry → Type 0) → last' ≡ last → cutoff' ≡ cutoff → faults_told start (subtrans_lock bank) (es ++ set_entry ∷ []) ≤ faults' → (IsTrue tells → SetsEntry (word_page_of id) (low_half id % 2048) (low_half parent) bytes bytes') → (IsTrue tells → led es → led' (es ++ set_entry ∷ [])) → SubtransStands start bank tells faults' last' cutoff' bytes' led' (es ++ set_entry ∷ [])
  sub_set faults' last' cutoff' bytes' led' l c count sets leads =
      let same : (subtrans_pages start (es ++ set_entry ∷ [])).last ≡ (subtrans_pages start es).last = ap (λ (p : Pages ℕ). p.last) after_set in
      subst (λ (z : ℕ × ℕ). SubtransStands start bank tells faults' z.0 z.1 bytes' led' (es ++ set_entry ∷ [])) (λ j. (sym l j, sym c j)) (record {
        inside = s.inside;
        count = count;
        last_is = λ made. s.last_is (omega arith) ∙ sym (ap (λ z. z % 2 ^ 21) same);
        cutoff_is = cutoff_more (first_subtrans_page start) (2 ^ 21) es set_entry cutoff s.cutoff_is;
        near = s.near;
        shown = λ told made.
            let old = s.shown told (omega arith) in
            let put = sets told in
            let used_id : HasPlace start id = (full, old_id, omega arith) in
            record {
              each = λ x used here uncut.
                  let step : (b : Bool) → (id == x) ≡ b → number_in (bytes' (word_page_of x)) (word_place_of x) ≡ number_of_parent (cond b (Some parent) ((subtrans_pages start es).shows x)) = elim [
                    | true ↦ λ q.
                        let is : id ≡ x = eqb-true id x q in
                        subst (λ z. number_in (bytes' (word_page_of z)) (word_place_of z) ≡ low_half parent) is put.here
                    | false ↦ λ q.
                        let other : id ≢ x = λ (h : id ≡ x). false≢true (sym q ∙ (ap (λ z. z == x) h ∙ eqb-refl x)) in
                        stays used_id x used put other ∙ old.each x used here uncut
                  ] in
                  step (id == x) refl ∙ sym (ap (λ (p : Pages ℕ). number_of_parent (p.shows x)) after_set);
            };
        course = λ told. leads told (s.course told);
      })
    where
      stays : HasPlace start id → (x : ℕ) → IsInUse start x → SetsEntry (word_page_of id) (low_half id % 2048) (low_half parent) bytes bytes' → id ≢ x → number_in (bytes' (word_page_of x)) (word_place_of x) ≡ number_in (bytes (word_page_of x)) (word_place_of x)
      stays used_id x used put other = step (word_page_of x == word_page_of id) refl
        where
          step : (b : Bool) → (word_page_of x == word_page_of id) ≡ b → number_in (bytes' (word_page_of x)) (word_place_of x) ≡ number_in (bytes (word_page_of x)) (word_place_of x)
          step true q =
              let page : word_page_of x ≡ word_page_of id = eqb-true (word_page_of x) (word_page_of id) q in
              subst (λ z. number_in (bytes' z) (word_place_of x) ≡ number_in (bytes z) (word_place_of x)) (sym page)
              (put.same_page (low_half x % 2048) (omega arith) (λ (h : low_half x % 2048 ≡ low_half id % 2048). other (apart start.base.next start.base.oldest id x window used_id.1 used_id.2 used.1 (let u = used.2 in omega arith) (sym page) (sym h))))
          step false q = ap (λ (t : List ℕ). number_in t (word_place_of x)) (put.others (word_page_of x) (λ (h : word_page_of x ≡ word_page_of id). false≢true (sym q ∙ (ap (λ z. z == word_page_of id) h ∙ eqb-refl (word_page_of id)))))
