-- A bank stands for its list after a page is made.
use Rattle.std.proofs.Common.{zero, suc, ◌≡◌, ◌≢◌, ℕ, ◌+◌, ◌*◌, ◌/◌, ◌%◌, ◌^◌, ◌≤◌, ◌<◌, ◌==◌, nat_lt, cond, List, [], ◌∷◌, ◌++◌, Bool, true, false, IsTrue, Option, Some, None, MatchBool, refl, sym, ap, subst, ◌∙◌, arith, eqb-true}
use Rattle.std.proofs.lemmas.Bool.Decides.{nat_tests}
use Rattle.std.proofs.lemmas.List.Sums.{fold_push}
use Rattle.std.specs.List.{filter_map, last_or}
use Rattle.std.proofs.lemmas.Bool.{false≢true}
use Rattle.disk_core.specs.Pages.{zero_page}
use Rattle.slru_bank.specs.Bank.{PutsPage}
use Rattle.slru_bank.specs.Crash.{SameMap}
use Rattle.slru_bank.proofs.ZeroBytes.{zero_byte}
use Rattle.tx_events.specs.declared.event.By.{By}
use Rattle.tx_events.proofs.Membership.{by_end}
use Rattle.tx_events.proofs.ListSteps.{eqb-refl}
use Rattle.tx_core.specs.declared.entry.Entry.{Entry}
use Rattle.tx_core.specs.declared.entry.Kind.TheVariants as kinds
use Rattle.tx_core.specs.declared.entry.Start.{Start}
use Rattle.tx_core.specs.declared.entry.State.{State}
use Rattle.tx_core.specs.CleanStart.{CleanStart}
use Rattle.tx_core.specs.Entries.{Mark, marks_in}
use Rattle.tx_core.specs.Locks.{xact_page, xact_lock}
use Rattle.tx_core.specs.Pages.{Pages, after_entry, set_by, xact_store, zeroed, zeroed_in}
use Rattle.tx_core.specs.Verdict.{state_for}
use Rattle.store_pages.specs.Layouts.{bits_at, state_in, xact_page_of, xact_place_of}
use Rattle.engine_parts.specs.Stand.{ShowsStates, XactStands, number_of_state, xact_pages, first_xact_page}
use Rattle.engine_parts.proofs.Cutoffs.{cutoff_more}
use Rattle.tx_core.specs.FaultsRise.{faults_told}
use Rattle.tx_core.proofs.PageRing.{xact_order}
use Rattle.tx_events.specs.PageOrder.{Ids, page_precedes}

-- ---- one entry more

abbrev quiet_pages : Start → List Entry → Pages State
quiet_pages start es = xact_pages start (λ x. None) es

pub pages_push : (start : Start) (before : ℕ → Option State) (es : List Entry) (e : Entry) → xact_pages start before (es ++ e ∷ []) ≡ after_entry xact_store (xact_pages start before es) e
pages_push start before es e = fold_push (after_entry xact_store) (record { last = xact_page start.base.next; shows = before }) es e

-- the last made page doesn't depend on what was shown
last_same : (start : Start) (a b : ℕ → Option State) (es : List Entry) → (xact_pages start a es).last ≡ (xact_pages start b es).last
last_same start a b = by_end (λ es. (xact_pages start a es).last ≡ (xact_pages start b es).last) refl (λ es e before.
    ap (λ (p : Pages State). p.last) (pages_push start a es e) ∙ (step (zeroed_in e.kind) (marks_in e) (xact_pages start a es) (xact_pages start b es) before ∙ sym (ap (λ (p : Pages State). p.last) (pages_push start b es e))))
  where
    step : (o : Option ℕ) (ms : List Mark) (p q : Pages State) → p.last ≡ q.last → (zeroed xact_store o (set_by xact_store ms p)).last ≡ (zeroed xact_store o (set_by xact_store ms q)).last
    step None ms p q h = h
    step (Some page) ms p q h = one (nat_lt p.last page) (nat_lt q.last page) (ap (λ z. nat_lt z page) h)
      where
        one : (x y : Bool) → x ≡ y → (cond x (record { last = page; shows = λ id. cond (xact_page id == page) None (last_or (p.shows id) (filter_map (state_for id) ms)) }) (set_by xact_store ms p)).last ≡ (cond y (record { last = page; shows = λ id. cond (xact_page id == page) None (last_or (q.shows id) (filter_map (state_for id) ms)) }) (set_by xact_store ms q)).last
        one true true e = refl
        one false false e = h
        one true false e = absurd (false≢true (sym e))
        one false true e = absurd (false≢true e)

pub last_from_first : (start : Start) (a : ℕ → Option State) (es : List Entry) → xact_page start.base.next ≤ (xact_pages start a es).last
last_from_first start a = by_end (λ es. xact_page start.base.next ≤ (xact_pages start a es).last) (omega arith) (λ es e before.
    subst (λ (p : Pages State). xact_page start.base.next ≤ p.last) (sym (pages_push start a es e)) (step (zeroed_in e.kind) (marks_in e) (xact_pages start a es) before))
  where
    step : (o : Option ℕ) (ms : List Mark) (p : Pages State) → xact_page start.base.next ≤ p.last → xact_page start.base.next ≤ (zeroed xact_store o (set_by xact_store ms p)).last
    step None ms p h = h
    step (Some page) ms p h = one (nat_lt p.last page) refl
      where
        one : (x : Bool) → nat_lt p.last page ≡ x → xact_page start.base.next ≤ (cond x (record { last = page; shows = λ id. cond (xact_page id == page) None (last_or (p.shows id) (filter_map (state_for id) ms)) }) (set_by xact_store ms p)).last
        one true e = let lt : p.last < page = grind (arith, nat_tests) in omega arith
        one false e = h

-- an entry that makes no page and sets no state
pub xact_quiet : (start : Start) (bank faults faults' last cutoff : ℕ) (tells : Bool) (bytes bytes' : ℕ → List ℕ) (led led' : List Entry → Type 0) (es : List Entry) (e : Entry) → XactStands start bank tells faults last cutoff bytes led es → marks_in e ≡ [] → zeroed_in e.kind ≡ None → faults_told start (xact_lock bank) (es ++ e ∷ []) ≤ faults' → (IsTrue tells → (q k : ℕ) → k < 32768 → state_in (bytes' q) k ≡ state_in (bytes q) k)
    → (IsTrue tells → led es → led' (es ++ e ∷ []))
    → XactStands start bank tells faults' last cutoff bytes' led' (es ++ e ∷ [])
xact_quiet start bank faults faults' last cutoff tells bytes bytes' led led' es e s sets zeros count same leads =
    let still : (before : ℕ → Option State) → xact_pages start before (es ++ e ∷ []) ≡ xact_pages start before es = λ before. pages_push start before es e ∙ (λ j. zeroed xact_store (zeros j) (set_by xact_store (sets j) (xact_pages start before es))) in
    let l : (quiet_pages start (es ++ e ∷ [])).last ≡ (quiet_pages start es).last = ap (λ (p : Pages State). p.last) (still (λ x. None)) in record {
      inside = s.inside;
      count = count;
      last_is = λ made. s.last_is (omega arith) ∙ sym (ap (λ z. z % 2 ^ 17) l);
      cutoff_is = cutoff_more (first_xact_page start) (2 ^ 17) es e cutoff s.cutoff_is;
      near = s.near;
      shown = λ told made.
          let old = s.shown told (omega arith) in
          (old.0, old.1, record { each = λ x used here uncut. same told (xact_page_of x) (xact_place_of x) (omega arith) ∙ (old.2.each x used here uncut ∙ sym (ap (λ (p : Pages State). number_of_state (p.shows x)) (still old.0))) });
      course = λ told. leads told (s.course told);
    }

-- a call that read alone
pub xact_read : (start : Start) (bank faults faults' last last' cutoff cutoff' : ℕ) (tells : Bool) (bytes bytes' : ℕ → List ℕ) (led led' : List Entry → Type 0) (es : List Entry) (e : Entry) → XactStands start bank tells faults last cutoff bytes led es → last' ≡ last → cutoff' ≡ cutoff → marks_in e ≡ [] → zeroed_in e.kind ≡ None → faults_told start (xact_lock bank) (es ++ e ∷ []) ≤ faults' → (IsTrue tells → (q : ℕ) → bytes' q ≡ bytes q)
    → (IsTrue tells → led es → led' (es ++ e ∷ []))
    → XactStands start bank tells faults' last' cutoff' bytes' led' (es ++ e ∷ [])
xact_read start bank faults faults' last last' cutoff cutoff' tells bytes bytes' led led' es e s l c sets zeros count same leads =
    subst (λ (z : ℕ × ℕ). XactStands start bank tells faults' z.0 z.1 bytes' led' (es ++ e ∷ [])) (λ j. (sym l j, sym c j)) (xact_quiet start bank faults faults' last cutoff tells bytes bytes' led led' es e s sets zeros count (λ told q k within. ap (λ (b : List ℕ). state_in b k) (same told q)) leads)

-- ---- a page is made

zero_bits : (k : ℕ) → bits_at 0 k ≡ 0
zero_bits zero = refl
zero_bits (suc k) = zero_bits k

zero_state : (n : ℕ) → state_in zero_page n ≡ 0
zero_state n = ap (λ b. bits_at b (n % 4)) (zero_byte (n / 4)) ∙ zero_bits (n % 4)

-- of two pages in use with one place one is the other
pages_apart : (next oldest p x : ℕ) → next ≤ oldest + 2 ^ 31 → xact_page next ≤ p → p * 32768 < next + 2 ^ 29 → oldest ≤ x → x < next + 2 ^ 30 → xact_page_of x ≡ p % 2 ^ 17 → xact_page x ≡ p
pages_apart next oldest p x near from to old used same = omega arith

module _ (start : Start) (bank faults last cutoff : ℕ) (tells : Bool) (bytes : ℕ → List ℕ) (led : List Entry → Type 0) (es : List Entry) (by : By) (page : ℕ) (s : XactStands start bank tells faults last cutoff bytes led es) (window : start.base.next ≤ start.base.oldest + 2 ^ 31) (from : xact_page start.base.next ≤ page) where
  abbrev made_entry : Entry
  made_entry = record { by = by; kind = kinds.Zero page }

  abbrev old_last : ℕ
  old_last = (quiet_pages start es).last

  abbrev with_page : (ℕ → Option State) → Bool → Pages State
  with_page before b = cond b (record { last = page; shows = λ id. cond (xact_page id == page) None ((xact_pages start before es).shows id) }) (xact_pages start before es)

  after_made : (before : ℕ → Option State) (b : Bool) → nat_lt old_last page ≡ b → xact_pages start before (es ++ made_entry ∷ []) ≡ with_page before b
  after_made before b is = pages_push start before es made_entry ∙ ap (λ c. with_page before c) (ap (λ z. nat_lt z page) (last_same start before (λ x. None) es) ∙ is)

  order_true : nat_lt old_last page ≡ true → page * 32768 < start.base.next + 2 ^ 29 → page_precedes Ids 32768 last (page % 2 ^ 17) ≡ true
  order_true is made =
      let lt : old_last < page = grind (arith, nat_tests) in
      let low = last_from_first start (λ x. None) es in
      let at : last ≡ old_last % 2 ^ 17 = s.last_is (omega arith) in
      ap (λ z. page_precedes Ids 32768 z (page % 2 ^ 17)) at ∙ (xact_order old_last page (omega arith) (omega arith) ∙ is)

  order_false : nat_lt old_last page ≡ false → old_last * 32768 < start.base.next + 2 ^ 29 → page_precedes Ids 32768 last (page % 2 ^ 17) ≡ false
  order_false is made =
      let ge : page ≤ old_last = grind (arith, nat_tests) in
      let low = last_from_first start (λ x. None) es in
      let at : last ≡ old_last % 2 ^ 17 = s.last_is made in
      ap (λ z. page_precedes Ids 32768 z (page % 2 ^ 17)) at ∙ (xact_order old_last page (omega arith) (omega arith) ∙ is)

  module _ (faults' last' : ℕ) (bytes' : ℕ → List ℕ) (led' : List Entry → Type 0) (ends : last' ≡ cond (page_precedes Ids 32768 last (page % 2 ^ 17)) (page % 2 ^ 17) last) (puts : IsTrue tells → MatchBool (page_precedes Ids 32768 last (page % 2 ^ 17)) (PutsPage (page % 2 ^ 17) zero_page bytes bytes') (SameMap bytes bytes')) where
    lasts : (b : Bool) → nat_lt old_last page ≡ b → (quiet_pages start (es ++ made_entry ∷ [])).last * 32768 < start.base.next + 2 ^ 29 → last' ≡ (quiet_pages start (es ++ made_entry ∷ [])).last % 2 ^ 17
    lasts true is made =
        let l : (quiet_pages start (es ++ made_entry ∷ [])).last ≡ page = ap (λ (p : Pages State). p.last) (after_made (λ x. None) true is) in
        ends ∙ (ap (λ b. cond b (page % 2 ^ 17) last) (order_true is (omega arith)) ∙ sym (ap (λ z. z % 2 ^ 17) l))
    lasts false is made =
        let l : (quiet_pages start (es ++ made_entry ∷ [])).last ≡ old_last = ap (λ (p : Pages State). p.last) (after_made (λ x. None) false is) in
        ends ∙ (ap (λ b. cond b (page % 2 ^ 17) last) (order_false is (omega arith)) ∙ (s.last_is (omega arith) ∙ sym (ap (λ z. z % 2 ^ 17) l)))

    shows : (b : Bool) → nat_lt old_last page ≡ b → IsTrue tells → (quiet_pages start (es ++ made_entry ∷ [])).last * 32768 < start.base.next + 2 ^ 29 → (before : ℕ → Option State) × CleanStart start before × ShowsStates start bank cutoff bytes' (xact_pages start before (es ++ made_entry ∷ [])).shows
    shows true is told made =
        let l : (quiet_pages start (es ++ made_entry ∷ [])).last ≡ page = ap (λ (p : Pages State). p.last) (after_made (λ x. None) true is) in
        let lt : old_last < page = grind (arith, nat_tests) in
        let old = s.shown told (omega arith) in
        let put : PutsPage (page % 2 ^ 17) zero_page bytes bytes' = subst (λ b. MatchBool b (PutsPage (page % 2 ^ 17) zero_page bytes bytes') (SameMap bytes bytes')) (order_true is (omega arith)) (puts told) in (
          old.0,
          old.1,
          record {
            each = λ x used here uncut.
                let step : (c : Bool) → (xact_page x == page) ≡ c → state_in (bytes' (xact_page_of x)) (xact_place_of x) ≡ number_of_state (cond c None ((xact_pages start old.0 es).shows x)) = elim [
                  | true ↦ λ q.
                      let same : xact_page x ≡ page = eqb-true (xact_page x) page q in
                      let stored : xact_page_of x ≡ page % 2 ^ 17 = omega arith in
                      ap (λ z. state_in (bytes' z) (xact_place_of x)) stored ∙ (ap (λ (b : List ℕ). state_in b (xact_place_of x)) put.here ∙ zero_state (xact_place_of x))
                  | false ↦ λ q.
                      let other : xact_page x ≢ page = λ (h : xact_page x ≡ page). false≢true (sym q ∙ (ap (λ z. z == page) h ∙ eqb-refl page)) in
                      ap (λ (b : List ℕ). state_in b (xact_place_of x)) (put.others (xact_page_of x) (λ h. other (pages_apart start.base.next start.base.oldest page x window from (omega arith) used.1 (let u = used.2 in omega arith) h))) ∙ old.2.each x used here uncut
                ] in
                step (xact_page x == page) refl ∙ sym (ap (λ (p : Pages State). number_of_state (p.shows x)) (after_made old.0 true is));
          },
        )
    shows false is told made =
        let l : (quiet_pages start (es ++ made_entry ∷ [])).last ≡ old_last = ap (λ (p : Pages State). p.last) (after_made (λ x. None) false is) in
        let old = s.shown told (omega arith) in
        let same : SameMap bytes bytes' = subst (λ b. MatchBool b (PutsPage (page % 2 ^ 17) zero_page bytes bytes') (SameMap bytes bytes')) (order_false is (omega arith)) (puts told) in (
          old.0,
          old.1,
          record {
            each = λ x used here uncut. ap (λ (b : List ℕ). state_in b (xact_place_of x)) (same (xact_page_of x)) ∙ (old.2.each x used here uncut ∙ sym (ap (λ (p : Pages State). number_of_state (p.shows x)) (after_made old.0 false is)));
          },
        )

    -- a page is made, or it was made before
    pub xact_made : faults_told start (xact_lock bank) (es ++ made_entry ∷ []) ≤ faults' → (IsTrue tells → led es → led' (es ++ made_entry ∷ [])) → XactStands start bank tells faults' last' cutoff bytes' led' (es ++ made_entry ∷ [])
    xact_made count leads = record {
      inside = s.inside;
      count = count;
      last_is = lasts (nat_lt old_last page) refl;
      cutoff_is = cutoff_more (first_xact_page start) (2 ^ 17) es made_entry cutoff s.cutoff_is;
      near = s.near;
      shown = shows (nat_lt old_last page) refl;
      course = λ told. leads told (s.course told);
    }
