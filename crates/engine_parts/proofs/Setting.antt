-- A bank stands for its list after states were set on one page.
use Rattle.std.proofs.Common.{zero, suc, ◌≡◌, ◌≢◌, ◌⊎◌, ℕ, ◌+◌, ◌*◌, ◌%◌, ◌^◌, ◌≤◌, ◌<◌, ◌==◌, cond, List, [], ◌∷◌, ◌++◌, Bool, true, false, IsTrue, nat_lt, Option, Some, None, refl, sym, ap, subst, ◌∙◌, inl, inr, ⊎_elim, arith, length, slice_index, eqb-true}
use Rattle.std.specs.List.{cons_option, filter_map, last_or}
use Rattle.std.proofs.lemmas.Bool.{false≢true}
use Rattle.tx_events.specs.declared.event.By.{By}
use Rattle.tx_events.proofs.ListSteps.{eqb-refl}
use Rattle.store_pages.specs.Layouts.{state_in, xact_page_of, xact_place_of}
use Rattle.tx_core.specs.declared.entry.Entry.{Entry}
use Rattle.tx_core.specs.declared.entry.Kind.TheVariants as kinds
use Rattle.tx_core.specs.declared.entry.Start.{Start}
use Rattle.tx_core.specs.declared.entry.State.{State}
use Rattle.tx_core.specs.Entries.{mark_of, marks_in}
use Rattle.tx_core.specs.Laws.{all_set}
use Rattle.tx_core.specs.Locks.{xact_page, xact_lock}
use Rattle.tx_core.specs.PagesBeforeIds.{WasMade}
use Rattle.tx_events.proofs.Membership.{Has, by_end, contains_has, has_cases}
use Rattle.tx_events.specs.Ids.{IsFullId}
use Rattle.std.proofs.lemmas.Bool.Decides.{nat_tests}
use Rattle.tx_core.specs.Entries.{Mark}
use Rattle.tx_core.specs.Pages.{Pages, set_by, xact_store, zeroed, zeroed_in}
use Rattle.tx_core.specs.Verdict.{state_for}
use Rattle.slru_bank.specs.Changes.{SetsStates}
use Rattle.engine_parts.specs.Stand.{HasPlace, IsInUse, XactStands, number_of_state, xact_pages, first_xact_page}
use Rattle.engine_parts.proofs.Banking.{last_from_first, pages_push}
use Rattle.tx_core.specs.FaultsRise.{faults_told}
use Rattle.engine_parts.proofs.Cutoffs.{cutoff_more}

-- what the last of these changes says of x
abbrev said : By → State → List ℕ → ℕ → Option State → Option State
said by state ids x o = last_or o (filter_map (state_for x) (filter_map mark_of (all_set by state ids)))

-- x is one of the ids, and shows the state, or it is none of them, and shows what it did
record IsSet (by : By) (state : State) (ids : List ℕ) (x : ℕ) (o : Option State) : Type 0 where
  at : ℕ
  within : at < length ids
  here : slice_index ids at ≡ x
  shows : said by state ids x o ≡ Some state

record IsNotSet (by : By) (state : State) (ids : List ℕ) (x : ℕ) (o : Option State) : Type 0 where
  none : (j : ℕ) → j < length ids → slice_index ids j ≢ x
  shows : said by state ids x o ≡ o

set_or_not : (by : By) (state : State) (ids : List ℕ) (x : ℕ) (o : Option State) → IsSet by state ids x o ⊎ IsNotSet by state ids x o
set_or_not by state [] x o = inr (record { none = λ j within. absurd (omega arith); shows = refl })
set_or_not by state (y ∷ ys) x o = step (y == x) refl (set_or_not by state ys x (Some state)) (set_or_not by state ys x o)
  where
    step : (b : Bool) → (y == x) ≡ b → IsSet by state ys x (Some state) ⊎ IsNotSet by state ys x (Some state) → IsSet by state ys x o ⊎ IsNotSet by state ys x o → IsSet by state (y ∷ ys) x o ⊎ IsNotSet by state (y ∷ ys) x o
    step true q rest other =
        let first : said by state (y ∷ ys) x o ≡ said by state ys x (Some state) = ap (λ b. last_or o (cons_option (cond b (Some state) None) (filter_map (state_for x) (filter_map mark_of (all_set by state ys))))) q in
        inl (record { at = 0; within = omega arith; here = eqb-true y x q; shows = first ∙ ⊎_elim (λ (s : IsSet by state ys x (Some state)). s.shows) (λ (n : IsNotSet by state ys x (Some state)). n.shows) rest })
    step false q rest other =
        let first : said by state (y ∷ ys) x o ≡ said by state ys x o = ap (λ b. last_or o (cons_option (cond b (Some state) None) (filter_map (state_for x) (filter_map mark_of (all_set by state ys))))) q in
        let differs : y ≢ x = λ (h : y ≡ x). false≢true (sym q ∙ (ap (λ z. z == x) h ∙ eqb-refl x)) in
        ⊎_elim
        (λ (s : IsSet by state ys x o). inl (record { at = suc s.at; within = (let w = s.within in omega arith); here = s.here; shows = first ∙ s.shows }))
        (λ (n : IsNotSet by state ys x o). inr (record { none = not_here differs n.none; shows = first ∙ n.shows }))
        other
      where
        not_here : y ≢ x → ((j : ℕ) → j < length ys → slice_index ys j ≢ x) → (j : ℕ) → j < length (y ∷ ys) → slice_index (y ∷ ys) j ≢ x
        not_here d rest zero within = d
        not_here d rest (suc j) within = rest j (omega arith)

-- two ids in use with one stored page and place are one
apart : (next oldest a b : ℕ) → next ≤ oldest + 2 ^ 31 → oldest ≤ a → a < next + 2 ^ 30 → oldest ≤ b → b < next + 2 ^ 30 → xact_page_of a ≡ xact_page_of b → xact_place_of a ≡ xact_place_of b → a ≡ b
apart next oldest a b near ao an bo bn p q = omega arith

-- the last made page is not before any that an entry made
last_rises : (start : Start) (a : ℕ → Option State) (es : List Entry) (e : Entry) → (xact_pages start a es).last ≤ (xact_pages start a (es ++ e ∷ [])).last
last_rises start a es e = subst (λ (p : Pages State). (xact_pages start a es).last ≤ p.last) (sym (pages_push start a es e)) (step (zeroed_in e.kind) (marks_in e) (xact_pages start a es))
  where
    step : (o : Option ℕ) (ms : List Mark) (p : Pages State) → p.last ≤ (zeroed xact_store o (set_by xact_store ms p)).last
    step None ms p = omega arith
    step (Some page) ms p = one (nat_lt p.last page) refl
      where
        one : (x : Bool) → nat_lt p.last page ≡ x → p.last ≤ (cond x (record { last = page; shows = λ id. cond (xact_page id == page) None (last_or (p.shows id) (filter_map (state_for id) ms)) }) (set_by xact_store ms p)).last
        one true e = let lt : p.last < page = grind (arith, nat_tests) in omega arith
        one false e = omega arith

last_takes : (start : Start) (a : ℕ → Option State) (es : List Entry) (by : By) (page : ℕ) → page ≤ (xact_pages start a (es ++ record { by = by; kind = kinds.Zero page } ∷ [])).last
last_takes start a es by page =
    let e : Entry = record { by = by; kind = kinds.Zero page } in
    subst (λ (p : Pages State). page ≤ p.last) (sym (pages_push start a es e)) (one (xact_pages start a es) (nat_lt (xact_pages start a es).last page) refl)
  where
    one : (p : Pages State) (x : Bool) → nat_lt p.last page ≡ x → page ≤ (cond x (record { last = page; shows = λ id. cond (xact_page id == page) None (p.shows id) }) p).last
    one p true e = omega arith
    one p false e = let ge : page ≤ p.last = grind (arith, nat_tests) in ge

pub made_upto : (start : Start) (a : ℕ → Option State) (es : List Entry) (page : ℕ) → WasMade es (xact_page start.base.next) page → page ≤ (xact_pages start a es).last
made_upto start a es page m = ⊎_elim (λ (q : page ≡ xact_page start.base.next). let f = last_from_first start a es in omega arith) (λ z. upto z.0 es (contains_has es (record { by = z.0; kind = kinds.Zero page }) z.1)) m
  where
    upto : (by : By) (es : List Entry) → Has es (record { by = by; kind = kinds.Zero page }) → page ≤ (xact_pages start a es).last
    upto by = by_end (λ es. Has es (record { by = by; kind = kinds.Zero page }) → page ≤ (xact_pages start a es).last) (λ h. absurd h) (λ es e before h.
        let z : Entry = record { by = by; kind = kinds.Zero page } in
        ⊎_elim
        (λ (old : Has es z). let b = before old in let r = last_rises start a es e in omega arith)
        (λ (new : Has (e ∷ []) z). ⊎_elim (λ (q : e ≡ z). subst (λ (d : Entry). page ≤ (xact_pages start a (es ++ d ∷ [])).last) (sym q) (last_takes start a es by page)) (λ n. absurd n) new)
        (has_cases es (e ∷ []) z h))

-- a life has room for an id on a made page, as long as no page was made past those
pub in_use : (start : Start) (es : List Entry) (id : ℕ) → (xact_pages start (λ x. None) es).last * 32768 < start.base.next + 2 ^ 29 → WasMade es (xact_page start.base.next) (xact_page id) → IsFullId id → start.base.oldest ≤ id → HasPlace start id
in_use start es id few made full old = let up = made_upto start (λ x. None) es (xact_page id) made in (full, old, omega arith)

pub xact_set : (start : Start) (bank faults faults' last last' cutoff cutoff' : ℕ) (tells : Bool) (bytes bytes' : ℕ → List ℕ) (led led' : List Entry → Type 0) (es : List Entry) (by : By) (state : State) (ids : List ℕ) → XactStands start bank tells faults last cutoff bytes led es → last' ≡ last → cutoff' ≡ cutoff
    → start.base.next ≤ start.base.oldest + 2 ^ 31 → ((j : ℕ) → j < length ids → WasMade es (xact_page start.base.next) (xact_page (slice_index ids j)) × IsFullId (slice_index ids j) × (start.base.oldest ≤ slice_index ids j)) → ((j : ℕ) → j < length ids → xact_page_of (slice_index ids j) ≡ xact_page_of (slice_index ids 0))
    → faults_told start (xact_lock bank) (es ++ record { by = by; kind = kinds.Set (all_set by state ids) } ∷ []) ≤ faults'
    → (IsTrue tells → SetsStates ids (length ids) (number_of_state (Some state)) bytes bytes')
    → (IsTrue tells → led es → led' (es ++ record { by = by; kind = kinds.Set (all_set by state ids) } ∷ []))
    → XactStands start bank tells faults' last' cutoff' bytes' led' (es ++ record { by = by; kind = kinds.Set (all_set by state ids) } ∷ [])
xact_set start bank faults faults' last last' cutoff cutoff' tells bytes bytes' led led' es by state ids s l c window used one_page count sets leads =
    let e : Entry = record { by = by; kind = kinds.Set (all_set by state ids) } in
    let after : (before : ℕ → Option State) → xact_pages start before (es ++ e ∷ []) ≡ set_by xact_store (marks_in e) (xact_pages start before es) = λ before. pages_push start before es e in
    let same : (xact_pages start (λ x. None) (es ++ e ∷ [])).last ≡ (xact_pages start (λ x. None) es).last = ap (λ (p : Pages State). p.last) (after (λ x. None)) in
    subst (λ (z : ℕ × ℕ). XactStands start bank tells faults' z.0 z.1 bytes' led' (es ++ e ∷ [])) (λ j. (sym l j, sym c j)) (record {
      inside = s.inside;
      count = count;
      last_is = λ made. s.last_is (omega arith) ∙ sym (ap (λ z. z % 2 ^ 17) same);
      cutoff_is = cutoff_more (first_xact_page start) (2 ^ 17) es e cutoff s.cutoff_is;
      near = s.near;
      shown = λ told made.
          let few : (xact_pages start (λ x. None) es).last * 32768 < start.base.next + 2 ^ 29 = omega arith in
          let old = s.shown told few in
          let put = sets told in (
            old.0,
            old.1,
            record {
              each = λ x use_of here uncut.
                  let o : Option State = (xact_pages start old.0 es).shows x in
                  let goal : (set_by xact_store (marks_in e) (xact_pages start old.0 es)).shows x ≡ said by state ids x o = refl in
                  ⊎_elim
                  (λ (k : IsSet by state ids x o).
                  let page : xact_page_of (slice_index ids 0) ≡ xact_page_of x = sym (one_page k.at k.within) ∙ ap xact_page_of k.here in
                  subst (λ (z : ℕ × ℕ). state_in (bytes' z.0) (xact_place_of z.1) ≡ number_of_state (Some state)) (λ j. (page j, k.here j)) (put.each k.at k.within)
                  ∙ sym (ap number_of_state (k.shows)) ∙ sym (ap (λ (p : Pages State). number_of_state (p.shows x)) (after old.0)))
                  (λ (k : IsNotSet by state ids x o).
                  stays few x o use_of put k ∙ (old.2.each x use_of here uncut ∙ sym (ap number_of_state (k.shows)) ∙ sym (ap (λ (p : Pages State). number_of_state (p.shows x)) (after old.0))))
                  (set_or_not by state ids x o);
            },
          );
      course = λ told. leads told (s.course told);
    })
  where
    stays : (xact_pages start (λ x. None) es).last * 32768 < start.base.next + 2 ^ 29 → (x : ℕ) (o : Option State) → IsInUse start x → SetsStates ids (length ids) (number_of_state (Some state)) bytes bytes' → IsNotSet by state ids x o → state_in (bytes' (xact_page_of x)) (xact_place_of x) ≡ state_in (bytes (xact_page_of x)) (xact_place_of x)
    stays few x o used_x put k = step (xact_page_of x == xact_page_of (slice_index ids 0)) refl
      where
        step : (b : Bool) → (xact_page_of x == xact_page_of (slice_index ids 0)) ≡ b → state_in (bytes' (xact_page_of x)) (xact_place_of x) ≡ state_in (bytes (xact_page_of x)) (xact_place_of x)
        step true q =
            let page : xact_page_of x ≡ xact_page_of (slice_index ids 0) = eqb-true (xact_page_of x) (xact_page_of (slice_index ids 0)) q in
            subst (λ z. state_in (bytes' z) (xact_place_of x) ≡ state_in (bytes z) (xact_place_of x)) (sym page)
            (put.same_page (xact_place_of x) (omega arith) (λ j within place. k.none j within (let m = used j within in let u = in_use start es (slice_index ids j) few m.0 m.1 m.2 in apart start.base.next start.base.oldest (slice_index ids j) x window u.1 u.2 used_x.1 (let b = used_x.2 in omega arith) (one_page j within ∙ sym page) (sym place))))
        step false q = ap (λ (t : List ℕ). state_in t (xact_place_of x)) (put.others (xact_page_of x) (λ (h : xact_page_of x ≡ xact_page_of (slice_index ids 0)). false≢true (sym q ∙ (ap (λ z. z == xact_page_of (slice_index ids 0)) h ∙ eqb-refl (xact_page_of (slice_index ids 0))))))
