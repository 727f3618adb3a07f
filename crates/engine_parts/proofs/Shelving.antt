-- What a bank stands for after one entry more, whatever the store.
use Rattle.std.proofs.Common.{MatchBool, None, Option, Some, IsTrue, inl, inr, ⊎_elim, ◌⊎◌, ◌≡◌, ◌≢◌, ℕ, ◌+◌, ◌%◌, ◌^◌, ◌≤◌, ◌<◌, ◌==◌, nat_lt, cond, List, [], ◌∷◌, ◌++◌, Bool, true, false, refl, sym, ap, subst, ◌∙◌, arith, eqb-true}
use Rattle.std.proofs.lemmas.Bool.{false≢true}
use Rattle.std.proofs.lemmas.Bool.Decides.{nat_tests}
use Rattle.std.proofs.lemmas.List.Elements.{Contains-append_left, Contains-push}
use Rattle.std.proofs.lemmas.List.Sums.{fold_push}
use Rattle.std.specs.List.{filter_map, last_or}
use Rattle.disk_core.specs.Pages.{zero_page}
use Rattle.slru_bank.specs.Bank.{PutsPage}
use Rattle.slru_bank.specs.Crash.{SameMap}
use Rattle.slru_bank.specs.Removal.{MayDrop, later_cutoff}
use Rattle.tx_events.proofs.Membership.{by_end}
use Rattle.tx_events.proofs.ListSteps.{eqb-refl}
use Rattle.tx_events.specs.PageOrder.{is_cut, page_precedes}
use Rattle.tx_core.specs.declared.entry.Entry.{Entry}
use Rattle.tx_core.specs.declared.entry.Kind.TheVariants as kinds
use Rattle.tx_core.specs.declared.entry.Start.{Start}
use Rattle.tx_core.specs.Entries.{cut_in}
use Rattle.tx_core.specs.FaultsRise.{faults_told}
use Rattle.tx_core.specs.Pages.{Pages, Store, after_entry, pages_after, set_by, zeroed, zeroed_in}
use Rattle.engine_parts.specs.Shelf.{ArePagesNear, IsCutoffOf, IsGone, IsKeptAt, IsNearBy, IsReadNow, IsRoomFor, IsShelf, Shelf, ShowsNow, StoreStands, last_on, shows_on}
use Rattle.engine_parts.specs.ShelfLaws.{IsStill, KeepStore, SetsShown}

module _ {I V : Type 0} (s : Store I V) where
  -- one entry more
  pub pages_push : (first : ℕ) (before : ℕ → Option V) (es : List Entry) (e : Entry) → pages_after s first before (es ++ e ∷ []) ≡ after_entry s (pages_after s first before es) e
  pages_push first before es e = fold_push (after_entry s) (record { last = s.page_of first; shows = before }) es e

  -- the last page doesn't depend on what was shown
  same_step : (o : Option ℕ) (xs : List I) (p q : Pages V) → p.last ≡ q.last → (zeroed s o (set_by s xs p)).last ≡ (zeroed s o (set_by s xs q)).last
  same_step None xs p q h = h
  same_step (Some page) xs p q h = one (nat_lt p.last page) (nat_lt q.last page) (ap (λ z. nat_lt z page) h)
    where
      one : (x y : Bool) → x ≡ y → (cond x (record { last = page; shows = λ id. cond (s.page_of id == page) None ((set_by s xs p).shows id) }) (set_by s xs p)).last ≡ (cond y (record { last = page; shows = λ id. cond (s.page_of id == page) None ((set_by s xs q).shows id) }) (set_by s xs q)).last
      one true true e = refl
      one false false e = h
      one true false e = absurd (false≢true (sym e))
      one false true e = absurd (false≢true e)

  pub last_same : (first : ℕ) (a b : ℕ → Option V) (es : List Entry) → (pages_after s first a es).last ≡ (pages_after s first b es).last
  last_same first a b = by_end (λ es. (pages_after s first a es).last ≡ (pages_after s first b es).last) refl (λ es e before.
      ap (λ (p : Pages V). p.last) (pages_push first a es e) ∙ (same_step (zeroed_in e.kind) (s.items_of e) (pages_after s first a es) (pages_after s first b es) before ∙ sym (ap (λ (p : Pages V). p.last) (pages_push first b es e))))

  -- it isn't before the first one
  from_step : (o : Option ℕ) (xs : List I) (least : ℕ) (p : Pages V) → least ≤ p.last → least ≤ (zeroed s o (set_by s xs p)).last
  from_step None xs least p h = h
  from_step (Some page) xs least p h = one (nat_lt p.last page) refl
    where
      one : (x : Bool) → nat_lt p.last page ≡ x → least ≤ (cond x (record { last = page; shows = λ id. cond (s.page_of id == page) None ((set_by s xs p).shows id) }) (set_by s xs p)).last
      one true e = let lt : p.last < page = grind (arith, nat_tests) in omega arith
      one false e = h

  pub last_from_first : (first : ℕ) (a : ℕ → Option V) (es : List Entry) → s.page_of first ≤ (pages_after s first a es).last
  last_from_first first a = by_end (λ es. s.page_of first ≤ (pages_after s first a es).last) (omega arith) (λ es e before.
      subst (λ (p : Pages V). s.page_of first ≤ p.last) (sym (pages_push first a es e)) (from_step (zeroed_in e.kind) (s.items_of e) (s.page_of first) (pages_after s first a es) before))

-- a page that is made, or was made before
abbrev with_page : {I V R : Type 0} → Shelf I V R → List Entry → ℕ → (ℕ → Option V) → Bool → Pages V
with_page h es page before b =
    cond b (record { last = page; shows = λ id. cond (h.store.page_of id == page) None (shows_on h before es id) }) (pages_after h.store h.first before es)

-- of these items the last one says what is shown, or none says anything
abbrev LastCases : {V : Type 0} → Option V → List V → Type 0
LastCases {V = V} o vs = (vs ≡ []) ⊎ ((v : V) × (last_or None vs ≡ Some v) × (last_or o vs ≡ Some v))

last_later : {V : Type 0} (v w : V) (vs : List V) → LastCases (Some v) vs → last_or None vs ≡ Some w → last_or (Some v) vs ≡ Some w
last_later v w vs cases is = ⊎_elim
    (λ (none : vs ≡ []). absurd (let no : last_or None vs ≡ None = ap (λ l. last_or None l) none in let bad = sym no ∙ is in cc))
    (λ some. some.2 ∙ (sym some.1 ∙ is))
    cases

last_cases : {V : Type 0} (o : Option V) (vs : List V) → LastCases o vs
last_cases o [] = inl refl
last_cases o (v ∷ vs) = ⊎_elim
    (λ (none : vs ≡ []). inr (v, ap (λ l. last_or (Some v) l) none, ap (λ l. last_or (Some v) l) none))
    (λ some. let is = last_later v some.0 vs (last_cases (Some v) vs) some.1 in inr (some.0, is, is))
    (last_cases o vs)

module _ {I V R : Type 0} (h : Shelf I V R) (Clean : (ℕ → Option V) → Type 0) (start : Start) (lock bank : ℕ) where
  -- what may be gone, may be gone behind one entry more
  gone_more : (es : List Entry) (e : Entry) (q : ℕ) → IsGone h es q → IsGone h (es ++ e ∷ []) q
  gone_more es e q g = (g.0, ⊎_elim inl (λ k. inr (k.0, Contains-append_left es (e ∷ []) k.0 k.1, k.2)) g.1, g.2)

  cutoff_more : (es : List Entry) (e : Entry) (cutoff : ℕ) → IsCutoffOf h es cutoff → IsCutoffOf h (es ++ e ∷ []) cutoff
  cutoff_more es e cutoff c = (c.0, ⊎_elim inl (λ k. inr (k.0, Contains-append_left es (e ∷ []) k.0 k.1, k.2)) c.1, c.2)

  read_more : (es : List Entry) (e : Entry) (bytes bytes' : ℕ → List ℕ) (o : Option V) (x : ℕ) → h.read (bytes' (h.page x)) x ≡ h.read (bytes (h.page x)) x → IsReadNow h es bytes o x → IsReadNow h (es ++ e ∷ []) bytes' o x
  read_more es e bytes bytes' o x same now = ⊎_elim (λ is. inl (same ∙ is)) (λ none. inr (same ∙ none.0, gone_more es e (h.page x) none.1)) now

  module _ (tells : Bool) (faults faults' last last' cutoff cutoff' : ℕ) (bytes bytes' : ℕ → List ℕ) (es : List Entry) (e : Entry) (s : StoreStands h Clean start lock bank tells faults last cutoff bytes es) (counts : faults_told start lock (es ++ e ∷ []) ≤ faults') where
    -- an entry that makes no page
    module _ (makes_none : zeroed_in e.kind ≡ None) where
      pushed : (before : ℕ → Option V) → pages_after h.store h.first before (es ++ e ∷ []) ≡ set_by h.store (h.store.items_of e) (pages_after h.store h.first before es)
      pushed before = pages_push h.store h.first before es e ∙ ap (λ (o : Option ℕ). zeroed h.store o (set_by h.store (h.store.items_of e) (pages_after h.store h.first before es))) makes_none

      last_stays : last_on h (es ++ e ∷ []) ≡ last_on h es
      last_stays = ap (λ (p : Pages V). p.last) (pushed (λ x. None))

      near_before : ArePagesNear h (es ++ e ∷ []) → ArePagesNear h es
      near_before near = subst (λ z. z ≤ h.store.page_of (h.first + 2 ^ 29)) last_stays near

      -- and shows what the entry says, or what was shown
      stood : (cutoff'' : ℕ) → last' ≡ last → IsCutoffOf h (es ++ e ∷ []) cutoff''
          → (IsTrue tells → (x : ℕ) → IsRoomFor h x → h.page x % start.banks ≡ bank → (o : Option V) → IsReadNow h es bytes o x → IsReadNow h (es ++ e ∷ []) bytes' (last_or o (filter_map (h.store.value_for x) (h.store.items_of e))) x)
          → StoreStands h Clean start lock bank tells faults' last' cutoff'' bytes' (es ++ e ∷ [])
      stood cutoff'' l c shows = record {
        inside = s.inside;
        count = counts;
        last_is = λ near. l ∙ (s.last_is (near_before near) ∙ sym (ap (λ z. z % h.pages) last_stays));
        cutoff_is = c;
        shown = λ told near.
            let old = s.shown told (near_before near) in (
              old.0,
              old.1,
              record {
                each = λ x room here.
                    subst (λ (p : Pages V). IsReadNow h (es ++ e ∷ []) bytes' (p.shows x) x) (sym (pushed old.0)) (shows told x room here (shows_on h old.0 es x) (old.2.each x room here));
              },
            );
      }

    same_cutoff : cutoff' ≡ cutoff → IsCutoffOf h (es ++ e ∷ []) cutoff'
    same_cutoff c = subst (λ z. IsCutoffOf h (es ++ e ∷ []) z) (sym c) (cutoff_more es e cutoff s.cutoff_is)

    -- nothing is said of a number
    unsaid : (x : ℕ) (o : Option V) → h.store.items_of e ≡ [] → last_or o (filter_map (h.store.value_for x) (h.store.items_of e)) ≡ o
    unsaid x o none = ap (λ l. last_or o (filter_map (h.store.value_for x) l)) none

    pub looked : IsStill h e → last' ≡ last → cutoff' ≡ cutoff → (IsTrue tells → SameMap bytes bytes') → StoreStands h Clean start lock bank tells faults' last' cutoff' bytes' (es ++ e ∷ [])
    looked still l c same = stood still.makes_none cutoff' l (same_cutoff c)
        (λ told x room here o now. subst (λ (z : Option V). IsReadNow h (es ++ e ∷ []) bytes' z x) (sym (unsaid x o still.sets_none)) (read_more es e bytes bytes' o x (ap (λ (b : List ℕ). h.read b x) (same told (h.page x))) now))

    set : last' ≡ last → cutoff' ≡ cutoff → zeroed_in e.kind ≡ None → (IsTrue tells → SetsShown h e bytes bytes') → StoreStands h Clean start lock bank tells faults' last' cutoff' bytes' (es ++ e ∷ [])
    set l c makes_none sets = stood makes_none cutoff' l (same_cutoff c)
        (λ told x room here o now.
        let said : List V = filter_map (h.store.value_for x) (h.store.items_of e) in
        ⊎_elim
        (λ (none : said ≡ []). subst (λ (z : Option V). IsReadNow h (es ++ e ∷ []) bytes' z x) (sym (ap (λ l. last_or o l) none)) (read_more es e bytes bytes' o x ((sets told).others x room none) now))
        (λ (some : (v : V) × (last_or None said ≡ Some v) × (last_or o said ≡ Some v)). subst (λ (z : Option V). IsReadNow h (es ++ e ∷ []) bytes' z x) (sym some.2) (inl ((sets told).set x some.0 room some.1)))
        (last_cases o said))

    module _ (good : IsShelf h) where
      cut : (page : ℕ) → cut_in e.kind ≡ Some page → IsStill h e → last' ≡ last → cutoff' ≡ later_cutoff h.shape h.per_page cutoff (page % h.pages) → (IsTrue tells → MayDrop (is_cut h.shape h.per_page cutoff') bytes bytes') → StoreStands h Clean start lock bank tells faults' last' cutoff' bytes' (es ++ e ∷ [])
      cut page cuts still l later drops = stood still.makes_none cutoff' l kept
          (λ told x room here o now. subst (λ (z : Option V). IsReadNow h (es ++ e ∷ []) bytes' z x) (sym (unsaid x o still.sets_none)) (dropped (drops told) x o now (is_cut h.shape h.per_page cutoff' (h.page x)) refl))
        where
          here : IsKeptAt h.kept (es ++ e ∷ []) page
          here = inr (e, Contains-push es e, cuts)

          either : (b : Bool) → IsCutoffOf h (es ++ e ∷ []) (cond b (page % h.pages) cutoff)
          either true = (page, here, refl)
          either false = cutoff_more es e cutoff s.cutoff_is

          kept : IsCutoffOf h (es ++ e ∷ []) cutoff'
          kept = subst (λ z. IsCutoffOf h (es ++ e ∷ []) z) (sym later) (either (page_precedes h.shape h.per_page cutoff (page % h.pages)))

          same : (x : ℕ) (o : Option V) → IsReadNow h es bytes o x → bytes' (h.page x) ≡ bytes (h.page x) → IsReadNow h (es ++ e ∷ []) bytes' o x
          same x o now q = read_more es e bytes bytes' o x (ap (λ (b : List ℕ). h.read b x) q) now

          dropped : MayDrop (is_cut h.shape h.per_page cutoff') bytes bytes' → (x : ℕ) (o : Option V) → IsReadNow h es bytes o x → (b : Bool) → is_cut h.shape h.per_page cutoff' (h.page x) ≡ b → IsReadNow h (es ++ e ∷ []) bytes' o x
          dropped d x o now false q = same x o now (d.stay (h.page x) q)
          dropped d x o now true q = ⊎_elim
              (λ (zero : bytes' (h.page x) ≡ zero_page). inr (ap (λ (b : List ℕ). h.read b x) zero ∙ good.zeros x, (kept.0, kept.1, subst (λ z. is_cut h.shape h.per_page z (h.page x) ≡ true) kept.2 q)))
              (λ (k : bytes' (h.page x) ≡ bytes (h.page x)). same x o now k)
              (d.zero_or_same (h.page x))

      made : (page : ℕ) → e.kind ≡ kinds.Zero page → h.store.items_of e ≡ [] → IsNearBy h page → last' ≡ cond (page_precedes h.shape h.per_page last (page % h.pages)) (page % h.pages) last → cutoff' ≡ cutoff
          → (IsTrue tells → MatchBool (page_precedes h.shape h.per_page last (page % h.pages)) (PutsPage (page % h.pages) zero_page bytes bytes') (SameMap bytes bytes'))
          → StoreStands h Clean start lock bank tells faults' last' cutoff' bytes' (es ++ e ∷ [])
      made page is none nearby ends c puts = record {
        inside = s.inside;
        count = counts;
        last_is = λ near. lasts (nat_lt (last_on h es) page) refl near;
        cutoff_is = same_cutoff c;
        shown = λ told near. shows (nat_lt (last_on h es) page) refl told near;
      }
        where
          after_made : (before : ℕ → Option V) (b : Bool) → nat_lt (last_on h es) page ≡ b → pages_after h.store h.first before (es ++ e ∷ []) ≡ with_page h es page before b
          after_made before b q =
              pages_push h.store h.first before es e
              ∙ (ap (λ (o : Option ℕ). zeroed h.store o (set_by h.store (h.store.items_of e) (pages_after h.store h.first before es))) (ap zeroed_in is)
              ∙ (ap (λ (xs : List I). zeroed h.store (Some page) (set_by h.store xs (pages_after h.store h.first before es))) none
              ∙ ap (λ c. with_page h es page before c) (ap (λ z. nat_lt z page) (last_same h.store h.first before (λ x. None) es) ∙ q)))

          last_true : nat_lt (last_on h es) page ≡ true → last_on h (es ++ e ∷ []) ≡ page
          last_true q = ap (λ (p : Pages V). p.last) (after_made (λ x. None) true q)

          last_false : nat_lt (last_on h es) page ≡ false → last_on h (es ++ e ∷ []) ≡ last_on h es
          last_false q = ap (λ (p : Pages V). p.last) (after_made (λ x. None) false q)

          near_old : (b : Bool) → nat_lt (last_on h es) page ≡ b → ArePagesNear h (es ++ e ∷ []) → ArePagesNear h es
          near_old true q near = let lt : last_on h es < page = grind (arith, nat_tests) in let top = nearby.to in omega arith
          near_old false q near = subst (λ z. z ≤ h.store.page_of (h.first + 2 ^ 29)) (last_false q) near

          order : (b : Bool) → nat_lt (last_on h es) page ≡ b → ArePagesNear h (es ++ e ∷ []) → page_precedes h.shape h.per_page last (page % h.pages) ≡ b
          order b q near =
              let before = near_old b q near in
              ap (λ z. page_precedes h.shape h.per_page z (page % h.pages)) (s.last_is before)
              ∙ (good.order (last_on h es) page (record { from = last_from_first h.store h.first (λ x. None) es; to = before }) nearby ∙ q)

          lasts : (b : Bool) → nat_lt (last_on h es) page ≡ b → ArePagesNear h (es ++ e ∷ []) → last' ≡ last_on h (es ++ e ∷ []) % h.pages
          lasts true q near = ends ∙ (ap (λ b. cond b (page % h.pages) last) (order true q near) ∙ sym (ap (λ z. z % h.pages) (last_true q)))
          lasts false q near = ends ∙ (ap (λ b. cond b (page % h.pages) last) (order false q near) ∙ (s.last_is (near_old false q near) ∙ sym (ap (λ z. z % h.pages) (last_false q))))

          shows : (b : Bool) → nat_lt (last_on h es) page ≡ b → IsTrue tells → ArePagesNear h (es ++ e ∷ []) → (before : ℕ → Option V) × Clean before × ShowsNow h start.banks bank (es ++ e ∷ []) bytes' (shows_on h before (es ++ e ∷ []))
          shows true q told near =
              let old = s.shown told (near_old true q near) in
              let put : PutsPage (page % h.pages) zero_page bytes bytes' = subst (λ b. MatchBool b (PutsPage (page % h.pages) zero_page bytes bytes') (SameMap bytes bytes')) (order true q near) (puts told) in (
                old.0,
                old.1,
                record {
                  each = λ x room at.
                      let step : (c : Bool) → (h.store.page_of x == page) ≡ c → IsReadNow h (es ++ e ∷ []) bytes' (cond c None (shows_on h old.0 es x)) x = elim [
                        | true ↦ λ k.
                            let on : h.page x ≡ page % h.pages = good.here x ∙ ap (λ z. z % h.pages) (eqb-true (h.store.page_of x) page k) in
                            inl (ap (λ z. h.read (bytes' z) x) on ∙ (ap (λ (b : List ℕ). h.read b x) put.here ∙ good.zeros x))
                        | false ↦ λ k.
                            let off : h.store.page_of x ≢ page = λ (z : h.store.page_of x ≡ page). false≢true (sym k ∙ (ap (λ y. y == page) z ∙ eqb-refl page)) in
                            read_more es e bytes bytes' (shows_on h old.0 es x) x (ap (λ (b : List ℕ). h.read b x) (put.others (h.page x) (λ (z : h.page x ≡ page % h.pages). off (good.apart page x nearby room z)))) (old.2.each x room at)
                      ] in
                      subst (λ (p : Pages V). IsReadNow h (es ++ e ∷ []) bytes' (p.shows x) x) (sym (after_made old.0 true q)) (step (h.store.page_of x == page) refl);
                },
              )
          shows false q told near =
              let old = s.shown told (near_old false q near) in
              let same : SameMap bytes bytes' = subst (λ b. MatchBool b (PutsPage (page % h.pages) zero_page bytes bytes') (SameMap bytes bytes')) (order false q near) (puts told) in (
                old.0,
                old.1,
                record {
                  each = λ x room at.
                      subst (λ (p : Pages V). IsReadNow h (es ++ e ∷ []) bytes' (p.shows x) x) (sym (after_made old.0 false q))
                      (read_more es e bytes bytes' (shows_on h old.0 es x) x (ap (λ (b : List ℕ). h.read b x) (same (h.page x))) (old.2.each x room at));
                },
              )

  -- the law
  pub keep_store : IsShelf h → KeepStore h Clean start lock bank
  keep_store good tells faults faults' last last' cutoff cutoff' bytes bytes' es e s counts = record {
    looks = looked tells faults faults' last last' cutoff cutoff' bytes bytes' es e s counts;
    sets = set tells faults faults' last last' cutoff cutoff' bytes bytes' es e s counts;
    makes = made tells faults faults' last last' cutoff cutoff' bytes bytes' es e s counts good;
    cuts = cut tells faults faults' last last' cutoff cutoff' bytes bytes' es e s counts good;
  }
