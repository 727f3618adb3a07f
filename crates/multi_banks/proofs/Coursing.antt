-- A bank behind one call and one entry, whatever the store: what it stands for, and the step of its course.
use Rattle.std.proofs.Common.{◌≡◌, inl, inr, ⊎_elim, ℕ, suc, ◌+◌, ◌%◌, ◌^◌, ◌<◌, ◌≤◌, ◌==◌, nat_lt, Bool, true, false, Contains, List, [], ◌∷◌, ◌++◌, IsTrue, MatchBool, None, Some, Option, cond, refl, sym, ap, subst, ◌∙◌, arith}
use Rattle.std.proofs.lemmas.Bool.{false≢true}
use Rattle.std.proofs.lemmas.Bool.Decides.{nat_tests}
use Rattle.std.proofs.lemmas.List.Elements.{Contains-append_left}
use Rattle.disk_core.specs.Pages.{zero_page}
use Rattle.disk_core.specs.declared.page_disk.PageDisk as disks
use Rattle.store_pages.specs.declared.page_rule.PageRule as rules
use Rattle.slru_bank.specs.declared.bank.SlruBank.{SlruBank}
use Rattle.slru_bank.specs.Bank.{PutsPage}
use Rattle.slru_bank.specs.Calls.{CrashKeeps, CrashMayLack, SamePages, cutoff_of, faults_of, last_page, pages_of}
use Rattle.slru_bank.specs.Crash.{SameMap}
use Rattle.slru_bank.specs.Removal.{MayDrop}
use Rattle.tx_events.proofs.Membership.{Has, by_end, contains_has, has_cases}
use Rattle.tx_events.specs.PageOrder.{page_precedes}
use Rattle.tx_events.specs.declared.event.By.{By}
use Rattle.tx_core.specs.declared.entry.Entry.{Entry}
use Rattle.tx_core.specs.declared.entry.Kind.TheVariants as kinds
use Rattle.tx_core.specs.declared.entry.Start.{Start}
use Rattle.tx_core.specs.Entries.{cut_in}
use Rattle.tx_core.specs.FaultsRise.{faults_told}
use Rattle.tx_core.specs.PagesBeforeIds.{WasMade}
use Rattle.tx_core.specs.Pages.{Pages, Store, after_entry, pages_after, set_by, zeroed, zeroed_in}
use Rattle.engine_parts.specs.BankCourse.{Came, CutBefore, LookedAt, MadePage, NotedOnly, Rack, StepsTo, cutoff_past, cuts_page}
use Rattle.engine_parts.specs.Shelf.{ArePagesNear, IsCutoffOf, IsReadNow, Shelf, StoreStands, last_on, shows_on}
use Rattle.engine_parts.proofs.Shelving.{pages_push}

-- what a call leaves of a bank that changed nothing of it: the pages, the last made one and the cutoff stay, and no fault
-- is forgotten
module _ {P O : Type 0} {g : disks.Ghosts P} {r : rules.Ghosts O} where
  pub record IsSame (old new : SlruBank P O g r) : Type 0 where
    pub last : last_page new ≡ last_page old
    pub cutoff : cutoff_of new ≡ cutoff_of old
    pub count : faults_of old ≤ faults_of new
    pub pages : IsTrue g.tells → SamePages old new
    pub crash : CrashKeeps old new

  -- a page that was made, or stood already
  pub record Makes (rack_shape : ℕ → ℕ → Bool) (page : ℕ) (old new : SlruBank P O g r) : Type 0 where
    pub last : last_page new ≡ cond (rack_shape (last_page old) page) page (last_page old)
    pub cutoff : cutoff_of new ≡ cutoff_of old
    pub count : faults_of old ≤ faults_of new
    pub pages : IsTrue g.tells → MatchBool (rack_shape (last_page old) page) (PutsPage page zero_page (pages_of old) (pages_of new)) (SamePages old new)
    pub crash : CrashKeeps old new

module _ {I V R : Type 0} (h : Shelf I V R) (Clean : (ℕ → Option V) → Type 0) (start : Start) (lock bank : ℕ) where
  pub cutoff_more : (es : List Entry) (e : Entry) (cutoff : ℕ) → IsCutoffOf h es cutoff → IsCutoffOf h (es ++ e ∷ []) cutoff
  cutoff_more es e cutoff c = (c.0, ⊎_elim inl (λ k. inr (k.0, Contains-append_left es (e ∷ []) k.0 k.1, k.2)) c.1, c.2)

  read_same : (es : List Entry) (bytes bytes' : ℕ → List ℕ) (o : Option V) (x : ℕ) → bytes' (h.page x) ≡ bytes (h.page x) → IsReadNow h es bytes o x → IsReadNow h es bytes' o x
  read_same es bytes bytes' o x same now =
      let e : h.read (bytes' (h.page x)) x ≡ h.read (bytes (h.page x)) x = ap (λ t. h.read t x) same in
      ⊎_elim (λ is. inl (e ∙ is)) (λ none. inr (e ∙ none.0, none.1)) now

  pub stands_same : (tells : Bool) (faults faults' last last' cutoff cutoff' : ℕ) (bytes bytes' : ℕ → List ℕ) (es : List Entry) → last' ≡ last → cutoff' ≡ cutoff → faults ≤ faults' → (IsTrue tells → SameMap bytes bytes')
      → StoreStands h Clean start lock bank tells faults last cutoff bytes es → StoreStands h Clean start lock bank tells faults' last' cutoff' bytes' es
  stands_same tells faults faults' last last' cutoff cutoff' bytes bytes' es l c count same s =
      subst (λ (z : ℕ × ℕ). StoreStands h Clean start lock bank tells faults' z.0 z.1 bytes' es) (λ j. (sym l j, sym c j)) (record {
        inside = s.inside;
        count = (let a = s.count in omega arith);
        last_is = s.last_is;
        cutoff_is = s.cutoff_is;
        shown = λ told near.
            let old = s.shown told near in
            (old.0, old.1, record { each = λ x room at. read_same es bytes bytes' (shows_on h old.0 es x) x (same told (h.page x)) (old.2.each x room at) });
      })

  -- a page far past those with which the life began: of what the pages show nothing more is said
  far_last : (page : ℕ) (items : List I) (p : Pages V) → page ≤ (zeroed h.store (Some page) (set_by h.store items p)).last
  far_last page items p = one (nat_lt p.last page) refl
    where
      one : (b : Bool) → nat_lt p.last page ≡ b → page ≤ (cond b (record { last = page; shows = λ id. cond (h.store.page_of id == page) None ((set_by h.store items p).shows id) }) (set_by h.store items p)).last
      one true q = omega arith
      one false q = let ge : page ≤ p.last = grind (arith, nat_tests) in ge

  -- so it is with each entry behind which the pages aren't near
  pub stands_past : (tells : Bool) (faults faults' last last' cutoff cutoff' : ℕ) (bytes bytes' : ℕ → List ℕ) (es : List Entry) (e : Entry) → (ArePagesNear h (es ++ e ∷ []) → ⊥) → cutoff' ≡ cutoff → faults_told start lock (es ++ e ∷ []) ≤ faults'
      → StoreStands h Clean start lock bank tells faults last cutoff bytes es → StoreStands h Clean start lock bank tells faults' last' cutoff' bytes' (es ++ e ∷ [])
  stands_past tells faults faults' last last' cutoff cutoff' bytes bytes' es e past c counts s = record {
    inside = s.inside;
    count = counts;
    last_is = λ near. absurd (past near);
    cutoff_is = subst (λ z. IsCutoffOf h (es ++ e ∷ []) z) (sym c) (cutoff_more es e cutoff s.cutoff_is);
    shown = λ told near. absurd (past near);
  }

  last_push : (es : List Entry) (e : Entry) → last_on h (es ++ e ∷ []) ≡ (after_entry h.store (pages_after h.store h.first (λ x. None) es) e).last
  last_push es e = ap (λ (p : Pages V). p.last) (pages_push h.store h.first (λ x. None) es e)

  pub made_far : (es : List Entry) (by : By) (page : ℕ) → h.store.page_of (h.first + 2 ^ 29) < page → ArePagesNear h (es ++ record { by = by; kind = kinds.Zero page } ∷ []) → ⊥
  made_far es by page far near =
      let e : Entry = record { by = by; kind = kinds.Zero page } in
      let up : page ≤ last_on h (es ++ e ∷ []) = subst (λ z. page ≤ z) (sym (last_push es e)) (far_last page (h.store.items_of e) (pages_after h.store h.first (λ x. None) es)) in
      omega (arith, far, near, up)

  -- the last page never falls, so it is at least each that was made
  last_grows : (o : Option ℕ) (items : List I) (p : Pages V) → p.last ≤ (zeroed h.store o (set_by h.store items p)).last
  last_grows None items p = omega arith
  last_grows (Some page) items p = one (nat_lt p.last page) refl
    where
      one : (b : Bool) → nat_lt p.last page ≡ b → p.last ≤ (cond b (record { last = page; shows = λ id. cond (h.store.page_of id == page) None ((set_by h.store items p).shows id) }) (set_by h.store items p)).last
      one true q = let lt : p.last < page = grind (arith, nat_tests) in omega arith
      one false q = omega arith

  last_more : (es : List Entry) (e : Entry) → last_on h es ≤ last_on h (es ++ e ∷ [])
  last_more es e = subst (λ z. last_on h es ≤ z) (sym (last_push es e)) (last_grows (zeroed_in e.kind) (h.store.items_of e) (pages_after h.store h.first (λ x. None) es))

  made_reached : (by : By) (page : ℕ) (es : List Entry) → Has es (record { by = by; kind = kinds.Zero page }) → page ≤ last_on h es
  made_reached by page = by_end (λ es. Has es (record { by = by; kind = kinds.Zero page }) → page ≤ last_on h es) (λ k. absurd k) (λ es e before k.
      let made : Entry = record { by = by; kind = kinds.Zero page } in
      let more = last_more es e in
      ⊎_elim
      (λ old. let b = before old in omega (arith, b, more))
      (λ t. ⊎_elim (λ (q : e ≡ made). subst (λ (f : Entry). page ≤ last_on h (es ++ f ∷ [])) (sym q) (subst (λ z. page ≤ z) (sym (last_push es made)) (far_last page (h.store.items_of made) (pages_after h.store h.first (λ x. None) es)))) (λ z. absurd z) t)
      (has_cases es (e ∷ []) made k))

  -- a number far past those with which the life began is set on a page that was made, so its pages aren't near
  pub set_far : (es : List Entry) (e : Entry) (page : ℕ) → WasMade es (h.store.page_of h.first) page → h.store.page_of (h.first + 2 ^ 29) < page → h.store.page_of h.first ≤ h.store.page_of (h.first + 2 ^ 29) → ArePagesNear h (es ++ e ∷ []) → ⊥
  set_far es e page made far rises near =
      let more = last_more es e in
      let reached : page ≤ last_on h es = ⊎_elim
      (λ (q : page ≡ h.store.page_of h.first). absurd (omega (arith, q, far, rises)))
      (λ (m : (by : By) × Contains es (record { by = by; kind = kinds.Zero page })). made_reached m.0 page es (contains_has es (record { by = m.0; kind = kinds.Zero page }) m.1))
      made in
      omega (arith, reached, more, far, near)

-- two stores of the same items and pages have the same last page
module _ {I V W : Type 0} (s : Store I V) (t : Store I W) (pages : (x : ℕ) → s.page_of x ≡ t.page_of x) where
  last_step : (o : Option ℕ) (xs ys : List I) (p : Pages V) (q : Pages W) → p.last ≡ q.last → (zeroed s o (set_by s xs p)).last ≡ (zeroed t o (set_by t ys q)).last
  last_step None xs ys p q h = h
  last_step (Some page) xs ys p q h = one (nat_lt p.last page) (nat_lt q.last page) (ap (λ z. nat_lt z page) h)
    where
      one : (x y : Bool) → x ≡ y → (cond x (record { last = page; shows = λ id. cond (s.page_of id == page) None ((set_by s xs p).shows id) }) (set_by s xs p)).last ≡ (cond y (record { last = page; shows = λ id. cond (t.page_of id == page) None ((set_by t ys q).shows id) }) (set_by t ys q)).last
      one true true e = refl
      one false false e = h
      one true false e = absurd (false≢true (sym e))
      one false true e = absurd (false≢true e)

  pub same_last : (first : ℕ) (es : List Entry) → (pages_after s first (λ x. None) es).last ≡ (pages_after t first (λ x. None) es).last
  same_last first = by_end (λ es. (pages_after s first (λ x. None) es).last ≡ (pages_after t first (λ x. None) es).last) (pages first) (λ es e before.
      ap (λ (p : Pages V). p.last) (pages_push s first (λ x. None) es e) ∙ (last_step (zeroed_in e.kind) (s.items_of e) (t.items_of e) (pages_after s first (λ x. None) es) (pages_after t first (λ x. None) es) before ∙ sym (ap (λ (p : Pages W). p.last) (pages_push t first (λ x. None) es e))))

module _ {I V R : Type 0} (k : Rack I V R) (Asked : ℕ → Type 0) (Clean : (ℕ → Option V) → Type 0) (Tails : (ℕ → List ℕ) → Type 0) {P O : Type 0} {g : disks.Ghosts P} {r : rules.Ghosts O} where
  pub came_then : (old new : SlruBank P O g r) (before es : List Entry) → Came k Asked Clean Tails old before → StepsTo k Asked Tails old new before es → Came k Asked Clean Tails new es
  came_then old new before es c step = (suc c.0, (old, before, c.1, step))

  pub came_same : (old new : SlruBank P O g r) (es : List Entry) → IsTrue g.tells → IsSame old new → Came k Asked Clean Tails old es → Came k Asked Clean Tails new es
  came_same old new es told same c =
      let look : LookedAt k Asked old new es es = record { entries = refl; last = same.last; cutoff = same.cutoff; pages = same.pages told; crash = same.crash } in
      came_then old new es es c (inl look)

  pub came_noted : (store : SlruBank P O g r) (es : List Entry) (e : Entry) → k.shelf.store.items_of e ≡ [] → zeroed_in e.kind ≡ None → cut_in e.kind ≡ None → (e.kind ≡ kinds.Sync → ⊥) → Came k Asked Clean Tails store es → Came k Asked Clean Tails store (es ++ e ∷ [])
  came_noted store es e sets makes cuts other c =
      let note : NotedOnly k Asked store store es (es ++ e ∷ []) = record { entry = e; entries = refl; same = refl; quiet = record { sets = sets; makes = makes }; cuts = cuts; other = other } in
      came_then store store es (es ++ e ∷ []) c (inr (inl note))

  pub came_made : (old new : SlruBank P O g r) (es : List Entry) (by : By) (page : ℕ) → IsTrue g.tells → Makes (page_precedes k.shelf.shape k.shelf.per_page) (page % k.shelf.pages) old new → Came k Asked Clean Tails old es
      → Came k Asked Clean Tails new (es ++ record { by = by; kind = kinds.Zero page } ∷ [])
  came_made old new es by page told m c =
      let made : MadePage k Asked old new es (es ++ record { by = by; kind = kinds.Zero page } ∷ []) = record { by = by; page = page; entries = refl; pages = m.pages told; last = m.last; cutoff = m.cutoff; crash = m.crash } in
      came_then old new es (es ++ record { by = by; kind = kinds.Zero page } ∷ []) c (inr (inr (inl made)))

  pub came_cut : (old new : SlruBank P O g r) (es : List Entry) (e : Entry) (page : ℕ) → cut_in e.kind ≡ Some page → k.shelf.store.items_of e ≡ [] → zeroed_in e.kind ≡ None → cutoff_of new ≡ cutoff_past k Asked (cutoff_of old) page
      → MayDrop (cuts_page k Asked (cutoff_of new)) (pages_of old) (pages_of new) → last_page new ≡ last_page old → CrashMayLack (cuts_page k Asked (cutoff_of new)) old new → Came k Asked Clean Tails old es → Came k Asked Clean Tails new (es ++ e ∷ [])
  came_cut old new es e page cuts sets makes cutoff drops last crash c =
      let cut : CutBefore k Asked old new es (es ++ e ∷ []) = record { entry = e; page = page; entries = refl; cuts = cuts; quiet = record { sets = sets; makes = makes }; cutoff = cutoff; pages = drops; last = last; crash = crash } in
      came_then old new es (es ++ e ∷ []) c (inr (inr (inr (inr (inl cut)))))
