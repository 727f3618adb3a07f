-- A bank of pg_subtrans stands for its list after what lies before a page was removed, or some of it.
use Rattle.std.proofs.Common.{◌≡◌, ⊎_elim, inl, inr, ℕ, suc, ◌+◌, ◌%◌, ◌^◌, ◌≤◌, ◌<◌, List, [], ◌∷◌, ◌++◌, Bool, true, false, IsTrue, Option, None, Some, cond, refl, sym, ap, subst, ◌∙◌, arith}
use Rattle.std.proofs.lemmas.Bool.{false≢true}
use Rattle.std.proofs.lemmas.List.Elements.{Contains-push}
use Rattle.disk_core.specs.declared.page_disk.PageDisk as disks
use Rattle.store_pages.specs.declared.page_rule.PageRule as rules
use Rattle.store_pages.specs.Layouts.{number_in, word_page_of, word_place_of}
use Rattle.slru_bank.specs.declared.bank.SlruBank.{SlruBank}
use Rattle.slru_bank.specs.Calls.{CrashMayLack, cutoff_of, faults_of, last_page, pages_of}
use Rattle.slru_bank.specs.Removal.{MayDrop, later_cutoff}
use Rattle.tx_events.proofs.ListSteps.{le_or_over}
use Rattle.tx_events.specs.Base.{IsBase}
use Rattle.tx_events.specs.PageOrder.{Ids, is_cut, page_precedes}
use Rattle.tx_core.specs.declared.entry.Entry.{Entry}
use Rattle.tx_core.specs.declared.entry.Start.{Start}
use Rattle.tx_core.specs.Entries.{cut_in, links_in}
use Rattle.tx_core.specs.FaultsRise.{faults_told}
use Rattle.tx_core.specs.Locks.{subtrans_lock}
use Rattle.tx_core.specs.Pages.{Pages, set_by, subtrans_store, zeroed, zeroed_in}
use Rattle.engine_parts.specs.BankCourse.{CutBefore, IsParentOn, ParentsCame, parent_rack}
use Rattle.engine_parts.specs.Parts.{IsSubtransOf}
use Rattle.engine_parts.specs.Stand.{AreSubtransPagesNear, IsCutoff, IsInUse, IsSubtransReach, SubtransStands, first_subtrans_page, number_of_parent, subtrans_pages}
use Rattle.engine_parts.proofs.SubBanking.{links_push}
use Rattle.engine_parts.proofs.Cutoffs.{cutoff_more}
use Rattle.bank_sections.proofs.Reaching.{not_true, parent_cut_later, parent_not_before}
use Rattle.bank_sections.proofs.StatesCut.{stop_tight}

module _ (start : Start) (bank faults faults' last last' cutoff cutoff' : ℕ) (tells : Bool) (bytes bytes' : ℕ → List ℕ) (led led' : List Entry → Type 0) (es : List Entry) (e : Entry) (page : ℕ) (s : SubtransStands start bank tells faults last cutoff bytes led es) (base : IsBase start.base) (cuts : cut_in e.kind ≡ Some page) (sets : links_in e ≡ []) (makes : zeroed_in e.kind ≡ None) (from_first : first_subtrans_page start ≤ page) (reach : IsSubtransReach start page) where
  abbrev cutoff_by : Bool → ℕ
  cutoff_by b = cond b (page % 2 ^ 21) cutoff

  is_cutoff : (b : Bool) → IsCutoff (first_subtrans_page start) (2 ^ 21) (es ++ e ∷ []) (cutoff_by b)
  is_cutoff true = (page, refl, from_first, inr (e, Contains-push es e, cuts))
  is_cutoff false = cutoff_more (first_subtrans_page start) (2 ^ 21) es e cutoff s.cutoff_is

  is_near : (b : Bool) → (p : ℕ) × (cutoff_by b ≡ p % 2 ^ 21) × IsSubtransReach start p
  is_near true = (page, refl, reach)
  is_near false = s.near

  -- what isn't cut now wasn't cut before
  uncut_before : (x : ℕ) → IsInUse start x → (b : Bool) → page_precedes Ids 2048 cutoff (page % 2 ^ 21) ≡ b → is_cut Ids 2048 (cutoff_by b) (word_page_of x) ≡ false → is_cut Ids 2048 cutoff (word_page_of x) ≡ false
  uncut_before x used false after uncut = uncut
  uncut_before x used true after uncut = not_true (is_cut Ids 2048 cutoff (word_page_of x)) (λ cut.
      let c : ℕ = s.near.0 in
      let at : cutoff ≡ c % 2 ^ 21 = s.near.1 in
      let here = s.near.2 in
      let low = here.0 in
      let high = here.1 in
      let from = reach.0 in
      let to = reach.1 in
      let top = used.2 in
      let stop = stop_tight start.base.oldest in
      let next = base.next in
      let first : page_precedes Ids 2048 (c % 2 ^ 21) (page % 2 ^ 21) ≡ true = subst (λ z. page_precedes Ids 2048 z (page % 2 ^ 21) ≡ true) at after in
      let there : is_cut Ids 2048 (c % 2 ^ 21) (word_page_of x) ≡ true = subst (λ z. is_cut Ids 2048 z (word_page_of x) ≡ true) at cut in
      ⊎_elim
      (λ (ge : page ≤ c). false≢true (sym (parent_not_before c page ge (omega arith)) ∙ first))
      (λ (lt : c < page). false≢true (sym uncut ∙ parent_cut_later c page x start.base.oldest lt low to used.1 (omega arith) there))
      (le_or_over page c))

  pub sub_cut : faults_told start (subtrans_lock bank) (es ++ e ∷ []) ≤ faults' → last' ≡ last → cutoff' ≡ later_cutoff Ids 2048 cutoff (page % 2 ^ 21) → (IsTrue tells → MayDrop (is_cut Ids 2048 cutoff') bytes bytes') → (IsTrue tells → led es → led' (es ++ e ∷ [])) → SubtransStands start bank tells faults' last' cutoff' bytes' led' (es ++ e ∷ [])
  sub_cut count l later drops leads =
      let still : subtrans_pages start (es ++ e ∷ []) ≡ subtrans_pages start es = links_push start es e ∙ (λ j. zeroed subtrans_store (makes j) (set_by subtrans_store (sets j) (subtrans_pages start es))) in
      let same : (subtrans_pages start (es ++ e ∷ [])).last ≡ (subtrans_pages start es).last = ap (λ (p : Pages ℕ). p.last) still in record {
        inside = s.inside;
        count = count;
        last_is = λ made. l ∙ (s.last_is (omega arith) ∙ sym (ap (λ z. z % 2 ^ 21) same));
        cutoff_is = subst (λ z. IsCutoff (first_subtrans_page start) (2 ^ 21) (es ++ e ∷ []) z) (sym later) (is_cutoff (page_precedes Ids 2048 cutoff (page % 2 ^ 21)));
        near = subst (λ z. (p : ℕ) × (z ≡ p % 2 ^ 21) × IsSubtransReach start p) (sym later) (is_near (page_precedes Ids 2048 cutoff (page % 2 ^ 21)));
        shown = λ told made.
            let old = s.shown told (omega arith) in
            record {
              each = λ x used here uncut.
                  let before : is_cut Ids 2048 cutoff (word_page_of x) ≡ false = uncut_before x used (page_precedes Ids 2048 cutoff (page % 2 ^ 21)) refl (subst (λ z. is_cut Ids 2048 z (word_page_of x) ≡ false) later uncut) in
                  ap (λ (b : List ℕ). number_in b (word_place_of x)) ((drops told).stay (word_page_of x) uncut) ∙ (old.each x used here before ∙ sym (ap (λ (p : Pages ℕ). number_of_parent (p.shows x)) still));
            };
        course = λ told. leads told (s.course told);
      }

-- and so a bank
module _ {P O : Type 0} {g : disks.Ghosts P} {r : rules.Ghosts O} where
  pub parents_cut : (start : Start) (bank : ℕ) → IsBase start.base → (old new : SlruBank P O g r) (es : List Entry) (page : ℕ) (e : Entry) → cut_in e.kind ≡ Some page → links_in e ≡ [] → zeroed_in e.kind ≡ None → first_subtrans_page start ≤ page → IsSubtransReach start page → faults_told start (subtrans_lock bank) (es ++ e ∷ []) ≤ faults_of new
      → cutoff_of new ≡ later_cutoff Ids 2048 (cutoff_of old) (page % 2 ^ 21) → (IsTrue g.tells → MayDrop (is_cut Ids 2048 (cutoff_of new)) (pages_of old) (pages_of new)) → last_page new ≡ last_page old → CrashMayLack (is_cut Ids 2048 (cutoff_of new)) old new
      → IsSubtransOf start bank old es → IsSubtransOf start bank new (es ++ e ∷ [])
  parents_cut start bank base old new es page e cuts sets makes from reach count later drops l crash s =
      sub_cut start bank (faults_of old) (faults_of new) (last_page old) (last_page new) (cutoff_of old) (cutoff_of new) g.tells (pages_of old) (pages_of new) (ParentsCame start bank old) (ParentsCame start bank new) es e page s base cuts sets makes from reach count l later drops
      (λ told k.
      let cut : CutBefore (parent_rack start) (IsParentOn start bank) old new es (es ++ e ∷ []) = record { entry = e; page = page; entries = refl; cuts = cuts; quiet = record { sets = sets; makes = makes }; cutoff = later; pages = drops told; last = l; crash = crash } in
      (suc k.0, (old, es, k.1, inr (inr (inr (inr (inl cut)))))))
