-- A parent is set.
use Rattle.std.proofs.Common.{◌≡◌, ◌≢◌, ℕ, suc, ◌+◌, ◌%◌, ◌^◌, ◌≤◌, ◌<◌, ◌==◌, ⊎_elim, inl, inr, Bool, cond, None, Some, List, [], ◌∷◌, ◌++◌, Contains, IsTrue, refl, sym, ap, subst, ◌∙◌, arith}
use Rattle.std.specs.List.{cons_option, flat_map, last_or}
use Rattle.std.proofs.lemmas.Grind.{flat_map-append}
use Rattle.std.proofs.lemmas.List.Elements.{Contains-push}
use Rattle.disk_core.specs.declared.page_disk.PageDisk as disks
use Rattle.store_pages.specs.declared.page_rule.PageRule as rules
use Rattle.store_pages.specs.Layouts.{number_in, word_page_of, word_place_of}
use Rattle.slru_bank.specs.declared.bank.SlruBank.{SlruBank}
use Rattle.slru_bank.specs.ByteRange.{SetsEntry}
use Rattle.slru_bank.specs.Calls.{CrashKeeps, cutoff_of, faults_of, last_page, pages_of}
use Rattle.notes.specs.Lists.{at}
use Rattle.tx_events.specs.declared.event.By.{By}
use Rattle.tx_events.specs.Base.{IsBase}
use Rattle.tx_core.specs.declared.entry.Change.TheVariants as changes
use Rattle.tx_core.specs.declared.entry.Entry.{Entry}
use Rattle.tx_core.specs.declared.entry.Kind.TheVariants as kinds
use Rattle.tx_core.specs.declared.entry.Start.{Start}
use Rattle.tx_core.specs.Entries.{IsLinked, Link, links_in}
use Rattle.tx_core.specs.Locks.{subtrans_lock, subtrans_lock_of, subtrans_page}
use Rattle.tx_core.specs.PagesBeforeIds.{WasMade}
use Rattle.tx_core.specs.ParentsFollow.{IsGivenBelow}
use Rattle.tx_core.specs.ProgramOrder.{IsInTurn}
use Rattle.tx_core.proofs.ChangeLaws.{parent_law}
use Rattle.tx_events.specs.Ids.{IsFullId, low_half}
use Rattle.engine_parts.specs.Law.{MayKeep}
use Rattle.tx_events.proofs.ListSteps.{eqb-refl}
use Rattle.engine_parts.specs.BankCourse.{IsParentOn, ParentsCame, SetThem, parent_rack}
use Rattle.engine_parts.specs.Parts.{IsSubtransOf}
use Rattle.engine_parts.proofs.OffsetShelf.{other_number, own_number, same_or_not}
use Rattle.engine_parts.proofs.SubBanking.{page_reached, sub_set}
use Rattle.tx_core.specs.FaultsRise.{count_in, faults_at}
use Rattle.tx_core.proofs.LastNumbers.{number_same}
use Rattle.bank_sections.proofs.Making.{base_near}

abbrev pub linked_entry : By → ℕ → ℕ → Entry
linked_entry by id parent = record { by = by; kind = kinds.Set (changes.Parent by id parent ∷ []) }

pub may_link : (start : Start) (seen : List (List Entry)) (bank id parent : ℕ) (by : By) (e : Entry) → bank < start.banks → e ≡ linked_entry by id parent → subtrans_lock_of start id ≡ subtrans_lock bank → WasMade (at seen (subtrans_lock bank)) (subtrans_page start.base.next) (subtrans_page id) → IsGivenBelow seen by.session parent id → IsInTurn start (at seen (subtrans_lock bank)) by
    → MayKeep start seen (subtrans_lock bank) e
may_link start seen bank id parent by e inside is here made below turn =
    subst (MayKeep start seen (subtrans_lock bank)) (sym is) (λ lists k knows there whole. parent_law start seen bank by id parent inside here made below lists k knows there whole turn)

-- the parent stands in the lists
pub linked_stands : (start : Start) (before after : List (List Entry)) (bank id parent : ℕ) (by : By) (e : Entry) → e ≡ linked_entry by id parent → subtrans_lock_of start id ≡ subtrans_lock bank → at after (subtrans_lock bank) ≡ at before (subtrans_lock bank) ++ e ∷ [] → IsLinked start after id parent
linked_stands start before after bank id parent by e is here left =
    let link : Link = record { caller = by; id = id; parent = parent } in
    let es : List Entry = at before (subtrans_lock bank) in
    let grown : at after (subtrans_lock bank) ≡ es ++ linked_entry by id parent ∷ [] = left ∙ ap (λ (f : Entry). es ++ f ∷ []) is in (
      by,
      subst (λ z. Contains (flat_map links_in (at after z)) link) (sym here)
          (subst (λ (t : List Entry). Contains (flat_map links_in t) link) (sym grown)
          (subst (λ (t : List Link). Contains t link) (sym (flat_map-append links_in es (linked_entry by id parent ∷ []))) (Contains-push (flat_map links_in es) link))),
    )

-- two ids in use with one stored page and place are one
one_place : (next oldest a b : ℕ) → next ≤ oldest + 2 ^ 31 → oldest ≤ a → a < next + 2 ^ 30 → oldest ≤ b → b < next + 2 ^ 30 → word_page_of a ≡ word_page_of b → low_half a % 2048 ≡ low_half b % 2048 → a ≡ b
one_place next oldest a b near ao an bo bn p q = omega arith

-- a parent that is set is set for its id
one_set : (id parent : ℕ) → last_or None (cons_option (cond (id == id) (Some parent) None) []) ≡ Some parent
one_set id parent = ap (λ (b : Bool). last_or None (cons_option (cond b (Some parent) None) [])) (eqb-refl id)

module _ {P O : Type 0} {g : disks.Ghosts P} {r : rules.Ghosts O} where
  pub stands_linked : (start : Start) (bank : ℕ) (old new : SlruBank P O g r) (es : List Entry) (by : By) (id parent : ℕ) (e : Entry) → IsBase start.base → e ≡ linked_entry by id parent → IsFullId id → start.base.next ≤ id → WasMade es (subtrans_page start.base.next) (subtrans_page id)
      → last_page new ≡ last_page old → cutoff_of new ≡ cutoff_of old → faults_of old ≤ faults_of new → (IsTrue g.tells → SetsEntry (word_page_of id) (low_half id % 2048) (low_half parent) (pages_of old) (pages_of new)) → CrashKeeps old new
      → IsSubtransOf start bank old es → IsSubtransOf start bank new (es ++ e ∷ [])
  stands_linked start bank old new es by id parent e base is full from made last cutoff count sets crash s =
      subst (λ (f : Entry). IsSubtransOf start bank new (es ++ f ∷ [])) (sym is)
      (sub_set start bank (faults_of old) (last_page old) (cutoff_of old) g.tells (pages_of old) (ParentsCame start bank old) es by id parent s (base_near start base) full (let o = base.oldest in omega arith) (page_reached start es (subtrans_page id) made)
      (faults_of new) (last_page new) (cutoff_of new) (pages_of new) (ParentsCame start bank new) last cutoff
      (let a = number_same count_in (faults_at start (subtrans_lock bank)) es (linked_entry by id parent) refl in let c = s.count in omega arith) sets
      (λ told k. (suc k.0, (old, es, k.1, inr (inr (inr (inl (set_them told))))))))
    where
      near : start.base.next ≤ start.base.oldest + 2 ^ 31
      near = base_near start base

      set_them : IsTrue g.tells → SetThem (parent_rack start) (IsParentOn start bank) (λ m. Unit {0}) old new es (es ++ linked_entry by id parent ∷ [])
      set_them told = let put = sets told in record {
        entry = linked_entry by id parent;
        entries = refl;
        makes = refl;
        cuts = refl;
        other = λ q. let apart : kinds.Set (changes.Parent by id parent ∷ []) ≡ kinds.Sync = q in absurd cc;
        made = λ x v some. subst (λ z. WasMade es (subtrans_page start.base.next) (subtrans_page z)) (own_number id x parent v some).0 made;
        kept = λ room x i asked lt none.
            let mine = room id parent (one_set id parent) in
            ⊎_elim
            (λ (page : word_page_of x ≡ word_page_of id).
            subst (λ z. number_in (pages_of new z) (word_place_of x) ≡ number_in (pages_of old z) (word_place_of x)) (sym page)
            (put.same_page (low_half x % 2048) (omega arith)
            (λ (place : low_half x % 2048 ≡ low_half id % 2048). other_number id x parent none (one_place start.base.next start.base.oldest id x near mine.from mine.to asked.used.1 (let to = asked.used.2 in omega arith) (sym page) (sym place)))))
            (λ (page : word_page_of x ≢ word_page_of id). ap (λ (t : List ℕ). number_in t (word_place_of x)) (put.others (word_page_of x) page))
            (same_or_not (word_page_of x) (word_page_of id));
        set = λ x i v asked lt some.
            let r = own_number id x parent v some in
            subst (λ z. number_in (pages_of new (word_page_of z)) (word_place_of z) ≡ v % 2 ^ 32) r.0 (put.here ∙ ap (λ z. z % 2 ^ 32) r.1);
        tails = λ t. tt;
        last = last;
        cutoff = cutoff;
        crash = crash;
      }
