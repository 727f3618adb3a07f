-- A bank of offsets stands for its list behind each of its calls.
use Rattle.std.proofs.Common.{◌≡◌, ◌≢◌, ℕ, ◌+◌, ◌/◌, ◌%◌, ◌^◌, ◌≤◌, ◌<◌, ◌==◌, ◌⊎◌, inl, inr, ⊎_elim, Bool, cond, List, [], ◌∷◌, ◌++◌, slice_index, IsTrue, None, Some, refl, sym, ap, subst, ◌∙◌, arith}
use Rattle.std.specs.List.{cons_option, last_or}
use Rattle.disk_core.specs.declared.page_disk.PageDisk as disks
use Rattle.store_pages.specs.declared.page_rule.PageRule as rules
use Rattle.store_pages.specs.Layouts.{word_page_of, word_place_of}
use Rattle.slru_bank.specs.declared.bank.SlruBank.{SlruBank}
use Rattle.slru_bank.specs.declared.refusal.BankRefusal.{BankRefusal}
use Rattle.slru_bank.specs.declared.refusal.BankRefusal.TheVariants as refused
use Rattle.slru_bank.specs.ByteRange.{SetsEntry}
use Rattle.slru_bank.specs.Calls.{CrashKeeps, CrashMayLack, cutoff_of, faults_of, last_page, pages_of}
use Rattle.slru_bank.specs.Removal.{MayDrop, later_cutoff}
use Rattle.tx_events.proofs.ListSteps.{eqb-refl, le_or_over}
use Rattle.tx_events.specs.Base.{IsBase}
use Rattle.tx_events.specs.Ids.{low_half}
use Rattle.tx_events.specs.Limits.{multi_stop_limit}
use Rattle.tx_events.specs.PageOrder.{Multis, is_cut, page_precedes}
use Rattle.tx_events.specs.declared.event.By.{By}
use Rattle.tx_core.specs.declared.entry.Change.TheVariants as changes
use Rattle.tx_core.specs.declared.entry.Entry.{Entry}
use Rattle.tx_core.specs.declared.entry.Kind.TheVariants as kinds
use Rattle.tx_core.specs.declared.entry.Start.{Start}
use Rattle.tx_core.specs.CleanMultis.{CleanOffsets}
use Rattle.tx_core.specs.Entries.{cut_in}
use Rattle.tx_core.specs.FaultsRise.{faults_told}
use Rattle.tx_core.specs.Locks.{offset_page, offsets_lock}
use Rattle.tx_core.specs.MultiEntries.{offsets_in}
use Rattle.tx_core.specs.Pages.{zeroed_in}
use Rattle.tx_core.specs.PagesBeforeIds.{WasMade}
use Rattle.tx_core.specs.StoredBytes.{StoredBytes, byte_of}
use Rattle.engine_parts.specs.BankCourse.{IsOffsetOn, SetThem, offset_rack}
use Rattle.engine_parts.specs.Parts.{IsOffsetsOf}
use Rattle.engine_parts.specs.Shelf.{IsNearBy, IsRoomFor}
use Rattle.engine_parts.specs.ShelfLaws.{KeepsStore}
use Rattle.engine_parts.specs.Shelves.{offset_shelf}
use Rattle.engine_parts.proofs.OffsetShelf.{offset_set, offsets_keep, other_number, own_number, same_or_not}
use Rattle.multi_banks.specs.Refusals.{entry_of_refusal}
use Rattle.multi_banks.proofs.Adding.{offset_entry}
use Rattle.multi_banks.proofs.Coursing.{IsSame, Makes, came_cut, came_made, came_noted, came_same, came_then, made_far, set_far, stands_past, stands_same}
use Rattle.multi_banks.proofs.Digits.{bytes_are, bytes_same}
use Rattle.multi_banks.proofs.Quiet.{refused_still, refused_told, same_told}

stop_upto : (oldest : ℕ) → multi_stop_limit oldest ≤ oldest + 2 ^ 31
stop_upto oldest = grind arith

-- the multixacts of a base span no more than half a ring
pub multis_span : (start : Start) → IsBase start.base → start.base.multi ≤ start.base.oldest_multi + 2 ^ 31
multis_span start b = let s = stop_upto start.base.oldest_multi in let n = b.multi in omega arith

-- two multixacts with one stored page and place are one: the one in room, the other near
one_place : (first oldest a b : ℕ) → first ≤ oldest + 2 ^ 31 → oldest ≤ a → a < first + 2 ^ 30 → first + 2 ^ 30 ≤ b + 2 ^ 32 → b < first + 2 ^ 30 → word_page_of a ≡ word_page_of b → low_half a % 2048 ≡ low_half b % 2048 → a ≡ b
one_place first oldest a b near ao an bo bn p q = omega arith

below : (a : ℕ) → a % 2048 < 2048
below a = omega arith

-- a value that is set of a number is set of it
one_set : {V : Type 0} (x : ℕ) (v : V) → last_or None (cons_option (cond (x == x) (Some v) None) []) ≡ Some v
one_set x v = ap (λ (b : Bool). last_or None (cons_option (cond b (Some v) None) [])) (eqb-refl x)

module _ {P O : Type 0} {g : disks.Ghosts P} {r : rules.Ghosts O} (start : Start) (bank : ℕ) (base : IsBase start.base) where
  keeps : (old new : SlruBank P O g r) (es : List Entry) (e : Entry) → IsOffsetsOf start bank old es → faults_told start (offsets_lock bank) (es ++ e ∷ []) ≤ faults_of new
      → KeepsStore (offset_shelf start) (CleanOffsets start) start (offsets_lock bank) bank g.tells (faults_of old) (faults_of new) (last_page old) (last_page new) (cutoff_of old) (cutoff_of new) (pages_of old) (pages_of new) es e
  keeps old new es e s counts = offsets_keep start bank (multis_span start base) g.tells (faults_of old) (faults_of new) (last_page old) (last_page new) (cutoff_of old) (cutoff_of new) (pages_of old) (pages_of new) es e s.stands counts

  -- a call changed nothing
  pub offsets_same : (old new : SlruBank P O g r) (es : List Entry) → IsSame old new → IsOffsetsOf start bank old es → IsOffsetsOf start bank new es
  offsets_same old new es same s = record {
    stands = stands_same (offset_shelf start) (CleanOffsets start) start (offsets_lock bank) bank g.tells (faults_of old) (faults_of new) (last_page old) (last_page new) (cutoff_of old) (cutoff_of new) (pages_of old) (pages_of new) es same.last same.cutoff same.count same.pages s.stands;
    course = λ told. came_same (offset_rack start) (IsOffsetOn start bank) (CleanOffsets start) (λ m. Unit {0}) old new es told same (s.course told);
  }

  -- and its entry is a fault or a look
  pub offsets_refused : (store : SlruBank P O g r) (by : By) (refusal : BankRefusal) (es : List Entry) → IsOffsetsOf start bank store es → IsOffsetsOf start bank store (es ++ entry_of_refusal by (faults_of store) refusal ∷ [])
  offsets_refused store by refusal es s =
      let q = refused_still by (faults_of store) refusal in
      let e : Entry = entry_of_refusal by (faults_of store) refusal in record {
        stands = (keeps store store es e s (refused_told start (offsets_lock bank) by (faults_of store) refusal es s.stands.count)).looks (record { sets_none = q.offsets; makes_none = q.zeroed }) refl refl (λ told page. refl);
        course = λ told. came_noted (offset_rack start) (IsOffsetOn start bank) (CleanOffsets start) (λ m. Unit {0}) store es e q.offsets q.zeroed q.cut q.other (s.course told);
      }

  pub offsets_looked : (store : SlruBank P O g r) (by : By) (es : List Entry) → IsOffsetsOf start bank store es → IsOffsetsOf start bank store (es ++ record { by = by; kind = kinds.Look } ∷ [])
  offsets_looked store by es s = offsets_refused store by (refused.Cut 0) es s

  -- a page was made, of a multixact in use
  pub offsets_made : (old new : SlruBank P O g r) (es : List Entry) (by : By) (multi page stored : ℕ) (e : Entry) → start.base.multi ≤ multi → e ≡ record { by = by; kind = kinds.Zero page } → page ≡ offset_page multi → stored ≡ low_half multi / 2048
      → Makes (page_precedes Multis 2048) stored old new → IsOffsetsOf start bank old es → IsOffsetsOf start bank new (es ++ e ∷ [])
  offsets_made old new es by multi page stored e from is page_is stored_is m s =
      let at : stored ≡ page % 2 ^ 21 = same_page multi page stored page_is stored_is in
      let made : Makes (page_precedes Multis 2048) (page % 2 ^ 21) old new = subst (λ z. Makes (page_precedes Multis 2048) z old new) at m in
      let entry : Entry = record { by = by; kind = kinds.Zero page } in
      let counts = same_told start (offsets_lock bank) entry (faults_of old) (faults_of new) es refl s.stands.count m.count in
      subst (λ (f : Entry). IsOffsetsOf start bank new (es ++ f ∷ [])) (sym is) (record {
        stands = ⊎_elim
            (λ (near : page ≤ offset_page (start.base.multi + 2 ^ 29)). (keeps old new es entry s counts).makes page refl refl (nearby multi page from near page_is) made.last made.cutoff made.pages)
            (λ (far : offset_page (start.base.multi + 2 ^ 29) < page). stands_past (offset_shelf start) (CleanOffsets start) start (offsets_lock bank) bank g.tells (faults_of old) (faults_of new) (last_page old) (last_page new) (cutoff_of old) (cutoff_of new) (pages_of old) (pages_of new) es entry (made_far (offset_shelf start) (CleanOffsets start) start (offsets_lock bank) bank es by page far) made.cutoff counts s.stands)
            (le_or_over page (offset_page (start.base.multi + 2 ^ 29)));
        course = λ told. came_made (offset_rack start) (IsOffsetOn start bank) (CleanOffsets start) (λ m. Unit {0}) old new es by page told made (s.course told);
      })
    where
      same_page : (multi page stored : ℕ) → page ≡ offset_page multi → stored ≡ low_half multi / 2048 → stored ≡ page % 2 ^ 21
      same_page multi page stored p s = omega arith

      nearby : (multi page : ℕ) → start.base.multi ≤ multi → page ≤ offset_page (start.base.multi + 2 ^ 29) → page ≡ offset_page multi → IsNearBy (offset_shelf start) page
      nearby multi page from near is = record { from = omega arith; to = near }

  -- an offset was set, on a page that was made
  pub offsets_set : (old new : SlruBank P O g r) (es : List Entry) (by : By) (multi offset : ℕ) (e : Entry) → e ≡ offset_entry by multi offset → start.base.multi ≤ multi → WasMade es (offset_page start.base.multi) (offset_page multi) → last_page new ≡ last_page old → cutoff_of new ≡ cutoff_of old → faults_of old ≤ faults_of new
      → (IsTrue g.tells → SetsEntry (word_page_of multi) (low_half multi % 2048) (low_half offset) (pages_of old) (pages_of new)) → CrashKeeps old new → IsOffsetsOf start bank old es → IsOffsetsOf start bank new (es ++ e ∷ [])
  offsets_set old new es by multi offset e is from made last cutoff count sets crash s =
      let entry : Entry = offset_entry by multi offset in
      let counts = same_told start (offsets_lock bank) entry (faults_of old) (faults_of new) es refl s.stands.count count in
      subst (λ (f : Entry). IsOffsetsOf start bank new (es ++ f ∷ [])) (sym is) (record {
        stands = ⊎_elim
            (λ (near : multi < start.base.multi + 2 ^ 30). (keeps old new es entry s counts).sets last cutoff refl (λ told. offset_set start by by multi offset (pages_of old) (pages_of new) (multis_span start base) (room multi from near) (sets told)))
            (λ (far : start.base.multi + 2 ^ 30 ≤ multi). stands_past (offset_shelf start) (CleanOffsets start) start (offsets_lock bank) bank g.tells (faults_of old) (faults_of new) (last_page old) (last_page new) (cutoff_of old) (cutoff_of new) (pages_of old) (pages_of new) es entry
            (set_far (offset_shelf start) (CleanOffsets start) start (offsets_lock bank) bank es entry (offset_page multi) made (past multi far) (rises start.base.multi)) cutoff counts s.stands)
            (under_or_past multi (start.base.multi + 2 ^ 30));
        course = λ told. came_then (offset_rack start) (IsOffsetOn start bank) (CleanOffsets start) (λ m. Unit {0}) old new es (es ++ entry ∷ []) (s.course told) (inr (inr (inr (inl (set_them told)))));
      })
    where
      under_or_past : (a b : ℕ) → (a < b) ⊎ (b ≤ a)
      under_or_past a b = ⊎_elim (λ (q : b ≤ a). inr q) (λ (q : a < b). inl q) (le_or_over b a)

      past : (multi : ℕ) → start.base.multi + 2 ^ 30 ≤ multi → offset_page (start.base.multi + 2 ^ 29) < offset_page multi
      past multi far = omega arith

      rises : (first : ℕ) → offset_page first ≤ offset_page (first + 2 ^ 29)
      rises first = omega arith

      room : (multi : ℕ) → start.base.multi ≤ multi → multi < start.base.multi + 2 ^ 30 → IsRoomFor (offset_shelf start) multi
      room multi from near = record { from = (let o = base.oldest_multi in omega arith); to = near }

      set_them : IsTrue g.tells → SetThem (offset_rack start) (IsOffsetOn start bank) (λ m. Unit {0}) old new es (es ++ offset_entry by multi offset ∷ [])
      set_them told =
          let put = sets told in
          let small_old = put.pages.was.small in
          let small_new = put.pages.is.small in record {
            entry = offset_entry by multi offset;
            entries = refl;
            makes = refl;
            cuts = refl;
            other = λ q. let apart : kinds.Set (changes.Offset by multi offset ∷ []) ≡ kinds.Sync = q in absurd cc;
            made = λ x v some. subst (λ z. WasMade es (offset_page start.base.multi) (offset_page z)) (own_number multi x (λ i. byte_of offset i) v some).0 made;
            kept = λ room x i asked lt none.
                let mine = room multi (λ i. byte_of offset i) (one_set multi (λ i. byte_of offset i)) in
                ⊎_elim
                (λ (page : word_page_of x ≡ word_page_of multi).
                subst (λ z. slice_index (pages_of new z) (word_place_of x + i) ≡ slice_index (pages_of old z) (word_place_of x + i)) (sym page)
                (bytes_same (pages_of new (word_page_of multi)) (pages_of old (word_page_of multi)) (word_place_of x) small_new small_old
                (put.same_page (low_half x % 2048) (below (low_half x))
                (λ (place : low_half x % 2048 ≡ low_half multi % 2048). other_number multi x (λ i. byte_of offset i) none (one_place start.base.multi start.base.oldest_multi multi x (multis_span start base) mine.from mine.to asked.near.from asked.near.to (sym page) (sym place))))
                i lt))
                (λ (page : word_page_of x ≢ word_page_of multi). ap (λ (t : List ℕ). slice_index t (word_place_of x + i)) (put.others (word_page_of x) page))
                (same_or_not (word_page_of x) (word_page_of multi));
            set = λ x i v asked lt some.
                let r = own_number multi x (λ i. byte_of offset i) v some in
                subst (λ z. slice_index (pages_of new (word_page_of z)) (word_place_of z + i) ≡ v i) r.0
                (bytes_are (pages_of new (word_page_of multi)) (word_place_of multi) offset small_new put.here i lt ∙ ap (λ (b : StoredBytes). b i) r.1);
            tails = λ t. tt;
            last = last;
            cutoff = cutoff;
            crash = crash;
          }

  -- what lies before a page was cut, or some of it
  pub offsets_cut : (old new : SlruBank P O g r) (es : List Entry) (page : ℕ) (e : Entry) → cut_in e.kind ≡ Some page → offsets_in e ≡ [] → zeroed_in e.kind ≡ None → faults_told start (offsets_lock bank) (es ++ e ∷ []) ≤ faults_of new
      → cutoff_of new ≡ later_cutoff Multis 2048 (cutoff_of old) (page % 2 ^ 21) → (IsTrue g.tells → MayDrop (is_cut Multis 2048 (cutoff_of new)) (pages_of old) (pages_of new)) → last_page new ≡ last_page old → CrashMayLack (is_cut Multis 2048 (cutoff_of new)) old new
      → IsOffsetsOf start bank old es → IsOffsetsOf start bank new (es ++ e ∷ [])
  offsets_cut old new es page e cuts sets makes counts cutoff drops last crash s = record {
    stands = (keeps old new es e s counts).cuts page cuts (record { sets_none = sets; makes_none = makes }) last cutoff drops;
    course = λ told. came_cut (offset_rack start) (IsOffsetOn start bank) (CleanOffsets start) (λ m. Unit {0}) old new es e page cuts sets makes cutoff (drops told) last crash (s.course told);
  }
