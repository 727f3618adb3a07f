-- A bank of members stands for its list behind each of its calls.
use Rattle.std.proofs.Common.{◌≡◌, ℕ, ◌+◌, ◌/◌, ◌%◌, ◌^◌, ◌≤◌, ◌<◌, inl, inr, ⊎_elim, List, [], ◌∷◌, ◌++◌, length, IsTrue, None, Some, refl, sym, subst, arith}
use Rattle.disk_core.specs.declared.page_disk.PageDisk as disks
use Rattle.store_pages.specs.declared.page_rule.PageRule as rules
use Rattle.store_pages.specs.Layouts.{member_page_of}
use Rattle.slru_bank.specs.declared.bank.SlruBank.{SlruBank}
use Rattle.slru_bank.specs.declared.refusal.BankRefusal.{BankRefusal}
use Rattle.slru_bank.specs.declared.refusal.BankRefusal.TheVariants as refused
use Rattle.slru_bank.specs.Calls.{CrashKeeps, CrashMayLack, cutoff_of, faults_of, last_page, pages_of}
use Rattle.slru_bank.specs.Removal.{MayDrop, later_cutoff}
use Rattle.bank_stores.specs.Runs.{SetsMembers}
use Rattle.tx_events.proofs.ListSteps.{le_or_over}
use Rattle.tx_events.specs.Base.{IsBase}
use Rattle.tx_events.specs.Ids.{low_half}
use Rattle.tx_events.specs.PageOrder.{Offsets, is_cut, page_precedes}
use Rattle.tx_events.specs.declared.event.By.{By}
use Rattle.tx_events.specs.declared.multi.Member.{Member}
use Rattle.tx_core.specs.declared.entry.Entry.{Entry}
use Rattle.tx_core.specs.declared.entry.Kind.TheVariants as kinds
use Rattle.tx_core.specs.declared.entry.Start.{Start}
use Rattle.tx_core.specs.CleanMultis.{CleanMembers}
use Rattle.tx_core.specs.Entries.{cut_in}
use Rattle.tx_core.specs.FaultsRise.{faults_told}
use Rattle.tx_core.specs.Locks.{member_page_in_full, members_lock}
use Rattle.tx_core.specs.MultiEntries.{slots_in}
use Rattle.tx_core.specs.Pages.{zeroed_in}
use Rattle.tx_core.specs.PagesBeforeIds.{WasMade}
use Rattle.tx_core.specs.StoredBytes.{HasZeroTails}
use Rattle.tx_core.proofs.PageRing.{first_rises, member_on}
use Rattle.engine_parts.specs.BankCourse.{IsMemberOn, member_rack}
use Rattle.engine_parts.specs.Parts.{IsMembersOf}
use Rattle.engine_parts.specs.Shelf.{IsNearBy}
use Rattle.engine_parts.specs.ShelfLaws.{KeepsStore}
use Rattle.engine_parts.specs.Shelves.{member_shelf}
use Rattle.engine_parts.proofs.MemberShelf.{members_keep}
use Rattle.multi_banks.specs.Members.{SharePage}
use Rattle.multi_banks.specs.Refusals.{entry_of_refusal}
use Rattle.multi_banks.proofs.Adding.{slots_entry}
use Rattle.multi_banks.proofs.Coursing.{IsSame, Makes, came_cut, came_made, came_noted, came_same, came_then, made_far, set_far, stands_past, stands_same}
use Rattle.multi_banks.proofs.MemberSetting.{members_set, set_slots_then}
use Rattle.multi_banks.proofs.Quiet.{refused_still, refused_told, same_told}
use Rattle.multi_banks.proofs.Uncut.{members_span}

module _ {P O : Type 0} {g : disks.Ghosts P} {r : rules.Ghosts O} (start : Start) (bank : ℕ) (base : IsBase start.base) where
  keeps : (old new : SlruBank P O g r) (es : List Entry) (e : Entry) → IsMembersOf start bank old es → faults_told start (members_lock bank) (es ++ e ∷ []) ≤ faults_of new
      → KeepsStore (member_shelf start) (CleanMembers start) start (members_lock bank) bank g.tells (faults_of old) (faults_of new) (last_page old) (last_page new) (cutoff_of old) (cutoff_of new) (pages_of old) (pages_of new) es e
  keeps old new es e s counts = members_keep start bank (members_span start base) g.tells (faults_of old) (faults_of new) (last_page old) (last_page new) (cutoff_of old) (cutoff_of new) (pages_of old) (pages_of new) es e s.stands counts

  -- a call changed nothing
  pub members_same : (old new : SlruBank P O g r) (es : List Entry) → IsSame old new → IsMembersOf start bank old es → IsMembersOf start bank new es
  members_same old new es same s = record {
    stands = stands_same (member_shelf start) (CleanMembers start) start (members_lock bank) bank g.tells (faults_of old) (faults_of new) (last_page old) (last_page new) (cutoff_of old) (cutoff_of new) (pages_of old) (pages_of new) es same.last same.cutoff same.count same.pages s.stands;
    course = λ told. came_same (member_rack start) (IsMemberOn start bank) (CleanMembers start) HasZeroTails old new es told same (s.course told);
  }

  -- and its entry is a fault or a look
  pub members_refused : (store : SlruBank P O g r) (by : By) (refusal : BankRefusal) (es : List Entry) → IsMembersOf start bank store es → IsMembersOf start bank store (es ++ entry_of_refusal by (faults_of store) refusal ∷ [])
  members_refused store by refusal es s =
      let q = refused_still by (faults_of store) refusal in
      let e : Entry = entry_of_refusal by (faults_of store) refusal in record {
        stands = (keeps store store es e s (refused_told start (members_lock bank) by (faults_of store) refusal es s.stands.count)).looks (record { sets_none = q.slots; makes_none = q.zeroed }) refl refl (λ told page. refl);
        course = λ told. came_noted (member_rack start) (IsMemberOn start bank) (CleanMembers start) HasZeroTails store es e q.slots q.zeroed q.cut q.other (s.course told);
      }

  pub members_looked : (store : SlruBank P O g r) (by : By) (es : List Entry) → IsMembersOf start bank store es → IsMembersOf start bank store (es ++ record { by = by; kind = kinds.Look } ∷ [])
  members_looked store by es s = members_refused store by (refused.Cut 0) es s

  -- a page was made, of an offset in use
  pub members_made : (old new : SlruBank P O g r) (es : List Entry) (by : By) (offset page stored : ℕ) (e : Entry) → start.base.offset ≤ offset → e ≡ record { by = by; kind = kinds.Zero page } → page ≡ member_page_in_full offset → stored ≡ low_half offset / 1636
      → Makes (page_precedes Offsets 1636) stored old new → IsMembersOf start bank old es → IsMembersOf start bank new (es ++ e ∷ [])
  members_made old new es by offset page stored e from is page_is stored_is m s =
      let at : stored ≡ page % 2625286 = same_page offset page stored page_is stored_is in
      let made : Makes (page_precedes Offsets 1636) (page % 2625286) old new = subst (λ z. Makes (page_precedes Offsets 1636) z old new) at m in
      let entry : Entry = record { by = by; kind = kinds.Zero page } in
      let counts = same_told start (members_lock bank) entry (faults_of old) (faults_of new) es refl s.stands.count m.count in
      subst (λ (f : Entry). IsMembersOf start bank new (es ++ f ∷ [])) (sym is) (record {
        stands = ⊎_elim
            (λ (near : page ≤ member_page_in_full (start.base.offset + 2 ^ 29)). (keeps old new es entry s counts).makes page refl refl (nearby offset page from near page_is) made.last made.cutoff made.pages)
            (λ (far : member_page_in_full (start.base.offset + 2 ^ 29) < page). stands_past (member_shelf start) (CleanMembers start) start (members_lock bank) bank g.tells (faults_of old) (faults_of new) (last_page old) (last_page new) (cutoff_of old) (cutoff_of new) (pages_of old) (pages_of new) es entry (made_far (member_shelf start) (CleanMembers start) start (members_lock bank) bank es by page far) made.cutoff counts s.stands)
            (le_or_over page (member_page_in_full (start.base.offset + 2 ^ 29)));
        course = λ told. came_made (member_rack start) (IsMemberOn start bank) (CleanMembers start) HasZeroTails old new es by page told made (s.course told);
      })
    where
      same_page : (offset page stored : ℕ) → page ≡ member_page_in_full offset → stored ≡ low_half offset / 1636 → stored ≡ page % 2625286
      same_page offset page stored p s = omega arith

      rises : (a b : ℕ) → a ≤ b → member_page_in_full a ≤ member_page_in_full b
      rises a b le = omega arith

      nearby : (offset page : ℕ) → start.base.offset ≤ offset → page ≤ member_page_in_full (start.base.offset + 2 ^ 29) → page ≡ member_page_in_full offset → IsNearBy (member_shelf start) page
      nearby offset page from near is = record { from = (let r = rises start.base.offset offset from in omega arith); to = near }

  -- what lies before a page was cut, or some of it
  pub members_cut : (old new : SlruBank P O g r) (es : List Entry) (page : ℕ) (e : Entry) → cut_in e.kind ≡ Some page → slots_in e ≡ [] → zeroed_in e.kind ≡ None → faults_told start (members_lock bank) (es ++ e ∷ []) ≤ faults_of new
      → cutoff_of new ≡ later_cutoff Offsets 1636 (cutoff_of old) (page % 2625286) → (IsTrue g.tells → MayDrop (is_cut Offsets 1636 (cutoff_of new)) (pages_of old) (pages_of new)) → last_page new ≡ last_page old → CrashMayLack (is_cut Offsets 1636 (cutoff_of new)) old new
      → IsMembersOf start bank old es → IsMembersOf start bank new (es ++ e ∷ [])
  members_cut old new es page e cuts sets makes counts cutoff drops last crash s = record {
    stands = (keeps old new es e s counts).cuts page cuts (record { sets_none = sets; makes_none = makes }) last cutoff drops;
    course = λ told. came_cut (member_rack start) (IsMemberOn start bank) (CleanMembers start) HasZeroTails old new es e page cuts sets makes cutoff (drops told) last crash (s.course told);
  }

  -- members were set, on a page that was made
  pub members_put : (old new : SlruBank P O g r) (es : List Entry) (by : By) (offset : ℕ) (members : List Member) (e : Entry) → e ≡ slots_entry by offset members → start.base.offset ≤ offset → 1 ≤ length members → SharePage offset (length members) → low_half offset % 1636 + length members ≤ 1636 → low_half offset + length members ≤ 2 ^ 32
      → WasMade es (member_page_in_full start.base.offset) (member_page_in_full offset) → last_page new ≡ last_page old → cutoff_of new ≡ cutoff_of old → faults_of old ≤ faults_of new
      → (IsTrue g.tells → SetsMembers (member_page_of offset) (low_half offset % 1636) members (length members) (pages_of old) (pages_of new)) → CrashKeeps old new → IsMembersOf start bank old es → IsMembersOf start bank new (es ++ e ∷ [])
  members_put old new es by offset members e is from some share page lap made last cutoff count sets crash s =
      let entry : Entry = slots_entry by offset members in
      let counts = same_told start (members_lock bank) entry (faults_of old) (faults_of new) es refl s.stands.count count in
      subst (λ (f : Entry). IsMembersOf start bank new (es ++ f ∷ [])) (sym is) (record {
        stands = ⊎_elim
            (λ (near : offset + length members ≤ start.base.offset + 2 ^ 30). (keeps old new es entry s counts).sets last cutoff refl (λ told. members_set start by by offset members (pages_of old) (pages_of new) (members_span start base) (room offset from) near page lap (sets told)))
            (λ (far : start.base.offset + 2 ^ 30 < offset + length members). stands_past (member_shelf start) (CleanMembers start) start (members_lock bank) bank g.tells (faults_of old) (faults_of new) (last_page old) (last_page new) (cutoff_of old) (cutoff_of new) (pages_of old) (pages_of new) es entry
            (set_far (member_shelf start) (CleanMembers start) start (members_lock bank) bank es entry (member_page_in_full offset) made (past start.base.offset offset (length members) page far) (page_rises start.base.offset)) cutoff counts s.stands)
            (le_or_over (offset + length members) (start.base.offset + 2 ^ 30));
        course = λ told. came_then (member_rack start) (IsMemberOn start bank) (CleanMembers start) HasZeroTails old new es (es ++ entry ∷ []) (s.course told) (inr (inr (inr (inl (set_slots_then start bank old new es by offset members (members_span start base) some share page lap made (sets told) last cutoff crash)))));
      })
    where
      past : (first offset n : ℕ) → low_half offset % 1636 + n ≤ 1636 → first + 2 ^ 30 < offset + n → member_page_in_full (first + 2 ^ 29) < member_page_in_full offset
      past first offset n page far =
          let low = (member_on offset (member_page_in_full offset) refl).0 in
          let high = (member_on (first + 2 ^ 29) (member_page_in_full (first + 2 ^ 29)) refl).0 in
          ⊎_elim
          (λ (le : member_page_in_full offset ≤ member_page_in_full (first + 2 ^ 29)).
          let f = first_rises (member_page_in_full offset) (member_page_in_full (first + 2 ^ 29)) le in
          let mine = (member_on offset (member_page_in_full offset) refl).1 in
          absurd (omega (arith, page, far, f, high, mine)))
          (λ (lt : member_page_in_full (first + 2 ^ 29) < member_page_in_full offset). lt)
          (le_or_over (member_page_in_full offset) (member_page_in_full (first + 2 ^ 29)))

      page_rises : (a : ℕ) → member_page_in_full a ≤ member_page_in_full (a + 2 ^ 29)
      page_rises a = omega arith

      room : (offset : ℕ) → start.base.offset ≤ offset → start.base.oldest_offset ≤ offset
      room offset from = let o = base.oldest_offset in omega arith
