-- What a session may add to the list of a bank, from what it has seen.
use Rattle.std.proofs.Common.{Some, ◌≡◌, ℕ, zero, suc, ◌+◌, ◌%◌, ◌<◌, inl, ⊎_elim, List, [], ◌∷◌, refl, sym, ap, subst, ◌∙◌, length, arith}
use Rattle.std.specs.List.{AllByRecursion, slice_get}
use Rattle.notes.specs.Lists.{Grows, at}
use Rattle.disk_core.specs.Faults.{HasRisen}
use Rattle.store_pages.specs.Layouts.{member_page_of, multi_before}
use Rattle.tx_events.proofs.Membership.{Has, contains_has, has_contains}
use Rattle.tx_events.specs.declared.event.By.{By}
use Rattle.tx_events.specs.declared.multi.Member.{Member}
use Rattle.tx_events.specs.declared.record.Rec.TheVariants as records
use Rattle.tx_core.specs.declared.entry.Change.TheVariants as changes
use Rattle.tx_core.specs.declared.entry.Entry.{Entry}
use Rattle.tx_core.specs.declared.entry.Kind.TheVariants as kinds
use Rattle.tx_core.specs.declared.entry.Start.{Start}
use Rattle.tx_core.specs.CutsFollow.{CutBy, IsTruncated}
use Rattle.tx_core.specs.Entries.{Link, Mark}
use Rattle.tx_core.specs.FaultsRise.{faults_told}
use Rattle.tx_core.specs.Laws.{MaySetOffset, MaySetSlot, links_of, marks_of, offsets_of, slots_of}
use Rattle.tx_core.specs.Locks.{IsPageLock, member_page_in_full, members_lock, members_lock_of, offset_page, offsets_lock, offsets_lock_of}
use Rattle.tx_core.specs.MembersBeforeOffset.{OffsetOf, SlotOf}
use Rattle.tx_core.specs.MultiEntries.{SetOffset, SetSlot}
use Rattle.tx_core.specs.PagesBeforeIds.{IsMultiOf, IsOffsetOf, IsWanted, WasMade}
use Rattle.tx_core.specs.ProgramOrder.{IsInTurn, change_lock}
use Rattle.tx_core.proofs.ChangeLaws.{changes_law, fault_law}
use Rattle.tx_core.proofs.Lasting.{flushed_grows}
use Rattle.tx_core.proofs.LastingFurther.{offsets_lasting, slots_lasting}
use Rattle.tx_core.proofs.Quiet.{cut_law}
use Rattle.engine_parts.specs.Law.{MayKeep}
use Rattle.multi_banks.specs.Members.{SharePage, slots_set}
use Rattle.multi_banks.specs.Refusals.{cut_fault_by}
use Rattle.multi_banks.proofs.Visiting.{is_members_lock, is_offsets_lock}

-- ---- what stays while others go on

pub truncated_later : (start : Start) (lists more : List (List Entry)) (oldest multi offset : ℕ) → Grows lists more → IsTruncated start lists oldest multi offset → IsTruncated start more oldest multi offset
truncated_later start lists more oldest multi offset g t = record { session = t.session; flushed = flushed_grows start lists more t.session (records.Truncate oldest multi offset) g t.flushed }

pub offset_later : (start : Start) (lists more : List (List Entry)) (set : SetOffset) → Grows lists more → OffsetOf start lists set → OffsetOf start more set
offset_later start lists more set g o = ((offsets_lasting start).stays lists more 0 [] (record { by = set.caller; kind = kinds.Set (changes.Offset set.caller set.multi set.offset ∷ []) }) g (o, tt)).0

pub slot_later : (lists more : List (List Entry)) (slot : SetSlot) → Grows lists more → SlotOf lists slot → SlotOf more slot
slot_later lists more slot g s = (slots_lasting.stays lists more 0 [] (record { by = slot.caller; kind = kinds.Set (changes.Slot slot.caller slot.offset slot.member ∷ []) }) g (s, tt)).0

-- ---- pages that are made

pub offsets_wanted : (start : Start) (lists : List (List Entry)) (bank multi : ℕ) → IsMultiOf start lists multi → IsWanted start lists (offsets_lock bank) (offset_page multi)
offsets_wanted start lists bank multi is = record {
  xact = λ other q. absurd (omega (arith, q));
  subtrans = λ other q. absurd (omega (arith, q));
  offsets = λ other q. (multi, refl, is);
  members = λ other q. absurd (omega (arith, q));
}

pub members_wanted : (start : Start) (lists : List (List Entry)) (bank offset : ℕ) → IsOffsetOf start lists offset → IsWanted start lists (members_lock bank) (member_page_in_full offset)
members_wanted start lists bank offset is = record {
  xact = λ other q. absurd (omega (arith, q));
  subtrans = λ other q. absurd (omega (arith, q));
  offsets = λ other q. absurd (omega (arith, q));
  members = λ other q. (offset, refl, is);
}

-- ---- an offset is set

abbrev pub offset_entry : By → ℕ → ℕ → Entry
offset_entry by multi offset = record { by = by; kind = kinds.Set (changes.Offset by multi offset ∷ []) }

pub may_set_offset : (start : Start) (seen : List (List Entry)) (bank multi offset : ℕ) (by : By) (e : Entry) → bank < start.banks → e ≡ offset_entry by multi offset → offsets_lock_of start multi ≡ offsets_lock bank → WasMade (at seen (offsets_lock bank)) (offset_page start.base.multi) (offset_page multi)
    → OffsetOf start seen (record { caller = by; multi = multi; offset = offset }) → IsInTurn start (at seen (offsets_lock bank)) by → MayKeep start seen (offsets_lock bank) e
may_set_offset start seen bank multi offset by e inside is here made of turn =
    let set : SetOffset = record { caller = by; multi = multi; offset = offset } in
    subst (MayKeep start seen (offsets_lock bank)) (sym is) (λ lists k knows there whole.
    changes_law start seen (offsets_lock bank) by (changes.Offset by multi offset ∷ []) (record {
      on = record { bank = is_offsets_lock start bank inside; pages = (here, tt) };
      marks = λ mark c. absurd (contains_has [] mark c);
      alike = λ mark other c d q. absurd (contains_has [] mark c);
      links = λ link c. absurd (contains_has [] link c);
      offsets = λ other c.
          ⊎_elim
          (λ (q : set ≡ other). subst (λ (l : SetOffset). MaySetOffset start seen (at seen (offsets_lock bank)) l) q (record { page = made; members = of }))
          (λ z. absurd z)
          (contains_has (set ∷ []) other c);
      slots = λ slot c. absurd (contains_has [] slot c);
    }) lists k knows there whole turn)

-- ---- members are set

abbrev pub slots_entry : By → ℕ → List Member → Entry
slots_entry by offset members = record { by = by; kind = kinds.Set (slots_set by offset members) }

-- each that is set is one of the members, at its place
pub slot_among : (by : By) (offset : ℕ) (members : List Member) (slot : SetSlot) → Has (slots_of (slots_set by offset members)) slot → (k : ℕ) × (member : Member) × (slice_get members k ≡ Some member) × (record { caller = by; offset = offset + k; member = member } ≡ slot)
slot_among by offset [] slot k = absurd k
slot_among by offset (member ∷ members) slot k = ⊎_elim
    (λ (q : record { caller = by; offset = offset; member = member } ≡ slot). (0, member, refl, (let e : offset + 0 ≡ offset = omega arith in (λ j. record { caller = by; offset = e j; member = member }) ∙ q)))
    (λ t.
    let r = slot_among by (offset + 1) members slot t in
    let e : offset + suc r.0 ≡ offset + 1 + r.0 = omega arith in
    (suc r.0, r.1, r.2, (λ j. record { caller = by; offset = e j; member = r.1 }) ∙ r.3))
    k

pub no_offset_among : (by : By) (offset : ℕ) (members : List Member) (set : SetOffset) → Has (offsets_of (slots_set by offset members)) set → ⊥
no_offset_among by offset [] set k = k
no_offset_among by offset (member ∷ members) set k = no_offset_among by (offset + 1) members set k

no_mark_among : (by : By) (offset : ℕ) (members : List Member) (mark : Mark) → Has (marks_of (slots_set by offset members)) mark → ⊥
no_mark_among by offset [] mark k = k
no_mark_among by offset (member ∷ members) mark k = no_mark_among by (offset + 1) members mark k

no_link_among : (by : By) (offset : ℕ) (members : List Member) (link : Link) → Has (links_of (slots_set by offset members)) link → ⊥
no_link_among by offset [] link k = k
no_link_among by offset (member ∷ members) link k = no_link_among by (offset + 1) members link k

within : (members : List Member) (k : ℕ) (member : Member) → slice_get members k ≡ Some member → k < length members
within [] k member e = absurd cc
within (m ∷ ms) zero member e = omega arith
within (m ∷ ms) (suc k) member e = let r = within ms k member e in omega arith

pub place_within : (members : List Member) (k : ℕ) (member : Member) → slice_get members k ≡ Some member → k < length members
place_within members k member e = within members k member e

-- so many offsets share a page, and so its lock
pub share_stored : (offset count k : ℕ) → SharePage offset count → k < count → member_page_of (offset + k) ≡ member_page_of offset
share_stored offset count k share lt = here (offset + k) ∙ (ap (λ z. z % 2625286) (share k lt) ∙ sym (here offset))
  where
    here : (x : ℕ) → member_page_of x ≡ member_page_in_full x % 2625286
    here x = omega arith

pub share_lock : (start : Start) (offset count k lock : ℕ) → SharePage offset count → k < count → members_lock_of start offset ≡ lock → members_lock_of start (offset + k) ≡ lock
share_lock start offset count k lock share lt here = ap (λ z. members_lock (z % start.banks)) (share_stored offset count k share lt) ∙ here

all_on : (start : Start) (by : By) (lock offset : ℕ) (members : List Member) → ((k : ℕ) → k < length members → members_lock_of start (offset + k) ≡ lock) → AllByRecursion (λ change. change_lock start change ≡ lock) (slots_set by offset members)
all_on start by lock offset [] each = tt
all_on start by lock offset (member ∷ members) each = (
  (let e : offset + 0 ≡ offset = omega arith in subst (λ z. members_lock_of start z ≡ lock) e (each 0 (omega arith))),
  all_on start by lock (offset + 1) members (λ k lt. let e : offset + suc k ≡ offset + 1 + k = omega arith in subst (λ z. members_lock_of start z ≡ lock) e (each (suc k) (omega arith))),
)

pub may_set_slots : (start : Start) (seen : List (List Entry)) (bank offset : ℕ) (members : List Member) (by : By) (e : Entry) → bank < start.banks → e ≡ slots_entry by offset members → members_lock_of start offset ≡ members_lock bank → SharePage offset (length members)
    → WasMade (at seen (members_lock bank)) (member_page_in_full start.base.offset) (member_page_in_full offset)
    → ((k : ℕ) (member : Member) → slice_get members k ≡ Some member → SlotOf seen (record { caller = by; offset = offset + k; member = member })) → IsInTurn start (at seen (members_lock bank)) by → MayKeep start seen (members_lock bank) e
may_set_slots start seen bank offset members by e inside is here share made of turn =
    subst (MayKeep start seen (members_lock bank)) (sym is) (λ lists k knows there whole.
    changes_law start seen (members_lock bank) by (slots_set by offset members) (record {
      on = record { bank = is_members_lock start bank inside; pages = all_on start by (members_lock bank) offset members (λ k lt. share_lock start offset (length members) k (members_lock bank) share lt here) };
      marks = λ mark c. absurd (no_mark_among by offset members mark (contains_has (marks_of (slots_set by offset members)) mark c));
      alike = λ mark other c d q. absurd (no_mark_among by offset members mark (contains_has (marks_of (slots_set by offset members)) mark c));
      links = λ link c. absurd (no_link_among by offset members link (contains_has (links_of (slots_set by offset members)) link c));
      offsets = λ set c. absurd (no_offset_among by offset members set (contains_has (offsets_of (slots_set by offset members)) set c));
      slots = λ slot c.
          let r = slot_among by offset members slot (contains_has (slots_of (slots_set by offset members)) slot c) in
          subst (λ (l : SetSlot). MaySetSlot start seen (at seen (members_lock bank)) l) r.3
          (record {
            page = subst (λ z. WasMade (at seen (members_lock bank)) (member_page_in_full start.base.offset) z) (sym (share r.0 (within members r.0 r.1 r.2))) made;
            member = of r.0 r.1 r.2;
          });
    }) lists k knows there whole turn)

-- ---- a cut

pub offsets_cut_by : (start : Start) (lists : List (List Entry)) (bank oldest multi offset : ℕ) → IsTruncated start lists oldest multi offset → CutBy start lists (offsets_lock bank) (offset_page (multi_before multi))
offsets_cut_by start lists bank oldest multi offset t = record {
  xact = λ other q. absurd (omega (arith, q));
  offsets = λ other q. (oldest, multi, offset, t, refl);
  members = λ other q. absurd (omega (arith, q));
  subtrans = λ other q. absurd (omega (arith, q));
}

pub members_cut_by : (start : Start) (lists : List (List Entry)) (bank oldest multi offset : ℕ) → IsTruncated start lists oldest multi offset → CutBy start lists (members_lock bank) (member_page_in_full offset)
members_cut_by start lists bank oldest multi offset t = record {
  xact = λ other q. absurd (omega (arith, q));
  offsets = λ other q. absurd (omega (arith, q));
  members = λ other q. (oldest, multi, offset, t, refl);
  subtrans = λ other q. absurd (omega (arith, q));
}

pub may_cut : (start : Start) (seen : List (List Entry)) (lock page : ℕ) (by : By) (e : Entry) → IsPageLock start lock → CutBy start seen lock page → e ≡ record { by = by; kind = kinds.Cut page } → IsInTurn start (at seen lock) by → MayKeep start seen lock e
may_cut start seen lock page by e pages cut is turn = subst (MayKeep start seen lock) (sym is) (λ lists k knows there whole. cut_law start seen lock by page pages cut lists k knows there whole turn)

-- and one in which the volume failed
pub may_fault_cut : (start : Start) (seen : List (List Entry)) (lock page count : ℕ) (by : By) (e : Entry) → IsPageLock start lock → CutBy start seen lock page → HasRisen (faults_told start lock (at seen lock)) count → e ≡ cut_fault_by by page count → IsInTurn start (at seen lock) by → MayKeep start seen lock e
may_fault_cut start seen lock page count by e pages cut risen is turn =
    subst (MayKeep start seen lock) (sym is) (λ lists k knows there whole.
    fault_law start seen lock by (by ∷ []) [] (Some page) count
    (record {
      on = record { bank = pages; pages = tt };
      marks = λ mark c. absurd (contains_has [] mark c);
      alike = λ mark other c. absurd (contains_has [] mark c);
      links = λ link c. absurd (contains_has [] link c);
      offsets = λ set c. absurd (contains_has [] set c);
      slots = λ slot c. absurd (contains_has [] slot c);
    })
    (record { own = has_contains (by ∷ []) by (inl refl); once = refl; each = tt })
    cut risen lists k knows there whole turn)
