-- A multixact that isn't recorded has no offset.
use Rattle.std.proofs.Common.{◌≡◌, ℕ, ◌+◌, ◌<◌, ◌≤◌, ⊎_elim, List, [], take, slice_index, Option, Some, None, Contains, refl, sym, ap, arith, ◌∙◌}
use Rattle.std.specs.List.{flat_map}
use Rattle.store_pages.specs.Layouts.{number_in, word_page_of, word_place_of}
use Rattle.disk_core.specs.Pages.{page_bytes}
use Rattle.tx_events.specs.declared.event.By.{By}
use Rattle.tx_events.proofs.Membership.{Has, all_at, contains_has, has_flat_map, has_place, has_take}
use Rattle.tx_core.proofs.Asking.{upheld_has}
use Rattle.tx_core.specs.declared.entry.Entry.{Entry}
use Rattle.tx_core.proofs.Nearness.{multis_are_legal}
use Rattle.tx_core.proofs.Rising.{made_more}
use Rattle.tx_core.specs.EngineInvariant.{EngineInvariant}
use Rattle.tx_events.specs.declared.event.By.{By}
use Rattle.tx_events.specs.declared.multi.Member.{Member}
use Rattle.tx_events.specs.declared.multi.MultiEvent.{MultiEvent}
use Rattle.tx_events.specs.declared.multi.MultiEvent.TheVariants as multis
use Rattle.tx_events.specs.Multis.{InBase, MultiMayCome, next_made}
use Rattle.tx_core.specs.declared.entry.Start.{Start}
use Rattle.notes.specs.Lists.{at}
use Rattle.tx_core.specs.Locks.{offsets_lock}
use Rattle.tx_core.specs.Pages.{pages_after}
use Rattle.tx_core.specs.MembersBeforeOffset.{NeedsOffsets, OffsetOf}
use Rattle.tx_core.specs.MultiEntries.{SetOffset, multi_history, offsets_in}
use Rattle.recoverable.specs.Images.{MayBeGone, shows_of}
use Rattle.recoverable.specs.OffsetImages.{offset_reading, offset_ring}
use Rattle.recoverable.specs.Bytes.{StoredBytes, byte_held}
use Rattle.recoverable.specs.Stored.{offset_bytes_for, stored_offsets}
use Rattle.recoverable.specs.Laws.{NoStrayOffset}
use Rattle.recoverable.proofs.Places.{Source, shows_from}
use Rattle.recoverable.proofs.BytesShow.{offset_at}

pub number_zero : (bytes : List ℕ) (place : ℕ) → ((i : ℕ) → i < 4 → slice_index bytes (place + i) ≡ 0) → number_in bytes place ≡ 0
number_zero bytes place each =
    let b0 : slice_index bytes place ≡ 0 = ap (λ k. slice_index bytes k) (let e : place ≡ place + 0 = omega arith in e) ∙ each 0 (omega arith) in
    let b1 = each 1 (omega arith) in let b2 = each 2 (omega arith) in let b3 = each 3 (omega arith) in
    rw (b0, b1, b2, b3) refl

-- a multixact that the life gave is not below its base's next one
pub given_from : (start : Start) (lists : List (List Entry)) (by : By) (multi offset : ℕ) (members : List Member) → EngineInvariant start lists → Contains (multi_history lists) (multis.Gen by multi offset members) → start.base.multi ≤ multi
given_from start lists by multi offset members k c =
    let h : List MultiEvent = multi_history lists in
    let event : MultiEvent = multis.Gen by multi offset members in
    let p = has_place h event (contains_has h event c) in
    let rule : MultiMayCome start.base (InBase start.base) (take p.0 h) (multis.Gen by multi offset members) = multis_are_legal start lists k p.0 event p.1 in
    let next = rule.next in
    let up : start.base.multi ≤ next_made start.base.multi (take p.0 h) = made_more start.base.multi [] (take p.0 h) (take p.0 h, refl) in
    omega arith

pub no_stray_offset : NoStrayOffset
no_stray_offset start lists shown bank multi c k clear old bytes =
    let es : List Entry = at lists (offsets_lock bank) in
    number_zero (page_bytes (c (word_page_of multi))) (word_place_of multi) (λ i lt.
    let since = bytes i lt in
    let never : (v : StoredBytes) → Source stored_offsets shown (take since.count (at lists (offsets_lock bank))) multi v → ⊥ = λ v source.
    ⊎_elim
    (λ (q : shown multi ≡ Some v). let z : None ≡ Some v = sym clear ∙ q in absurd cc)
    (λ (h : (set : SetOffset) × Has (flat_map offsets_in (take since.count (at lists (offsets_lock bank)))) set × (offset_bytes_for multi set ≡ Some v)).
    let found = has_flat_map offsets_in (take since.count (at lists (offsets_lock bank))) h.0 h.1 in
    let need = upheld_has (NeedsOffsets start) lists (offsets_lock bank) found.0 k.members.offsets (has_take since.count (at lists (offsets_lock bank)) found.0 found.1) in
    let o : OffsetOf start lists h.0 = all_at (OffsetOf start lists) (offsets_in found.0) h.0 need.1 found.2 in
    let same : h.0.multi ≡ multi = (offset_at multi v h.0 h.2).0 in
    let low : start.base.multi ≤ h.0.multi = given_from start lists o.recorded.by h.0.multi h.0.offset o.members k o.recorded.given in
    omega arith)
    source in
    let none : (o : Option StoredBytes) → (pages_after stored_offsets start.base.multi shown (take since.count (at lists (offsets_lock bank)))).shows multi ≡ o → byte_held o i ≡ 0 = elim [
      | None ↦ λ q. refl
      | Some v ↦ λ q. absurd (never v (shows_from stored_offsets start.base.multi shown multi v (take since.count (at lists (offsets_lock bank))) q))
    ] in
    let nothing : byte_held (shows_of (offset_reading start shown) (take since.count (at lists (offsets_lock bank))) multi) i ≡ 0 = none (shows_of (offset_reading start shown) (take since.count (at lists (offsets_lock bank))) multi) refl in
    ⊎_elim
    (λ (q : slice_index (page_bytes (c (word_page_of multi))) (word_place_of multi + i) ≡ byte_held (shows_of (offset_reading start shown) (take since.count (at lists (offsets_lock bank))) multi) i). q ∙ nothing)
    (λ (q : (slice_index (page_bytes (c (word_page_of multi))) (word_place_of multi + i) ≡ 0) × MayBeGone (offset_ring start) (at lists (offsets_lock bank)) (word_page_of multi)). q.0)
    since.shows)
