-- The history of multixacts is legal, and pages that were made are near.
use Rattle.std.proofs.Common.{Contains, List, None, Option, Some, [], ap, append-nil, arith, cond, drop, false, inl, inr, length, length-append, refl, subst, suc, sym, take, take-append-drop, true, zero, ℕ, ⊎_elim, ◌++◌, ◌+◌, ◌*◌, ◌==◌, ◌∙◌, ◌∷◌, ◌≡◌, ◌≤◌, ◌⊎◌}
use Rattle.std.specs.Prelude.{nat_lt}
use Rattle.std.proofs.Math.Seq.{take-append_seam}
use Rattle.std.proofs.lemmas.List.Elements.{filter_map-append}
use Rattle.std.proofs.lemmas.List.Sums.{fold_push}
use Rattle.std.specs.List.{cons_option, slice_get}
use Rattle.tx_events.specs.Ids.{low_half, next_multi}
use Rattle.tx_events.specs.declared.event.By.{By}
use Rattle.tx_events.specs.declared.multi.MultiEvent.{MultiEvent}
use Rattle.tx_events.specs.declared.multi.MultiEvent.TheVariants as multis
use Rattle.tx_events.specs.declared.record.Counters.{Counters}
use Rattle.tx_events.proofs.IdOrder.{nth_upto}
use Rattle.tx_events.proofs.Membership.{Has, by_end, contains_has, has_contains, has_filter_map, has_left, has_right}
use Rattle.tx_events.proofs.PlaceLemmas.{by_place, each_place_none, each_place_push, each_place_start, last_at, slice_get-grows, take-grows}
use Rattle.tx_events.specs.Events.{given}
use Rattle.tx_events.specs.Multis.{AreLegalMultis, InBase, MultiMayCome, first_member, free_after, free_offset, made, made_by, multi_by, nth_multi}
use Rattle.tx_core.specs.declared.entry.Entry.{Entry}
use Rattle.tx_core.specs.declared.entry.Kind.TheVariants as kinds
use Rattle.tx_core.specs.declared.entry.Start.{Start}
use Rattle.tx_core.proofs.Asking.{if_some, upheld_has}
use Rattle.tx_core.proofs.PageShowing.{zero_kind}
use Rattle.tx_core.specs.EngineInvariant.{EngineInvariant}
use Rattle.tx_core.specs.Entries.{history}
use Rattle.tx_core.specs.Consequences.{MultisAreLegal, RaisesTold}
use Rattle.tx_core.specs.Nearness.{IsBankNear, IsNearPage, MadeNear}
use Rattle.notes.specs.Lists.{at}
use Rattle.tx_core.specs.Locks.{members_lock, multi_lock, offsets_lock, subtrans_lock, xact_lock}
use Rattle.tx_core.specs.MultiEntries.{multi_history, multi_of, multis_in}
use Rattle.tx_core.specs.MultisLegal.{NeedsMulti, ToldOf}
use Rattle.tx_core.specs.Pages.{Pages, Store, after_entry, member_store, offset_store, pages_after, set_by, subtrans_store, xact_store, zeroed, zeroed_in}
use Rattle.tx_core.specs.PagesBeforeIds.{IsOffsetOf, IsWanted, NeedsZero}

pub multis_are_legal : MultisAreLegal
multis_are_legal start lists k = legal (at lists multi_lock) (λ p e here. k.multis.each.each multi_lock p e here)
  where
    legal : (es : List Entry) → ((p : ℕ) (e : Entry) → slice_get es p ≡ Some e → NeedsMulti start lists multi_lock (take p es) e) → AreLegalMultis start.base (InBase start.base) (multis_in es)
    legal = by_end (λ es. ((p : ℕ) (e : Entry) → slice_get es p ≡ Some e → NeedsMulti start lists multi_lock (take p es) e) → AreLegalMultis start.base (InBase start.base) (multis_in es))
        (λ each. each_place_none (MultiMayCome start.base (InBase start.base)))
        (λ es e before each.
        let old : AreLegalMultis start.base (InBase start.base) (multis_in es) =
        before (λ p f g. subst (λ (t : List Entry). NeedsMulti start lists multi_lock t f) (take-grows es (e ∷ []) f p g) (each p f (slice_get-grows es (e ∷ []) f p g))) in
        let last : NeedsMulti start lists multi_lock es e = subst (λ (t : List Entry). NeedsMulti start lists multi_lock t e) (take-append_seam es (e ∷ [])) (each (length es) e (last_at es e)) in
        let step : (o : Option MultiEvent) → multi_of e ≡ o → AreLegalMultis start.base (InBase start.base) (multis_in es ++ cons_option o []) = elim [
          | None ↦ λ g. subst (AreLegalMultis start.base (InBase start.base)) (sym (append-nil (multis_in es))) old
          | Some event ↦ λ g. each_place_push (MultiMayCome start.base (InBase start.base)) (multis_in es) event old
              (if_some (multi_of e) (λ event. (multi_by event ≡ e.by) × MultiMayCome start.base (InBase start.base) (multis_in es) event × ToldOf start event) event last g).1
        ] in
        subst (AreLegalMultis start.base (InBase start.base)) (sym (filter_map-append multi_of es (e ∷ []))) (step (multi_of e) refl))

-- where the pages told, an announced multixact of the base has its offset
pub raises_told : RaisesTold
raises_told start lists by multi offset k told rec among c old =
    let found = has_filter_map multi_of (at lists multi_lock) (multis.Raise by multi offset) (contains_has (multi_history lists) (multis.Raise by multi offset) c) in
    let need = upheld_has (NeedsMulti start) lists multi_lock found.0 k.multis.each found.1 in
    let event : MultiEvent = multis.Raise by multi offset in
    (if_some (multi_of found.0) (λ event. (multi_by event ≡ found.0.by) × MultiMayCome start.base (InBase start.base) (multis_in need.0) event × ToldOf start event) event need.1 found.2).2 told rec among old

-- a page that was made was wanted
wanted : (start : Start) (lists : List (List Entry)) (lock page : ℕ) (by : By) → EngineInvariant start lists → Contains (at lists lock) (record { by = by; kind = kinds.Zero page }) → IsWanted start lists lock page
wanted start lists lock page by k c = (upheld_has (NeedsZero start) lists lock (record { by = by; kind = kinds.Zero page }) k.pages.made (contains_has (at lists lock) (record { by = by; kind = kinds.Zero page }) c)).1

-- how far numbers come
next_near : (n : ℕ) → next_multi n ≤ n + 2
next_near n = grind arith

multi_upto : (first n : ℕ) → nth_multi first n ≤ first + 2 * n
multi_upto first zero = omega arith
multi_upto first (suc n) = let a = multi_upto first n in let b = next_near (nth_multi first n) in omega arith

first_near : (free : ℕ) → first_member free ≤ free + 1
first_near free = elim (low_half free == 0) as (λ b. cond b (free + 1) free ≤ free + 1) [ true ↦ omega arith | false ↦ omega arith ]

made_push : (h : List MultiEvent) (e : MultiEvent) → length (made (h ++ e ∷ [])) ≡ length (made h) + length (cons_option (made_by e) [])
made_push h e = ap (λ (t : List ℕ). length t) (filter_map-append made_by h (e ∷ [])) ∙ length-append (made h) (cons_option (made_by e) [])

-- each multixact takes an offset and at most 64 more
free_step : (base : Counters) (h : List MultiEvent) (e : MultiEvent) → free_offset base.offset h ≤ base.offset + 65 * length (made h) → MultiMayCome base (InBase base) h e
    → free_after (free_offset base.offset h) e ≤ base.offset + 65 * (length (made h) + length (cons_option (made_by e) []))
free_step base h (multis.Gen by multi offset members) before rule =
    let is : offset ≡ first_member (free_offset base.offset h) = rule.first in
    let most : length members ≤ 64 = rule.fit.most in
    let near = first_near (free_offset base.offset h) in omega arith
free_step base h _ before rule = omega arith

pub free_upto : (base : Counters) (h : List MultiEvent) → AreLegalMultis base (InBase base) h → free_offset base.offset h ≤ base.offset + 65 * length (made h)
free_upto base = by_place (MultiMayCome base (InBase base)) (λ h. free_offset base.offset h ≤ base.offset + 65 * length (made h)) (omega arith)
    (λ h e before rule.
    let step = free_step base h e before rule in
    let free : free_offset base.offset (h ++ e ∷ []) ≡ free_after (free_offset base.offset h) e = fold_push free_after base.offset h e in
    let more = made_push h e in omega arith)

made_front : (h : List MultiEvent) (p : ℕ) → length (made (take p h)) ≤ length (made h)
made_front h p =
    let long : length (made h) ≡ length (made (take p h)) + length (made (drop p h))
    = ap (λ (t : List MultiEvent). length (made t)) (sym (take-append-drop p h)) ∙ ap (λ (t : List ℕ). length t) (filter_map-append made_by (take p h) (drop p h)) ∙ length-append (made (take p h)) (made (drop p h)) in omega arith

offset_upto : (start : Start) (lists : List (List Entry)) (offset : ℕ) → EngineInvariant start lists → IsOffsetOf start lists offset → offset ≤ start.base.offset + 65 * length (made (multi_history lists))
offset_upto start lists offset k is =
    let h = multi_history lists in
    let p = is.1 in
    let front : AreLegalMultis start.base (InBase start.base) (take p h)
    = each_place_start (MultiMayCome start.base (InBase start.base)) (take p h) (drop p h) (subst (AreLegalMultis start.base (InBase start.base)) (sym (take-append-drop p h)) (multis_are_legal start lists k)) in
    let a = free_upto start.base (take p h) front in let b = made_front h p in let c = is.3 in omega arith

module _ {I V : Type 0} where
  -- the last page is that of the first number, or one that an entry made
  last_cases : (s : Store I V) (pages : Pages V) (o : Option ℕ) → ((zeroed s o pages).last ≡ pages.last) ⊎ (o ≡ Some (zeroed s o pages).last)
  last_cases s pages None = inl refl
  last_cases s pages (Some page) =
      let made : Pages V = record { last = page; shows = λ id. cond (s.page_of id == page) None (pages.shows id) } in
      elim (nat_lt pages.last page) as (λ b. ((cond b made pages).last ≡ pages.last) ⊎ (Some page ≡ Some (cond b made pages).last)) [ true ↦ inr refl | false ↦ inl refl ]

  last_made : (s : Store I V) (first : ℕ) (shown : ℕ → Option V) (es : List Entry)
      → ((pages_after s first shown es).last ≡ s.page_of first) ⊎ ((by : By) × Has es (record { by = by; kind = kinds.Zero (pages_after s first shown es).last }))
  last_made s first shown = by_end (λ es. ((pages_after s first shown es).last ≡ s.page_of first) ⊎ ((by : By) × Has es (record { by = by; kind = kinds.Zero (pages_after s first shown es).last })))
      (inl refl)
      (λ es e before.
      let old : Pages V = pages_after s first shown es in
      let new : Pages V = pages_after s first shown (es ++ e ∷ []) in
      let push : new ≡ after_entry s old e = fold_push (after_entry s) (record { last = s.page_of first; shows = shown }) es e in
      subst (λ (p : Pages V). (p.last ≡ s.page_of first) ⊎ ((by : By) × Has (es ++ e ∷ []) (record { by = by; kind = kinds.Zero p.last }))) (sym push)
      (⊎_elim
      (λ (same : (after_entry s old e).last ≡ old.last).
      subst (λ last. (last ≡ s.page_of first) ⊎ ((by : By) × Has (es ++ e ∷ []) (record { by = by; kind = kinds.Zero last }))) (sym same)
      (⊎_elim inl (λ (m : (by : By) × Has es (record { by = by; kind = kinds.Zero old.last })). inr (m.0, has_left es (e ∷ []) (record { by = m.0; kind = kinds.Zero old.last }) m.1)) before))
      (λ (new : zeroed_in e.kind ≡ Some (after_entry s old e).last).
      inr (e.by, has_right es (e ∷ []) (record { by = e.by; kind = kinds.Zero (after_entry s old e).last }) (inl (λ i. record { by = e.by; kind = zero_kind e.kind (after_entry s old e).last new i }))))
      (last_cases s (set_by s (s.items_of e) old) (zeroed_in e.kind))))

  bank_near : (s : Store I V) (first : ℕ) (es : List Entry) → ((by : By) (page : ℕ) → Contains es (record { by = by; kind = kinds.Zero page }) → IsNearPage s.page_of first page) → IsBankNear s first es
  bank_near s first es near = record {
    last = λ shown. ⊎_elim
        (λ (q : (pages_after s first shown es).last ≡ s.page_of first). record { number = first; from = omega arith; to = omega arith; on = q })
        (λ (m : (by : By) × Has es (record { by = by; kind = kinds.Zero (pages_after s first shown es).last })). near m.0 (pages_after s first shown es).last (has_contains es (record { by = m.0; kind = kinds.Zero (pages_after s first shown es).last }) m.1))
        (last_made s first shown es);
    made = near;
  }

pub made_near : MadeNear
made_near start lists bank k =
    let ids = nth_upto start.base.next (length (given (history lists))) in
    let multis = multi_upto start.base.multi (length (made (multi_history lists))) in
    record {
      xact = λ few. bank_near xact_store start.base.next (at lists (xact_lock bank)) (λ by page c.
          let w = (wanted start lists (xact_lock bank) page by k c).xact bank refl in
          record { number = w.0; from = w.2.0; to = let le = w.2.1 in omega arith; on = sym w.1 });
      subtrans = λ few. bank_near subtrans_store start.base.next (at lists (subtrans_lock bank)) (λ by page c.
          let w = (wanted start lists (subtrans_lock bank) page by k c).subtrans bank refl in
          record { number = w.0; from = w.2.0; to = let le = w.2.1 in omega arith; on = sym w.1 });
      offsets = λ few. bank_near offset_store start.base.multi (at lists (offsets_lock bank)) (λ by page c.
          let w = (wanted start lists (offsets_lock bank) page by k c).offsets bank refl in
          record { number = w.0; from = w.2.0; to = let le = w.2.1 in omega arith; on = sym w.1 });
      members = λ few. bank_near member_store start.base.offset (at lists (members_lock bank)) (λ by page c.
          let w = (wanted start lists (members_lock bank) page by k c).members bank refl in
          record { number = w.0; from = w.2.0; to = let le = offset_upto start lists w.0 k w.2 in omega arith; on = sym w.1 });
    }
