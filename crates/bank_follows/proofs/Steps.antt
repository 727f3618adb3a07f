-- What a number shows, and what a piece stands for, after one entry more.
use Rattle.std.proofs.Common.{Bool, Contains, List, None, Option, Some, [], ap, arith, cond, false, inl, inr, length, refl, subst, sym, take, true, suc, zero, ℕ, ⊎_elim, ◌++◌, ◌<◌, ◌==◌, ◌∙◌, ◌∷◌, ◌≡◌, ◌≤◌}
use Rattle.std.proofs.Math.Seq.{take-append_seam, take-length}
use Rattle.std.proofs.lemmas.List.{take-append-le}
use Rattle.std.proofs.lemmas.List.Sums.{fold_push}
use Rattle.std.specs.List.{filter_map, last_or, slice_get}
use Rattle.std.specs.Prelude.{nat_lt}
use Rattle.tx_events.specs.declared.event.By.{By}
use Rattle.tx_events.proofs.ListSteps.{le_or_over}
use Rattle.tx_events.proofs.Membership.{contains_has, has_contains, has_left, has_right}
use Rattle.tx_events.proofs.PlaceLemmas.{slice_get-push}
use Rattle.tx_core.specs.declared.entry.Entry.{Entry}
use Rattle.tx_core.specs.declared.entry.Kind.TheVariants as kinds
use Rattle.tx_core.specs.Entries.{cut_in}
use Rattle.tx_core.specs.Pages.{Pages, after_entry, pages_after, set_by, zeroed, zeroed_in}
use Rattle.recoverable.specs.Images.{IsKeptAt, MayBeGone, Now, PageRing, Reading, Since, shows_of}
use Rattle.recoverable.proofs.Stretches.{get_inside}

take_over : (xs : List Entry) (n : ℕ) → length xs ≤ n → take n xs ≡ xs
take_over [] zero le = refl
take_over [] (suc n) le = refl
take_over (x ∷ xs) zero le = absurd (omega arith)
take_over (x ∷ xs) (suc n) le = ap (λ (t : List Entry). x ∷ t) (take_over xs n (omega arith))

pub kept_more : (first : ℕ) (es : List Entry) (e : Entry) (page : ℕ) → IsKeptAt first es page → IsKeptAt first (es ++ e ∷ []) page
kept_more first es e page = ⊎_elim inl (λ (h : (f : Entry) × Contains es f × (cut_in f.kind ≡ Some page)). inr (h.0, has_contains (es ++ e ∷ []) h.0 (has_left es (e ∷ []) h.0 (contains_has es h.0 h.1)), h.2))

pub gone_more : (ring : PageRing) (es : List Entry) (e : Entry) (q : ℕ) → MayBeGone ring es q → MayBeGone ring (es ++ e ∷ []) q
gone_more ring es e q gone = (gone.0, kept_more ring.kept es e gone.0 gone.1, gone.2)

pub kept_by : (first : ℕ) (es : List Entry) (e : Entry) (page : ℕ) → cut_in e.kind ≡ Some page → IsKeptAt first (es ++ e ∷ []) page
kept_by first es e page cut = inr (e, has_contains (es ++ e ∷ []) e (has_right es (e ∷ []) e (inl refl)), cut)

module _ {I V : Type 0} where
  pub pages_push : (r : Reading I V) (es : List Entry) (e : Entry) → pages_after r.store r.first r.shown (es ++ e ∷ []) ≡ after_entry r.store (pages_after r.store r.first r.shown es) e
  pages_push r es e = fold_push (after_entry r.store) (record { last = r.store.page_of r.first; shows = r.shown }) es e

  -- an entry that makes no page
  pub shows_set : (r : Reading I V) (es : List Entry) (e : Entry) (x : ℕ) → zeroed_in e.kind ≡ None → shows_of r (es ++ e ∷ []) x ≡ last_or (shows_of r es x) (filter_map (r.store.value_for x) (r.store.items_of e))
  shows_set r es e x none =
      ap (λ (p : Pages V). p.shows x) (pages_push r es e)
      ∙ ap (λ (o : Option ℕ). (zeroed r.store o (set_by r.store (r.store.items_of e) (pages_after r.store r.first r.shown es))).shows x) none

  -- nor sets anything
  pub shows_same : (r : Reading I V) (es : List Entry) (e : Entry) (x : ℕ) → r.store.items_of e ≡ [] → zeroed_in e.kind ≡ None → shows_of r (es ++ e ∷ []) x ≡ shows_of r es x
  shows_same r es e x sets none = shows_set r es e x none ∙ ap (λ (t : List I). last_or (shows_of r es x) (filter_map (r.store.value_for x) t)) sets

  -- an entry that makes a page, past the last one or not
  pub shows_made : (r : Reading I V) (es : List Entry) (e : Entry) (x page : ℕ) → r.store.items_of e ≡ [] → zeroed_in e.kind ≡ Some page
      → shows_of r (es ++ e ∷ []) x ≡ cond (nat_lt (pages_after r.store r.first r.shown es).last page) (cond (r.store.page_of x == page) None (shows_of r es x)) (shows_of r es x)
  shows_made r es e x page sets made =
      let pages : Pages V = pages_after r.store r.first r.shown es in
      let step : (b : Bool) → (cond b (record { last = page; shows = λ id. cond (r.store.page_of id == page) None (shows_of r es id) }) (pages_after r.store r.first r.shown es)).shows x ≡ cond b (cond (r.store.page_of x == page) None (shows_of r es x)) (shows_of r es x) = elim [ true ↦ refl | false ↦ refl ] in
      ap (λ (p : Pages V). p.shows x) (pages_push r es e)
      ∙ ap (λ (o : Option ℕ). (zeroed r.store o (set_by r.store (r.store.items_of e) (pages_after r.store r.first r.shown es))).shows x) made
      ∙ ap (λ (t : List I). (zeroed r.store (Some page) (set_by r.store t (pages_after r.store r.first r.shown es))).shows x) sets
      ∙ step (nat_lt (pages_after r.store r.first r.shown es).last page)

  pub since_now : (r : Reading I V) (wanted : Option V → Option ℕ) (es : List Entry) (x q value : ℕ) → Now r wanted es es x q value → Since r wanted es x q value
  since_now r wanted es x q value now = record {
    count = length es;
    synced = λ p by at. get_inside es p (record { by = by; kind = kinds.Sync }) at;
    shows = subst (λ (t : List Entry). Now r wanted t es x q value) (sym (take-length es)) now;
  }

  pub now_gone : (r : Reading I V) (wanted : Option V → Option ℕ) (es all : List Entry) (e : Entry) (x q value : ℕ) → Now r wanted es all x q value → Now r wanted es (all ++ e ∷ []) x q value
  now_gone r wanted es all e x q value = ⊎_elim inl (λ (h : (value ≡ 0) × MayBeGone r.ring all q). inr (h.0, gone_more r.ring all e q h.1))

  pub since_more : (r : Reading I V) (wanted : Option V → Option ℕ) (es : List Entry) (e : Entry) (x q value : ℕ) → (e.kind ≡ kinds.Sync → ⊥) → Since r wanted es x q value → Since r wanted (es ++ e ∷ []) x q value
  since_more r wanted es e x q value other since =
      let all : List Entry = es ++ e ∷ [] in
      let earlier : (n : ℕ) → ((p : ℕ) (by : By) → slice_get es p ≡ Some (record { by = by; kind = kinds.Sync }) → p < n) → (p : ℕ) (by : By) → slice_get (es ++ e ∷ []) p ≡ Some (record { by = by; kind = kinds.Sync }) → p < n = λ n past p by at.
      ⊎_elim
      (λ (h : (p < length es) × (slice_get es p ≡ Some (record { by = by; kind = kinds.Sync }))). past p by h.1)
      (λ (h : (p ≡ length es) × (e ≡ record { by = by; kind = kinds.Sync })). absurd (other (ap (λ (f : Entry). f.kind) h.1)))
      (slice_get-push es e (record { by = by; kind = kinds.Sync }) p at) in
      let now : Now r wanted (take since.count es) (es ++ e ∷ []) x q value = now_gone r wanted (take since.count es) es e x q value since.shows in
      ⊎_elim
      (λ (le : since.count ≤ length es). record {
        count = since.count;
        synced = earlier since.count since.synced;
        shows = subst (λ (t : List Entry). Now r wanted t (es ++ e ∷ []) x q value) (sym (take-append-le since.count es (e ∷ []) le)) now;
      })
      (λ (over : length es < since.count). record {
        count = length es;
        synced = earlier (length es) (λ p by at. get_inside es p (record { by = by; kind = kinds.Sync }) at);
        shows = subst (λ (t : List Entry). Now r wanted t (es ++ e ∷ []) x q value) (take_over es since.count (omega arith) ∙ sym (take-append_seam es (e ∷ []))) now;
      })
      (le_or_over since.count (length es))
