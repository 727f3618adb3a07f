-- What the published oldest id shows is at most one event behind.
use Rattle.std.proofs.Common.{List, None, Option, Some, [], append-nil, arith, inl, inr, length, refl, slice_get, subst, suc, sym, take, zero, ℕ, ⊎_elim, ◌++◌, ◌+◌, ◌-◌, ◌<◌, ◌∙◌, ◌∷◌, ◌≡◌, ◌≤◌, ◌⊎◌}
use Rattle.std.proofs.Math.Seq.{take-append_seam}
use Rattle.std.proofs.lemmas.List.Elements.{filter_map-append}
use Rattle.std.specs.List.{AllByRecursion, cons_option, filter_map}
use Rattle.tx_events.specs.declared.event.Event.{Event}
use Rattle.tx_events.proofs.ListSteps.{le_or_over}
use Rattle.tx_events.proofs.Membership.{Has, all_at, by_end, contains_has, has_cases, has_filter_map, has_place}
use Rattle.tx_events.proofs.PlaceLemmas.{last_at, slice_get-grows, take-grows}
use Rattle.tx_events.specs.Horizon.{oldest_id}
use Rattle.tx_events.specs.Ids.{IsXidNumber}
use Rattle.notes.proofs.Growing.{begins_length}
use Rattle.notes.specs.Lists.{at}
use Rattle.tx_core.proofs.Asking.{event_kind}
use Rattle.tx_core.proofs.Closed.{come_from}
use Rattle.tx_core.proofs.LastNumbers.{number_push, number_same}
use Rattle.tx_core.proofs.Lasting.{history_grows}
use Rattle.tx_core.proofs.Posting.{oldest_between, post_kind}
use Rattle.tx_core.specs.Consequences.{OldestShown}
use Rattle.tx_core.specs.EngineInvariant.{EngineInvariant}
use Rattle.tx_core.specs.Entries.{event_of, history, last_from}
use Rattle.tx_core.specs.Locks.{oldest_word, proc_lock}
use Rattle.tx_core.specs.PostsFollow.{IsFound, PostIn, WasShown, posted_in, posts}
use Rattle.tx_core.specs.declared.entry.Entry.{Entry}
use Rattle.tx_core.specs.declared.entry.Kind.{Kind}
use Rattle.tx_core.specs.declared.entry.Kind.TheVariants as kinds
use Rattle.tx_core.specs.declared.entry.Start.{Start}

-- what stands at a place within a list
get_within : {A : Type 0} (xs : List A) (p : ℕ) → p < length xs → (x : A) × (slice_get xs p ≡ Some x)
get_within [] p l = absurd (omega arith)
get_within (x ∷ xs) zero l = (x, refl)
get_within (x ∷ xs) (suc p) l = get_within xs p (omega arith)

-- the last of some numbers is the first one, or among them
pub last_among : (n : ℕ) (xs : List ℕ) → (last_from n xs ≡ n) ⊎ Has xs (last_from n xs)
last_among n [] = inl refl
last_among n (x ∷ xs) = inr (⊎_elim (λ e. inl (sym e)) inr (last_among x xs))

module _ (shown : List Event → ℕ) (lists : List (List Entry)) (first : ℕ) where
  -- the published numbers of these entries were found
  abbrev AreFound : List Entry → Type 0
  AreFound es = (p : ℕ) (e : Entry) (number : ℕ) → slice_get es p ≡ Some e → e.kind ≡ kinds.Post number → IsFound shown lists (take p es) number

  found_before : (es : List Entry) (e : Entry) → AreFound (es ++ e ∷ []) → AreFound es
  found_before es e found p f number here is =
      subst (λ (t : List Entry). IsFound shown lists t number) (take-grows es (e ∷ []) f p here) (found p f number (slice_get-grows es (e ∷ []) f p here) is)

  -- none of them is past the last
  upto_last : (es : List Entry) → AreFound es → (number : ℕ) → Has (posts es) number → number ≤ last_from first (posts es)
  upto_last = by_end (λ es. AreFound es → (number : ℕ) → Has (posts es) number → number ≤ last_from first (posts es))
      (λ found number k. absurd k)
      (λ es e before found number k.
      let split : posts (es ++ e ∷ []) ≡ posts es ++ cons_option (posted_in e.kind) [] = filter_map-append (λ (d : Entry). posted_in d.kind) es (e ∷ []) in
      let k2 : Has (posts es ++ cons_option (posted_in e.kind) []) number = subst (λ ns. Has ns number) split k in
      let step : (o : Option ℕ) → posted_in e.kind ≡ o → Has (posts es ++ cons_option o []) number → number ≤ last_from first (posts (es ++ e ∷ [])) = elim [
        | None ↦ λ q h.
            let same = number_same posted_in first es e q in
            let old = before (found_before es e found) number (subst (λ ns. Has ns number) (append-nil (posts es)) h) in omega arith
        | Some n ↦ λ q h.
            let last = number_push posted_in first es e n q in
            let f = found (length es) e n (last_at es e) (post_kind e.kind n q) in
            ⊎_elim
            (λ old. let le : number ≤ n = all_at (λ earlier. earlier ≤ n) (posts es) number (subst (λ (t : List Entry). AllByRecursion (λ earlier. earlier ≤ n) (posts t)) (take-append_seam es (e ∷ [])) f.rises) old in omega arith)
            (λ new. ⊎_elim (λ (is : n ≡ number). omega arith) (λ none. absurd none) new)
            (has_cases (posts es) (n ∷ []) number h)
      ] in
      step (posted_in e.kind) refl k2)

  -- the last is what was shown at a place
  last_place : first ≡ shown [] → (es : List Entry) → AreFound es → (q : ℕ) × (q ≤ length (history lists)) × (last_from first (posts es) ≡ shown (take q (history lists)))
  last_place begins es found =
      ⊎_elim
      (λ is. (0, omega arith, is ∙ begins))
      (λ k.
      let r = has_filter_map (λ (e : Entry). posted_in e.kind) es (last_from first (posts es)) k in
      let p = has_place es r.0 r.1 in
      let f = found p.0 r.0 (last_from first (posts es)) p.1 (post_kind r.0.kind (last_from first (posts es)) r.2) in
      (f.place, f.within, f.found))
      (last_among first (posts es))

-- the oldest id before an event was published
shown_before : (start : Start) (lists : List (List Entry)) (event : Event) (p : ℕ) → EngineInvariant start lists → slice_get (history lists) p ≡ Some event → WasShown start lists (oldest_id start.base.oldest (take p (history lists)))
shown_before start lists event p k stands =
    let r = come_from event_of event (at lists proc_lock) p stands in
    let need : PostIn start lists proc_lock (take r.0 (at lists proc_lock)) r.1.kind = k.posts.each.each proc_lock r.0 r.1 r.2 in
    subst (λ (before : List Event). WasShown start lists (oldest_id start.base.oldest before)) r.4 (subst (PostIn start lists proc_lock (take r.0 (at lists proc_lock))) (event_kind r.1.kind event r.3) need)

-- what is shown last is the first one, or a published one, so the number of an id
last_form : (start : Start) (lists : List (List Entry)) → EngineInvariant start lists → IsXidNumber start.base.oldest → IsXidNumber (last_from start.base.oldest (posts (at lists (oldest_word start))))
last_form start lists k first =
    let word : ℕ = oldest_word start in
    let es : List Entry = at lists word in
    ⊎_elim
    (λ is. subst IsXidNumber (sym is) first)
    (λ among.
    let r = has_filter_map (λ (e : Entry). posted_in e.kind) es (last_from start.base.oldest (posts es)) among in
    let p = has_place es r.0 r.1 in
    (subst (PostIn start lists word (take p.0 es)) (post_kind r.0.kind (last_from start.base.oldest (posts es)) r.2) (k.posts.each.each word p.0 r.0 p.1)).form refl)
    (last_among start.base.oldest (posts es))

pub oldest_shown : OldestShown
oldest_shown start seen lists k grows =
    let h : List Event = history lists in
    let base : ℕ = start.base.oldest in
    let word : ℕ = oldest_word start in
    let es : List Entry = at lists word in
    let w : ℕ = last_from base (posts es) in
    let found : AreFound (oldest_id base) lists base es = λ p e number here is. (subst (PostIn start lists word (take p es)) is (k.posts.each.each word p e here)).oldest refl in
    let q = last_place (oldest_id base) lists base refl es found in
    let is : w ≡ oldest_id base (take q.0 h) = q.2 in
    let long = begins_length (history seen) h (history_grows seen lists grows) in
    let first : base ≤ w = let up = oldest_between start.base h 0 q.0 k.events.legal (omega arith) in omega arith in
    ⊎_elim
    (λ (near : length (history seen) ≤ q.0 + 1). record { place = q.0; late = near; within = q.1; is = is; form = last_form start lists k })
    (λ (far : q.0 + 1 < length (history seen)).
    let p : ℕ = length (history seen) - 1 in
    let event = get_within h p (omega arith) in
    let shown = shown_before start lists event.0 p k event.1 in
    let upto : oldest_id base (take p h) ≤ w = ⊎_elim (λ (le : oldest_id base (take p h) ≤ base). omega arith) (λ n. let le = upto_last (oldest_id base) lists base es found n.0 (contains_has (posts es) n.0 n.1) in let below = n.2 in omega arith) shown in
    let up = oldest_between start.base h q.0 p k.events.legal (omega arith) in
    record { place = p; late = omega arith; within = omega arith; is = omega arith; form = last_form start lists k })
    (le_or_over (length (history seen)) (q.0 + 1))
