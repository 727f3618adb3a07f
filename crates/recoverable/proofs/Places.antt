-- What the place of an id shows after the first entries of its bank's list.
use Rattle.std.proofs.Common.{◌≡◌, ℕ, ◌+◌, ◌^◌, ◌<◌, ◌⊎◌, inl, inr, ⊎_elim, Bool, true, false, ◌==◌, cond, List, [], ◌∷◌, ◌++◌, take, Option, Some, None, refl, sym, ap, subst, append-nil, ◌∙◌}
use Rattle.std.proofs.lemmas.Grind.{flat_map-append}
use Rattle.std.proofs.lemmas.List.Sums.{fold_push}
use Rattle.std.specs.List.{filter_map, flat_map, last_or}
use Rattle.std.specs.Prelude.{nat_lt}
use Rattle.tx_events.proofs.Membership.{Has, by_end, has_filter_map, has_flat_map, has_left, has_right, has_take}
use Rattle.tx_events.specs.Events.{given}
use Rattle.tx_core.specs.declared.entry.Entry.{Entry}
use Rattle.tx_core.specs.declared.entry.Start.{Start}
use Rattle.tx_core.specs.declared.entry.State.{State}
use Rattle.tx_core.specs.declared.entry.State.TheVariants as states
use Rattle.tx_events.specs.declared.event.By.{By}
use Rattle.tx_core.proofs.Reading.{committed_last, last_has, marked_given, state_from}
use Rattle.tx_core.proofs.Taking.{get_of_take, taken_twice}
use Rattle.tx_core.specs.AbortRule.{NeedsSame}
use Rattle.tx_core.specs.CleanStart.{CleanStart}
use Rattle.tx_core.specs.EngineInvariant.{EngineInvariant}
use Rattle.tx_core.specs.Entries.{Mark, marks, marks_in, history}
use Rattle.notes.specs.Lists.{at}
use Rattle.tx_core.specs.Pages.{Pages, Store, after_entry, pages_after, set_by, xact_store, zeroed, zeroed_in}
use Rattle.tx_core.specs.Verdict.{state_for}
use Rattle.tx_core.proofs.PageShowing.{pages_show}

-- a state that a place shows was there at the start, or an entry set it
module _ {I V : Type 0} where
  abbrev pub Source : Store I V → (ℕ → Option V) → List Entry → ℕ → V → Type 0
  Source s shown es x v = (shown x ≡ Some v) ⊎ ((i : I) × Has (flat_map s.items_of es) i × (s.value_for x i ≡ Some v))

  from_zeroed : (s : Store I V) (o : Option ℕ) (pages : Pages V) (x : ℕ) (v : V) → (zeroed s o pages).shows x ≡ Some v → pages.shows x ≡ Some v
  from_zeroed s None pages x v e = e
  from_zeroed s (Some page) pages x v e =
      let inner : (b : Bool) → cond b None (pages.shows x) ≡ Some v → pages.shows x ≡ Some v = elim [ true ↦ λ q. absurd cc | false ↦ λ q. q ] in
      let step : (b : Bool) → (cond b (record { last = page; shows = λ id. cond (s.page_of id == page) None (pages.shows id) }) pages).shows x ≡ Some v → pages.shows x ≡ Some v = elim [
        | true ↦ λ q. inner (s.page_of x == page) q
        | false ↦ λ q. q
      ] in
      step (nat_lt pages.last page) e

  pub shows_from : (s : Store I V) (first : ℕ) (shown : ℕ → Option V) (x : ℕ) (v : V) (es : List Entry) → (pages_after s first shown es).shows x ≡ Some v → Source s shown es x v
  shows_from s first shown x v = by_end (λ es. (pages_after s first shown es).shows x ≡ Some v → Source s shown es x v)
      (λ e. inl e)
      (λ es e before g.
      let pages = pages_after s first shown es in
      let split : flat_map s.items_of (es ++ e ∷ []) ≡ flat_map s.items_of es ++ s.items_of e = flat_map-append s.items_of es (e ∷ []) ∙ ap (λ (t : List I). flat_map s.items_of es ++ t) (append-nil (s.items_of e)) in
      let whole : (after_entry s pages e).shows x ≡ Some v = subst (λ (z : Pages V). z.shows x ≡ Some v) (fold_push (after_entry s) (record { last = s.page_of first; shows = shown }) es e) g in
      let set : last_or (pages.shows x) (filter_map (s.value_for x) (s.items_of e)) ≡ Some v = from_zeroed s (zeroed_in e.kind) (set_by s (s.items_of e) pages) x v whole in
      ⊎_elim
      (λ (q : pages.shows x ≡ Some v).
      ⊎_elim inl
      (λ (r : (i : I) × Has (flat_map s.items_of es) i × (s.value_for x i ≡ Some v)). inr (r.0, subst (λ (t : List I). Has t r.0) (sym split) (has_left (flat_map s.items_of es) (s.items_of e) r.0 r.1), r.2))
      (before q))
      (λ (j : Has (filter_map (s.value_for x) (s.items_of e)) v).
      let r = has_filter_map (s.value_for x) (s.items_of e) v j in
      inr (r.0, subst (λ (t : List I). Has t r.0) (sym split) (has_right (flat_map s.items_of es) (s.items_of e) r.0 r.1), r.2))
      (last_has (pages.shows x) (filter_map (s.value_for x) (s.items_of e)) v set))

-- what is shown after the first n entries, of an id up to 2^30 past the next one
abbrev pub shows_after : Start → (ℕ → Option State) → List Entry → ℕ → ℕ → Option State
shows_after start shown es n x = (pages_after xact_store start.base.next shown (take n es)).shows x

pub shows_last : (start : Start) (lists : List (List Entry)) (shown : ℕ → Option State) (lock n x : ℕ) → EngineInvariant start lists → CleanStart start shown → x < start.base.next + 2 ^ 30
    → shows_after start shown (at lists lock) n x ≡ last_or (shown x) (filter_map (state_for x) (marks (take n (at lists lock))))
shows_last start lists shown lock n x k is near = pages_show start lists shown lock n x k is near

-- an id that wasn't given shows what the start shows
pub shows_start : (start : Start) (lists : List (List Entry)) (shown : ℕ → Option State) (lock n x : ℕ) → EngineInvariant start lists → CleanStart start shown → x < start.base.next + 2 ^ 30
    → (Has (given (history lists)) x → ⊥) → shows_after start shown (at lists lock) n x ≡ shown x
shows_start start lists shown lock n x k is near never =
    let ms : List Mark = marks (take n (at lists lock)) in
    let none : (values : List State) → ((s : State) → Has values s → ⊥) → last_or (shown x) values ≡ shown x = elim [ [] ↦ λ no. refl | ◌∷◌ s rest ↦ λ no. absurd (no s (inl refl)) ] in
    shows_last start lists shown lock n x k is near
    ∙ none (filter_map (state_for x) ms) (λ s j.
    let r = has_filter_map (state_for x) ms s j in let t = state_from x r.0 s r.2 in
    let found = has_flat_map marks_in (take n (at lists lock)) r.0 r.1 in
    let all : Has (marks (at lists lock)) r.0 = marks_more (at lists lock) n r.0 found.0 found.1 found.2 in
    never (subst (λ z. Has (given (history lists)) z) t.0 (marked_given start lists r.0 lock k all)))
  where
    marks_more : (es : List Entry) (n : ℕ) (mark : Mark) (e : Entry) → Has (take n es) e → Has (marks_in e) mark → Has (marks es) mark
    marks_more es n mark e h k = flat_has es e mark (has_take n es e h) k
      where
        flat_has : (es : List Entry) (e : Entry) (mark : Mark) → Has es e → Has (marks_in e) mark → Has (marks es) mark
        flat_has [] e mark h k = absurd h
        flat_has (f ∷ es) e mark h k = ⊎_elim (λ (q : f ≡ e). has_left (marks_in f) (marks es) mark (subst (λ z. Has (marks_in z) mark) (sym q) k)) (λ t. has_right (marks_in f) (marks es) mark (flat_has es e mark t k)) h

-- an id that was set committed among the first n entries shows committed
pub shows_committed : (start : Start) (lists : List (List Entry)) (shown : ℕ → Option State) (lock n x : ℕ) (by : By) → EngineInvariant start lists → CleanStart start shown → x < start.base.next + 2 ^ 30
    → Has (marks (take n (at lists lock))) (record { caller = by; id = x; state = states.Committed }) → shows_after start shown (at lists lock) n x ≡ Some states.Committed
shows_committed start lists shown lock n x by k is near h =
    shows_last start lists shown lock n x k is near
    ∙ committed_last (shown x) x by (take n (at lists lock)) (λ p e g.
    let f = k.aborts.final.each lock p e (get_of_take n p (at lists lock) e g) in
    let same : take p (take n (at lists lock)) ≡ take p (at lists lock) = taken_twice n p (at lists lock) e g in
    subst (λ (t : List Entry). NeedsSame [] 0 t e) (sym same) (record { later = f.later; alike = f.alike })) h
