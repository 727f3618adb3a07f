-- The ends along the history.
use Rattle.std.proofs.Common.{◌≡◌, ◌↔◌, ℕ, zero, suc, ◌+◌, ◌<◌, ◌≤◌, List, [], ◌∷◌, ◌++◌, Option, Some, None, Bool, true, false, cond, ◌==◌, ◌||◌, length, drop, take, is_some, append-nil, length-append, refl, ap, sym, subst, ◌∙◌, ⊎_elim, eqb-true, arith, Contains, IsTrue}
use Rattle.std.proofs.Math.Seq.{take-append_seam}
use Rattle.std.proofs.lemmas.Bool.{cases_Bool, cases_lt, false≢true}
use Rattle.std.proofs.lemmas.List.{drop_at, take-append-le}
use Rattle.std.proofs.lemmas.Slice.{between_is, between_to_end}
use Rattle.std.specs.List.{between, slice_get, list_any}
use Rattle.tx_events.specs.declared.event.By.{By}
use Rattle.tx_events.specs.declared.event.Event.{Event}
use Rattle.tx_events.specs.declared.event.Event.TheVariants as events
use Rattle.tx_events.specs.declared.record.Counters.{Counters}
use Rattle.tx_events.specs.declared.xact_end.XactEnd.{XactEnd}
use Rattle.tx_events.specs.declared.xact_end.XactEnd.TheVariants as ends
use Rattle.tx_events.specs.Events.{given_to, is_end_of}
use Rattle.tx_events.specs.Families.{is_top, top}
use Rattle.tx_events.specs.History.{IsLegal, MayCome}
use Rattle.tx_events.specs.Running.{is_ended, is_open, open_ids}
use Rattle.tx_events.specs.XactEnds.{end_event}
use Rattle.tx_events.proofs.Closing.{open_is}
use Rattle.tx_events.proofs.ListSteps.{eqb-refl}
use Rattle.tx_events.proofs.Membership.{contains_has, has_filter}
use Rattle.tx_events.proofs.PlaceLemmas.{last_at, slice_get-grows, slice_get-push, take-grows}
use Rattle.report_law.specs.Records.{IsEndedAs}
use Rattle.near_map.specs.Near.{value_of}
use Rattle.record_rules.specs.declared.ends.Ended.{Ended}
use Rattle.record_rules.specs.declared.ends.Ends.{Ends}
use Rattle.record_rules.specs.Ends.{AreEnds, IsEndAt, is_end}

-- the top that an event ends
abbrev end_top : Event → ℕ
end_top (events.Commit by t) = t
end_top (events.Abort by t) = t
end_top e = 0

end_top_of : (how : XactEnd) (by : By) (t : ℕ) → end_top (end_event how by t) ≡ t
end_top_of ends.Commit by t = refl
end_top_of ends.Abort by t = refl

-- a part of the front of a list
between_front : (xs ys : List ℕ) (i j : ℕ) → j ≤ length xs → between i j (xs ++ ys) ≡ between i j xs
between_front xs ys i j l = between_is (xs ++ ys) i j ∙ ap (λ (t : List ℕ). drop i t) (take-append-le j xs ys l) ∙ sym (between_is xs i j)

-- what stands behind it
between_back : (xs more : List ℕ) (i j : ℕ) (ys : List ℕ) → ys ≡ xs ++ more → i ≡ length xs → j ≡ length ys → between i j ys ≡ more
between_back xs more i j ys is from end = between_to_end ys i j (omega arith) ∙ ap (λ (t : List ℕ). drop i t) is ∙ drop_at xs more i (sym from)

ended_at : (h : List Event) (ids more : List ℕ) (x : Event) (t : ℕ) (e : Ended) → IsEndAt h ids t e → IsEndAt (h ++ x ∷ []) (ids ++ more) t e
ended_at h ids more x t e a = record {
  place = a.place;
  by = a.by;
  stands = slice_get-grows h (x ∷ []) (end_event e.how a.by t) a.place a.stands;
  order = a.order;
  within = let w = a.within in omega (arith, length-append ids more);
  opened = ap (open_ids a.by.session) (take-grows h (x ∷ []) (end_event e.how a.by t) a.place a.stands) ∙ a.opened ∙ sym (between_front ids more e.from e.end a.within);
}

-- what is kept now of a top, where the last one put is t's
put_same : (t q : ℕ) (e d : Ended) (m n : ℕ → Option Ended) → ((k : ℕ) → n k ≡ cond (t == k) (Some e) (m k)) → (t == q) ≡ true → n q ≡ Some d → e ≡ d
put_same t q e d m n now same f = let there : Some e ≡ Some d = sym (ap (λ b. cond b (Some e) (m q)) same) ∙ sym (now q) ∙ f in cc

pub end_kept : (h : List Event) (how : XactEnd) (by : By) (t : ℕ) (e : Ended) (m n : Ends) (more : List ℕ) → AreEnds h m → e.how ≡ how → n.ids.items ≡ m.ids.items ++ more → e.from ≡ length m.ids.items → e.end ≡ length n.ids.items → open_ids by.session h ≡ more
    → ((q : ℕ) → value_of n.by_top q ≡ cond (t == q) (Some e) (value_of m.by_top q)) → AreEnds (h ++ end_event how by t ∷ []) n
end_kept h how by t e m n more a how_is grown from_is end_is opened now =
    let size : length n.ids.items ≡ length m.ids.items + length more = ap (λ (l : List ℕ). length l) grown ∙ length-append m.ids.items more in
    record {
      each = λ q d f. ⊎_elim
          (λ (same : (t == q) ≡ true).
          let key : t ≡ q = eqb-true t q same in
          let is : e ≡ d = put_same t q e d (value_of m.by_top) (value_of n.by_top) now same f in
          subst (IsEndAt (h ++ end_event how by t ∷ []) n.ids.items q) is (record {
            place = length h;
            by = by;
            stands = last_at h (end_event how by t) ∙ ap (λ (w : XactEnd). Some (end_event w by t)) (sym how_is) ∙ ap (λ k. Some (end_event e.how by k)) key;
            order = omega arith;
            within = omega arith;
            opened = ap (open_ids by.session) (take-append_seam h (end_event how by t ∷ [])) ∙ opened ∙ sym (between_back m.ids.items more e.from e.end n.ids.items grown from_is end_is);
          }))
          (λ (other : (t == q) ≡ false).
          subst (λ (l : List ℕ). IsEndAt (h ++ end_event how by t ∷ []) l q d) (sym grown)
          (ended_at h m.ids.items more (end_event how by t) q d (a.each q d (sym (now q ∙ ap (λ b. cond b (Some e) (value_of m.by_top q)) other) ∙ f))))
          (cases_Bool (t == q));
      all = λ place q w b s. ⊎_elim
          (λ (same : (t == q) ≡ true). ap is_some (now q ∙ ap (λ c. cond c (Some e) (value_of m.by_top q)) same))
          (λ (other : (t == q) ≡ false).
          ap is_some (now q ∙ ap (λ c. cond c (Some e) (value_of m.by_top q)) other)
          ∙ ⊎_elim
          (λ (old : (place < length h) × (slice_get h place ≡ Some (end_event w b q))). a.all place q w b old.1)
          (λ (new : (place ≡ length h) × (end_event how by t ≡ end_event w b q)).
          absurd (false≢true (sym other ∙ ap (λ k. k == q) (sym (end_top_of how by t) ∙ ap end_top new.1 ∙ end_top_of w b q) ∙ eqb-refl q)))
          (slice_get-push h (end_event how by t) (end_event w b q) place s))
          (cases_Bool (t == q));
    }

is_end_event : (how : XactEnd) (by : By) (t : ℕ) → is_end (end_event how by t) ≡ true
is_end_event ends.Commit by t = refl
is_end_event ends.Abort by t = refl

-- another event ends nothing
pub no_end_kept : (h : List Event) (x : Event) (m : Ends) → is_end x ≡ false → AreEnds h m → AreEnds (h ++ x ∷ []) m
no_end_kept h x m none a = record {
  each = λ q d f. subst (λ (l : List ℕ). IsEndAt (h ++ x ∷ []) l q d) (append-nil m.ids.items) (ended_at h m.ids.items [] x q d (a.each q d f));
  all = λ place q w b s. ⊎_elim
      (λ (old : (place < length h) × (slice_get h place ≡ Some (end_event w b q))). a.all place q w b old.1)
      (λ (new : (place ≡ length h) × (x ≡ end_event w b q)). absurd (false≢true (sym none ∙ ap is_end new.1 ∙ is_end_event w b q)))
      (slice_get-push h x (end_event w b q) place s);
}

pub no_ends : (m : Ends) → ((q : ℕ) → value_of m.by_top q ≡ None) → AreEnds [] m
no_ends m none = record {
  each = λ q d f. let z : None ≡ Some d = sym (none q) ∙ f in absurd cc;
  all = λ place q w b s. absurd cc;
}

-- ---- a top ends once

ends_it : (how : XactEnd) (by : By) (t : ℕ) → is_end_of t (end_event how by t) ≡ true
ends_it ends.Commit by t = eqb-refl t
ends_it ends.Abort by t = eqb-refl t

any_at : (t : ℕ) (h : List Event) (place : ℕ) (x : Event) → slice_get h place ≡ Some x → is_end_of t x ≡ true → list_any (is_end_of t) h ≡ true
any_at t [] place x s e = absurd cc
any_at t (y ∷ h) zero x s e = let same : y ≡ x = cc in let yes : is_end_of t y ≡ true = ap (is_end_of t) same ∙ e in rw yes refl
any_at t (y ∷ h) (suc place) x s e = step (is_end_of t y) (any_at t h place x s e)
  where
    step : (b : Bool) → list_any (is_end_of t) h ≡ true → (b || list_any (is_end_of t) h) ≡ true
    step true f = refl
    step false f = f

earlier_at : (h : List Event) (p q : ℕ) (x : Event) → slice_get h q ≡ Some x → q < p → slice_get (take p h) q ≡ Some x
earlier_at [] p q x s l = absurd cc
earlier_at (y ∷ h) zero q x s l = absurd (omega arith)
earlier_at (y ∷ h) (suc p) zero x s l = s
earlier_at (y ∷ h) (suc p) (suc q) x s l = earlier_at h p q x s (omega arith)

ends_open : (base : Counters) (h : List Event) (how : XactEnd) (by : By) (t : ℕ) → MayCome base h (end_event how by t) → Contains (open_ids by.session h) t × (is_top h t ≡ true)
ends_open base h ends.Commit by t may = may
ends_open base h ends.Abort by t may = may

-- no end stands before another of the same top
not_before : (base : Counters) (h : List Event) (p q t : ℕ) (how w : XactEnd) (by b : By) → IsLegal base h → slice_get h p ≡ Some (end_event how by t) → slice_get h q ≡ Some (end_event w b t) → q < p → ⊥
not_before base h p q t how w by b legal s r l =
    let may = ends_open base (take p h) how by t (legal.rules p (end_event how by t) s) in
    let opened : is_open (take p h) t ≡ true = (has_filter (is_open (take p h)) (given_to by.session (take p h)) t (contains_has (open_ids by.session (take p h)) t may.0)).1 in
    let never : is_ended (take p h) t ≡ false = (open_is (take p h) t opened).0 in
    let root : top (take p h) t ≡ t = eqb-true (top (take p h) t) t may.1 in
    let ended : is_ended (take p h) t ≡ true = ap (λ k. list_any (is_end_of k) (take p h)) root ∙ any_at t (take p h) q (end_event w b t) (earlier_at h p q (end_event w b t) r l) (ends_it w b t) in
    false≢true (sym never ∙ ended)

one_end : (base : Counters) (h : List Event) (p q t : ℕ) (how w : XactEnd) (by b : By) → IsLegal base h → slice_get h p ≡ Some (end_event how by t) → slice_get h q ≡ Some (end_event w b t) → p ≡ q
one_end base h p q t how w by b legal s r =
    ⊎_elim
    (λ (l : q < p). absurd (not_before base h p q t how w by b legal s r l))
    (λ (l : p ≤ q). ⊎_elim (λ (m : p < q). absurd (not_before base h q p t w how b by legal r s m)) (λ (m : q ≤ p). omega arith) (cases_lt p q))
    (cases_lt q p)

same_end : (how w : XactEnd) (by b : By) (t : ℕ) → end_event how by t ≡ end_event w b t → (how ≡ w) × (by ≡ b)
same_end ends.Commit ends.Commit by b t e = (refl, cc)
same_end ends.Commit ends.Abort by b t e = absurd cc
same_end ends.Abort ends.Commit by b t e = absurd cc
same_end ends.Abort ends.Abort by b t e = (refl, cc)

-- what is kept of the top answers
pub ended_iff : (base : Counters) (h : List Event) (m : Ends) (how : XactEnd) (t : ℕ) (subs : List ℕ) (e : Ended) (b : Bool) → IsLegal base h → AreEnds h m → value_of m.by_top t ≡ Some e
    → IsTrue b ↔ ((e.how ≡ how) × (between e.from e.end m.ids.items ≡ t ∷ subs)) → IsTrue b ↔ IsEndedAs h how t subs
ended_iff base h m how t subs e b legal a found iff =
    let at = a.each t e found in (
      λ yes.
          let i = iff.0 yes in
          record { place = at.place; by = at.by; stands = at.stands ∙ ap (λ (w : XactEnd). Some (end_event w at.by t)) i.0; ids = at.opened ∙ i.1 },
      λ ended.
          let same : at.place ≡ ended.place = one_end base h at.place ended.place t e.how how at.by ended.by legal at.stands ended.stands in
          let both : Some (end_event e.how at.by t) ≡ Some (end_event how ended.by t) = sym at.stands ∙ ap (slice_get h) same ∙ ended.stands in
          let event : end_event e.how at.by t ≡ end_event how ended.by t = cc in
          let parts = same_end e.how how at.by ended.by t event in
          iff.1 (parts.0, sym at.opened ∙ ap (λ k. open_ids at.by.session (take k h)) same ∙ ap (λ (c : By). open_ids c.session (take ended.place h)) parts.1 ∙ ended.ids),
    )

pub never_ended : (h : List Event) (m : Ends) (how : XactEnd) (t : ℕ) (subs : List ℕ) → AreEnds h m → value_of m.by_top t ≡ None → IsEndedAs h how t subs → ⊥
never_ended h m how t subs a none ended = let z : is_some (value_of m.by_top t) ≡ true = a.all ended.place t how ended.by ended.stands in let y : false ≡ true = sym (ap is_some none) ∙ z in false≢true y
