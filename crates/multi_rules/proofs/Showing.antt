-- What a stored half means to the snapshots of a command, and which of them decide what they show.
use Rattle.std.proofs.Common.{◌≡◌, ℕ, ◌+◌, ◌-◌, ◌%◌, ◌^◌, ◌<◌, ◌≤◌, ◌⊎◌, Bool, true, false, cond, nat_lt, List, [], ◌∷◌, Option, Some, None, IfSome, length, take, refl, ap, sym, subst, ◌∙◌, arith, inl, inr, ⊎_elim}
use Rattle.std.specs.List.{slice_get}
use Rattle.std.proofs.lemmas.Bool.{cases_Bool, cases_lt, false≢true}
use Rattle.std.proofs.lemmas.Option.{slice_get_within}
use Rattle.tx_events.specs.declared.event.By.{By}
use Rattle.tx_events.specs.declared.event.Event.{Event}
use Rattle.tx_events.specs.declared.record.Counters.{Counters}
use Rattle.tx_events.specs.History.{IsLegal}
use Rattle.tx_events.specs.Ids.{low_half}
use Rattle.tx_events.specs.Nearest.{near_id}
use Rattle.tx_events.specs.Snapshots.{snapshot_xmax}
use Rattle.tx_events.specs.Visible.{is_visible}
use Rattle.tx_events.proofs.Nearness.{near_again, near_is}
use Rattle.tx_model.specs.Replies.{RoundSpan, seen_id, taken_by}
use Rattle.history_places.proofs.Stays.{hidden_before}
use Rattle.report_law.specs.MultiLines.{MayCarry}
use Rattle.report_law.specs.Steps.{IsSeen, IsTooOldFor}
use Rattle.multi_rules.specs.declared.taken.Taken.{Taken}
use Rattle.multi_rules.specs.Shown.{MeanTheSame}
use Rattle.multi_rules.specs.Snapped.{AreTaken, NeverFall}
use Rattle.multi_rules.proofs.Nearness.{none_again, none_is}

-- ---- what it means

-- between two numbers near which it means the same it means that too
near_between : (f g k x : ℕ) → x < 2 ^ 32 → f ≤ g → g ≤ k → near_id f x ≡ near_id k x → near_id f x ≡ near_id g x
near_between f g k x small l m same = one (near_id f x) refl (sym same)
  where
    one : (o : Option ℕ) → near_id f x ≡ o → near_id k x ≡ near_id f x → near_id f x ≡ near_id g x
    one None is end =
        let far = none_is k x small (end ∙ is) in
        is ∙ sym (none_again g x small (omega arith))
    one (Some y) is end =
        let a = near_is f x y is in
        let b = near_is k x y (end ∙ is) in
        let c = a.2 in let d = b.1 in
        is ∙ sym (near_again g x y a.0 (omega arith) (omega arith))

pub means_between : (f g k x : ℕ) → x < 2 ^ 32 → f ≤ g → g ≤ k → seen_id f x ≡ seen_id k x → seen_id f x ≡ seen_id g x
means_between f g k x small l m same = one (nat_lt x 3) same
  where
    one : (b : Bool) → cond b (Some x) (near_id f x) ≡ cond b (Some x) (near_id k x) → cond b (Some x) (near_id f x) ≡ cond b (Some x) (near_id g x)
    one true e = refl
    one false e = near_between f g k x small l m e

above_wrap : (f g x y z : ℕ) → f ≤ g → y % 2 ^ 32 ≡ x % 2 ^ 32 → y < f + 2 ^ 31 → z % 2 ^ 32 ≡ x % 2 ^ 32 → g ≤ z + 2 ^ 31 → y ≤ z
above_wrap f g x y z l a b c d = omega arith

-- what is older near a number is older near each smaller one
pub older_before : (f g x oldest : ℕ) → x < 2 ^ 32 → f ≤ g → IfSome (near_id g x) (λ id. id < oldest) → IfSome (near_id f x) (λ id. id < oldest)
older_before f g x oldest small l older = one (near_id f x) (near_id g x) refl refl older
  where
    one : (o p : Option ℕ) → near_id f x ≡ o → near_id g x ≡ p → IfSome p (λ id. id < oldest) → IfSome o (λ id. id < oldest)
    one None p is at s = tt
    one (Some y) None is at s =
        let far = none_is g x small at in
        let none = none_again f x small (omega arith) in
        absurd (let both : Some y ≡ None = sym is ∙ none in cc)
    one (Some y) (Some z) is at s =
        let a = near_is f x y is in
        let b = near_is g x z at in
        let up = above_wrap f g x y z l a.0 a.2 b.0 b.1 in
        omega arith

-- ---- what they show

module _ (base : Counters) (ids : List ℕ) (h : List Event) (taken : List Taken) (x : ℕ) (visible : Bool) where
  abbrev pub Shows : Taken → Type 0
  Shows t = (id : ℕ) × (seen_id t.xmax x ≡ Some id) × (visible ≡ is_visible ids (take t.place h) id)

  abbrev pub NoneShow : ℕ → Type 0
  NoneShow n = (i : ℕ) (t : Taken) → i < n → slice_get taken i ≡ Some t → Shows t → ⊥

  -- of those to which it means the same the first or the last one shows what any shows
  first_or_last : (by : By) (from end i : ℕ) (s t u : Taken) → IsLegal base h → AreTaken base.next h by taken → MeanTheSame taken x from end → from ≤ i → i < end
      → slice_get taken from ≡ Some s → slice_get taken (end - 1) ≡ Some u → slice_get taken i ≡ Some t → Shows t → Shows s ⊎ Shows u
  first_or_last by from end i s t u legal a same l m e g f (id, near, exact) =
      let first : seen_id s.xmax x ≡ Some id = same i s t l m e f ∙ near in
      let last : seen_id u.xmax x ≡ Some id = sym (same (end - 1) s u (omega arith) (omega arith) e g) ∙ first in
      ⊎_elim
      (λ (v : visible ≡ true).
      let seen : is_visible ids (take t.place h) id ≡ true = sym exact ∙ v in
      let still : is_visible ids (take u.place h) id ≡ true = ⊎_elim
      (λ (y : is_visible ids (take u.place h) id ≡ true). y)
      (λ (n : is_visible ids (take u.place h) id ≡ false). absurd (false≢true (sym (hidden_before base ids h id t.place u.place legal (a.rising i (end - 1) t u (omega arith) f g) n) ∙ seen)))
      (cases_Bool (is_visible ids (take u.place h) id)) in
      inr (id, last, v ∙ sym still))
      (λ (v : visible ≡ false).
      let hidden : is_visible ids (take t.place h) id ≡ false = sym exact ∙ v in
      inl (id, first, v ∙ sym (hidden_before base ids h id s.place t.place legal (a.rising from i s t l e f) hidden)))
      (cases_Bool visible)

  pub none_on : (by : By) (from end : ℕ) (s u : Taken) → IsLegal base h → AreTaken base.next h by taken → MeanTheSame taken x from end
      → slice_get taken from ≡ Some s → slice_get taken (end - 1) ≡ Some u → NoneShow from → (Shows s → ⊥) → (Shows u → ⊥) → NoneShow end
  none_on by from end s u legal a same e g before not_first not_last i t l f shows = ⊎_elim
      (λ (v : i < from). before i t v f shows)
      (λ (v : from ≤ i). ⊎_elim not_first not_last (first_or_last by from end i s t u legal a same v l e g f shows))
      (cases_lt i from)

  pub none_seen : (by : By) (number n : ℕ) → AreTaken base.next h (taken_by by number) taken → length taken ≤ n → NoneShow n → IsSeen base ids h by number x visible → ⊥
  none_seen by number n a l none s =
      let q = a.all s.place s.taken in
      let t = q.1 in
      let low : q.0 < length taken = slice_get_within taken q.0 t q.2 in
      none q.0 t (omega arith) q.2
      (s.id, subst (λ (n : ℕ). seen_id n x ≡ Some s.id) (sym ((a.each q.0 t q.2).1 ∙ ap (λ (p : ℕ). snapshot_xmax base.next (take p h)) q.3)) s.near, subst (λ (p : ℕ). visible ≡ is_visible ids (take p h) s.id) (sym q.3) s.exact)

  pub is_seen_by : (by : By) (number i : ℕ) (t : Taken) → AreTaken base.next h (taken_by by number) taken → slice_get taken i ≡ Some t → Shows t → IsSeen base ids h by number x visible
  is_seen_by by number i t a e (id, near, exact) =
      let m = a.each i t e in
      record { place = t.place; taken = m.0; id = id; near = subst (λ (n : ℕ). seen_id n x ≡ Some id) m.1 near; exact = exact }

-- ---- what is too old for them

pub nothing_at : (taken : List Taken) → slice_get taken 0 ≡ None → length taken ≡ 0
nothing_at [] e = refl
nothing_at (t ∷ taken) e = absurd (let both : Some t ≡ None = e in cc)

module _ (base : Counters) (h : List Event) (taken : List Taken) (x oldest : ℕ) where
  pub none_too_old : (round : RoundSpan) (by : By) (number : ℕ) → AreTaken base.next h (taken_by by number) taken → length taken ≡ 0 → IsTooOldFor base h round by number x oldest → ⊥
  none_too_old round by number a empty s =
      let q = a.all s.place s.taken in
      let low : q.0 < length taken = slice_get_within taken q.0 q.1 q.2 in
      omega arith

  pub first_is_older : (round : RoundSpan) (by : By) (number : ℕ) (t : Taken) → x < 2 ^ 32 → NeverFall taken → AreTaken base.next h (taken_by by number) taken → slice_get taken 0 ≡ Some t → IsTooOldFor base h round by number x oldest
      → IfSome (near_id t.xmax x) (λ id. id < oldest)
  first_is_older round by number t small rises a e s =
      let q = a.all s.place s.taken in
      let m = a.each q.0 q.1 q.2 in
      let there : IfSome (near_id q.1.xmax x) (λ id. id < oldest) = subst (λ (n : ℕ). IfSome (near_id n x) (λ id. id < oldest)) (sym (m.1 ∙ ap (λ (p : ℕ). snapshot_xmax base.next (take p h)) q.3)) s.older in
      older_before t.xmax q.1.xmax x oldest small (rises 0 q.0 t q.1 (omega arith) e q.2) there

  pub is_too_old_by : (round : RoundSpan) (by : By) (number : ℕ) (t : Taken) → 3 ≤ x → MayCarry base h round oldest → AreTaken base.next h (taken_by by number) taken → slice_get taken 0 ≡ Some t → IfSome (near_id t.xmax x) (λ id. id < oldest)
      → IsTooOldFor base h round by number x oldest
  is_too_old_by round by number t normal carried a e older =
      let m = a.each 0 t e in
      record { normal = normal; place = t.place; taken = m.0; older = subst (λ (n : ℕ). IfSome (near_id n x) (λ id. id < oldest)) m.1 older; carried = carried }
