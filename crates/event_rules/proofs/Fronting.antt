-- How far a history is legal, by its longest legal front.
use Rattle.std.proofs.Common.{◌≡◌, ◌↔◌, ℕ, zero, suc, ◌+◌, ◌<◌, ◌≤◌, List, [], ◌∷◌, ◌++◌, Option, Some, None, length, take, drop, get_or, refl, sym, ap, subst, ◌∙◌, arith, ⊎_elim}
use Rattle.std.specs.Prelude.{IsTrue, nat_le, nat_lt}
use Rattle.std.specs.List.{slice_get}
use Rattle.std.proofs.lemmas.Bool.{cases_lt, le-leb, leb-true, lt-ltb, ltb-true}
use Rattle.std.proofs.lemmas.List.{length-take-le, take_more}
use Rattle.std.proofs.lemmas.Option.{slice_get-get_or, slice_get_within}
use Rattle.tx_events.specs.declared.event.By.{By}
use Rattle.tx_events.specs.declared.event.Event.{Event}
use Rattle.tx_events.specs.declared.record.Counters.{Counters}
use Rattle.tx_events.specs.declared.snapshot.SnapData.{SnapData}
use Rattle.tx_events.specs.Events.{by_of}
use Rattle.tx_events.specs.History.{ComesInTurn, IsLegal, MayCome}
use Rattle.tx_events.proofs.GivenIds.{legal_push, legal_take}
use Rattle.history_check.specs.Replays.{IsLawfulNext, Replayed}
use Rattle.history_places.specs.declared.snaps.SnapMark.{SnapMark}
use Rattle.history_places.specs.SnapMarks.{AreSnapMarks, IsSnapMark}
use Rattle.event_rules.specs.Fronts.{IsFront}

-- ---- lists

pub taken : {X : Type 0} (p n : ℕ) (xs : List X) → p ≤ n → take p (take n xs) ≡ take p xs
taken zero n xs l = refl
taken (suc p) zero xs l = absurd (omega arith)
taken (suc p) (suc n) [] l = refl
taken {X} (suc p) (suc n) (x ∷ xs) l = ap (λ (t : List X). x ∷ t) (taken p n xs (omega arith))

pub got : {X : Type 0} (p n : ℕ) (xs : List X) → p < n → slice_get (take n xs) p ≡ slice_get xs p
got p zero xs l = absurd (omega arith)
got p (suc n) [] l = refl
got zero (suc n) (x ∷ xs) l = refl
got (suc p) (suc n) (x ∷ xs) l = got p n xs (omega arith)

pub all_taken : {X : Type 0} (n : ℕ) (xs : List X) → length xs ≤ n → take n xs ≡ xs
all_taken zero [] l = refl
all_taken (suc n) [] l = refl
all_taken zero (x ∷ xs) l = absurd (omega arith)
all_taken {X} (suc n) (x ∷ xs) l = ap (λ (t : List X). x ∷ t) (all_taken n xs (omega arith))

-- one item more
more_suc : {X : Type 0} (n : ℕ) (xs : List X) (x : X) → slice_get xs n ≡ Some x → take (suc n) xs ≡ take n xs ++ x ∷ []
more_suc n [] x e = absurd cc
more_suc {X} zero (y ∷ xs) x e = let same : y ≡ x = cc in ap (λ (z : X). z ∷ []) same
more_suc {X} (suc n) (y ∷ xs) x e = ap (λ (t : List X). y ∷ t) (more_suc n xs x e)

pub one_more : {X : Type 0} (n : ℕ) (xs : List X) (x : X) → slice_get xs n ≡ Some x → take (n + 1) xs ≡ take n xs ++ x ∷ []
one_more n xs x e = let z : suc n ≡ n + 1 = omega arith in subst (λ k. take k xs ≡ take n xs ++ x ∷ []) z (more_suc n xs x e)

got_push : {X : Type 0} (xs : List X) (x : X) (p : ℕ) → p < length xs → slice_get (xs ++ x ∷ []) p ≡ slice_get xs p
got_push [] x p l = absurd (omega arith)
got_push (y ∷ xs) x zero l = refl
got_push (y ∷ xs) x (suc p) l = got_push xs x p (omega arith)

got_end : {X : Type 0} (xs : List X) (x y : X) (p : ℕ) → length xs ≤ p → slice_get (xs ++ x ∷ []) p ≡ Some y → (p ≡ length xs) × (x ≡ y)
got_end [] x y zero l e = let same : x ≡ y = cc in (refl, same)
got_end [] x y (suc p) l e = absurd cc
got_end (z ∷ xs) x y zero l e = absurd (omega arith)
got_end (z ∷ xs) x y (suc p) l e = let r = got_end xs x y p (omega arith) e in (ap suc r.0, r.1)

taken_push : {X : Type 0} (xs : List X) (x : X) (p : ℕ) → p ≤ length xs → take p (xs ++ x ∷ []) ≡ take p xs
taken_push xs x zero l = refl
taken_push [] x (suc p) l = absurd (omega arith)
taken_push {X} (y ∷ xs) x (suc p) l = ap (λ (t : List X). y ∷ t) (taken_push xs x p (omega arith))

pub one_got : {X : Type 0} (xs : List X) (n : ℕ) → n < length xs → (x : X) × (slice_get xs n ≡ Some x)
one_got [] n l = absurd (omega arith)
one_got (x ∷ xs) zero l = (x, refl)
one_got (x ∷ xs) (suc n) l = one_got xs n (omega arith)

same_length : {X Y : Type 0} (xs : List X) (x : X) (ys : List Y) (y : Y) → length xs ≡ length ys → length (xs ++ x ∷ []) ≡ length (ys ++ y ∷ [])
same_length [] x [] y s = refl
same_length [] x (z ∷ ys) y s = absurd (omega arith)
same_length (z ∷ xs) x [] y s = absurd (omega arith)
same_length (z ∷ xs) x (w ∷ ys) y s = ap suc (same_length xs x ys y (omega arith))

pub test_lt : (a n m : ℕ) → n ≡ m → IsTrue (nat_lt a n) ↔ (a < m)
test_lt a n m e = (λ t. let l : a < n = ltb-true a n t in omega arith, λ l. let k : a < n = omega arith in lt-ltb a n k)

pub test_le : (a n m : ℕ) → n ≡ m → IsTrue (nat_le a n) ↔ (a ≤ m)
test_le a n m e = (λ t. let l : a ≤ n = leb-true a n t in omega arith, λ l. let k : a ≤ n = omega arith in le-leb a n k)

pub both_ways : {A B C : Type 0} → A ↔ B → B ↔ C → A ↔ C
both_ways f g = (λ a. g.0 (f.0 a), λ c. f.1 (g.1 c))

-- ---- the front

module _ (base : Counters) (h : List Event) (r : Replayed) (f : IsFront base h r) (legal : IsLegal r.base r.events) where
  legal_front : IsLegal base (take (length r.events) h)
  legal_front = subst (λ (es : List Event). IsLegal base es) f.events_are (subst (λ (b : Counters). IsLegal b r.events) f.base_is legal)

  -- the event behind the front may not come
  next_amiss : (e : Event) → slice_get h (length r.events) ≡ Some e → MayCome base (take (length r.events) h) e → ComesInTurn (take (length r.events) h) e → ⊥
  next_amiss e at may turn =
      f.ends e at (
        subst (λ (b : Counters). MayCome b r.events e) (sym f.base_is) (subst (λ (es : List Event). MayCome base es e) (sym f.events_are) may),
        subst (λ (es : List Event). ComesInTurn es e) (sym f.events_are) turn,
      )

  -- nothing longer than the front is legal
  longest : (to : ℕ) → to ≤ length h → IsLegal base (take to h) → to ≤ length r.events
  longest to l whole =
      ⊎_elim
      (λ (past : length r.events < to).
      let n = length r.events in
      let within : n < length h = omega arith in
      let one = one_got h n within in
      let at : slice_get (take to h) n ≡ Some one.0 = got n to h past ∙ one.1 in
      let cut : take n (take to h) ≡ take n h = taken n to h (omega arith) in
      absurd (next_amiss one.0 one.1
      (subst (λ (es : List Event). MayCome base es one.0) cut (whole.rules n one.0 at))
      (subst (λ (es : List Event). ComesInTurn es one.0) cut (whole.turns n one.0 at))))
      (λ (u : to ≤ length r.events). u)
      (cases_lt (length r.events) to)

  pub legal_to : (to : ℕ) → to ≤ length h → (to ≤ length r.events) ↔ IsLegal base (take to h)
  legal_to to l = (
    λ m. subst (λ (es : List Event). IsLegal base es) (taken to (length r.events) h m) (legal_take base (take (length r.events) h) to legal_front),
    λ whole. longest to l whole,
  )

  pub comes_at : (p : ℕ) (e : Event) → IsLegal base (take p h) → slice_get h p ≡ Some e → (p < length r.events) ↔ (MayCome base (take p h) e × ComesInTurn (take p h) e)
  comes_at p e before at =
      let within : p < length h = slice_get_within h p e at in (
        λ m.
            let cut : take p (take (length r.events) h) ≡ take p h = taken p (length r.events) h (omega arith) in
            let there : slice_get (take (length r.events) h) p ≡ Some e = got p (length r.events) h m ∙ at in (
              subst (λ (es : List Event). MayCome base es e) cut (legal_front.rules p e there),
              subst (λ (es : List Event). ComesInTurn es e) cut (legal_front.turns p e there),
            ),
        λ may.
            let more : IsLegal base (take p h ++ e ∷ []) = legal_push base (take p h) e before may.0 may.1 in
            let whole : IsLegal base (take (p + 1) h) = subst (λ (es : List Event). IsLegal base es) (sym (one_more p h e at)) more in
            let m : p + 1 ≤ length r.events = longest (p + 1) (omega arith) whole in omega arith,
      )

-- ---- a loop over the events

pub front_here : (base : Counters) (h : List Event) (r : Replayed) (n : ℕ) (e : Event) → r.base ≡ base → n < length h → r.events ≡ take n h → e ≡ get_or h n e → (IsLawfulNext r e → ⊥) → IsFront base h r
front_here base h r n e base_is l so is never =
    let size : length r.events ≡ n = ap length so ∙ length-take-le n h (omega arith) in
    record {
      base_is = base_is;
      within = omega arith;
      events_are = so ∙ ap (λ k. take k h) (sym size);
      ends = λ x at lawful.
          let here : slice_get h n ≡ Some e = slice_get-get_or h n e l ∙ ap (λ (y : Event). Some y) (sym is) in
          let there : slice_get h n ≡ Some x = ap (λ k. slice_get h k) (sym size) ∙ at in
          let same : x ≡ e = cc in never (subst (λ (y : Event). IsLawfulNext r y) same lawful);
    }

pub front_whole : (base : Counters) (h : List Event) (r : Replayed) (n : ℕ) → r.base ≡ base → length h ≤ n → r.events ≡ take n h → IsFront base h r
front_whole base h r n base_is l so =
    let all : r.events ≡ h = so ∙ all_taken n h l in
    let size : length r.events ≡ length h = ap length all in
    record {
      base_is = base_is;
      within = omega arith;
      events_are = all ∙ sym (all_taken (length r.events) h (omega arith));
      ends = λ x at lawful. let m = slice_get_within h (length r.events) x at in absurd (omega arith);
    }

-- ---- what is kept of snapshots

pub marks_push : (first : ℕ) (h : List Event) (told_by : By → Option SnapData) (marks : List (Option SnapMark)) (e : Event) (o : Option SnapMark) → AreSnapMarks first h told_by marks → IsSnapMark first h (told_by (by_of e)) e o
    → AreSnapMarks first (h ++ e ∷ []) told_by (marks ++ o ∷ [])
marks_push first h told_by marks e o m here =
    let size = m.size in
    record {
      size = same_length marks o h e size;
      each = λ p x y at_p at_m. ⊎_elim
          (λ (u : p < length h).
          let in_marks : p < length marks = omega arith in
          subst (λ (es : List Event). IsSnapMark first es (told_by (by_of x)) x y) (sym (taken_push h e p (omega arith)))
          (m.each p x y (sym (got_push h e p u) ∙ at_p) (sym (got_push marks o p in_marks) ∙ at_m)))
          (λ (u : length h ≤ p).
          let event = got_end h e x p u at_p in
          let at : p ≡ length h = event.0 in
          let same : e ≡ x = event.1 in
          let mark : o ≡ y = (got_end marks o y p (omega arith) at_m).1 in
          let cut : take p (h ++ e ∷ []) ≡ h = ap (λ k. take k (h ++ e ∷ [])) at ∙ taken_push h e (length h) (omega arith) ∙ all_taken (length h) h (omega arith) in
          subst (λ (es : List Event). IsSnapMark first es (told_by (by_of x)) x y) (sym cut)
          (subst (λ (z : Event). IsSnapMark first h (told_by (by_of z)) z y) same (subst (λ (z : Option SnapMark). IsSnapMark first h (told_by (by_of e)) e z) mark here)))
          (cases_lt p (length h));
    }

pub marks_none : (first : ℕ) (told_by : By → Option SnapData) → AreSnapMarks first [] told_by []
marks_none first told_by = record { size = refl; each = λ p e o at_p at_m. absurd cc }
