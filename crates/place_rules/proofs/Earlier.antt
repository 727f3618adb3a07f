-- Which of a session's events stand before a command.
use Rattle.std.proofs.Common.{◌≡◌, ℕ, zero, suc, ◌+◌, ◌<◌, ◌≤◌, List, [], ◌∷◌, ◌++◌, Some, Bool, true, false, cond, refl, sym, ap, subst, ◌∙◌, inl, inr, ⊎_elim, ◌&&◌, ◌==◌, arith, eqb-true, length, take, drop, map, append-nil, eq-eqb}
use Rattle.std.specs.Prelude.{nat_lt}
use Rattle.std.specs.List.{AllByRecursion, filter, slice_get}
use Rattle.std.proofs.lemmas.Bool.{cases_Bool, cases_lt, false≢true, le-ltb, lt-ltb}
use Rattle.std.proofs.lemmas.List.{take-append-drop}
use Rattle.std.proofs.lemmas.List.Elements.{All-contains, filter-append}
use Rattle.tx_events.specs.declared.event.By.{By}
use Rattle.tx_events.specs.declared.event.Event.{Event}
use Rattle.tx_events.specs.declared.record.Counters.{Counters}
use Rattle.tx_events.specs.Events.{by_of, is_of}
use Rattle.tx_events.specs.History.{IsLegal}
use Rattle.tx_events.proofs.Membership.{Has, all_at, filter_agree_on, filter_none_on, has_contains}
use Rattle.place_columns.specs.Owned.{AreInTurn, AreLater, IsReadFrom}
use Rattle.report_law.specs.Answers.{own_before}
use Rattle.history_places.proofs.Growing.{has_there}
use Rattle.place_rules.proofs.Apart.{own}

-- ---- lists

module _ {A : Type 0} where
  pub there_is : (xs : List A) (n : ℕ) → n < length xs → (x : A) × (slice_get xs n ≡ Some x)
  there_is [] n l = absurd (omega arith)
  there_is (x ∷ xs) zero l = (x, refl)
  there_is (x ∷ xs) (suc n) l = there_is xs n (omega arith)

  pub dropped : (xs : List A) (n : ℕ) (x : A) → slice_get xs n ≡ Some x → drop n xs ≡ x ∷ drop (suc n) xs
  dropped [] n x e = absurd cc
  dropped (y ∷ xs) zero x e = let same : y ≡ x = cc in ap (λ (t : A). t ∷ xs) same
  dropped (y ∷ xs) (suc n) x e = dropped xs n x e

  pub taken_at : (xs : List A) (to n : ℕ) (x : A) → n < to → slice_get xs n ≡ Some x → slice_get (take to xs) n ≡ Some x
  taken_at [] to n x l e = absurd cc
  taken_at (y ∷ xs) zero n x l e = absurd (omega arith)
  taken_at (y ∷ xs) (suc to) zero x l e = e
  taken_at (y ∷ xs) (suc to) (suc n) x l e = taken_at xs to n x (omega arith) e

  -- an item of a front
  pub place_of : (r : ℕ) (xs : List A) (x : A) → Has (take r xs) x → (k : ℕ) × (k < r) × (slice_get xs k ≡ Some x)
  place_of zero xs x h = absurd h
  place_of (suc r) [] x h = absurd h
  place_of (suc r) (y ∷ xs) x h =
      ⊎_elim
      (λ (e : y ≡ x). (0, omega arith, ap Some e))
      (λ t. let p = place_of r xs x t in (suc p.0, omega (arith, p.1), p.2))
      h

  pub shorter : (to r : ℕ) (xs : List A) → r ≤ to → take r (take to xs) ≡ take r xs
  shorter to zero xs l = refl
  shorter zero (suc r) xs l = absurd (omega arith)
  shorter (suc to) (suc r) [] l = refl
  shorter (suc to) (suc r) (x ∷ xs) l = ap (λ (t : List A). x ∷ t) (shorter to r xs (omega arith))

pub mapped : {A B : Type 0} (f : A → B) (xs : List A) (n : ℕ) (y : B) → slice_get (map f xs) n ≡ Some y → (x : A) × (slice_get xs n ≡ Some x) × (f x ≡ y)
mapped {A} {B} f [] n y e = absurd cc
mapped {A} {B} f (x ∷ xs) zero y e = (x, refl, cc)
mapped {A} {B} f (x ∷ xs) (suc n) y e = mapped f xs n y e

pub length_mapped : {A B : Type 0} (f : A → B) (xs : List A) → length (map f xs) ≡ length xs
length_mapped {A} {B} f [] = refl
length_mapped {A} {B} f (x ∷ xs) = ap suc (length_mapped f xs)

pub map_taken : {A B : Type 0} (f : A → B) (n : ℕ) (xs : List A) → map f (take n xs) ≡ take n (map f xs)
map_taken {A} {B} f zero xs = refl
map_taken {A} {B} f (suc n) [] = refl
map_taken {A} {B} f (suc n) (x ∷ xs) = ap (λ (t : List B). f x ∷ t) (map_taken f n xs)

-- ---- the order of a session's events

passes_step : (t : Event → Bool) (z : Event) (xs : List Event) (x : Event) → (Has xs x → Has (filter t xs) x) → Has (z ∷ xs) x → t x ≡ true → (b : Bool) → t z ≡ b → Has (cond b (z ∷ filter t xs) (filter t xs)) x
passes_step t z xs x more k y true i = ⊎_elim (λ e. inl e) (λ u. inr (more u)) k
passes_step t z xs x more k y false i = ⊎_elim (λ (e : z ≡ x). absurd (false≢true (sym i ∙ ap t e ∙ y))) (λ u. more u) k

passes : (t : Event → Bool) (xs : List Event) (x : Event) → Has xs x → t x ≡ true → Has (filter t xs) x
passes t [] x k y = absurd k
passes t (z ∷ xs) x k y = passes_step t z xs x (λ u. passes t xs x u y) k y (t z) refl

pub in_turn : (base : Counters) (h : List Event) → IsLegal base h → AreInTurn (map by_of h)
in_turn base h legal p q a b l at bt same =
    let e = mapped by_of h p a at in
    let f = mapped by_of h q b bt in
    ⊎_elim
    (λ (less : p < q).
    let own_e : is_of (by_of f.0).session e.0 ≡ true =
    ap (λ (x : By). x.session == (by_of f.0).session) e.2 ∙ ap (λ (x : By). a.session == x.session) f.2 ∙ eq-eqb a.session b.session same in
    let inside : Has (filter (is_of (by_of f.0).session) (take q h)) e.0 = passes (is_of (by_of f.0).session) (take q h) e.0 (has_there (take q h) p e.0 (taken_at h q p e.0 less e.1)) own_e in
    let up : (by_of e.0).command ≤ (by_of f.0).command =
    All-contains (λ g. (by_of g).command ≤ (by_of f.0).command) (filter (is_of (by_of f.0).session) (take q h)) e.0 (legal.turns q f.0 f.1) (has_contains (filter (is_of (by_of f.0).session) (take q h)) e.0 inside) in
    subst (λ (x : By). x.command ≤ b.command) e.2 (subst (λ (x : By). (by_of e.0).command ≤ x.command) f.2 up))
    (λ (more : q ≤ p).
    let z : p ≡ q = omega arith in
    let one : Some a ≡ Some b = sym at ∙ ap (λ k. slice_get (map by_of h) k) z ∙ bt in
    let ab : a ≡ b = cc in
    subst (λ (x : By). a.command ≤ x.command) ab (omega arith))
    (cases_lt p q)

-- ---- behind the last event of an earlier command

later_none : (by : By) (bys : List By) (n : ℕ) (x : By) → slice_get bys n ≡ Some x → AreLater by (drop (suc n) bys) → (x.session ≡ by.session → by.command < x.command) → AreLater by (drop n bys)
later_none by bys n x at a p = subst (AreLater by) (sym (dropped bys n x at)) (p, a)

-- the event before that place is one of them
pub last_earlier : (by : By) (bys : List By) (to n : ℕ) → to ≤ length bys → IsReadFrom bys by to (suc n) → (x : By) × (slice_get bys n ≡ Some x) × (x.session ≡ by.session) × (x.command ≤ by.command)
last_earlier by bys to n w is =
    let end : suc n ≤ to = (is to (omega arith)).0 (none to bys) in
    let x = there_is bys n (omega arith) in
    let at : slice_get (take to bys) n ≡ Some x.0 = taken_at bys to n x.0 (omega arith) x.1 in
    let behind : AreLater by (drop (suc n) (take to bys)) = (is (suc n) end).1 (omega arith) in
    let not : AreLater by (drop n (take to bys)) → ⊥ = λ a. let l = (is n (omega arith)).0 a in absurd (omega arith) in
    ⊎_elim
    (λ (own : (x.0.session == by.session) ≡ true).
    ⊎_elim
    (λ (l : by.command < x.0.command). absurd (not (later_none by (take to bys) n x.0 at behind (λ s. l))))
    (λ (l : x.0.command ≤ by.command). (x.0, x.1, eqb-true x.0.session by.session own, l))
    (cases_lt by.command x.0.command))
    (λ (other : (x.0.session == by.session) ≡ false).
    absurd (not (later_none by (take to bys) n x.0 at behind (λ s. absurd (false≢true (sym other ∙ eq-eqb x.0.session by.session s))))))
    (cases_Bool (x.0.session == by.session))
  where
    none : (k : ℕ) (xs : List By) → AreLater by (drop k (take k xs))
    none zero xs = tt
    none (suc k) [] = tt
    none (suc k) (x ∷ xs) = none k xs

pub read_end : (by : By) (bys : List By) (to r : ℕ) → IsReadFrom bys by to r → r ≤ to
read_end by bys to r is = (is to (omega arith)).0 (none to bys)
  where
    none : (k : ℕ) (xs : List By) → AreLater by (drop k (take k xs))
    none zero xs = tt
    none (suc k) [] = tt
    none (suc k) (x ∷ xs) = none k xs

drop_mapped : (n : ℕ) (h : List Event) → map by_of (drop n h) ≡ drop n (map by_of h)
drop_mapped zero h = refl
drop_mapped (suc n) [] = refl
drop_mapped (suc n) (e ∷ h) = drop_mapped n h

all_mapped : (P : By → Type 0) (h : List Event) → AllByRecursion P (map by_of h) → AllByRecursion (λ e. P (by_of e)) h
all_mapped P [] a = tt
all_mapped P (e ∷ h) a = (a.0, all_mapped P h a.1)

both_false : (a b : Bool) → (a ≡ true → b ≡ false) → (a && b) ≡ false
both_false true b f = f refl
both_false false b f = refl

both_left : (a b : Bool) → (a ≡ true → b ≡ true) → (a && b) ≡ a
both_left true b f = f refl
both_left false b f = refl

-- where a command reads that is the one before, the session's events of earlier commands are all before it
pub before_place : (base : Counters) (h : List Event) (by earlier : By) (to r : ℕ) → IsLegal base h → to ≤ length h → earlier.session ≡ by.session → earlier.command + 1 ≡ by.command
    → IsReadFrom (map by_of h) earlier to r → own_before by (take to h) ≡ own by.session (take r h)
before_place base h by earlier to r legal w s c is =
    let end = read_end earlier (map by_of h) to r is in
    ap (filter test) (sym (take-append-drop r (take to h)))
    ∙ filter-append test (take r (take to h)) (drop r (take to h))
    ∙ ap (λ (t : List Event). filter test (take r (take to h)) ++ t) (filter_none_on test (drop r (take to h)) (λ e k. late e k))
    ∙ append-nil (filter test (take r (take to h)))
    ∙ ap (filter test) (shorter to r h end)
    ∙ filter_agree_on test (is_of by.session) (take r h) (λ e k. early r refl e k)
  where
    test : Event → Bool
    test = λ e. is_of by.session e && nat_lt (by_of e).command by.command

    late : (e : Event) → Has (drop r (take to h)) e → test e ≡ false
    late e k =
        let end = read_end earlier (map by_of h) to r is in
        let a : AreLater earlier (drop r (take to (map by_of h))) = (is r end).1 (omega arith) in
        let m : map by_of (drop r (take to h)) ≡ drop r (take to (map by_of h)) = drop_mapped r (take to h) ∙ ap (drop r) (map_taken by_of to h) in
        let all = all_mapped (λ (b : By). b.session ≡ earlier.session → earlier.command < b.command) (drop r (take to h)) (subst (AreLater earlier) (sym m) a) in
        let its = all_at (λ (f : Event). (by_of f).session ≡ earlier.session → earlier.command < (by_of f).command) (drop r (take to h)) e all k in
        both_false (is_of by.session e) (nat_lt (by_of e).command by.command)
        (λ own_e. let l = its (eqb-true (by_of e).session by.session own_e ∙ sym s) in le-ltb (by_of e).command by.command (omega arith))

    early : (n : ℕ) → n ≡ r → (e : Event) → Has (take n h) e → test e ≡ is_of by.session e
    early zero z e k = absurd k
    early (suc n) z e k =
        let last = last_earlier earlier (map by_of h) to n (subst (λ m. to ≤ m) (sym (length_mapped by_of h)) w) (subst (λ m. IsReadFrom (map by_of h) earlier to m) (sym z) is) in
        let p = place_of (suc n) h e k in
        let at : slice_get (map by_of h) p.0 ≡ Some (by_of e) = map_at h p.0 e p.2 in
        both_left (is_of by.session e) (nat_lt (by_of e).command by.command)
        (λ own_e.
        let up : (by_of e).command ≤ last.0.command = in_turn base h legal p.0 n (by_of e) last.0 (omega (arith, p.1)) at last.1 (eqb-true (by_of e).session by.session own_e ∙ sym s ∙ sym last.2) in
        lt-ltb (by_of e).command by.command (omega (arith, up, last.3)))
      where
        map_at : (g : List Event) (i : ℕ) (f : Event) → slice_get g i ≡ Some f → slice_get (map by_of g) i ≡ Some (by_of f)
        map_at [] i f q = absurd cc
        map_at (x ∷ g) zero f q = let same : x ≡ f = cc in ap (λ (y : Event). Some (by_of y)) same
        map_at (x ∷ g) (suc i) f q = map_at g i f q
