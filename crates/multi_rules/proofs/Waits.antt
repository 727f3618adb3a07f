-- Which multixacts weren't recorded yet, by the legal front of the history and what is given behind it.
use Rattle.std.proofs.Common.{◌≡◌, ◌≢◌, ℕ, zero, suc, ◌+◌, ◌-◌, ◌<◌, ◌≤◌, ◌↔◌, ◌⊎◌, ⊎_elim, inl, inr, Bool, true, false, ◌==◌, ◌&&◌, ◌||◌, Some, List, [], ◌∷◌, map, take, drop, get_or, refl, ap, sym, subst, ◌∙◌, arith}
use Rattle.std.specs.List.{list_any, slice_get}
use Rattle.std.proofs.lemmas.Bool.{cases_lt, cases_Bool, and_parts, false≢true}
use Rattle.std.proofs.lemmas.Bool.Decides.{nat_tests}
use Rattle.tx_events.specs.declared.event.By.{By}
use Rattle.tx_events.specs.declared.multi.Member.{Member}
use Rattle.tx_events.specs.declared.multi.MultiEvent.{MultiEvent}
use Rattle.tx_events.specs.declared.multi.MultiEvent.TheVariants as multis
use Rattle.tx_events.specs.declared.record.Counters.{Counters}
use Rattle.tx_events.specs.Multis.{multi_by, next_made}
use Rattle.report_law.specs.MultiLines.{IsNotYet}
use Rattle.history_places.specs.declared.start.Start.{Start}
use Rattle.place_columns.specs.OwnPlaces.{AnyPlace, ArePlacesOf}
use Rattle.tx_events.proofs.MultiPlaces.{bound_of, its_by, stands_at}
use Rattle.place_columns.proofs.PlaceLists.{any_place}
use Rattle.multi_rules.specs.Gens.{AreStartsOf, IsAboveAt, IsOnlyGenAt, IsRecordedIn, NoGen, Waiting, WaitsIn, is_ok_gen}

-- ---- pins above it

above_by : (base : Counters) (all : List MultiEvent) (by : By) (multi p : ℕ) → IsAboveAt base all by multi p → slice_get (map multi_by all) p ≡ Some by
above_by base all by multi p z = its_by all p (multis.Hold by z.0) z.1

pub above_iff : (base : Counters) (all : List MultiEvent) (by : By) (own : List ℕ) (multi : ℕ) → ArePlacesOf by (map multi_by all) own → AnyPlace (IsAboveAt base all by multi) own ↔ ((p : ℕ) × IsAboveAt base all by multi p)
above_iff base all by own multi are = any_place (IsAboveAt base all by multi) by (map multi_by all) own are (λ p z. above_by base all by multi p z)

pub above_at : (base : Counters) (all : List MultiEvent) (by its : By) (multi p held next : ℕ) (e : MultiEvent) → slice_get (map multi_by all) p ≡ Some by → e ≡ get_or all p e → e ≡ multis.Hold its held → next ≡ next_made base.multi (take p all)
    → (multi < next) ↔ IsAboveAt base all by multi p
above_at base all by its multi p held next e mine is hold next_is =
    let s = stands_at all p e (bound_of all p by mine) is in
    let y = its_by all p e s in
    let b : multi_by e ≡ its = ap multi_by hold in
    let same : its ≡ by = cc in (
      λ l. (held, s ∙ ap (λ (x : MultiEvent). Some x) (hold ∙ ap (λ (b : By). multis.Hold b held) same), subst (λ n. multi < n) next_is l),
      λ z. subst (λ n. multi < n) (sym next_is) z.2,
    )

-- ---- a list in two

at_take : {X : Type 0} (h : List X) (n p : ℕ) → p < n → slice_get (take n h) p ≡ slice_get h p
at_take [] zero p l = refl
at_take [] (suc n) p l = refl
at_take (x ∷ h) zero p l = absurd (omega arith)
at_take (x ∷ h) (suc n) zero l = refl
at_take (x ∷ h) (suc n) (suc p) l = at_take h n p (omega arith)

in_take : {X : Type 0} (h : List X) (n p : ℕ) (x : X) → slice_get (take n h) p ≡ Some x → p < n
in_take [] zero p x e = absurd cc
in_take [] (suc n) p x e = absurd cc
in_take (y ∷ h) zero p x e = absurd cc
in_take (y ∷ h) (suc n) zero x e = omega arith
in_take (y ∷ h) (suc n) (suc p) x e = let l = in_take h n p x e in omega arith

at_drop : {X : Type 0} (h : List X) (n p : ℕ) → n ≤ p → slice_get (drop n h) (p - n) ≡ slice_get h p
at_drop h zero p l = let z : p - 0 ≡ p = omega arith in ap (slice_get h) z
at_drop [] (suc n) p l = refl
at_drop (x ∷ h) (suc n) zero l = absurd (omega arith)
at_drop (x ∷ h) (suc n) (suc p) l = let z : suc p - suc n ≡ p - n = omega arith in ap (slice_get (drop n h)) z ∙ at_drop h n p (omega arith)

any_of : {X : Type 0} (f : X → Bool) (xs : List X) (k : ℕ) (x : X) → slice_get xs k ≡ Some x → f x ≡ true → list_any f xs ≡ true
any_of f [] k x e t = absurd cc
any_of f (y ∷ xs) zero x e t = let same : y ≡ x = cc in ap (λ z. f z || list_any f xs) same ∙ ap (λ b. b || list_any f xs) t
any_of f (y ∷ xs) (suc k) x e t = either (f y) (any_of f xs k x e t)
  where
    either : (b : Bool) → list_any f xs ≡ true → (b || list_any f xs) ≡ true
    either true r = refl
    either false r = r

some_of_any : {X : Type 0} (f : X → Bool) (xs : List X) → list_any f xs ≡ true → (k : ℕ) × (x : X) × (slice_get xs k ≡ Some x) × (f x ≡ true)
some_of_any f [] t = absurd cc
some_of_any {X} f (y ∷ xs) t = one (f y) refl (λ r. some_of_any f xs r) t
  where
    one : (b : Bool) → f y ≡ b → (list_any f xs ≡ true → (k : ℕ) × (x : X) × (slice_get xs k ≡ Some x) × (f x ≡ true)) → (b || list_any f xs) ≡ true → (k : ℕ) × (x : X) × (slice_get (y ∷ xs) k ≡ Some x) × (f x ≡ true)
    one true is rest t = (0, y, refl, is)
    one false is rest t = let r = rest t in (suc r.0, r.1, r.2, r.3)

-- ---- each command that was given it

abbrev Whose : (By → Bool) → ℕ → ℕ → By → List MultiEvent → ℕ → Type 0
Whose ok from to by all multi = (place offset : ℕ) (members : List Member) (giver : By) → slice_get all place ≡ Some (multis.Gen giver multi offset members)
    → ((giver.session ≢ by.session) × (from ≤ place) × (place < to)) ⊎ (ok giver ≡ false)

gives_itself : (ok : By → Bool) (giver : By) (multi offset : ℕ) (members : List Member) → ok giver ≡ true → is_ok_gen ok multi (multis.Gen giver multi offset members) ≡ true
gives_itself ok giver multi offset members t = ap (λ b. b && (multi == multi)) t ∙ grind (arith, nat_tests)

whose_of : (ok : By → Bool) (from to n : ℕ) (by : By) (all : List MultiEvent) (multi : ℕ) → WaitsIn ok from to by (take n all) multi → list_any (is_ok_gen ok multi) (drop n all) ≡ false → Whose ok from to by all multi
whose_of ok from to n by all multi front tail place offset members giver e = ⊎_elim
    (λ (u : place < n). front place offset members giver (at_take all n place u ∙ e))
    (λ (u : n ≤ place). ⊎_elim
    (λ (t : ok giver ≡ true).
    let yes = any_of (is_ok_gen ok multi) (drop n all) (place - n) (multis.Gen giver multi offset members) (at_drop all n place u ∙ e) (gives_itself ok giver multi offset members t) in
    absurd (false≢true (sym tail ∙ yes)))
    (λ (f : ok giver ≡ false). inr f)
    (cases_Bool (ok giver)))
    (cases_lt place n)

front_of : (ok : By → Bool) (from to n : ℕ) (by : By) (all : List MultiEvent) (multi : ℕ) → Whose ok from to by all multi → WaitsIn ok from to by (take n all) multi
front_of ok from to n by all multi whose place offset members giver e = whose place offset members giver (sym (at_take all n place (in_take all n place (multis.Gen giver multi offset members) e)) ∙ e)

gen_of : (ok : By → Bool) (multi : ℕ) (e : MultiEvent) → is_ok_gen ok multi e ≡ true → (giver : By) × (offset : ℕ) × (members : List Member) × (e ≡ multis.Gen giver multi offset members) × (ok giver ≡ true)
gen_of ok multi (multis.Gen by m offset members) t =
    let p = and_parts (ok by) (m == multi) t in
    let q = p.1 in
    let same : m ≡ multi = grind (arith, nat_tests) in
    (by, offset, members, ap (λ k. multis.Gen by k offset members) same, p.0)
gen_of ok multi (multis.Hold by m) t = let p = and_parts (ok by) false t in absurd (false≢true p.1)
gen_of ok multi (multis.Unhold by m) t = let p = and_parts (ok by) false t in absurd (false≢true p.1)
gen_of ok multi (multis.Raise by m offset) t = let p = and_parts (ok by) false t in absurd (false≢true p.1)

past_drop : {X : Type 0} (h : List X) (n k : ℕ) → slice_get (drop n h) k ≡ slice_get h (n + k)
past_drop h n k = let z : n + k - n ≡ k = omega arith in ap (slice_get (drop n h)) (sym z) ∙ at_drop h n (n + k) (omega arith)

tail_of : (ok : By → Bool) (from to n : ℕ) (by : By) (all : List MultiEvent) (multi : ℕ) → to ≤ n → Whose ok from to by all multi → list_any (is_ok_gen ok multi) (drop n all) ≡ false
tail_of ok from to n by all multi l whose = ⊎_elim
    (λ (t : list_any (is_ok_gen ok multi) (drop n all) ≡ true).
    let s = some_of_any (is_ok_gen ok multi) (drop n all) t in
    let g = gen_of ok multi s.1 s.3 in
    let there : slice_get all (n + s.0) ≡ Some (multis.Gen g.0 multi g.1 g.2) = sym (past_drop all n s.0) ∙ s.2 ∙ ap (λ (x : MultiEvent). Some x) g.3 in
    ⊎_elim
    (λ (w : (g.0.session ≢ by.session) × (from ≤ n + s.0) × (n + s.0 < to)). let a = w.2 in absurd (omega arith))
    (λ (f : ok g.0 ≡ false). absurd (false≢true (sym f ∙ g.4)))
    (whose (n + s.0) g.1 g.2 g.0 there))
    (λ (f : list_any (is_ok_gen ok multi) (drop n all) ≡ false). f)
    (cases_Bool (list_any (is_ok_gen ok multi) (drop n all)))

-- ---- the rule

pub waits : (w : Waiting) (starts : List Start) (n multi : ℕ) → w.round.to ≤ n → AreStartsOf w.recorded starts → ((p : ℕ) × IsAboveAt w.base w.all w.by multi p)
    → list_any (is_ok_gen w.ok multi) (drop n w.all) ≡ false → (multi < w.base.multi → IsRecordedIn starts multi → ⊥) → WaitsIn w.ok w.round.from w.round.to w.by (take n w.all) multi
    → IsNotYet w.base w.recorded w.all w.round w.ok w.by multi
waits w starts n multi l are above tail unrecorded front = record {
  pinned = above.0;
  asked = above.1.0;
  stands = above.1.1;
  below = above.1.2;
  whose = λ place offset members giver e. whose_of w.ok w.round.from w.round.to n w.by w.all multi front tail place offset members giver e;
  unrecorded = λ b offset members c. unrecorded b ((are.each multi).1 (offset, members, c));
}

pub waits_above : (w : Waiting) (multi : ℕ) → IsNotYet w.base w.recorded w.all w.round w.ok w.by multi → (p : ℕ) × IsAboveAt w.base w.all w.by multi p
waits_above w multi i = (i.pinned, (i.asked, i.stands, i.below))

pub waits_tail : (w : Waiting) (n multi : ℕ) → w.round.to ≤ n → IsNotYet w.base w.recorded w.all w.round w.ok w.by multi → list_any (is_ok_gen w.ok multi) (drop n w.all) ≡ false
waits_tail w n multi l i = tail_of w.ok w.round.from w.round.to n w.by w.all multi l (λ place offset members giver e. i.whose place offset members giver e)

pub waits_unrecorded : (w : Waiting) (starts : List Start) (multi : ℕ) → AreStartsOf w.recorded starts → IsNotYet w.base w.recorded w.all w.round w.ok w.by multi → multi < w.base.multi → IsRecordedIn starts multi → ⊥
waits_unrecorded w starts multi are i b r = let c = (are.each multi).0 r in i.unrecorded b c.0 c.1 c.2

pub waits_front : (w : Waiting) (n multi : ℕ) → IsNotYet w.base w.recorded w.all w.round w.ok w.by multi → WaitsIn w.ok w.round.from w.round.to w.by (take n w.all) multi
waits_front w n multi i = front_of w.ok w.round.from w.round.to n w.by w.all multi (λ place offset members giver e. i.whose place offset members giver e)

-- ---- by the one place

pub wait_none : (ok : By → Bool) (from to : ℕ) (by : By) (h : List MultiEvent) (multi : ℕ) → NoGen h multi → WaitsIn ok from to by h multi
wait_none ok from to by h multi none place offset members giver e = absurd (none place (giver, offset, members, e))

-- it was given there and nowhere else
module _ (ok : By → Bool) (from to : ℕ) (by : By) (h : List MultiEvent) (multi place : ℕ) (only : IsOnlyGenAt h multi place) where
  the_giver : (p offset : ℕ) (members : List Member) (giver : By) → slice_get h p ≡ Some (multis.Gen giver multi offset members) → (p ≡ place) × (giver ≡ only.0.0)
  the_giver p offset members giver e =
      let at : p ≡ place = only.1 p (giver, offset, members, e) in
      let there : slice_get h place ≡ Some (multis.Gen giver multi offset members) = ap (slice_get h) (sym at) ∙ e in
      let here = only.0.3 in
      let same : giver ≡ only.0.0 = cc in
      (at, same)

  pub wait_unanswered : ok only.0.0 ≡ false → WaitsIn ok from to by h multi
  wait_unanswered f p offset members giver e = inr (ap ok (the_giver p offset members giver e).1 ∙ f)

  pub wait_elsewhere : (only.0.0.session ≢ by.session) × (from ≤ place) × (place < to) → WaitsIn ok from to by h multi
  wait_elsewhere z p offset members giver e =
      let s = the_giver p offset members giver e in
      let other : giver.session ≢ by.session = subst (λ (b : By). b.session ≢ by.session) (sym s.1) z.0 in
      inl (other, subst (λ k. from ≤ k) (sym s.0) z.1, subst (λ k. k < to) (sym s.0) z.2)

  pub wait_at : WaitsIn ok from to by h multi → ok only.0.0 ≡ true → (only.0.0.session ≢ by.session) × (from ≤ place) × (place < to)
  wait_at w t = ⊎_elim
      (λ (z : (only.0.0.session ≢ by.session) × (from ≤ place) × (place < to)). z)
      (λ (f : ok only.0.0 ≡ false). absurd (false≢true (sym f ∙ t)))
      (w place only.0.1 only.0.2 only.0.0 only.0.3)

-- what is told of the event of a front
pub ok_at : (ok : By → Bool) (all h : List MultiEvent) (n place : ℕ) (e : MultiEvent) (oks : List Bool) (d : Bool) → oks ≡ map (λ (e : MultiEvent). ok (multi_by e)) all → h ≡ take n all → slice_get h place ≡ Some e → get_or oks place d ≡ ok (multi_by e)
ok_at ok all h n place e oks d oks_are front s =
    let there : slice_get (take n all) place ≡ Some e = ap (λ (xs : List MultiEvent). slice_get xs place) (sym front) ∙ s in
    let whole : slice_get all place ≡ Some e = sym (at_take all n place (in_take all n place e there)) ∙ there in
    ap (λ (xs : List Bool). get_or xs place d) oks_are ∙ mapped all place whole
  where
    mapped : (all : List MultiEvent) (place : ℕ) → slice_get all place ≡ Some e → get_or (map (λ (e : MultiEvent). ok (multi_by e)) all) place d ≡ ok (multi_by e)
    mapped [] place s = absurd cc
    mapped (x ∷ all) zero s = let same : x ≡ e = cc in ap (λ (y : MultiEvent). ok (multi_by y)) same
    mapped (x ∷ all) (suc place) s = mapped all place s

-- a front and its round under other names
module _ (w : Waiting) (from to : ℕ) (by : By) (h : List MultiEvent) (n multi : ℕ) (f : from ≡ w.round.from) (t : to ≡ w.round.to) (b : by ≡ w.by) (e : h ≡ take n w.all) where
  pub waits_named : WaitsIn w.ok from to by h multi → WaitsIn w.ok w.round.from w.round.to w.by (take n w.all) multi
  waits_named a =
      subst (λ (x : List MultiEvent). WaitsIn w.ok w.round.from w.round.to w.by x multi) e
      (subst (λ (x : By). WaitsIn w.ok w.round.from w.round.to x h multi) b
      (subst (λ (x : ℕ). WaitsIn w.ok w.round.from x by h multi) t
      (subst (λ (x : ℕ). WaitsIn w.ok x to by h multi) f a)))

  pub named_waits : WaitsIn w.ok w.round.from w.round.to w.by (take n w.all) multi → WaitsIn w.ok from to by h multi
  named_waits a =
      subst (λ (x : ℕ). WaitsIn w.ok x to by h multi) (sym f)
      (subst (λ (x : ℕ). WaitsIn w.ok w.round.from x by h multi) (sym t)
      (subst (λ (x : By). WaitsIn w.ok w.round.from w.round.to x h multi) (sym b)
      (subst (λ (x : List MultiEvent). WaitsIn w.ok w.round.from w.round.to w.by x multi) (sym e) a)))
