-- All events of some lines stand in the front that has only these.
use Rattle.std.proofs.Common.{◌≡◌, ℕ, zero, suc, ◌+◌, ◌<◌, ◌≤◌, Bool, true, false, cond, List, [], ◌∷◌, Some, take, ◌||◌, ◌&&◌, ◌==◌, refl, sym, ap, subst, ◌∙◌, arith}
use Rattle.std.specs.List.{AllByRecursion, count_by, list_any, slice_get}
use Rattle.std.proofs.lemmas.List.Sums.{sum_by-cons}
use Rattle.tx_events.specs.declared.event.By.{By}
use Rattle.tx_events.specs.declared.event.Event.{Event}
use Rattle.tx_events.specs.declared.multi.MultiEvent.{MultiEvent}
use Rattle.tx_events.specs.Events.{by_of, same_by}
use Rattle.tx_events.specs.Multis.{multi_by}
use Rattle.tx_events.proofs.ListSteps.{eqb-refl}
use Rattle.tx_model.specs.declared.report.Line.{Line}
use Rattle.tx_model.specs.Lines.{has_line}
use Rattle.report_law.specs.Places.{has_multi_line}
use Rattle.report_law.proofs.FrontsAtEvents.{AreWithin}
use Rattle.report_law.proofs.FrontsOfMultis.{AreMultisWithin}

one_yes : (b : Bool) (n : ℕ) → b ≡ true → cond b 1 0 + n ≡ n + 1
one_yes true n t = omega arith
one_yes false n t = absurd cc

-- how many pass of one item more, and of the rest
count_yes : {X : Type 0} (p : X → Bool) (x : X) (h : List X) → p x ≡ true → count_by p (x ∷ h) ≡ count_by p h + 1
count_yes {X} p x h t = sum_by-cons (λ (y : X). cond (p y) 1 0) x h ∙ one_yes (p x) (count_by p h) t

count_rest : {X : Type 0} (p : X → Bool) (x : X) (h : List X) → count_by p h ≤ count_by p (x ∷ h)
count_rest {X} p x h = let e : count_by p (x ∷ h) ≡ cond (p x) 1 0 + count_by p h = sum_by-cons (λ (y : X). cond (p y) 1 0) x h in omega arith

-- a front that has only what passes, and as many as pass, has all of these
all_in_front : {X : Type 0} (p : X → Bool) (h : List X) (n : ℕ) → AllByRecursion (λ x. p x ≡ true) (take n h) → count_by p h ≡ n → (k : ℕ) (x : X) → slice_get h k ≡ Some x → p x ≡ true → k < n
all_in_front p [] n a c k x at t = absurd cc
all_in_front p (y ∷ h) zero a c zero x at t =
    let same : y ≡ x = cc in
    let more : count_by p (y ∷ h) ≡ count_by p h + 1 = count_yes p y h (ap p same ∙ t) in absurd (omega arith)
all_in_front p (y ∷ h) zero a c (suc k) x at t =
    let rest = count_rest p y h in
    let none : count_by p h ≡ 0 = omega arith in
    let l : k < 0 = all_in_front p h zero tt none k x at t in absurd (omega arith)
all_in_front p (y ∷ h) (suc n) a c zero x at t = omega arith
all_in_front p (y ∷ h) (suc n) a c (suc k) x at t =
    let more : count_by p (y ∷ h) ≡ count_by p h + 1 = count_yes p y h a.0 in
    let rest : count_by p h ≡ n = omega arith in
    let l : k < n = all_in_front p h n a.1 rest k x at t in omega arith

both : (s t : Bool) → s ≡ true → t ≡ true → (s && t) ≡ true
both true t a b = b
both false t a b = absurd cc

same_self : (b : By) → same_by b b ≡ true
same_self b = both (b.session == b.session) (b.command == b.command) (eqb-refl b.session) (eqb-refl b.command)

or_left : (s t : Bool) → s ≡ true → (s || t) ≡ true
or_left true t e = refl
or_left false t e = absurd cc

or_right : (s t : Bool) → t ≡ true → (s || t) ≡ true
or_right true t e = refl
or_right false t e = e

-- the command of one of the lines
has_its : (lines : List Line) (i : ℕ) (l : Line) (b : By) → slice_get lines i ≡ Some l → b ≡ l.by → list_any (λ x. same_by x.by b) lines ≡ true
has_its [] i l b at is = absurd cc
has_its (x ∷ lines) zero l b at is =
    let same : x ≡ l = cc in
    let mine : same_by x.by b ≡ true = ap (λ (y : Line). same_by y.by b) same ∙ ap (same_by l.by) is ∙ same_self l.by in
    or_left (same_by x.by b) (list_any (λ (y : Line). same_by y.by b) lines) mine
has_its (x ∷ lines) (suc i) l b at is = or_right (same_by x.by b) (list_any (λ (y : Line). same_by y.by b) lines) (has_its lines i l b at is)

pub theirs_within : (lines : List Line) (h : List Event) → AllByRecursion (λ e. has_line lines e ≡ true) (take (count_by (has_line lines) h) h)
    → (i : ℕ) (l : Line) → slice_get lines i ≡ Some l → AreWithin h (count_by (has_line lines) h) l.by
theirs_within lines h a i l at p e there its =
    all_in_front (has_line lines) h (count_by (has_line lines) h) a refl p e there (has_its lines i l (by_of e) at its)

pub multis_within : (lines : List Line) (h : List MultiEvent) → AllByRecursion (λ e. has_multi_line lines e ≡ true) (take (count_by (has_multi_line lines) h) h)
    → (i : ℕ) (l : Line) → slice_get lines i ≡ Some l → AreMultisWithin h (count_by (has_multi_line lines) h) l.by
multis_within lines h a i l at p e there its =
    all_in_front (has_multi_line lines) h (count_by (has_multi_line lines) h) a refl p e there (has_its lines i l (multi_by e) at its)
