-- The lines of both histories, one by one.
use Rattle.std.proofs.Common.{◌≡◌, ◌≢◌, ◌↔◌, ℕ, suc, zero, ◌<◌, ◌≤◌, ◌==◌, List, [], ◌∷◌, ◌++◌, Some, get_or, length, replicate, set, take, refl, sym, ap, subst, ◌∙◌, arith, ⊎_elim, eqb-true}
use Rattle.std.specs.Prelude.{slice_index, Bool, IsTrue, false, true}
use Rattle.std.proofs.lemmas.Bool.{cases_Bool, false≢true}
use Rattle.std.specs.List.{All, AllByRecursion, Contains, slice_get}
use Rattle.std.proofs.lemmas.List.{get_or-set_other, get_or-set_same, length-replicate, length-set, length-take}
use Rattle.std.proofs.lemmas.Option.{slice_get-get_or, slice_get_within}
use Rattle.tx_events.proofs.ListSteps.{eqb-refl}
use Rattle.tx_events.specs.declared.multi.Member.{Member}
use Rattle.history_places.specs.declared.start.Start.{Start}
use Rattle.history_places.specs.Starts.{BeginsAs, start_of}
use Rattle.tx_events.specs.declared.event.Event.{Event}
use Rattle.tx_events.specs.declared.multi.MultiEvent.{MultiEvent}
use Rattle.tx_events.specs.History.{ComesInTurn, IsLegal, MayCome}
use Rattle.tx_events.specs.Multis.{AreLegalMultis, MultiMayCome, multi_by}
use Rattle.event_rules.proofs.Fronting.{all_taken, one_got, taken}
use Rattle.report_check.proofs.Walks.{placed_length}
use Rattle.report_law.specs.Events.{IsLawfulEvent, IsLawfulMulti}
use Rattle.report_law.specs.MultiLines.{of_records}
use Rattle.report_law.specs.ReportLines.{IsLawfulAt, ReportLine, event, multi, placed}
use Rattle.report_law.specs.Steps.{Judged}
use Rattle.event_rules.specs.Told.{IsItsEvent, IsItsMulti}
use Rattle.report_check.specs.Walked.{AreLatest}
use Rattle.report_check.proofs.Gens.{legal_agree, multi_may_agree}
use Rattle.report_check.proofs.Leaving.{placed_at}

module _ (j : Judged) where
  -- the history is legal up to where its lines are lawful
  pub legal_so_far : (p : ℕ) → AllByRecursion IsLawfulAt (placed (event j) 0 (take p j.life.events)) → IsLegal j.begun.counters (take p j.life.events)
  legal_so_far p a = record {
    rules = λ q e at. subst (λ (h : List Event). MayCome j.begun.counters h e) (sym (front q e at)) (its q e at).rule;
    turns = λ q e at. subst (λ (h : List Event). ComesInTurn h e) (sym (front q e at)) (its q e at).turn;
  }
    where
      front : (q : ℕ) (e : Event) → slice_get (take p j.life.events) q ≡ Some e → take q (take p j.life.events) ≡ take q j.life.events
      front q e at = let l = slice_get_within (take p j.life.events) q e at in let size = length-take p j.life.events in taken q p j.life.events (omega arith)

      its : (q : ℕ) (e : Event) → slice_get (take p j.life.events) q ≡ Some e → IsLawfulEvent j q e
      its q e at = placed_at (event j) (take p j.life.events) q e a at

  pub lawful_event : (p : ℕ) (e : Event) → (MayCome j.begun.counters (take p j.life.events) e × ComesInTurn (take p j.life.events) e) → IsItsEvent j p e → IsLawfulEvent j p e
  lawful_event p e may its = record { rule = may.0; turn = may.1; command = its.command; in_time = its.in_time; told = its.told; logged = its.logged }

  pub event_may : (p : ℕ) (e : Event) → IsLawfulEvent j p e → MayCome j.begun.counters (take p j.life.events) e × ComesInTurn (take p j.life.events) e
  event_may p e l = (l.rule, l.turn)

  pub event_its : (p : ℕ) (e : Event) → IsLawfulEvent j p e → IsItsEvent j p e
  event_its p e l = record { command = l.command; in_time = l.in_time; told = l.told; logged = l.logged }

  pub multis_so_far : (p : ℕ) → AllByRecursion IsLawfulAt (placed (multi j) 0 (take p j.life.multis)) → AreLegalMultis j.begun.counters (of_records j.begun.counters j.begun.recorded) (take p j.life.multis)
  multis_so_far p a q e at =
      let l = slice_get_within (take p j.life.multis) q e at in
      let size = length-take p j.life.multis in
      let front : take q (take p j.life.multis) ≡ take q j.life.multis = taken q p j.life.multis (omega arith) in
      subst (λ (h : List MultiEvent). MultiMayCome j.begun.counters (of_records j.begun.counters j.begun.recorded) h e) (sym front) (placed_at (multi j) (take p j.life.multis) q e a at).rule

  pub event_by_both : (p : ℕ) (e : Event) (b : Bool) → MayCome j.begun.counters (take p j.life.events) e × ComesInTurn (take p j.life.events) e → (IsTrue b ↔ IsItsEvent j p e) → IsTrue b ↔ IsLawfulEvent j p e
  event_by_both p e b may its = (λ t. lawful_event p e may (its.0 t), λ l. its.1 (event_its p e l))

  multi_its : (p : ℕ) (e : MultiEvent) → IsLawfulMulti j p e → IsItsMulti j p e
  multi_its p e l = record { command = l.command; in_time = l.in_time; told = l.told }

-- ---- an item of a list at its place

pub there : {X : Type 0} (xs items : List X) (p count : ℕ) → items ≡ xs → count ≡ length items → p < count → (x : X) × (slice_get xs p ≡ Some x)
there xs items p count are is l = let size : length items ≡ length xs = ap length are in one_got xs p (omega arith)

pub never_true : (b : Bool) (P : Type 0) → b ≡ false → (IsTrue b ↔ P) → P → ⊥
never_true b P isnt f l = let is : b ≡ true = f.1 l in absurd cc

pub all_placed : {X : Type 0} (line : ℕ → X → ReportLine) (xs items : List X) (p count : ℕ) → items ≡ xs → count ≡ length items → count ≤ p → AllByRecursion IsLawfulAt (placed line 0 (take p xs)) → AllByRecursion IsLawfulAt (placed line 0 xs) × (count ≡ length (placed line 0 xs))
all_placed {X} line xs items p count are is l a =
    let size : length items ≡ length xs = ap length are in (
      subst (λ (t : List X). AllByRecursion IsLawfulAt (placed line 0 t)) (all_taken p xs (omega arith)) a,
      is ∙ size ∙ sym (placed_length line 0 xs),
    )

-- the item that is read there
pub item_is : {X : Type 0} (xs items : List X) (p : ℕ) (x e : X) → items ≡ xs → x ≡ get_or items p x → slice_get xs p ≡ Some e → x ≡ e
item_is {X} xs items p x e are is at =
    let within = slice_get_within xs p e at in
    let got : slice_get xs p ≡ Some (get_or xs p x) = slice_get-get_or xs p x within in
    let same : get_or xs p x ≡ e = cc in
    is ∙ ap (λ (t : List X). get_or t p x) are ∙ same

pub all_there : {X : Type 0} (P : X → Type 0) (xs : List X) (p : ℕ) (e : X) → All P xs → slice_get xs p ≡ Some e → P e
all_there {X} P xs p e a at =
    let within = slice_get_within xs p e at in
    let got : slice_get xs p ≡ Some (get_or xs p e) = slice_get-get_or xs p e within in
    let same : get_or xs p e ≡ e = cc in
    subst P same (a p e within)

-- ---- multixact events

module _ (j : Judged) (starts : List Start) (offsets : (m o : ℕ) → Contains starts (start_of m o) ↔ ((ms : List Member) × Contains j.begun.recorded (m, o, ms))) where
  pub as_started : (h : List MultiEvent) → AreLegalMultis j.begun.counters (of_records j.begun.counters j.begun.recorded) h → AreLegalMultis j.begun.counters (BeginsAs starts) h
  as_started h l = legal_agree j.begun.counters (of_records j.begun.counters j.begun.recorded) (BeginsAs starts) (λ h m o k. (offsets m o).1 k) h l

  pub may_so : (h : List MultiEvent) (e : MultiEvent) (b : Bool) → (IsTrue b ↔ MultiMayCome j.begun.counters (BeginsAs starts) h e) → IsTrue b ↔ MultiMayCome j.begun.counters (of_records j.begun.counters j.begun.recorded) h e
  may_so h e b f = (
    λ t. multi_may_agree j.begun.counters (BeginsAs starts) (of_records j.begun.counters j.begun.recorded) (λ h m o k. (offsets m o).0 k) h e (f.0 t),
    λ m. f.1 (multi_may_agree j.begun.counters (of_records j.begun.counters j.begun.recorded) (BeginsAs starts) (λ h m o k. (offsets m o).1 k) h e m),
  )

abbrev pub IsInTurn : List MultiEvent → MultiEvent → Type 0
IsInTurn h e = AllByRecursion (λ f. (multi_by f).session ≡ (multi_by e).session → (multi_by f).command ≤ (multi_by e).command) h

pub multi_by_all : (j : Judged) (p : ℕ) (e : MultiEvent) (b : Bool) → MultiMayCome j.begun.counters (of_records j.begun.counters j.begun.recorded) (take p j.life.multis) e → IsInTurn (take p j.life.multis) e → (IsTrue b ↔ IsItsMulti j p e) → IsTrue b ↔ IsLawfulMulti j p e
multi_by_all j p e b may turn its = (
  λ t. let i = its.0 t in record { rule = may; turn = turn; command = i.command; in_time = i.in_time; told = i.told },
  λ l. its.1 (multi_its j p e l),
)

-- ---- each session's latest command

abbrev IsUpto : ℕ → ℕ → MultiEvent → Type 0
IsUpto session command f = (multi_by f).session ≡ session → (multi_by f).command ≤ command

zero_there : (n i : ℕ) → slice_index (replicate n 0) i ≡ 0
zero_there zero i = refl
zero_there (suc n) zero = refl
zero_there (suc n) (suc i) = zero_there n i

pub latest_none : (last : List ℕ) → last ≡ replicate 64 0 → AreLatest [] last
latest_none last is = record {
  size = let n : ℕ = 0 in ap length is ∙ length-replicate 64 n;
  each = λ s c l. (λ u. tt, λ a. let z : slice_index last s ≡ 0 = ap (λ (t : List ℕ). slice_index t s) is ∙ zero_there 64 s in omega arith);
}

map_all : {X : Type 0} (P Q : X → Type 0) → ((x : X) → P x → Q x) → (xs : List X) → AllByRecursion P xs → AllByRecursion Q xs
map_all P Q f [] a = tt
map_all P Q f (x ∷ xs) a = (f x a.0, map_all P Q f xs a.1)

join_all : {X : Type 0} (P : X → Type 0) (xs : List X) (x : X) → AllByRecursion P xs → P x → AllByRecursion P (xs ++ x ∷ [])
join_all P [] x a p = (p, tt)
join_all P (y ∷ xs) x a p = (a.0, join_all P xs x a.1 p)

last_all : {X : Type 0} (P : X → Type 0) (xs : List X) (x : X) → AllByRecursion P (xs ++ x ∷ []) → P x
last_all P [] x a = a.0
last_all P (y ∷ xs) x a = last_all P xs x a.1

front_all : {X : Type 0} (P : X → Type 0) (xs : List X) (x : X) → AllByRecursion P (xs ++ x ∷ []) → AllByRecursion P xs
front_all P [] x a = tt
front_all P (y ∷ xs) x a = (a.0, front_all P xs x a.1)

pub latest_push : (h : List MultiEvent) (e : MultiEvent) (last new : List ℕ) → AreLatest h last → (multi_by e).session < 64 → IsInTurn h e → new ≡ set last (multi_by e).session (multi_by e).command → AreLatest (h ++ e ∷ []) new
latest_push h e last new a few turn is = record {
  size = ap length is ∙ length-set last own command ∙ a.size;
  each = λ s c l. ⊎_elim
      (λ (u : (own == s) ≡ true).
      let same : own ≡ s = eqb-true own s u in
      let now : slice_index new s ≡ command = ap (λ (t : List ℕ). get_or t s 0) is ∙ ap (λ k. get_or (set last own command) k 0) (sym same) ∙ get_or-set_same last own command 0 (let z = a.size in omega arith) in (
        λ (v : slice_index new s ≤ c). join_all (IsUpto s c) h e (map_all (IsUpto own command) (IsUpto s c) (λ f g q. let k = g (q ∙ sym same) in omega arith) h turn) (λ q. omega arith),
        λ w. let k = last_all (IsUpto s c) h e w same in omega arith,
      ))
      (λ (u : (own == s) ≡ false).
      let apart : s ≢ own = λ q. false≢true (sym u ∙ ap (λ y. y == s) (sym q) ∙ eqb-refl s) in
      let now : slice_index new s ≡ slice_index last s = ap (λ (t : List ℕ). get_or t s 0) is ∙ get_or-set_other last own s command 0 apart in
      let old = a.each s c l in (
        λ (v : slice_index new s ≤ c). join_all (IsUpto s c) h e (old.0 (omega arith)) (λ q. absurd (apart (sym q))),
        λ w. let k = old.1 (front_all (IsUpto s c) h e w) in omega arith,
      ))
      (cases_Bool (own == s));
}
  where
    own : ℕ
    own = (multi_by e).session

    command : ℕ
    command = (multi_by e).command

pub never_both : (P : Type 0) → (P → ⊥) → (IsTrue false → P) × (P → IsTrue false)
never_both P never = (λ t. let z : false ≡ true = t in absurd cc, λ p. absurd (never p))

pub true_both : (P : Type 0) → P → (IsTrue true → P) × (P → IsTrue true)
true_both P p = (λ t. p, λ q. refl)

pub same_line : {X : Type 0} (xs : List X) (p : ℕ) (x y : X) → slice_get xs p ≡ Some x → slice_get xs p ≡ Some y → x ≡ y
same_line xs p x y a b = cc
