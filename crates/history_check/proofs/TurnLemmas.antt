-- Legal histories, event by event.
use Rattle.std.proofs.Common.{◌≡◌, ℕ, ◌+◌, ◌<◌, ◌≤◌, ◌↔◌, suc, zero, List, [], ◌∷◌, ◌++◌, refl, ap, sym, subst, ◌∙◌, Bool, true, false, ◌==◌, length, take, drop, get_or, set, arith, ⊎_elim, eqb-true, IsTrue}
use Rattle.std.specs.List.{All, AllByRecursion, filter, slice_index}
use Rattle.std.proofs.lemmas.List.{take_more, get_or-set_same, get_or-set_other, append-nil, length-set, take_at}
use Rattle.std.proofs.lemmas.Bool.{false≢true, cases_Bool}
use Rattle.tx_events.proofs.ListSteps.{eqb-refl}
use Rattle.std.proofs.lemmas.List.Elements.{All-from_recursion, recursion_from_All, All-push, filter-append}
use Rattle.tx_events.specs.declared.event.By.{By}
use Rattle.tx_events.specs.declared.event.Event.{Event}
use Rattle.tx_events.specs.declared.record.Counters.{Counters}
use Rattle.tx_events.specs.Events.{by_of, is_of}
use Rattle.tx_events.specs.History.{IsLegal, MayCome, ComesInTurn}
use Rattle.tx_events.proofs.PlaceLemmas.{each_place_none, each_place_last}
use Rattle.proc_table.specs.Table.{InTurn}
use Rattle.history_check.specs.Replays.{IsFirstIllegal, AreTurns}

pub legal_none : (base : Counters) → IsLegal base []
legal_none base = record { rules = each_place_none (MayCome base); turns = each_place_none ComesInTurn }

-- an event that breaks a rule
pub illegal_here : (base : Counters) (h : List Event) (p : ℕ) (e : Event) → p < length h → e ≡ get_or h p e → IsLegal base (take p h) → (MayCome base (take p h) e × InTurn (by_of e) (take p h) → ⊥) → IsFirstIllegal base h p
illegal_here base h p e l is legal broken = record {
  within = l;
  before = legal;
  not_then = λ then.
      let more : take (p + 1) h ≡ take p h ++ e ∷ [] = take_more h p e l ∙ ap (λ y. take p h ++ y ∷ []) (sym is) in
      let whole : IsLegal base (take p h ++ e ∷ []) = subst (IsLegal base) more then in
      broken (each_place_last (MayCome base) (take p h) e whole.rules, each_place_last ComesInTurn (take p h) e whole.turns);
}

-- ---- the numbers of last events

zero_at : (last : List ℕ) (s : ℕ) → AllByRecursion (λ n. n ≡ 0) last → slice_index last s ≡ 0
zero_at [] zero a = refl
zero_at [] (suc s) a = refl
zero_at (n ∷ last) zero a = a.0
zero_at (n ∷ last) (suc s) a = zero_at last s a.1

pub turns_none : (sessions : ℕ) (last : List ℕ) → length last ≡ sessions → AllByRecursion (λ n. n ≡ 0) last → AreTurns sessions [] last
turns_none sessions last size a = record { size = size; each = λ session command l. (λ t. All-from_recursion (λ (f : Event). (by_of f).command ≤ command) [] tt, λ t. let z = zero_at last session a in omega arith) }

InFirst : ℕ → List Event → Type 0
InFirst command h = All (λ (f : Event). (by_of f).command ≤ command) h

other_turn : (s c : ℕ) (h : List Event) (e : Event) (b : Bool) → ((by_of e).session == s) ≡ b → b ≡ false → filter (is_of s) (h ++ e ∷ []) ≡ filter (is_of s) h
other_turn s c h e b f g = filter-append (is_of s) h (e ∷ []) ∙ ap (λ (t : List Event). filter (is_of s) h ++ t) (rw (f ∙ g) refl) ∙ append-nil (filter (is_of s) h)

own_turn : (s : ℕ) (h : List Event) (e : Event) → ((by_of e).session == s) ≡ true → filter (is_of s) (h ++ e ∷ []) ≡ filter (is_of s) h ++ e ∷ []
own_turn s h e f = filter-append (is_of s) h (e ∷ []) ∙ ap (λ (t : List Event). filter (is_of s) h ++ t) (rw f refl)

last_one : (P : Event → Type 0) (xs : List Event) (e : Event) → AllByRecursion P (xs ++ e ∷ []) → P e
last_one P [] e a = a.0
last_one P (x ∷ xs) e a = last_one P xs e a.1

pub turns_push : (sessions : ℕ) (h : List Event) (e : Event) (last : List ℕ) → AreTurns sessions h last → (by_of e).session < sessions → slice_index last (by_of e).session ≤ (by_of e).command → AreTurns sessions (h ++ e ∷ []) (set last (by_of e).session (by_of e).command)
turns_push sessions h e last turns within turn = record {
  size = length-set last (by_of e).session (by_of e).command ∙ turns.size;
  each = λ s c l. let size = turns.size in ⊎_elim
      (λ (own : ((by_of e).session == s) ≡ true).
      let same : (by_of e).session ≡ s = eqb-true (by_of e).session s own in
      let now : slice_index (set last (by_of e).session (by_of e).command) s ≡ (by_of e).command = ap (slice_index (set last (by_of e).session (by_of e).command)) (sym same) ∙ get_or-set_same last (by_of e).session (by_of e).command 0 (omega arith) in (
        λ t.
            let before : InTurn (record { session = s; command = c }) h = (turns.each s c l).0 (let k : slice_index last (by_of e).session ≡ slice_index last s = ap (slice_index last) same in omega arith) in
            subst (λ xs. All (λ (f : Event). (by_of f).command ≤ c) xs) (sym (own_turn s h e own)) (All-push (λ (f : Event). (by_of f).command ≤ c) (filter (is_of s) h) e before (omega arith)),
        λ t.
            let at_end : (by_of e).command ≤ c = last_one (λ (f : Event). (by_of f).command ≤ c) (filter (is_of s) h) e (recursion_from_All (λ (f : Event). (by_of f).command ≤ c) (filter (is_of s) h ++ e ∷ []) (subst (λ xs. All (λ (f : Event). (by_of f).command ≤ c) xs) (own_turn s h e own) t)) in
            omega arith,
      ))
      (λ (other : ((by_of e).session == s) ≡ false).
      let now : slice_index (set last (by_of e).session (by_of e).command) s ≡ slice_index last s = get_or-set_other last (by_of e).session s (by_of e).command 0 (λ q. false≢true (sym other ∙ ap (λ y. y == s) (sym q) ∙ eqb-refl s)) in
      let kept = other_turn s c h e false other refl in (
        λ t. subst (λ xs. All (λ (f : Event). (by_of f).command ≤ c) xs) (sym kept) ((turns.each s c l).0 (omega arith)),
        λ t. let k : slice_index last s ≤ c = (turns.each s c l).1 (subst (λ xs. All (λ (f : Event). (by_of f).command ≤ c) xs) kept t) in omega arith,
      ))
      (cases_Bool ((by_of e).session == s));
}

pub in_turn_iff : (sessions : ℕ) (h : List Event) (last : List ℕ) (b : Bool) (by c : By) → AreTurns sessions h last → by.session < sessions → c ≡ by → IsTrue b ↔ (slice_index last c.session ≤ c.command) → IsTrue b ↔ InTurn by h
in_turn_iff sessions h last b by c turns l e i =
    let j : IsTrue b ↔ (slice_index last by.session ≤ by.command) = subst (λ (c : By). IsTrue b ↔ (slice_index last c.session ≤ c.command)) e i in
    let t = turns.each by.session by.command l in
    (λ x. t.0 (j.0 x), λ x. j.1 (t.1 x))

pub turns_after : (sessions sessions' : ℕ) (h h' : List Event) (e : Event) (last last' : List ℕ) (c : By) → AreTurns sessions h last → (by_of e).session < sessions → c ≡ by_of e → slice_index last c.session ≤ c.command → sessions' ≡ sessions → h' ≡ h ++ e ∷ [] → last' ≡ set last c.session c.command → AreTurns sessions' h' last'
turns_after sessions sessions' h h' e last last' c turns l f turn s g k =
    let t : slice_index last (by_of e).session ≤ (by_of e).command = subst (λ (c : By). slice_index last c.session ≤ c.command) f turn in
    let k' : last' ≡ set last (by_of e).session (by_of e).command = k ∙ ap (λ (c : By). set last c.session c.command) f in
    rw (s, g, k') (turns_push sessions h e last turns l t)

pub illegal_at : (base base' : Counters) (h h' : List Event) (p : ℕ) (e : Event) → h' ≡ take p h → base' ≡ base → p < length h → e ≡ get_or h p e → IsLegal base' h' → (MayCome base' h' e × InTurn (by_of e) h' → ⊥) → IsFirstIllegal base h p
illegal_at base base' h h' p e f g l is legal broken =
    illegal_here base h p e l is (subst (λ (b : Counters). IsLegal b (take p h)) g (subst (IsLegal base') f legal)) (λ m. broken (subst (λ (b : Counters). MayCome b h' e) (sym g) (subst (λ (t : List Event). MayCome base t e) (sym f) m.0), subst (InTurn (by_of e)) (sym f) m.1))

pub one_further : (h h' new : List Event) (p : ℕ) (e : Event) → h' ≡ take p h → p < length h → e ≡ get_or h p e → new ≡ h' ++ e ∷ [] → new ≡ take (p + 1) h
one_further h h' new p e f l is g = g ∙ ap (λ t. t ++ e ∷ []) f ∙ sym (take_more h p e l ∙ ap (λ y. take p h ++ y ∷ []) (sym is))

pub written_back : (n : ℕ) (xs ys : List ℕ) → length xs ≡ length ys → n ≡ length ys → take n (xs ++ drop (length xs) ys) ≡ xs
written_back n xs ys l m = take_at xs (drop (length xs) ys) n (l ∙ sym m)
