-- The levels of a transaction: those with an id, and those without.
use Rattle.std.proofs.Common.{◌≡◌, ℕ, zero, suc, ◌+◌, ◌-◌, ◌<◌, ◌≤◌, List, [], ◌∷◌, ◌++◌, length, take, Some, None, Option, refl, sym, ap, ◌∙◌, arith}
use Rattle.std.proofs.lemmas.Grind.{common_steps}
use Rattle.std.specs.List.{fold}
use Rattle.tx_events.specs.declared.event.By.{By}
use Rattle.tx_events.specs.declared.event.Event.{Event}
use Rattle.tx_events.specs.Events.{given}
use Rattle.tx_model.specs.CommandEvents.{giving, level_events, innermost}
use Rattle.tx_model.specs.Stance.{filled, lacking, without_last, top_level}
use Rattle.session_levels.specs.Stands.{last_of}
use Rattle.session_levels.specs.Stands.{nameless, levels_of}
use Rattle.session_levels.proofs.CutLemmas.{last_apart}

pub nameless_length : (n : ℕ) → length (nameless n) ≡ n
nameless_length zero = refl
nameless_length (suc n) = ap suc (nameless_length n)

pub levels_length : (ids : List ℕ) (n : ℕ) → length (levels_of ids n) ≡ length ids + n
levels_length [] n = let k = nameless_length n in omega arith
levels_length (x ∷ ids) n = let k = levels_length ids n in omega arith

nameless_push : (n : ℕ) → nameless (suc n) ≡ nameless n ++ None ∷ []
nameless_push zero = refl
nameless_push (suc n) = ap (λ ls. None ∷ ls) (nameless_push n)

-- a savepoint more
pub level_more : (ids : List ℕ) (n : ℕ) → levels_of ids (n + 1) ≡ levels_of ids n ++ None ∷ []
level_more [] n = ap nameless (plus_one n) ∙ nameless_push n
  where
    plus_one : (n : ℕ) → n + 1 ≡ suc n
    plus_one n = omega arith
level_more (x ∷ ids) n = ap (λ ls. Some x ∷ ls) (level_more ids n)

take_but_last : {X : Type 0} (xs : List X) (x : X) → take (length (xs ++ x ∷ []) - 1) (xs ++ x ∷ []) ≡ xs
take_but_last {X = X} xs x = all xs (length (xs ++ x ∷ []) - 1) long
  where
    long : length (xs ++ x ∷ []) - 1 ≡ length xs
    long = grind (arith, common_steps)

    all : (ys : List X) (n : ℕ) → n ≡ length ys → take n (ys ++ x ∷ []) ≡ ys
    all [] zero e = refl
    all [] (suc n) e = absurd (omega arith)
    all (y ∷ ys) zero e = absurd (omega arith)
    all (y ∷ ys) (suc n) e = ap (λ t. y ∷ t) (all ys n (omega arith))

-- without the innermost one
pub level_less : (ids : List ℕ) (n m : ℕ) → n ≡ suc m → without_last (levels_of ids n) ≡ levels_of ids m
level_less ids n m e = ap (λ k. without_last (levels_of ids k)) (e ∙ one m) ∙ ap without_last (level_more ids m) ∙ take_but_last (levels_of ids m) None
  where
    one : (m : ℕ) → suc m ≡ m + 1
    one m = omega arith

map_push : (ids : List ℕ) (id : ℕ) → levels_of (ids ++ id ∷ []) 0 ≡ levels_of ids 0 ++ Some id ∷ []
map_push [] id = refl
map_push (x ∷ ids) id = ap (λ ls. Some x ∷ ls) (map_push ids id)

pub named_less : (ids : List ℕ) (id : ℕ) → without_last (levels_of (ids ++ id ∷ []) 0) ≡ levels_of ids 0
named_less ids id = ap without_last (map_push ids id) ∙ take_but_last (levels_of ids 0) (Some id)

pub no_levels : (ids : List ℕ) (n : ℕ) → length (levels_of ids n) ≡ 0 → levels_of ids n ≡ []
no_levels [] zero e = refl
no_levels [] (suc n) e = absurd (omega arith)
no_levels (x ∷ ids) n e = absurd (omega arith)

pub some_levels : (ids : List ℕ) (n : ℕ) → 1 ≤ length (levels_of ids n) → levels_of ids n ≡ [] → ⊥
some_levels ids n l e = let k : length (levels_of ids n) ≡ 0 = ap length e in omega arith

-- how many lack an id
nameless_lack : (n : ℕ) → lacking (nameless n) ≡ n
nameless_lack zero = refl
nameless_lack (suc n) = let k = nameless_lack n in grind (arith, common_steps)

pub levels_lack : (ids : List ℕ) (n : ℕ) → lacking (levels_of ids n) ≡ n
levels_lack [] n = nameless_lack n
levels_lack (x ∷ ids) n = levels_lack ids n

-- ids given from the top
filled_none : (n : ℕ) → filled (nameless n) [] ≡ nameless n
filled_none zero = refl
filled_none (suc n) = refl

nameless_filled : (ids : List ℕ) (n m : ℕ) → m ≡ length ids + n → filled (nameless m) ids ≡ levels_of ids n
nameless_filled [] n m e = let same : m ≡ n = omega arith in ap (λ k. filled (nameless k) []) same ∙ filled_none n
nameless_filled (x ∷ ids) n zero e = absurd (omega arith)
nameless_filled (x ∷ ids) n (suc m) e = ap (λ ls. Some x ∷ ls) (nameless_filled ids n m (omega arith))

pub levels_filled : (named ids : List ℕ) (n m : ℕ) → m ≡ length ids + n → filled (levels_of named m) ids ≡ levels_of (named ++ ids) n
levels_filled [] ids n m e = nameless_filled ids n m e
levels_filled (x ∷ named) ids n m e = ap (λ ls. Some x ∷ ls) (levels_filled named ids n m e)

-- the last id, and the events that give the ids
abbrev last_from : Option ℕ → List ℕ → Option ℕ
last_from p ids = fold (λ _ id. Some id) p ids

pub last_push : (ids : List ℕ) (id : ℕ) → last_of (ids ++ id ∷ []) ≡ Some id
last_push ids id = from ids None
  where
    from : (xs : List ℕ) (p : Option ℕ) → fold (λ _ y. Some y) p (xs ++ id ∷ []) ≡ Some id
    from [] p = refl
    from (x ∷ xs) p = from xs (Some x)

pub innermost_named : (ids : List ℕ) → innermost (levels_of ids 0) ≡ last_of ids
innermost_named ids = from ids None
  where
    from : (xs : List ℕ) (p : Option ℕ) → fold (λ outer level. level) p (levels_of xs 0) ≡ fold (λ _ y. Some y) p xs
    from [] p = refl
    from (x ∷ xs) p = from xs (Some x)

pub innermost_nameless : (ids : List ℕ) (n : ℕ) → innermost (levels_of ids (suc n)) ≡ None
innermost_nameless ids n = from ids None
  where
    rest : (n : ℕ) → fold (λ outer level. level) None (nameless n) ≡ None
    rest zero = refl
    rest (suc n) = rest n

    from : (xs : List ℕ) (p : Option ℕ) → fold (λ outer level. level) p (levels_of xs (suc n)) ≡ None
    from [] p = rest n
    from (x ∷ xs) p = from xs (Some x)

pub top_of_named : (top : ℕ) (ids : List ℕ) (n : ℕ) → top_level (levels_of (top ∷ ids) n) ≡ Some top
top_of_named top ids n = refl

pub top_of_nameless : (n : ℕ) → top_level (levels_of [] n) ≡ None
top_of_nameless zero = refl
top_of_nameless (suc n) = refl

nameless_none : (by : By) (p : Option ℕ) (n : ℕ) → level_events by p (nameless n) [] ≡ []
nameless_none by p zero = refl
nameless_none by p (suc n) = refl

pub levels_none : (by : By) (p : Option ℕ) (named : List ℕ) (n : ℕ) → level_events by p (levels_of named n) [] ≡ []
levels_none by p [] n = nameless_none by p n
levels_none by p (x ∷ named) n = levels_none by (Some x) named n

nameless_step : (by : By) (p : Option ℕ) (ids : List ℕ) (id n : ℕ) → length ids < n →
    level_events by p (nameless n) (ids ++ id ∷ []) ≡ level_events by p (nameless n) ids ++ giving by (last_from p ids) id ∷ []
nameless_step by p ids id zero l = absurd (omega arith)
nameless_step by p [] id (suc n) l = ap (λ t. giving by p id ∷ t) (nameless_none by (Some id) n)
nameless_step by p (x ∷ ids) id (suc n) l = ap (λ t. giving by p x ∷ t) (nameless_step by (Some x) ids id n (omega arith))

levels_from : (by : By) (p : Option ℕ) (named ids : List ℕ) (id n : ℕ) → length ids < n →
    level_events by p (levels_of named n) (ids ++ id ∷ []) ≡ level_events by p (levels_of named n) ids ++ giving by (last_from p (named ++ ids)) id ∷ []
levels_from by p [] ids id n l = nameless_step by p ids id n l
levels_from by p (x ∷ named) ids id n l = levels_from by (Some x) named ids id n l

-- one id more
pub level_step : (by : By) (named ids : List ℕ) (id n : ℕ) → length ids < n →
    level_events by None (levels_of named n) (ids ++ id ∷ []) ≡ level_events by None (levels_of named n) ids ++ giving by (last_of (named ++ ids)) id ∷ []
level_step by named ids id n l = levels_from by None named ids id n l

given_one : (by : By) (p : Option ℕ) (id : ℕ) (es : List Event) → given (giving by p id ∷ es) ≡ id ∷ given es
given_one by None id es = refl
given_one by (Some q) id es = refl

nameless_given : (by : By) (p : Option ℕ) (ids : List ℕ) (n : ℕ) → length ids ≤ n → given (level_events by p (nameless n) ids) ≡ ids
nameless_given by p [] n l = ap given (nameless_none by p n)
nameless_given by p (x ∷ ids) zero l = absurd (omega arith)
nameless_given by p (x ∷ ids) (suc n) l = given_one by p x (level_events by (Some x) (nameless n) ids) ∙ ap (λ t. x ∷ t) (nameless_given by (Some x) ids n (omega arith))

levels_given_from : (by : By) (p : Option ℕ) (named ids : List ℕ) (n : ℕ) → length ids ≤ n → given (level_events by p (levels_of named n) ids) ≡ ids
levels_given_from by p [] ids n l = nameless_given by p ids n l
levels_given_from by p (x ∷ named) ids n l = levels_given_from by (Some x) named ids n l

pub levels_given : (by : By) (named ids : List ℕ) (n : ℕ) → length ids ≤ n → given (level_events by None (levels_of named n) ids) ≡ ids
levels_given by named ids n l = levels_given_from by None named ids n l

pub named_taken : (ids : List ℕ) (n : ℕ) → n + 1 ≡ length ids → levels_of (take n ids) 0 ≡ without_last (levels_of ids 0)
named_taken ids n e = let r = last_apart ids n e in sym (ap (λ l. without_last (levels_of l 0)) r.1 ∙ named_less (take n ids) r.0)
