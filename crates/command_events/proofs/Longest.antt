-- The ids that a command's first events give are the most that a refused write may have given.
use Rattle.std.proofs.Common.{◌≡◌, ℕ, zero, suc, ◌+◌, ◌≤◌, List, [], ◌∷◌, Bool, true, Option, Some, None, length, take, refl, sym, ap, subst, ◌∙◌, arith}
use Rattle.std.specs.Prelude.{is_some}
use Rattle.std.proofs.lemmas.Grind.{common_steps}
use Rattle.tx_events.specs.declared.event.By.{By}
use Rattle.tx_events.specs.declared.event.Event.{Event}
use Rattle.tx_events.specs.declared.event.Event.TheVariants as events
use Rattle.tx_model.specs.CommandEvents.{giving, level_events}
use Rattle.tx_model.specs.Stance.{lacking, top_level}
use Rattle.report_law.specs.Kinds.{BeginAsTold, IsOfKind}
use Rattle.command_events.specs.Told.{all_given, id_before, id_given}

-- whether the first level that lacks an id stands below one that has one
abbrev pub below_first : Option ℕ → List (Option ℕ) → Bool
below_first p [] = is_some p
below_first p (Some x ∷ levels) = true
below_first p (None ∷ levels) = is_some p

below_some : (x : ℕ) (levels : List (Option ℕ)) → below_first (Some x) levels ≡ true
below_some x [] = refl
below_some x (Some y ∷ levels) = refl
below_some x (None ∷ levels) = refl

-- an id that an event gives in its place is that of the event that is told
kind_here : (by : By) (p : Option ℕ) (e : Event) (id : ℕ) → id_given (is_some p) e ≡ Some id → IsOfKind (giving by p id) e
kind_here by None (events.Id b x) id is = let same : x ≡ id = cc in same
kind_here by (Some q) (events.Sub b parent x) id is = let same : x ≡ id = cc in same
kind_here by None e id is = absurd cc
kind_here by (Some q) e id is = absurd cc

given_here : (by : By) (p : Option ℕ) (e : Event) (id : ℕ) → IsOfKind (giving by p id) e → id_given (is_some p) e ≡ Some id
given_here by None (events.Id b x) id k = ap (λ n. Some n) k
given_here by (Some q) (events.Sub b parent x) id k = ap (λ n. Some n) k
given_here by None e id k = absurd k
given_here by (Some q) e id k = absurd k

-- the first events are as told where their ids are
pub begin_given : (by : By) (p : Option ℕ) (levels : List (Option ℕ)) (n : ℕ) (es : List Event) → BeginAsTold (level_events by p levels (take n (all_given (below_first p levels) es))) es
begin_given by p [] n es = tt
begin_given by p (Some x ∷ levels) n es = subst (λ (b : Bool). BeginAsTold (level_events by (Some x) levels (take n (all_given b es))) es) (below_some x levels) (begin_given by (Some x) levels n es)
begin_given by p (None ∷ levels) zero es = tt
begin_given by p (None ∷ levels) (suc n) [] = tt
begin_given by p (None ∷ levels) (suc n) (e ∷ es) =
    by_id (id_given (is_some p) e) refl (λ id. subst (λ (b : Bool). BeginAsTold (level_events by (Some id) levels (take n (all_given b es))) es) (below_some id levels) (begin_given by (Some id) levels n es))
  where
    by_id : (o : Option ℕ) → id_given (is_some p) e ≡ o → ((id : ℕ) → BeginAsTold (level_events by (Some id) levels (take n (all_given true es))) es)
        → BeginAsTold (level_events by p (None ∷ levels) (take (suc n) (id_before o (all_given true es)))) (e ∷ es)
    by_id None is rest = tt
    by_id (Some id) is rest = (kind_here by p e id is, rest id)

lacks_one : (levels : List (Option ℕ)) → lacking (None ∷ levels) ≡ lacking levels + 1
lacks_one levels = grind (arith, common_steps)

-- and no longer list of ids is
pub given_longest : (by : By) (p : Option ℕ) (levels : List (Option ℕ)) (ids : List ℕ) (es : List Event) → length ids ≤ lacking levels → BeginAsTold (level_events by p levels ids) es
    → ids ≡ take (length ids) (all_given (below_first p levels) es)
given_longest by p [] [] es l b = refl
given_longest by p [] (id ∷ ids) es l b = absurd (omega arith)
given_longest by p (Some x ∷ levels) ids es l b = subst (λ (b : Bool). ids ≡ take (length ids) (all_given b es)) (below_some x levels) (given_longest by (Some x) levels ids es l b)
given_longest by p (None ∷ levels) [] es l b = refl
given_longest by p (None ∷ levels) (id ∷ ids) [] l b = absurd b
given_longest by p (None ∷ levels) (id ∷ ids) (e ∷ es) l b =
    let one = lacks_one levels in
    let rest : ids ≡ take (length ids) (all_given true es) = subst (λ (b : Bool). ids ≡ take (length ids) (all_given b es)) (below_some id levels) (given_longest by (Some id) levels ids es (omega arith) b.1) in
    ap (λ (t : List ℕ). id ∷ t) rest ∙ ap (λ (o : Option ℕ). take (suc (length ids)) (id_before o (all_given true es))) (sym (given_here by p e id b.0))

-- fewer ids give the first of the events
pub fewer_ids : (by : By) (p : Option ℕ) (levels : List (Option ℕ)) (ids : List ℕ) (k : ℕ) → level_events by p levels (take k ids) ≡ take (length (level_events by p levels (take k ids))) (level_events by p levels ids)
fewer_ids by p [] ids k = refl
fewer_ids by p (Some x ∷ levels) ids k = fewer_ids by (Some x) levels ids k
fewer_ids by p (None ∷ levels) [] zero = refl
fewer_ids by p (None ∷ levels) [] (suc k) = refl
fewer_ids by p (None ∷ levels) (id ∷ ids) zero = refl
fewer_ids by p (None ∷ levels) (id ∷ ids) (suc k) = ap (λ (t : List Event). giving by p id ∷ t) (fewer_ids by (Some id) levels ids k)

pub first_top : (levels : List (Option ℕ)) → below_first None levels ≡ is_some (top_level levels)
first_top [] = refl
first_top (Some x ∷ levels) = refl
first_top (None ∷ levels) = refl

pub no_ids : (by : By) (p : Option ℕ) (levels : List (Option ℕ)) → level_events by p levels [] ≡ []
no_ids by p [] = refl
no_ids by p (Some x ∷ levels) = no_ids by (Some x) levels
no_ids by p (None ∷ levels) = refl

pub take_shorter : (k n : ℕ) (xs : List ℕ) → k ≤ n → take k (take n xs) ≡ take k xs
take_shorter zero n xs l = refl
take_shorter (suc k) zero xs l = absurd (omega arith)
take_shorter (suc k) (suc n) [] l = refl
take_shorter (suc k) (suc n) (x ∷ xs) l = ap (λ (t : List ℕ). x ∷ t) (take_shorter k n xs (omega arith))
