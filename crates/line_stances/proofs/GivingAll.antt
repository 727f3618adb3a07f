-- The events that give ids, as many as there are levels that lack one.
use Rattle.std.proofs.Common.{◌≡◌, ℕ, zero, suc, ◌+◌, ◌<◌, List, [], ◌∷◌, length, take, drop, get_or, min, Some, None, Option, refl, sym, ap, add-one, ◌∙◌, arith}
use Rattle.std.specs.List.{fold}
use Rattle.std.proofs.lemmas.List.{take_min}
use Rattle.tx_events.specs.declared.event.By.{By}
use Rattle.tx_events.specs.declared.event.Event.{Event}
use Rattle.tx_model.specs.CommandEvents.{giving, level_events}
use Rattle.session_levels.specs.Stands.{last_of, levels_of, nameless}
use Rattle.line_stances.specs.Giving.{giving_all}

nameless_all : (by : By) (p : Option ℕ) (m : ℕ) (ids : List ℕ) → level_events by p (nameless m) ids ≡ giving_all by p (take m ids)
nameless_all by p zero [] = refl
nameless_all by p zero (id ∷ ids) = refl
nameless_all by p (suc m) [] = refl
nameless_all by p (suc m) (id ∷ ids) = ap (λ (t : List Event). giving by p id ∷ t) (nameless_all by (Some id) m ids)

levels_all : (by : By) (p : Option ℕ) (named : List ℕ) (m : ℕ) (ids : List ℕ) → level_events by p (levels_of named m) ids ≡ giving_all by (fold (λ _ id. Some id) p named) (take m ids)
levels_all by p [] m ids = nameless_all by p m ids
levels_all by p (x ∷ named) m ids = levels_all by (Some x) named m ids

-- as many as there are of both
pub giving_upto : (by : By) (named : List ℕ) (m : ℕ) (ids : List ℕ) (count : ℕ) → count ≡ min m (length ids) → level_events by None (levels_of named m) ids ≡ giving_all by (last_of named) (take count ids)
giving_upto by named m ids count is = levels_all by None named m ids ∙ ap (giving_all by (last_of named)) (sym (take_min m ids) ∙ ap (λ n. take n ids) (sym is))

giving_next : (by : By) (p : Option ℕ) (ids : List ℕ) (i id : ℕ) → i < length ids → id ≡ get_or ids i id → giving_all by p (drop i ids) ≡ giving by p id ∷ giving_all by (Some id) (drop (suc i) ids)
giving_next by p [] i id l e = absurd (omega arith)
giving_next by p (x ∷ ids) zero id l e = ap (λ y. giving by p y ∷ giving_all by (Some y) ids) (sym e)
giving_next by p (x ∷ ids) (suc i) id l e = giving_next by p ids i id (omega arith) e

-- one id more
pub giving_step : (by : By) (p : Option ℕ) (ids : List ℕ) (i id : ℕ) → i < length ids → id ≡ get_or ids i id → giving_all by p (drop i ids) ≡ giving by p id ∷ giving_all by (Some id) (drop (i + 1) ids)
giving_step by p ids i id l e = rw add-one (giving_next by p ids i id l e)
