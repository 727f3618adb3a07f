-- From which place on a command may read, by a look back over its session's events.
use Rattle.std.proofs.Common.{◌≡◌, ℕ, suc, zero, ◌+◌, ◌-◌, ◌<◌, ◌≤◌, List, [], ◌∷◌, length, get_or, refl, ap, sym, subst, ◌∙◌, arith, ⊎_elim, true, false, nat_lt}
use Rattle.std.specs.List.{slice_index_or}
use Rattle.std.proofs.lemmas.Bool.{cases_lt}
use Rattle.std.proofs.lemmas.Bool.Decides.{nat_tests}
use Rattle.std.proofs.lemmas.Option.{slice_get-get_or}
use Rattle.tx_events.specs.declared.event.By.{By}
use Rattle.place_columns.specs.declared.own.Own.{Own}
use Rattle.place_columns.specs.Owned.{IsReadFrom, is_upto, own_of}
use Rattle.place_columns.proofs.Entries.{places_rise}
use Rattle.place_columns.proofs.ReadFrom.{before_all, last_of, read_is}
use Rattle.turn_links.specs.Links.{AreSkipped}

lower : (p q to : ℕ) → p ≤ q → nat_lt q to ≡ true → nat_lt p to ≡ true
lower p q to l e = grind (arith, nat_tests)

pub before_parted : (session : ℕ) (bys : List By) (to : ℕ) (xs : List Own) → xs ≡ own_of session bys → (i j : ℕ) (d : Own) → i ≤ j → j < length xs → nat_lt (slice_index_or xs j d).place to ≡ true → nat_lt (slice_index_or xs i d).place to ≡ true
before_parted session bys to xs is =
    subst (λ (xs : List Own). (i j : ℕ) (d : Own) → i ≤ j → j < length xs → nat_lt (slice_index_or xs j d).place to ≡ true → nat_lt (slice_index_or xs i d).place to ≡ true) (sym is)
    (λ i j d l m e. lower (get_or (own_of session bys) i d).place (get_or (own_of session bys) j d).place to (places_rise session bys i j d l m) e)

past_one : (command to : ℕ) (o : Own) → nat_lt o.place to ≡ false → is_upto command to o ≡ false
past_one command to o e = grind (arith, nat_tests)

later_one : (command to : ℕ) (o : Own) → command < o.command → is_upto command to o ≡ false
later_one command to o l = grind (arith, nat_tests)

-- behind the last one that is up to the command none is
pub past_all : (command to end count : ℕ) (xs : List Own) → ((k : ℕ) (d : Own) → end ≤ k → k < length xs → nat_lt (slice_index_or xs k d).place to ≡ false) → AreSkipped xs command count end
    → (k : ℕ) (d : Own) → count ≤ k → k < length xs → is_upto command to (slice_index_or xs k d) ≡ false
past_all command to end count xs f skipped k d l m =
    ⊎_elim
    (λ (u : k < end). later_one command to (get_or xs k d) (skipped k (get_or xs k d) l u (slice_get-get_or xs k d m)))
    (λ (u : end ≤ k). past_one command to (get_or xs k d) (f k d u m))
    (cases_lt k end)

pub same_at : (xs : List Own) (k : ℕ) (d e : Own) → k < length xs → slice_index_or xs k d ≡ slice_index_or xs k e
same_at [] k d e l = absurd (omega arith)
same_at (x ∷ xs) zero d e l = refl
same_at (x ∷ xs) (suc k) d e l = same_at xs k d e (omega arith)

before_yes : (command to : ℕ) (o : Own) → o.command ≤ command → nat_lt o.place to ≡ true → is_upto command to o ≡ true
before_yes command to o l e = grind (arith, nat_tests)

pub found_is : (bys : List By) (by : By) (to count : ℕ) (o : Own) (xs : List Own) → xs ≡ own_of by.session bys → 0 < count → count ≤ length xs → o ≡ slice_index_or xs (count - 1) o → o.command ≤ by.command → nat_lt o.place to ≡ true
    → ((k : ℕ) (d : Own) → count ≤ k → k < length xs → is_upto by.command to (slice_index_or xs k d) ≡ false) → IsReadFrom bys by to (o.place + 1)
found_is bys by to count o xs is l w at c e past =
    let own = own_of by.session bys in
    let bound : count ≤ length own = subst (λ (xs : List Own). count ≤ length xs) is w in
    let past_is : (k : ℕ) (d : Own) → count ≤ k → k < length own → is_upto by.command to (slice_index_or own k d) ≡ false = subst (λ (xs : List Own). (k : ℕ) (d : Own) → count ≤ k → k < length xs → is_upto by.command to (slice_index_or xs k d) ≡ false) is past in
    let here : o ≡ get_or own (count - 1) o = at ∙ ap (λ (t : List Own). slice_index_or t (count - 1) o) is in
    let told : is_upto by.command to (get_or own (count - 1) o) ≡ true = ap (is_upto by.command to) (sym here) ∙ before_yes by.command to o c e in
    subst (λ (p : Own). IsReadFrom bys by to (p.place + 1)) (sym here)
    (read_is bys by to ((get_or own (count - 1) o).place + 1) (before_all by.session bys by.command to count o bound l past_is)
    (λ m. last_of by.session bys by.command to (count - 1) o (omega arith) told))

pub below_is : (p to : ℕ) → nat_lt p to ≡ true → p < to
below_is p to e = grind (arith, nat_tests)
