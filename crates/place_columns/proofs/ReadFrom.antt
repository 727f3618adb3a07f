-- From which place on a command may read.
use Rattle.std.proofs.Common.{◌≡◌, ℕ, suc, zero, ◌+◌, ◌-◌, ◌<◌, ◌≤◌, List, [], ◌∷◌, length, get_or, take, drop, refl, ap, sym, subst, ◌∙◌, arith, ⊎_elim, true, false, Some}
use Rattle.std.specs.List.{AllByRecursion, slice_get, slice_index_or}
use Rattle.std.proofs.lemmas.Bool.{cases_lt, false≢true}
use Rattle.std.proofs.lemmas.Bool.Decides.{nat_tests}
use Rattle.tx_events.specs.declared.event.By.{By}
use Rattle.place_columns.specs.declared.own.Own.{Own}
use Rattle.place_columns.specs.Owned.{AreInTurn, IsReadFrom, is_upto, own_of}
use Rattle.place_columns.proofs.Entries.{commands_rise, of_each, places_rise, sound}

-- ---- tests

upto_yes : (command to : ℕ) (o : Own) → is_upto command to o ≡ true → (o.command ≤ command) × (o.place < to)
upto_yes command to o e = grind (arith, nat_tests)

upto_is : (command to : ℕ) (o : Own) → o.command ≤ command → o.place < to → is_upto command to o ≡ true
upto_is command to o l m = grind (arith, nat_tests)

-- what is up to a command stands before the rest
pub parted : (session : ℕ) (bys : List By) (command to : ℕ) → AreInTurn bys → (i j : ℕ) (d : Own) → i ≤ j → j < length (own_of session bys) → is_upto command to (slice_index_or (own_of session bys) j d) ≡ true → is_upto command to (slice_index_or (own_of session bys) i d) ≡ true
parted session bys command to turn i j d l m e =
    let y = upto_yes command to (get_or (own_of session bys) j d) e in
    let a = commands_rise session bys i j d turn l m in
    let b = places_rise session bys i j d l m in
    upto_is command to (get_or (own_of session bys) i d) (omega arith) (omega arith)

-- ---- between two places

-- each event from p to before `to` has Q
pub all_between : (Q : By → Type 0) (bys : List By) (p to : ℕ) → ((i : ℕ) (b : By) → p ≤ i → i < to → slice_get bys i ≡ Some b → Q b) → AllByRecursion Q (drop p (take to bys))
all_between Q [] p zero f = none p
  where
    none : (p : ℕ) → AllByRecursion Q (drop p [])
    none zero = tt
    none (suc p) = tt
all_between Q [] p (suc to) f = none p
  where
    none : (p : ℕ) → AllByRecursion Q (drop p [])
    none zero = tt
    none (suc p) = tt
all_between Q (c ∷ bys) p zero f = none p
  where
    none : (p : ℕ) → AllByRecursion Q (drop p [])
    none zero = tt
    none (suc p) = tt
all_between Q (c ∷ bys) zero (suc to) f = (f 0 c (omega arith) (omega arith) refl, all_between Q bys 0 to (λ i b l m e. f (suc i) b (omega arith) (omega arith) e))
all_between Q (c ∷ bys) (suc p) (suc to) f = all_between Q bys p to (λ i b l m e. f (suc i) b (omega arith) (omega arith) e)

pub at_between : (Q : By → Type 0) (bys : List By) (p to i : ℕ) (b : By) → AllByRecursion Q (drop p (take to bys)) → p ≤ i → i < to → slice_get bys i ≡ Some b → Q b
at_between Q [] p to i b a l m e = absurd cc
at_between Q (c ∷ bys) p zero i b a l m e = absurd (omega arith)
at_between Q (c ∷ bys) zero (suc to) zero b a l m e = let same : c ≡ b = cc in subst Q same a.0
at_between Q (c ∷ bys) zero (suc to) (suc i) b a l m e = at_between Q bys 0 to i b a.1 (omega arith) (omega arith) e
at_between Q (c ∷ bys) (suc p) (suc to) zero b a l m e = absurd (omega arith)
at_between Q (c ∷ bys) (suc p) (suc to) (suc i) b a l m e = at_between Q bys p to i b a (omega arith) (omega arith) e

-- ---- the place

-- each entry up to the command stands before r
abbrev pub AreBefore : ℕ → ℕ → ℕ → List Own → Type 0
AreBefore command to r own = AllByRecursion (λ (o : Own). is_upto command to o ≡ true → o.place < r) own

-- and the last of them right before it, where there is one
pub record IsLast (session command to r : ℕ) (bys : List By) : Type 0 where
  pub place : ℕ
  pub behind : r ≡ place + 1
  pub below : place < to
  pub by : By
  pub stands : slice_get bys place ≡ Some by
  pub session_is : by.session ≡ session
  pub upto : by.command ≤ command

pub read_is : (bys : List By) (by : By) (to r : ℕ) → AreBefore by.command to r (own_of by.session bys) → (0 < r → IsLast by.session by.command to r bys) → IsReadFrom bys by to r
read_is bys by to r before last = λ p l. (
  λ later. ⊎_elim
      (λ (u : p < r).
      let o = last (omega arith) in
      let f = o.behind in let g = o.below in let h = o.upto in
      let m : by.command < o.by.command = at_between (λ (b : By). b.session ≡ by.session → by.command < b.command) bys p to o.place o.by later (omega arith) g o.stands o.session_is in
      absurd (omega arith))
      (λ (u : r ≤ p). u) (cases_lt p r),
  λ from. all_between (λ (b : By). b.session ≡ by.session → by.command < b.command) bys p to (λ i b m n e own.
      ⊎_elim (λ (u : by.command < b.command). u)
      (λ (u : b.command ≤ by.command).
      let k = of_each (λ (o : Own). is_upto by.command to o ≡ true → o.place < r) by.session 0 bys before i b e own (upto_is by.command to (record { command = b.command; place = 0 + i }) u (omega arith)) in
      absurd (omega arith))
      (cases_lt by.command b.command)),
)

-- from entry to entry
each_of : (P : Own → Type 0) (xs : List Own) → ((k : ℕ) (d : Own) → k < length xs → P (get_or xs k d)) → AllByRecursion P xs
each_of P [] f = tt
each_of P (x ∷ xs) f = (f 0 x (omega arith), each_of P xs (λ k d l. f (suc k) d (omega arith)))

-- the first `count` entries are up to the command, and no other one is
pub before_all : (session : ℕ) (bys : List By) (command to count : ℕ) (d : Own) → count ≤ length (own_of session bys) → 0 < count
    → ((k : ℕ) (d : Own) → count ≤ k → k < length (own_of session bys) → is_upto command to (slice_index_or (own_of session bys) k d) ≡ false)
    → AreBefore command to ((get_or (own_of session bys) (count - 1) d).place + 1) (own_of session bys)
before_all session bys command to count d bound some past =
    each_of (λ (o : Own). is_upto command to o ≡ true → o.place < (get_or (own_of session bys) (count - 1) d).place + 1) (own_of session bys)
    (λ k e l told. ⊎_elim
    (λ (u : k < count).
    let a : (get_or (own_of session bys) k d).place ≤ (get_or (own_of session bys) (count - 1) d).place = places_rise session bys k (count - 1) d (omega arith) (omega arith) in
    let same : get_or (own_of session bys) k e ≡ get_or (own_of session bys) k d = same_at (own_of session bys) k e d l in
    let place : (get_or (own_of session bys) k e).place ≡ (get_or (own_of session bys) k d).place = ap (λ (o : Own). o.place) same in
    omega arith)
    (λ (u : count ≤ k). absurd (false≢true (sym (past k e u l) ∙ told)))
    (cases_lt k count))
  where
    same_at : (xs : List Own) (k : ℕ) (d e : Own) → k < length xs → get_or xs k d ≡ get_or xs k e
    same_at [] k d e l = absurd (omega arith)
    same_at (x ∷ xs) zero d e l = refl
    same_at (x ∷ xs) (suc k) d e l = same_at xs k d e (omega arith)

pub before_none : (session : ℕ) (bys : List By) (command to : ℕ) → ((k : ℕ) (d : Own) → 0 ≤ k → k < length (own_of session bys) → is_upto command to (slice_index_or (own_of session bys) k d) ≡ false) → AreBefore command to 0 (own_of session bys)
before_none session bys command to past = each_of (λ (o : Own). is_upto command to o ≡ true → o.place < 0) (own_of session bys) (λ k d l told. absurd (false≢true (sym (past k d (omega arith) l) ∙ told)))

pub last_of : (session : ℕ) (bys : List By) (command to k : ℕ) (d : Own) → k < length (own_of session bys) → is_upto command to (get_or (own_of session bys) k d) ≡ true → IsLast session command to ((get_or (own_of session bys) k d).place + 1) bys
last_of session bys command to k d l told =
    let y = upto_yes command to (get_or (own_of session bys) k d) told in
    let s = sound session 0 bys k d l in
    let z : (get_or (own_of session bys) k d).place - 0 ≡ (get_or (own_of session bys) k d).place = omega arith in
    let e = s.command_is in
    record {
      place = (get_or (own_of session bys) k d).place;
      behind = refl;
      below = y.1;
      by = s.by;
      stands = subst (λ n. slice_get bys n ≡ Some s.by) z s.stands;
      session_is = s.session_is;
      upto = omega arith;
    }

-- ---- what a search of a session's list tells

pub parted_in : (session : ℕ) (bys : List By) (command to : ℕ) (xs : List Own) → xs ≡ own_of session bys → AreInTurn bys → (i j : ℕ) (d : Own) → i ≤ j → j < length xs → is_upto command to (slice_index_or xs j d) ≡ true → is_upto command to (slice_index_or xs i d) ≡ true
parted_in session bys command to xs is turn =
    subst (λ (xs : List Own). (i j : ℕ) (d : Own) → i ≤ j → j < length xs → is_upto command to (slice_index_or xs j d) ≡ true → is_upto command to (slice_index_or xs i d) ≡ true) (sym is) (parted session bys command to turn)

pub none_is : (bys : List By) (by : By) (to : ℕ) (xs : List Own) → xs ≡ own_of by.session bys → ((k : ℕ) (d : Own) → 0 ≤ k → k < length xs → is_upto by.command to (slice_index_or xs k d) ≡ false) → IsReadFrom bys by to 0
none_is bys by to xs is past =
    let at = subst (λ (xs : List Own). (k : ℕ) (d : Own) → 0 ≤ k → k < length xs → is_upto by.command to (slice_index_or xs k d) ≡ false) is past in
    read_is bys by to 0 (before_none by.session bys by.command to at) (λ l. absurd (omega arith))

pub some_is : (bys : List By) (by : By) (to count : ℕ) (d : Own) (xs : List Own) → xs ≡ own_of by.session bys → count ≤ length xs → 0 < count
    → ((k : ℕ) (d : Own) → 0 ≤ k → k < count → is_upto by.command to (slice_index_or xs k d) ≡ true)
    → ((k : ℕ) (d : Own) → count ≤ k → k < length xs → is_upto by.command to (slice_index_or xs k d) ≡ false)
    → IsReadFrom bys by to ((get_or xs (count - 1) d).place + 1)
some_is bys by to count d xs is bound some upto past =
    let own = own_of by.session bys in
    let bound_is : count ≤ length own = subst (λ (xs : List Own). count ≤ length xs) is bound in
    let upto_is : (k : ℕ) (d : Own) → 0 ≤ k → k < count → is_upto by.command to (slice_index_or own k d) ≡ true = subst (λ (xs : List Own). (k : ℕ) (d : Own) → 0 ≤ k → k < count → is_upto by.command to (slice_index_or xs k d) ≡ true) is upto in
    let past_is : (k : ℕ) (d : Own) → count ≤ k → k < length own → is_upto by.command to (slice_index_or own k d) ≡ false = subst (λ (xs : List Own). (k : ℕ) (d : Own) → count ≤ k → k < length xs → is_upto by.command to (slice_index_or xs k d) ≡ false) is past in
    subst (λ (xs : List Own). IsReadFrom bys by to ((get_or xs (count - 1) d).place + 1)) (sym is)
    (read_is bys by to ((get_or own (count - 1) d).place + 1) (before_all by.session bys by.command to count d bound_is some past_is)
    (λ l. last_of by.session bys by.command to (count - 1) d (omega arith) (upto_is (count - 1) d (omega arith) (omega arith))))

pub place_below : (command to count : ℕ) (d : Own) (xs : List Own) → 0 < count → ((k : ℕ) (d : Own) → 0 ≤ k → k < count → is_upto command to (slice_index_or xs k d) ≡ true) → (get_or xs (count - 1) d).place < to
place_below command to count d xs some upto = (upto_yes command to (get_or xs (count - 1) d) (upto (count - 1) d (omega arith) (omega arith))).1
