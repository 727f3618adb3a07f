-- The number of a command's line.
use Rattle.std.proofs.Common.{◌≡◌, ℕ, suc, zero, ◌+◌, ◌-◌, ◌<◌, ◌≤◌, List, [], ◌∷◌, length, get_or, refl, ap, sym, subst, ◌∙◌, arith, ⊎_elim, Bool, true, false, cond, not, ◌==◌, nat_lt, Some, eqb-true, eq-eqb}
use Rattle.std.specs.Global.{Vec}
use Rattle.std.specs.List.{All, AllByRecursion, slice_get, slice_index_or}
use Rattle.std.proofs.lemmas.Bool.{cases_Bool, cases_lt, false≢true}
use Rattle.std.proofs.lemmas.Bool.Decides.{nat_tests}
use Rattle.tx_events.specs.declared.event.By.{By}
use Rattle.tx_events.specs.Events.{same_by}
use Rattle.place_columns.specs.declared.own.Own.{Own}
use Rattle.place_columns.specs.Owned.{own_of}
use Rattle.place_columns.proofs.Entries.{IsOwn, commands_rise, of_each, sound}
use Rattle.place_columns.specs.declared.lines.LineAt.{LineAt}
use Rattle.place_columns.specs.declared.lines.OwnLine.{OwnLine}
use Rattle.place_columns.specs.Lined.{AreInOrder, bys_of, number_of}
use Rattle.place_columns.specs.Tables.{IsLineTable}

-- ---- one command

pub same_is : (a b : By) → same_by a b ≡ true → a ≡ b
same_is a b s =
    let f : a.session ≡ b.session = grind (arith, nat_tests) in
    let g : a.command ≡ b.command = grind (arith, nat_tests) in
    ap (λ (n : ℕ). record { session = n; command = a.command }) f ∙ ap (λ (n : ℕ). record { session = b.session; command = n }) g

pub same_self : (a : By) → same_by a a ≡ true
same_self a = grind (arith, nat_tests)

pub same_swap : (a b : By) → same_by a b ≡ same_by b a
same_swap a b = grind (arith, nat_tests)

later_other : (a b : By) → a.command < b.command → same_by a b ≡ false
later_other a b l = grind (arith, nat_tests)

-- ---- its number

pub number_within : (lines : List LineAt) (b : By) → number_of lines b ≤ length lines
number_within [] b = omega arith
number_within (l ∷ lines) b = step (same_by l.by b) (number_within lines b)
  where
    step : (t : Bool) → number_of lines b ≤ length lines → cond (not t) (1 + number_of lines b) 0 ≤ suc (length lines)
    step true w = omega arith
    step false w = omega arith

-- it is that of the command's one line
pub number_is : (lines : List LineAt) (i : ℕ) (b : By) → AreInOrder (bys_of lines) → slice_get (bys_of lines) i ≡ Some b → number_of lines b ≡ i
number_is [] i b order e = absurd cc
number_is (l ∷ lines) zero b order e =
    let same : l.by ≡ b = cc in
    let own : same_by l.by b ≡ true = subst (λ (x : By). same_by l.by x ≡ true) same (same_self l.by) in
    ap (λ t. cond (not t) (1 + number_of lines b) 0) own
number_is (l ∷ lines) (suc i) b order e =
    let rest : number_of lines b ≡ i = number_is lines i b (λ p q x y m f g s. order (suc p) (suc q) x y (omega arith) f g s) e in
    let other : same_by l.by b ≡ false = ⊎_elim (λ (t : same_by l.by b ≡ true).
    let same : l.by ≡ b = same_is l.by b t in
    let less : l.by.command < b.command = order 0 (suc i) l.by b (omega arith) refl e (ap (λ (x : By). x.session) same) in
    let even : l.by.command ≡ b.command = ap (λ (x : By). x.command) same in
    absurd (omega arith)) (λ (t : same_by l.by b ≡ false). t) (cases_Bool (same_by l.by b)) in
    let z : 1 + number_of lines b ≡ suc i = omega arith in
    ap (λ t. cond (not t) (1 + number_of lines b) 0) other ∙ z

-- that of no line, where it has none
pub number_none : (lines : List LineAt) (b : By) → ((i : ℕ) → slice_get (bys_of lines) i ≡ Some b → ⊥) → number_of lines b ≡ length lines
number_none [] b never = refl
number_none (l ∷ lines) b never =
    let rest : number_of lines b ≡ length lines = number_none lines b (λ i e. never (suc i) e) in
    let other : same_by l.by b ≡ false = ⊎_elim (λ (t : same_by l.by b ≡ true). absurd (never 0 (ap (λ (x : By). Some x) (same_is l.by b t)))) (λ (t : same_by l.by b ≡ false). t) (cases_Bool (same_by l.by b)) in
    let z : 1 + number_of lines b ≡ suc (length lines) = omega arith in
    ap (λ t. cond (not t) (1 + number_of lines b) 0) other ∙ z

-- the line of this number is the command's
pub by_at_number : (lines : List LineAt) (b : By) → number_of lines b < length lines → slice_get (bys_of lines) (number_of lines b) ≡ Some b
by_at_number [] b l = absurd (omega arith)
by_at_number (x ∷ lines) b l = ⊎_elim
    (λ (t : same_by x.by b ≡ true).
    let here : number_of (x ∷ lines) b ≡ 0 = ap (λ t. cond (not t) (1 + number_of lines b) 0) t in
    ap (λ n. slice_get (bys_of (x ∷ lines)) n) here ∙ ap (λ (y : By). Some y) (same_is x.by b t))
    (λ (t : same_by x.by b ≡ false).
    let z : 1 + number_of lines b ≡ suc (number_of lines b) = omega arith in
    let there : number_of (x ∷ lines) b ≡ suc (number_of lines b) = ap (λ t. cond (not t) (1 + number_of lines b) 0) t ∙ z in
    ap (λ n. slice_get (bys_of (x ∷ lines)) n) there ∙ by_at_number lines b (omega arith))
    (cases_Bool (same_by x.by b))

below : {X : Type 0} (xs : List X) (k : ℕ) (x : X) → slice_get xs k ≡ Some x → k < length xs
below [] k x e = absurd cc
below (y ∷ xs) zero x e = omega arith
below (y ∷ xs) (suc k) x e = let l = below xs k x e in omega arith

got : {X : Type 0} (xs : List X) (k : ℕ) (x : X) → slice_get xs k ≡ Some x → get_or xs k x ≡ x
got [] k x e = absurd cc
got (y ∷ xs) zero x e = let same : y ≡ x = cc in same
got (y ∷ xs) (suc k) x e = got xs k x e

below_lines : (lines : List LineAt) (i : ℕ) (b : By) → slice_get (bys_of lines) i ≡ Some b → i < length lines
below_lines [] i b e = absurd cc
below_lines (x ∷ lines) zero b e = omega arith
below_lines (x ∷ lines) (suc i) b e = let l = below_lines lines i b e in omega arith

-- an event is of the command whose line has this number, exactly where its line has it
pub number_tells : (lines : List LineAt) (i : ℕ) (b c : By) → AreInOrder (bys_of lines) → slice_get (bys_of lines) i ≡ Some b → (number_of lines c == i) ≡ same_by c b
number_tells lines i b c order e = ⊎_elim
    (λ (t : same_by c b ≡ true).
    let n : number_of lines c ≡ i = ap (λ (x : By). number_of lines x) (same_is c b t) ∙ number_is lines i b order e in
    eq-eqb (number_of lines c) i n ∙ sym t)
    (λ (t : same_by c b ≡ false). ⊎_elim
    (λ (u : (number_of lines c == i) ≡ true).
    let n : number_of lines c ≡ i = eqb-true (number_of lines c) i u in
    let within : i < length lines = below_lines lines i b e in
    let at : slice_get (bys_of lines) i ≡ Some c = subst (λ k. slice_get (bys_of lines) k ≡ Some c) n (by_at_number lines c (omega arith)) in
    let same : c ≡ b = cc in
    absurd (false≢true (sym t ∙ ap (λ (x : By). same_by x b) same ∙ same_self b)))
    (λ (u : (number_of lines c == i) ≡ false). u ∙ sym t)
    (cases_Bool (number_of lines c == i)))
    (cases_Bool (same_by c b))

-- ---- found among the session's lines

pub rises : (bys : List By) → AreInOrder bys → (p q : ℕ) (a b : By) → p ≤ q → slice_get bys p ≡ Some a → slice_get bys q ≡ Some b → a.session ≡ b.session → a.command ≤ b.command
rises bys order p q a b l e f s = ⊎_elim
    (λ (u : p < q). let m = order p q a b u e f s in omega arith)
    (λ (u : q ≤ p).
    let same : p ≡ q = omega arith in
    let there : slice_get bys q ≡ Some a = subst (λ k. slice_get bys k ≡ Some a) same e in
    let one : a ≡ b = cc in
    let even : a.command ≡ b.command = ap (λ (x : By). x.command) one in
    omega arith)
    (cases_lt p q)

below_both : (x y n : ℕ) → x ≤ y → nat_lt y n ≡ true → nat_lt x n ≡ true
below_both x y n l e = grind (arith, nat_tests)

pub parted : (bys : List By) (session command : ℕ) (xs : List Own) → xs ≡ own_of session bys → AreInOrder bys → (i j : ℕ) (d : Own) → i ≤ j → j < length xs → nat_lt (slice_index_or xs j d).command command ≡ true → nat_lt (slice_index_or xs i d).command command ≡ true
parted bys session command xs is order =
    subst (λ (xs : List Own). (i j : ℕ) (d : Own) → i ≤ j → j < length xs → nat_lt (slice_index_or xs j d).command command ≡ true → nat_lt (slice_index_or xs i d).command command ≡ true) (sym is)
    (λ i j d l m e. below_both (get_or (own_of session bys) i d).command (get_or (own_of session bys) j d).command command (commands_rise session bys i j d (rises bys order) l m) e)

-- an entry of the command
pub found : (lines : List LineAt) (b : By) (xs : List Own) (k : ℕ) (o : Own) → xs ≡ own_of b.session (bys_of lines) → AreInOrder (bys_of lines) → slice_get xs k ≡ Some o → o.command ≡ b.command → o.place ≡ number_of lines b
found lines b xs k o is order at e =
    let l = below xs k o at in
    let here = got xs k o at in
    let s : IsOwn b.session 0 (bys_of lines) o = subst (λ (x : Own). IsOwn b.session 0 (bys_of lines) x) here
    (subst (λ (xs : List Own). k < length xs → IsOwn b.session 0 (bys_of lines) (get_or xs k o)) (sym is) (λ m. sound b.session 0 (bys_of lines) k o m) l) in
    let z : o.place - 0 ≡ o.place = omega arith in
    let f : s.by ≡ b = ap (λ (n : ℕ). record { session = n; command = s.by.command }) s.session_is ∙ ap (λ (n : ℕ). record { session = b.session; command = n }) (s.command_is ∙ e) in
    sym (number_is lines o.place b order (subst (λ n. slice_get (bys_of lines) n ≡ Some s.by) z s.stands ∙ ap (λ (x : By). Some x) f))

-- no entry of it
pub absent : (lines : List LineAt) (b : By) (xs : List Own) → xs ≡ own_of b.session (bys_of lines) → AllByRecursion (λ (o : Own). o.command ≡ b.command → ⊥) xs → length lines ≡ number_of lines b
absent lines b xs is never =
    let a : AllByRecursion (λ (o : Own). o.command ≡ b.command → ⊥) (own_of b.session (bys_of lines)) = subst (λ (xs : List Own). AllByRecursion (λ (o : Own). o.command ≡ b.command → ⊥) xs) is never in
    sym (number_none lines b (λ i e. of_each (λ (o : Own). o.command ≡ b.command → ⊥) b.session 0 (bys_of lines) a i b e refl refl))

lt_yes : (x n : ℕ) → nat_lt x n ≡ true → x < n
lt_yes x n e = grind (arith, nat_tests)

lt_no : (x n : ℕ) → nat_lt x n ≡ false → n ≤ x
lt_no x n e = grind (arith, nat_tests)

-- where a search of the session's lines ends elsewhere
pub none_at : (bys : List By) (b : By) (xs : List Own) (at : ℕ) → xs ≡ own_of b.session bys → AreInOrder bys
    → ((k : ℕ) (d : Own) → 0 ≤ k → k < at → nat_lt (slice_index_or xs k d).command b.command ≡ true)
    → ((k : ℕ) (d : Own) → at ≤ k → k < length xs → nat_lt (slice_index_or xs k d).command b.command ≡ false)
    → ((o : Own) → slice_get xs at ≡ Some o → o.command ≡ b.command → ⊥)
    → AllByRecursion (λ (o : Own). o.command ≡ b.command → ⊥) xs
none_at bys b xs at is order below past other = each_of (λ (o : Own). o.command ≡ b.command → ⊥) xs (λ k d l e.
    ⊎_elim
    (λ (u : k < at). let m = lt_yes (get_or xs k d).command b.command (below k d (omega arith) u) in absurd (omega arith))
    (λ (u : at ≤ k).
    let here : at < length xs = omega arith in
    let first : b.command ≤ (get_or xs at d).command = lt_no (get_or xs at d).command b.command (past at d (omega arith) here) in
    let rise : (get_or xs at d).command ≤ (get_or xs k d).command = rise_in at k d u l in
    let even : (get_or xs at d).command ≡ b.command = omega arith in
    absurd (other (get_or xs at d) (get_at xs at d here) even))
    (cases_lt k at))
  where
    each_of : (P : Own → Type 0) (xs : List Own) → ((k : ℕ) (d : Own) → k < length xs → P (get_or xs k d)) → AllByRecursion P xs
    each_of P [] f = tt
    each_of P (x ∷ xs) f = (f 0 x (omega arith), each_of P xs (λ k d l. f (suc k) d (omega arith)))

    get_at : (xs : List Own) (k : ℕ) (d : Own) → k < length xs → slice_get xs k ≡ Some (get_or xs k d)
    get_at [] k d l = absurd (omega arith)
    get_at (x ∷ xs) zero d l = refl
    get_at (x ∷ xs) (suc k) d l = get_at xs k d (omega arith)

    rise_in : (i j : ℕ) (d : Own) → i ≤ j → j < length xs → (get_or xs i d).command ≤ (get_or xs j d).command
    rise_in = subst (λ (xs : List Own). (i j : ℕ) (d : Own) → i ≤ j → j < length xs → (get_or xs i d).command ≤ (get_or xs j d).command) (sym is)
        (λ i j d l m. commands_rise b.session bys i j d (rises bys order) l m)

-- no line's session is that far
pub number_beyond : (lines : List LineAt) (own : List (Vec OwnLine)) (b : By) → IsLineTable lines own → length own ≤ b.session → length lines ≡ number_of lines b
number_beyond lines own b t far = sym (number_none lines b (λ i e. beyond (bys_of lines) i t.within e))
  where
    beyond : (bys : List By) (i : ℕ) → All (λ (b : By). b.session < length own) bys → slice_get bys i ≡ Some b → ⊥
    beyond bys i a e =
        let l = a i b (below bys i b e) in
        let at : get_or bys i b ≡ b = got bys i b e in
        let s : (get_or bys i b).session ≡ b.session = ap (λ (x : By). x.session) at in
        absurd (omega arith)
