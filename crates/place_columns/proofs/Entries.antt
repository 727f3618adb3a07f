-- What stands in a session's list, and in which order.
use Rattle.std.proofs.Common.{◌≡◌, ℕ, suc, zero, ◌+◌, ◌-◌, ◌<◌, ◌≤◌, List, [], ◌∷◌, length, get_or, refl, ap, sym, subst, ◌∙◌, arith, ⊎_elim, eqb-true, eq-eqb, Bool, true, false, cond, ◌==◌, Some}
use Rattle.std.specs.List.{AllByRecursion, slice_get}
use Rattle.std.proofs.lemmas.Bool.{cases_lt}
use Rattle.tx_events.specs.declared.event.By.{By}
use Rattle.place_columns.specs.declared.own.Own.{Own}
use Rattle.place_columns.specs.Owned.{AreInTurn, own_from, own_of}

abbrev at : By → ℕ → Own
at b n = record { command = b.command; place = n }

-- an entry is an event of the session
pub record IsOwn (session n : ℕ) (bys : List By) (o : Own) : Type 0 where
  pub from : n ≤ o.place
  pub by : By
  pub stands : slice_get bys (o.place - n) ≡ Some by
  pub session_is : by.session ≡ session
  pub command_is : by.command ≡ o.command

further : (session n : ℕ) (b : By) (bys : List By) (o : Own) → IsOwn session (n + 1) bys o → IsOwn session n (b ∷ bys) o
further session n b bys o i =
    let f = i.from in
    let e : o.place - n ≡ suc (o.place - (n + 1)) = omega arith in
    record {
      from = omega arith;
      by = i.by;
      stands = subst (λ k. slice_get (b ∷ bys) k ≡ Some i.by) (sym e) i.stands;
      session_is = i.session_is;
      command_is = i.command_is;
    }

here : (session n : ℕ) (b : By) (bys : List By) → b.session ≡ session → IsOwn session n (b ∷ bys) (at b n)
here session n b bys e =
    let z : n - n ≡ 0 = omega arith in
    record { from = omega arith; by = b; stands = subst (λ k. slice_get (b ∷ bys) k ≡ Some b) (sym z) refl; session_is = e; command_is = refl }

sound_step : (session n : ℕ) (b : By) (bys : List By) (d : Own)
    → ((j : ℕ) → j < length (own_from session (n + 1) bys) → IsOwn session (n + 1) bys (get_or (own_from session (n + 1) bys) j d))
    → (t : Bool) → (b.session == session) ≡ t → (j : ℕ) → j < length (cond t (at b n ∷ own_from session (n + 1) bys) (own_from session (n + 1) bys)) → IsOwn session n (b ∷ bys) (get_or (cond t (at b n ∷ own_from session (n + 1) bys) (own_from session (n + 1) bys)) j d)
sound_step session n b bys d f true e zero m = here session n b bys (eqb-true b.session session e)
sound_step session n b bys d f true e (suc j) m = further session n b bys (get_or (own_from session (n + 1) bys) j d) (f j (omega arith))
sound_step session n b bys d f false e j m = further session n b bys (get_or (own_from session (n + 1) bys) j d) (f j m)

pub sound : (session n : ℕ) (bys : List By) (k : ℕ) (d : Own) → k < length (own_from session n bys) → IsOwn session n bys (get_or (own_from session n bys) k d)
sound session n [] k d l = absurd (omega arith)
sound session n (b ∷ bys) k d l = sound_step session n b bys d (λ j m. sound session (n + 1) bys j d m) (b.session == session) refl k l

-- what holds of each entry holds of each event of the session
pub of_each : (P : Own → Type 0) (session n : ℕ) (bys : List By) → AllByRecursion P (own_from session n bys) → (i : ℕ) (b : By) → slice_get bys i ≡ Some b → b.session ≡ session → P (at b (n + i))
of_each P session n [] a i b e s = absurd cc
of_each P session n (c ∷ bys) a zero b e s =
    let same : c ≡ b = cc in
    let own : (c.session == session) ≡ true = eq-eqb c.session session (ap (λ (x : By). x.session) same ∙ s) in
    let first : AllByRecursion P (at c n ∷ own_from session (n + 1) bys) = subst (λ t. AllByRecursion P (cond t (at c n ∷ own_from session (n + 1) bys) (own_from session (n + 1) bys))) own a in
    let z : n ≡ n + 0 = omega arith in
    subst (λ k. P (at b k)) z (subst (λ (x : By). P (at x n)) same first.0)
of_each P session n (c ∷ bys) a (suc i) b e s =
    let z : (n + 1) + i ≡ n + suc i = omega arith in
    subst (λ k. P (at b k)) z (of_each P session (n + 1) bys (rest (c.session == session) a) i b e s)
  where
    rest : (t : Bool) → AllByRecursion P (cond t (at c n ∷ own_from session (n + 1) bys) (own_from session (n + 1) bys)) → AllByRecursion P (own_from session (n + 1) bys)
    rest true x = x.1
    rest false x = x

-- places ascend
ascend_step : (session n : ℕ) (b : By) (bys : List By) (d : Own)
    → ((i j : ℕ) → i < j → j < length (own_from session (n + 1) bys) → (get_or (own_from session (n + 1) bys) i d).place < (get_or (own_from session (n + 1) bys) j d).place)
    → (t : Bool) (i j : ℕ) → i < j → j < length (cond t (at b n ∷ own_from session (n + 1) bys) (own_from session (n + 1) bys)) → (get_or (cond t (at b n ∷ own_from session (n + 1) bys) (own_from session (n + 1) bys)) i d).place < (get_or (cond t (at b n ∷ own_from session (n + 1) bys) (own_from session (n + 1) bys)) j d).place
ascend_step session n b bys d f true i zero l m = absurd (omega arith)
ascend_step session n b bys d f true zero (suc j) l m = let o = (sound session (n + 1) bys j d (omega arith)).from in omega arith
ascend_step session n b bys d f true (suc i) (suc j) l m = f i j (omega arith) (omega arith)
ascend_step session n b bys d f false i j l m = f i j l m

pub ascends : (session n : ℕ) (bys : List By) (i j : ℕ) (d : Own) → i < j → j < length (own_from session n bys) → (get_or (own_from session n bys) i d).place < (get_or (own_from session n bys) j d).place
ascends session n [] i j d l m = absurd (omega arith)
ascends session n (b ∷ bys) i j d l m = ascend_step session n b bys d (λ i j l m. ascends session (n + 1) bys i j d l m) (b.session == session) i j l m

pub places_rise : (session : ℕ) (bys : List By) (i j : ℕ) (d : Own) → i ≤ j → j < length (own_of session bys) → (get_or (own_of session bys) i d).place ≤ (get_or (own_of session bys) j d).place
places_rise session bys i j d l m =
    ⊎_elim
    (λ (u : i < j). let a = ascends session 0 bys i j d u m in omega arith)
    (λ (u : j ≤ i). let same : i ≡ j = omega arith in subst (λ k. (get_or (own_of session bys) i d).place ≤ (get_or (own_of session bys) k d).place) same (omega arith))
    (cases_lt i j)

-- so do the commands, where the events come in turn
pub commands_rise : (session : ℕ) (bys : List By) (i j : ℕ) (d : Own) → AreInTurn bys → i ≤ j → j < length (own_of session bys) → (get_or (own_of session bys) i d).command ≤ (get_or (own_of session bys) j d).command
commands_rise session bys i j d turn l m =
    let a = sound session 0 bys i d (omega arith) in
    let b = sound session 0 bys j d m in
    let order : (get_or (own_of session bys) i d).place ≤ (get_or (own_of session bys) j d).place = places_rise session bys i j d l m in
    let c = turn ((get_or (own_of session bys) i d).place - 0) ((get_or (own_of session bys) j d).place - 0) a.by b.by (omega arith) a.stands b.stands (a.session_is ∙ sym b.session_is) in
    let e = a.command_is in let f = b.command_is in
    omega arith
