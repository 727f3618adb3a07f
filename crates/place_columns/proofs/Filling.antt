-- A session's list grows with the events.
use Rattle.std.proofs.Common.{◌≡◌, ◌≢◌, ℕ, suc, zero, ◌+◌, ◌<◌, List, [], ◌∷◌, ◌++◌, length, get_or, set, ap, sym, subst, ◌∙◌, arith, ⊎_elim, eqb-true, Bool, true, false, cond, ◌==◌}
use Rattle.std.specs.Global.{Vec}
use Rattle.std.specs.List.{AllByRecursion}
use Rattle.std.proofs.lemmas.Bool.{cases_Bool, false≢true}
use Rattle.std.proofs.lemmas.List.{append-nil, get_or-set_other, get_or-set_same, length-set}
use Rattle.tx_events.specs.declared.event.By.{By}
use Rattle.tx_events.proofs.ListSteps.{eqb-refl}
use Rattle.place_columns.specs.declared.own.Own.{Own}
use Rattle.place_columns.specs.Owned.{AreAllOwn, own_from, own_of}

-- what one more event adds
more : ℕ → ℕ → By → List Own
more session n b = cond (b.session == session) (record { command = b.command; place = n } ∷ []) []

own_push : (session n : ℕ) (bys : List By) (b : By) → own_from session n (bys ++ b ∷ []) ≡ own_from session n bys ++ more session (n + length bys) b
unfolding more
own_push session n [] b = let z : n ≡ n + 0 = omega arith in ap (λ k. cond (b.session == session) (record { command = b.command; place = k } ∷ []) []) z
own_push session n (c ∷ bys) b =
    let z : (n + 1) + length bys ≡ n + suc (length bys) = omega arith in
    let rest : own_from session (n + 1) (bys ++ b ∷ []) ≡ own_from session (n + 1) bys ++ more session (n + suc (length bys)) b = own_push session (n + 1) bys b ∙ ap (λ k. own_from session (n + 1) bys ++ more session k b) z in
    step (c.session == session) rest
  where
    step : (t : Bool) → own_from session (n + 1) (bys ++ b ∷ []) ≡ own_from session (n + 1) bys ++ more session (n + suc (length bys)) b
        → cond t (record { command = c.command; place = n } ∷ own_from session (n + 1) (bys ++ b ∷ [])) (own_from session (n + 1) (bys ++ b ∷ [])) ≡ cond t (record { command = c.command; place = n } ∷ own_from session (n + 1) bys) (own_from session (n + 1) bys) ++ more session (n + suc (length bys)) b
    step true e = ap (λ (t : List Own). record { command = c.command; place = n } ∷ t) e
    step false e = e

own_more : (bys : List By) (b : By) → own_of b.session (bys ++ b ∷ []) ≡ own_of b.session bys ++ record { command = b.command; place = length bys } ∷ []
unfolding more
own_more bys b =
    let z : 0 + length bys ≡ length bys = omega arith in
    own_push b.session 0 bys b ∙ ap (λ t. own_of b.session bys ++ cond t (record { command = b.command; place = 0 + length bys } ∷ []) []) (eqb-refl b.session) ∙ ap (λ k. own_of b.session bys ++ record { command = b.command; place = k } ∷ []) z

other_same : (session : ℕ) (bys : List By) (b : By) → (b.session == session) ≡ false → own_of session (bys ++ b ∷ []) ≡ own_of session bys
unfolding more
other_same session bys b e = own_push session 0 bys b ∙ ap (λ t. own_of session bys ++ cond t (record { command = b.command; place = 0 + length bys } ∷ []) []) e ∙ append-nil (own_of session bys)

empty_at : (lists : List (Vec Own)) (s : ℕ) (d : Vec Own) → AllByRecursion (λ (l : Vec Own). l.items ≡ []) lists → s < length lists → (get_or lists s d).items ≡ []
empty_at [] s d a l = absurd (omega arith)
empty_at (v ∷ lists) zero d a l = a.0
empty_at (v ∷ lists) (suc s) d a l = empty_at lists s d a.1 (omega arith)

pub own_none : (sessions : ℕ) (lists : List (Vec Own)) → length lists ≡ sessions → AllByRecursion (λ (l : Vec Own). l.items ≡ []) lists → AreAllOwn [] sessions lists
own_none sessions lists size a = record { size = size; each = λ s l d. empty_at lists s d a (omega arith) }

pub own_after : (bys : List By) (b : By) (sessions : ℕ) (lists : List (Vec Own)) (v w : Vec Own) → AreAllOwn bys sessions lists → b.session < sessions → w ≡ get_or lists b.session w → v.items ≡ w.items ++ record { command = b.command; place = length bys } ∷ [] → AreAllOwn (bys ++ b ∷ []) sessions (set lists b.session v)
own_after bys b sessions lists v w a l w_is v_is = record {
  size = length-set lists b.session v ∙ a.size;
  each = λ s m d. ⊎_elim
      (λ (own : (b.session == s) ≡ true).
      let same : b.session ≡ s = eqb-true b.session s own in
      let now : get_or (set lists b.session v) s d ≡ v = ap (λ k. get_or (set lists b.session v) k d) (sym same) ∙ get_or-set_same lists b.session v d (subst (λ k. b.session < k) (sym a.size) l) in
      let theirs : w.items ≡ own_of b.session bys = subst (λ (u : Vec Own). u.items ≡ own_of b.session bys) (sym w_is) (a.each b.session l w) in
      ap (λ (u : Vec Own). u.items) now ∙ v_is ∙ ap (λ (t : List Own). t ++ record { command = b.command; place = length bys } ∷ []) theirs ∙ sym (own_more bys b) ∙ ap (λ k. own_of k (bys ++ b ∷ [])) same)
      (λ (other : (b.session == s) ≡ false).
      let apart : s ≢ b.session = λ q. false≢true (sym other ∙ ap (λ y. y == s) (sym q) ∙ eqb-refl s) in
      let now : get_or (set lists b.session v) s d ≡ get_or lists s d = get_or-set_other lists b.session s v d apart in
      ap (λ (u : Vec Own). u.items) now ∙ a.each s m d ∙ sym (other_same s bys b other))
      (cases_Bool (b.session == s));
}
