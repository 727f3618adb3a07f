-- The ids that a member may mean, by the two ends of its round.
use Rattle.std.proofs.Common.{◌≡◌, ℕ, zero, suc, ◌+◌, ◌-◌, ◌^◌, ◌<◌, ◌≤◌, ◌⊎◌, ⊎_elim, inl, inr, Bool, true, false, cond, nat_lt, Option, Some, None, List, [], ◌∷◌, length, take, refl, ap, sym, subst, arith}
use Rattle.std.specs.List.{AllByRecursion, AllZip, cons_option}
use Rattle.std.proofs.lemmas.Bool.{cases_lt}
use Rattle.tx_events.specs.Ids.{low_half, next_id}
use Rattle.tx_events.specs.declared.event.By.{By}
use Rattle.tx_events.specs.declared.event.Event.{Event}
use Rattle.tx_events.specs.declared.multi.Member.{Member}
use Rattle.tx_events.specs.declared.record.Counters.{Counters}
use Rattle.tx_events.specs.Events.{given, given_by}
use Rattle.tx_events.specs.History.{next_given, nth_id}
use Rattle.tx_model.specs.declared.command.Pair.{Pair}
use Rattle.tx_model.specs.Replies.{RoundSpan}
use Rattle.report_law.specs.MultiLines.{IsMemberOf}
use Rattle.command_events.specs.declared.reach.Reach.{Reach}
use Rattle.command_events.specs.Reached.{IsMember, IsReach, MayBeMember}
use Rattle.tx_events.proofs.Nearness.{near_again, near_is}

-- ---- a number that rises by small steps

module _ (f : ℕ → ℕ) (step : (p : ℕ) → (f p ≤ f (suc p)) × (f (suc p) ≤ f p + 4)) where
  rises : (p q : ℕ) → p ≤ q → f p ≤ f q
  rises p zero l = let z : p ≡ 0 = omega arith in subst (λ k. f k ≤ f 0) (sym z) (omega arith)
  rises p (suc q) l = ⊎_elim
      (λ (u : p < suc q). let a = rises p q (omega arith) in let s = (step q).0 in omega arith)
      (λ (u : suc q ≤ p). let z : p ≡ suc q = omega arith in subst (λ k. f k ≤ f (suc q)) (sym z) (omega arith))
      (cases_lt p (suc q))

  -- the first place at which it is past the id is near that
  crossing : (n from id : ℕ) → f from ≤ id + 2 ^ 31 → id < f (from + n) → (p : ℕ) × (from ≤ p) × (p ≤ from + n) × (id < f p) × (f p ≤ id + 2 ^ 31)
  crossing zero from id near past = let z : from + 0 ≡ from = omega arith in (from, omega arith, omega arith, subst (λ k. id < f k) z past, near)
  crossing (suc n) from id near past = ⊎_elim
      (λ (u : id < f from). let o : from ≤ from = omega arith in let t : from ≤ from + suc n = omega arith in (from, o, t, u, near))
      (λ (u : f from ≤ id).
      let s = (step from).1 in
      let z : from + suc n ≡ suc from + n = omega arith in
      let r = crossing n (suc from) id (omega arith) (subst (λ k. id < f k) z past) in
      let a = r.1 in let b = r.2 in
      let o : from ≤ r.0 = omega arith in let t : r.0 ≤ from + suc n = omega arith in
      (r.0, o, t, r.3, r.4))
      (cases_lt id (f from))

-- ---- the next id along a history

id_near : (n : ℕ) → (n ≤ next_id n) × (next_id n ≤ n + 4)
id_near n = one (nat_lt (low_half (n + 1)) 3)
  where
    one : (b : Bool) → (n ≤ cond b (n + 1 + (3 - low_half (n + 1))) (n + 1)) × (cond b (n + 1 + (3 - low_half (n + 1))) (n + 1) ≤ n + 4)
    one true = (omega arith, omega arith)
    one false = (omega arith, omega arith)

abbrev Same : ℕ → ℕ → Type 0
Same m n = (m ≡ n) ⊎ (m ≡ suc n)

count_step : (p : ℕ) (h : List Event) → Same (length (given (take (suc p) h))) (length (given (take p h)))
count_step zero [] = inl refl
count_step (suc p) [] = inl refl
count_step zero (e ∷ h) = one (given_by e)
  where
    one : (o : Option ℕ) → Same (length (cons_option o (given []))) 0
    one None = inl refl
    one (Some id) = inr refl
count_step (suc p) (e ∷ h) = more (given_by e) (count_step p h)
  where
    more : (o : Option ℕ) → Same (length (given (take (suc p) h))) (length (given (take p h))) → Same (length (cons_option o (given (take (suc p) h)))) (length (cons_option o (given (take p h))))
    more None s = s
    more (Some id) (inl e) = inl (ap suc e)
    more (Some id) (inr e) = inr (ap suc e)

next_step : (first : ℕ) (h : List Event) (p : ℕ) → (next_given first (take p h) ≤ next_given first (take (suc p) h)) × (next_given first (take (suc p) h) ≤ next_given first (take p h) + 4)
next_step first h p = one (count_step p h)
  where
    one : Same (length (given (take (suc p) h))) (length (given (take p h))) → (next_given first (take p h) ≤ next_given first (take (suc p) h)) × (next_given first (take (suc p) h) ≤ next_given first (take p h) + 4)
    one (inl e) = let a : next_given first (take (suc p) h) ≡ next_given first (take p h) = ap (nth_id first) e in (omega arith, omega arith)
    one (inr e) =
        let a : next_given first (take (suc p) h) ≡ next_id (next_given first (take p h)) = ap (nth_id first) e in
        let n = id_near (next_given first (take p h)) in
        let x = n.0 in let y = n.1 in
        (omega arith, omega arith)

-- ---- one member

module _ (base : Counters) (h : List Event) (round : RoundSpan) (by : By) (r : Reach) (reach : IsReach base h round r) where
  abbrev Next : ℕ → ℕ
  Next p = next_given base.next (take p h)

  pub to_member : (pair : Pair) (member : Member) → IsMemberOf base h round by pair member → IsMember r pair member
  to_member pair member m =
      let n = near_is (Next m.place) pair.x.number member.id m.near in
      let a = n.1 in
      let from = rises Next (next_step base.next h) round.from m.place m.read.0 in
      let to = rises Next (next_step base.next h) m.place round.to m.read.1 in
      let l = reach.least in let e = reach.end in let g = m.given in
      record { mode = m.mode; normal = m.normal; meant = (n.0, omega arith, omega arith) }

  pub of_member : (pair : Pair) (member : Member) → IsMember r pair member → IsMemberOf base h round by pair member
  of_member pair member m =
      let l = reach.least in let e = reach.end in let d = reach.forward in
      let a = m.meant.1 in let b = m.meant.2 in
      let z : round.from + (round.to - round.from) ≡ round.to = omega arith in
      let past : member.id < Next (round.from + (round.to - round.from)) = subst (λ k. member.id < Next k) (sym z) (omega arith) in
      let c = crossing Next (next_step base.next h) (round.to - round.from) round.from member.id (omega arith) past in
      let i = c.1 in let j = c.2 in let k = c.3 in
      record {
        mode = m.mode;
        place = c.0;
        read = (i, omega arith);
        near = near_again (Next c.0) pair.x.number member.id m.meant.0 c.4 (omega arith);
        normal = m.normal;
        given = k;
      }

  -- ---- all of them

  pub to_members : (pairs : List Pair) (members : List Member) → AllZip (IsMemberOf base h round by) pairs members → AllZip (IsMember r) pairs members
  to_members [] [] z = tt
  to_members [] (m ∷ members) z = z
  to_members (p ∷ pairs) [] z = z
  to_members (p ∷ pairs) (m ∷ members) z = (to_member p m z.0, to_members pairs members z.1)

  pub of_members : (pairs : List Pair) (members : List Member) → AllZip (IsMember r) pairs members → AllZip (IsMemberOf base h round by) pairs members
  of_members [] [] z = tt
  of_members [] (m ∷ members) z = z
  of_members (p ∷ pairs) [] z = z
  of_members (p ∷ pairs) (m ∷ members) z = (of_member p m z.0, of_members pairs members z.1)

  pub each_may : (pairs : List Pair) (members : List Member) → AllZip (IsMember r) pairs members → AllByRecursion (MayBeMember r) pairs
  each_may [] [] z = tt
  each_may [] (m ∷ members) z = absurd z
  each_may (p ∷ pairs) [] z = absurd z
  each_may (p ∷ pairs) (m ∷ members) z = ((z.0.normal, (m.id, z.0.meant)), each_may pairs members z.1)

  pub some_members : (pairs : List Pair) → AllByRecursion (MayBeMember r) pairs → (members : List Member) × AllZip (IsMember r) pairs members
  some_members [] a = ([], tt)
  some_members (p ∷ pairs) a =
      let rest = some_members pairs a.1 in
      (record { id = a.0.1.0; mode = p.mode } ∷ rest.0, (record { mode = refl; normal = a.0.0; meant = a.0.1.1 }, rest.1))
