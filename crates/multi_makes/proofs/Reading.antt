-- Members in full: they are as many as the script wrote, with the same modes, and each is a full id that was given.
use Rattle.std.proofs.Common.{◌≡◌, ⊎_elim, ℕ, zero, suc, ◌+◌, ◌<◌, ◌≤◌, ◌==◌, ◌||◌, cond, nat_lt, List, [], ◌∷◌, ◌++◌, None, Some, Contains, length, take, slice_get, refl, sym, ap, subst, ◌∙◌, arith}
use Rattle.std.proofs.lemmas.Bool.Decides.{nat_tests}
use Rattle.std.specs.Bool.{then_some}
use Rattle.std.specs.List.{AllByRecursion, count_by, fold}
use Rattle.std.specs.Option.{option_or}
use Rattle.tx_events.proofs.Membership.{Has, contains_has}
use Rattle.tx_events.specs.After.{ids_of}
use Rattle.tx_events.specs.Ids.{IsFullId}
use Rattle.tx_events.specs.Multis.{AreMembers, is_updater}
use Rattle.tx_events.specs.declared.multi.Member.{Member}
use Rattle.tx_events.specs.declared.multi.Mode.{Mode}
use Rattle.tx_events.specs.declared.multi.Mode.TheVariants as modes
use Rattle.tx_events.specs.declared.refusal.Refusal.{Refusal}
use Rattle.tx_events.specs.declared.refusal.Refusal.TheVariants as refusals
use Rattle.tx_events.specs.Nearest.{near_id}
use Rattle.tx_model.specs.declared.command.Command.TheVariants as commands
use Rattle.tx_model.specs.declared.command.Pair.{Pair}
use Rattle.life_law.specs.MultiLines.{IsUngiven}
use Rattle.life_law.specs.Refused.{is_updater_pair, refused_by_members}
use Rattle.multi_makes.specs.Full.{AreFullOf, AreNotFull, IsFirstRefused, IsFullOf, IsNotMember}

pub full_length : (next : ℕ) (pairs : List Pair) (members : List Member) → AreFullOf next pairs members → length members ≡ length pairs
full_length next [] [] z = refl
full_length next [] (m ∷ members) z = absurd z
full_length next (p ∷ pairs) [] z = absurd z
full_length next (p ∷ pairs) (m ∷ members) z = ap suc (full_length next pairs members z.1)

-- an updater is one by its mode alone
same_updater : (p : Pair) (m : Member) → m.mode ≡ p.mode → is_updater m ≡ is_updater_pair p
same_updater p m same = ap (λ (z : Mode). is_updater (record m { mode = z })) same ∙ of_mode p.mode
  where
    of_mode : (z : Mode) → is_updater (record m { mode = z }) ≡ is_updater_pair (record p { mode = z })
    of_mode modes.KeySh = refl
    of_mode modes.Sh = refl
    of_mode modes.ForNoKeyUpd = refl
    of_mode modes.ForUpd = refl
    of_mode modes.NoKeyUpd = refl
    of_mode modes.Upd = refl

counts : (next : ℕ) (pairs : List Pair) (members : List Member) (a b : ℕ) → a ≡ b → AreFullOf next pairs members → fold (λ (x : ℕ) (m : Member). x + cond (is_updater m) 1 0) a members ≡ fold (λ (x : ℕ) (p : Pair). x + cond (is_updater_pair p) 1 0) b pairs
counts next [] [] a b e z = e
counts next [] (m ∷ members) a b e z = absurd z
counts next (p ∷ pairs) [] a b e z = absurd z
counts next (p ∷ pairs) (m ∷ members) a b e z = counts next pairs members (a + cond (is_updater m) 1 0) (b + cond (is_updater_pair p) 1 0) (λ j. e j + cond (same_updater p m z.0.mode j) 1 0) z.1

pub full_updaters : (next : ℕ) (pairs : List Pair) (members : List Member) → AreFullOf next pairs members → count_by is_updater members ≡ count_by is_updater_pair pairs
full_updaters next pairs members z = counts next pairs members 0 0 refl z

-- what the words don't refuse is fit
pub full_fit : (next : ℕ) (pairs : List Pair) (members : List Member) → refused_by_members (commands.Multi pairs) ≡ None → AreFullOf next pairs members → AreMembers members
full_fit next pairs members words full =
    let long = full_length next pairs members full in
    let updaters = full_updaters next pairs members full in
    let counted = of_words (length pairs) (count_by is_updater_pair pairs) words in
    let some = counted.0 in let most = counted.1.0 in let few = counted.1.1 in
    record { some = omega arith; most = omega arith; updaters = omega arith }
  where
    of_words : (n u : ℕ) → option_or (then_some (n == 0 || nat_lt 64 n) refusals.MemberCount) (option_or (then_some (nat_lt 1 u) refusals.TwoUpdaters) None) ≡ None → (1 ≤ n) × ((n ≤ 64) × (u ≤ 1))
    of_words n u q = grind (arith, nat_tests)

-- each id is a full one that was given
full_id_of : (next : ℕ) (p : Pair) (m : Member) → IsFullOf next p m → IsFullId m.id
full_id_of next p m f = subst (λ z. 3 ≤ z) (sym f.id.low) f.id.normal

each_has : (next : ℕ) (pairs : List Pair) (members : List Member) → AreFullOf next pairs members → (id : ℕ) → Has (ids_of members) id → IsFullId id × (id < next)
each_has next [] [] z id here = absurd here
each_has next [] (m ∷ members) z id here = absurd z
each_has next (p ∷ pairs) [] z id here = absurd here
each_has next (p ∷ pairs) (m ∷ members) z id here =
    ⊎_elim
    (λ (q : m.id ≡ id). (subst IsFullId q (full_id_of next p m z.0), subst (λ y. y < next) q z.0.id.given))
    (λ t. each_has next pairs members z.1 id t)
    here

pub full_each : (next : ℕ) (pairs : List Pair) (members : List Member) → AreFullOf next pairs members → (id : ℕ) → Contains (ids_of members) id → IsFullId id × (id < next)
full_each next pairs members z id c = each_has next pairs members z id (contains_has (ids_of members) id c)

-- one more
pub full_push : (next : ℕ) (pairs : List Pair) (members : List Member) (i : ℕ) (p : Pair) (m : Member) → slice_get pairs i ≡ Some p → AreFullOf next (take i pairs) members → IsFullOf next p m → AreFullOf next (take (suc i) pairs) (members ++ m ∷ [])
full_push next [] members i p m q z f = absurd cc
full_push next (x ∷ pairs) [] zero p m q z f = let e : x ≡ p = cc in (subst (λ y. IsFullOf next y m) (sym e) f, tt)
full_push next (x ∷ pairs) (y ∷ members) zero p m q z f = absurd z
full_push next (x ∷ pairs) [] (suc i) p m q z f = absurd z
full_push next (x ∷ pairs) (y ∷ members) (suc i) p m q z f = (z.0, full_push next pairs members i p m q z.1 f)

pub full_next : (next : ℕ) (pairs : List Pair) (members more : List Member) (i : ℕ) (p : Pair) (m : Member) → slice_get pairs i ≡ Some p → AreFullOf next (take i pairs) members → IsFullOf next p m → more ≡ members ++ m ∷ [] → AreFullOf next (take (i + 1) pairs) more
full_next next pairs members more i p m q z f is =
    let e : suc i ≡ i + 1 = omega arith in
    subst (λ (l : List Member). AreFullOf next (take (i + 1) pairs) l) (sym is) (subst (λ k. AreFullOf next (take k pairs) (members ++ m ∷ [])) e (full_push next pairs members i p m q z f))

-- none of those that have one is ungiven
has_given : (next : ℕ) (p : Pair) (m : Member) → IsFullOf next p m → IsUngiven next p.x.number → ⊥
has_given next p m f u =
    let normal = f.id.normal in
    ⊎_elim
    (λ (small : p.x.number < 3). absurd (omega arith))
    (λ (o : (id : ℕ) × (near_id next p.x.number ≡ Some id) × (next ≤ id)). let same : o.0 ≡ m.id = let a = o.1 in let b = f.id.near in cc in let low = f.id.given in let high = o.2 in absurd (omega arith))
    u

pub full_given : (next : ℕ) (pairs : List Pair) (members : List Member) → AreFullOf next pairs members → AllByRecursion (λ (p : Pair). IsUngiven next p.x.number → ⊥) pairs
full_given next [] members z = tt
full_given next (p ∷ pairs) [] z = absurd z
full_given next (p ∷ pairs) (m ∷ members) z = (has_given next p m z.0, full_given next pairs members z.1)

-- ---- the first one that is refused

first_refused : (next oldest : ℕ) (pairs : List Pair) (r : Refusal) → IsFirstRefused next oldest pairs r → AreNotFull next oldest pairs r
first_refused next oldest pairs refusals.Memory f = tt
first_refused next oldest pairs _ f = f

pub not_full : (next oldest : ℕ) (pairs : List Pair) (i : ℕ) (p : Pair) (members : List Member) (r : Refusal) → slice_get pairs i ≡ Some p → AreFullOf next (take i pairs) members → IsNotMember next oldest p.x.number r → AreNotFull next oldest pairs r
not_full next oldest pairs i p members r q z n = first_refused next oldest pairs r (record { number = i; pair = p; stands = q; others = full_given next (take i pairs) members z; refused = n })
