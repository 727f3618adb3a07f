-- Which events of a shape a command's own begin with.
use Rattle.std.proofs.Common.{◌≡◌, ℕ, zero, suc, ◌↔◌, ◌⊎◌, ⊎_elim, inl, inr, true, false, Some, List, [], ◌∷◌, refl, ap, sym, subst, ◌∙◌, arith}
use Rattle.std.specs.List.{AllByRecursion, AllZip, slice_get}
use Rattle.std.proofs.lemmas.Bool.Decides.{nat_tests}
use Rattle.tx_events.specs.declared.event.By.{By}
use Rattle.tx_events.specs.declared.full_multi.MultiId.{MultiId}
use Rattle.tx_events.specs.declared.multi.Member.{Member}
use Rattle.tx_events.specs.declared.multi.MultiEvent.{MultiEvent}
use Rattle.tx_events.specs.declared.multi.MultiEvent.TheVariants as multis
use Rattle.report_law.specs.Kinds.{BeginAsToldMultis}
use Rattle.report_law.specs.MultiLines.{AreGiven}
use Rattle.command_events.specs.declared.reach.Reach.{Reach}
use Rattle.command_events.specs.declared.shape.Shape.{Shape}
use Rattle.command_events.specs.declared.shape.Shape.TheVariants as shapes
use Rattle.command_events.specs.Reached.{IsMember, IsReach, MayBeMember}
use Rattle.command_events.specs.Shapes.{IsPinNear, IsShaped, Teller, begins_between, begins_given, begins_pinned, begins_raised, begins_with}
use Rattle.command_events.proofs.Reaching.{each_may, of_members, some_members, to_members}

-- ---- what the first events say

pub of_gen : (by : By) (multi offset : ℕ) (members : List Member) (own : List MultiEvent) → begins_with multi offset own ≡ true → BeginAsToldMultis (multis.Gen by multi offset members ∷ []) own
of_gen by multi offset members (multis.Gen its given at others ∷ own) e = let a : given ≡ multi = grind (arith, nat_tests) in let b : at ≡ offset = grind (arith, nat_tests) in ((a, b), tt)
of_gen by multi offset members own e = absurd cc

pub to_gen : (by : By) (multi offset : ℕ) (members : List Member) (own : List MultiEvent) → BeginAsToldMultis (multis.Gen by multi offset members ∷ []) own → begins_with multi offset own ≡ true
to_gen by multi offset members [] b = absurd b
to_gen by multi offset members (multis.Gen its given at others ∷ own) b = let x = b.0.0 in let y = b.0.1 in grind (arith, nat_tests)
to_gen by multi offset members (e ∷ own) b = absurd b.0

pub of_pinned : (by : By) (multi : ℕ) (own : List MultiEvent) → begins_pinned own ≡ true → BeginAsToldMultis (multis.Hold by multi ∷ multis.Unhold by multi ∷ []) own
of_pinned by multi (multis.Hold its held ∷ multis.Unhold theirs other ∷ own) e = (tt, (tt, tt))
of_pinned by multi own e = absurd cc

pub to_pinned : (by : By) (multi : ℕ) (own : List MultiEvent) → BeginAsToldMultis (multis.Hold by multi ∷ multis.Unhold by multi ∷ []) own → begins_pinned own ≡ true
to_pinned by multi [] b = absurd b
to_pinned by multi (x ∷ []) b = absurd b.1
to_pinned by multi (multis.Hold its held ∷ multis.Unhold theirs other ∷ own) b = refl
to_pinned by multi (multis.Hold its held ∷ y ∷ own) b = absurd b.1.0
to_pinned by multi (x ∷ y ∷ own) b = absurd b.0

pub of_raised : (by : By) (multi offset : ℕ) (own : List MultiEvent) → begins_raised own ≡ true → BeginAsToldMultis (multis.Raise by multi offset ∷ []) own
of_raised by multi offset (multis.Raise its raised at ∷ own) e = (tt, tt)
of_raised by multi offset own e = absurd cc

pub to_raised : (by : By) (multi offset : ℕ) (own : List MultiEvent) → BeginAsToldMultis (multis.Raise by multi offset ∷ []) own → begins_raised own ≡ true
to_raised by multi offset [] b = absurd b
to_raised by multi offset (multis.Raise its raised at ∷ own) b = refl
to_raised by multi offset (x ∷ own) b = absurd b.0

pub of_between : (by : By) (multi offset : ℕ) (own : List MultiEvent) → begins_between own ≡ true → BeginAsToldMultis (multis.Hold by multi ∷ multis.Raise by multi offset ∷ multis.Unhold by multi ∷ []) own
of_between by multi offset (multis.Hold its held ∷ multis.Raise theirs raised at ∷ multis.Unhold last other ∷ own) e = (tt, (tt, (tt, tt)))
of_between by multi offset own e = absurd cc

pub to_between : (by : By) (multi offset : ℕ) (own : List MultiEvent) → BeginAsToldMultis (multis.Hold by multi ∷ multis.Raise by multi offset ∷ multis.Unhold by multi ∷ []) own → begins_between own ≡ true
to_between by multi offset [] b = absurd b
to_between by multi offset (x ∷ []) b = absurd b.1
to_between by multi offset (x ∷ y ∷ []) b = absurd b.1.1
to_between by multi offset (multis.Hold its held ∷ multis.Raise theirs raised at ∷ multis.Unhold last other ∷ own) b = refl
to_between by multi offset (multis.Hold its held ∷ multis.Raise theirs raised at ∷ z ∷ own) b = absurd b.1.1.0
to_between by multi offset (multis.Hold its held ∷ y ∷ z ∷ own) b = absurd b.1.0
to_between by multi offset (x ∷ y ∷ z ∷ own) b = absurd b.0

not_both : (own : List MultiEvent) → begins_between own ≡ true → begins_raised own ≡ true → ⊥
not_both (multis.Hold its held ∷ own) a b = cc
not_both own a b = cc

-- ---- some of a shape

abbrev pub Has : Teller → Shape → List MultiEvent → Type 0
Has t shape own = (es : List MultiEvent) × IsShaped t shape es × BeginAsToldMultis es own

-- one of them stands at this place
abbrev pub HasAt : Teller → Shape → List MultiEvent → ℕ → MultiEvent → Type 0
HasAt t shape own place e = (es : List MultiEvent) × IsShaped t shape es × BeginAsToldMultis es own × (slice_get es place ≡ Some e)

single : (x e : MultiEvent) (place : ℕ) → slice_get (x ∷ []) place ≡ Some e → (place ≡ 0) × (x ≡ e)
single x e zero s = (refl, cc)
single x e (suc place) s = absurd cc

module _ (t : Teller) (r : Reach) (reach : IsReach t.base t.events t.round r) where
  given_as : (multi offset : ℕ) (members : List Member) → AllZip (IsMember r) t.pairs members → AreGiven t.base t.events t.round t.by t.pairs (multis.Gen t.by multi offset members ∷ [])
  given_as multi offset members z = record { multi = multi; offset = offset; members = members; events_are = refl; told = of_members t.base t.events t.round t.by r reach t.pairs members z }

  may : (es : List MultiEvent) → AreGiven t.base t.events t.round t.by t.pairs es → AllByRecursion (MayBeMember r) t.pairs
  may es g = each_may t.base t.events t.round t.by r reach t.pairs g.members (to_members t.base t.events t.round t.by r reach t.pairs g.members g.told)

  pub gives : (own : List MultiEvent) → begins_given own ≡ true → AllByRecursion (MayBeMember r) t.pairs ↔ Has t shapes.Gives own
  gives own b = (λ a. some own b (some_members t.base t.events t.round t.by r reach t.pairs a), λ z. may z.0 z.1)
    where
      some : (own : List MultiEvent) → begins_given own ≡ true → (members : List Member) × AllZip (IsMember r) t.pairs members → Has t shapes.Gives own
      some (multis.Gen its given at others ∷ own) b m = (multis.Gen t.by given at m.0 ∷ [], given_as given at m.0 m.1, ((refl, refl), tt))
      some own b m = absurd cc

  pub gives_this : (multi offset : ℕ) (own : List MultiEvent) → begins_with multi offset own ≡ true → AllByRecursion (MayBeMember r) t.pairs ↔ Has t (shapes.GivesThis multi offset) own
  gives_this multi offset own b = (
    λ a.
        let m = some_members t.base t.events t.round t.by r reach t.pairs a in
        (multis.Gen t.by multi offset m.0 ∷ [], ((m.0, refl), given_as multi offset m.0 m.1), of_gen t.by multi offset m.0 own b),
    λ z. may z.0 z.1.1,
  )

  -- the multixact that is given, as an event tells it
  pub gen_at : (own : List MultiEvent) (place multi offset : ℕ) (its : By) (members : List Member) (e : MultiEvent) → e ≡ multis.Gen its multi offset members → (place ≡ 0) × (its ≡ t.by) → begins_with multi offset own ≡ true
      → AllZip (IsMember r) t.pairs members ↔ HasAt t shapes.Gives own place e
  gen_at own place multi offset its members e is first b = (
    λ z.
        let same : multis.Gen t.by multi offset members ≡ e = ap (λ (b : By). multis.Gen b multi offset members) (sym first.1) ∙ sym is in
        let here : slice_get (multis.Gen t.by multi offset members ∷ []) 0 ≡ Some e = ap (λ (x : MultiEvent). Some x) same in
        (multis.Gen t.by multi offset members ∷ [], given_as multi offset members z, of_gen t.by multi offset members own b, subst (λ k. slice_get (multis.Gen t.by multi offset members ∷ []) k ≡ Some e) (sym first.0) here),
    λ z.
        let g = z.1 in
        let s = single (multis.Gen t.by g.multi g.offset g.members) e place (subst (λ (es : List MultiEvent). slice_get es place ≡ Some e) g.events_are z.3) in
        let same : multis.Gen t.by g.multi g.offset g.members ≡ multis.Gen its multi offset members = s.1 ∙ is in
        let theirs : g.members ≡ members = cc in
        subst (AllZip (IsMember r) t.pairs) theirs (to_members t.base t.events t.round t.by r reach t.pairs g.members g.told),
  )

-- it is of the command, at the first place, and the command's own begin with it
pub gen_first : (t : Teller) (own : List MultiEvent) (place multi offset : ℕ) (its : By) (members : List Member) (e : MultiEvent) → e ≡ multis.Gen its multi offset members → HasAt t shapes.Gives own place e → ((place ≡ 0) × (its ≡ t.by)) × (begins_with multi offset own ≡ true)
gen_first t own place multi offset its members e is z =
    let g = z.1 in
    let s = single (multis.Gen t.by g.multi g.offset g.members) e place (subst (λ (es : List MultiEvent). slice_get es place ≡ Some e) g.events_are z.3) in
    let same : multis.Gen t.by g.multi g.offset g.members ≡ multis.Gen its multi offset members = s.1 ∙ is in
    let by : its ≡ t.by = cc in
    let m : g.multi ≡ multi = cc in
    let o : g.offset ≡ offset = cc in
    let b = to_gen t.by g.multi g.offset g.members own (subst (λ (es : List MultiEvent). BeginAsToldMultis es own) g.events_are z.2) in
    ((s.0, by), subst (λ k. begins_with k offset own ≡ true) m (subst (λ k. begins_with g.multi k own ≡ true) o b))

-- an event that gives none is told by none
pub gen_alone : (t : Teller) (own : List MultiEvent) (place : ℕ) (e : MultiEvent) → begins_given (e ∷ []) ≡ false → HasAt t shapes.Gives own place e → ⊥
gen_alone t own place e none z =
    let g = z.1 in
    let s = single (multis.Gen t.by g.multi g.offset g.members) e place (subst (λ (es : List MultiEvent). slice_get es place ≡ Some e) g.events_are z.3) in
    let f : begins_given (e ∷ []) ≡ true = ap (λ (x : MultiEvent). begins_given (x ∷ [])) (sym s.1) in
    cc

-- ---- the one that the reply tells

pub this_at : (t : Teller) (multi offset : ℕ) (own : List MultiEvent) (place : ℕ) (e : MultiEvent) → begins_with multi offset (e ∷ []) ≡ true → HasAt t shapes.Gives own place e ↔ HasAt t (shapes.GivesThis multi offset) own place e
this_at t multi offset own place e b = (
  λ z.
      let g = z.1 in
      let s = single (multis.Gen t.by g.multi g.offset g.members) e place (subst (λ (es : List MultiEvent). slice_get es place ≡ Some e) g.events_are z.3) in
      let w : begins_with multi offset (multis.Gen t.by g.multi g.offset g.members ∷ []) ≡ true = ap (λ (x : MultiEvent). begins_with multi offset (x ∷ [])) s.1 ∙ b in
      let m : g.multi ≡ multi = grind (arith, nat_tests) in
      let o : g.offset ≡ offset = grind (arith, nat_tests) in
      (z.0, ((g.members, g.events_are ∙ ap (λ k. multis.Gen t.by k g.offset g.members ∷ []) m ∙ ap (λ k. multis.Gen t.by multi k g.members ∷ []) o), g), z.2, z.3),
  λ z. (z.0, z.1.1, z.2, z.3),
)

pub this_first : (t : Teller) (multi offset : ℕ) (own : List MultiEvent) (place : ℕ) (e : MultiEvent) → HasAt t (shapes.GivesThis multi offset) own place e → begins_with multi offset (e ∷ []) ≡ true
this_first t multi offset own place e z =
    let s = single (multis.Gen t.by multi offset z.1.0.0) e place (subst (λ (es : List MultiEvent). slice_get es place ≡ Some e) z.1.0.1 z.3) in
    let w : begins_with multi offset (multis.Gen t.by multi offset z.1.0.0 ∷ []) ≡ true = grind (arith, nat_tests) in
    ap (λ (x : MultiEvent). begins_with multi offset (x ∷ [])) (sym s.1) ∙ w

-- ---- pins

abbrev Pair2 : By → ℕ → List MultiEvent
Pair2 by multi = multis.Hold by multi ∷ multis.Unhold by multi ∷ []

pub pins_near : (t : Teller) (m : MultiId) (own : List MultiEvent) → begins_pinned own ≡ true → ((p : ℕ) × ((multi : ℕ) × IsPinNear t.base t.all t.by m.number multi p)) ↔ Has t (shapes.PinsNear m) own
pins_near t m own b = (
  λ z. (Pair2 t.by z.1.0, (z.0, z.1.0, z.1.1.0, z.1.1.1, refl), of_pinned t.by z.1.0 own b),
  λ z. let p = z.1 in (p.0, (p.1, (p.2, p.3))),
)

pub pins : (t : Teller) (multi : ℕ) (own : List MultiEvent) → (begins_pinned own ≡ true) ↔ Has t (shapes.Pins multi) own
pins t multi own = (
  λ b. (Pair2 t.by multi, refl, of_pinned t.by multi own b),
  λ z. to_pinned t.by multi own (subst (λ (es : List MultiEvent). BeginAsToldMultis es own) z.1 z.2),
)

pub pins_near_at : (t : Teller) (m : MultiId) (own : List MultiEvent) (place multi : ℕ) (e : MultiEvent) → begins_pinned own ≡ true → slice_get (Pair2 t.by multi) place ≡ Some e → ((by : By) (place other : ℕ) → slice_get (Pair2 by other) place ≡ Some e → multi ≡ other)
    → ((p : ℕ) × IsPinNear t.base t.all t.by m.number multi p) ↔ HasAt t (shapes.PinsNear m) own place e
pins_near_at t m own place multi e b s one = (
  λ z. (Pair2 t.by multi, (z.0, multi, z.1.0, z.1.1, refl), of_pinned t.by multi own b, s),
  λ z.
      let p = z.1 in
      let same : multi ≡ p.1 = one t.by place p.1 (subst (λ (es : List MultiEvent). slice_get es place ≡ Some e) p.4 z.3) in
      (p.0, (p.2, p.3 ∙ ap (λ k. Some k) (sym same))),
)

pub near_stands : (t : Teller) (m : MultiId) (own : List MultiEvent) (place multi : ℕ) (e : MultiEvent) → ((by : By) (place other : ℕ) → slice_get (Pair2 by other) place ≡ Some e → multi ≡ other) → HasAt t (shapes.PinsNear m) own place e
    → (begins_pinned own ≡ true) × (slice_get (Pair2 t.by multi) place ≡ Some e)
near_stands t m own place multi e one z =
    let p = z.1 in
    let s : slice_get (Pair2 t.by p.1) place ≡ Some e = subst (λ (es : List MultiEvent). slice_get es place ≡ Some e) p.4 z.3 in
    let same : multi ≡ p.1 = one t.by place p.1 s in
    (to_pinned t.by p.1 own (subst (λ (es : List MultiEvent). BeginAsToldMultis es own) p.4 z.2), subst (λ k. slice_get (Pair2 t.by k) place ≡ Some e) (sym same) s)

pub pins_at : (t : Teller) (multi : ℕ) (own : List MultiEvent) (place : ℕ) (e : MultiEvent) → begins_pinned own ≡ true → (slice_get (Pair2 t.by multi) place ≡ Some e) ↔ HasAt t (shapes.Pins multi) own place e
pins_at t multi own place e b = (
  λ s. (Pair2 t.by multi, refl, of_pinned t.by multi own b, s),
  λ z. subst (λ (es : List MultiEvent). slice_get es place ≡ Some e) z.1 z.3,
)

pub pins_begin : (t : Teller) (multi : ℕ) (own : List MultiEvent) (place : ℕ) (e : MultiEvent) → HasAt t (shapes.Pins multi) own place e → begins_pinned own ≡ true
pins_begin t multi own place e z = (pins t multi own).1 (z.0, z.1, z.2)

-- ---- raises

abbrev Between : By → ℕ → ℕ → List MultiEvent
Between by multi offset = multis.Hold by multi ∷ multis.Raise by multi offset ∷ multis.Unhold by multi ∷ []

pub raised : (t : Teller) (multi : ℕ) (own : List MultiEvent) → begins_raised own ≡ true → Has t (shapes.Raises multi) own
raised t multi own b = (multis.Raise t.by multi 0 ∷ [], inr (0, refl), of_raised t.by multi 0 own b)

pub between : (t : Teller) (multi : ℕ) (own : List MultiEvent) → begins_between own ≡ true → Has t (shapes.Raises multi) own
between t multi own b = (Between t.by multi 0, inl (0, refl), of_between t.by multi 0 own b)

pub raises : (t : Teller) (multi : ℕ) (own : List MultiEvent) → Has t (shapes.Raises multi) own → (begins_raised own ≡ true) ⊎ (begins_between own ≡ true)
raises t multi own z = ⊎_elim
    (λ (w : (offset : ℕ) × (z.0 ≡ Between t.by multi offset)). inr (to_between t.by multi w.0 own (subst (λ (es : List MultiEvent). BeginAsToldMultis es own) w.1 z.2)))
    (λ (w : (offset : ℕ) × (z.0 ≡ multis.Raise t.by multi offset ∷ [])). inl (to_raised t.by multi w.0 own (subst (λ (es : List MultiEvent). BeginAsToldMultis es own) w.1 z.2)))
    z.1

pub between_at : (t : Teller) (multi : ℕ) (own : List MultiEvent) (place : ℕ) (e : MultiEvent) → begins_between own ≡ true → ((offset : ℕ) × (slice_get (Between t.by multi offset) place ≡ Some e)) ↔ HasAt t (shapes.Raises multi) own place e
between_at t multi own place e b = (
  λ z. (Between t.by multi z.0, inl (z.0, refl), of_between t.by multi z.0 own b, z.1),
  λ z. ⊎_elim
      (λ (w : (offset : ℕ) × (z.0 ≡ Between t.by multi offset)). (w.0, subst (λ (es : List MultiEvent). slice_get es place ≡ Some e) w.1 z.3))
      (λ (w : (offset : ℕ) × (z.0 ≡ multis.Raise t.by multi offset ∷ [])). absurd (not_both own b (to_raised t.by multi w.0 own (subst (λ (es : List MultiEvent). BeginAsToldMultis es own) w.1 z.2))))
      z.1,
)

pub raised_at : (t : Teller) (multi : ℕ) (own : List MultiEvent) (place : ℕ) (e : MultiEvent) → begins_between own ≡ false → begins_raised own ≡ true → ((offset : ℕ) × (slice_get (multis.Raise t.by multi offset ∷ []) place ≡ Some e)) ↔ HasAt t (shapes.Raises multi) own place e
raised_at t multi own place e other b = (
  λ z. (multis.Raise t.by multi z.0 ∷ [], inr (z.0, refl), of_raised t.by multi z.0 own b, z.1),
  λ z. ⊎_elim
      (λ (w : (offset : ℕ) × (z.0 ≡ Between t.by multi offset)).
      let yes = to_between t.by multi w.0 own (subst (λ (es : List MultiEvent). BeginAsToldMultis es own) w.1 z.2) in absurd cc)
      (λ (w : (offset : ℕ) × (z.0 ≡ multis.Raise t.by multi offset ∷ [])). (w.0, subst (λ (es : List MultiEvent). slice_get es place ≡ Some e) w.1 z.3))
      z.1,
)

pub raises_begin : (t : Teller) (multi : ℕ) (own : List MultiEvent) (place : ℕ) (e : MultiEvent) → HasAt t (shapes.Raises multi) own place e → (begins_raised own ≡ true) ⊎ (begins_between own ≡ true)
raises_begin t multi own place e z = raises t multi own (z.0, z.1, z.2)
