use Rattle.std.proofs.Common.{◌≡◌, ◌≤◌, List, take, get_or, refl, sym, subst, ◌∙◌, arith, eqb-true, eq-eqb}
use Rattle.tx_events.specs.declared.multi.MultiEvent.{MultiEvent}
use Rattle.tx_events.specs.Limits.{multi_warn_limit}
use Rattle.tx_events.specs.Multis.{oldest_multi}
use Rattle.history_places.specs.Starts.{BeginsAs}
use Rattle.tx_events.proofs.MultiPlaces.{bound_of}
use Rattle.multi_rules.proofs.Owned.{gen_at, gen_small, late_event}
use Rattle.multi_rules.proofs.warned.gives_late.Goals as goal

pub is_late-requires : goal.is_late-requires
is_late-requires g c =
    let v = c.args.places.now in
    let e = c.index-events-place.result in
    let is = subst (λ (xs : List MultiEvent). e ≡ get_or xs c.args.place e) c.events.ensures.value c.index-events-place.is in
    let b = gen_small v.base (BeginsAs v.starts) v.events c.args.place c.in-Gen.by c.in-Gen.given c.in-Gen.offset c.in-Gen.members e c.events.ensures.legal (bound_of v.events c.args.place g.by c.requires) is c.in-Gen.is in
    let same : c.in-Gen.given ≡ c.args.multi = eqb-true c.in-Gen.given c.args.multi (sym c.eq.ensures ∙ c.if-eq.true) in
    let n = c.number.ensures.value in
    omega arith

pub returns-then-eq : goal.returns-then-eq
returns-then-eq g c =
    let v = c.args.places.now in
    let e = c.index-events-place.result in
    let is = subst (λ (xs : List MultiEvent). e ≡ get_or xs c.args.place e) c.events.ensures.value c.index-events-place.is in
    let same : c.in-Gen.given ≡ c.args.multi = eqb-true c.in-Gen.given c.args.multi (sym c.eq.ensures ∙ c.if-eq.true) in
    let i = gen_at v.base v.events g.by c.in-Gen.by c.args.multi c.args.place c.in-Gen.given c.in-Gen.offset c.oldest_at.result c.in-Gen.members e c.requires is c.in-Gen.is c.oldest_at.ensures in (
      λ t. i.0 (same, subst (λ n. multi_warn_limit c.oldest_at.result ≤ n) c.number.ensures.value (c.is_late.ensures.0 t)),
      λ z. c.is_late.ensures.1 (subst (λ n. multi_warn_limit c.oldest_at.result ≤ n) (sym c.number.ensures.value) (i.1 z).1),
    )

pub returns-else-eq : goal.returns-else-eq
returns-else-eq g c =
    let v = c.args.places.now in
    let e = c.index-events-place.result in
    let is = subst (λ (xs : List MultiEvent). e ≡ get_or xs c.args.place e) c.events.ensures.value c.index-events-place.is in
    let i = gen_at v.base v.events g.by c.in-Gen.by c.args.multi c.args.place c.in-Gen.given c.in-Gen.offset (oldest_multi v.base.oldest_multi (take c.args.place v.events)) c.in-Gen.members e c.requires is c.in-Gen.is refl in
    let f = c.if-eq.false in
    (λ t. absurd cc, λ z. c.eq.ensures ∙ eq-eqb c.in-Gen.given c.args.multi (i.1 z).0)

pub returns-in_default : goal.returns-in_default
returns-in_default g c =
    let v = c.args.places.now in
    let e = c.index-events-place.result in
    let is = subst (λ (xs : List MultiEvent). e ≡ get_or xs c.args.place e) c.events.ensures.value c.index-events-place.is in
    (λ f. absurd cc, λ z. let s = late_event v.base v.events g.by c.args.multi c.args.place e c.requires is z in absurd (c.in_default.not-Gen g.by c.args.multi s.0 s.1 s.2))
