use Rattle.std.proofs.Common.{◌≡◌, ◌+◌, ◌<◌, ◌∙◌, arith, ap, refl, sym, subst, take, get_or, length, length-set, ◌++◌, ◌∷◌, []}
use Rattle.std.proofs.lemmas.List.{get_or_default}
use Rattle.std.proofs.lemmas.List.Elements.{All-get_or}
use Rattle.session_lang.specs.declared.script.Item.TheVariants as items
use Rattle.script_rounds.specs.declared.plan.Plan.{Plan}
use Rattle.script_rounds.specs.Plans.{IsPlanOf}
use Rattle.run_law.specs.Turns.{MayRun}
use Rattle.script_rounds.proofs.PlanLemmas.{blank_same, may_run, plan_more, plan_none, plan_same}
use Rattle.script_rounds.proofs.plan.Plan.fill.Goals as goal
use Rattle.script_rounds.proofs.plan.Plan.fill.Goals.{in-Some+in_ok-add, in_default}

pub loop-place-init : goal.loop-place-init
loop-place-init c =
    let p = c.args.self.now in
    let q : Plan = record { sessions = p.sessions; places = c.make_rooms.new.places } in
    (plan_none c.args.round.now q (blank_same p q refl c.make_rooms.ensures c.requires.blank), ap length c.make_rooms.ensures)

pub loop-place-preserved : goal.loop-place-preserved
loop-place-preserved c =
    let round = c.args.round.now in
    let i = c.loop-place.place in
    let x = get_or round i items.Round in
    let p = c.loop-place.self in
    let n = length c.args.self.now.places.items in
    let low : i < length round = omega (arith, c.loop-place-test.true, c.len-place-end.ensures) in
    let same = get_or_default round i items.Round x low in
    let all = c.loop-place.invariant in
    elim c.match-session_at.branch [
      | in-Some+in_ok-add w ↦
          let s = w.in-Some.session in
          let e = w.in_ok-add.ensures in
          let of = sym c.session_at.ensures ∙ w.in-Some.is in
          let known : s < length p.places.items = subst (λ k. s < k) (sym all.1) (may_run n x s of (All-get_or (MayRun n) round i items.Round low c.requires.items)) in
          subst (λ (q : Plan). IsPlanOf round (take (i + 1) round) q × (length q.places.items ≡ n)) (sym w.self-is) (
            plan_more round i x s p w.add.new.self low same of known e.places e.sessions all.0,
            ap length e.places ∙ length-set p.places.items s (get_or p.places.items s [] ++ i ∷ []) ∙ all.1,
          )
      | in_default w ↦
          subst (λ (q : Plan). IsPlanOf round (take (i + 1) round) q × (length q.places.items ≡ n)) (sym w.self-is) (
            plan_same round i x p low same (sym c.session_at.ensures ∙ w.in_default.is) all.0,
            all.1,
          )
    ]
