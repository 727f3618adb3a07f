use Rattle.std.proofs.Common.{◌≡◌, ◌+◌, ◌-◌, ◌≤◌, ◌↔◌, Bool, List, Some, None, length, take, refl, sym, ap, subst, ◌∙◌, arith, IsTrue}
use Rattle.std.specs.List.{slice_get}
use Rattle.std.proofs.lemmas.Option.{slice_get-get_or}
use Rattle.tx_events.specs.declared.multi.MultiEvent.{MultiEvent}
use Rattle.tx_events.specs.Multis.{multi_by}
use Rattle.tx_model.specs.declared.report.Line.{Line}
use Rattle.tx_model.specs.declared.report.Step.{Step}
use Rattle.tx_model.specs.Rounds.{lines_in}
use Rattle.event_rules.specs.Told.{IsToldMulti}
use Rattle.command_events.specs.Reached.{span}
use Rattle.report_law.specs.Events.{StandsAt}
use Rattle.report_law.specs.Places.{multis_of}
use Rattle.report_law.specs.Steps.{HasFirstMultis}
use Rattle.life_tables.proofs.Lining.{if_ok}
use Rattle.place_columns.proofs.Parts.{front_most}
use Rattle.report_check.proofs.ToldAt.{forward, its_by, no_line, no_step, number_is, told_same}
use Rattle.report_check.proofs.told_multis.is_told_in.Goals as goal

pub returns-in-None : goal.returns-in-None
returns-in-None g c = λ e at s.
    let known = c.requires.1.0 in
    let l = c.requires.1.1.1.1 in
    let past = subst (λ (ss : List Step). length ss ≤ c.args.step) (c.items.ensures ∙ c.requires.0.steps) c.in-None.ensures.lookup.3 in
    let n = number_is g.j known.order c.args.place c.args.number e c.requires.1.1.1.0 at in
    absurd (no_step g.j known.order c.args.number c.args.step l.0 l.1 l.2 (multi_by e) s n past)

pub returns-in-None-line_in : goal.returns-in-None-line_in
returns-in-None-line_in g c = λ e at s.
    let known = c.requires.1.0 in
    let l = c.requires.1.1.1.1 in
    let k = c.in-Some.ensures.lookup in
    let first = c.lines_before-first.ensures g.j.steps known.table in
    let round = c.in-Some.round.now in
    let told : slice_get g.j.steps c.args.step ≡ Some round =
    ap (λ (ss : List Step). slice_get ss c.args.step) (sym (c.items.ensures ∙ c.requires.0.steps)) ∙ slice_get-get_or c.items.result.now c.args.step round k.3.0 ∙ ap (λ (x : Step). Some x) (sym k.1) in
    let none : slice_get (lines_in round) (c.args.number - c.lines_before-first.result) ≡ None = ap (λ n. slice_get (lines_in round) n) (sym c.saturating_sub.ensures) ∙ sym c.in-None-line_in.ensures in
    let n = number_is g.j known.order c.args.place c.args.number e c.requires.1.1.1.0 at in
    absurd (no_line g.j known.order c.args.number c.args.step l.0 l.1 l.2 c.lines_before-first.result first round told (multi_by e) s n none)

pub count_of_events-from-requires : goal.count_of_events-from-requires
count_of_events-from-requires g c =
    let known = c.requires.1.0 in
    let first = c.lines_before-first.ensures g.j.steps known.table in
    let most = front_most c.args.step g.j.steps in
    (known.events, omega arith)

pub count_of_events-to-requires : goal.count_of_events-to-requires
count_of_events-to-requires g c =
    let known = c.requires.1.0 in
    let end = c.lines_before-end.ensures g.j.steps known.table in
    let most = front_most (c.args.step + 1) g.j.steps in
    (known.events, omega arith)

pub is_told_of-requires : goal.is_told_of-requires
is_told_of-requires g c =
    let known = c.requires.1.0 in
    let l = c.requires.1.1.1.1 in
    let k = c.in-Some.ensures.lookup in
    let first = c.lines_before-first.ensures g.j.steps known.table in
    let end = c.lines_before-end.ensures g.j.steps known.table in
    let round = c.in-Some.round.now in
    let line = c.in_ok-line.line in
    let told : slice_get g.j.steps c.args.step ≡ Some round =
    ap (λ (ss : List Step). slice_get ss c.args.step) (sym (c.items.ensures ∙ c.requires.0.steps)) ∙ slice_get-get_or c.items.result.now c.args.step round k.3.0 ∙ ap (λ (x : Step). Some x) (sym k.1) in
    let stands : slice_get (lines_in round) (c.args.number - c.lines_before-first.result) ≡ Some line = ap (λ n. slice_get (lines_in round) n) (sym c.saturating_sub.ensures) ∙ sym c.in-Some-line_in.ensures ∙ ap (λ (x : Line). Some x) (sym c.in_ok-line.ensures) in
    let its = its_by g.j known.order c.args.number c.args.step l.0 l.1 l.2 c.lines_before-first.result first round told line stands in
    let both = forward g.j known.order c.args.number c.args.step l.0 l.1 l.2 c.lines_before-first.result first round told line stands c.lines_before-end.result end c.count_of_events-from.result c.count_of_events-to.result c.count_of_events-from.ensures c.count_of_events-to.ensures in
    (c.requires.0, (known, (refl, (both, (its, (c.requires.1.1.0, c.requires.1.1.1.0))))))

pub returns : goal.returns
returns g c =
    let known = c.requires.1.0 in
    let l = c.requires.1.1.1.1 in
    let k = c.in-Some.ensures.lookup in
    let first = c.lines_before-first.ensures g.j.steps known.table in
    let end = c.lines_before-end.ensures g.j.steps known.table in
    let round = c.in-Some.round.now in
    let line = c.in_ok-line.line in
    let told : slice_get g.j.steps c.args.step ≡ Some round =
    ap (λ (ss : List Step). slice_get ss c.args.step) (sym (c.items.ensures ∙ c.requires.0.steps)) ∙ slice_get-get_or c.items.result.now c.args.step round k.3.0 ∙ ap (λ (x : Step). Some x) (sym k.1) in
    let stands : slice_get (lines_in round) (c.args.number - c.lines_before-first.result) ≡ Some line = ap (λ n. slice_get (lines_in round) n) (sym c.saturating_sub.ensures) ∙ sym c.in-Some-line_in.ensures ∙ ap (λ (x : Line). Some x) (sym c.in_ok-line.ensures) in
    let from = c.count_of_events-from.result in
    let to = c.count_of_events-to.result in
    if_ok
    (λ (b : Bool). (e : MultiEvent) → slice_get g.j.life.multis c.args.place ≡ Some e → IsTrue b ↔ ((es : List MultiEvent) × HasFirstMultis g.j (span from to) line es × (slice_get es (length (multis_of line.by (take c.args.place g.j.life.multis))) ≡ Some e)))
    (λ (b : Bool). (e : MultiEvent) → slice_get g.j.life.multis c.args.place ≡ Some e → (s : StandsAt g.j (multi_by e)) → IsTrue b ↔ IsToldMulti g.j c.args.place e s)
    c.is_told_of.result
    (λ b f. λ e at s.
    let n = number_is g.j known.order c.args.place c.args.number e c.requires.1.1.1.0 at in
    let i = told_same g.j known.order c.args.number c.args.step l.0 l.1 l.2 c.lines_before-first.result first round told line stands c.lines_before-end.result end from to c.count_of_events-from.ensures c.count_of_events-to.ensures c.args.place e s n in
    let h = f e at in
    (λ t. i.0 (h.0 t), λ y. h.1 (i.1 y)))
    c.is_told_of.ensures
