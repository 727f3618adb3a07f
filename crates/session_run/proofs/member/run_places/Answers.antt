use Rattle.std.proofs.Common.{refl, ap, ◌∙◌}
use Rattle.script_rounds.specs.Plans.{turns_at}
use Rattle.script_rounds.proofs.PlanLemmas.{all_at}
use Rattle.session_lang.specs.declared.script.Item.TheVariants as items
use Rattle.hall.specs.Calls.{start_of}
use Rattle.run_law.specs.Turns as runnable
use Rattle.session_run.specs.Turns.{member_of}
use Rattle.session_run.proofs.TurnLemmas.{all_taken, at_first, at_on, at_same, in_none, in_some, number_next, on_err, ran_next}
use Rattle.session_run.proofs.member.run_places.Goals as goal

pub loop-place-init : goal.loop-place-init
loop-place-init g c =
    let kind = g.met.K.LineKeeper in
    let names = c.args.names.now in (
      0,
      at_first g.K.LineKeeper c.args.hall.now c.args.banks names c.args.round.now c.args.places (member_of c.args.caller.now c.args.kept.now c.args.lines.now) _
          (record { none = kind.no_lines names; then = kind.then_lines names; join = kind.join_lines names }) c.requires.begins,
      refl,
    )

pub run_turn-requires-clause-ask : goal.run_turn-requires-clause-ask
run_turn-requires-clause-ask g c =
    let stands = in_some _ _ _ c.in-Some-2.is c.in_ok-command.ensures.some in
    (all_at (runnable.MayRun (start_of c.args.hall.now).sessions) c.args.round.now c.in-Some.place (items.Run c.loop-place.caller.number c.in-Some-2.command) c.requires.items stands).0

pub returns-in_err-run_turn : goal.returns-in_err-run_turn
returns-in_err-run_turn g c =
    let i = c.loop-place.invariant in
    let h = c.args.hall.now in
    let o = (member_of c.args.caller.now c.args.kept.now c.args.lines.now) in
    let e = c.from_residual-in_err-run_turn.ensures.0 in
    let names = c.args.names.now in
    let n = (member_of c.run_turn.new.caller c.run_turn.new.kept c.run_turn.new.lines) in
    let r = c.run_turn.ensures in
    record {
      ran = ran_next g.K.LineKeeper h c.args.banks names c.args.round.now c.args.places o i.0 _ _ (member_of c.loop-place.caller c.loop-place.kept c.loop-place.lines) n i.1 r;
      may = r.may;
      number = number_next g.K.LineKeeper h c.args.banks names c.args.round.now c.args.places o i.0 _ _ (member_of c.loop-place.caller c.loop-place.kept c.loop-place.lines) n i.1 r;
      all = on_err _ c.from_residual-in_err-run_turn.result e;
      kept_is = on_err _ c.from_residual-in_err-run_turn.result e;
    }

pub loop-place-preserved-in_ok-run_turn : goal.loop-place-preserved-in_ok-run_turn
loop-place-preserved-in_ok-run_turn g c =
    let kind = g.met.K.LineKeeper in
    let names = c.args.names.now in
    at_on g.K.LineKeeper c.args.hall.now c.args.banks names c.args.round.now c.args.places (member_of c.args.caller.now c.args.kept.now c.args.lines.now)
    c.in-Some-2.command _ c.in-Some.place c.loop-place.left c.next.new.self (member_of c.loop-place.caller c.loop-place.kept c.loop-place.lines) (member_of c.run_turn.new.caller c.run_turn.new.kept c.run_turn.new.lines)
    (record { none = kind.no_lines names; then = kind.then_lines names; join = kind.join_lines names })
    c.in-Some.ensures.some (in_some _ _ _ c.in-Some-2.is c.in_ok-command.ensures.some) c.loop-place.invariant c.in_ok-run_turn.ensures

pub loop-place-preserved-in_ok-run_turn-2 : goal.loop-place-preserved-in_ok-run_turn-2
loop-place-preserved-in_ok-run_turn-2 g c =
    let kind = g.met.K.LineKeeper in
    let names = c.args.names.now in
    at_on g.K.LineKeeper c.args.hall.now c.args.banks names c.args.round.now c.args.places (member_of c.args.caller.now c.args.kept.now c.args.lines.now)
    c.in-Some-2.command _ c.in-Some.place c.loop-place.left c.next.new.self (member_of c.loop-place.caller c.loop-place.kept c.loop-place.lines) (member_of c.run_turn.new.caller c.run_turn.new.kept c.run_turn.new.lines)
    (record { none = kind.no_lines names; then = kind.then_lines names; join = kind.join_lines names })
    c.in-Some.ensures.some (in_some _ _ _ c.in-Some-2.is c.in_ok-command.ensures.some) c.loop-place.invariant c.in_ok-run_turn.ensures

pub loop-place-preserved : goal.loop-place-preserved
loop-place-preserved g c =
    at_same g.K.LineKeeper c.args.hall.now c.args.banks c.args.names.now c.args.round.now c.args.places (member_of c.args.caller.now c.args.kept.now c.args.lines.now)
    c.in-Some.place c.loop-place.left c.next.new.self (member_of c.loop-place.caller c.loop-place.kept c.loop-place.lines)
    c.in-Some.ensures.some (in_none _ c.in_default-2.is c.in_ok-command.ensures.none) c.loop-place.invariant

pub returns : goal.returns
returns g c =
    let i = c.loop-place.invariant in
    record {
      ran = i.1.ran;
      may = i.1.may;
      number = i.1.number;
      all = λ _. i.1.all ∙ ap (turns_at c.args.caller.now.number c.args.round.now) (all_taken c.args.places i.0 (i.2 ∙ c.in_default.ensures.none)) ∙ c.requires.places.commands;
      kept_is = λ _. i.1.kept_is;
    }
