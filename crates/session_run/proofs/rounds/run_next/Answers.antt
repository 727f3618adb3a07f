use Rattle.std.proofs.Common.{◌≡◌, true, ◌++◌, arith, length, sym, ap, subst, append-nil}
use Rattle.std.proofs.lemmas.List.Elements.{recursion_from_All}
use Rattle.tx_model.specs.Asked.{rounds_in}
use Rattle.run_law.specs.Turns.{is_command}
use Rattle.session_run.specs.Parts.{HasRun}
use Rattle.session_run.proofs.RoundSteps.{no_round, not_empty, some_round}
use Rattle.session_run.proofs.rounds.run_next.Goals as goal

pub returns-clause-rounds : goal.returns-clause-rounds
returns-clause-rounds g c =
    let some = not_empty c.args.round.now c.is_empty.result c.is_empty.ensures c.if-is_empty.false in
    let one = some_round c.args.round.now (recursion_from_All (λ item. is_command item ≡ true) c.args.round.now c.requires.commands) some in
    omega (arith, ap (λ t. length (rounds_in t)) one)

pub returns-clause-ran : goal.returns-clause-ran
returns-clause-ran g c =
    let some = not_empty c.args.round.now c.is_empty.result c.is_empty.ensures c.if-is_empty.false in
    let one = some_round c.args.round.now (recursion_from_All (λ item. is_command item ≡ true) c.args.round.now c.requires.commands) some in
    λ all front count r.
    subst (λ added. HasRun g.K.LineKeeper c.args.hall.now c.run_numbered.new.host c.run_numbered.new.sessions c.args.names.now (all ++ added) front c.run_numbered.new.kept) (sym one)
    (c.in_ok-run_numbered.ensures.ran all front count r)

pub returns-then-is_empty-clause-rounds : goal.returns-then-is_empty-clause-rounds
returns-then-is_empty-clause-rounds g c =
    let none = ap length (c.is_empty.ensures.0 c.if-is_empty.true) in
    omega (arith, ap (λ t. length (rounds_in t)) (no_round c.args.round.now none))

pub returns-then-is_empty-clause-ran : goal.returns-then-is_empty-clause-ran
returns-then-is_empty-clause-ran g c =
    let none = ap length (c.is_empty.ensures.0 c.if-is_empty.true) in
    λ all front count r.
    subst (λ added. HasRun g.K.LineKeeper c.args.hall.now c.args.host.now c.args.sessions.now c.args.names.now (all ++ added) front c.args.kept.now) (sym (no_round c.args.round.now none))
    (subst (λ done. HasRun g.K.LineKeeper c.args.hall.now c.args.host.now c.args.sessions.now c.args.names.now done front c.args.kept.now) (sym (append-nil all)) r)

-- its commands are of a session
