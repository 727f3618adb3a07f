use Rattle.script_rounds.proofs.keeper.keeper_laws.Goals as goal

pub returns : goal.returns
returns g c =
    let kind = g.met.K.LineKeeper in
    let names = c.args._names.now in
    record { none = kind.no_lines names; then = kind.then_lines names; join = kind.join_lines names }
