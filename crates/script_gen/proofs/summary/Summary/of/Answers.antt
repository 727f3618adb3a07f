use Rattle.std.proofs.Common.{sym}
use Rattle.script_gen.proofs.summary.Summary.of.Goals as goal

pub returns : goal.returns
returns c =
    let e = c.counts_of-counts.ensures in
    λ j. let n = e j in record { commands = c.args.commands; ids = n.ids; undone = n.undone; commits = n.commits; aborts = n.aborts; snaps = n.snaps; sees = c.args.sees }
