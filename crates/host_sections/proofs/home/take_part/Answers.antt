use Rattle.std.proofs.Common.{List, subst}
use Rattle.hall.specs.Calls.{start_of, view}
use Rattle.notes.specs.Lists.{at}
use Rattle.tx_core.specs.declared.entry.Entry.{Entry}
use Rattle.engine_parts.specs.Parts.{PartStands}
use Rattle.engine_parts.proofs.Holding.{stood}
use Rattle.host_sections.proofs.Aloneness.{went_in}
use Rattle.host_sections.proofs.home.take_part.Goals as goal

pub returns-clause-inside : goal.returns-clause-inside
returns-clause-inside g c =
    let e = c.enter.ensures in
    let v = e.view in
    went_in c.args.hall.now c.args.lock c.args.pass.now c.enter.new.pass c.enter.result v.0 c.requires.alone e.own.0 e.cell v.1 v.2

pub returns-clause-stands : goal.returns-clause-stands
returns-clause-stands g c =
    let e = c.enter.ensures in
    let v = e.view in
    let i = went_in c.args.hall.now c.args.lock c.args.pass.now c.enter.new.pass c.enter.result v.0 c.requires.alone e.own.0 e.cell v.1 v.2 in
    subst (λ (z : List (List Entry)). PartStands (start_of c.args.hall.now) c.args.lock c.enter.result (at z c.args.lock)) i.seen
    (stood PartStands (start_of c.args.hall.now) c.args.lock (view c.args.pass.now) v.0 (view c.enter.new.pass) c.enter.result c.requires.alone.own.named v.1 v.2)
