use Rattle.hall.specs.Calls.{view}
use Rattle.engine_parts.specs.Adding.{IsOfMulti, MayAdd}
use Rattle.multi_makes.proofs.Going.{visited_here, went_none}
use Rattle.multi_makes.proofs.finishing.log_pending.Goals as goal

pub returns-then-is_logged-clause-visited : goal.returns-then-is_logged-clause-visited
returns-then-is_logged-clause-visited g c = visited_here c.args.hall.now c.args.banks (MayAdd IsOfMulti ⊥ (λ r. ⊥)) c.args.caller.now c.requires.step

pub returns-clause-visited : goal.returns-clause-visited
returns-clause-visited g c =
    let old = c.args.caller.now in
    let w = c.log_multi.new.caller in
    let e = c.log_multi.ensures in
    record {
      step = record { own = e.own; laid = c.requires.step.laid; each = c.requires.step.each; may = e.may };
      went = went_none old.number (view old.pass).seen (view w.pass).seen e.went;
      adds = e.adds;
      number = e.number;
    }
