use Rattle.std.proofs.Common.{ap, subst, sym, ◌∙◌, arith}
use Rattle.std.specs.List.{All}
use Rattle.hall.specs.Calls.{view, passes_of}
use Rattle.std.proofs.lemmas.List.Elements.{All-drop}
use Rattle.parts_bench.specs.Crew.{IsFree, pass_of}
use Rattle.parts_bench.proofs.CrewLemmas.{names_removed}
use Rattle.parts_bench.proofs.hall_turns.dismiss.Goals as goal

pub loop-members-preserved : goal.loop-members-preserved
loop-members-preserved c =
    let i = c.loop-members.invariant in
    let xs = c.loop-members.members.items in
    let rest = c.remove-pass.ensures.by_index.2 in
    let e = c.join.ensures in
    record {
      own = e.own.0;
      free = ap (λ v. v.stage) e.view.view_is ∙ i.free;
      names = names_removed pass_of (passes_of c.args.hall.now) (view c.loop-members.host) (view c.join.new.pass) c.remove-pass.result xs c.remove-pass.new.self.items (let l = c.remove-pass.ensures.len in omega arith) c.remove-pass.ensures.value rest (ap (λ v. v.holds) e.view.view_is) i.names;
      each = subst (All (IsFree c.args.hall.now)) (sym rest) (All-drop (IsFree c.args.hall.now) 1 xs i.each);
    }
