use Rattle.std.proofs.Common.{ap, subst, sym, ◌∙◌, rules, replicate, true}
use Rattle.std.specs.List.{All}
use Rattle.hall.specs.Calls.{view, passes_of}
use Rattle.parts_bench.specs.Crew.{IsFree, AllNames, SameNames, pass_of}
use Rattle.parts_bench.proofs.CrewLemmas.{names_same, written_back, names_first}
use Rattle.parts_bench.proofs.hall_turns.by_passes.Goals as goal

pub gather-requires-clause-names : goal.gather-requires-clause-names
gather-requires-clause-names g c =
    let e = c.in_ok-hall.ensures.own in
    names_first pass_of _ (view c.in_ok-hall.host) c.in_ok-members.members.items (ap (λ v. v.holds) e.1 ∙ ap (λ n. replicate n true) (sym e.2))

pub dismiss-requires-clause-each : goal.dismiss-requires-clause-each
dismiss-requires-clause-each g c =
    subst (All (IsFree c.in_ok-hall.hall)) (sym (written_back c.gather.new.members.len c.gather.new.members.items c.run_members.new.members (search rules) (search rules))) c.run_members.ensures.each

pub dismiss-requires-clause-names : goal.dismiss-requires-clause-names
dismiss-requires-clause-names g c =
    subst (AllNames pass_of (passes_of c.in_ok-hall.hall) (view c.gather.new.host)) (sym (written_back c.gather.new.members.len c.gather.new.members.items c.run_members.new.members (search rules) (search rules)))
    (names_same pass_of (passes_of c.in_ok-hall.hall) (view c.gather.new.host) c.gather.new.members.items c.run_members.new.members (search rules) (subst (λ xs. SameNames pass_of xs c.run_members.new.members) c.as_mut_slice.ensures.value c.run_members.ensures.names) c.gather.ensures.names)
