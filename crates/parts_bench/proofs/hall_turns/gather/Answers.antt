use Rattle.std.proofs.Common.{ap, subst, sym, ◌∙◌, arith, length, ◌∷◌, [], length-append, vec_capacity}
use Rattle.std.specs.List.{All}
use Rattle.std.proofs.lemmas.List.Elements.{All-push}
use Rattle.hall.specs.Calls.{view, passes_of}
use Rattle.parts_bench.specs.declared.hall_turns.Member.{Member}
use Rattle.parts_bench.specs.Crew.{IsFree, AllNames, pass_of}
use Rattle.parts_bench.proofs.CrewLemmas.{names_given}
use Rattle.parts_bench.proofs.hall_turns.gather.Goals as goal
use Rattle.parts_bench.proofs.hall_turns.gather.Goals.{in-Some, in_default}

pub loop-number-preserved : goal.loop-number-preserved
loop-number-preserved c =
    let i = c.loop-number.invariant in
    let xs = c.loop-number.members.items in
    elim c.match-split.branch [
      | in-Some w ↦
          let e = w.in-Some.ensures.view in
          let x : Member = record { number = c.loop-number.number; pass = w.in-Some.pass } in
          let its = ap (λ v. v.items) w.members-is ∙ w.push_reserved.ensures.items in
          record {
            own = c.split.ensures.own.0;
            free = ap (λ v. v.stage) e.1 ∙ i.free;
            few = omega (arith, i.few, ap length its, length-append xs (x ∷ []));
            room = omega (arith, i.room, ap (λ v. vec_capacity v) w.members-is, w.push_reserved.ensures.capacity);
            names = subst (AllNames pass_of (passes_of c.args.hall.now) (view c.split.new.pass)) (sym its) (names_given pass_of (passes_of c.args.hall.now) c.loop-number.number (view c.loop-number.host) (view c.split.new.pass) xs x e.1 e.2 i.names);
            each = subst (All (IsFree c.args.hall.now)) (sym its) (All-push (IsFree c.args.hall.now) xs x i.each (record { own = e.0; free = ap (λ v. v.stage) e.2 }));
          }
      | in_default w ↦
          let its = ap (λ v. v.items) w.members-is in
          let e = w.in_default.ensures.view in
          record {
            own = c.split.ensures.own.0;
            free = ap (λ v. v.stage) e ∙ i.free;
            few = omega (arith, i.few, ap length its);
            room = omega (arith, i.room, ap (λ v. vec_capacity v) w.members-is);
            names = subst (λ ms. AllNames pass_of (passes_of c.args.hall.now) (view c.split.new.pass) ms) (sym its) (subst (λ v. AllNames pass_of (passes_of c.args.hall.now) v xs) (sym e) i.names);
            each = subst (All (IsFree c.args.hall.now)) (sym its) i.each;
          }
    ]
