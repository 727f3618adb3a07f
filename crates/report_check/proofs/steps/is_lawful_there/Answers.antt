use Rattle.std.proofs.Common.{sym, subst, List}
use Rattle.standing_rules.specs.Sessions.{AreBehind}
use Rattle.standing_rules.specs.declared.sessions.Session.{Session}
use Rattle.checkpoint_rules.specs.Midst.{lived_behind}
use Rattle.checkpoint_rules.specs.Noting.{walked_of}
use Rattle.report_check.specs.Stepping.{noting_at, steps_before}
use Rattle.report_check.proofs.StepByStep.{few_before, fronts_are, point_is, reached_is}
use Rattle.report_check.proofs.steps.is_lawful_there.Goals as goal

pub is_lawful_checkpoint-requires : goal.is_lawful_checkpoint-requires
is_lawful_checkpoint-requires g c =
    let r = c.requires in
    let known = r.0 in
    let multis = r.1.0 in
    let tables = r.1.1.0 in
    let told = r.1.1.1.0 in
    let here = r.1.1.1.1.0 in
    let p = r.1.1.1.1.1.0 in
    let behind : AreBehind (lived_behind (walked_of (noting_at g.of))) 64 c.as_slice-2.result.now =
    subst (λ (t : List Session). AreBehind (lived_behind (walked_of (noting_at g.of))) 64 t) (sym c.as_slice-2.ensures.value) p.sessions in (
      fronts_are g.of.j (steps_before g.of) c.args.known.now g.of.multis c.as_slice.result.now c.args.tables.now.column.items known multis c.as_slice.ensures.value (tables.column r.1.1.1.1.1.1.1),
      (
        r.1.1.1.1.1.1.0,
        (
          point_is g.of.j (steps_before g.of) c.args.known.now g.of.multis c.args.here here,
          (
            here.judged,
            (
              reached_is g.of.j (steps_before g.of) c.args.known.now g.of.multis c.args.here here multis,
              (
                behind,
                (few_before g.of.j g.of.round g.of.step told known.few, known.log_end),
              ),
            ),
          ),
        ),
      ),
    )
