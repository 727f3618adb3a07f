use Rattle.std.proofs.Common.{Some, ap, length, sym, ◌∙◌}
use Rattle.std.proofs.lemmas.List.Elements.{recursion_from_All}
use Rattle.session_lang.specs.declared.script.Item.TheVariants as items
use Rattle.session_lang.specs.Rounds.{asked_by}
use Rattle.run_law.specs.Turns.{MayRun}
use Rattle.session_run.proofs.RoundsRun.{asked_may, dump_asked}
use Rattle.session_run.proofs.rounds.answer_next.Goals as goal

pub show_dump-requires-clause-may : goal.show_dump-requires-clause-may
show_dump-requires-clause-may g c =
    let all = c.args.script.now in
    let n = length c.args.sessions.now in
    dump_asked n _ c.in-Some-Dump.dump.what c.in-Some-Dump.dump.at c.in-Some-Dump.dump.length (asked_may (MayRun n) all c.args.place items.Round tt (recursion_from_All (MayRun n) all c.requires.items)) (ap (λ b. asked_by (Some b)) (sym c.in-Some-Dump.field-0-is) ∙ (ap asked_by (sym c.in-Some-Dump.is) ∙ c.between_at.ensures))
