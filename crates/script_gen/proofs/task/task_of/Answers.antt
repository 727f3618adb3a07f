use Rattle.std.proofs.Common.{map, sym, ◌∙◌}
use Rattle.std.specs.Prelude.{string_bytes}
use Rattle.std.proofs.lemmas.Bool.{false≢true}
use Rattle.script_gen.proofs.GenWords.{none_asked}
use Rattle.script_gen.proofs.task.task_of.Goals as goal

pub returns-in-None-clause-only : goal.returns-in-None-clause-only
returns-in-None-clause-only c =
    none_asked (map string_bytes c.args.words.now) (λ run. false≢true (sym c.if-is_run.false ∙ c.is_run.ensures.1 run)) c.in-None.ensures.only
