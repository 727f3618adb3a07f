use Rattle.std.proofs.Common.{◌∙◌, ap}
use Rattle.script_lines.specs.Header.{is_base}
use Rattle.script_lines.proofs.Bases.{base_test}
use Rattle.script_lines.proofs.header.Header.has_base.Goals as goal

pub returns : goal.returns
returns c = base_test _ _ c.is_base.ensures ∙ ap is_base c.base.ensures
