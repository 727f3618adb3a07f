use Rattle.std.proofs.Common.{rules, ◌==◌, not}
use Rattle.std.proofs.lemmas.Fn.{filter_same}
use Rattle.proc_table.specs.declared.entry.Entry.{Entry}
use Rattle.proc_table.proofs.entries.drop_top.Goals as goal

pub returns : goal.returns
returns c = filter_same _ (λ (e : Entry). not (c.args.top == e.top)) _ (λ x b f' k. search rules) _ _ c.retain.ensures.filtered
