use Rattle.std.proofs.Common.{ap, ◌∙◌, ◌+◌, arith}
use Rattle.hall_counts.proofs.Counting.{tells}
use Rattle.notes.specs.Lists.{at}
use Rattle.hall.specs.Calls.{view}
use Rattle.hall_counts.specs.declared.Entry.{Entry}
use Rattle.hall_counts.specs.Keeping.{last_more}
use Rattle.hall_counts.proofs.tell.Goals as goal

pub post-requires-clause-number : goal.post-requires-clause-number
post-requires-clause-number c = last_more 0 (at (view c.args.pass.now).seen (c.args.hall.now.cells + 1)) c.by-entry.result.value ∙ ap (λ (z : Entry). z.amount) c.by-entry.ensures

pub returns-clause-said : goal.returns-clause-said
returns-clause-said c =
    let cells = c.requires.sizes.0 in let posts = c.requires.sizes.1 in let wide = c.requires.own.wide in
    tells (view c.args.pass.now) (view c.post.new.pass) _ _ c.by-entry.result.value (omega arith) (omega arith) c.post.ensures.view (ap (λ (z : Entry). z.amount) c.by-entry.ensures)
