use Rattle.proc_table.proofs.LiveLemmas.{same_names}
use Rattle.proc_table.proofs.named.are_same.Goals as goal

pub returns : goal.returns
returns c = rw (c.eq.ensures, c.items.ensures, c.items-2.ensures) (same_names c.args.a.now c.args.b.now)
