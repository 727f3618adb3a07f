use Rattle.std.proofs.Common.{◌==◌, List, ℕ, sym, ap, ◌∙◌, length}
use Rattle.report_usual.proofs.ListWords.{are_listed, is_dash}
use Rattle.report_usual.proofs.lists.list_behind.Goals as goal

pub returns-in-Some : goal.returns-in-Some
returns-in-Some c = is_dash c.args.ids.now c.args.bytes.now c.in-Some.rest.now c.requires c.in-Some.ensures

pub returns : goal.returns
returns c = are_listed c.ids_behind.new.ids c.args.bytes.now c.in_ok-rest.rest.now c.in_ok-rest.ensures (ap (λ (is : List ℕ). length is == 0) (sym c.items.ensures) ∙ sym c.is_empty.ensures ∙ c.if-is_empty.false)
