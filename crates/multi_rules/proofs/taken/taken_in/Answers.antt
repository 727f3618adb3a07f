use Rattle.std.proofs.Common.{◌≡◌, ◌<◌, ◌≤◌, length, nat_lt, true, false, arith, ◌∙◌}
use Rattle.std.proofs.lemmas.Bool.Decides.{nat_tests}
use Rattle.multi_rules.proofs.Listing.{in_lists, past_lists}
use Rattle.multi_rules.proofs.taken.taken_in.Goals as goal

pub returns-in-Some : goal.returns-in-Some
returns-in-Some c =
    let lists = c.args.lists.now in
    let test : true ≡ nat_lt c.args.line (length lists) = c.in-Some.ensures.lookup.0 in
    let within : c.args.line < length lists = grind (arith, nat_tests) in
    c.as_slice.ensures.value ∙ in_lists lists c.args.line c.in-Some.list.now within c.in-Some.ensures.lookup.1

pub returns-in-None : goal.returns-in-None
returns-in-None c =
    let lists = c.args.lists.now in
    let test : false ≡ nat_lt c.args.line (length lists) = c.in-None.ensures.lookup.0 in
    let past : length lists ≤ c.args.line = grind (arith, nat_tests) in
    past_lists lists c.args.line past
