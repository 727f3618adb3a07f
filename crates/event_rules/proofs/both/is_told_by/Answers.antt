use Rattle.std.proofs.Common.{◌≡◌, ◌<◌, ◌≤◌, length, nat_lt, true, false, Some, refl, arith}
use Rattle.std.specs.List.{slice_get}
use Rattle.std.proofs.lemmas.Bool.Decides.{nat_tests}
use Rattle.std.proofs.lemmas.Option.{slice_get_read}
use Rattle.event_rules.proofs.Telling.{told_here, told_past}
use Rattle.event_rules.proofs.both.is_told_by.Goals as goal

pub returns-in-Some : goal.returns-in-Some
returns-in-Some g c =
    let xs = c.args.list.now in
    let n = c.args.rank in
    let test : true ≡ nat_lt n (length xs) = c.in-Some.ensures.lookup.0 in
    let within : n < length xs = grind (arith, nat_tests) in
    let there : slice_get xs n ≡ Some c.in-Some.e.now = slice_get_read xs (length xs) n c.in-Some.e.now refl within c.in-Some.ensures.lookup.1 in
    told_here xs n c.in-Some.e.now c.args.event.now c.is_same.result there c.is_same.ensures

pub returns-in-None : goal.returns-in-None
returns-in-None g c =
    let xs = c.args.list.now in
    let n = c.args.rank in
    let test : false ≡ nat_lt n (length xs) = c.in-None.ensures.lookup.0 in
    let past : length xs ≤ n = grind (arith, nat_tests) in
    told_past xs n c.args.event.now past
