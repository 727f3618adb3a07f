use Rattle.std.specs.Fmt.{decimal}
use Rattle.report_words.specs.Fits.{FitsId}
use Rattle.report_usual.proofs.ListWords.{none_read, number_is, one_read}
use Rattle.report_usual.proofs.lists.ids_behind.Goals as goal

pub loop-number-init : goal.loop-number-init
loop-number-init c = none_read decimal FitsId c.args.ids.now c.args.bytes.now c.requires

pub loop-number-preserved : goal.loop-number-preserved
loop-number-preserved c =
    let l = c.loop-number in
    let x = c.in-Some-id_of in
    one_read decimal FitsId l.ids c.push.new.self x.id c.args.bytes.now l.rest.now c.in-Some.behind.now l.invariant (number_is l.rest.now c.in-Some.behind.now c.in-Some.number x.id c.in-Some.ensures x.ensures.0) x.ensures.1 c.in_ok-push.ensures.ok
