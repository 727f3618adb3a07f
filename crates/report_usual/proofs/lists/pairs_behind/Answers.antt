use Rattle.std.proofs.Common.{◌<◌, ◌^◌, arith}
use Rattle.tx_model.specs.declared.command.Pair.{Pair}
use Rattle.report_text.specs.MemberText.{pair_word}
use Rattle.report_words.specs.Fits.{FitsPair}
use Rattle.report_usual.proofs.ListWords.{none_read, one_read, pair_is}
use Rattle.report_usual.proofs.lists.pairs_behind.Goals as goal

pub loop-number-init : goal.loop-number-init
loop-number-init c = none_read pair_word FitsPair c.args.members.now c.args.bytes.now c.requires

pub loop-number-preserved : goal.loop-number-preserved
loop-number-preserved c =
    let l = c.loop-number in
    let below = c.if-number.false in
    let small : c.in-Some.number < 2 ^ 32 = omega arith in
    let p : Pair = record { x = record { number = c.in-Some.number }; mode = c.in-Some.mode } in
    one_read pair_word FitsPair l.members c.push.new.self p c.args.bytes.now l.rest.now c.in-Some.behind.now l.invariant (pair_is l.rest.now c.in-Some.behind.now c.in-Some.number c.in-Some.mode c.in-Some.ensures) small c.in_ok-push.ensures.ok
