use Rattle.tx_model.specs.declared.reply.MemberVerdict.{MemberVerdict}
use Rattle.report_text.specs.MemberText.{member_verdict_word}
use Rattle.report_words.specs.Fits.{FitsVerdict}
use Rattle.report_usual.proofs.ListWords.{none_read, one_read, verdict_is}
use Rattle.report_usual.proofs.lists.verdicts_behind.Goals as goal

pub loop-number-init : goal.loop-number-init
loop-number-init c = none_read member_verdict_word FitsVerdict c.args.verdicts.now c.args.bytes.now c.requires

pub loop-number-preserved : goal.loop-number-preserved
loop-number-preserved c =
    let l = c.loop-number in
    let s = c.in-Some-spelled_verdict in
    let x = c.in-Some-id_of in
    let v : MemberVerdict = record { id = x.id; mode = c.in-Some.mode; verdict = s.verdict } in
    one_read member_verdict_word FitsVerdict l.verdicts c.push.new.self v c.args.bytes.now l.rest.now s.behind.now l.invariant (verdict_is l.rest.now c.in-Some.colon.now s.behind.now c.in-Some.number v c.in-Some.ensures x.ensures.0 s.ensures) x.ensures.1 c.in_ok-push.ensures.ok
