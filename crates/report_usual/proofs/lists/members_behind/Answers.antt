use Rattle.tx_events.specs.declared.multi.Member.{Member}
use Rattle.report_text.specs.MemberText.{member_word}
use Rattle.report_words.specs.Fits.{FitsMember}
use Rattle.report_usual.proofs.ListWords.{mode_is, none_read, one_read}
use Rattle.report_usual.proofs.lists.members_behind.Goals as goal

pub loop-number-init : goal.loop-number-init
loop-number-init c = none_read member_word FitsMember c.args.members.now c.args.bytes.now c.requires

pub loop-number-preserved : goal.loop-number-preserved
loop-number-preserved c =
    let l = c.loop-number in
    let x = c.in-Some-id_of in
    let m : Member = record { id = x.id; mode = c.in-Some.mode } in
    one_read member_word FitsMember l.members c.push.new.self m c.args.bytes.now l.rest.now c.in-Some.behind.now l.invariant (mode_is l.rest.now c.in-Some.behind.now c.in-Some.number x.id c.in-Some.mode c.in-Some.ensures x.ensures.0) x.ensures.1 c.in_ok-push.ensures.ok
