use Rattle.std.proofs.Common.{◌/◌, ◌%◌, ◌∙◌, ◌∷◌, ◌≡◌, ◌≤◌, [], ap, arith, sym}
use Rattle.store_pages.specs.Layouts.{member_page_of}
use Rattle.replay_multis.specs.Named.{IsRunByte, IsSlotByte}
use Rattle.replay_multis.proofs.Naming.{its_slot, slot_of}
use Rattle.replay_multis.proofs.Stepping.{same_named}
use Rattle.replay_multis.proofs.redo_members.redo_member.Goals as goal

pub returns : goal.returns
returns g c =
    let from : c.args.low ≤ c.args.offset = omega arith in
    let page : c.member_page.result ≡ member_page_of c.args.offset = c.member_page.ensures.page ∙ ap (λ n. n / 1636) c.low_offset.ensures in
    let on : member_page_of c.args.offset % c.args.share.now.banks ≡ c.args.share.now.bank = ap (λ n. n % c.args.share.now.banks) (sym page) ∙ c.has_page.ensures.0 (grind (arith, c.if-not-has_page.false)) in
    same_named (IsSlotByte c.args.offset c.args.member.now) (IsRunByte c.args.share.now c.args.low c.args.offset (c.args.member.now ∷ [])) c.args.bank.now c.put_member.new.bank c.put_member.result
    (its_slot c.args.share.now c.args.low c.args.offset c.args.member.now from on)
    (λ q i b h. (slot_of c.args.share.now c.args.low c.args.offset c.args.member.now q i b h).2) c.put_member.ensures
