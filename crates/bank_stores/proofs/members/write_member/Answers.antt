use Rattle.std.proofs.Common.{arith}
use Rattle.tx_events.specs.Pages.{member_page, member_place}
use Rattle.slru_bank.specs.Calls.{SamePages, calls_again, pages_of, second_is_ok, unrefused}
use Rattle.tx_events.specs.Modes.{mode_number}
use Rattle.bank_stores.proofs.MemberSlots.{SetsMode, sets_member_ok}
use Rattle.bank_stores.proofs.members.write_member.Goals as goal

pub returns-clause-ok : goal.returns-clause-ok
returns-clause-ok g c told =
    let m = pages_of c.args.bank.now in
    let m1 = pages_of c.set.new.self in
    let m2 = pages_of c.put_number.new.bank in
    let page = c.member_page-page.ensures.page in
    let pages = rw page at (c.in_ok-set.ensures.page told) in
    let puts = rw (page, c.mode_position.ensures.position, c.number.ensures.number) at (c.in_ok-set.ensures.ok told) in
    let first : SetsMode (member_page c.args.offset) (member_place c.args.offset) (mode_number c.args.mode) m m1 = record { pages = pages; puts = puts } in
    let second = rw (page, c.id_position.ensures.position) at (c.put_number.ensures.ok told) in
    let small = rw c.number.ensures.number at c.number.ensures.small in
    sets_member_ok c.put_number.result m m1 m2 (member_page c.args.offset) (member_place c.args.offset) (mode_number c.args.mode) c.args.x.number (omega arith) small first second

-- the page is at hand for the id
pub returns-clause-err : goal.returns-clause-err
returns-clause-err g c told =
    unrefused c.put_number.result (SamePages c.args.bank.now c.put_number.new.bank)
    (second_is_ok c.member_page-page.result c.args.bank.now c.set.new.self c.put_number.new.bank tt c.set.result c.put_number.result c.in_ok-set.was c.set.ensures.bank c.put_number.ensures.bank)

pub returns-clause-bank : goal.returns-clause-bank
returns-clause-bank g c =
    let both = calls_again c.member_page-page.result c.args.bank.now c.set.new.self c.put_number.new.bank tt c.set.result c.put_number.result c.in_ok-set.was c.set.ensures.bank c.put_number.ensures.bank in
    rw c.member_page-page.ensures.page at both
