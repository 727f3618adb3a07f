use Rattle.std.proofs.Common.{◌≡◌, ap, ◌/◌, ◌%◌, ◌∙◌}
use Rattle.tx_events.specs.Ids.{low_half}
use Rattle.tx_events.specs.Pages.{id_at, member_page, member_place}
use Rattle.slru_bank.specs.Calls.{pages_of}
use Rattle.bank_stores.proofs.MemberSlots.{trims_members}
use Rattle.bank_stores.proofs.members.trim_members.Goals as goal

pub returns-clause-ok : goal.returns-clause-ok
returns-clause-ok g c told =
    let page : c.member_page.result ≡ member_page (low_half c.args.next) = c.member_page.ensures.page ∙ ap (λ n. n / 1636) c.low_offset-offset.ensures in
    let position : c.id_position.result ≡ id_at (member_place (low_half c.args.next)) = c.id_position.ensures.position ∙ ap (λ n. id_at (n % 1636)) c.low_offset-offset.ensures in
    let clears = rw (page, position) at (c.clear_after.ensures.ok told) in
    trims_members c.clear_after.result (member_page (low_half c.args.next)) (member_place (low_half c.args.next)) (pages_of c.args.bank.now) (pages_of c.clear_after.new.self) clears
