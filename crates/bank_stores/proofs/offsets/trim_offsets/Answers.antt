use Rattle.std.proofs.Common.{◌≡◌, ap, ◌/◌, ◌%◌, ◌∙◌}
use Rattle.tx_events.specs.Ids.{low_half}
use Rattle.tx_events.specs.PageOrder.{Multis}
use Rattle.tx_events.specs.Pages.{offset_page, offset_place}
use Rattle.slru_bank.specs.ByteRange.{trims_entries}
use Rattle.slru_bank.specs.Calls.{pages_of}
use Rattle.bank_stores.proofs.offsets.trim_offsets.Goals as goal

pub returns-clause-ok : goal.returns-clause-ok
returns-clause-ok g c told =
    let number : c.low-m.result.number ≡ low_half c.args.next = c.low-m.ensures in
    let page : c.offset_page.result ≡ offset_page (low_half c.args.next) = c.offset_page.ensures.page ∙ ap (λ n. n / 2048) number in
    let place : c.offset_place.result ≡ offset_place (low_half c.args.next) = c.offset_place.ensures.place ∙ ap (λ n. n % 2048) number in
    let clears = rw (page, place) at (c.clear_after.ensures.ok told) in
    trims_entries c.clear_after.result Multis (offset_page (low_half c.args.next)) (offset_place (low_half c.args.next)) (pages_of c.args.bank.now) (pages_of c.clear_after.new.self) clears
