use Rattle.std.proofs.Common.{◌≡◌, ap, sym, ◌/◌, ◌%◌, ◌∙◌}
use Rattle.tx_events.specs.Ids.{low_half}
use Rattle.store_pages.specs.Layouts.{xact_page_of, xact_place_of}
use Rattle.slru_bank.specs.Calls.{pages_of}
use Rattle.slru_bank.proofs.TrimLemmas.{trims_aligned}
use Rattle.slru_bank.proofs.trim.trim_after.Goals as goal

pub returns-then-place-eq0-clause-ok : goal.returns-then-place-eq0-clause-ok
returns-then-place-eq0-clause-ok g c told =
    let number : c.low-x.result.number ≡ low_half c.args.next = c.low-x.ensures in
    let page : c.xact_page-page.result ≡ xact_page_of c.args.next = c.xact_page-page.ensures.page ∙ ap (λ n. n / 32768) number in
    let place : c.xact_place-place.result ≡ xact_place_of c.args.next = c.xact_place-place.ensures.place ∙ ap (λ n. n % 32768) number in
    let aligned : xact_place_of c.args.next % 4 ≡ 0 = ap (λ n. n % 4) (sym place) ∙ c.if-place-eq0.true in
    trims_aligned c.clear_after.result (xact_page_of c.args.next) (xact_place_of c.args.next) (pages_of c.args.bank.now) (pages_of c.clear_after.new.self) aligned (rw (page, place) at (c.clear_after.ensures.ok told))
