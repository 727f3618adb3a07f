use Rattle.std.proofs.Common.{◌*◌, ◌/◌, ◌%◌, ◌∙◌, ◌≡◌, ap}
use Rattle.store_pages.specs.Layouts.{word_page_of, word_place_of}
use Rattle.replay_multis.proofs.Writing.{number_redone, word_redone}
use Rattle.replay_multis.proofs.redo_offsets.put_offset.Goals as goal

pub returns : goal.returns
returns g c =
    let page : c.offset_page.result ≡ word_page_of c.args.multi = c.offset_page.ensures.page ∙ ap (λ n. n / 2048) c.low-m.ensures in
    let place : 4 * c.offset_place.result ≡ word_place_of c.args.multi = ap (λ n. 4 * n) (c.offset_place.ensures.place ∙ ap (λ n. n % 2048) c.low-m.ensures) in
    let puts = rw (page, place, c.low_offset.ensures) at c.put_number.ensures.ok in
    let calls = rw page at c.put_number.ensures.bank in
    word_redone c.args.multi c.args.offset c.args.bank.now c.put_number.new.bank c.put_number.result
    (number_redone (word_page_of c.args.multi) (word_place_of c.args.multi) c.args.offset c.args.bank.now c.put_number.new.bank c.put_number.result c.requires.kept puts c.put_number.ensures.err calls)
