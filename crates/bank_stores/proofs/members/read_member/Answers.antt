use Rattle.std.proofs.Common.{◌≡◌, ℕ, ◌+◌, ◌-◌, ◌≤◌, List, slice_index, ap, arith, refl, ◌∙◌}
use Rattle.store_pages.specs.Layouts.{number_in}
use Rattle.tx_events.specs.Pages.{id_at, member_page, member_place, mode_at}
use Rattle.slru_bank.specs.Calls.{pages_of}
use Rattle.bank_stores.proofs.MemberSlots.{mode_read, number_read}
use Rattle.bank_stores.proofs.members.read_member.Goals as goal

pub returns-clause-is : goal.returns-clause-is
returns-clause-is g c told =
    let xs : List ℕ = pages_of c.args.bank.now (member_page c.args.offset) in
    let place = member_place c.args.offset in
    let from = c.mode_position-at.ensures.position in
    let to = c.id_position.ensures.position in
    let bytes = rw (c.member_page.ensures.page, from) at (c.in_ok-read.ensures.bytes told) in
    let byte : slice_index c.read.new.into 0 ≡ slice_index xs (mode_at place) =
    ap (λ (l : List ℕ). slice_index l 0) bytes ∙ mode_read xs (mode_at place) 17 (omega arith) in
    let within : c.id_position.result - c.mode_position-at.result + 4 ≤ 17 = omega (arith, from, to) in
    let there : mode_at place + (c.id_position.result - c.mode_position-at.result) ≡ id_at place = omega (arith, from, to) in
    let number : c.number_at-number.result ≡ number_in xs (id_at place) =
    c.number_at-number.ensures ∙ ap (λ (l : List ℕ). number_in l (c.id_position.result - c.mode_position-at.result)) bytes
    ∙ number_read xs (mode_at place) 17 (c.id_position.result - c.mode_position-at.result) (id_at place) within there in
    c.slot_of_numbers.ensures ∙ rw (byte, number) refl
