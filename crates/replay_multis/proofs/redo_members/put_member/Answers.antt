use Rattle.std.proofs.Common.{◌/◌, ◌%◌, ◌∙◌, ◌<◌, ◌≡◌, ap, rules}
use Rattle.store_pages.specs.Layouts.{member_page_of, member_place_of, mode_place_of}
use Rattle.tx_events.specs.Modes.{mode_number}
use Rattle.tx_events.specs.Pages.{id_at, mode_at}
use Rattle.replay_multis.specs.Named.{IsSlotByte}
use Rattle.replay_multis.proofs.Stepping.{both_redone, failed_wider}
use Rattle.replay_multis.proofs.Writing.{IsByteAt, IsNumberByte, byte_redone, id_slot, mode_slot, number_redone, slot_parts, still_kept}
use Rattle.replay_multis.proofs.redo_members.put_member.Goals as goal

pub returns-in_err-put : goal.returns-in_err-put
returns-in_err-put g c =
    let o = c.args.offset in let m = c.args.member.now in
    let page : c.member_page-page.result ≡ member_page_of c.args.offset = c.member_page-page.ensures.page ∙ ap (λ n. n / 1636) c.low_offset-low.ensures in
    let place : c.mode_position.result ≡ mode_place_of c.args.offset = c.mode_position.ensures.position ∙ ap (λ n. mode_at (n % 1636)) c.low_offset-low.ensures in
    let inside : mode_place_of c.args.offset < 8192 = rw place at c.mode_position.ensures.within in
    let puts = rw (page, place, c.number.ensures.number) at c.put.ensures.ok in
    let pages = rw page at c.put.ensures.page in
    let calls = rw page at c.put.ensures.bank in
    let first = byte_redone (member_page_of o) (mode_place_of o) (mode_number m.mode) c.args.bank.now c.put.new.self c.put.result inside c.requires.kept puts pages c.put.ensures.err calls in
    let all = failed_wider (IsByteAt (member_page_of o) (mode_place_of o) (mode_number m.mode)) (IsSlotByte o m) c.args.bank.now c.put.new.self _ (mode_slot o m) (rw c.in_err-put.was at first) in
    search (rules, all)

pub returns : goal.returns
returns g c =
    let o = c.args.offset in let m = c.args.member.now in
    let page : c.member_page-page.result ≡ member_page_of c.args.offset = c.member_page-page.ensures.page ∙ ap (λ n. n / 1636) c.low_offset-low.ensures in
    let place : c.mode_position.result ≡ mode_place_of c.args.offset = c.mode_position.ensures.position ∙ ap (λ n. mode_at (n % 1636)) c.low_offset-low.ensures in
    let ids : c.id_position.result ≡ member_place_of c.args.offset = c.id_position.ensures.position ∙ ap (λ n. id_at (n % 1636)) c.low_offset-low.ensures in
    let inside : mode_place_of c.args.offset < 8192 = rw place at c.mode_position.ensures.within in
    let puts = rw (page, place, c.number.ensures.number) at c.put.ensures.ok in
    let pages = rw page at c.put.ensures.page in
    let calls = rw page at c.put.ensures.bank in
    let first = byte_redone (member_page_of o) (mode_place_of o) (mode_number m.mode) c.args.bank.now c.put.new.self c.put.result inside c.requires.kept puts pages c.put.ensures.err calls in
    let numbers = rw (page, ids, c.low.ensures) at c.put_number.ensures.ok in
    let calls2 = rw page at c.put_number.ensures.bank in
    let second = number_redone (member_page_of o) (member_place_of o) m.id c.put.new.self c.put_number.new.bank c.put_number.result (still_kept (member_page_of o) c.args.bank.now c.put.new.self calls.calls.cutoff c.requires.kept) numbers c.put_number.ensures.err calls2 in
    both_redone (IsByteAt (member_page_of o) (mode_place_of o) (mode_number m.mode)) (IsNumberByte (member_page_of o) (member_place_of o) m.id) (IsSlotByte o m) c.args.bank.now c.put.new.self c.put_number.new.bank
    (mode_slot o m) (id_slot o m) (rw c.in_ok-put.was at first) c.put_number.result (slot_parts o m) second
