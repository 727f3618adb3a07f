use Rattle.std.proofs.Common.{◌≡◌, ◌+◌, ◌++◌, ◌∷◌, [], Err, Ok, ℕ, suc, List, ap, append_assoc, arith, length, length-append, subst, sym, ◌∙◌}
use Rattle.std.specs.List.{slice_index}
use Rattle.store_pages.specs.Layouts.{number_in}
use Rattle.tx_events.specs.Pages.{id_at, member_page, member_place, mode_at}
use Rattle.slru_bank.specs.Calls.{CallsBank, pages_of}
use Rattle.bank_stores.specs.Runs.{slots_on}
use Rattle.bank_stores.specs.Slots.{slot_of}
use Rattle.bank_stores.specs.declared.slot.Slot.{Slot}
use Rattle.bank_stores.proofs.RunSlots.{calls_err, calls_ok, reads_more, run_page, slots_more}
use Rattle.bank_stores.proofs.runs.read_members.Goals as goal

pub returns-in-Err-clause-bank : goal.returns-in-Err-clause-bank
returns-in-Err-clause-bank g c =
    let was = c.loop-i.invariant in
    let r = run_page c.args.offset c.loop-i.i c.args.count c.loop-i-test.true c.requires.one_page in
    let calls = rw r.0 at c.in-Err.ensures.bank in
    calls_err (member_page c.args.offset) c.args.bank.now c.read_member.new.bank c.in-Err.refusal (reads_more (member_page c.args.offset) c.loop-i.i c.args.bank.now c.loop-i.bank c.read_member.new.bank (Err c.in-Err.refusal) was.untouched was.calls calls)

pub loop-i-preserved : goal.loop-i-preserved
loop-i-preserved g c =
    let was = c.loop-i.invariant in
    let r = run_page c.args.offset c.loop-i.i c.args.count c.loop-i-test.true c.requires.one_page in
    let calls = rw r.0 at c.in-Ok.ensures.bank in
    let grown = c.push_reserved.ensures.items in
    let next : c.loop-i.i + 1 ≡ suc c.loop-i.i = omega arith in
    let slot = c.in-Ok.slot in
    record {
      within = omega arith;
      long = let a : length (c.loop-i.into.items ++ slot ∷ []) ≡ length c.loop-i.into.items + 1 = length-append c.loop-i.into.items (slot ∷ []) in let b : length c.push_reserved.new.self.items ≡ length (c.loop-i.into.items ++ slot ∷ []) = ap length grown in let d = was.long in omega (arith, a, b, d);
      room = c.push_reserved.ensures.capacity ∙ was.room;
      slots = λ told.
          let bytes : List ℕ = pages_of c.args.bank.now (member_page c.args.offset) in
          let place : ℕ = member_place c.args.offset in
          let value : slot ≡ slot_of (slice_index bytes (mode_at (place + c.loop-i.i))) (number_in bytes (id_at (place + c.loop-i.i))) =
          c.in-Ok.ensures.is told
          ∙ ((λ j. slot_of (slice_index (pages_of c.loop-i.bank (r.0 j)) (mode_at (r.1 j))) (number_in (pages_of c.loop-i.bank (r.0 j)) (id_at (r.1 j))))
          ∙ ap (λ (b : List ℕ). slot_of (slice_index b (mode_at (place + c.loop-i.i))) (number_in b (id_at (place + c.loop-i.i)))) (was.same told (member_page c.args.offset))) in
          grown ∙ ((λ j. was.slots told j ++ value j ∷ [])
          ∙ (append_assoc c.args.into.now.items (slots_on bytes place c.loop-i.i) (slot_of (slice_index bytes (mode_at (place + c.loop-i.i))) (number_in bytes (id_at (place + c.loop-i.i))) ∷ [])
          ∙ ap (λ (l : List Slot). c.args.into.now.items ++ l) (sym (slots_more bytes place c.loop-i.i) ∙ ap (λ n. slots_on bytes place n) (sym next))));
      same = λ told q. c.in-Ok.ensures.same told q ∙ was.same told q;
      untouched = λ none. absurd (omega arith);
      none_yet = λ none. absurd (omega arith);
      calls = λ some. calls_ok (member_page c.args.offset) c.args.bank.now c.read_member.new.bank slot (tt {0}) (reads_more (member_page c.args.offset) c.loop-i.i c.args.bank.now c.loop-i.bank c.read_member.new.bank (Ok slot) was.untouched was.calls calls);
    }
